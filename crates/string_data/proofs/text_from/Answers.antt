-- `string_data::text_from` meets its contract: each answer of the search for a zero is one way out of the definition.
-- Assumes nothing.
use Rattle.string_data.proofs.Laws.{text_ends, text_open}
use mathlib.Core.Path.{◌≡◌}
use Rattle.refusal.specs.declared.Refusal.TheVariants.{StringOutside}
use native.Mathlib.Omega.{arith}
use Rattle.std.proofs.lemmas.Result.{err_from_is_err_and}
use Rattle.string_data.proofs.text_from.Goals as goal

pub returns : goal.returns
returns c = text_ends _ _ _ (grind arith)

pub returns-in_err-len : goal.returns-in_err-len
returns-in_err-len c = let p = err_from_is_err_and c.from_residual.result c.from_residual.ensures.1 in
    let e : c.in_err-len.field-0.0 ≡ StringOutside = grind arith in
    rw (p.1, p.2, e) (text_open _ _ (grind arith))
