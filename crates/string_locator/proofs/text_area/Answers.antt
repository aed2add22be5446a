-- `string_locator::text_area` meets its contract: each answer of the two searches is one way out of the definition.
-- Assumes nothing.
use Rattle.std.specs.Prelude.{Some}
use Rattle.std.proofs.lemmas.Result.{err_from_is_err_and}
use Rattle.string_locator.proofs.Laws.{no_length, no_zero, area_found}
use Rattle.string_data.specs.Text.{first_zero}
use Rattle.string_data.proofs.Laws.{zero_in}
use Rattle.string_locator.specs.LengthBytes.{length_bytes}
use Rattle.string_locator.proofs.LengthBytes.{length_in}
use Rattle.refusal.specs.declared.Refusal.TheVariants.{StringOutside}
use Prim.Native.Nat.{◌+◌}
use mathlib.Core.Path.{◌≡◌}
use native.Mathlib.Omega.{arith}
use Rattle.string_locator.proofs.text_area.Goals.{In_ok-len, In_ok-before}
use Rattle.string_locator.proofs.text_area.Goals as goal

-- what each search found
length_found : (c : In_ok-len) → Some c.in_ok-len.len ≡ length_bytes c.args.file.now c.args.hi
length_found c = grind arith

zero_found : (c : In_ok-before) → Some c.in_ok-before.before ≡ first_zero c.args.file.now (c.args.hi + c.in_ok-len.len)
zero_found c = grind arith

pub returns-in_err-len : goal.returns-in_err-len
returns-in_err-len c =
    let p = err_from_is_err_and c.from_residual.result c.from_residual.ensures.1 in
    let e : c.in_err-len.field-0.0 ≡ StringOutside = grind arith in
    rw (p.1, p.2, e) (no_length _ _ _ _ (grind arith))

pub overflow_add-text : goal.overflow_add-text
overflow_add-text c = omega (arith, (length_in _ _ _ (length_found (goal.at.overflow_add-text c).In_ok-len)).1)

pub returns-in_err-before : goal.returns-in_err-before
returns-in_err-before c =
    let p = err_from_is_err_and c.from_residual-in_err-before.result c.from_residual-in_err-before.ensures.1 in
    let e : c.in_err-before.field-0.0 ≡ StringOutside = grind arith in
    rw (p.1, p.2, e) (no_zero _ _ _ _ _ (length_found (goal.at.returns-in_err-before c).In_ok-len) (grind arith))

pub overflow_add-result : goal.overflow_add-result
overflow_add-result c = omega (arith, zero_in _ _ _ (zero_found (goal.at.overflow_add-result c).In_ok-before))

pub overflow_add-result-2 : goal.overflow_add-result-2
overflow_add-result-2 c = omega (arith, zero_in _ _ _ (zero_found (goal.at.overflow_add-result-2 c).In_ok-before))

pub returns : goal.returns
returns c = area_found _ _ _ _ _ _ (grind arith) (grind arith)
