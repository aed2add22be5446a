-- `class_def` meets its contract: the class data offset is read exactly where 28 bytes are inside.
-- Assumes nothing.
use Rattle.std.specs.Prelude.{Some, None, Err}
use borrow.Author.Rules.{rules}
use mathlib.Core.Path.{◌≡◌}
use Prim.Native.Nat.{◌+◌}
use native.Mathlib.Omega.{arith}
use Rattle.refusal.specs.declared.Refusal.TheVariants.{TableOutside}
use Rattle.structs.specs.Reads.{read32}
use Rattle.class_data.proofs.Items.{def_outside, def_none, def_some}
use Rattle.structs.proofs.Laws.{read32_value, read32_outside}
use Rattle.class_data.proofs.class_def.Goals as goal

pub returns-in_err-off : goal.returns-in_err-off
returns-in_err-off c =
    let e : c.from_residual.result ≡ Err TableOutside = search rules in
    let none : None ≡ read32 c.args.buf.now (c.args.at + 24) = search rules in
    rw e (def_outside _ _ _ _ _ (read32_outside _ _ none))

pub returns-then-off-eq0 : goal.returns-then-off-eq0
returns-then-off-eq0 c =
    let off : Some c.in_ok-off.off ≡ read32 c.args.buf.now (c.args.at + 24) = search rules in
    def_none _ _ _ _ (read32_value _ _ _ off) _ (omega arith)

pub returns : goal.returns
returns c =
    let off : Some c.in_ok-off.off ≡ read32 c.args.buf.now (c.args.at + 24) = search rules in
    def_some _ _ _ _ (read32_value _ _ _ off) _ _ c.if-off-eq0.false c.class_data_parse.ensures
