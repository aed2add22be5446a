use Prim.Native.Nat.{ℕ}
use mathlib.Core.Bool.{not}
use mathlib.Core.Path.{ap, refl, sym, subst, ◌∙◌}
use mathlib.Core.List.{List}
use lib.Seq.{take_all}
use Rattle.code_item_scan.specs.Steps.{WantedOf}
use Rattle.code_item_scan.proofs.Sets.{wanted_none, wanted_in, wanted_out}
use Rattle.code_item_scan.proofs.wanted.wanted_of.Goals.{then-not-add, else-not-add}
use Rattle.code_item_scan.proofs.wanted.wanted_of.Goals as goal

pub loop-word-init : goal.loop-word-init
loop-word-init c = (wanted_none c.args.wanted.now c.requires, refl)

pub loop-word-preserved : goal.loop-word-preserved
loop-word-preserved c =
    let a = c.args in
    let k = c.loop-word in
    let h = c.loop-word-test.true in
    let d = c.add.ensures in (
      elim c.if-not-add.branch [
        | then-not-add w ↦ subst (WantedOf _ _) (sym w.others-is) (wanted_out a.wanted.now k.word-index h k.invariant.0 d (ap not w.if-not-add.true))
        | else-not-add w ↦ subst (WantedOf _ _) (sym w.others-is) (wanted_in a.wanted.now k.word-index h k.invariant.0 d (ap not w.if-not-add.false))
      ],
      d.long ∙ k.invariant.1,
    )

pub returns : goal.returns
returns c =
    let l = c.args.wanted.now in
    let k = c.loop-word in
    subst (λ (t : List ℕ). WantedOf t k.bits k.others) (take_all k.word-index l c.loop-word-test.false) k.invariant.0
