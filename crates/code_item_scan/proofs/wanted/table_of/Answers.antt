use mathlib.Core.Path.{ap, ◌∙◌}
use Prim.Native.Nat.{ℕ}
use lib.ListN.{length, get_or}
use mathlib.Core.List.{List}
use lib.ListN.{length-replicate, get_or-replicate, length-set}
use lib.Seq.{take_all}
use Rattle.code_item_scan.specs.Scan.{is_in}
use Rattle.code_item_scan.specs.Next.{index_count}
use Rattle.code_item_scan.specs.Steps.{bit}
use Rattle.code_item_scan.proofs.Sets.{table_marked, table_passed}
use Rattle.code_item_scan.proofs.wanted.table_of.Goals.{then-x-lt-INDICES, else-x-lt-INDICES}
use Rattle.code_item_scan.proofs.wanted.table_of.Goals as goal

pub loop-word-init : goal.loop-word-init
loop-word-init c = (
  ap length c.requires ∙ length-replicate {A = ℕ} index_count 0,
  λ y h. ap (λ (l : List ℕ). get_or l y 0) c.requires ∙ get_or-replicate {A = ℕ} index_count y 0 0 h,
)

pub loop-word-preserved : goal.loop-word-preserved
loop-word-preserved c =
    let l = c.args.wanted.now in
    let k = c.loop-word in
    let h = c.loop-word-test.true in
    elim c.if-x-lt-INDICES.branch [
      | then-x-lt-INDICES w ↦ (
        ap length w.table-is ∙ simp length-set k.invariant.0,
        λ y z. ap (λ (r : List ℕ). get_or r y 0) w.table-is ∙ table_marked l k.table k.word-index h k.invariant.1 k.invariant.0 y z,
      )
      | else-x-lt-INDICES w ↦ (
        ap length w.table-is ∙ k.invariant.0,
        λ y z. ap (λ (r : List ℕ). get_or r y 0) w.table-is ∙ table_passed l k.table k.word-index h k.invariant.1 w.if-x-lt-INDICES.false y z,
      )
    ]

pub returns : goal.returns
returns c = record {
  long = c.loop-word.invariant.0;
  at = λ y h. c.loop-word.invariant.1 y h ∙ ap (λ (l : List ℕ). bit (is_in y l)) (take_all _ _ c.loop-word-test.false);
}
