-- What the fast path of the kind finds for its set is what is found for whichever indices the set tells.
-- Assumes nothing.
use mathlib.Core.Path.{sym, ◌∙◌}
use native.Mathlib.Omega.{arith}
use Rattle.code_item_scan.proofs.Starts.{tells_backward, tells_string, tells_short, tells_even}
use Rattle.code_item_scan.proofs.next_hit.Goals as goal

pub returns-then-to-start : goal.returns-then-to-start
returns-then-to-start c = record { finds = tells_backward _ _ _ _ _ _ c.min-to.ensures c.if-to-start.true }

pub returns-then-is_strings : goal.returns-then-is_strings
returns-then-is_strings c =
    record { finds = tells_string _ _ _ _ _ _ c.min-to.ensures (sym c.is_strings.ensures ∙ c.if-is_strings.true) c.next_string.ensures }

pub returns-then-table-lt-INDICES : goal.returns-then-table-lt-INDICES
returns-then-table-lt-INDICES c =
    record {
      finds = tells_short _ _ _ _ _ _ c.min-to.ensures (sym c.is_strings.ensures ∙ c.if-is_strings.false) (omega arith)
          (λ i. omega (arith, c.type_inv.file i));
    }

pub next_even-requires : goal.next_even-requires
next_even-requires c = (omega arith, omega arith, omega arith, sym c.is_strings.ensures ∙ c.if-is_strings.false)

pub returns : goal.returns
returns c = record { finds = tells_even _ _ _ _ _ _ c.min-to.ensures (sym c.is_strings.ensures ∙ c.if-is_strings.false) c.next_even.ensures }
