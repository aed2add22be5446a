-- `matches_name::matches_name` meets its contract: between two places of the first letter no name stands.
-- Assumes nothing.
use Rattle.name_filter.specs.HasName.{lower_case}
use Rattle.byte_search.specs.Occurs.{Stands}
use mathlib.Core.List.{map}
use Prim.Native.Nat.{ℕ, ◌-◌, ◌≤◌, ◌<◌}
use Rattle.name_filter.proofs.matches_name.matches_name.Given as goal

abbrev pub invariant-loop-at : goal.invariant-loop-at
invariant-loop-at l = (l.at ≤ l.end) × ((k : ℕ) → k < l.at → Stands (map lower_case l.text) (map lower_case l.query) k → ⊥)

abbrev pub decreases-loop-at : goal.decreases-loop-at
decreases-loop-at l = l.end - l.at
