-- Finds of a query: leftmost and non-overlapping (SPEC, Searches). Every find is an occurrence, two
-- finds share no byte (`find_occurs`, `finds_apart` of proofs/Finds.antt), and every occurrence begins in a find
-- (`occurrence_touched` of proofs/Listing.antt).
-- A place is an offset in the file s; the area ends before e.
-- Assumes nothing.
use Rattle.std.specs.Prelude.{ℕ, ◌+◌, ◌≤◌, ◌<◌, List, length}
use Rattle.byte_search.specs.Occurs.{Occurs}

-- p is the first occurrence at or after `from`
pub record First (s q : List ℕ) (e from p : ℕ) : Type 0 where
  pub after : from ≤ p
  pub occurs : Occurs s q e p
  pub none_before : (k : ℕ) → from ≤ k → k < p → Occurs s q e k → ⊥

-- the finds from `from` on: the first occurrence, and those from its end on
pub data Find (s q : List ℕ) (e : ℕ) : ℕ → ℕ → Type 0 where
  leftmost : {from p : ℕ} → First s q e from p → Find s q e from p
  further : {from p r : ℕ} → First s q e from p → Find s q e (p + length q) r → Find s q e from r
