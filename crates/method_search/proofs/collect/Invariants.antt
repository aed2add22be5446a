-- Held are the methods before i that fit, and those from i on are still to come.
-- Assumes nothing.
use Rattle.method_search.specs.Steps.{sieve_of, Fitting}
use Rattle.word_set.proofs.Collected.{Collected}
use lib.ListN.{length}
use Prim.Native.Nat.{ℕ, ◌≤◌}
use Rattle.method_search.proofs.collect.Given as goal

abbrev pub invariant-loop-i : goal.invariant-loop-i
invariant-loop-i l =
    Collected (Fitting (sieve_of l.wanted) l.count) (λ (x : ℕ). (l.i ≤ x) × Fitting (sieve_of l.wanted) l.count x) (length l.initial.out) l.n l.out
