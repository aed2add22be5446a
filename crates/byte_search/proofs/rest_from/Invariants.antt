-- `byte_search::rest_from` meets its contract: what is left from the first of the places below i that counts is the greatest so far.
-- Assumes nothing.
use Rattle.byte_search.proofs.Firsts.{Lanes}
use Prim.Native.Nat.{◌-◌, ◌≤◌}
use Rattle.byte_search.proofs.rest_from.Given as goal

abbrev pub invariant-loop-i : goal.invariant-loop-i
invariant-loop-i g l = (l.rest ≤ 64) × Lanes (g.W.Sought.kind l.what l.s) l.at 64 l.i (64 - l.rest)
