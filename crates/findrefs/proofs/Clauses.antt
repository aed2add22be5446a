-- The clauses of the finder's contract: each follows from what it gives.
-- Assumes nothing.
use Rattle.std.specs.Prelude.{Result}
use Prim.Native.Nat.{ℕ}
use mathlib.Core.List.{List}
use Rattle.tinydex.specs.declared.DexHeader.{DexHeader}
use Rattle.completeness.specs.Completeness.{FindWords, call_of, Demand3}
use Rattle.findrefs.specs.Find.{lengths_of, find_out}
use Rattle.findrefs.specs.Gives.{reply_of, GivesFind}
use Rattle.findrefs.specs.Region.{NeverOutside}
use Rattle.findrefs.specs.Alone.{StandAlone}
use Rattle.refusal.specs.declared.Refusal.{Refusal}
use Rattle.findrefs.specs.declared.Found.{Found}
use Rattle.findrefs.proofs.Promised.{promised}
use Rattle.findrefs.proofs.Region.{never_outside}
use Rattle.findrefs.proofs.Answers.{answers_alone}
use Rattle.findrefs.proofs.Alone.{stand_alone}

pub clauses : (s : List ℕ) (h : DexHeader) (number : ℕ) (wanted : List ℕ) (r : Result Found Refusal) (before after : FindWords)
    → GivesFind (find_out s h number wanted (lengths_of before)) r before after
    → GivesFind (find_out s h number wanted (lengths_of before)) r before after
    × (Demand3 (call_of s h number wanted) before (reply_of r) after × (NeverOutside s r × StandAlone (call_of s h number wanted) r after))
clauses s h number wanted r before after G =
    let outside = never_outside s h number wanted r before after G in
    (G, (promised s h number wanted r before after G, (outside, stand_alone (answers_alone s h) number wanted r before after G)))
