-- A call keeps demand 3 where its answer is that of the outcomes: it succeeds exactly where the lent slices suffice, which they do where they are
-- enough, and else refuses with 4; and the words that it leaves read as the outcomes' lists.
-- Assumes nothing.
use mathlib.Core.Path.{◌≡◌}
use mathlib.Core.Logic.{◌≢◌}
use mathlib.Core.List.{List}
use lib.ListN.{length}
use native.Mathlib.Omega.{arith}
use Rattle.dalvik.specs.CodeItem.{Code}
use Rattle.dalvik.specs.Instructions.{Kind}
use Rattle.kinds.specs.Kinds.{kind_number}
use Rattle.completeness.specs.Completeness.{Supposed, FindWords, Enough, Call, Reply, Kept}
use Rattle.completeness.proofs.Outcomes.{Lent, Ran, ran_of, Suffices}
use Rattle.completeness.proofs.Demand.{over_outcomes}
use Rattle.completeness.proofs.Words.{Holds, delivers}
use Rattle.completeness.proofs.Enough.{lent_of, enough_suffices}

abbrev lent_to : Call → FindWords → Lent
lent_to q w = lent_of q.header.methods.size w

-- the outcomes of the operations in the lent slices
abbrev ran : Call → Kind → FindWords → Ran
ran q kind w = ran_of q.file q.header kind q.wanted (lent_to q w)

abbrev Fits : Call → List Code → Kind → FindWords → Type 0
Fits q codes kind w = Suffices q.file q.header.methods.size codes kind q.wanted (lent_to q w)

-- what the answer to a call and the words that it leaves say of the outcomes
pub record Reports (q : Call) (codes : List Code) (kind : Kind) (before : FindWords) (r : Reply) (after : FindWords) : Type 0 where
  pub fits : r.number ≢ 4 → Fits q codes kind before
  pub succeeds : Fits q codes kind before → r.number ≡ 0
  pub count : Fits q codes kind before → r.count ≡ length (ran q kind before).scan.hits
  pub holds : Fits q codes kind before → Holds (ran q kind before) after

module _ {q : Call} {codes : List Code} {kind : Kind} {before after : FindWords} {r : Reply}
    (P : Supposed q.file q.header.mapoff q.header.classes.off q.header.classes.size q.header.methods.size codes)
    (e : q.kind ≡ kind_number kind) (A : Reports q codes kind before r after) where
  never_four : Enough (length q.file) q.header.methods.size q.kind before → r.number ≢ 4
  never_four E z =
      let F : Fits q codes kind before = enough_suffices P kind q.wanted before (rw e at E) in
      omega (arith, A.succeeds F)

  pub keeps : Kept q codes kind before r after
  keeps = record {
    enough = never_four;
    succeeds = λ n. A.succeeds (A.fits n);
    delivers = λ n.
        let F : Fits q codes kind before = A.fits n in
        rw (A.count F) (delivers (over_outcomes q.file q.header codes P kind q.wanted (lent_to q before) F) (A.holds F));
  }
