-- The finder's region is its build's, which lies in the file, or 0 to 0: so no scan of it is refused 12, and neither build nor locate has that number.
-- Assumes nothing.
use Rattle.std.specs.Prelude.{Option, None, Some, Result}
use Prim.Native.Nat.{ℕ}
use native.Mathlib.Omega.{arith}
use mathlib.Core.Path.{sym, ◌∙◌}
use mathlib.Core.Logic.{◌≢◌}
use mathlib.Core.Bool.{◌&&◌}
use mathlib.Core.List.{List, []}
use lib.ListN.{length}
use lib.Dec.{leb, eqb}
use Rattle.words.proofs.Shared.{cond_elim}
use Rattle.refusal.specs.Refusals.{is_too_large}
use Rattle.refusal.specs.Outcomes.{Outcome, refused}
use Rattle.tinydex.specs.declared.DexHeader.{DexHeader}
use Rattle.start_words.specs.Starts.{pair_count}
use Rattle.code_table.specs.RegionEnd.{RegionInside}
use Rattle.code_table.specs.Build.{Build, build_out}
use Rattle.code_table.proofs.Inside.{region_inside, never_12}
use Rattle.code_item_scan.specs.Scan.{offs, Asked, asked, HitRoom, scan_out}
use Rattle.code_item_scan.proofs.Inside.{scan_never_12}
use Rattle.insn_locator.specs.Locate.{Tables, locate_all, answers_from, locate_out}
use Rattle.completeness.specs.Completeness.{FindWords}
use Rattle.region_search.specs.Search.{Search, search_out}
use Rattle.findrefs.specs.Find.{Lengths, lengths_of, Find, found, search_of, find_out}
use Rattle.findrefs.specs.Gives.{GivesFind}
use Rattle.findrefs.specs.Region.{NeverOutside}
use Rattle.refusal.specs.declared.Refusal.{Refusal}
use Rattle.findrefs.specs.declared.Found.{Found}
use Rattle.findrefs.proofs.Laws.{searched_number, found_number}

-- ---- locate
from_answers : (l : Option (List ℕ)) → (answers_from l).number ≢ 12
from_answers None = λ q. omega arith
from_answers (Some l) = λ q. omega arith

module _ (s : List ℕ) (T : Tables) (entries : List ℕ) (answers further : ℕ) where
  locate_never_12 : (locate_out s T entries answers further).number ≢ 12
  unfolding locate_out
  locate_never_12 =
      cond_elim (λ (A : Outcome). A.number ≢ 12) (is_too_large (length s)) (refused 1) _ (λ _ q. omega arith)
      (λ _. cond_elim (λ (A : Outcome). A.number ≢ 12) (leb (length entries) answers && leb (pair_count T.starts) further)
      (answers_from (locate_all s T entries)) (refused 4) (λ _. from_answers (locate_all s T entries)) (λ _ q. omega arith))

-- ---- the search over a region that lies in the file
search_never_12 : (s : List ℕ) (A : Asked) (T : Tables) (room : HitRoom) (further answers : ℕ) → RegionInside (length s) A.from A.to
    → (search_out s A T room further answers).number ≢ 12
unfolding search_out
search_never_12 s A T room further answers I =
    let S = scan_out s A room in
    cond_elim (λ (o : Search). o.number ≢ 12) (eqb S.number 0) _ (record { number = S.number; hits = S.hits; answers = [] })
    (λ _ q. locate_never_12 s T (offs S.hits) answers further (sym (searched_number S.hits _) ∙ q))
    (λ _. scan_never_12 s A room I.rises I.inside)

-- ---- the outcome
record Inside (len : ℕ) (o : Find) : Type 0 where
  number : o.number ≢ 12
  region : RegionInside len o.build.from o.build.to

found_region : (len : ℕ) (B : Build) (R : Search) → RegionInside len B.from B.to → RegionInside len (found B R).build.from (found B R).build.to
found_region len B R I =
    cond_elim (λ (o : Find). RegionInside len o.build.from o.build.to) (eqb R.number 0) _ _ (λ _. I)
    (λ _. record { rises = omega arith; inside = omega arith })

inside : (s : List ℕ) (h : DexHeader) (kind : ℕ) (wanted : List ℕ) (L : Lengths) → Inside (length s) (find_out s h kind wanted L)
unfolding find_out
inside s h kind wanted L =
    let B = build_out s h L.build in
    let I = region_inside s h L.build in
    let R = search_of s kind wanted L B in
    cond_elim (Inside (length s)) (eqb B.number 0) (found B R) _
    (λ _. record {
      number = λ q. search_never_12 s (asked kind wanted B.from B.to) _ L.hits L.further L.answers I (sym (found_number B R) ∙ q);
      region = found_region (length s) B R I;
    })
    (λ _. record { number = never_12 s h L.build; region = I })

pub never_outside : (s : List ℕ) (h : DexHeader) (kind : ℕ) (wanted : List ℕ) (r : Result Found Refusal) (before after : FindWords)
    → GivesFind (find_out s h kind wanted (lengths_of before)) r before after → NeverOutside s r
never_outside s h kind wanted r before after G =
    let I = inside s h kind wanted (lengths_of before) in
    record {
      number = λ q. I.number (sym G.number ∙ q);
      scan = λ k w room.
          scan_never_12 s _ room (omega (arith, I.region.rises, G.from, G.to)) (omega (arith, I.region.inside, G.to));
    }
