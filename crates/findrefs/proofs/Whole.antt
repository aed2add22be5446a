-- What the finder's outcome is where it succeeds: the build, its region's hits, and each hit's answer. Build, scan and locate each refuse, never
-- with 15, or give all of theirs; of locate that is a law on the tables of a build.
--     Answers                                 that law
--     find_never_15, find_whole, find_built   the finder's outcome
-- Assumes nothing.
use Rattle.std.specs.Prelude.{Option, None, Some}
use Prim.Native.Nat.{ℕ, ◌≤◌}
use native.Mathlib.Omega.{arith}
use mathlib.Core.Path.{◌≡◌, refl, sym, ◌∙◌}
use mathlib.Core.Logic.{◌≢◌, ⊎_elim}
use mathlib.Core.Bool.{true, false, ◌&&◌}
use mathlib.Core.List.{List, [], map}
use lib.ListN.{length}
use lib.Dec.{leb, eqb}
use borrow.Author.Tests.{leb-true, eqb-true, eqb-false}
use Rattle.words.proofs.Shared.{case, cond_elim, and_left, and_right}
use Rattle.refusal.specs.Refusals.{is_too_large}
use Rattle.refusal.specs.Outcomes.{Outcome, refused, success}
use Rattle.tinydex.specs.declared.DexHeader.{DexHeader}
use Rattle.start_words.specs.Starts.{pair_count}
use Rattle.dalvik.specs.Instructions.{Kind}
use Rattle.kinds.specs.Kinds.{kind_of}
use Rattle.code_table.specs.Build.{Room, Build, build_out}
use Rattle.code_table.proofs.Inside.{never_15}
use Rattle.code_item_scan.specs.Scan.{is_in, Hit, sought, hits_of, offs, Scan, no_scan, Asked, asked, HitRoom, scanned, scanned_as, scan_out}
use Rattle.code_item_scan.proofs.Listed.{Above, hits_above}
use Rattle.code_item_scan.proofs.Listed.Above.{no_more}
use Rattle.insn_locator.specs.Locate.{Tables, locate_out}
use Rattle.region_search.specs.Search.{Search, searched, search_out}
use Rattle.findrefs.specs.Find.{Lengths, Find, found, built_tables, search_of, find_out}
use Rattle.findrefs.proofs.Laws.{searched_number, found_number}

-- ---- over the tables of a build that succeeds each offset of a rising list has an answer of its own, whatever is lent; and two builds of a file
-- and record that succeed are the same
pub record Answers (s : List ℕ) (h : DexHeader) : Type 0 where
  pub answer : ℕ → ℕ
  pub each : (L : Lengths) → (build_out s h L.build).number ≡ 0 → (b : ℕ) (ts : List ℕ) → Above b ts
      → (room further : ℕ) → length ts ≤ room → pair_count (build_out s h L.build).starts ≤ further
      → locate_out s (built_tables (build_out s h L.build) L) ts room further ≡ success (map answer ts)
  pub same : (room room' : Room) → (build_out s h room).number ≡ 0 → (build_out s h room').number ≡ 0
      → build_out s h room' ≡ build_out s h room

-- ---- an outcome whose number is not 15, and which is the whole one where its number is 0
record Ends {O : Type 0} (number : O → ℕ) (whole o : O) : Type 0 where
  not_15 : number o ≢ 15
  all : number o ≡ 0 → o ≡ whole

refuses : {O : Type 0} (number : O → ℕ) (whole o : O) → number o ≢ 15 → number o ≢ 0 → Ends number whole o
refuses number whole o n z = record { not_15 = n; all = λ q. absurd (z q) }

succeeds : {O : Type 0} (number : O → ℕ) (whole o : O) → number o ≡ 0 → o ≡ whole → Ends number whole o
succeeds number whole o z e = record { not_15 = λ q. omega arith; all = λ q. e }

-- ---- scan
abbrev number_of_scan : Scan → ℕ
number_of_scan S = S.number

abbrev all_hits : List Hit → Scan
all_hits hits = record { number = 0; hits = hits }

-- the hits of a kind, if it is one
abbrev pub hits_for : List ℕ → List ℕ → ℕ → ℕ → Option Kind → List Hit
hits_for s wanted from to None = []
hits_for s wanted from to (Some kind) = hits_of s kind wanted from to

scan_refuses : (hits : List Hit) (n : ℕ) → n ≢ 15 → n ≢ 0 → Ends number_of_scan (all_hits hits) (no_scan n)
scan_refuses hits n p q = refuses number_of_scan (all_hits hits) (no_scan n) p q

module _ (s : List ℕ) (A : Asked) (R : HitRoom) where
  scans_as : (k : Option Kind) → Ends number_of_scan (all_hits (hits_for s A.wanted A.from A.to k)) (scanned_as s A R k)
  scans_as None = scan_refuses [] 2 (λ q. omega arith) (λ q. omega arith)
  scans_as (Some kind) =
      let hits : List Hit = hits_of s kind A.wanted A.from A.to in
      cond_elim (Ends number_of_scan (all_hits hits)) (leb A.from A.to && leb A.to (length s)) (scanned R hits) (no_scan 12)
      (λ _. cond_elim (Ends number_of_scan (all_hits hits)) (leb (length hits) R.offs && leb (length hits) R.marks) (all_hits hits) (no_scan 4)
      (λ _. succeeds number_of_scan (all_hits hits) (all_hits hits) refl refl)
      (λ _. scan_refuses hits 4 (λ q. omega arith) (λ q. omega arith)))
      (λ _. scan_refuses hits 12 (λ q. omega arith) (λ q. omega arith))

  scans : Ends number_of_scan (all_hits (hits_for s A.wanted A.from A.to (kind_of A.kind))) (scan_out s A R)
  unfolding scan_out
  scans =
      cond_elim (Ends number_of_scan (all_hits (hits_for s A.wanted A.from A.to (kind_of A.kind)))) (is_too_large (length s)) (no_scan 1) _
      (λ _. scan_refuses _ 1 (λ q. omega arith) (λ q. omega arith)) (λ _. scans_as (kind_of A.kind))

hits_rise : (s wanted : List ℕ) (from to : ℕ) (k : Option Kind) → Above from (offs (hits_for s wanted from to k))
hits_rise s wanted from to None = no_more
hits_rise s wanted from to (Some kind) = hits_above s (sought kind (λ x. is_in x wanted) from to)

-- ---- locate: refused 1 or 4, or what is said of it with enough words
abbrev number_of : Outcome → ℕ
number_of o = o.number

module _ (s : List ℕ) (T : Tables) (ts : List ℕ) (room further : ℕ) where
  short : (o : Outcome) → (leb (length ts) room && leb (pair_count T.starts) further) ≡ false
      → Ends number_of o (locate_out s T ts room further)
  unfolding locate_out
  short o e =
      cond_elim (Ends number_of o) (is_too_large (length s)) (refused 1) _
      (λ _. refuses number_of o (refused 1) (λ q. omega arith) (λ q. omega arith))
      (λ _. rw e (refuses number_of o (refused 4) (λ q. omega arith) (λ q. omega arith)))

  locates : (xs : List ℕ) → (length ts ≤ room → pair_count T.starts ≤ further → locate_out s T ts room further ≡ success xs)
      → Ends number_of (success xs) (locate_out s T ts room further)
  locates xs f =
      let n = leb (length ts) room in
      let m = leb (pair_count T.starts) further in
      ⊎_elim
      (λ (e : (n && m) ≡ true).
      rw (f (leb-true (length ts) room (and_left n m e)) (leb-true (pair_count T.starts) further (and_right n m e)))
      (succeeds number_of (success xs) (success xs) refl refl))
      (λ (e : (n && m) ≡ false). short (success xs) e)
      (case (n && m))

-- ---- build, scan and locate
abbrev number_of_search : Search → ℕ
number_of_search R = R.number

abbrev number_of_find : Find → ℕ
number_of_find o = o.number

module _ {s : List ℕ} {h : DexHeader} (law : Answers s h) (kind : ℕ) (wanted : List ℕ) (L : Lengths) where
  abbrev B : Build
  B = build_out s h L.build

  abbrev T : Tables
  T = built_tables B L

  abbrev pub hits : List Hit
  hits = hits_for s wanted B.from B.to (kind_of kind)

  abbrev answers : List ℕ
  answers = map law.answer (offs hits)

  abbrev whole_search : Search
  whole_search = record { number = 0; hits = hits; answers = answers }

  abbrev pub whole : Find
  whole = record { number = 0; build = B; hits = hits; answers = answers }

  abbrev scan_of : Scan
  scan_of = scan_out s (asked kind wanted B.from B.to) L.hits

  abbrev locate_of : Outcome
  locate_of = locate_out s T (offs hits) L.answers L.further

  hits_scanned : Ends number_of_scan (all_hits hits) scan_of
  hits_scanned = scans s (asked kind wanted B.from B.to) L.hits

  module _ (p : B.number ≡ 0) where
    hits_located : Ends number_of (success answers) locate_of
    hits_located =
        locates s T (offs hits) L.answers L.further answers
        (law.each L p B.from (offs hits) (hits_rise s wanted B.from B.to (kind_of kind)) L.answers L.further)

    after_scan : Ends number_of_search whole_search (searched hits locate_of)
    after_scan = record {
      not_15 = λ q. hits_located.not_15 (sym (searched_number hits locate_of) ∙ q);
      all = λ q. rw (hits_located.all (sym (searched_number hits locate_of) ∙ q)) refl;
    }

    searches : Ends number_of_search whole_search (search_of s kind wanted L B)
    unfolding search_out
    searches =
        cond_elim (Ends number_of_search whole_search) (eqb scan_of.number 0) _ (record { number = scan_of.number; hits = scan_of.hits; answers = [] })
        (λ e. rw (hits_scanned.all (eqb-true scan_of.number 0 e)) after_scan)
        (λ e. refuses number_of_search whole_search _ hits_scanned.not_15 (eqb-false scan_of.number 0 e))

    finds_built : Ends number_of_find whole (found B (search_of s kind wanted L B))
    finds_built =
        let R = search_of s kind wanted L B in
        record {
          not_15 = λ q. searches.not_15 (sym (found_number B R) ∙ q);
          all = λ q. rw (searches.all (sym (found_number B R) ∙ q)) refl;
        }

  finds : Ends number_of_find whole (find_out s h kind wanted L)
  unfolding find_out
  finds =
      cond_elim (Ends number_of_find whole) (eqb B.number 0) _ (record { number = B.number; build = B; hits = []; answers = [] })
      (λ e. finds_built (eqb-true B.number 0 e))
      (λ e. refuses number_of_find whole _ (never_15 s h L.build) (eqb-false B.number 0 e))

  pub find_never_15 : (find_out s h kind wanted L).number ≢ 15
  find_never_15 = finds.not_15

  pub find_whole : (find_out s h kind wanted L).number ≡ 0 → find_out s h kind wanted L ≡ whole
  find_whole = finds.all

  pub find_built : (find_out s h kind wanted L).number ≡ 0 → B.number ≡ 0
  unfolding find_out
  find_built q = ⊎_elim (λ e. eqb-true B.number 0 e) (λ (e : eqb B.number 0 ≡ false). rw e at q) (case (eqb B.number 0))
