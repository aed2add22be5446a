-- The promise follows from what the finder gives. Where its outcome is not 4 each lent slice holds what is written to it, so that build, scan
-- and locate succeed as demand 3 says of their outcomes; and the words in the lent slices are the outcomes' lists. With slices that are
-- enough each holds what is written to it, and so the outcome is not 4.
-- Assumes nothing.
use Rattle.std.specs.Prelude.{Result}
use Prim.Native.Nat.{ℕ, ◌*◌, ◌/◌}
use native.Mathlib.Omega.{arith}
use mathlib.Core.Path.{◌≡◌, refl, sym, ap, ◌∙◌}
use mathlib.Core.Logic.{◌≢◌, ⊎_elim}
use mathlib.Core.Bool.{true, false}
use mathlib.Core.List.{List}
use lib.ListN.{length, get_or}
use lib.Dec.{eqb}
use borrow.Author.Tests.{eq-eqb, eqb-true}
use Rattle.words.specs.Padded.{padded}
use Rattle.words.proofs.Padded.{padded_at, padded_full}
use Rattle.words.proofs.Shared.{case}
use Rattle.refusal.specs.Outcomes.{Outcome}
use Rattle.tinydex.specs.declared.DexHeader.{DexHeader}
use Rattle.dalvik.specs.CodeItem.{Code}
use Rattle.dalvik.specs.Instructions.{Kind}
use Rattle.code_table.specs.Build.{Build, whole_build}
use Rattle.code_table.proofs.Named.{starts_length}
use Rattle.kinds.specs.Kinds.{kind_number}
use Rattle.code_item_scan.specs.Scan.{offs, marks, Scan}
use Rattle.insn_locator.specs.Locate.{locate_out}
use Rattle.insn_locator.specs.Answers.{tables}
use Rattle.completeness.specs.Completeness.{Supposed, FindWords, call_of, Demand3}
use Rattle.completeness.proofs.Outcomes.{Ran, ran_of, scanned_of, located_of, entries_of, HoldsTable, Suffices, Finds}
use Rattle.completeness.proofs.Demand.{build_is, scan_is, over_outcomes}
use Rattle.completeness.proofs.Words.{Holds}
use Rattle.completeness.proofs.Room.{build_holds, scan_holds, locate_holds}
use Rattle.completeness.proofs.Enough.{lent_of}
use Rattle.completeness.proofs.Promise.{Reports, keeps}
use Rattle.findrefs.proofs.Laws.{searched_number, found_number}
use Rattle.region_search.specs.Search.{search_out}
use Rattle.findrefs.specs.Find.{Lengths, lengths_of, Find, found, search_of, built_tables, find_out}
use Rattle.findrefs.specs.Gives.{reply_of, GivesFind}
use Rattle.refusal.specs.declared.Refusal.{Refusal}
use Rattle.findrefs.specs.declared.Found.{Found}

module _ (s : List ℕ) (h : DexHeader) (kind : Kind) (wanted : List ℕ) (w : FindWords) where
  abbrev m : ℕ
  m = h.methods.size

  abbrev L : Lengths
  L = lengths_of w

  abbrev R : Ran
  R = ran_of s h kind wanted (lent_of m w)

  abbrev goal : Find
  goal = find_out s h (kind_number kind) wanted L

  -- the start words that are passed on are the build's
  located_is : R.build.number ≡ 0 → locate_out s (built_tables R.build L) (offs R.scan.hits) L.answers L.further ≡ R.located
  located_is p =
      ap
      (λ (zs : List ℕ).
      locate_out s
      (tables (R.build.from / 16) (padded L.build.slots R.build.slots) zs (padded L.build.shares R.build.shares))
      (offs R.scan.hits) L.answers L.further)
      (sym (padded_full (2 * m) R.build.starts (starts_length s h L.build p)))

  -- the build refuses
  number_unbuilt : R.build.number ≢ 0 → goal.number ≡ R.build.number
  unfolding find_out
  number_unbuilt n =
      ⊎_elim
      (λ (e : eqb R.build.number 0 ≡ true). absurd (n (eqb-true R.build.number 0 e)))
      (λ (e : eqb R.build.number 0 ≡ false). rw e)
      (case (eqb R.build.number 0))

  -- it succeeds, and the search's number is the finder's
  built_is : R.build.number ≡ 0 → goal ≡ found R.build (search_of s (kind_number kind) wanted L R.build)
  unfolding find_out
  built_is p = rw (eq-eqb R.build.number 0 p)

  number_built : R.build.number ≡ 0 → goal.number ≡ (search_of s (kind_number kind) wanted L R.build).number
  number_built p =
      ap (λ (o : Find). o.number) (built_is p) ∙ found_number R.build (search_of s (kind_number kind) wanted L R.build)

  number_unscanned : R.build.number ≡ 0 → R.scan.number ≢ 0 → goal.number ≡ R.scan.number
  unfolding search_out
  number_unscanned p n =
      number_built p
      ∙ ⊎_elim
      (λ (e : eqb R.scan.number 0 ≡ true). absurd (n (eqb-true R.scan.number 0 e)))
      (λ (e : eqb R.scan.number 0 ≡ false). rw e)
      (case (eqb R.scan.number 0))

  number_scanned : R.build.number ≡ 0 → R.scan.number ≡ 0 → goal.number ≡ R.located.number
  unfolding search_out
  number_scanned p q =
      number_built p ∙ (rw (eq-eqb R.scan.number 0 q) (searched_number R.scan.hits _) ∙ ap (λ (A : Outcome). A.number) (located_is p))

  pub all_is : R.build.number ≡ 0 → R.scan.number ≡ 0 → R.located.number ≡ 0
      → goal ≡ record { number = 0; build = R.build; hits = R.scan.hits; answers = R.located.list }
  unfolding search_out
  all_is p q t = built_is p ∙ rw (eq-eqb R.scan.number 0 q, located_is p, eq-eqb R.located.number 0 t)

  -- ---- a supposed file
  module _ (codes : List Code) (P : Supposed s h.mapoff h.classes.off h.classes.size m codes) where
    pub all_found : Suffices s m codes kind wanted (lent_of m w)
        → goal ≡ record { number = 0; build = R.build; hits = R.scan.hits; answers = R.located.list }
    all_found F =
        let X : Finds s codes kind wanted R = over_outcomes s h codes P kind wanted (lent_of m w) F in
        all_is X.build_succeeds X.scan_succeeds X.locate_succeeds

    -- "lent buffers that suffice", exactly, are those with which the outcome is not 4
    pub suffices_not_four : Suffices s m codes kind wanted (lent_of m w) → goal.number ≢ 4
    suffices_not_four F e = omega (arith, ap (λ (o : Find). o.number) (all_found F))

    pub not_four_suffices : goal.number ≢ 4 → Suffices s m codes kind wanted (lent_of m w)
    not_four_suffices n =
        let T : HoldsTable m codes L.build = build_holds s h codes P kind wanted (lent_of m w) (λ z. n (number_unbuilt (λ y. omega arith) ∙ z)) in
        let b : R.build ≡ whole_build (length s) m codes = build_is s h codes P kind wanted (lent_of m w) T in
        let p : R.build.number ≡ 0 = ap (λ (B : Build). B.number) b in
        let O = scan_holds s h codes P kind wanted (lent_of m w)
        (λ z. let y : R.scan.number ≡ 4 = ap (λ (B : Build). (scanned_of s kind wanted (lent_of m w) B).number) b ∙ z in
        n (number_unscanned p (λ x. omega arith) ∙ y)) in
        let c : R.scan ≡ record { number = 0; hits = entries_of s codes kind wanted } =
        ap (scanned_of s kind wanted (lent_of m w)) b ∙ scan_is s h codes P kind wanted (lent_of m w) O.0 O.1 in
        let q : R.scan.number ≡ 0 = ap (λ (S : Scan). S.number) c in
        let a : R.located ≡ located_of s (lent_of m w) (whole_build (length s) m codes) (record { number = 0; hits = entries_of s codes kind wanted }) =
        ap (λ (B : Build). located_of s (lent_of m w) B R.scan) b ∙ ap (located_of s (lent_of m w) (whole_build (length s) m codes)) c in
        let A = locate_holds s h codes P kind wanted (lent_of m w) (omega arith)
        (λ z. n (number_scanned p q ∙ (ap (λ (o : Outcome). o.number) a ∙ z))) in
        record { build = T; offs = O.0; marks = O.1; answers = A.0; starts_passed = omega arith; further = A.1 }

    module _ (r : Result Found Refusal) (after : FindWords) (G : GivesFind goal r w after) where
      holds : GivesFind (record { number = 0; build = R.build; hits = R.scan.hits; answers = R.located.list }) r w after → Holds R after
      holds H = record {
        shares = H.shares;
        offs = λ k. ap (λ (l : List ℕ). get_or l k 0) H.offs ∙ padded_at (length w.hits.offs) (offs R.scan.hits) k;
        marks = λ k. ap (λ (l : List ℕ). get_or l k 0) H.marks ∙ padded_at (length w.hits.marks) (marks R.scan.hits) k;
        answers = λ k. ap (λ (l : List ℕ). get_or l k 0) H.answers ∙ padded_at (length w.located.answers) R.located.list k;
      }

      pub reports : Reports (call_of s h (kind_number kind) wanted) codes kind w (reply_of r) after
      reports = record {
        fits = λ n. not_four_suffices (λ z. n (G.number ∙ z));
        succeeds = λ F. G.number ∙ ap (λ (o : Find). o.number) (all_found F);
        count = λ F. (rw (all_found F) at G).count;
        holds = λ F. holds (rw (all_found F) at G);
      }

pub promised : (s : List ℕ) (h : DexHeader) (number : ℕ) (wanted : List ℕ) (r : Result Found Refusal) (before after : FindWords)
    → GivesFind (find_out s h number wanted (lengths_of before)) r before after → Demand3 (call_of s h number wanted) before (reply_of r) after
unfolding Demand3
promised s h number wanted r before after G codes P kind e =
    let H : GivesFind (find_out s h (kind_number kind) wanted (lengths_of before)) r before after = rw e at G in
    rw e (keeps P refl (reports s h kind wanted before codes P r after H))
