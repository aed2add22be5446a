-- No operation refuses but for room: where build, scan and locate do not refuse 4 on a supposed file, each lent slice holds what is written to
-- it, since every other test passes.
-- Assumes nothing.
use Prim.Native.Nat.{ℕ, ◌-◌, ◌*◌, ◌≤◌}
use native.Mathlib.Omega.{arith}
use mathlib.Core.Path.{◌≡◌, refl}
use mathlib.Core.Logic.{◌≢◌}
use mathlib.Core.Bool.{Bool, true, false, cond, ◌&&◌}
use mathlib.Core.List.{List}
use lib.ListN.{length, length-map}
use lib.Dec.{leb}
use borrow.Author.Tests.{le-leb, leb-true, le-ltb}
use Rattle.words.proofs.Shared.{and_left, and_right}
use Rattle.refusal.specs.Refusals.{largest_file}
use Rattle.start_words.specs.Starts.{pairs_in, pair_count}
use Rattle.refusal.specs.Outcomes.{Outcome, refused}
use Rattle.tinydex.specs.declared.DexHeader.{DexHeader}
use Rattle.dalvik.specs.CodeItem.{Code}
use Rattle.dalvik.specs.Instructions.{Kind}
use Rattle.class_data.specs.Codes.{codes_of}
use Rattle.code_table.specs.Slots.{base_of, top_of, table_of}
use Rattle.code_table.specs.RegionEnd.{region_end}
use Rattle.code_table.proofs.RegionEnd.{base_end, end_inside}
use Rattle.code_table.specs.Build.{Build, most_shares, no_build, whole_build, built_from, build_out}
use Rattle.code_item_scan.specs.Scan.{Hit, offs, Scan, no_scan, scan_out}
use Rattle.insn_locator.specs.Locate.{locate_all, answers_from, locate_out}
use Rattle.completeness.specs.Completeness.{Supposed}
use Rattle.completeness.proofs.Outcomes.{Lent, built_of, scanned_of, located_of, entries_of, HoldsTable}
use Rattle.completeness.proofs.Found.{codes_found}
use Rattle.completeness.proofs.Walks.{tested, all_inside}
use Rattle.completeness.proofs.Owners.{tables_for}
use Rattle.completeness.proofs.Demand.{kind_read, passed_on, starts_length}

-- a test with a refusal 4 on its other side
passed : {A : Type 0} (number : A → ℕ) (b : Bool) (x y : A) → number y ≡ 4 → number (cond b x y) ≢ 4 → b ≡ true
passed number true x y e n = refl
passed number false x y e n = absurd (n e)

module _ (s : List ℕ) (h : DexHeader) (codes : List Code) (P : Supposed s h.mapoff h.classes.off h.classes.size h.methods.size codes)
    (kind : Kind) (wanted : List ℕ) (L : Lent) where
  abbrev m : ℕ
  m = h.methods.size

  abbrev hits : List Hit
  hits = entries_of s codes kind wanted

  abbrev fits : Bool
  fits =
      leb (3 * length codes) L.build.triples && leb (top_of codes - base_of codes) L.build.slots
      && leb (length (table_of codes).shares) L.build.shares && leb (length (table_of codes).shares) most_shares

  holds_table : fits ≡ true → 2 * m ≤ L.build.starts → HoldsTable m codes L.build
  holds_table e a =
      let p = leb (3 * length codes) L.build.triples in
      let q = leb (top_of codes - base_of codes) L.build.slots in
      let r = leb (length (table_of codes).shares) L.build.shares in
      let f : (p && q && r) ≡ true = and_left (p && q && r) (leb (length (table_of codes).shares) most_shares) e in
      record {
        starts = a;
        triples = leb-true (3 * length codes) L.build.triples (and_left p q (and_left (p && q) r f));
        slots = leb-true (top_of codes - base_of codes) L.build.slots (and_right p q (and_left (p && q) r f));
        shares = leb-true (length (table_of codes).shares) L.build.shares (and_right (p && q) r f);
      }

  pub build_holds : (built_of s h L).number ≢ 4 → HoldsTable m codes L.build
  unfolding build_out
  build_holds n =
      let n₁ : (cond (leb m (pairs_in L.build.starts)) (built_from (length s) m L.build (codes_of s h)) (no_build 4)).number ≢ 4 =
      rw (le-ltb largest_file (length s) P.small) at n in
      let a : leb m (pairs_in L.build.starts) ≡ true = passed (λ (B : Build). B.number) (leb m (pairs_in L.build.starts)) _ _ refl n₁ in
      let n₂ : (cond fits (whole_build (length s) m codes) (no_build 4)).number ≢ 4 =
      rw (a, (codes_found h P.small P.found (tested P)).1) at n₁ in
      holds_table (passed (λ (B : Build). B.number) fits (whole_build (length s) m codes) (no_build 4) refl n₂)
      (omega (arith, leb-true m (pairs_in L.build.starts) a))

  pub scan_holds : (scanned_of s kind wanted L (whole_build (length s) m codes)).number ≢ 4
      → (length hits ≤ L.hits.offs) × (length hits ≤ L.hits.marks)
  unfolding scan_out
  scan_holds n =
      let p = leb (length hits) L.hits.offs in
      let q = leb (length hits) L.hits.marks in
      let n₁ : (cond (p && q) (record { number = 0; hits = hits }) (no_scan 4)).number ≢ 4 =
      rw (
        le-ltb largest_file (length s) P.small,
        kind_read kind,
        le-leb (base_of codes * 16) (region_end (length s) codes) (base_end (length s) codes (all_inside P)),
        le-leb (region_end (length s) codes) (length s) (end_inside (length s) codes),
      ) at n in
      let e : (p && q) ≡ true = passed (λ (S : Scan). S.number) (p && q) (record { number = 0; hits = hits }) (no_scan 4) refl n₁ in
      (leb-true (length hits) L.hits.offs (and_left p q e), leb-true (length hits) L.hits.marks (and_right p q e))

  pub locate_holds : 2 * m ≤ L.starts → (located_of s L (whole_build (length s) m codes) (record { number = 0; hits = hits })).number ≢ 4
      → (length hits ≤ L.answers) × (pairs_in L.starts ≤ L.further)
  unfolding locate_out
  locate_holds a n =
      let T = tables_for m codes L.slots L.starts L.shares in
      let p = leb (length (offs hits)) L.answers in
      let q = leb (pair_count T.starts) L.further in
      let n₁ : (cond (p && q) (answers_from (locate_all s T (offs hits))) (refused 4)).number ≢ 4 =
      rw (passed_on s h codes P kind wanted L, le-ltb largest_file (length s) P.small) at n in
      let e : (p && q) ≡ true = passed (λ (A : Outcome). A.number) (p && q) (answers_from (locate_all s T (offs hits))) (refused 4) refl n₁ in (
        omega (arith, leb-true (length (offs hits)) L.answers (and_left p q e), length-map hits (λ (z : Hit). z.off)),
        omega (arith, leb-true (pair_count T.starts) L.further (and_right p q e), starts_length s h codes P kind wanted L a),
      )
