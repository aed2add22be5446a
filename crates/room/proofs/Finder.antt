-- More room never makes the finder refuse. Its build and its scan come to the same; locate is given the same start words, and slots and
-- shares with more zeros after them: the slots read alike, and a share that was inside is inside.
-- Assumes nothing.
use Rattle.std.specs.Prelude.{Option, None, Some}
use Prim.Native.Nat.{ℕ, ◌-◌, ◌+◌, ◌*◌, ◌/◌, ◌≤◌}
use native.Mathlib.Omega.{arith}
use mathlib.Core.Path.{◌≡◌, refl, sym, ap, ◌∙◌}
use mathlib.Core.Logic.{⊎_elim}
use mathlib.Core.Bool.{true, false, ◌&&◌}
use mathlib.Core.List.{List, [], ◌∷◌}
use lib.ListN.{length, get_or, replicate, length-append, length-replicate}
use lib.Dec.{ltb, leb, eqb}
use borrow.Author.Tests.{eqb-true, eq-eqb, leb-true, le-leb}
use Rattle.words.specs.Padded.{zeros, padded}
use Rattle.words.proofs.Padded.{padded_at}
use Rattle.words.proofs.Shared.{case}
use Rattle.refusal.specs.Refusals.{is_too_large}
use Rattle.refusal.specs.Outcomes.{Outcome, refused}
use Rattle.start_words.specs.Starts.{pair_count}
use Rattle.tinydex.specs.declared.DexHeader.{DexHeader}
use Rattle.code_item_scan.specs.Scan.{Hit, offs, Asked, asked, Scan, scan_out}
use Rattle.code_table.specs.Slots.{shared, share_at}
use Rattle.code_table.specs.Build.{Build, build_out}
use Rattle.insn_locator.specs.Locate.{Tables, Answered, slot_at, first_of, answered_by, answered, cons_to, and_then, locate_from, locate_all, answers_from}
use Rattle.insn_locator.specs.Locate.{locate_out}
use Rattle.insn_locator.specs.Answers.{tables}
use Rattle.region_search.specs.Search.{Search, searched, search_out}
use Rattle.findrefs.specs.Find.{Lengths, built_tables, found, search_of, find_out}
use Rattle.room.specs.Laws.{LongerAll}
use Rattle.room.proofs.Branches.{same_else, same_then}
use Rattle.room.proofs.Codes.{build_more}
use Rattle.room.proofs.Located.{scan_more, locate_more}

-- what o has, o' has too
abbrev Kept : {A : Type 0} → Option A → Option A → Type 0
Kept {A} o o' = (x : A) → o ≡ Some x → o' ≡ Some x

none_kept : {A : Type 0} (o' : Option A) → Kept None o'
none_kept o' x e = absurd (let z : ◌≡◌ {A = ℕ} 0 1 = cc in omega arith)

same_kept : {A : Type 0} (o o' : Option A) → o ≡ o' → Kept o o'
same_kept o o' q x e = sym q ∙ e

cons_kept : (a : ℕ) (o o' : Option (List ℕ)) → Kept o o' → Kept (cons_to a o) (cons_to a o')
cons_kept a None o' k = none_kept (cons_to a o')
cons_kept a (Some l) o' k = same_kept (Some (a ∷ l)) (cons_to a o') (ap (cons_to a) (sym (k l refl)))

then_kept : (o o' : Option Answered) (f f' : List ℕ → Option (List ℕ)) → Kept o o' → ((l : List ℕ) → Kept (f l) (f' l))
    → Kept (and_then o f) (and_then o' f')
then_kept None o' f f' k g = none_kept (and_then o' f')
then_kept (Some r) o' f f' k g =
    let q : o' ≡ Some r = k r refl in
    λ x e. ap (λ (o : Option Answered). and_then o f') q ∙ cons_kept r.answer (f r.last) (f' r.last) (g r.last) x e

-- ---- locate over tables that read alike, with shares that are no fewer
record Alike (xs xs' ws ws' : List ℕ) : Type 0 where
  slots : (i : ℕ) → get_or xs i 0 ≡ get_or xs' i 0
  shares : (i : ℕ) → get_or ws i 0 ≡ get_or ws' i 0
  longer : length ws ≤ length ws'

module _ (s : List ℕ) (base : ℕ) (starts : List ℕ) {xs xs' ws ws' : List ℕ} (alike : Alike xs xs' ws ws') where
  abbrev T : Tables
  T = tables base xs starts ws

  abbrev T' : Tables
  T' = tables base xs' starts ws'

  first_kept : (v : ℕ) → Kept (first_of ws v) (first_of ws' v)
  unfolding first_of
  first_kept v =
      ⊎_elim
      (λ (a : ltb v shared ≡ true). rw a (λ x e. e))
      (λ (a : ltb v shared ≡ false).
      ⊎_elim
      (λ (b : leb (3 * (v - shared) + 3) (length ws) ≡ true).
      rw (a, b, le-leb (3 * (v - shared) + 3) (length ws') (omega (arith, alike.longer, leb-true (3 * (v - shared) + 3) (length ws) b)))
      (same_kept (Some (share_at ws (v - shared) 0)) (Some (share_at ws' (v - shared) 0)) (ap Some (alike.shares (3 * (v - shared) + 0)))))
      (λ (b : leb (3 * (v - shared) + 3) (length ws) ≡ false). rw (a, b) (none_kept _))
      (case (leb (3 * (v - shared) + 3) (length ws))))
      (case (ltb v shared))

  by_kept : (last : List ℕ) (v t : ℕ) (o o' : Option ℕ) → Kept o o' → Kept (answered_by s starts last v t o) (answered_by s starts last v t o')
  by_kept last v t None o' k = none_kept (answered_by s starts last v t o')
  by_kept last v t (Some m) o' k =
      same_kept (answered_by s starts last v t (Some m)) (answered_by s starts last v t o') (ap (answered_by s starts last v t) (sym (k m refl)))

  answered_kept : (last : List ℕ) (t v : ℕ) → Kept (answered s T last t v) (answered s T' last t v)
  answered_kept last t v =
      ⊎_elim
      (λ (a : eqb v 0 ≡ true). rw a (λ x e. e))
      (λ (a : eqb v 0 ≡ false). rw a (by_kept last v t (first_of ws v) (first_of ws' v) (first_kept v)))
      (case (eqb v 0))

  slot_same : (t : ℕ) → slot_at base xs t ≡ slot_at base xs' t
  unfolding slot_at
  slot_same t = rw (alike.slots (t / 16 - base))

  from_kept : (ts last : List ℕ) → Kept (locate_from s T last ts) (locate_from s T' last ts)
  unfolding locate_from
  from_kept [] last = λ x e. e
  from_kept (t ∷ ts) last =
      rw (slot_same t)
      (then_kept (answered s T last t (slot_at base xs' t)) (answered s T' last t (slot_at base xs' t))
      (λ l. locate_from s T l ts) (λ l. locate_from s T' l ts)
      (answered_kept last t (slot_at base xs' t)) (λ l. from_kept ts l))

  answers_kept : (o o' : Option (List ℕ)) → Kept o o' → (answers_from o).number ≡ 0 → answers_from o' ≡ answers_from o
  answers_kept None o' k e = absurd (omega arith)
  answers_kept (Some l) o' k e = ap answers_from (k l refl)

  tables_more : (entries : List ℕ) (answers further : ℕ) → (locate_out s T entries answers further).number ≡ 0
      → locate_out s T' entries answers further ≡ locate_out s T entries answers further
  unfolding locate_out locate_all
  tables_more entries answers further =
      let n : Outcome → ℕ = λ o. o.number in
      same_else n (is_too_large (length s)) (refused 1) _ _
      (same_then n (leb (length entries) answers && leb (pair_count starts) further) _ _ (refused 4)
      (answers_kept (locate_all s T entries) (locate_all s T' entries) (from_kept entries (replicate (pair_count starts) 0))))

-- ---- words with more zeros after them
padded_same : (n n' : ℕ) (xs : List ℕ) (i : ℕ) → get_or (padded n xs) i 0 ≡ get_or (padded n' xs) i 0
padded_same n n' xs i = padded_at n xs i ∙ sym (padded_at n' xs i)

padded_longer : (n n' : ℕ) (xs : List ℕ) → n ≤ n' → length (padded n xs) ≤ length (padded n' xs)
unfolding padded
padded_longer n n' xs h =
    omega (
      arith,
      length-append xs (zeros (n - length xs)),
      length-append xs (zeros (n' - length xs)),
      length-replicate {A = ℕ} (n - length xs) 0,
      length-replicate {A = ℕ} (n' - length xs) 0,
    )

-- ---- scan and locate
searched_zero : (hits : List Hit) (A : Outcome) → (searched hits A).number ≡ 0 → A.number ≡ 0
searched_zero hits A e =
    ⊎_elim (λ (a : eqb A.number 0 ≡ true). eqb-true A.number 0 a) (λ (a : eqb A.number 0 ≡ false). rw a at e) (case (eqb A.number 0))

-- over the tables of a build, as long as L has them
module _ (s : List ℕ) (A : Asked) (B : Build) where
  abbrev search_in : Lengths → Search
  search_in L = search_out s A (built_tables B L) L.hits L.further L.answers

  search_is : (L : Lengths) → (scan_out s A L.hits).number ≡ 0
      → search_in L
      ≡ searched (scan_out s A L.hits).hits (locate_out s (built_tables B L) (offs (scan_out s A L.hits).hits) L.answers L.further)
  unfolding search_out
  search_is L e = rw (eq-eqb (scan_out s A L.hits).number 0 e)

  scan_zero : (L : Lengths) → (search_in L).number ≡ 0 → (scan_out s A L.hits).number ≡ 0
  unfolding search_out
  scan_zero L e =
      let n : ℕ = (scan_out s A L.hits).number in
      ⊎_elim (λ (b : eqb n 0 ≡ true). eqb-true n 0 b) (λ (b : eqb n 0 ≡ false). rw b at e) (case (eqb n 0))

  built_alike : (L L' : Lengths) → LongerAll L L'
      → Alike (padded L.build.slots B.slots) (padded L'.build.slots B.slots)
      (padded L.build.shares B.shares) (padded L'.build.shares B.shares)
  built_alike L L' M =
      record {
        slots = padded_same L.build.slots L'.build.slots B.slots;
        shares = padded_same L.build.shares L'.build.shares B.shares;
        longer = padded_longer L.build.shares L'.build.shares B.shares M.build.shares;
      }

  search_more : (L L' : Lengths) → LongerAll L L' → (search_in L).number ≡ 0 → search_in L' ≡ search_in L
  search_more L L' M e =
      let S : Scan = scan_out s A L.hits in
      let z : S.number ≡ 0 = scan_zero L e in
      let q : scan_out s A L'.hits ≡ S = scan_more s A L.hits L'.hits M.hits z in
      let T₀ : Tables = built_tables B L in
      let T₁ : Tables = built_tables B L' in
      let y : (locate_out s T₀ (offs S.hits) L.answers L.further).number ≡ 0 =
      searched_zero S.hits (locate_out s T₀ (offs S.hits) L.answers L.further) (rw (search_is L z) at e) in
      let t : locate_out s T₁ (offs S.hits) L.answers L.further ≡ locate_out s T₀ (offs S.hits) L.answers L.further =
      tables_more s (B.from / 16) B.starts (built_alike L L' M) (offs S.hits) L.answers L.further y in
      let l : locate_out s T₁ (offs S.hits) L'.answers L'.further ≡ locate_out s T₁ (offs S.hits) L.answers L.further =
      locate_more s T₁ (offs S.hits) M.answers M.further (ap (λ (o : Outcome). o.number) t ∙ y) in
      search_is L' (ap (λ (x : Scan). x.number) q ∙ z)
      ∙ (ap (λ (x : Scan). searched x.hits (locate_out s T₁ (offs x.hits) L'.answers L'.further)) q
      ∙ (ap (searched S.hits) (l ∙ t) ∙ sym (search_is L z)))

-- ---- the finder
found_zero : (B : Build) (R : Search) → (found B R).number ≡ 0 → R.number ≡ 0
found_zero B R e =
    ⊎_elim (λ (a : eqb R.number 0 ≡ true). eqb-true R.number 0 a) (λ (a : eqb R.number 0 ≡ false). rw a at e) (case (eqb R.number 0))

module _ (s : List ℕ) (h : DexHeader) (kind : ℕ) (wanted : List ℕ) where
  abbrev build_of : Lengths → Build
  build_of L = build_out s h L.build

  pub find_is : (L : Lengths) → (build_of L).number ≡ 0 → find_out s h kind wanted L ≡ found (build_of L) (search_of s kind wanted L (build_of L))
  unfolding find_out
  find_is L e = rw (eq-eqb (build_of L).number 0 e)

  build_zero : (L : Lengths) → (find_out s h kind wanted L).number ≡ 0 → (build_of L).number ≡ 0
  unfolding find_out
  build_zero L e =
      ⊎_elim (λ (b : eqb (build_of L).number 0 ≡ true). eqb-true (build_of L).number 0 b) (λ (b : eqb (build_of L).number 0 ≡ false). rw b at e)
      (case (eqb (build_of L).number 0))

  pub find_more : (L L' : Lengths) → LongerAll L L' → (find_out s h kind wanted L).number ≡ 0 → find_out s h kind wanted L' ≡ find_out s h kind wanted L
  find_more L L' M e =
      let B : Build = build_of L in
      let b : B.number ≡ 0 = build_zero L e in
      let q : build_of L' ≡ B = build_more s h L.build L'.build M.build b in
      let z : (search_of s kind wanted L B).number ≡ 0 = found_zero B (search_of s kind wanted L B) (rw (find_is L b) at e) in
      find_is L' (ap (λ (x : Build). x.number) q ∙ b)
      ∙ (ap (λ (x : Build). found x (search_of s kind wanted L' x)) q
      ∙ (ap (found B) (search_more s (asked kind wanted B.from B.to) B L L' M z)
      ∙ sym (find_is L b)))
