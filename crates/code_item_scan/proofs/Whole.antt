-- The whole scan gives its outcome: the refusals come in the order of SPEC, Scan, and hits stored into zeros are the padded list.
-- Assumes nothing.
use Rattle.std.specs.Prelude.{Option, Result, Ok, Err}
use mathlib.Core.Path.{◌≡◌, refl, ap, sym, ◌∙◌, subst}
use mathlib.Core.Bool.{Bool, true, false, ◌&&◌}
use mathlib.Core.List.{List, [], ◌∷◌}
use mathlib.Core.Logic.{◌⊎◌, ⊎_elim}
use Prim.Native.Nat.{ℕ, ◌+◌, ◌≤◌, ◌<◌, min}
use native.Mathlib.Numerals.{add-one}
use native.Mathlib.Omega.{arith}
use lib.Dec.{leb}
use lib.ListN.{length, set, length-map, length-replicate, length-set}
use lib.Seq.{sets, length-sets}
use borrow.Author.Tests.{le-leb, lt-leb, leb-true, ltb-false}
use Rattle.words.specs.Padded.{zeros}
use Rattle.words.proofs.Padded.{padded_none, sets_zeros}
use Rattle.words.proofs.Shared.{and_left, and_right}
use Rattle.refusal.specs.Refusals.{refusal_number, largest_file}
use Rattle.refusal.specs.declared.Refusal.{Refusal}
use Rattle.refusal.specs.declared.Refusal.TheVariants.{FileTooLarge, UnknownKind, RegionOutside, LentTooShort}
use Rattle.dalvik.specs.Instructions as dalvik
use Rattle.kinds.specs.declared.Kind.{Kind}
use Rattle.kinds.specs.Kinds.{meant}
use Rattle.code_item_scan.specs.Scan as S
use Rattle.code_item_scan.specs.Next.{Finds}
use Rattle.code_item_scan.specs.declared.Found.{Found}
use Rattle.code_item_scan.specs.Answers.{HitWords, hit_room_of, Gives}
use Rattle.code_item_scan.specs.Steps.{Admitted, large, unknown, backward, past_end, scan, Cleared, fits_both, Settled, Collected, Region}

-- ---- what an admission says

module _ (s : List ℕ) (A : S.Asked) {r : (Result Kind Refusal)} where
  module _ (known : Kind) (e : r ≡ Ok known) where
    pub admitted_region : Admitted (length s) A.from A.to A.kind r → Region s A.from A.to
    admitted_region (large f l) = let z : ◌≡◌ {A = ℕ} 0 1 = cc in absurd (omega arith)
    admitted_region (unknown f l k) = let z : ◌≡◌ {A = ℕ} 0 1 = cc in absurd (omega arith)
    admitted_region (backward k f l i h) = let z : ◌≡◌ {A = ℕ} 0 1 = cc in absurd (omega arith)
    admitted_region (past_end k f l i g h) = let z : ◌≡◌ {A = ℕ} 0 1 = cc in absurd (omega arith)
    admitted_region (scan k f l i g h) = record { forward = g; inside = h; small = ltb-false largest_file (length s) l }

    pub admitted_scan : (R : S.HitRoom) → Admitted (length s) A.from A.to A.kind r
        → S.scan_out s A R ≡ S.scanned R (S.hits_of s (meant known) A.wanted A.from A.to)
    unfolding S.scan_out
    admitted_scan R (large f l) = let z : ◌≡◌ {A = ℕ} 0 1 = cc in absurd (omega arith)
    admitted_scan R (unknown f l k) = let z : ◌≡◌ {A = ℕ} 0 1 = cc in absurd (omega arith)
    admitted_scan R (backward k f l i h) = let z : ◌≡◌ {A = ℕ} 0 1 = cc in absurd (omega arith)
    admitted_scan R (past_end k f l i g h) = let z : ◌≡◌ {A = ℕ} 0 1 = cc in absurd (omega arith)
    admitted_scan R (scan k f l i g h) =
        let d : k ≡ known = cc in
        simp (l, i, le-leb A.from A.to g, le-leb A.to (length s) h)
        (ap (λ (j : Kind). S.scanned R (S.hits_of s (meant j) A.wanted A.from A.to)) d)

  pub admitted_refusal : (R : S.HitRoom) (why : Refusal) → r ≡ Err why → Admitted (length s) A.from A.to A.kind r
      → S.scan_out s A R ≡ S.no_scan (refusal_number why)
  unfolding S.scan_out
  admitted_refusal R why e (large f l) = let d : FileTooLarge ≡ why = cc in simp l (ap (λ (x : Refusal). S.no_scan (refusal_number x)) d)
  admitted_refusal R why e (unknown f l k) = let d : UnknownKind ≡ why = cc in simp (l, k) (ap (λ (x : Refusal). S.no_scan (refusal_number x)) d)
  admitted_refusal R why e (backward k f l i h) =
      let d : RegionOutside ≡ why = cc in
      simp (l, i, lt-leb A.from A.to h) (ap (λ (x : Refusal). S.no_scan (refusal_number x)) d)
  admitted_refusal R why e (past_end k f l i g h) =
      let d : RegionOutside ≡ why = cc in
      simp (l, i, le-leb A.from A.to g, lt-leb A.to (length s) h) (ap (λ (x : Refusal). S.no_scan (refusal_number x)) d)
  admitted_refusal R why e (scan k f l i g h) = let z : ◌≡◌ {A = ℕ} 0 1 = cc in absurd (omega arith)

-- ---- a hit of a region that lies in the file

pub found_inside : {s : List ℕ} {kind : dalvik.Kind} {wants : ℕ → Bool} {from at to : ℕ} {r : Option Found} → Region s from to
    → Finds s (S.sought kind wants at (min to (length s))) r
    → Finds s (S.sought kind wants at to) r
found_inside {s} {kind} {wants} {at = at} {to = to} {r = r} g f =
    let cut : min to (length s) ≡ to = omega (arith, g) in
    subst (λ (n : ℕ). Finds s (S.sought kind wants at n) r) cut f

-- ---- the hits stored so far: n are stored, and fs of all are still to come

pub record Going (all : List S.Hit) (before words : HitWords) (fs : List S.Hit) (n : ℕ) : Type 0 where
  pub counted : n + length fs ≡ length all
  pub starts : sets words.offs n (S.offs fs) ≡ sets before.offs 0 (S.offs all)
  pub indices : sets words.marks n (S.marks fs) ≡ sets before.marks 0 (S.marks all)
  pub offs_kept : length words.offs ≡ length before.offs
  pub marks_kept : length words.marks ≡ length before.marks

pub going_start : (all : List S.Hit) (before : HitWords) → Going all before before all 0
going_start all before = record { counted = omega arith; starts = refl; indices = refl; offs_kept = refl; marks_kept = refl }

module _ {all : List S.Hit} {before words : HitWords} {n : ℕ} where
  -- one hit more
  pub going_on : {fs : List S.Hit} (h : S.Hit) (rest : List S.Hit) (after : HitWords) → Going all before words fs n → fs ≡ h ∷ rest
      → after.offs ≡ set words.offs n h.off → after.marks ≡ set words.marks n h.mark → Going all before after rest (n + 1)
  going_on h rest after g e o m =
      let f : Going all before words (h ∷ rest) n = subst (λ (l : List S.Hit). Going all before words l n) e g in
      record {
        counted = omega (arith, f.counted);
        starts = rw (o, add-one n) f.starts;
        indices = rw (m, add-one n) f.indices;
        offs_kept = ap length o ∙ simp length-set f.offs_kept;
        marks_kept = ap length m ∙ simp length-set f.marks_kept;
      }

  pub going_end : {fs : List S.Hit} → Going all before words fs n → fs ≡ [] → Collected all before words n
  going_end g e =
      let f : Going all before words [] n = subst (λ (l : List S.Hit). Going all before words l n) e g in
      record { counted = omega (arith, f.counted); starts = f.starts; indices = f.indices }

-- ---- the answer

and_false : (b : Bool) → (b && false) ≡ false
and_false true = refl
and_false false = refl

module _ (n : ℕ) (before : HitWords) where
  pub settle_kept : n ≤ length before.offs → n ≤ length before.marks → Settled n before before (Ok n)
  settle_kept a b =
      let e : fits_both n before ≡ true = simp (le-leb n (length before.offs) a, le-leb n (length before.marks) b) in
      record { answer = rw e; starts = rw e; indices = rw e }

  pub settle_cleared : (after : HitWords) → (length before.offs < n) ⊎ (length before.marks < n) → Cleared before after
      → Settled n before after (Err LentTooShort)
  settle_cleared after h z =
      let e : fits_both n before ≡ false =
      ⊎_elim (λ a. rw (lt-leb n (length before.offs) a))
      (λ b. rw (lt-leb n (length before.marks) b) (and_false (leb n (length before.offs)))) h in
      record { answer = rw e; starts = rw e z.starts; indices = rw e z.indices }

pub gives_refused : {o : S.Scan} {before after : HitWords} (why : Refusal) → o ≡ S.no_scan (refusal_number why) → Cleared before after
    → Gives o (Err why) before after
gives_refused {before = before} why e z =
    rw e
    (record {
      number = refl;
      count = refl;
      starts = z.starts ∙ sym (padded_none (length before.offs));
      indices = z.indices ∙ sym (padded_none (length before.marks));
    })

-- hits collected into zeros, and settled
module _ {o : S.Scan} {r : (Result ℕ Refusal)} {before cleared filled after : HitWords} {n : ℕ} {hits : List S.Hit}
    (e : o ≡ S.scanned (hit_room_of before) hits) (z : Cleared before cleared) (g : Collected hits cleared filled n) (t : Settled n filled after r) where
  offs_long : length filled.offs ≡ length before.offs
  offs_long = ap length g.starts ∙ simp (length-sets, z.starts, length-replicate)

  marks_long : length filled.marks ≡ length before.marks
  marks_long = ap length g.indices ∙ simp (length-sets, z.indices, length-replicate)

  fits : length hits ≤ length before.offs → length hits ≤ length before.marks → r ≡ Ok n → after.offs ≡ filled.offs
      → after.marks ≡ filled.marks
      → Gives o r before after
  fits a b er eo em =
      let f : o ≡ record { number = 0; hits = hits } =
      e ∙ simp (le-leb (length hits) (length before.offs) a, le-leb (length hits) (length before.marks) b) in
      rw (f, er)
      (record {
        number = refl;
        count = g.counted;
        starts = eo ∙ g.starts ∙ sets_zeros (length before.offs) (S.offs hits) z.starts (simp length-map a);
        indices = em ∙ g.indices ∙ sets_zeros (length before.marks) (S.marks hits) z.indices (simp length-map b);
      })

  settled_by : (b : Bool) → fits_both n filled ≡ b → Gives o r before after
  settled_by true q =
      let a = leb-true n (length filled.offs) (and_left (leb n (length filled.offs)) (leb n (length filled.marks)) q) in
      let b = leb-true n (length filled.marks) (and_right (leb n (length filled.offs)) (leb n (length filled.marks)) q) in
      fits (omega (arith, g.counted, offs_long)) (omega (arith, g.counted, marks_long)) (t.answer ∙ rw q) (t.starts ∙ rw q) (t.indices ∙ rw q)
  settled_by false q =
      let f : S.scanned (hit_room_of before) hits ≡ S.no_scan 4 = rw (← g.counted, ← offs_long, ← marks_long, q) in
      let er : r ≡ Err LentTooShort = t.answer ∙ rw q in
      rw er
      (gives_refused LentTooShort (e ∙ f)
      (record { starts = t.starts ∙ rw q (ap zeros offs_long); indices = t.indices ∙ rw q (ap zeros marks_long) }))

  pub gives_settled : Gives o r before after
  gives_settled = settled_by (fits_both n filled) refl
