-- The slot of a bucket of an array names a method whose start words are that array's, and lists the methods of its code item; locate asks
-- for nothing that isn't there. Zeros after the build's results are never seen.
-- Assumes nothing.
use Rattle.std.specs.Prelude.{Some}
use Prim.Native.Nat.{ℕ, ◌-◌, ◌/◌, ◌≤◌, ◌<◌}
use native.Mathlib.Omega.{arith}
use mathlib.Core.Path.{◌≡◌, refl, sym, ◌∙◌}
use mathlib.Core.Logic.{⊎_elim, ◌≢◌}
use mathlib.Core.Bool.{true, false, cond, ◌&&◌}
use mathlib.Core.List.{List, ◌∷◌, Memᴰ}
use lib.Dec.{ltb}
use borrow.Author.Tests.{le-leb, lt-leb, lt-ltb}
use Rattle.words.specs.Padded.{padded}
use Rattle.words.proofs.Padded.{padded_at}
use Rattle.words.proofs.Shared.{case, some_inj}
use Rattle.dalvik.specs.CodeItem.{Code, start, stop}
use Rattle.start_words.specs.Starts.{pair_of}
use Rattle.start_words.proofs.Starts.{pair_padded}
use Rattle.class_data.specs.Stored.{starts_of}
use Rattle.code_table.specs.Slots.{base_of, table_of}
use Rattle.code_table.proofs.Buckets.{base_le}
use Rattle.insn_walk.specs.Walk.{lands}
use Rattle.insn_locator.specs.Locate.{Tables, slot_at, first_of}
use Rattle.slot_listing.specs.Listing.{listed}
use Rattle.completeness.specs.Completeness.{Supposed, sharing, arranged}
use Rattle.completeness.proofs.Tests.{lt_or_le}
use Rattle.completeness.proofs.Members.{head_of, mem_sharing, Sharer, sharer, mem_arranged, arranged_mem}
use Rattle.completeness.proofs.Buckets.{InBuckets, one_offset, owner_of}
use Rattle.completeness.proofs.Shares.{Stands, stands_padded, stands_lists, stands_first, stands_some}
use Rattle.completeness.proofs.Slots.{slot_held, slot_vacant}
use Rattle.completeness.proofs.Starts.{array_of, starts_of_mem}
use Rattle.insn_locator.proofs.Alone.{confirms}
use Rattle.insn_locator.proofs.Built.{Answerable, no_method, by}
use Rattle.completeness.proofs.Locates.{Answer, vacant, walked}

-- what a build returned, with zeros after
abbrev pub tables_for : ℕ → List Code → ℕ → ℕ → ℕ → Tables
tables_for methods codes i j k = record {
  base = base_of codes;
  slots = padded i (table_of codes).slots;
  starts = padded j (starts_of methods codes);
  shares = padded k (table_of codes).shares;
}

abbrev pub slot_of : Tables → ℕ → ℕ
slot_of T t = slot_at T.base T.slots t

-- what the slot of a bucket of d's array says
pub record Owner (T : Tables) (codes : List Code) (d : Code) (t : ℕ) : Type 0 where
  pub m : ℕ
  pub first : first_of T.shares (slot_of T t) ≡ Some m
  pub array : pair_of T.starts m ≡ Some (array_of d)
  pub not_free : slot_of T t ≢ 0
  pub lists : listed T.shares (slot_of T t) ≡ Some (arranged (sharing codes d.off))

-- locate's answer in such a bucket
pub answer_is : (s : List ℕ) (T : Tables) (codes : List Code) (d : Code) (t r : ℕ) → Owner T codes d t
    → Answer s T.starts T.shares t (slot_of T t) r → r ≡ cond (ltb t (stop d) && lands s (start d) t) (slot_of T t) 0
answer_is s T codes d t r o (vacant e q) = absurd (o.not_free e)
answer_is s T codes d t r o (walked m f p i q) =
    let z : m ≡ o.m = some_inj (sym f ∙ o.first) in
    let y : p ≡ array_of d = some_inj (sym i ∙ rw z o.array) in
    q ∙ rw (y, lt-ltb 0 (start d) (omega arith))

-- and where the slot is free
pub no_answer : (s starts shares : List ℕ) (t v a : ℕ) → v ≡ 0 → Answer s starts shares t v a → a ≡ 0
no_answer s starts shares t v a z (vacant e q) = q
no_answer s starts shares t v a z (walked m f p i q) =
    ⊎_elim
    (λ (h : confirms s p t ≡ true). (rw h at q) ∙ z)
    (λ (h : confirms s p t ≡ false). rw h at q)
    (case (confirms s p t))

module _ {s : List ℕ} {mapoff classes_off classes methods : ℕ} {codes : List Code} (P : Supposed s mapoff classes_off classes methods codes) (i j k : ℕ) where
  abbrev T : Tables
  T = tables_for methods codes i j k

  slot_stands : (d : Code) → Memᴰ d codes → (t : ℕ) → InBuckets d (t / 16)
      → Stands T.shares (slot_of T t) (arranged (sharing codes d.off))
  unfolding slot_at
  slot_stands d m t b =
      rw (le-leb (base_of codes) (t / 16) (omega (arith, b.from_first, base_le m)), padded_at i (table_of codes).slots (t / 16 - base_of codes))
      (stands_padded k (slot_held P d m (t / 16) b))

  pub slot_free : (t : ℕ) → ((d : Code) → Memᴰ d codes → InBuckets d (t / 16) → ⊥) → slot_of T t ≡ 0
  unfolding slot_at
  slot_free t f =
      ⊎_elim
      (λ (h : t / 16 < base_of codes). rw (lt-leb (base_of codes) (t / 16) h))
      (λ (h : base_of codes ≤ t / 16).
      rw (le-leb (base_of codes) (t / 16) h, padded_at i (table_of codes).slots (t / 16 - base_of codes)) (slot_vacant P (t / 16) h f))
      (lt_or_le (t / 16) (base_of codes))

  owner_by : (d : Code) → Memᴰ d codes → (t : ℕ) → InBuckets d (t / 16) → (m : ℕ) (r : List ℕ) → arranged (sharing codes d.off) ≡ m ∷ r
      → Owner T codes d t
  owner_by d mem t b m r e =
      let S : Stands T.shares (slot_of T t) (arranged (sharing codes d.off)) = slot_stands d mem t b in
      let S' : Stands T.shares (slot_of T t) (m ∷ r) = rw e at S in
      let own : Sharer codes d.off m = sharer codes d.off m (arranged_mem (sharing codes d.off) (rw e (Memᴰ.head refl))) in
      let below : m < methods = rw own.its at (P.each own.d own.found).below in
      let units : own.d.units ≡ d.units = one_offset own.d d (P.apart own.d d own.found mem) own.there in
      let A : pair_of (starts_of methods codes) own.d.method ≡ Some (array_of own.d) =
      starts_of_mem methods own.found P.once (P.each own.d own.found).below in
      record {
        m = m;
        first = stands_first S';
        array = pair_padded (starts_of methods codes) m j (array_of d) (rw (own.its, own.there, units) at A);
        not_free = stands_some S';
        lists = stands_lists S;
      }

  pub owner : (d : Code) → Memᴰ d codes → (t : ℕ) → InBuckets d (t / 16) → Owner T codes d t
  owner d mem t b =
      let h = head_of (mem_arranged (sharing codes d.off) (mem_sharing d.off mem refl)) in
      owner_by d mem t b h.0 h.1 h.2

  pub answerable : (t : ℕ) → Answerable T.starts T.shares (slot_of T t)
  answerable t =
      ⊎_elim
      (λ (r : (d : Code) × Memᴰ d codes × InBuckets d (t / 16)).
      let o : Owner T codes r.0 t = owner r.0 r.1 t r.2 in
      by o.not_free o.m o.first (array_of r.0) o.array)
      (λ f. no_method (slot_free t f))
      (owner_of codes (t / 16))
