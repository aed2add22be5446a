-- The slot table when all codes are placed: each bucket of an array has a slot that stands for the methods of its code item, as arranged, and
-- any other bucket has 0. Different arrays have no bucket in common, so an array's slots are written only by its own methods, and each of
-- them sees at the start slot the word of the one before.
-- Assumes nothing.
use Prim.Native.Nat.{ℕ, suc, ◌+◌, ◌-◌, ◌*◌, ◌≤◌, ◌<◌}
use native.Mathlib.Omega.{arith}
use mathlib.Core.Path.{◌≡◌, refl, ◌∙◌}
use mathlib.Core.Logic.{⊎_elim}
use mathlib.Core.List.{List, [], ◌∷◌, ◌++◌, append-nil, append_assoc, Memᴰ}
use lib.ListN.{length, get_or, replicate, length-replicate}
use borrow.Author.Tests.{eq-eqb, ne_eqb}
use Rattle.words.specs.Padded.{stretch}
use Rattle.words.proofs.Padded.{get_or_zeros, length_stretch}
use Rattle.dalvik.specs.CodeItem.{Code}
use Rattle.class_data.specs.Stored.{first_bucket, last_bucket}
use Rattle.code_table.specs.Slots.{base_of, top_of, Table, joined, joined_slot, place, table_from, table_of}
use Rattle.code_table.proofs.Buckets.{base_le, top_lt}
use Rattle.completeness.specs.Completeness.{Supposed, sharing, arranged}
use Rattle.completeness.proofs.Tests.{eq_or_not, lt_or_le}
use Rattle.completeness.proofs.Members.{sharing_append}
use Rattle.completeness.proofs.Buckets.{InBuckets, one_item, one_offset}
use Rattle.completeness.proofs.Shares.{Stands, free, stands_append, adds, arranged_snoc, join, joined_length}
use Rattle.completeness.proofs.Stretches.{stretch_below, stretch_in, stretch_above}

-- the slot word of bucket b
abbrev pub word_at : ℕ → Table → ℕ → ℕ
word_at base t b = get_or t.slots (b - base) 0

-- what a code sees at its start slot, and the word that its slots get
abbrev seen : ℕ → Code → Table → ℕ
seen base c t = word_at base t (first_bucket c)

abbrev word : ℕ → Code → Table → ℕ
word base c t = joined_slot (seen base c t) c.method t.shares

place_slots : (base : ℕ) (c : Code) (t : Table)
    → (place base c t).slots ≡ stretch t.slots (first_bucket c - base) (suc (last_bucket c) - first_bucket c) (word base c t)
unfolding place
place_slots base c t = refl

place_shares : (base : ℕ) (c : Code) (t : Table) → (place base c t).shares ≡ t.shares ++ joined (seen base c t) c.method t.shares
unfolding place
place_shares base c t = refl

module _ {s : List ℕ} {mapoff classes_off classes methods : ℕ} {codes : List Code} (P : Supposed s mapoff classes_off classes methods codes) where
  -- an array has a unit
  pub some_units : (c : Code) → Memᴰ c codes → 0 < c.units
  some_units c m = omega (arith, (P.each c m).array.one_or_more)

  -- the table after some of the codes
  record Good (done : List Code) (t : Table) : Type 0 where
    n : ℕ
    whole : length t.shares ≡ 3 * n
    roomy : length t.slots ≡ top_of codes - base_of codes
    held : (d : Code) → Memᴰ d codes → (b : ℕ) → InBuckets d b
        → Stands t.shares (word_at (base_of codes) t b) (arranged (sharing done d.off))
    vacant : (b : ℕ) → base_of codes ≤ b → ((d : Code) → Memᴰ d codes → InBuckets d b → ⊥) → word_at (base_of codes) t b ≡ 0

  at_first : Good [] (record { slots = replicate (top_of codes - base_of codes) 0; shares = [] })
  at_first = record {
    n = 0;
    whole = refl;
    roomy = length-replicate (top_of codes - base_of codes) 0;
    held = λ d m b i. free (get_or_zeros (top_of codes - base_of codes) (b - base_of codes));
    vacant = λ b le f. get_or_zeros (top_of codes - base_of codes) (b - base_of codes);
  }

  module _ (c : Code) (m : Memᴰ c codes) (t : Table) (roomy : length t.slots ≡ top_of codes - base_of codes) where
    abbrev a : ℕ
    a = first_bucket c - base_of codes

    abbrev n : ℕ
    n = suc (last_bucket c) - first_bucket c

    abbrev w : ℕ
    w = word (base_of codes) c t

    -- the slots of c lie inside the table
    fits : a + n ≤ length t.slots
    fits = omega (arith, base_le m, top_lt m, some_units c m)

    -- where the bucket is none of c's, placing c leaves its slot
    outside : (b : ℕ) → base_of codes ≤ b → (InBuckets c b → ⊥) → word_at (base_of codes) (place (base_of codes) c t) b ≡ word_at (base_of codes) t b
    outside b le f =
        rw (place_slots (base_of codes) c t)
        (⊎_elim
        (λ (h : b < first_bucket c).
        stretch_below t.slots a n w fits (b - base_of codes) (omega arith))
        (λ (h : first_bucket c ≤ b).
        ⊎_elim
        (λ (k : last_bucket c < b).
        stretch_above t.slots a n w fits (b - base_of codes)
        (omega (arith, base_le m, some_units c m)))
        (λ (k : b ≤ last_bucket c). absurd (f (record { from_first = h; to_last = k })))
        (lt_or_le (last_bucket c) b))
        (lt_or_le b (first_bucket c)))

    -- where it is one of c's, its slot becomes the joined word
    inside : (b : ℕ) → InBuckets c b → word_at (base_of codes) (place (base_of codes) c t) b ≡ w
    inside b i =
        rw (place_slots (base_of codes) c t)
        (stretch_in t.slots a n w fits (b - base_of codes)
        (omega (arith, i.from_first)) (omega (arith, i.from_first, i.to_last, base_le m)))

    same_room : length (place (base_of codes) c t).slots ≡ top_of codes - base_of codes
    same_room =
        rw (place_slots (base_of codes) c t)
        (length_stretch t.slots a n w fits ∙ roomy)

  bucket_first : (c : Code) → Memᴰ c codes → InBuckets c (first_bucket c)
  bucket_first c m = record { from_first = omega arith; to_last = omega (arith, some_units c m) }

  placed : (done : List Code) (c : Code) (t : Table) → Memᴰ c codes → Good done t → Good (done ++ (c ∷ [])) (place (base_of codes) c t)
  placed done c t m g = record {
    n = len.0;
    whole = rw (place_shares (base_of codes) c t) len.1;
    roomy = same_room c m t g.roomy;
    held = λ d k b i. ⊎_elim (mine d k b i) (other d k b i) (eq_or_not c.off d.off);
    vacant = λ b le f. outside c m t g.roomy b le (f c m) ∙ g.vacant b le f;
  }
    where
      len : (k : ℕ) × (length (t.shares ++ joined (seen (base_of codes) c t) c.method t.shares) ≡ 3 * k)
      len = joined_length t.shares (seen (base_of codes) c t) c.method g.n g.whole

      with_c : (d : Code) → c.off ≡ d.off → arranged (sharing (done ++ (c ∷ [])) d.off) ≡ adds (arranged (sharing done c.off)) c.method
      with_c d e = rw (sharing_append done (c ∷ []) d.off, ← e, eq-eqb c.off c.off refl) (arranged_snoc (sharing done c.off) c.method)

      without_c : (d : Code) → (c.off ≡ d.off → ⊥) → sharing (done ++ (c ∷ [])) d.off ≡ sharing done d.off
      without_c d f = rw (sharing_append done (c ∷ []) d.off, ne_eqb c.off d.off f) (append-nil (sharing done d.off))

      mine : (d : Code) → Memᴰ d codes → (b : ℕ) → InBuckets d b → c.off ≡ d.off
          → Stands (place (base_of codes) c t).shares (word_at (base_of codes) (place (base_of codes) c t) b)
          (arranged (sharing (done ++ (c ∷ [])) d.off))
      mine d k b i e =
          let u : c.units ≡ d.units = one_offset c d (P.apart c d m k) e in
          let j : InBuckets c b = record { from_first = omega (arith, i.from_first); to_last = omega (arith, i.to_last) } in
          rw (inside c m t g.roomy b j, place_shares (base_of codes) c t, with_c d e)
          (join c.method g.n (g.held c m (first_bucket c) (bucket_first c m)) (P.each c m).small g.whole)

      other : (d : Code) → Memᴰ d codes → (b : ℕ) → InBuckets d b → (c.off ≡ d.off → ⊥)
          → Stands (place (base_of codes) c t).shares (word_at (base_of codes) (place (base_of codes) c t) b)
          (arranged (sharing (done ++ (c ∷ [])) d.off))
      other d k b i f =
          rw (
            outside c m t g.roomy b (omega (arith, base_le k, i.from_first)) (λ j. f (one_item c d b (P.apart c d m k) j i)),
            place_shares (base_of codes) c t,
            without_c d f,
          )
          (stands_append (joined (seen (base_of codes) c t) c.method t.shares) (g.held d k b i))

  all_placed : (done cs : List Code) (t : Table) → ((c : Code) → Memᴰ c cs → Memᴰ c codes) → Good done t
      → Good (done ++ cs) (table_from (base_of codes) t cs)
  all_placed done [] t f g = rw append-nil g
  all_placed done (c ∷ cs) t f g =
      rw (← append_assoc done (c ∷ []) cs)
      (all_placed (done ++ (c ∷ [])) cs (place (base_of codes) c t) (λ d m. f d (Memᴰ.tail m)) (placed done c t (f c (Memᴰ.head refl)) g))

  good : Good codes (table_of codes)
  unfolding table_of
  good = all_placed [] codes (record { slots = replicate (top_of codes - base_of codes) 0; shares = [] }) (λ c m. m) at_first

  pub slot_held : (d : Code) → Memᴰ d codes → (b : ℕ) → InBuckets d b
      → Stands (table_of codes).shares (word_at (base_of codes) (table_of codes) b) (arranged (sharing codes d.off))
  slot_held = good.held

  pub slot_vacant : (b : ℕ) → base_of codes ≤ b → ((d : Code) → Memᴰ d codes → InBuckets d b → ⊥) → word_at (base_of codes) (table_of codes) b ≡ 0
  slot_vacant = good.vacant
