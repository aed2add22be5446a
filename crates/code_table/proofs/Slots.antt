-- Laws of the slot table. The table of the codes so far grows by one code at a time: slots are only overwritten and shares only appended,
-- so the lent words that hold it hold the next one after one stretch is filled and one share put after the others.
--     first_word, last_word, method_word    the three words of code i
--     lowest_step, top_step                 one code more
--     held_free, held_share, held_over      a code placed in lent words
--     up_to, table_all, table_length, table_over   the first i codes placed
--     placeable, turn                       code i placed by its triple
-- Assumes nothing.
use Rattle.std.specs.Prelude.{Option, Some, None}
use mathlib.Core.Path.{◌≡◌, refl, sym, ap, ap₂, subst, ◌∙◌}
use mathlib.Core.List.{List, [], ◌∷◌, ◌++◌, append_assoc, append-nil}
use Prim.Native.Nat.{ℕ, zero, suc, ◌+◌, ◌-◌, ◌*◌, ◌/◌, ◌≤◌, ◌<◌, min, max}
use native.Mathlib.Numerals.{add-one}
use native.Mathlib.Omega.{arith}
use lib.Dec.{ltb}
use lib.ListN.{length, get_or, take, drop, replicate, length-append, length-replicate, take-append-drop}
use lib.Seq.{sets, take-suc, drop-cons, take_all}
use borrow.Author.Tests.{lt-ltb, le-ltb, eq-eqb, ne_eqb}
use Rattle.words.specs.Padded.{zeros, padded, stretch}
use Rattle.words.proofs.Padded.{padded_none, padded_at, padded_push, padded_zeros, length_stretch, stretch_padded}
use Rattle.words.proofs.Shared.{cond_elim}
use Rattle.dalvik.specs.CodeItem.{Code}
use Rattle.class_data.specs.Stored.{first_bucket, last_bucket, triples_of}
use Rattle.code_table.specs.Slots.{lowest, base_of, top_of, shared, joined, joined_slot, Table, place, table_from, table_of}
use Rattle.code_table.specs.Steps.{no_code, Triples, room, Words, SlotWords, slot_words, Holds, After, Placeable, PlacedIn}
use Rattle.code_table.specs.declared.Triple.{Triple}
use Rattle.code_table.proofs.Buckets.{base_least, top_greatest}

-- ---- the three words of a code
three_more : (k r : ℕ) → 3 * suc k + r ≡ suc (suc (suc (3 * k + r)))
three_more k r = omega arith

word_of : (cs : List Code) (i j : ℕ) → i < length cs → j < 3 → get_or (triples_of cs) (3 * i + j) 0 ≡ get_or (triples_of (get_or cs i no_code ∷ [])) j 0
unfolding triples_of
word_of [] i j h q = absurd (omega arith)
word_of (c ∷ cs) zero zero h q = refl
word_of (c ∷ cs) zero (suc zero) h q = refl
word_of (c ∷ cs) zero (suc (suc zero)) h q = refl
word_of (c ∷ cs) zero (suc (suc (suc j))) h q = absurd (omega arith)
word_of (c ∷ cs) (suc i) j h q = rw three_more (word_of cs i j (omega arith) q)

module _ {ts : List ℕ} {n : ℕ} {cs : List Code} (T : Triples ts n cs) (i : ℕ) (h : i < n) where
  at_word : (j : ℕ) → j < 3 → get_or ts (3 * i + j) 0 ≡ get_or (triples_of (get_or cs i no_code ∷ [])) j 0
  at_word j q =
      let k : i < length cs = omega (arith, T.count) in
      ap (λ (l : List ℕ). get_or l (3 * i + j) 0) T.words ∙ padded_at (length ts) (triples_of cs) (3 * i + j) ∙ word_of cs i j k q

  pub first_word : get_or ts (3 * i) 0 ≡ first_bucket (get_or cs i no_code)
  unfolding triples_of
  first_word =
      let e : 3 * i ≡ 3 * i + 0 = omega arith in
      ap (λ (k : ℕ). get_or ts k 0) e ∙ at_word 0 (omega arith)

  pub last_word : get_or ts (3 * i + 1) 0 ≡ last_bucket (get_or cs i no_code)
  unfolding triples_of
  last_word = at_word 1 (omega arith)

  pub method_word : get_or ts (3 * i + 2) 0 ≡ (get_or cs i no_code).method
  unfolding triples_of
  method_word = at_word 2 (omega arith)

-- ---- the least bucket, and one more than the greatest
pub lowest_step : (r : ℕ) (cs : List Code) (i : ℕ) → i < length cs
    → lowest (min r (first_bucket (get_or cs i no_code))) (drop (i + 1) cs) ≡ lowest r (drop i cs)
lowest_step r cs i h = rw (add-one, drop-cons cs i no_code h)

pub top_step : (r : ℕ) (cs : List Code) (i : ℕ) → i < length cs
    → max (max r (last_bucket (get_or cs i no_code) + 1)) (top_of (drop (i + 1) cs)) ≡ max r (top_of (drop i cs))
top_step r cs i h = rw (add-one i, drop-cons cs i no_code h) (omega arith)

seed : (cs : List Code) → lowest (get_or (triples_of cs) 0 0) (drop 1 cs) ≡ base_of cs
unfolding triples_of
seed [] = refl
seed (c ∷ cs) = refl

pub lowest_seed_word : {ts : List ℕ} {n : ℕ} {cs : List Code} → Triples ts n cs → lowest (get_or ts 0 0) (drop 1 cs) ≡ base_of cs
lowest_seed_word {ts} {n} {cs} T =
    ap (λ (l : List ℕ). lowest (get_or l 0 0) (drop 1 cs)) T.words
    ∙ ap (λ (x : ℕ). lowest x (drop 1 cs)) (padded_at (length ts) (triples_of cs) 0)
    ∙ seed cs

-- ---- words put after the others
padded_more : (n : ℕ) (xs ys : List ℕ) (k : ℕ) → k ≡ length xs → k + length ys ≤ n → sets (padded n xs) k ys ≡ padded n (xs ++ ys)
padded_more n xs [] k e h = rw append-nil
padded_more n xs (y ∷ ys) k e h =
    let l : suc k ≡ length (xs ++ y ∷ []) = simp length-append (omega arith) in
    ap (λ (z : List ℕ). sets z (suc k) ys) (padded_push n xs k y (sym e) (omega arith))
    ∙ padded_more n (xs ++ y ∷ []) ys (suc k) l (omega arith)
    ∙ ap (padded n) (append_assoc xs (y ∷ []) ys)

-- ---- the share that a method adds
module _ (v m : ℕ) (ws : List ℕ) where
  pub joined_free : v ≡ 0 → joined v m ws ≡ []
  unfolding joined
  joined_free e = rw (eq-eqb v 0 e)

  pub joined_single : 0 < v → v < shared → joined v m ws ≡ m ∷ (v - 1) ∷ 0 ∷ []
  unfolding joined
  joined_single z h =
      let n : v ≡ 0 → ⊥ = omega arith in
      rw (ne_eqb v 0 n, lt-ltb v shared h)

  pub joined_share : shared ≤ v → joined v m ws ≡ get_or ws (3 * (v - shared)) 0 ∷ m ∷ (v - shared + 1) ∷ []
  unfolding joined
  joined_share h =
      let n : v ≡ 0 → ⊥ = omega arith in
      let e : 3 * (v - shared) + 0 ≡ 3 * (v - shared) = omega arith in
      rw (ne_eqb v 0 n, le-ltb v shared h) (ap (λ (i : ℕ). get_or ws i 0 ∷ m ∷ (v - shared + 1) ∷ []) e)

  joined_three : (v ≡ 0 → ⊥) → length (joined v m ws) ≡ 3
  unfolding joined
  joined_three n = rw (ne_eqb v 0 n) (cond_elim (λ (l : List ℕ). length l ≡ 3) (ltb v shared) _ _ (λ q. refl) (λ q. refl))

  pub slot_free : v ≡ 0 → joined_slot v m ws ≡ m + 1
  unfolding joined_slot
  slot_free e = rw (eq-eqb v 0 e)

  pub slot_share : (v ≡ 0 → ⊥) → joined_slot v m ws ≡ shared + length ws / 3
  unfolding joined_slot
  slot_share n = rw (ne_eqb v 0 n)

joined_padded : (W v m : ℕ) (ws : List ℕ) → joined v m (padded W ws) ≡ joined v m ws
unfolding joined
joined_padded W v m ws = rw padded_at

-- ---- a code placed in lent words
module _ {N W base : ℕ} {x : Triple} {c : Code} {t : Table} {lent : SlotWords} {k : ℕ} (H : Holds N W t lent k) (w : Words c x)
    (above : base ≤ x.first) (rises : x.first ≤ x.last) (inside : x.last - base < length t.slots) where
  abbrev f : ℕ
  f = x.first

  abbrev l : ℕ
  l = x.last

  abbrev m : ℕ
  m = x.method

  abbrev xs : List ℕ
  xs = lent.slots

  abbrev ws : List ℕ
  ws = lent.shares

  at_is : f - base ≡ first_bucket c - base
  at_is = ap (λ (x : ℕ). x - base) w.first

  start_is : get_or xs (f - base) 0 ≡ get_or t.slots (first_bucket c - base) 0
  start_is =
      ap (λ (x : List ℕ). get_or x (f - base) 0) H.slots ∙ padded_at N t.slots (f - base) ∙ ap (λ (i : ℕ). get_or t.slots i 0) at_is

  filled : (u v : ℕ) → u ≡ v → stretch xs (f - base) (l - base + 1 - (f - base)) u
      ≡ padded N (stretch t.slots (first_bucket c - base) (suc (last_bucket c) - first_bucket c) v)
  filled u v e =
      let p : l - base + 1 - (f - base) ≡ suc (last_bucket c) - first_bucket c = omega (arith, w.first, w.last) in
      let q : first_bucket c - base + (suc (last_bucket c) - first_bucket c) ≤ length t.slots = omega (arith, w.first, w.last) in
      ap₂ (λ (i j : ℕ). stretch xs i j u) at_is p
      ∙ ap₂ (λ (x : List ℕ) (y : ℕ). stretch x (first_bucket c - base) (suc (last_bucket c) - first_bucket c) y) H.slots e
      ∙ stretch_padded N t.slots (first_bucket c - base) (suc (last_bucket c) - first_bucket c) v q

  pub held_free : {ys : List ℕ} → ys ≡ stretch xs (f - base) (l - base + 1 - (f - base)) (m + 1) → get_or xs (f - base) 0 ≡ 0
      → Holds N W (place base c t) (slot_words ys ws) k
  unfolding place
  held_free e z =
      let v = get_or t.slots (first_bucket c - base) 0 in
      let q : v ≡ 0 = sym start_is ∙ z in
      let s : m + 1 ≡ joined_slot v c.method t.shares = ap (λ (x : ℕ). x + 1) w.method ∙ sym (slot_free v c.method t.shares q) in
      let n : t.shares ≡ t.shares ++ joined v c.method t.shares =
      sym (append-nil t.shares) ∙ ap (λ (x : List ℕ). t.shares ++ x) (sym (joined_free v c.method t.shares q)) in
      record { slots = e ∙ filled (m + 1) _ s; shares = H.shares ∙ ap (padded W) n; used = H.used ∙ ap length n; fits = H.fits }

  module _ (taken : get_or xs (f - base) 0 ≡ 0 → ⊥) where
    not_free : get_or t.slots (first_bucket c - base) 0 ≡ 0 → ⊥
    not_free e = taken (start_is ∙ e)

    more : length (t.shares ++ joined (get_or t.slots (first_bucket c - base) 0) c.method t.shares) ≡ k + 3
    more = length-append t.shares _ ∙ ap₂ (λ (x y : ℕ). x + y) (sym H.used) (joined_three _ c.method t.shares not_free)

    pub held_share : {ys vs : List ℕ} → ys ≡ stretch xs (f - base) (l - base + 1 - (f - base)) (shared + k / 3)
        → vs ≡ sets ws k (joined (get_or xs (f - base) 0) m ws) → k + 3 ≤ room W → Holds N W (place base c t) (slot_words ys vs) (k + 3)
    unfolding place
    held_share e g h =
        let v = get_or t.slots (first_bucket c - base) 0 in
        let s : shared + k / 3 ≡ joined_slot v c.method t.shares =
        ap (λ (x : ℕ). shared + x / 3) H.used ∙ sym (slot_share v c.method t.shares not_free) in
        let j : joined (get_or xs (f - base) 0) m (padded W t.shares) ≡ joined v c.method t.shares =
        joined_padded W _ m t.shares ∙ ap₂ (λ (x y : ℕ). joined x y t.shares) start_is w.method in
        let r : k + length (joined v c.method t.shares) ≤ W = omega (arith, joined_three v c.method t.shares not_free) in
        record {
          slots = e ∙ filled _ _ s;
          shares =
              g ∙ ap (λ (x : List ℕ). sets x k (joined (get_or xs (f - base) 0) m x)) H.shares
              ∙ ap (sets (padded W t.shares) k) j
              ∙ padded_more W t.shares (joined v c.method t.shares) k H.used r;
          used = sym more;
          fits = h;
        }

    pub held_over : room W < k + 3 → room W < length (place base c t).shares
    unfolding place
    held_over h = rw more h

-- ---- the first i codes placed
abbrev pub up_to : List Code → ℕ → Table
up_to cs i = table_from (base_of cs) (record { slots = replicate (top_of cs - base_of cs) 0; shares = [] }) (take i cs)

from_append : (b : ℕ) (t : Table) (cs ds : List Code) → table_from b t (cs ++ ds) ≡ table_from b (table_from b t cs) ds
from_append b t [] ds = refl
from_append b t (c ∷ cs) ds = from_append b (place b c t) cs ds

table_suc : (cs : List Code) (i : ℕ) → i < length cs → up_to cs (suc i) ≡ place (base_of cs) (get_or cs i no_code) (up_to cs i)
table_suc cs i h = rw (take-suc cs i no_code h) (from_append (base_of cs) _ (take i cs) (get_or cs i no_code ∷ []))

table_step : (cs : List Code) (i : ℕ) → i < length cs → up_to cs (i + 1) ≡ place (base_of cs) (get_or cs i no_code) (up_to cs i)
table_step cs i h = rw add-one (table_suc cs i h)

pub table_all : (cs : List Code) (i : ℕ) → length cs ≤ i → up_to cs i ≡ table_of cs
unfolding table_of
table_all cs i h = rw (take_all i cs h)

place_slots : (b : ℕ) (c : Code) (t : Table) → b ≤ first_bucket c → first_bucket c ≤ last_bucket c → last_bucket c - b < length t.slots
    → length (place b c t).slots ≡ length t.slots
unfolding place
place_slots b c t p q r = length_stretch t.slots (first_bucket c - b) (suc (last_bucket c) - first_bucket c) _ (omega arith)

table_slots : (cs : List Code) → ((i : ℕ) → i < length cs → first_bucket (get_or cs i no_code) ≤ last_bucket (get_or cs i no_code)) → (i : ℕ) → i ≤ length cs
    → length (up_to cs i).slots ≡ top_of cs - base_of cs
table_slots cs rise zero h = length-replicate (top_of cs - base_of cs) 0
table_slots cs rise (suc i) h =
    let d = get_or cs i no_code in
    let b = base_least cs i h in
    let e = top_greatest cs i h in
    let r = rise i h in
    let n = table_slots cs rise i (omega arith) in
    let k : last_bucket d - base_of cs < length (up_to cs i).slots = omega arith in
    ap (λ (t : Table). length t.slots) (table_suc cs i h) ∙ place_slots (base_of cs) d (up_to cs i) b r k ∙ n

pub table_length : (cs : List Code) → ((i : ℕ) → i < length cs → first_bucket (get_or cs i no_code) ≤ last_bucket (get_or cs i no_code))
    → length (table_of cs).slots ≡ top_of cs - base_of cs
table_length cs rise =
    ap (λ (t : Table). length t.slots) (sym (table_all cs (length cs) (omega arith))) ∙ table_slots cs rise (length cs) (omega arith)

grow_one : (b : ℕ) (c : Code) (t : Table) → length t.shares ≤ length (place b c t).shares
unfolding place
grow_one b c t = simp length-append (omega arith)

grows : (b : ℕ) (t : Table) (cs : List Code) → length t.shares ≤ length (table_from b t cs).shares
grows b t [] = omega arith
grows b t (c ∷ cs) = omega (arith, grows b (place b c t) cs, grow_one b c t)

pub table_over : (cs : List Code) (i r : ℕ) → r < length (up_to cs i).shares → r < length (table_of cs).shares
unfolding table_of
table_over cs i r h =
    let t₀ : Table = record { slots = replicate (top_of cs - base_of cs) 0; shares = [] } in
    let e : table_from (base_of cs) (up_to cs i) (drop i cs) ≡ table_from (base_of cs) t₀ cs =
    sym (from_append (base_of cs) t₀ (take i cs) (drop i cs)) ∙ ap (table_from (base_of cs) t₀) (take-append-drop i cs) in
    let n = ap (λ (t : Table). length t.shares) e in
    omega (arith, grows (base_of cs) (up_to cs i) (drop i cs))

pub held_none : (N W : ℕ) (cs : List Code) {xs ws : List ℕ} → xs ≡ zeros N → ws ≡ zeros W → top_of cs - base_of cs ≤ N
    → Holds N W (up_to cs 0) (slot_words xs ws) 0
held_none N W cs p q h =
    record { slots = p ∙ sym (padded_zeros N (top_of cs - base_of cs) h); shares = q ∙ sym (padded_none W); used = refl; fits = omega arith }

-- ---- code i placed by its triple
-- the triple that three words are read as
abbrev pub three_words : ℕ → ℕ → ℕ → Triple
three_words first last method = record { first = first; last = last; method = method }

module _ {ts : List ℕ} {n : ℕ} {cs : List Code} (T : Triples ts n cs) {base : ℕ} (i : ℕ) (h : i < n) (least : base ≡ base_of cs) where
  below : i < length cs
  below = omega (arith, T.count)

  pub placeable : (xs ws : List ℕ) (used : ℕ) → top_of cs - base ≤ length xs → used ≤ length ws
      → Placeable (slot_words xs ws) used base (three_words (get_or ts (3 * i) 0) (get_or ts (3 * i + 1) 0) (get_or ts (3 * i + 2) 0))
  placeable xs ws used e u =
      let f = first_word T i h in
      let l = last_word T i h in
      let m = method_word T i h in
      let s = T.sound i h in
      let b = base_least cs i below in
      let t = top_greatest cs i below in
      record { above = omega arith; rises = omega arith; inside = omega arith; small = omega arith; fits = u }

  pub turn : {N W used : ℕ} (r : Option ℕ) {before : SlotWords} (after : SlotWords) → length before.shares ≡ W → Holds N W (up_to cs i) before used
      → PlacedIn base (three_words (get_or ts (3 * i) 0) (get_or ts (3 * i + 1) 0) (get_or ts (3 * i + 2) 0)) used r before after
      → After N W (up_to cs (i + 1)) r after
  turn {N} {W} r after w H P =
      let d = get_or cs i no_code in
      let f = first_word T i h in
      let l = last_word T i h in
      let m = method_word T i h in
      let k = table_slots cs (λ j q. (T.sound j (omega (arith, T.count))).rises) i (omega (arith, T.count)) in
      let b = base_least cs i below in
      let t = top_greatest cs i below in
      let s = (T.sound i h).rises in
      let z : get_or ts (3 * i + 1) 0 - base < length (up_to cs i).slots = omega arith in
      let A = P N W d (up_to cs i) w (record { first = f; last = l; method = m }) z H in
      let e : place base d (up_to cs i) ≡ up_to cs (i + 1) = ap (λ (x : ℕ). place x d (up_to cs i)) least ∙ sym (table_step cs i below) in
      subst (λ (t : Table). After N W t r after) e A

pub after_done : {N W : ℕ} {t : Table} {r : (Option ℕ)} {w : SlotWords} (k : ℕ) → r ≡ Some k → After N W t r w → Holds N W t w k
after_done {N} {W} {t} {r} {w} k e A = subst (λ (x : Option ℕ). After N W t x w) e A

pub after_full : (N W : ℕ) (t : Table) (r : Option ℕ) (w : SlotWords) → r ≡ None → After N W t r w → room W < length t.shares
after_full N W t r w e A = subst (λ (x : Option ℕ). After N W t x w) e A
