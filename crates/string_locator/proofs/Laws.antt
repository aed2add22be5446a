-- The string map's definitions, a law for each way out of them. Keys are written one after another, and the bounds are those of the
-- strings passed.
-- Assumes nothing.
use Rattle.std.specs.Prelude.{Option, Some, None}
use Prim.Native.Nat.{ℕ, zero, suc, ◌+◌, ◌<◌, ◌≤◌, min, max}
use native.Mathlib.Omega.{arith}
use native.Mathlib.Numerals.{add-one}
use mathlib.Core.Path.{◌≡◌, refl, sym, ap, subst, ◌∙◌}
use mathlib.Core.Bool.{true, false}
use mathlib.Core.List.{List, [], ◌∷◌, ◌++◌, append_assoc, append-nil}
use lib.ListN.{length, get_or, take, drop, set, length-append, length-take, length-replicate}
use lib.Dec.{ltb, leb, eqb}
use lib.Seq.{drop-cons, set_at, drop-length}
use borrow.Author.Tests.{lt-ltb, le-ltb, le-leb, lt-leb, eq-eqb, ne_eqb, ltb-false}
use Rattle.dalvik.specs.Ids.{item, string_id_size, string_data_off}
use Rattle.words.specs.Padded.{zeros, padded}
use Rattle.words.proofs.Padded.{padded_none, padded_front}
use Rattle.words.proofs.Shared.{cond_elim}
use Rattle.refusal.specs.Refusals.{is_too_large}
use Rattle.dalvik.specs.Numbers.{le32}
use Rattle.structs.specs.Reads.{read32}
use Rattle.structs.proofs.Laws.{read32_value, read32_outside}
use Rattle.string_data.specs.Text.{first_zero, on_zero}
use Rattle.sort_keys.specs.Sorted.{sorted}
use Rattle.sort_keys.proofs.Sorted.{length_sorted}
use Rattle.string_locator.specs.LengthBytes.{length_bytes, on_length}
use Rattle.string_locator.specs.Map.{key_of, keys_of, least, greatest, MapOutcome, none, area, text_area, strings_area, map_outcome}

-- ---- a data offset read
module _ (s : List ℕ) (at : ℕ) (h : at + 4 ≤ length s) where
  pub read_inside : (v : ℕ) → Some v ≡ read32 s at → v ≡ le32 s at
  read_inside v e = (read32_value s at v e).is

  pub read_not_outside : None ≡ read32 s at → ⊥
  read_not_outside e = omega (arith, read32_outside s at e)

module _ (s : List ℕ) (table : ℕ) where
  -- ---- the keys
  pub length_keys : (n : ℕ) → length (keys_of s table n) ≡ n
  unfolding keys_of
  length_keys zero = refl
  length_keys (suc n) = length-append (keys_of s table n) (key_of s table n ∷ []) ∙ omega (arith, length_keys n)

  pub keys_none : (xs : List ℕ) → xs ≡ keys_of s table 0 ++ drop 0 xs
  unfolding keys_of
  keys_none xs = refl

  pub keys_more : (xs : List ℕ) (i v : ℕ) → i < length xs → v ≡ key_of s table i
      → set (keys_of s table i ++ drop i xs) i v ≡ keys_of s table (i + 1) ++ drop (i + 1) xs
  unfolding keys_of
  keys_more xs i v h e =
      rw (add-one i, drop-cons xs i 0 h, set_at (keys_of s table i) (get_or xs i 0) (drop (suc i) xs) v i (length_keys i), e, append_assoc)

  pub keys_all : (xs : List ℕ) (i : ℕ) → length xs ≡ i → keys_of s table i ++ drop i xs ≡ keys_of s table (length xs)
  keys_all xs i e = rw (← e, drop-length xs, append-nil)

  -- ---- the bounds
  pub least_more : (i lo o : ℕ) → lo ≡ least s table i → o ≡ string_data_off s table i → min lo o ≡ least s table (i + 1)
  unfolding least
  least_more i lo o p q = rw (add-one i, p, q)

  pub greatest_more : (i hi o : ℕ) → hi ≡ greatest s table i → o ≡ string_data_off s table i → max hi o ≡ greatest s table (i + 1)
  unfolding greatest
  greatest_more i hi o p q = rw (add-one i, p, q)

  pub least_first : (o : ℕ) → o ≡ string_data_off s table 0 → o ≡ least s table 0
  unfolding least
  least_first o p = p

  pub greatest_first : (o : ℕ) → o ≡ string_data_off s table 0 → o ≡ greatest s table 0
  unfolding greatest
  greatest_first o p = p

-- ---- the area
module _ (s : List ℕ) (lo hi n : ℕ) where
  pub no_length : None ≡ length_bytes s hi → none 5 ≡ text_area s lo hi n
  unfolding text_area
  no_length e = rw (← e)

  pub no_zero : (k : ℕ) → Some k ≡ length_bytes s hi → None ≡ first_zero s (hi + k) → none 5 ≡ text_area s lo hi n
  unfolding text_area
  no_zero k e f = rw (← e, ← f)

  pub area_found : (k m : ℕ) → Some k ≡ length_bytes s hi → Some m ≡ first_zero s (hi + k) → area lo (hi + k + m + 1) n ≡ text_area s lo hi n
  unfolding text_area
  area_found k m e f = rw (← e, ← f)

module _ (s : List ℕ) (table n : ℕ) where
  pub offset_outside : length s ≤ greatest s table n → none 5 ≡ strings_area s table n
  unfolding strings_area
  offset_outside h = rw (le-leb _ _ h)

  pub offsets_inside : (a : MapOutcome) (lo hi : ℕ) → lo ≡ least s table n → hi ≡ greatest s table n → hi < length s → a ≡ text_area s lo hi n
      → a ≡ strings_area s table n
  unfolding strings_area
  offsets_inside a lo hi p q h e = e ∙ rw (← p, ← q, lt-leb _ _ h)

-- ---- the faults in order
module _ (s : List ℕ) (table n lent : ℕ) where
  pub too_large : is_too_large (length s) ≡ true → none 1 ≡ map_outcome s table n lent
  unfolding map_outcome
  too_large e = rw e

  module _ (small : is_too_large (length s) ≡ false) where
    pub no_strings : n ≡ 0 → area 0 0 0 ≡ map_outcome s table n lent
    unfolding map_outcome
    no_strings e = rw (small, eq-eqb _ _ e)

    pub ids_outside : (n ≡ 0 → ⊥) → length s < item table string_id_size n → none 3 ≡ map_outcome s table n lent
    unfolding map_outcome
    ids_outside some e = rw (small, ne_eqb _ _ some, lt-ltb _ _ e)

    pub too_short : (n ≡ 0 → ⊥) → item table string_id_size n ≤ length s → lent < n → none 4 ≡ map_outcome s table n lent
    unfolding map_outcome
    too_short some e h = rw (small, ne_eqb _ _ some, le-ltb _ _ e, lt-ltb _ _ h)

    pub strings_found : (n ≡ 0 → ⊥) → item table string_id_size n ≤ length s → n ≤ lent → (a : MapOutcome) → a ≡ strings_area s table n
        → a ≡ map_outcome s table n lent
    unfolding map_outcome
    strings_found some e h a p = p ∙ rw (small, ne_eqb _ _ some, le-ltb _ _ e, le-ltb _ _ h)

-- ---- the words of an answer: there is room for its keys, and their ids are inside the file
pub record Room (s : List ℕ) (table n lent : ℕ) (a : MapOutcome) : Type 0 where
  pub lent_enough : a.count ≤ lent
  pub few : a.count ≤ n
  pub ids : 0 < a.count → item table string_id_size a.count ≤ length s

module _ (s : List ℕ) (table n lent : ℕ) where
  none_room : (a e r : ℕ) → Room s table n lent (record { number = r; start = a; end = e; count = 0 })
  none_room a e r = record { lent_enough = omega arith; few = omega arith; ids = λ p. absurd (omega arith) }

  zero_room : (r : Option ℕ) (g : ℕ → MapOutcome) → ((k : ℕ) → Room s table n lent (g k)) → Room s table n lent (on_zero r (none 5) g)
  zero_room (Some k) g h = h k
  zero_room None g h = none_room 0 0 5

  len_room : (r : Option ℕ) (g : ℕ → MapOutcome) → ((k : ℕ) → Room s table n lent (g k)) → Room s table n lent (on_length r (none 5) g)
  len_room (Some k) g h = h k
  len_room None g h = none_room 0 0 5

  text_room : (lo hi : ℕ) → n ≤ lent → item table string_id_size n ≤ length s → Room s table n lent (text_area s lo hi n)
  unfolding text_area
  text_room lo hi p q =
      len_room (length_bytes s hi) (λ (k : ℕ). on_zero (first_zero s (hi + k)) (none 5) (λ (z : ℕ). area lo (hi + k + z + 1) n))
      (λ k. zero_room (first_zero s (hi + k)) (λ (z : ℕ). area lo (hi + k + z + 1) n)
      (λ m. record { lent_enough = p; few = omega arith; ids = λ _. q }))

  strings_room : n ≤ lent → item table string_id_size n ≤ length s → Room s table n lent (strings_area s table n)
  unfolding strings_area
  strings_room p q =
      cond_elim (Room s table n lent) (leb (length s) (greatest s table n)) _ _ (λ _. none_room 0 0 5)
      (λ _. text_room (least s table n) (greatest s table n) p q)

  pub answer_room : Room s table n lent (map_outcome s table n lent)
  unfolding map_outcome
  answer_room =
      cond_elim (Room s table n lent) (is_too_large (length s)) _ _ (λ _. none_room 0 0 1)
      (λ _. cond_elim (Room s table n lent) (eqb n 0) _ _ (λ _. none_room 0 0 0)
      (λ _. cond_elim (Room s table n lent) (ltb (length s) (item table string_id_size n)) _ _ (λ _. none_room 0 0 3)
      (λ i. cond_elim (Room s table n lent) (ltb lent n) _ _ (λ _. none_room 0 0 4) (λ h. strings_room (ltb-false lent n h) (ltb-false _ _ i)))))

-- the part that is lent for them is as long
pub length_part : {s : List ℕ} {table n : ℕ} {a : MapOutcome} (xs : List ℕ) → Room s table n (length xs) a → length (take a.count xs) ≡ a.count
length_part {a = a} xs r = length-take a.count xs ∙ omega (arith, r.lent_enough)

-- ---- the lent words: zeros, and the sorted keys written over their front
module _ (s : List ℕ) (table n : ℕ) (before mid : List ℕ) (cleared : mid ≡ zeros (length before)) where
  pub length_mid : length mid ≡ length before
  length_mid = ap length cleared ∙ length-replicate (length before) 0

  pub same_answer : (a : MapOutcome) → a ≡ map_outcome s table n (length mid) → a ≡ map_outcome s table n (length before)
  same_answer a e = e ∙ ap (map_outcome s table n) length_mid

  pub no_keys : (r : ℕ) → none r ≡ map_outcome s table n (length mid)
      → mid ≡ padded (length before) (sorted (keys_of s table (map_outcome s table n (length before)).count))
  unfolding sorted keys_of
  no_keys r e =
      cleared ∙ (sym (padded_none (length before)) ∙ ap (λ (c : ℕ). padded (length before) (sorted (keys_of s table c)))
      (ap (λ (x : MapOutcome). x.count) (same_answer (none r) e)))

  module _ (a e c : ℕ) (found : area a e c ≡ map_outcome s table n (length mid)) where
    pub room : Room s table n (length mid) (area a e c)
    room = subst (Room s table n (length mid)) (sym found) (answer_room s table n (length mid))

    pub keys_written : (ys : List ℕ) → ys ≡ sorted (keys_of s table (length (take c mid)))
        → ys ++ drop c mid ≡ padded (length before) (sorted (keys_of s table (map_outcome s table n (length before)).count))
    keys_written ys w =
        let long : length ys ≡ c = ap length w ∙ (length_sorted _ ∙ (length_keys s table _ ∙ length_part mid room)) in
        ap (λ (l : List ℕ). ys ++ drop c l) cleared
        ∙ (padded_front (length before) c ys long
        ∙ (ap (padded (length before))
        (w ∙ ap (λ (k : ℕ). sorted (keys_of s table k)) (length_part mid room ∙ ap (λ (x : MapOutcome). x.count) (same_answer (area a e c) found)))))
