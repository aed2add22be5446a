-- Names, byte by byte: lower case commutes with reading a byte, and a text is ASCII if each of its bytes is.
-- Assumes nothing.
use Prim.Native.Nat.{ℕ, ◌+◌, ◌-◌, ◌≤◌, ◌<◌, min}
use native.Mathlib.Numerals.{add-one}
use native.Mathlib.Omega.{arith}
use mathlib.Core.Path.{◌≡◌, refl, sym, subst, ◌∙◌}
use mathlib.Core.Logic.{◌⊎◌, inl, inr, ⊎_elim}
use mathlib.Core.Bool.{Bool, true, false}
use mathlib.Core.List.{List, [], ◌∷◌, map}
use lib.Dec.{ltb}
use lib.ListN.{length, get_or, take, drop, length-map, get_or-map, drop_of_length-le}
use lib.Seq.{drop-cons}
use lib.Bits.{bit_or, or_add_and, and_le_l, and_le_r, or_lt}
use borrow.Author.Tests.{lt-ltb, le-ltb, le-leb, lt-leb}
use borrow.Author.Count.{below_more}
use Rattle.std.specs.Prelude.{IsTrue, ◌↔◌}
use Rattle.std.specs.Char.{to_ascii_lowercase, to_ascii_uppercase}
use Rattle.std.proofs.lemmas.List.{take-map, drop-map}
use Rattle.word_set.specs.Steps.{Decides}
use Rattle.byte_search.specs.First.{Is, Either, First}
use Rattle.byte_search.proofs.Firsts.{onward}
use Rattle.word_set.proofs.Sets.{below_or_not}
use Rattle.byte_search.specs.Occurs.{Stands}
use Rattle.byte_search.proofs.Occurs.{byte_stands}
use Rattle.name_filter.specs.HasName.{lower_case, is_ascii, HasName}

module _ (b : ℕ) where
  pub lower_letter : 0x41 ≤ b → b ≤ 0x5a → b + 32 ≡ lower_case b
  unfolding lower_case
  lower_letter h k = rw (le-leb 0x41 b h, le-leb b 0x5a k)

  pub lower_above : 0x5a < b → b ≡ lower_case b
  unfolding lower_case
  lower_above k = rw (le-leb 0x41 b (omega arith), lt-leb b 0x5a k)

  pub lower_below : b < 0x41 → b ≡ lower_case b
  unfolding lower_case
  lower_below k = rw (lt-leb 0x41 b k)

  -- std's small letter is this one
  pub lower_is : to_ascii_lowercase b ≡ lower_case b
  lower_is =
      ⊎_elim (λ (l : b < 0x41). rw (lt-ltb b 65 l) (lower_below l))
      (λ (l : 0x41 ≤ b). ⊎_elim (λ (h : 0x5a < b). rw (le-ltb b 65 l, le-ltb b 91 (omega arith)) (lower_above h))
      (λ (h : b ≤ 0x5a). rw (le-ltb b 65 l, lt-ltb b 91 (omega arith)) (lower_letter l h)) (below_or_not 0x5a b))
      (below_or_not b 0x41)

lower_all : (bs : List ℕ) → map to_ascii_lowercase bs ≡ map lower_case bs
lower_all [] = refl
lower_all (b ∷ bs) = rw (lower_is b, lower_all bs)

-- r is the other letter that counts as the small letter b, if there is one
pub record Capital (b r : ℕ) : Type 0 where
  pub only : (x : ℕ) → lower_case x ≡ b → Is b r x

-- what a byte was before it became a small letter
module _ (b : ℕ) where
  was : (x : ℕ) → lower_case x ≡ b → (x ≡ b) ⊎ ((0x61 ≤ b) × (b ≤ 0x7a) × (x ≡ b - 32))
  was x e =
      ⊎_elim (λ (l : x < 0x41). inl (lower_below x l ∙ e))
      (λ (l : 0x41 ≤ x). ⊎_elim (λ (h : 0x5a < x). inl (lower_above x h ∙ e))
      (λ (h : x ≤ 0x5a). let z : x + 32 ≡ b = lower_letter x l h ∙ e in inr (omega arith, omega arith, omega arith)) (below_or_not 0x5a x))
      (below_or_not x 0x41)

  pub capital_letter : Capital b (b - 32)
  capital_letter = record { only = λ x e. ⊎_elim (λ (h : x ≡ b). inl h) (λ h. inr h.2) (was x e) }

  pub capital_none : (b < 0x61) ⊎ (0x7a < b) → Capital b b
  capital_none k =
      record {
        only = λ x e. ⊎_elim (λ (h : x ≡ b). inl h)
            (λ h. absurd (⊎_elim (λ (l : b < 0x61). omega (arith, h.0)) (λ (l : 0x7a < b). omega (arith, h.1)) k)) (was x e);
      }

  capital_is : Capital b (to_ascii_uppercase b)
  capital_is =
      ⊎_elim (λ (l : b < 0x61). rw (lt-ltb b 97 l) (capital_none (inl l)))
      (λ (l : 0x61 ≤ b). ⊎_elim (λ (h : 0x7a < b). rw (le-ltb b 97 l, le-ltb b 123 (omega arith)) (capital_none (inr h)))
      (λ (h : b ≤ 0x7a). rw (le-ltb b 97 l, lt-ltb b 123 (omega arith)) capital_letter) (below_or_not 0x7a b))
      (below_or_not b 0x61)

-- the letters that the search looks for: the small one of a byte and its capital one
pub letters : (x a b : ℕ) → a ≡ to_ascii_lowercase x → b ≡ to_ascii_uppercase a → (a ≡ lower_case x) × Capital a b
letters x a b e f = (e ∙ lower_is x, subst (Capital a) (sym f) (capital_is a))

lower_at : (l : List ℕ) (n : ℕ) → get_or (map lower_case l) n 0 ≡ lower_case (get_or l n 0)
unfolding lower_case
lower_at l n = get_or-map lower_case l n 0

-- a part of the text that is the query, case ignored, is where the query stands
pub same_name : (text q : List ℕ) (p : ℕ) {r : Bool} → (IsTrue r ↔ (map to_ascii_lowercase (take (length q) (drop p text)) ≡ map to_ascii_lowercase q))
    → Decides (Stands (map lower_case text) (map lower_case q) p) r
same_name text q p {r} t =
    let l : take (length (map lower_case q)) (drop p (map lower_case text)) ≡ map to_ascii_lowercase (take (length q) (drop p text)) =
    rw (length-map q lower_case, drop-map lower_case p text, take-map lower_case (length q) (drop p text), lower_all (take (length q) (drop p text))) in
    record { yes = λ e. l ∙ t.0 e ∙ lower_all q; no = λ e st. let f : r ≡ true = t.1 (sym l ∙ st ∙ sym (lower_all q)) in cc }

-- where a name stands, its first letter does, small or capital
name_begins : (text q : List ℕ) (p : ℕ) {a b : ℕ} → 0 < length q → a ≡ lower_case (get_or q 0 0) → Capital a b
    → Stands (map lower_case text) (map lower_case q) p → Either a b text p
name_begins text q p {a} {b} h e c st =
    let f =
    sym (lower_at text (p + 0)) ∙ byte_stands (map lower_case text) (map lower_case q) p 0 (omega (arith, length-map q lower_case)) st ∙ lower_at q 0
    ∙ sym e in
    let z : p + 0 ≡ p = omega arith in
    subst (λ (k : ℕ). Either a b text k) z (c.only (get_or text (p + 0) 0) f)

-- so from one such letter to the next no name stands
module _ (text q : List ℕ) (a b e : ℕ) (h : 0 < length q) (l : a ≡ lower_case (get_or q 0 0)) (c : Capital a b) where
  pub name_passed : (r : ℕ) → First (Either a b text) 0 e r → (k : ℕ) → k < r → Stands (map lower_case text) (map lower_case q) k → ⊥
  name_passed r f k m st = f.none_before k (omega arith) m (name_begins text q k h l c st)

  pub name_passed_on : (p r : ℕ) → First (Either a b text) (p + 1) e r → ((k : ℕ) → k < p → Stands (map lower_case text) (map lower_case q) k → ⊥)
      → (Stands (map lower_case text) (map lower_case q) p → ⊥) → (k : ℕ) → k < r → Stands (map lower_case text) (map lower_case q) k → ⊥
  name_passed_on p r f g n k m st =
      ⊎_elim (λ (d : k < p + 1). below_more (λ (i : ℕ). Stands (map lower_case text) (map lower_case q) i → ⊥) p g n k d st)
      (λ (d : p + 1 ≤ k). f.none_before k d m (name_begins text q k h l c st)) (below_or_not k (p + 1))

-- the empty query stands in every text
pub has_empty : (text : List ℕ) → HasName text []
has_empty text = record { at = 0; occurs = record { inside = omega arith; bytes = refl } }

pub has_empty_of : (text q : List ℕ) → length q ≡ 0 → HasName text q
has_empty_of text [] e = has_empty text
has_empty_of text (b ∷ q) e = absurd (omega arith)

-- the search for a name: the places below `length text - length q + 1` are looked at
module _ (text q : List ℕ) where
  pub has_short : length text < length q → HasName text q → ⊥
  has_short l h = omega (arith, h.occurs.inside, length-map q lower_case)

  pub has_at : (p : ℕ) → length q ≤ length text → p < length text - length q + 1 → Stands (map lower_case text) (map lower_case q) p → HasName text q
  has_at p h l st = record { at = p; occurs = record { inside = omega (arith, length-map q lower_case); bytes = st } }

  pub has_none : (p : ℕ) → length text - length q + 1 ≤ p → ((k : ℕ) → k < p → Stands (map lower_case text) (map lower_case q) k → ⊥) → HasName text q
      → ⊥
  has_none p l n h = n h.at (omega (arith, h.occurs.inside, length-map q lower_case)) h.occurs.bytes

  pub room_at : (p : ℕ) → length q ≤ length text → p < length text - length q + 1 → p + length q ≤ length text
  room_at p h l = omega arith

  module _ (a b : ℕ) (z : length q ≡ 0 → ⊥) (e : a ≡ lower_case (get_or q 0 0)) (c : Capital a b) where
    some : 0 < length q
    some = ⊎_elim (λ (h : 0 < length q). h) (λ (h : length q ≤ 0). absurd (z (omega arith))) (below_or_not 0 (length q))

    pub search_start : (r : ℕ) → First (Either a b text) 0 (min (length text - length q + 1) (length text)) r
        → (r ≤ length text - length q + 1) × ((k : ℕ) → k < r → Stands (map lower_case text) (map lower_case q) k → ⊥)
    search_start r f = (omega (arith, f.inside), name_passed text q a b _ some e c r f)

    pub search_next : (p r : ℕ) → First (Either a b text) (p + 1) (min (length text - length q + 1) (length text)) r
        → ((k : ℕ) → k < p → Stands (map lower_case text) (map lower_case q) k → ⊥) → (Stands (map lower_case text) (map lower_case q) p → ⊥)
        → (r ≤ length text - length q + 1) × ((k : ℕ) → k < r → Stands (map lower_case text) (map lower_case q) k → ⊥)
    search_next p r f g n = (omega (arith, f.inside), name_passed_on text q a b _ some e c p r f g n)

    pub search_less : (p r : ℕ) → length q ≤ length text → p < length text - length q + 1
        → First (Either a b text) (p + 1) (min (length text - length q + 1) (length text)) r
        → (length text - length q + 1) - r < (length text - length q + 1) - p
    search_less p r h l f =
        let s = some in
        let o : p + 1 ≤ r = onward (omega arith) f in
        omega arith

module _ (bs : List ℕ) (i : ℕ) where
  pub ascii_end : length bs ≤ i → is_ascii (drop i bs) ≡ true
  unfolding is_ascii
  ascii_end h = rw (drop_of_length-le bs h)

  pub ascii_not : i < length bs → 128 ≤ get_or bs i 0 → is_ascii (drop i bs) ≡ false
  unfolding is_ascii
  ascii_not h k = rw (drop-cons bs i 0 h, le-ltb (get_or bs i 0) 128 k)

  pub ascii_next : i < length bs → get_or bs i 0 < 128 → is_ascii (drop i bs) ≡ is_ascii (drop (i + 1) bs)
  unfolding is_ascii
  ascii_next h k = rw (drop-cons bs i 0 h, lt-ltb (get_or bs i 0) 128 k, add-one i)

-- every byte below i is below 128 if `all` is, which has the bits of all of them
pub record AsciiBelow (bs : List ℕ) (i all : ℕ) : Type 0 where
  pub low : all < 128 → is_ascii (drop i bs) ≡ is_ascii bs
  pub high : 128 ≤ all → is_ascii bs ≡ false

pub ascii_start : (bs : List ℕ) → AsciiBelow bs 0 0
ascii_start bs = record { low = λ _. refl; high = λ h. absurd (omega arith) }

pub ascii_said : (bs : List ℕ) (i all : ℕ) → length bs ≤ i → AsciiBelow bs i all → ltb all 128 ≡ is_ascii bs
ascii_said bs i all h c =
    ⊎_elim (λ (k : all < 128). lt-ltb all 128 k ∙ sym (ascii_end bs i h) ∙ c.low k) (λ (k : 128 ≤ all). le-ltb all 128 k ∙ sym (c.high k))
    (below_or_not all 128)

pub ascii_more : (bs : List ℕ) (i all : ℕ) → i < length bs → AsciiBelow bs i all → AsciiBelow bs (i + 1) (bit_or all (get_or bs i 0))
ascii_more bs i all h c =
    let x = get_or bs i 0 in
    let s = or_add_and all x in
    let l = and_le_l all x in
    let r = and_le_r all x in
    record {
      low = λ k. sym (ascii_next bs i h (omega arith)) ∙ c.low (omega arith);
      high = λ k.
          ⊎_elim (λ (m : all < 128). ⊎_elim (λ (n : x < 128). absurd (omega (arith, or_lt 7 all x m n)))
          (λ (n : 128 ≤ x). sym (c.low m) ∙ ascii_not bs i h n) (below_or_not x 128))
          (λ (m : 128 ≤ all). c.high m) (below_or_not all 128);
    }
