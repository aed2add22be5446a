-- Bits of words. A word with one bit set by `|` differs in that bit alone; the indices held are a rising list, read off word by word
-- and bit by bit.
--     adds, adds_not                                     an index added
--     outside, held_zeros                                words that don't hold an index
--     held_one, held_none, held_empty, held_split        the list of the indices held from a place on
--     indices_set                                        the list of all is the set
--     bit_here, bit_next, bits_done, bits_left           a word as it is read off
-- Assumes nothing.
use Prim.Native.Nat.{ℕ, zero, suc, ◌+◌, ◌-◌, ◌*◌, ◌/◌, ◌%◌, ◌^◌, ◌≤◌, ◌<◌, min, max}
use native.Mathlib.Omega.{arith}
use native.Mathlib.Nat.{div-eq_of_lt, zero-div}
use mathlib.Core.Path.{◌≡◌, refl, ap, sym, ◌∙◌}
use mathlib.Core.Bool.{Bool, true, false, ◌||◌}
use mathlib.Core.Logic.{◌⊎◌, inl, inr, ⊎_elim}
use mathlib.Core.List.{List, [], ◌∷◌, ◌++◌}
use lib.ListN.{length, get_or, set, length-set, get_or-eq_default}
use lib.Seq.{get_or-set_same, get_or-set_other}
use lib.Dec.{eqb}
use lib.Bits.{bit_or, or_shr, or_step, shifted_even}
use lib.Pow.{pow-lt, pow-add, shl_exact, shl-shr, shr-shr}
use borrow.Author.Tests.{lt-ltb, le-ltb, eq-eqb, eqb-true, eqb-false}
use Rattle.words.specs.Padded.{zeros}
use Rattle.words.proofs.Padded.{padded_at, padded_none}
use Rattle.words.proofs.Shared.{case, or_right}
use Rattle.word_set.specs.Sets.{SetOf}
use Rattle.word_set.proofs.Sets.{below_or_not, set_same, set_empty, set_cons}
use Rattle.index_set.specs.Bits.{bit_of, is_held, Adds, held_from, indices}

-- ---- one word
last_bit : (t q m : ℕ) → t ≡ q * 2 + m → m < 2 → t % 2 ≡ m
last_bit t q m e h = omega arith

or_bit : (w v k : ℕ) → bit_of (bit_or w v) k ≡ max (bit_of w k) (bit_of v k)
or_bit w v k =
    ap (λ (t : ℕ). t % 2) (or_shr w v k)
    ∙ last_bit (bit_or (w / 2 ^ k) (v / 2 ^ k)) (bit_or (w / 2 ^ k / 2) (v / 2 ^ k / 2)) (max (bit_of w k) (bit_of v k)) (or_step (w / 2 ^ k) (v / 2 ^ k))
    (omega arith)

one_bit : (j : ℕ) → bit_of (1 * 2 ^ j) j ≡ 1
one_bit j = ap (λ (t : ℕ). t % 2) (shl-shr 1 j)

other_bit : (j k : ℕ) → (k ≡ j → ⊥) → bit_of (1 * 2 ^ j) k ≡ 0
other_bit j k d = ⊎_elim below above (below_or_not k j)
  where
    below : k < j → bit_of (1 * 2 ^ j) k ≡ 0
    below h =
        let e : j ≡ suc (j - k - 1) + k = omega arith in
        let p : 1 * 2 ^ j ≡ 1 * 2 ^ suc (j - k - 1) * 2 ^ k =
        ap (λ (t : ℕ). 1 * 2 ^ t) e ∙ ap (λ (t : ℕ). 1 * t) (pow-add 2 (suc (j - k - 1)) k) ∙ omega arith in
        ap (λ (t : ℕ). t / 2 ^ k % 2) p ∙ ap (λ (t : ℕ). t % 2) (shl-shr (1 * 2 ^ suc (j - k - 1)) k) ∙ shifted_even 1 (j - k - 1)

    above : j ≤ k → bit_of (1 * 2 ^ j) k ≡ 0
    above h =
        let l : 2 ^ j < 2 ^ k = pow-lt (omega arith) in
        let m : 1 * 2 ^ j < 2 ^ k = omega arith in
        ap (λ (t : ℕ). t % 2) (div-eq_of_lt m)

-- what `w | (1 << j)` is
abbrev pub with_bit : ℕ → ℕ → ℕ
with_bit w j = bit_or w (1 * 2 ^ j % 2 ^ 64)

with_bit_of : (w j k : ℕ) → j < 64 → bit_of (with_bit w j) k ≡ max (bit_of w k) (bit_of (1 * 2 ^ j) k)
with_bit_of w j k h = ap (λ (t : ℕ). bit_of (bit_or w t) k) (shl_exact 1 j 64 (omega arith) (omega arith)) ∙ or_bit w (1 * 2 ^ j) k

-- ---- an index added
or_true : (b : Bool) → (b || true) ≡ true
or_true b = or_right b true refl

or_false : (b : Bool) → (b || false) ≡ b
or_false true = refl
or_false false = refl

-- the words with the bit of x set
abbrev pub joined : List ℕ → ℕ → List ℕ
joined bits x = set bits (x / 64) (with_bit (get_or bits (x / 64) 0) (x % 64))

module _ (bits : List ℕ) (x : ℕ) (h : x / 64 < length bits) where
  same : is_held (joined bits x) x ≡ true
  unfolding is_held
  same =
      rw (get_or-set_same bits (x / 64) _ 0 h)
      (eq-eqb _ 1 (with_bit_of (get_or bits (x / 64) 0) (x % 64) (x % 64) (omega arith) ∙ omega (arith, one_bit (x % 64))))

  other : (y : ℕ) → (y ≡ x → ⊥) → is_held (joined bits x) y ≡ is_held bits y
  unfolding is_held
  other y d = ⊎_elim near far (case (eqb (y / 64) (x / 64)))
    where
      w : ℕ
      w = get_or bits (x / 64) 0

      near : eqb (y / 64) (x / 64) ≡ true → eqb (bit_of (get_or (joined bits x) (y / 64) 0) (y % 64)) 1 ≡ eqb (bit_of (get_or bits (y / 64) 0) (y % 64)) 1
      near t =
          let e : y / 64 ≡ x / 64 = eqb-true _ _ t in
          let o : bit_of (1 * 2 ^ (x % 64)) (y % 64) ≡ 0 = other_bit (x % 64) (y % 64) (λ f. d (omega arith)) in
          let p : bit_of (with_bit w (x % 64)) (y % 64) ≡ bit_of w (y % 64) = with_bit_of w (x % 64) (y % 64) (omega arith) ∙ omega arith in
          rw (e, get_or-set_same bits (x / 64) (with_bit w (x % 64)) 0 h) (ap (λ (t : ℕ). eqb t 1) p)

      far : eqb (y / 64) (x / 64) ≡ false → eqb (bit_of (get_or (joined bits x) (y / 64) 0) (y % 64)) 1 ≡ eqb (bit_of (get_or bits (y / 64) 0) (y % 64)) 1
      far t = rw (get_or-set_other bits (x / 64) (y / 64) (with_bit w (x % 64)) 0 (eqb-false _ _ t))

  added : (y : ℕ) → is_held (joined bits x) y ≡ (is_held bits y || eqb y x)
  added y =
      ⊎_elim
      (λ t. ap (is_held (joined bits x)) (eqb-true y x t) ∙ same ∙ sym (or_true (is_held bits y)) ∙ ap (λ (b : Bool). is_held bits y || b) (sym t))
      (λ t. other y (eqb-false y x t) ∙ sym (or_false (is_held bits y)) ∙ ap (λ (b : Bool). is_held bits y || b) (sym t)) (case (eqb y x))

  pub adds : Adds x bits (joined bits x) true
  adds = record { inside = sym (lt-ltb x (64 * length bits) (omega arith)); long = length-set bits (x / 64) _; held = added }

pub adds_not : (bits : List ℕ) (x : ℕ) → length bits ≤ x / 64 → Adds x bits bits false
adds_not bits x h = record { inside = sym (le-ltb x (64 * length bits) (omega arith)); long = refl; held = λ y. sym (or_false (is_held bits y)) }

-- ---- the indices held
zero_bit : (k : ℕ) → bit_of 0 k ≡ 0
zero_bit k = ap (λ (t : ℕ). t % 2) (zero-div (2 ^ k))

pub outside : (bits : List ℕ) (x : ℕ) → length bits ≤ x / 64 → is_held bits x ≡ false
unfolding is_held
outside bits x h = rw (get_or-eq_default bits 0 h, zero_bit (x % 64))

-- words that are all zero hold none
pub held_zeros : (n x : ℕ) → is_held (zeros n) x ≡ false
unfolding is_held
held_zeros n x =
    let e : get_or (zeros n) (x / 64) 0 ≡ 0 = ap (λ (l : List ℕ). get_or l (x / 64) 0) (sym (padded_none n)) ∙ padded_at n [] (x / 64) in
    rw (e, zero_bit (x % 64))

module _ (bits : List ℕ) where
  pub held_none : (k x : ℕ) → 0 < k → is_held bits x ≡ false → held_from k bits x ≡ held_from (k - 1) bits (x + 1)
  unfolding held_from
  held_none zero x h e = absurd (omega arith)
  held_none (suc k) x h e = let l : k ≡ suc k - 1 = omega arith in rw e (ap (λ (t : ℕ). held_from t bits (x + 1)) l)

  pub held_one : (k x : ℕ) → 0 < k → is_held bits x ≡ true → held_from k bits x ≡ x ∷ held_from (k - 1) bits (x + 1)
  unfolding held_from
  held_one zero x h e = absurd (omega arith)
  held_one (suc k) x h e = let l : k ≡ suc k - 1 = omega arith in rw e (ap (λ (t : ℕ). x ∷ held_from t bits (x + 1)) l)

  -- a stretch in which none is held
  pub held_empty : (k x : ℕ) → ((y : ℕ) → x ≤ y → y < x + k → is_held bits y ≡ false) → held_from k bits x ≡ []
  unfolding held_from
  held_empty zero x f = refl
  held_empty (suc k) x f = rw (f x (omega arith) (omega arith)) (held_empty k (x + 1) (λ y l m. f y (omega arith) (omega arith)))

  pub held_split : (j k x : ℕ) → held_from (j + k) bits x ≡ held_from j bits x ++ held_from k bits (x + j)
  unfolding held_from
  held_split zero k x = let a : 0 + k ≡ k = omega arith in let b : x + 0 ≡ x = omega arith in rw (a, b)
  held_split (suc j) k x =
      let a : suc j + k ≡ suc (j + k) = omega arith in
      let e : held_from (j + k) bits (x + 1) ≡ held_from j bits (x + 1) ++ held_from k bits (x + suc j) =
      held_split j k (x + 1) ∙ ap (λ (t : ℕ). held_from j bits (x + 1) ++ held_from k bits t) (omega arith) in
      ⊎_elim (λ (t : is_held bits x ≡ true). rw (a, t, e)) (λ (t : is_held bits x ≡ false). rw (a, t, e)) (case (is_held bits x))

  -- those from x up to x + k, as a set
  record Among (x k y : ℕ) : Type 0 where
    low : x ≤ y
    high : y < x + k
    held : is_held bits y ≡ true

  later : (x k y : ℕ) → Among (x + 1) k y → Among x (suc k) y
  later x k y a = record { low = omega (arith, a.low); high = omega (arith, a.high); held = a.held }

  first_or_later : (x k y : ℕ) → Among x (suc k) y → (y ≡ x) ⊎ Among (x + 1) k y
  first_or_later x k y a =
      ⊎_elim (λ (l : x < y). inr record { low = omega arith; high = omega (arith, a.high); held = a.held })
      (λ (l : y ≤ x). inl (omega (arith, a.low))) (below_or_not x y)

  from_set : (k x : ℕ) → SetOf (Among x k) (held_from k bits x)
  unfolding held_from
  from_set zero x = set_empty (λ y a. omega (arith, a.low, a.high))
  from_set (suc k) x =
      let s = from_set k (x + 1) in
      ⊎_elim
      (λ (t : is_held bits x ≡ true). rw t
      (set_cons x (λ y a. omega (arith, a.low)) s (record { low = omega arith; high = omega arith; held = t }) (later x k) (first_or_later x k)))
      (λ (t : is_held bits x ≡ false). rw t (set_same (later x k) (λ y a. ⊎_elim (λ (e : y ≡ x). absurd
      (let z : is_held bits y ≡ false = ap (is_held bits) e ∙ t in let q = a.held in let c : ◌≡◌ {A = ℕ} 0 1 = cc in omega arith))
      (λ (l : Among (x + 1) k y). l) (first_or_later x k y a)) s))
      (case (is_held bits x))

  -- of no more words than indices of 32 bits fill, all
  pub indices_set : length bits ≤ 67108864 → SetOf (λ x. is_held bits x ≡ true) (indices bits)
  indices_set h =
      set_same (λ y a. a.held) (λ y t. record { low = omega arith; high = inside y t; held = t }) (from_set (64 * min (length bits) 67108864) 0)
    where
      inside : (y : ℕ) → is_held bits y ≡ true → y < 0 + 64 * min (length bits) 67108864
      inside y t =
          ⊎_elim (λ (l : y / 64 < length bits). omega arith)
          (λ (l : length bits ≤ y / 64). absurd (let f = outside bits y l in let z : ◌≡◌ {A = ℕ} 0 1 = cc in omega arith))
          (below_or_not (y / 64) (length bits))

-- ---- one word, bit by bit
module _ (bits : List ℕ) (i x w : ℕ) (low : 64 * i ≤ x) (is : w ≡ get_or bits i 0 / 2 ^ (x - 64 * i)) where
  -- the lowest bit is that of x
  pub bit_here : x < 64 * i + 64 → is_held bits x ≡ eqb (w % 2) 1
  unfolding is_held
  bit_here h =
      let d : x / 64 ≡ i = omega arith in
      let m : x % 64 ≡ x - 64 * i = omega arith in
      rw (d, m, is)

  pub bit_next : w / 2 ≡ get_or bits i 0 / 2 ^ (x + 1 - 64 * i)
  bit_next =
      let e : x - 64 * i + 1 ≡ x + 1 - 64 * i = omega arith in
      ap (λ (t : ℕ). t / 2) is ∙ shr-shr (get_or bits i 0) (x - 64 * i) 1 ∙ ap (λ (t : ℕ). get_or bits i 0 / 2 ^ t) e

  -- no bit is left
  pub bits_done : w ≡ 0 → (y : ℕ) → x ≤ y → y < 64 * i + 64 → is_held bits y ≡ false
  unfolding is_held
  bits_done z y l h =
      let d : y / 64 ≡ i = omega arith in
      let m : y % 64 ≡ x - 64 * i + (y - x) = omega arith in
      let q : get_or bits i 0 / 2 ^ (x - 64 * i) / 2 ^ (y - x) ≡ 0 = rw (← is, z) (zero-div (2 ^ (y - x))) in
      rw (d, m, ← shr-shr (get_or bits i 0) (x - 64 * i) (y - x), q)

  -- a bit is left
  pub bits_left : x ≤ 64 * i + 64 → get_or bits i 0 < 2 ^ 64 → (w ≡ 0 → ⊥) → x < 64 * i + 64
  bits_left h f z =
      ⊎_elim (λ (l : x < 64 * i + 64). l)
      (λ (l : 64 * i + 64 ≤ x). absurd (let e : x - 64 * i ≡ 64 = omega arith in z (is ∙ ap (λ (t : ℕ). get_or bits i 0 / 2 ^ t) e ∙ div-eq_of_lt f)))
      (below_or_not x (64 * i + 64))
