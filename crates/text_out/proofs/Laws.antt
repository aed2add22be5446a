-- Laws of the writers: what is written in two pieces is what is written in one, since a place one after the end takes no byte.
--     Writes          writes_none, writes_then, writes_named, writes_next
--     Ends            ends_fit, ends_over
--     text_outcome    text_out, text_room
--     decimal         decimal_is, decimal_short
-- Assumes nothing.
use Rattle.refusal.specs.declared.Refusal.{Refusal}
use Rattle.std.specs.Prelude.{Result, Ok, Err}
use Prim.Native.Nat.{ℕ, zero, suc, ◌+◌, ◌-◌, ◌/◌, ◌%◌, ◌^◌, ◌≤◌, ◌<◌, min}
use native.Mathlib.Nat.{pow-le-pow_right, lt_of_lt_of_le, not-le_of_lt, le_trans, add-zero}
use native.Mathlib.Omega.{arith}
use mathlib.Core.Path.{◌≡◌, refl, sym, ap, ◌∙◌}
use mathlib.Core.Logic.{⊎_elim}
use mathlib.Core.List.{List, [], ◌∷◌, ◌++◌, append_assoc, append-nil}
use lib.ListN.{length, take, set, get_or, length-append, length-replicate}
use lib.Seq.{take-suc, set_out, sets, length-sets}
use lib.Dec.{leb, ltb, lit<, lit≤}
use borrow.Author.Tests.{le-leb, lt-leb, lt-ltb, le-ltb, leb-true, leb-false, ltb-true, ltb-false}
use Rattle.io.specs.Digits.{hex_digit_ascii, last_digits as digits, IsDigitCount}
use Rattle.words.specs.Padded.{zeros}
use Rattle.words.proofs.Padded.{padded_none, sets_zeros}
use Rattle.words.proofs.Shared.{case, cond_elim}
use Rattle.refusal.specs.declared.Refusal.TheVariants.{LentTooShort}
use Rattle.refusal.specs.Outcomes.{Gives}
use Rattle.text_out.specs.Text.{reach, decimal, feed, text_outcome}
use Rattle.text_out.specs.Write.{place_after, Writes, end_at, Ends}

-- ---- bytes after bytes

sets_append : (l : List ℕ) (i : ℕ) (xs ys : List ℕ) → sets l i (xs ++ ys) ≡ sets (sets l i xs) (i + length xs) ys
sets_append l i [] ys = ap (λ (k : ℕ). sets l k ys) (sym (add-zero i))
sets_append l i (x ∷ xs) ys =
    let e : suc i + length xs ≡ i + suc (length xs) = omega arith in
    sets_append (set l i x) (suc i) xs ys ∙ ap (λ (k : ℕ). sets (sets (set l i x) (suc i) xs) k ys) e

-- nothing is written past the end
sets_out : (l : List ℕ) (i : ℕ) (vs : List ℕ) → length l ≤ i → sets l i vs ≡ l
sets_out l i [] h = refl
sets_out l i (v ∷ vs) h = ap (λ (k : List ℕ). sets k (suc i) vs) (set_out l i v h) ∙ sets_out l (suc i) vs (omega arith)

place_then : (n p : ℕ) (bs cs : List ℕ) → place_after n (place_after n p bs) cs ≡ place_after n p (bs ++ cs)
unfolding place_after
place_then n p [] cs = refl
place_then n p (b ∷ bs) [] = ap (λ (l : List ℕ). place_after n p (b ∷ l)) (sym (append-nil bs))
place_then n p (b ∷ bs) (c ∷ cs) = omega (arith, length-append bs (c ∷ cs))

-- from the place after them, or from where they would end
bytes_then : (l : List ℕ) (p : ℕ) (bs cs : List ℕ) → sets (sets l p bs) (place_after (length l) p bs) cs ≡ sets l p (bs ++ cs)
unfolding place_after
bytes_then l p [] cs = refl
bytes_then l p (b ∷ bs) cs =
    ⊎_elim
    (λ t.
    let h : p + length (b ∷ bs) ≤ length l = leb-true (p + length (b ∷ bs)) (length l) t in
    let e : min (p + length (b ∷ bs)) (length l + 1) ≡ p + length (b ∷ bs) = omega arith in
    ap (λ (k : ℕ). sets (sets l p (b ∷ bs)) k cs) e ∙ sym (sets_append l p (b ∷ bs) cs))
    (λ t.
    let h : length l < p + length (b ∷ bs) = leb-false (p + length (b ∷ bs)) (length l) t in
    let k : length (sets l p (b ∷ bs)) ≡ length l = length-sets l p (b ∷ bs) in
    sets_out (sets l p (b ∷ bs)) (min (p + length (b ∷ bs)) (length l + 1)) cs (omega arith)
    ∙ sym (sets_append l p (b ∷ bs) cs ∙ sets_out (sets l p (b ∷ bs)) (p + length (b ∷ bs)) cs (omega arith)))
    (case (leb (p + length (b ∷ bs)) (length l)))

writes_length : {a : List ℕ} {p : ℕ} {bs b : List ℕ} {q : ℕ} → Writes a p bs b q → length b ≡ length a
writes_length {a} {p} {bs} x = ap length x.written ∙ length-sets a p bs

pub writes_none : (a : List ℕ) (p : ℕ) → Writes a p [] a p
unfolding place_after
writes_none a p = record { written = refl; place = refl }

-- one after another
pub writes_then : {a : List ℕ} {p : ℕ} {bs b : List ℕ} {q : ℕ} {cs c : List ℕ} {r : ℕ} → Writes a p bs b q → Writes b q cs c r
    → Writes a p (bs ++ cs) c r
writes_then {a} {p} {bs} {cs = cs} x y =
    let n = writes_length x in
    record {
      written = y.written ∙ (rw (x.written, x.place) (bytes_then a p bs cs));
      place = y.place ∙ (rw (n, x.place) (place_then (length a) p bs cs));
    }

-- a name and its number after
pub writes_named : {a : List ℕ} {p : ℕ} {bs b : List ℕ} {q : ℕ} (name digits : List ℕ) {c : List ℕ} {r : ℕ} → Writes a p bs b q
    → Writes b q (name ++ digits) c r → Writes a p (bs ++ name ++ digits) c r
writes_named {bs = bs} name digits x y = rw (append_assoc bs name digits) (writes_then x y)

-- the first i bytes, and one more
pub writes_next : {a : List ℕ} {p : ℕ} {b : List ℕ} {q : ℕ} {c : List ℕ} {r : ℕ} (bs : List ℕ) (i : ℕ) → i < length bs → Writes a p (take i bs) b q
    → Writes b q (get_or bs i 0 ∷ []) c r → Writes a p (take (i + 1) bs) c r
writes_next bs i h x y =
    let s : i + 1 ≡ suc i = omega arith in
    rw (s, take-suc bs i 0 h) (writes_then x y)

-- what `put_byte` does, and where it does nothing
pub byte_fits : (a : List ℕ) (p v : ℕ) → p < length a → Writes a p (v ∷ []) (set a p v) (p + 1)
unfolding place_after
byte_fits a p v h = record { written = refl; place = omega arith }

pub byte_over : (a : List ℕ) (p v : ℕ) → length a ≤ p → Writes a p (v ∷ []) a (length a + 1)
unfolding place_after
byte_over a p v h = record { written = sym (set_out a p v h); place = omega arith }

-- ---- a line's end

module _ {a : List ℕ} {p : ℕ} {b : List ℕ} {end : ℕ} (line : Writes a p feed b end) where
  place : end ≡ min (p + 1) (length a + 1)
  unfolding place_after
  place = line.place

  pub ends_fit : end ≤ length b → Ends (end_at a p) (Ok end) b
  unfolding end_at
  ends_fit h =
      let n = writes_length line in
      let l : p < length a = omega (arith, place) in
      rw (lt-ltb p (length a) l) (record { number = refl; count = omega (arith, place); bytes = line.written })

  pub ends_over : (after : List ℕ) → length b < end → after ≡ zeros (length b) → Ends (end_at a p) (Err LentTooShort) after
  unfolding end_at
  ends_over after h z =
      let n = writes_length line in
      let l : length a ≤ p = omega (arith, place) in
      rw (le-ltb p (length a) l) (record { number = refl; count = refl; bytes = z ∙ ap zeros n })

-- ---- a text from the start of cleared bytes

from_start : (n : ℕ) (text : List ℕ) → place_after n 0 text ≡ min (length text) (n + 1)
unfolding place_after
from_start n [] = omega arith
from_start n (b ∷ bs) = omega arith

module _ (whole text : List ℕ) {a b : List ℕ} {p : ℕ} (z : a ≡ zeros (length whole)) (x : Writes a 0 text b p) where
  lent : length a ≡ length whole
  lent = ap length z ∙ length-replicate (length whole) 0

  end_place : p ≡ min (length text) (length whole + 1)
  end_place = x.place ∙ (ap (λ (n : ℕ). place_after n 0 text) lent ∙ from_start (length whole) text)

  long : length (text ++ feed) ≡ length text + 1
  long = length-append text feed

  fits : {r : (Result ℕ Refusal)} {c : List ℕ} → length (text ++ feed) ≤ length whole → Ends (end_at b p) r c
      → Gives (text_outcome (text ++ feed) (length whole)) r whole c
  unfolding text_outcome end_at
  fits h e =
      let n = writes_length x in
      let q : p ≡ 0 + length text = omega (arith, end_place, long) in
      let l : p < length b = omega (arith, long, lent) in
      let f = rw (lt-ltb p (length b) l) at e in
      let w : set b p 10 ≡ sets a 0 (text ++ feed) = rw (x.written, q) (sym (sets_append a 0 text feed)) in
      rw (le-leb (length (text ++ feed)) (length whole) h) (record {
        number = f.number;
        count = f.count ∙ omega (arith, long);
        words = f.bytes ∙ (w ∙ sets_zeros (length whole) (text ++ feed) z h);
      })

  over : {r : (Result ℕ Refusal)} {c : List ℕ} → length whole < length (text ++ feed) → Ends (end_at b p) r c
      → Gives (text_outcome (text ++ feed) (length whole)) r whole c
  unfolding text_outcome end_at
  over h e =
      let n = writes_length x in
      let l : length b ≤ p = omega (arith, end_place, long, lent) in
      let f = rw (le-ltb p (length b) l) at e in
      rw (lt-leb (length (text ++ feed)) (length whole) h) (record {
        number = f.number;
        count = f.count;
        words = f.bytes ∙ (ap zeros (n ∙ lent) ∙ sym (padded_none (length whole)));
      })

  pub text_out : {r : (Result ℕ Refusal)} {c : List ℕ} → Ends (end_at b p) r c → Gives (text_outcome (text ++ feed) (length whole)) r whole c
  text_out e =
      ⊎_elim
      (λ t. fits (leb-true _ _ t) e)
      (λ t. over (leb-false _ _ t) e)
      (case (leb (length (text ++ feed)) (length whole)))

-- more bytes never turn a text into a refusal
pub text_room : (text : List ℕ) (m n : ℕ) → m ≤ n → (text_outcome text m).number ≡ 0 → text_outcome text n ≡ text_outcome text m
unfolding text_outcome
text_room text m n h e =
    ⊎_elim
    (λ t. let l : length text ≤ m = leb-true (length text) m t in rw (le-leb (length text) m l, le-leb (length text) n (omega arith)))
    (λ t. let z : ◌≡◌ {A = ℕ} 4 0 = rw t at e in absurd (omega arith))
    (case (leb (length text) m))

-- ---- decimal numbers

ten_mono : {i j : ℕ} → i ≤ j → 10 ^ i ≤ 10 ^ j
ten_mono h = pow-le-pow_right (lit< tt) h

power : {n j k : ℕ} → j ≡ k → 10 ^ j ≤ n → 10 ^ k ≤ n
power e h = rw (← e) h

reach_is : (k n j : ℕ) → j ≤ k → (0 < j → 10 ^ j ≤ n) → n < 10 ^ suc j → reach k n ≡ j
unfolding reach
reach_is zero n j h f g = omega arith
reach_is (suc k) n j h f g =
    ⊎_elim
    (λ e.
    let le : j ≤ k = omega (arith, ltb-true j (suc k) e) in
    rw (lt-leb (10 ^ suc k) n (lt_of_lt_of_le g (ten_mono (omega arith)))) (reach_is k n j le f g))
    (λ e.
    let q : j ≡ suc k = omega (arith, ltb-false j (suc k) e) in
    rw (le-leb (10 ^ suc k) n (power q (f (omega arith)))) (sym q))
    (case (ltb j (suc k)))

few : (n j : ℕ) → n < 2 ^ 64 → (0 < j → 10 ^ j ≤ n) → j ≤ 19
few n j h f =
    ⊎_elim
    (λ e.
    let l : 20 ≤ j = omega (arith, ltb-true 19 j e) in
    let big : 10 ^ 20 ≤ n = le_trans (ten_mono l) (f (omega arith)) in
    let lim : 2 ^ 64 ≤ 10 ^ 20 = lit≤ tt in
    absurd (not-le_of_lt h (le_trans lim big)))
    (λ e. ltb-false 19 j e)
    (case (ltb 19 j))

-- what `io::decimal` says of a number of 64 bits
pub decimal_is : (n r : ℕ) → n < 2 ^ 64 → IsDigitCount 10 1 n r → digits 10 r n ≡ decimal n
unfolding decimal
decimal_is n r h f =
    let s : suc (r - 1) ≡ r = omega (arith, f.0) in
    let small : r - 1 ≤ 19 = few n (r - 1) h (λ p. f.2 (omega arith)) in
    let e : reach 19 n ≡ r - 1 = reach_is 19 n (r - 1) small (λ p. f.2 (omega arith)) (rw s f.1) in
    let k : r ≡ reach 19 n + 1 = omega (arith, f.0) in
    ap (λ (m : ℕ). digits 10 m n) k

digits_length : (k n : ℕ) → length (digits 10 k n) ≡ k
digits_length zero n = refl
digits_length (suc k) n = length-append (digits 10 k (n / 10)) (hex_digit_ascii (n % 10) ∷ []) ∙ omega (arith, digits_length k (n / 10))

reach_below : (k n j : ℕ) → n < 10 ^ suc j → reach k n ≤ j
unfolding reach
reach_below zero n j h = omega arith
reach_below (suc k) n j h =
    cond_elim (λ (r : ℕ). r ≤ j) (leb (10 ^ suc k) n) (suc k) (reach k n)
    (λ t.
    ⊎_elim
    (λ e. absurd (not-le_of_lt h (le_trans (ten_mono (ltb-true j (suc k) e)) (leb-true (10 ^ suc k) n t))))
    (λ e. ltb-false j (suc k) e)
    (case (ltb j (suc k))))
    (λ t. reach_below k n j h)

-- a word has at most ten digits
pub decimal_short : (n : ℕ) → n < 2 ^ 32 → length (decimal n) ≤ 10
unfolding decimal
decimal_short n h =
    let lim : 2 ^ 32 ≤ 10 ^ 10 = lit≤ tt in
    omega (arith, digits_length (reach 19 n + 1) n, reach_below 19 n 9 (lt_of_lt_of_le h lim))
