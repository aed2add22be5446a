-- The definitions of a string's bytes, a law for each way out of them: a length byte goes on, ends the length or refuses, and the
-- text ends where the first zero stands.
-- Assumes nothing.
use Rattle.std.specs.Prelude.{Option, Some, None}
use Prim.Native.Nat.{ℕ, zero, suc, ◌+◌, ◌-◌, ◌<◌, ◌≤◌, min}
use native.Mathlib.Omega.{arith}
use native.Mathlib.Numerals.{add-one}
use native.Mathlib.Nat.{sub_self, zero-add}
use mathlib.Core.Path.{◌≡◌, refl, sym, ap, subst, ◌∙◌}
use mathlib.Core.Logic.{inl, ⊎_elim}
use mathlib.Core.Bool.{true, false, ◌&&◌}
use mathlib.Core.List.{List, [], ◌∷◌}
use lib.ListN.{length, drop, take, length-drop, drop_of_length-le}
use lib.Dec.{eqb, ltb}
use lib.Seq.{drop-cons}
use borrow.Author.Tests.{lt-ltb, le-ltb, eq-eqb, ne_eqb}
use Rattle.byte_search.specs.First.{Either, First}
use Rattle.byte_search.proofs.Firsts.{split}
use Rattle.words.proofs.Shared.{cond_elim}
use Rattle.dalvik.specs.Numbers.{byte}
use Rattle.refusal.specs.Refusals.{is_too_large}
use Rattle.string_data.specs.Text.{zero_of, first_zero, further, on_zero, Found, none, found, text_from, is_last, after_length, string_text, stretch_of}

-- n bytes passed, and then what is found
ahead : ℕ → Option ℕ → Option ℕ
ahead n (Some m) = Some (n + m)
ahead n None = None

ahead_zero : (r : Option ℕ) → ahead 0 r ≡ r
unfolding ahead
ahead_zero (Some m) = ap Some (zero-add m)
ahead_zero None = refl

ahead_further : (n : ℕ) (r : Option ℕ) → ahead (n + 1) r ≡ ahead n (further r)
unfolding ahead
ahead_further n (Some m) = ap Some (omega arith)
ahead_further n None = refl

module _ (s : List ℕ) (p i : ℕ) where
  zero_start : ahead (p - p) (first_zero s p) ≡ first_zero s p
  zero_start = rw sub_self (ahead_zero _)

  zero_off : (r : Option ℕ) → length s ≤ i → ahead (i - p) (first_zero s i) ≡ r → None ≡ r
  unfolding zero_of first_zero ahead
  zero_off r h e = simp (drop_of_length-le s h) at e

  pub zero_later : i < length s → (byte s i ≡ 0 → ⊥) → first_zero s i ≡ further (first_zero s (i + 1))
  unfolding zero_of first_zero
  zero_later h t = rw (add-one i, drop-cons s i 0 h, ne_eqb _ _ t)

  pub zero_here : i < length s → byte s i ≡ 0 → first_zero s i ≡ Some 0
  unfolding zero_of first_zero
  zero_here h t = rw (drop-cons s i 0 h, eq-eqb _ _ t)

  zero_again : (r : Option ℕ) → i < length s → (byte s i ≡ 0 → ⊥) → p ≤ i → ahead (i - p) (first_zero s i) ≡ r
      → ahead (i + 1 - p) (first_zero s (i + 1)) ≡ r
  zero_again r h t q e =
      let z : i + 1 - p ≡ i - p + 1 = omega arith in
      ap (λ (n : ℕ). ahead n (first_zero s (i + 1))) z ∙ (ahead_further (i - p) _ ∙ (ap (ahead (i - p)) (sym (zero_later h t)) ∙ e))

  zero_stop : (r : Option ℕ) → i < length s → byte s i ≡ 0 → p ≤ i → ahead (i - p) (first_zero s i) ≡ r → Some (i - p) ≡ r
  unfolding ahead
  zero_stop r h t q e = ap Some (omega arith) ∙ (ap (ahead (i - p)) (sym (zero_here h t)) ∙ e)

-- the first zero from p on, where the search for it ends at r
module _ (s : List ℕ) (p r : ℕ) (f : First (Either 0 0 s) p (min (length s) (length s)) r) where
  passed : (n : ℕ) → p + n ≤ r → ahead (p + n - p) (first_zero s (p + n)) ≡ first_zero s p
  passed zero h =
      let e : p ≡ p + zero = omega arith in
      subst (λ (i : ℕ). ahead (i - p) (first_zero s i) ≡ first_zero s p) e (zero_start s p p)
  passed (suc n) h =
      let e : p + n + 1 ≡ p + suc n = omega arith in
      let l : r ≤ length s = omega (arith, f.inside) in
      let q =
      zero_again s p (p + n) _ (omega arith) (λ z. f.none_before (p + n) (omega arith) (omega arith) (inl z)) (omega arith)
      (passed n (omega arith)) in
      subst (λ (i : ℕ). ahead (i - p) (first_zero s i) ≡ first_zero s p) e q

  up_to : p ≤ r → ahead (r - p) (first_zero s r) ≡ first_zero s p
  up_to h =
      let e : p + (r - p) ≡ r = omega arith in
      subst (λ (i : ℕ). ahead (i - p) (first_zero s i) ≡ first_zero s p) e (passed (r - p) (omega arith))

  pub zero_found : r < length s → Some (r - p) ≡ first_zero s p
  zero_found h =
      let a : p ≤ r = f.after (omega arith) in
      zero_stop s p r _ h (⊎_elim (λ e. e) (λ e. e) (f.here (omega arith))) a (up_to a)

  pub zero_nowhere : length s ≤ r → None ≡ first_zero s p
  zero_nowhere h =
      ⊎_elim (λ (e : r < p). zero_off s p p _ (omega arith) (zero_start s p p)) (λ (e : p ≤ r). zero_off s p r _ h (up_to e)) (split r p)

-- a zero that is found stands inside the file
ZeroIn : ℕ → Option ℕ → Type 0
ZeroIn k (Some n) = n < k
ZeroIn k None = Unit {0}

further_in : (k : ℕ) (r : Option ℕ) → ZeroIn k r → ZeroIn (suc k) (further r)
unfolding ZeroIn
further_in k (Some n) h = omega arith
further_in k None h = tt

zero_of_in : (s : List ℕ) → ZeroIn (length s) (zero_of s)
unfolding zero_of ZeroIn
zero_of_in [] = tt
zero_of_in (b ∷ r) = cond_elim (ZeroIn (suc (length r))) (eqb b 0) _ _ (λ _. omega arith) (λ _. further_in (length r) (zero_of r) (zero_of_in r))

pub zero_in : (s : List ℕ) (i n : ℕ) → Some n ≡ first_zero s i → i + n < length s
unfolding first_zero ZeroIn
zero_in s i n e =
    let h : ZeroIn (length (drop i s)) (Some n) = subst (ZeroIn (length (drop i s))) (sym e) (zero_of_in (drop i s)) in
    omega (arith, length-drop i s, h)

module _ (s : List ℕ) (i : ℕ) where
  pub text_ends : (n : ℕ) → Some n ≡ first_zero s i → found i n ≡ text_from s i
  unfolding text_from
  text_ends n e = rw (← e)

  pub text_open : None ≡ first_zero s i → none 5 ≡ text_from s i
  unfolding text_from
  text_open e = rw (← e)

  -- k length bytes may come
  pub length_off : (k : ℕ) → 0 < k → length s ≤ i → none 6 ≡ after_length k s i
  unfolding after_length
  length_off zero p h = absurd (omega arith)
  length_off (suc k) p h = simp (le-ltb _ _ h)

  pub length_over : (k : ℕ) → 0 < k → i < length s → k - 1 ≡ 0 → 15 < byte s i → none 10 ≡ after_length k s i
  unfolding after_length
  length_over zero p h l b = absurd (omega arith)
  length_over (suc zero) p h l b = simp (lt-ltb _ _ h, lt-ltb _ _ b)
  length_over (suc (suc k)) p h l b = absurd (omega arith)

  pub length_ends : (k : ℕ) → 0 < k → i < length s → (k - 1 ≡ 0 → byte s i ≤ 15) → byte s i < 128 → text_from s (i + 1) ≡ after_length k s i
  unfolding after_length
  length_ends zero p h l b = absurd (omega arith)
  length_ends (suc zero) p h l b = simp (lt-ltb _ _ h, le-ltb _ _ (l refl), lt-ltb _ _ b)
  length_ends (suc (suc k)) p h l b = simp (lt-ltb _ _ h, lt-ltb _ _ b)

  pub length_more : (k : ℕ) → 0 < k → i < length s → (k - 1 ≡ 0 → byte s i ≤ 15) → 128 ≤ byte s i → after_length (k - 1) s (i + 1) ≡ after_length k s i
  unfolding after_length
  length_more zero p h l b = absurd (omega arith)
  length_more (suc zero) p h l b = absurd (omega (arith, l refl))
  length_more (suc (suc k)) p h l b =
      let e : suc (suc k) - 1 ≡ suc k = omega arith in
      ap (λ (n : ℕ). after_length n s (i + 1)) e ∙ simp (lt-ltb _ _ h, le-ltb _ _ b)

  pub length_none : (k : ℕ) → k ≤ 0 → none 10 ≡ after_length k s i
  unfolding after_length
  length_none zero h = refl
  length_none (suc k) h = absurd (omega arith)

  pub too_large : is_too_large (length s) ≡ true → none 1 ≡ string_text s i
  unfolding string_text
  too_large e = rw e

  pub small_enough : is_too_large (length s) ≡ false → (f : Found) → f ≡ after_length 5 s i → f ≡ string_text s i
  unfolding string_text
  small_enough e f p = rw e p

-- a text that is found, and the zero after it, are inside the file
Inside : List ℕ → Found → Type 0
Inside s f = f.number ≡ 0 → f.start + f.len < length s

refused_inside : (s : List ℕ) (r : ℕ) → 0 < r → Inside s (none r)
unfolding Inside
refused_inside s r h e = absurd (omega arith)

text_inside : (s : List ℕ) (i : ℕ) (r : Option ℕ) → first_zero s i ≡ r → Inside s (on_zero r (none 5) (found i))
unfolding Inside
text_inside s i (Some n) e _ = zero_in s i n (sym e)
text_inside s i None e p = absurd (omega (arith, p))

from_inside : (s : List ℕ) (i : ℕ) → Inside s (text_from s i)
unfolding text_from
from_inside s i = text_inside s i (first_zero s i) refl

after_inside : (k : ℕ) (s : List ℕ) (i : ℕ) → Inside s (after_length k s i)
unfolding after_length
after_inside zero s i = refused_inside s 10 (omega arith)
after_inside (suc k) s i =
    cond_elim (Inside s) (ltb i (length s)) _ _
    (λ _. cond_elim (Inside s) (is_last k && ltb 0x0f (byte s i)) _ _ (λ _. refused_inside s 10 (omega arith))
    (λ _. cond_elim (Inside s) (ltb (byte s i) 128) _ _ (λ _. from_inside s (i + 1)) (λ _. after_inside k s (i + 1))))
    (λ _. refused_inside s 6 (omega arith))

string_inside : (s : List ℕ) (i : ℕ) → Inside s (string_text s i)
unfolding string_text
string_inside s i = cond_elim (Inside s) (is_too_large (length s)) _ _ (λ _. refused_inside s 1 (omega arith)) (λ _. after_inside 5 s i)

pub inside : (s : List ℕ) (i a n : ℕ) → found a n ≡ string_text s i → a + n < length s
unfolding Inside
inside s i a n e = subst (Inside s) (sym e) (string_inside s i) refl

-- the stretch is the answer's: from a to a + n, or none
pub stretch_found : (s : List ℕ) (a n : ℕ) (f : Found) → found a n ≡ f → take (a + n - a) (drop a s) ≡ stretch_of s f
stretch_found s a n f e =
    let q : a + n - a ≡ n = omega arith in
    rw q (ap (stretch_of s) e)

pub stretch_none : (s : List ℕ) (r : ℕ) (f : Found) → none r ≡ f → [] ≡ stretch_of s f
stretch_none s r f e = ap (stretch_of s) e
