-- Laws of the length bytes: a byte below 128 ends them, any other goes on with the next. The loop's invariant is that the bytes passed and
-- those from here make all.
-- Assumes nothing.
use Rattle.std.specs.Prelude.{Option, Some, None}
use Prim.Native.Nat.{ℕ, suc, ◌+◌, ◌-◌, ◌<◌, ◌≤◌}
use native.Mathlib.Omega.{arith}
use native.Mathlib.Numerals.{add-one}
use native.Mathlib.Nat.{sub_self, zero-add}
use mathlib.Core.Path.{◌≡◌, refl, sym, ap, subst, ◌∙◌}
use mathlib.Core.List.{List, [], ◌∷◌}
use lib.ListN.{length, get_or, drop, length-drop, drop_of_length-le}
use lib.Dec.{ltb}
use lib.Seq.{drop-cons}
use borrow.Author.Tests.{lt-ltb, le-ltb}
use Rattle.words.proofs.Shared.{cond_elim}
use Rattle.string_locator.specs.LengthBytes.{length_bytes, length_of, one_more, on_length}

-- n bytes passed, and then what is found
pub passed : ℕ → Option ℕ → Option ℕ
passed n (Some m) = Some (n + m)
passed n None = None

passed_zero : (r : Option ℕ) → passed 0 r ≡ r
unfolding passed
passed_zero (Some m) = ap Some (zero-add m)
passed_zero None = refl

passed_more : (n : ℕ) (r : Option ℕ) → passed (n + 1) r ≡ passed n (one_more r)
unfolding passed
passed_more n (Some m) = ap Some (omega arith)
passed_more n None = refl

module _ (s : List ℕ) (p i : ℕ) where
  pub length_start : passed (p - p) (length_bytes s p) ≡ length_bytes s p
  length_start = rw sub_self (passed_zero _)

  pub length_off : (r : Option ℕ) → length s ≤ i → passed (i - p) (length_bytes s i) ≡ r → None ≡ r
  unfolding length_of length_bytes passed
  length_off r h e = simp (drop_of_length-le s h) at e

  module _ (h : i < length s) (q : p ≤ i) (r : Option ℕ) (e : passed (i - p) (length_bytes s i) ≡ r) where
    goes_on : 128 ≤ get_or s i 0 → length_bytes s i ≡ one_more (length_bytes s (i + 1))
    unfolding length_of length_bytes
    goes_on t = rw (add-one i, drop-cons s i 0 h, le-ltb _ _ t)

    ends_here : get_or s i 0 < 128 → length_bytes s i ≡ Some 1
    unfolding length_of length_bytes
    ends_here t = rw (drop-cons s i 0 h, lt-ltb _ _ t)

    pub length_again : 128 ≤ get_or s i 0 → passed (i + 1 - p) (length_bytes s (i + 1)) ≡ r
    length_again t =
        let z : i + 1 - p ≡ i - p + 1 = omega arith in
        ap (λ (n : ℕ). passed n (length_bytes s (i + 1))) z ∙ passed_more (i - p) _ ∙ ap (passed (i - p)) (sym (goes_on t)) ∙ e

    pub length_stop : get_or s i 0 < 128 → Some (i + 1 - p) ≡ r
    unfolding passed
    length_stop t = ap Some (omega arith) ∙ ap (passed (i - p)) (sym (ends_here t)) ∙ e

-- what holds of both ways on holds
pub length_any : {A : Type 0} (P : A → Type 0) (s : List ℕ) (i : ℕ) (a : A) (g : ℕ → A) → P a → ((k : ℕ) → P (g k))
    → P (on_length (length_bytes s i) a g)
length_any P s i a g x f = by_length (length_bytes s i)
  where
    by_length : (r : Option ℕ) → P (on_length r a g)
    by_length (Some k) = f k
    by_length None = x

-- ---- there is at least one, and all are inside
LengthIn : ℕ → Option ℕ → Type 0
LengthIn k (Some m) = (1 ≤ m) × (m ≤ k)
LengthIn k None = Unit {0}

more_in : (k : ℕ) (r : Option ℕ) → LengthIn k r → LengthIn (suc k) (one_more r)
unfolding LengthIn
more_in k (Some m) h = (omega arith, omega arith)
more_in k None h = tt

all_in : (s : List ℕ) → LengthIn (length s) (length_of s)
unfolding length_of LengthIn
all_in [] = tt
all_in (b ∷ r) =
    cond_elim (LengthIn (suc (length r))) (ltb b 128) _ _ (λ _. (omega arith, omega arith)) (λ _. more_in (length r) (length_of r) (all_in r))

pub length_in : (s : List ℕ) (i m : ℕ) → Some m ≡ length_bytes s i → (1 ≤ m) × (i + m ≤ length s)
unfolding length_bytes LengthIn
length_in s i m e =
    let h : LengthIn (length (drop i s)) (Some m) = subst (LengthIn (length (drop i s))) (sym e) (all_in (drop i s)) in
    (h.0, omega (arith, length-drop i s, h.0, h.1))
