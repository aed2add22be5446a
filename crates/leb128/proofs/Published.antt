-- The readers accept exactly the published numbers: both go on byte by byte alike, and a fifth byte below 16 is what fits 32 bits.
-- Assumes nothing.
use Rattle.std.specs.Prelude.{Result, Ok, Err}
use Prim.Native.Nat.{ℕ, zero, suc, ◌+◌, ◌*◌, ◌-◌, ◌<◌, ◌≤◌}
use native.Mathlib.Omega.{arith}
use mathlib.Core.Path.{◌≡◌, refl, sym, ap, ap₂, subst, ◌∙◌}
use mathlib.Core.List.{List}
use lib.ListN.{length}
use lib.Dec.{ltb}
use borrow.Author.Tests.{lt-ltb, le-ltb, ltb-true, ltb-false}
use Rattle.words.proofs.Shared.{cond_elim}
use Rattle.dalvik.specs.Numbers.{byte, Bytes, Leb128, Uleb128}
use Rattle.dalvik.specs.Numbers.Leb128.{last_byte, more_bytes}
use Rattle.refusal.specs.declared.Refusal.{Refusal}
use Rattle.refusal.specs.declared.Refusal.TheVariants.{NumberOutside, NumberTooLong}
use Rattle.leb128.specs.Leb.{uleb, uleb_fast, carry, bytes_of, uleb_len, uleb_of, Published, PublishedLen}
use Rattle.leb128.specs.declared.Uleb.{Uleb}

-- a number ends after its start
pub ends_after : {s : List ℕ} {k i v e : ℕ} → Leb128 s k i v e → i < e
ends_after (last_byte h b) = omega arith
ends_after (more_bytes h b r) = omega (arith, ends_after r)

-- it has a byte
some_bytes : {s : List ℕ} {k i v e : ℕ} → Leb128 s k i v e → 0 < k
some_bytes (last_byte h b) = omega arith
some_bytes (more_bytes h b r) = omega arith

-- and inside the file
pub ends_inside : {s : List ℕ} {k i v e : ℕ} → Leb128 s k i v e → e ≤ length s
ends_inside (last_byte h b) = omega arith
ends_inside (more_bytes h b r) = ends_inside r

-- ---- what is below this has k bytes after its first, of which the last is below 16
lim : ℕ → ℕ
lim zero = 16
lim (suc k) = 128 * lim k

lim_some : (k : ℕ) → 16 ≤ lim k
unfolding lim
lim_some zero = omega arith
lim_some (suc k) = omega (arith, lim_some k)

-- ---- what stands there is accepted
number : (v w m n : ℕ) → v ≡ w → m ≡ n → ◌≡◌ {A = Result Uleb Refusal} (Ok (uleb_of v m)) (Ok (uleb_of w n))
number v w m n p q = ap₂ (λ (x k : ℕ). Ok (uleb_of x k)) p q

accepted_from : {s : List ℕ} {m i v e : ℕ} → Leb128 s m i v e → (k : ℕ) → m ≡ suc k → v < lim k → uleb k s i ≡ Ok (uleb_of v (e - i))
unfolding uleb lim
accepted_from (last_byte h b) zero q f = simp (lt-ltb _ _ h, lt-ltb _ _ f) (number _ _ _ _ refl (omega arith))
accepted_from (last_byte h b) (suc k) q f = simp (lt-ltb _ _ h, lt-ltb _ _ b) (number _ _ _ _ refl (omega arith))
accepted_from (more_bytes h b r) zero q f = absurd (omega (arith, some_bytes r))
accepted_from {s} {i = i} (more_bytes h b r) (suc k) q f =
    simp (lt-ltb _ _ h, le-ltb _ _ b)
    (ap (carry (byte s i)) (accepted_from r k (omega arith) (omega arith)) ∙ number _ _ _ _ refl (omega (arith, ends_after r)))

pub fast_published : {s : List ℕ} {i v e : ℕ} → Uleb128 s i v e → uleb_fast s i ≡ Ok (uleb_of v (e - i))
unfolding uleb_fast lim
fast_published n = accepted_from n.number 4 refl n.fits

pub len_published : {s : List ℕ} {i v e : ℕ} → Uleb128 s i v e → uleb_len s i ≡ Ok (e - i)
unfolding uleb_len
len_published n = ap bytes_of (fast_published n)

-- ---- what is accepted stands there; and what is refused, why
pub data Reason : Refusal → Type 0 where
  outside : Reason NumberOutside
  too_long : Reason NumberTooLong

record Stands (k : ℕ) (s : List ℕ) (i v n : ℕ) : Type 0 where
  number : Leb128 s (suc k) i v (i + n)
  fits : Bytes s → v < lim k

abbrev StandsR : ℕ → List ℕ → ℕ → Result Uleb Refusal → Type 0
StandsR k s i (Ok n) = Stands k s i n.value n.len
StandsR k s i (Err r) = Reason r

module _ (s : List ℕ) where
  one_stands : (k i : ℕ) → i < length s → byte s i < 128 → byte s i < lim k → Stands k s i (byte s i) 1
  one_stands k i h b f = record { number = last_byte h b; fits = λ _. f }

  carry_stands : (k i : ℕ) → i < length s → 128 ≤ byte s i → (r : Result Uleb Refusal) → StandsR k s (i + 1) r → StandsR (suc k) s i (carry (byte s i) r)
  unfolding lim
  carry_stands k i h b (Ok n) q =
      let on : i + 1 + n.len ≡ i + (1 + n.len) = omega arith in
      record {
        number = subst (λ (e : ℕ). Leb128 s (suc (suc k)) i (byte s i - 128 + 128 * n.value) e) on (more_bytes h b q.number);
        fits = λ B. omega (arith, B i, q.fits B);
      }
  carry_stands k i h b (Err r) q = q

  stands_from : (k i : ℕ) → StandsR k s i (uleb k s i)
  unfolding uleb lim
  stands_from zero i =
      cond_elim (StandsR zero s i) (ltb i (length s)) _ _
      (λ h. cond_elim (StandsR zero s i) (ltb (byte s i) 16) _ _
      (λ b. one_stands zero i (ltb-true _ _ h) (omega (arith, ltb-true (byte s i) 16 b)) (ltb-true _ _ b))
      (λ _. too_long))
      (λ _. outside)
  stands_from (suc k) i =
      cond_elim (StandsR (suc k) s i) (ltb i (length s)) _ _
      (λ h. cond_elim (StandsR (suc k) s i) (ltb (byte s i) 128) _ _
      (λ b. one_stands (suc k) i (ltb-true _ _ h) (ltb-true _ _ b) (omega (arith, ltb-true (byte s i) 128 b, lim_some k)))
      (λ b. carry_stands k i (ltb-true _ _ h) (ltb-false _ _ b) (uleb k s (i + 1)) (stands_from k (i + 1))))
      (λ _. outside)

-- the length of a number is that of one that was read, and a refusal that of the number's reader
bytes_number : (n : ℕ) (r : Result Uleb Refusal) → Ok n ≡ bytes_of r → (v : ℕ) × (Ok (uleb_of v n) ≡ r)
bytes_number n (Ok m) e = (m.value, ap (λ (k : ℕ). Ok (uleb_of m.value k)) cc)
bytes_number n (Err y) e = absurd (let q : ◌≡◌ {A = ℕ} 0 1 = cc in omega arith)

bytes_refused : (y : Refusal) (r : Result Uleb Refusal) → Err y ≡ bytes_of r → Err y ≡ r
bytes_refused y (Ok m) e = absurd (let q : ◌≡◌ {A = ℕ} 0 1 = cc in omega arith)
bytes_refused y (Err x) e = ap Err cc

-- a number that was read has a byte, and lies inside the file
pub record Inside (s : List ℕ) (i n : ℕ) : Type 0 where
  pub some : 1 ≤ n
  pub inside : i + n ≤ length s

module _ (s : List ℕ) (i : ℕ) where
  fast_stands : (r : Result Uleb Refusal) → r ≡ uleb_fast s i → StandsR 4 s i r
  unfolding uleb_fast
  fast_stands r e = subst (StandsR 4 s i) (sym e) (stands_from s 4 i)

  len_number : (n : ℕ) → Ok n ≡ uleb_len s i → (v : ℕ) × (Ok (uleb_of v n) ≡ uleb_fast s i)
  unfolding uleb_len
  len_number n e = bytes_number n (uleb_fast s i) e

  pub fast_in : (v n : ℕ) → Ok (uleb_of v n) ≡ uleb_fast s i → Inside s i n
  fast_in v n e =
      let number = (fast_stands (Ok (uleb_of v n)) e).number in
      record { some = omega (arith, ends_after number); inside = ends_inside number }

  pub len_in : (n : ℕ) → Ok n ≡ uleb_len s i → Inside s i n
  len_in n e =
      let number = len_number n e in
      fast_in number.0 n number.1

  pub fast_reason : (y : Refusal) → Err y ≡ uleb_fast s i → Reason y
  fast_reason y e = fast_stands (Err y) e

  pub len_reason : (y : Refusal) → Err y ≡ uleb_len s i → Reason y
  unfolding uleb_len
  len_reason y e = fast_reason y (bytes_refused y (uleb_fast s i) e)

  -- the law both ways, of a file's bytes
  module _ (B : Bytes s) where
    fast_uleb : (v n : ℕ) → Ok (uleb_of v n) ≡ uleb_fast s i → Uleb128 s i v (i + n)
    unfolding lim
    fast_uleb v n e =
        let stands = fast_stands (Ok (uleb_of v n)) e in
        record { number = stands.number; fits = stands.fits B }

    pub fast : (r : Result Uleb Refusal) → r ≡ uleb 4 s i → (r ≡ uleb_fast s i) × Published s i r
    unfolding uleb_fast
    fast r e = (e, record { stands = λ v n q. fast_uleb v n (q ∙ e); accepted = λ v x n. e ∙ fast_published n })

    pub len : (r : Result ℕ Refusal) → r ≡ bytes_of (uleb_fast s i) → (r ≡ uleb_len s i) × PublishedLen s i r
    unfolding uleb_len
    len r e = (
      e,
      record {
        stands = λ n q.
            let number = len_number n (q ∙ e) in
            (number.0, fast_uleb number.0 n number.1);
        accepted = λ v x n. e ∙ len_published n;
      },
    )
