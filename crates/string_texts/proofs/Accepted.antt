-- String data that are accepted are published: their length bytes are a uleb128, since the fifth is below 0x10, and the text ends at the
-- first zero. So a string has a text exactly where its bytes are not refused.
-- Assumes nothing.
use Rattle.std.specs.Prelude.{Option, Some, None}
use Prim.Native.Nat.{ℕ, zero, suc, ◌+◌, ◌*◌, ◌-◌, ◌<◌, ◌≤◌}
use native.Mathlib.Omega.{arith}
use mathlib.Core.Path.{◌≡◌, refl, sym, ap, ◌∙◌}
use mathlib.Core.Logic.{◌≢◌, ◌⊎◌, inl, inr, ⊎_elim}
use mathlib.Core.List.{List}
use lib.ListN.{length, take, drop}
use lib.Dec.{ltb, eqb}
use borrow.Author.Tests.{ltb-true, ltb-false, eqb-true, eqb-false, le-ltb, lt-ltb}
use Rattle.words.proofs.Shared.{case}
use Rattle.dalvik.specs.Numbers.{byte, Bytes, Leb128}
use Rattle.dalvik.specs.Numbers.Leb128.{last_byte, more_bytes}
use Rattle.dalvik.specs.Ids.{StringData}
use Rattle.refusal.specs.Refusals.{largest_file}
use Rattle.string_data.specs.Text.{first_zero, further, Found, none, found, text_from, after_length, string_text}
use Rattle.string_data.proofs.Laws.{zero_here, zero_later, zero_in, text_ends, text_open, length_off, length_over, length_ends, length_more}
use Rattle.string_data.proofs.Laws.{too_large, small_enough}
use Rattle.string_data.proofs.Published.{Read, published, lim}

below? : (a b : ℕ) → (a < b) ⊎ (b ≤ a)
below? a b = ⊎_elim (λ e. inl (ltb-true a b e)) (λ e. inr (ltb-false a b e)) (case (ltb a b))

same? : (a b : ℕ) → (a ≡ b) ⊎ (a ≡ b → ⊥)
same? a b = ⊎_elim (λ e. inl (eqb-true a b e)) (λ e. inr (eqb-false a b e)) (case (eqb a b))

-- ---- the first zero: none before it, and it is one
record One (r : Option ℕ) (n : ℕ) : Type 0 where
  m : ℕ
  is : r ≡ Some m
  more : n ≡ 1 + m

one : (r : Option ℕ) (n : ℕ) → further r ≡ Some n → One r n
one (Some m) n e = record { m = m; is = refl; more = let f : 1 + m ≡ n = cc in sym f }
one None n e = absurd cc

pub record Zeroed (s : List ℕ) (i n : ℕ) : Type 0 where
  pub inside : i + n < length s
  pub none_zero : (k : ℕ) → k < n → byte s (i + k) ≢ 0
  pub final_zero : byte s (i + n) ≡ 0

pub zeroed : (s : List ℕ) (n i : ℕ) → first_zero s i ≡ Some n → Zeroed s i n
zeroed s zero i e =
    let l = zero_in s i 0 (sym e) in
    ⊎_elim
    (λ (h : byte s i ≡ 0). record { inside = l; none_zero = λ k q _. omega arith; final_zero = ap (byte s) (omega arith) ∙ h })
    (λ h. absurd (let o = one (first_zero s (i + 1)) 0 (sym (zero_later s i i (omega arith) h) ∙ e) in omega (arith, o.more)))
    (same? (byte s i) 0)
zeroed s (suc n) i e =
    let l = zero_in s i (suc n) (sym e) in
    ⊎_elim
    (λ (h : byte s i ≡ 0). absurd (let f : Some 0 ≡ Some (suc n) = sym (zero_here s i i (omega arith) h) ∙ e in cc))
    (λ (h : byte s i ≡ 0 → ⊥). let o = one (first_zero s (i + 1)) (suc n) (sym (zero_later s i i (omega arith) h) ∙ e) in
    let same : o.m ≡ n = omega (arith, o.more) in
    let r = zeroed s n (i + 1) (o.is ∙ ap Some same) in
    record {
      inside = l;
      none_zero = λ k q t. ⊎_elim (λ (p : 0 < k). r.none_zero (k - 1) (omega arith) (ap (byte s) (omega arith) ∙ t))
          (λ (p : k ≤ 0). h (ap (byte s) (omega arith) ∙ t)) (below? 0 k);
      final_zero = ap (byte s) (omega arith) ∙ r.final_zero;
    })
    (same? (byte s i) 0)

-- .. and where there is none
lost : (r : Option ℕ) → further r ≡ None → r ≡ None
lost (Some m) e = cc
lost None e = refl

not_here : (s : List ℕ) (i : ℕ) → first_zero s i ≡ None → i < length s → byte s i ≡ 0 → ⊥
not_here s i e h q =
    let f : ◌≡◌ {A = Option ℕ} (Some 0) None = sym (zero_here s i i h q) ∙ e in
    cc

pub no_zero : (s : List ℕ) (n i : ℕ) → first_zero s i ≡ None → i + n < length s → byte s (i + n) ≢ 0
no_zero s zero i e h t = not_here s i e (omega arith) (ap (byte s) (omega arith) ∙ t)
no_zero s (suc n) i e h t =
    let later = lost (first_zero s (i + 1)) (sym (zero_later s i i (omega arith) (not_here s i e (omega arith))) ∙ e) in
    no_zero s n (i + 1) later (omega arith) (ap (byte s) (omega arith) ∙ t)

-- a text that is found begins where it is looked for, and ends at the first zero
record TextFound (s : List ℕ) (i : ℕ) : Type 0 where
  n : ℕ
  is : text_from s i ≡ found i n
  ends : Zeroed s i n

text_found : (s : List ℕ) (i : ℕ) → (text_from s i).number ≡ 0 → TextFound s i
text_found s i e = go (first_zero s i) refl
  where
    go : (r : Option ℕ) → first_zero s i ≡ r → TextFound s i
    go (Some n) f = record { n = n; is = sym (text_ends s i n (sym f)); ends = zeroed s n i f }
    go None f = absurd (omega (arith, ap (λ (x : Found). x.number) (text_open s i (sym f)), e))

-- ---- the length bytes: a number of at most five bytes that fits 32 bits
record Numbered (s : List ℕ) (k i : ℕ) : Type 0 where
  v : ℕ
  e : ℕ
  number : Leb128 s (suc k) i v e
  below : v < lim k
  is : after_length (suc k) s i ≡ text_from s e

lim_many : (k : ℕ) → 16 ≤ lim k
unfolding lim
lim_many zero = omega arith
lim_many (suc k) = omega (arith, lim_many k)

not_refused : {f : Found} (r : ℕ) → 0 < r → none r ≡ f → f.number ≡ 0 → ⊥
not_refused r h e q = omega (arith, ap (λ (x : Found). x.number) e, q)

off_refused : (s : List ℕ) (k i : ℕ) → length s ≤ i → (after_length (suc k) s i).number ≡ 0 → ⊥
off_refused s k i h q = not_refused 6 (omega arith) (length_off s i (suc k) (omega arith) h) q

numbered : (s : List ℕ) → Bytes s → (k i : ℕ) → (after_length (suc k) s i).number ≡ 0 → Numbered s k i
unfolding lim
numbered s bytes zero i q =
    ⊎_elim
    (λ (h : i < length s). ⊎_elim
    (λ (l : 15 < byte s i). absurd (not_refused 10 (omega arith) (length_over s i 1 (omega arith) h (omega arith) l) q))
    (λ (l : byte s i ≤ 15). record {
      v = byte s i;
      e = i + 1;
      number = last_byte h (omega arith);
      below = omega arith;
      is = sym (length_ends s i 1 (omega arith) h (λ _. l) (omega arith));
    })
    (below? 15 (byte s i)))
    (λ (h : length s ≤ i). absurd (off_refused s 0 i h q)) (below? i (length s))
numbered s bytes (suc k) i q =
    let five : suc (suc k) - 1 ≡ 0 → byte s i ≤ 15 = λ e. absurd (omega arith) in
    ⊎_elim
    (λ (h : i < length s). ⊎_elim
    (λ (l : byte s i < 128). record {
      v = byte s i;
      e = i + 1;
      number = last_byte h l;
      below = omega (arith, lim_many k);
      is = sym (length_ends s i (suc (suc k)) (omega arith) h five l);
    })
    (λ (l : 128 ≤ byte s i). let same : suc k ≡ suc (suc k) - 1 = omega arith in
    let goes = ap (λ (n : ℕ). after_length n s (i + 1)) same ∙ length_more s i (suc (suc k)) (omega arith) h five l in
    let r = numbered s bytes k (i + 1) (ap (λ (x : Found). x.number) goes ∙ q) in
    record {
      v = byte s i - 128 + 128 * r.v;
      e = r.e;
      number = more_bytes h l r.number;
      below = omega (arith, bytes i, r.below);
      is = sym goes ∙ r.is;
    })
    (below? (byte s i) 128))
    (λ (h : length s ≤ i). absurd (off_refused s (suc k) i h q)) (below? i (length s))

-- ---- the item
pub record Accepted (s : List ℕ) (i : ℕ) : Type 0 where
  pub small : length s ≤ largest_file
  pub text : List ℕ
  pub item : StringData s i text
  pub read : Read s i text item

pub accepted : (s : List ℕ) (i : ℕ) → Bytes s → (string_text s i).number ≡ 0 → Accepted s i
unfolding lim
accepted s i bytes q =
    ⊎_elim (λ (h : largest_file < length s). absurd (not_refused 1 (omega arith) (too_large s i (lt-ltb _ _ h)) q))
    (λ (h : length s ≤ largest_file). let size = numbered s bytes 4 i (ap (λ (x : Found). x.number) (small_enough s i (le-ltb _ _ h) _ refl) ∙ q) in
    let same = small_enough s i (le-ltb largest_file (length s) h) _ refl in
    let ends = text_found s size.e (ap (λ (x : Found). x.number) (sym size.is ∙ same) ∙ q) in
    let item : StringData s i (take ends.n (drop size.e s)) = record {
      utf16_size = size.v;
      start = size.e;
      n = ends.n;
      size = record { number = size.number; fits = omega (arith, size.below) };
      inside = ends.ends.inside;
      none_zero = ends.ends.none_zero;
      final_zero = ends.ends.final_zero;
      bytes = refl;
    } in
    record { small = h; text = take ends.n (drop size.e s); item = item; read = published item h })
    (below? largest_file (length s))
