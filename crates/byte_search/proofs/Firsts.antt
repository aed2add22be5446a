-- Laws of the first place of a kind: what is passed grows by the places that are not of it, and a stretch has one first place.
-- Assumes nothing.
use Prim.Native.Nat.{ℕ, ◌+◌, ◌-◌, ◌≤◌, ◌<◌}
use mathlib.Core.Path.{◌≡◌, refl, subst}
use mathlib.Core.Logic.{◌⊎◌, inl, inr, ⊎_elim}
use mathlib.Core.Bool.{Bool, true, false}
use lib.Bits.{bit_or, or_add_and, and_le_l, and_le_r}
use lib.Dec.{ltb}
use native.Mathlib.Omega.{arith}
use borrow.Author.Tests.{ltb-true, ltb-false}
use Rattle.byte_search.specs.Steps.{Lane, Tested, Passed}
use Rattle.byte_search.specs.First.{First}

pub split : (a b : ℕ) → (a < b) ⊎ (b ≤ a)
split a b = go (ltb a b) refl
  where
    go : (t : Bool) → ltb a b ≡ t → (a < b) ⊎ (b ≤ a)
    go true e = inl (ltb-true a b e)
    go false e = inr (ltb-false a b e)

module _ {P : ℕ → Type 0} {from to : ℕ} where
  pub onward : {r : ℕ} → from ≤ to → First P from to r → from ≤ r
  onward {r} h f = ⊎_elim f.after (λ (l : to ≤ r). omega arith) (split r to)

  not_below : {r q : ℕ} → First P from to r → First P from to q → r < q → ⊥
  not_below {r} {q} f g l =
      let m : r < to = omega (arith, g.inside) in
      g.none_before r (f.after m) l (f.here m)

  pub first_unique : {r q : ℕ} → First P from to r → First P from to q → r ≡ q
  first_unique {r} {q} f g =
      ⊎_elim (λ (l : r < q). absurd (not_below f g l))
      (λ (l : q ≤ r). ⊎_elim (λ (m : q < r). absurd (not_below g f m)) (λ (m : r ≤ q). omega arith) (split q r)) (split r q)

  -- a stretch passed, and then n places
  pub pass_more : {r : ℕ} (n : ℕ) → Passed P from to r → r + n ≤ to → ((k : ℕ) → k < n → P (r + k) → ⊥)
      → Passed P from to (r + n)
  pass_more {r} n p h o = record {
    onward = omega arith;
    inside = h;
    none_before = λ k l m i.
        ⊎_elim (λ (q : k < r). p.none_before k l q i)
        (λ (q : r ≤ k). o (k - r) (omega arith) (let e : k ≡ r + (k - r) = omega arith in subst P e i))
        (split k r);
  }

-- ---- a block, by its places below i
module _ {P : ℕ → Type 0} {p : ℕ} where
  pub one_tested : {i any r : ℕ} → Tested P p i any → Lane 1 0 (P (p + i)) r → Tested P p (i + 1) (bit_or any r)
  one_tested {i} {any} {r} t l = ⊎_elim hit other l.cases
    where
      hit : (r ≡ 1) × P (p + i) → Tested P p (i + 1) (bit_or any r)
      hit c = record {
        none = λ e. absurd (omega (arith, c.0, or_add_and any r, and_le_l any r));
        one = λ _. record { at = i; below = omega arith; is = c.1 };
      }

      other : (r ≡ 0) × (P (p + i) → ⊥) → Tested P p (i + 1) (bit_or any r)
      other c = record {
        none = λ e k h y.
            ⊎_elim (λ (d : k < i). t.none (omega (arith, or_add_and any r, and_le_r any r)) k d y)
            (λ (d : i ≤ k). c.1 (let q : k ≡ i = omega arith in subst (λ (j : ℕ). P (p + j)) q y)) (split k i);
        one = λ h. let o = t.one (omega (arith, c.0, or_add_and any r)) in record { at = o.at; below = omega (arith, o.below); is = o.is };
      }

-- `first` is the first of the places below i that is of the kind, and n where none is
pub record Lanes (P : ℕ → Type 0) (p n i first : ℕ) : Type 0 where
  pub small : first ≤ n
  pub here : first < n → P (p + first)
  pub before : (k : ℕ) → k < i → k < first → P (p + k) → ⊥

module _ {P : ℕ → Type 0} {p n : ℕ} where
  pub all_lanes : {i first : ℕ} → n ≤ i → Lanes P p n i first → First P p (p + n) (p + first)
  all_lanes {i} {first} h l = record {
    inside = omega (arith, l.small);
    after = λ _. omega arith;
    here = λ m. l.here (omega arith);
    none_before = λ k m q y.
        let e : k ≡ p + (k - p) = omega arith in
        l.before (k - p) (omega (arith, l.small)) (omega arith) (subst P e y);
  }
