-- Finds. There is one first occurrence from a place on, so the finds from there are it and those from its end on.
--     nearer, ahead_start, ahead_next, ahead_found, ahead_none   the search goes by places of the first and last byte
--     find_occurs, find_after, finds_apart        every find is an occurrence, and two share no byte
--     owned_first, first_owned, later_owned        the owners from a find on
-- Assumes nothing.
use Prim.Native.Nat.{ℕ, ◌+◌, ◌-◌, ◌≤◌, ◌<◌, min}
use mathlib.Core.Path.{◌≡◌, ap, sym, subst, ◌∙◌}
use mathlib.Core.Logic.{◌⊎◌, inl, inr, ⊎_elim}
use mathlib.Core.List.{List}
use lib.ListN.{length, get_or}
use native.Mathlib.Omega.{arith}
use Rattle.byte_search.specs.First as Jump
use Rattle.byte_search.specs.First.{Both}
use Rattle.byte_search.proofs.Firsts.{onward}
use Rattle.word_set.proofs.Sets.{below_or_not}
use Rattle.string_search.specs.declared.Owner.TheVariants.{Entry}
use Rattle.byte_search.specs.Occurs.{Stands, Occurs}
use Rattle.string_search.specs.Finds.{First, Find, leftmost, further}
use Rattle.byte_search.proofs.Occurs.{byte_stands}
use Rattle.string_search.specs.Owner.{owner}
use Rattle.string_search.specs.Search.{OwnsFrom}

-- ---- from one place of the query's first and last byte to the next
abbrev pub Ends : List ℕ → List ℕ → ℕ → Type 0
Ends s q = Both (get_or q 0 0) (get_or q (length q - 1) 0) (length q - 1) s

-- an occurrence is such a place
occurs_ends : {s q : List ℕ} {e p : ℕ} → 0 < length q → Occurs s q e p → Ends s q p
occurs_ends {s} {q} {e} {p} h o =
    let z : p + 0 ≡ p = omega arith in
    (subst (λ (i : ℕ). get_or s i 0 ≡ get_or q 0 0) z (byte_stands s q p 0 h o.bytes), byte_stands s q p (length q - 1) (omega arith) o.bytes)

-- no occurrence stands from `from` up to p, which is before `from` only where no place is left
pub record Ahead (s q : List ℕ) (e from p : ℕ) : Type 0 where
  pub inside : p ≤ e - (length q - 1)
  pub after : p < e - (length q - 1) → from ≤ p
  pub none_before : (k : ℕ) → from ≤ k → k < p → Occurs s q e k → ⊥

-- the next such place is nearer the end e
pub nearer : {P : ℕ → Type 0} {e n r : ℕ} (p d : ℕ) → e ≤ n → p + d < e → Jump.First P (p + 1) (min e n - d) r → e - r < e - p
nearer {r = r} p d h m f = let o : p + 1 ≤ r = onward (omega arith) f in omega arith

module _ {s q : List ℕ} {e from : ℕ} (h : 0 < length q) (l : e ≤ length s) where
  pub ahead_start : {p : ℕ} → Jump.First (Ends s q) from (min e (length s) - (length q - 1)) p → Ahead s q e from p
  ahead_start f = record {
    inside = omega (arith, f.inside);
    after = λ m. f.after (omega arith);
    none_before = λ k a b o. f.none_before k a b (occurs_ends h o);
  }

  pub ahead_next : {p r : ℕ} → Ahead s q e from p → p + (length q - 1) < e → (Stands s q p → ⊥)
      → Jump.First (Ends s q) (p + 1) (min e (length s) - (length q - 1)) r → Ahead s q e from r
  ahead_next {p} {r} c m n f = record {
    inside = omega (arith, f.inside);
    after = λ d. omega (arith, c.after (omega arith), f.after (omega arith));
    none_before = λ k a b o.
        ⊎_elim (λ (i : k < p). c.none_before k a i o)
        (λ (i : p ≤ k).
        ⊎_elim (λ (j : p < k). f.none_before k (omega arith) b (occurs_ends h o))
        (λ (j : k ≤ p). n (let z : k ≡ p = omega arith in subst (Stands s q) z o.bytes)) (below_or_not p k)) (below_or_not k p);
  }

  pub ahead_found : {p : ℕ} → Ahead s q e from p → p + (length q - 1) < e → Stands s q p → First s q e from p
  ahead_found c m b = record { after = c.after (omega arith); occurs = record { inside = omega arith; bytes = b }; none_before = c.none_before }

  pub ahead_none : {p : ℕ} → Ahead s q e from p → e ≤ p + (length q - 1) → (k : ℕ) → from ≤ k → Occurs s q e k → ⊥
  ahead_none c m k a o = c.none_before k a (omega (arith, o.inside)) o

module _ {s q : List ℕ} {e : ℕ} where
  first_unique : {from p r : ℕ} → First s q e from p → First s q e from r → p ≡ r
  first_unique {from} {p} {r} a b =
      ⊎_elim (λ (l : p < r). absurd (b.none_before p a.after l a.occurs))
      (λ (l : r ≤ p). ⊎_elim (λ (m : r < p). absurd (a.none_before r b.after m b.occurs)) (λ (m : p ≤ r). omega arith) (below_or_not r p))
      (below_or_not p r)

  -- a find is the first occurrence, or a find from its end on
  pub find_cases : {from p r : ℕ} → First s q e from p → Find s q e from r → (r ≡ p) ⊎ Find s q e (p + length q) r
  find_cases f (leftmost g) = inl (first_unique g f)
  find_cases {from} {p} {r} f (further {p = p'} g rest) = inr (subst (λ (i : ℕ). Find s q e (i + length q) r) (first_unique g f) rest)

  pub find_occurs : {from r : ℕ} → Find s q e from r → Occurs s q e r
  find_occurs (leftmost f) = f.occurs
  find_occurs (further f rest) = find_occurs rest

  pub find_after : {from r : ℕ} → Find s q e from r → from ≤ r
  find_after (leftmost f) = f.after
  find_after {from} {r} (further f rest) = omega (arith, f.after, find_after rest)

  -- two finds share no byte
  pub finds_apart : {from p r : ℕ} → Find s q e from p → Find s q e from r → (p ≡ r) ⊎ ((p + length q ≤ r) ⊎ (r + length q ≤ p))
  finds_apart {from} {p} {r} (leftmost f) y =
      ⊎_elim (λ (d : r ≡ p). inl (sym d)) (λ (d : Find s q e (p + length q) r). inr (inl (find_after d))) (find_cases f y)
  finds_apart {from} {p} {r} (further {p = p'} f x) y =
      ⊎_elim (λ (d : r ≡ p'). inr (inr (subst (λ (i : ℕ). i + length q ≤ p) (sym d) (find_after x))))
      (λ (d : Find s q e (p' + length q) r). finds_apart x d) (find_cases f y)

  -- the owners from a place on are the first find's, if it has one, and those from its end on
  module _ {ks : List ℕ} {from p : ℕ} (f : First s q e from p) where
    pub owned_first : (x : ℕ) → OwnsFrom s ks q e from x → (owner ks p ≡ Entry x) ⊎ OwnsFrom s ks q e (p + length q) x
    owned_first x o =
        ⊎_elim (λ (d : o.at ≡ p). inl (ap (owner ks) (sym d) ∙ o.owns))
        (λ (d : Find s q e (p + length q) o.at). inr record { at = o.at; find = d; owns = o.owns }) (find_cases f o.find)

    pub first_owned : (x : ℕ) → owner ks p ≡ Entry x → OwnsFrom s ks q e from x
    first_owned x h = record { at = p; find = leftmost f; owns = h }

    pub later_owned : (x : ℕ) → OwnsFrom s ks q e (p + length q) x → OwnsFrom s ks q e from x
    later_owned x o = record { at = o.at; find = further f o.find; owns = o.owns }

  pub none_owned : {ks : List ℕ} {from : ℕ} → ((k : ℕ) → from ≤ k → Occurs s q e k → ⊥) → (x : ℕ) → OwnsFrom s ks q e from x → ⊥
  none_owned n x o = n o.at (find_after o.find) (find_occurs o.find)
