-- Bytes that stand somewhere in others, one by one; and of a place it can be told, since two lists of bytes can be compared.
-- Assumes nothing.
use Prim.Native.Nat.{ℕ, ◌+◌, ◌≤◌, ◌<◌}
use mathlib.Core.Path.{◌≡◌, refl, ap, sym, ◌∙◌}
use mathlib.Core.Bool.{true, false}
use mathlib.Core.Logic.{◌⊎◌, inl, inr, ⊎_elim}
use mathlib.Core.List.{List, [], ◌∷◌}
use lib.ListN.{length, get_or, take, drop, length-take, length-drop}
use lib.Seq.{ext_get_or, get_or-take, get_or-drop}
use lib.Dec.{eqb, ltb}
use native.Mathlib.Omega.{arith}
use borrow.Author.Tests.{eqb-true, eqb-false, ltb-true, ltb-false}
use Rattle.words.proofs.Shared.{case}
use Rattle.byte_search.specs.Occurs.{Stands, Occurs}

pub stands_bytes : (s q : List ℕ) (p : ℕ) → p + length q ≤ length s → ((k : ℕ) → k < length q → get_or s (p + k) 0 ≡ get_or q k 0) → Stands s q p
stands_bytes s q p h f =
    let l : length (take (length q) (drop p s)) ≡ length q = simp (length-take, length-drop) (omega arith) in
    ext_get_or 0 (take (length q) (drop p s)) q l (λ i m. get_or-take (length q) (drop p s) i 0 (omega arith) ∙ get_or-drop p s i 0 ∙ f i (omega arith))

pub byte_stands : (s q : List ℕ) (p k : ℕ) → k < length q → Stands s q p → get_or s (p + k) 0 ≡ get_or q k 0
byte_stands s q p k h e = sym (get_or-take (length q) (drop p s) k 0 h ∙ get_or-drop p s k 0) ∙ ap (λ (l : List ℕ). get_or l k 0) e

same_list : (xs ys : List ℕ) → (xs ≡ ys) ⊎ (xs ≡ ys → ⊥)
same_list [] [] = inl refl
same_list [] (y ∷ ys) = inr (λ e. let z : ◌≡◌ {A = ℕ} 0 1 = cc in omega arith)
same_list (x ∷ xs) [] = inr (λ e. let z : ◌≡◌ {A = ℕ} 0 1 = cc in omega arith)
same_list (x ∷ xs) (y ∷ ys) =
    ⊎_elim (λ (h : eqb x y ≡ true). ⊎_elim (λ (t : xs ≡ ys). inl (let k : x ≡ y = eqb-true x y h in cc)) (λ (t : xs ≡ ys → ⊥). inr (λ e. t (cc)))
    (same_list xs ys))
    (λ (h : eqb x y ≡ false). inr (λ e. eqb-false x y h (cc))) (case (eqb x y))

pub occurs_or_not : (s q : List ℕ) (e p : ℕ) → Occurs s q e p ⊎ (Occurs s q e p → ⊥)
occurs_or_not s q e p =
    ⊎_elim (λ (h : ltb e (p + length q) ≡ true). inr (λ o. omega (arith, ltb-true e (p + length q) h, o.inside)))
    (λ (h : ltb e (p + length q) ≡ false). ⊎_elim (λ (b : Stands s q p). inl record { inside = ltb-false e (p + length q) h; bytes = b })
    (λ (b : Stands s q p → ⊥). inr (λ o. b o.bytes))
    (same_list (take (length q) (drop p s)) q))
    (case (ltb e (p + length q)))
