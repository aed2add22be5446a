-- How long a rising list can be. Each of its numbers takes a place of its own in a list that holds them all, and the i-th of them is i or
-- more, so that there are no more than a bound above them all.
-- Assumes nothing.
use Prim.Native.Nat.{ℕ, zero, suc, ◌-◌, ◌≤◌, ◌<◌}
use native.Mathlib.Omega.{arith}
use mathlib.Core.Path.{◌≡◌, refl, ap, sym, subst}
use mathlib.Core.Logic.{⊎_elim}
use mathlib.Core.List.{List, [], ◌∷◌}
use lib.ListN.{length, get_or}
use Rattle.words.specs.Rising.{Rising}
use Rattle.word_set.specs.Sets.{In, SetOf}
use Rattle.word_set.proofs.Sets.{below_or_not, in_at, in_here, in_cons, in_cases, in_none}

-- the list without what stands at p
without_at : ℕ → List ℕ → List ℕ
without_at p [] = []
without_at zero (y ∷ ys) = ys
without_at (suc p) (y ∷ ys) = y ∷ without_at p ys

one_less : (p : ℕ) (ys : List ℕ) → p < length ys → length ys ≡ suc (length (without_at p ys))
unfolding without_at
one_less p [] h = absurd (omega arith)
one_less zero (y ∷ ys) h = refl
one_less (suc p) (y ∷ ys) h = ap suc (one_less p ys (omega arith))

still_in : (p : ℕ) {x : ℕ} (ys : List ℕ) → (x ≡ get_or ys p 0 → ⊥) → In x ys → In x (without_at p ys)
unfolding without_at
still_in p [] n i = absurd (in_none i)
still_in zero {x} (y ∷ ys) n i = ⊎_elim (λ (e : x ≡ y). absurd (n e)) (λ (m : In x ys). m) (in_cases i)
still_in (suc p) {x} (y ∷ ys) n i =
    ⊎_elim
    (λ (e : x ≡ y). subst (λ (z : ℕ). In z (y ∷ without_at p ys)) (sym e) (in_here y (without_at p ys)))
    (λ (m : In x ys). in_cons y (still_in p ys n m))
    (in_cases i)

after_first : (x : ℕ) (xs : List ℕ) → Rising (x ∷ xs) → Rising xs
after_first x xs r i j a b = r (suc i) (suc j) (omega arith) (omega arith)

above_first : {x z : ℕ} {xs : List ℕ} → Rising (x ∷ xs) → In z xs → x < z
above_first r i = omega (arith, r 0 (suc i.at) (omega arith) (omega (arith, i.inside)), i.is)

-- no longer than a list in which all its numbers stand
pub few_in : (xs ys : List ℕ) → Rising xs → ((x : ℕ) → In x xs → In x ys) → length xs ≤ length ys
few_in [] ys r f = omega arith
few_in (x ∷ xs) ys r f =
    let m : In x ys = f x (in_here x xs) in
    let rest : length xs ≤ length (without_at m.at ys) =
    few_in xs (without_at m.at ys) (after_first x xs r)
    (λ z i. still_in m.at ys (λ e. omega (arith, above_first r i, e, m.is)) (f z (in_cons x i))) in
    omega (arith, rest, one_less m.at ys m.inside)

at_least_its_place : (xs : List ℕ) → Rising xs → (i : ℕ) → i < length xs → i ≤ get_or xs i 0
at_least_its_place xs r zero h = omega arith
at_least_its_place xs r (suc i) h = omega (arith, r i (suc i) (omega arith) h, at_least_its_place xs r i (omega arith))

-- no more numbers than a bound above them all
pub few_below : (n : ℕ) (xs : List ℕ) → Rising xs → ((x : ℕ) → In x xs → x < n) → length xs ≤ n
few_below n xs r f =
    ⊎_elim
    (λ (z : 0 < length xs).
    omega (arith, at_least_its_place xs r (length xs - 1) (omega arith), f (get_or xs (length xs - 1) 0) (in_at xs (length xs - 1) (omega arith))))
    (λ (z : length xs ≤ 0). omega arith)
    (below_or_not 0 (length xs))

-- of a set: its numbers all stand in ys, or below n
pub set_in : {P : ℕ → Type 0} {xs : List ℕ} (ys : List ℕ) → ((x : ℕ) → P x → In x ys) → SetOf P xs → length xs ≤ length ys
set_in {xs = xs} ys f s = few_in xs ys s.rising (λ x i. f x (s.sound x i))

pub set_below : {P : ℕ → Type 0} {xs : List ℕ} (n : ℕ) → ((x : ℕ) → P x → x < n) → SetOf P xs → length xs ≤ n
set_below {xs = xs} n f s = few_below n xs s.rising (λ x i. f x (s.sound x i))
