-- Outcomes go by tests, each with a refusal on one side. A test on which room has no say comes out alike in both calls; a test of room that
-- was passed is passed with more; and where each way out has a number other than 4, so has the whole.
-- Assumes nothing.
use Prim.Native.Nat.{ℕ, ◌≤◌}
use native.Mathlib.Omega.{arith}
use mathlib.Core.Path.{◌≡◌, refl}
use mathlib.Core.Logic.{◌≢◌}
use mathlib.Core.Bool.{Bool, true, false, cond, ◌&&◌, ◌||◌}
use lib.Dec.{ltb, leb}
use borrow.Author.Tests.{ltb-false, le-ltb, leb-true, le-leb}
use Rattle.words.proofs.Shared.{and_left, and_right}

-- ---- more room
module _ {A : Type 0} (number : A → ℕ) where
  -- a test that is the same in both calls, with the refusal first
  pub same_else : (b : Bool) (x y y' : A) → (number y ≡ 0 → y' ≡ y) → number (cond b x y) ≡ 0 → cond b x y' ≡ cond b x y
  same_else true x y y' f e = refl
  same_else false x y y' f e = f e

  -- .. and last
  pub same_then : (b : Bool) (y y' x : A) → (number y ≡ 0 → y' ≡ y) → number (cond b y x) ≡ 0 → cond b y' x ≡ cond b y x
  same_then true y y' x f e = f e
  same_then false y y' x f e = refl

  -- a test for too little room, with its refusal first
  pub room_else : (b b' : Bool) (x y : A) → (number x ≡ 0 → ⊥) → (b ≡ false → b' ≡ false) → number (cond b x y) ≡ 0 → cond b' x y ≡ cond b x y
  room_else true b' x y n f e = absurd (n e)
  room_else false b' x y n f e = rw (f refl)

  -- a test for enough room, with its refusal last
  pub room_then : (b b' : Bool) (y y' x : A) → (number x ≡ 0 → ⊥) → (b ≡ true → b' ≡ true) → (number y ≡ 0 → y' ≡ y) → number (cond b y x) ≡ 0
      → cond b' y' x ≡ cond b y x
  room_then true b' y y' x n f g e = rw (f refl) (g e)
  room_then false b' y y' x n f g e = absurd (n e)

-- a need that is met stays met
pub more_ltb : (need a a' : ℕ) → a ≤ a' → ltb a need ≡ false → ltb a' need ≡ false
more_ltb need a a' h e = le-ltb a' need (omega (arith, ltb-false a need e))

pub more_leb : (need a a' : ℕ) → a ≤ a' → leb need a ≡ true → leb need a' ≡ true
more_leb need a a' h e = le-leb need a' (omega (arith, leb-true need a e))

pub more_both : (p q p' q' : Bool) → (p ≡ true → p' ≡ true) → (q ≡ true → q' ≡ true) → (p && q) ≡ true → (p' && q') ≡ true
more_both p q p' q' f g e = rw (f (and_left p q e), g (and_right p q e))

pub more_either : (p q p' q' : Bool) → (p ≡ false → p' ≡ false) → (q ≡ false → q' ≡ false) → (p || q) ≡ false → (p' || q') ≡ false
more_either true q p' q' f g e = absurd (let z : ◌≡◌ {A = ℕ} 0 1 = cc in omega arith)
more_either false q p' q' f g e = rw (f refl, g e)

-- ---- no 4
module _ {A : Type 0} (number : A → ℕ) where
  abbrev pub NotFour : A → Type 0
  NotFour x = number x ≢ 4

  pub neither : (b : Bool) (x y : A) → NotFour x → NotFour y → NotFour (cond b x y)
  neither true x y f g = f
  neither false x y f g = g
