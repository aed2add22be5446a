-- What is read from a slice of which a stretch was filled: in the stretch the filling, and outside it what stood there before, since the
-- three parts stand one after another.
-- Assumes nothing.
use Prim.Native.Nat.{ℕ, ◌+◌, ◌-◌, ◌≤◌, ◌<◌}
use native.Mathlib.Omega.{arith}
use mathlib.Core.Path.{◌≡◌, ◌∙◌, ap}
use mathlib.Core.List.{List, ◌++◌}
use lib.ListN.{length, get_or, take, drop, replicate, length-replicate, get_or-replicate, get_or-append}
use lib.Seq.{length-take-le, get_or-append-add, get_or-take, get_or-drop}
use Rattle.words.specs.Padded.{stretch}

module _ (xs : List ℕ) (a k v : ℕ) (fits : a + k ≤ length xs) where
  front : length (take a xs) ≡ a
  front = length-take-le a xs (omega arith)

  -- what stands from a on
  after : (i : ℕ) → a ≤ i → get_or (stretch xs a k v) i 0 ≡ get_or (replicate k v ++ drop k (drop a xs)) (i - a) 0
  unfolding stretch
  after i h =
      let e : i ≡ length (take a xs) + (i - a) = omega (arith, front) in
      ap (λ (z : ℕ). get_or (take a xs ++ (replicate k v ++ drop k (drop a xs))) z 0) e
      ∙ get_or-append-add (take a xs) (replicate k v ++ drop k (drop a xs)) (i - a) 0

  pub stretch_below : (i : ℕ) → i < a → get_or (stretch xs a k v) i 0 ≡ get_or xs i 0
  unfolding stretch
  stretch_below i h = get_or-append (take a xs) (replicate k v ++ drop k (drop a xs)) 0 i (omega (arith, front)) ∙ get_or-take a xs i 0 h

  pub stretch_in : (i : ℕ) → a ≤ i → i < a + k → get_or (stretch xs a k v) i 0 ≡ v
  stretch_in i h l =
      after i h ∙ get_or-append (replicate k v) (drop k (drop a xs)) 0 (i - a) (omega (arith, length-replicate k v))
      ∙ get_or-replicate k (i - a) v 0 (omega arith)

  pub stretch_above : (i : ℕ) → a + k ≤ i → get_or (stretch xs a k v) i 0 ≡ get_or xs i 0
  stretch_above i h =
      let e : i - a ≡ length (replicate k v) + (i - a - k) = omega (arith, length-replicate k v) in
      let f : a + (k + (i - a - k)) ≡ i = omega arith in
      after i (omega arith) ∙ ap (λ (z : ℕ). get_or (replicate k v ++ drop k (drop a xs)) z 0) e
      ∙ get_or-append-add (replicate k v) (drop k (drop a xs)) (i - a - k) 0 ∙ get_or-drop k (drop a xs) (i - a - k) 0
      ∙ get_or-drop a xs (k + (i - a - k)) 0 ∙ ap (λ (z : ℕ). get_or xs z 0) f
