-- Laws of lent words. Each holds since zeros after a list neither change what is read nor are changed by what is written before them.
--     padded     length_padded, padded_longer, padded_none, padded_full, padded_at, padded_set, padded_push, padded_part, padded_zeros, padded_front, sets_zeros
--     zeros      get_or_zeros, cleared_again
--     part       length_part
--     stretch    length_stretch, stretch_padded, lent_fill
-- Assumes nothing.
use mathlib.Core.Path.{◌≡◌, refl, ap, ◌∙◌}
use mathlib.Core.List.{List, [], ◌∷◌, ◌++◌, append_assoc, append-nil}
use Prim.Native.Nat.{ℕ, zero, suc, ◌+◌, ◌-◌, ◌≤◌, ◌<◌}
use native.Mathlib.Omega.{arith}
use lib.ListN.{length, replicate, take, drop, get_or, set, length-append, length-replicate, replicate-append-replicate, length-take, length-drop}
use lib.ListN.{length-set}
use lib.Seq.{sets, sets-eq, take-append-le, drop-append-le, set-append_left, set_at}
use Rattle.words.specs.Padded.{zeros, padded, part, stretch}

pub length_padded : (n : ℕ) (xs : List ℕ) → length xs ≤ n → length (padded n xs) ≡ n
unfolding padded
length_padded n xs h = simp (length-append, length-replicate) (omega arith)

pub padded_longer : (n : ℕ) (xs : List ℕ) → length xs ≤ length (padded n xs)
unfolding padded
padded_longer n xs = omega (arith, length-append xs (zeros (n - length xs)))

pub padded_none : (n : ℕ) → padded n [] ≡ zeros n
unfolding padded
padded_none n =
    let e : n - 0 ≡ n = omega arith in
    ap zeros e

-- a list that is n long already
pub padded_full : (n : ℕ) (xs : List ℕ) → length xs ≡ n → padded n xs ≡ xs
unfolding padded
padded_full n xs h =
    let z : n - length xs ≡ 0 = omega arith in
    rw (z, append-nil)

pub get_or_zeros : (n i : ℕ) → ◌≡◌ {A = ℕ} (get_or (zeros n) i 0) 0
get_or_zeros zero i = refl
get_or_zeros (suc n) zero = refl
get_or_zeros (suc n) (suc i) = get_or_zeros n i

at_zeros : (xs : List ℕ) (n i : ℕ) → get_or (xs ++ zeros n) i 0 ≡ get_or xs i 0
at_zeros [] n i = get_or_zeros n i
at_zeros (x ∷ xs) n zero = refl
at_zeros (x ∷ xs) n (suc i) = at_zeros xs n i

pub padded_at : (n : ℕ) (xs : List ℕ) (i : ℕ) → get_or (padded n xs) i 0 ≡ get_or xs i 0
unfolding padded
padded_at n xs i = at_zeros xs (n - length xs) i

pub padded_set : (n : ℕ) (xs : List ℕ) (i a : ℕ) → i < length xs → set (padded n xs) i a ≡ padded n (set xs i a)
unfolding padded
padded_set n xs i a h = set-append_left xs (zeros (n - length xs)) i a h ∙ rw (length-set)

one_zero : (n : ℕ) → 0 < n → zeros n ≡ 0 ∷ zeros (n - 1)
one_zero n h =
    let e : n ≡ suc (n - 1) = omega arith in
    ap zeros e

pub padded_push : (n : ℕ) (xs : List ℕ) (i a : ℕ) → length xs ≡ i → i < n → set (padded n xs) i a ≡ padded n (xs ++ a ∷ [])
unfolding padded
padded_push n xs i a e h =
    let k = n - length xs in
    let s : n - length (xs ++ a ∷ []) ≡ k - 1 = simp length-append (omega arith) in
    rw (one_zero k (omega arith), set_at xs 0 (zeros (k - 1)) a i e, s, append_assoc)

-- a part replaced
pub length_part : (xs : List ℕ) (a k : ℕ) (ys : List ℕ) → a + k ≤ length xs → length ys ≡ k → length (part xs a k ys) ≡ length xs
length_part xs a k ys h e = simp (length-append, length-take, length-drop) (omega arith)

part_append : (xs zs : List ℕ) (a k : ℕ) (ys : List ℕ) → a + k ≤ length xs → part (xs ++ zs) a k ys ≡ part xs a k ys ++ zs
part_append xs zs a k ys h =
    let p : a ≤ length xs = omega arith in
    let q : k ≤ length (drop a xs) = simp length-drop (omega arith) in
    rw (take-append-le a xs zs p, drop-append-le a xs zs p, drop-append-le k (drop a xs) zs q, append_assoc (take a xs), append_assoc ys)

pub padded_part : (n : ℕ) (xs : List ℕ) (a k : ℕ) (ys : List ℕ) → a + k ≤ length xs → length ys ≡ k
    → part (padded n xs) a k ys ≡ padded n (part xs a k ys)
unfolding padded
padded_part n xs a k ys h e =
    let l : length (part xs a k ys) ≡ length xs = length_part xs a k ys h e in
    part_append xs (zeros (n - length xs)) a k ys h ∙ rw l

pub length_stretch : (xs : List ℕ) (a k v : ℕ) → a + k ≤ length xs → length (stretch xs a k v) ≡ length xs
unfolding stretch
length_stretch xs a k v h = length_part xs a k (replicate k v) h (length-replicate k v)

pub stretch_padded : (n : ℕ) (xs : List ℕ) (a k v : ℕ) → a + k ≤ length xs → stretch (padded n xs) a k v ≡ padded n (stretch xs a k v)
unfolding stretch
stretch_padded n xs a k v h = padded_part n xs a k (replicate k v) h (length-replicate k v)

-- what `fill` says of the lent part, said of the whole: ys is the part a .. a + k as `fill` left it
pub lent_fill : (xs : List ℕ) (a k v : ℕ) (ys : List ℕ) → a + k ≤ length xs → ys ≡ replicate (length (take k (drop a xs))) v
    → part xs a k ys ≡ stretch xs a k v
unfolding stretch
lent_fill xs a k v ys h e =
    let l : length (take k (drop a xs)) ≡ k = simp (length-take, length-drop) (omega arith) in
    ap (part xs a k) (e ∙ ap (λ (n : ℕ). replicate n v) l)

pub padded_zeros : (n w : ℕ) → w ≤ n → padded n (zeros w) ≡ zeros n
unfolding padded
padded_zeros n w h =
    let e : w + (n - w) ≡ n = omega arith in
    rw (length-replicate, replicate-append-replicate, e)

drop_zeros : (k n : ℕ) → drop k (zeros n) ≡ zeros (n - k)
drop_zeros zero n =
    let e : n ≡ n - 0 = omega arith in
    ap zeros e
drop_zeros (suc k) zero =
    let e : 0 ≡ 0 - suc k = omega arith in
    ap zeros e
drop_zeros (suc k) (suc n) =
    let e : n - k ≡ suc n - suc k = omega arith in
    drop_zeros k n ∙ ap zeros e

-- a list written over the front of zeros
pub padded_front : (n k : ℕ) (l : List ℕ) → length l ≡ k → l ++ drop k (zeros n) ≡ padded n l
unfolding padded
padded_front n k l e = rw (drop_zeros k n, ← e)

-- words stored into zeros that hold them all
pub sets_zeros : {l : List ℕ} (n : ℕ) (vs : List ℕ) → l ≡ zeros n → length vs ≤ n → sets l 0 vs ≡ padded n vs
sets_zeros n vs e h =
    let l : 0 + length vs ≤ length (zeros n) = simp length-replicate (omega arith) in
    let z : 0 + length vs ≡ length vs = omega arith in
    ap (λ (k : List ℕ). sets k 0 vs) e ∙ sets-eq vs (zeros n) 0 l ∙ ap (λ (k : ℕ). vs ++ drop k (zeros n)) z ∙ padded_front n (length vs) vs refl

-- a slice that is cleared once more is as long as at first
pub cleared_again : (a₁ a₀ us : List ℕ) → length a₁ ≡ length a₀ → us ≡ zeros (length a₁) → us ≡ zeros (length a₀)
cleared_again a₁ a₀ us h e = rw h at e
