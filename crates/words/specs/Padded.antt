-- What a lent slice of words holds: a result with zeros after it, and a slice of which a part was lent on.
-- The laws are in proofs/Padded.antt; callers cite them and unfold nothing.
-- Assumes nothing.
use Rattle.std.specs.Prelude.{ℕ, ◌-◌, List, ◌++◌, length, replicate, take, drop}

abbrev pub zeros : ℕ → List ℕ
zeros n = replicate n 0

-- xs, and zeros after it up to n words in all
unfoldable pub padded : ℕ → List ℕ → List ℕ
padded n xs = xs ++ zeros (n - length xs)

-- xs with the k words from a on replaced by ys: what a slice is after its part a .. a + k was lent and came back as ys
abbrev pub part : List ℕ → ℕ → ℕ → List ℕ → List ℕ
part xs a k ys = take a xs ++ (ys ++ drop k (drop a xs))

-- xs with the k words from a on all v
unfoldable pub stretch : List ℕ → ℕ → ℕ → ℕ → List ℕ
stretch xs a k v = part xs a k (replicate k v)
