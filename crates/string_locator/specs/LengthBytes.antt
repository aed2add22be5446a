-- The length bytes of string data, as the string map reads them: up to and with the first below 128, however many. The string map alone
-- reads lengths so; `string_data` has its own rule, and so have the readers of class data.
-- Assumes nothing.
use Rattle.std.specs.Prelude.{ℕ, ◌+◌, List, [], ◌∷◌, cond, drop, ltb, Option, Some, None}

abbrev pub one_more : Option ℕ → Option ℕ
one_more (Some n) = Some (1 + n)
one_more None = None

-- of the bytes of a list
unfoldable pub length_of : List ℕ → Option ℕ
length_of [] = None
length_of (b ∷ r) = cond (ltb b 128) (Some 1) (one_more (length_of r))

-- how many of the bytes from i on are length bytes
unfoldable pub length_bytes : List ℕ → ℕ → Option ℕ
length_bytes s i = length_of (drop i s)

-- going on after them: a where they do not end, or g of how many they are
abbrev pub on_length {ℓ} : {A : Type ℓ} → Option ℕ → A → (ℕ → A) → A
on_length (Some m) a g = g m
on_length None a g = a
