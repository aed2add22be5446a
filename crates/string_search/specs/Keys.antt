-- The lent keys, data offset · 2^32 + index of each string, and which a search takes: SPEC, Searches.
-- Assumes nothing.
use Rattle.std.specs.Prelude.{ℕ, ◌+◌, ◌/◌, ◌%◌, ◌^◌, Bool, true, ◌&&◌, List, [], ◌∷◌, leb, ltb}

abbrev pub key_offset : ℕ → ℕ
key_offset k = k / 2 ^ 32

abbrev pub key_index : ℕ → ℕ
key_index k = k % 2 ^ 32

-- every key is above the one before it, the first not below b, and none has the index 2^32 - 1
unfoldable pub good_from : ℕ → List ℕ → Bool
good_from b [] = true
good_from b (k ∷ ks) = leb b k && (ltb (key_index k) 4294967295 && good_from (k + 1) ks)

-- 15 is refused of other keys. proofs/GoodKeys.antt shows that these are the strictly rising ones without that index
abbrev pub good_keys : List ℕ → Bool
good_keys ks = good_from 0 ks
