-- SPEC, Conventions: the numbers of the refusals, and the limit of 16,777,216 bytes.
-- Assumes nothing.
use Rattle.std.specs.Prelude.{ℕ, Bool, ltb, Result, Ok, Err}
use Rattle.refusal.specs.declared.Refusal.{Refusal}
use Rattle.refusal.specs.declared.Refusal.TheVariants.{FileTooLarge, UnknownKind, TableOutside, LentTooShort, StringOutside}
use Rattle.refusal.specs.declared.Refusal.TheVariants.{NumberOutside, MethodIndex, CodeOutside, BadQuery, LengthOverflow}
use Rattle.refusal.specs.declared.Refusal.TheVariants.{NotAscii, RegionOutside, StringIndex, BadRequest, LentTable, NumberTooLong}

abbrev pub refusal_number : Refusal → ℕ
refusal_number FileTooLarge = 1
refusal_number UnknownKind = 2
refusal_number TableOutside = 3
refusal_number LentTooShort = 4
refusal_number StringOutside = 5
refusal_number NumberOutside = 6
refusal_number MethodIndex = 7
refusal_number CodeOutside = 8
refusal_number BadQuery = 9
refusal_number LengthOverflow = 10
refusal_number NotAscii = 11
refusal_number RegionOutside = 12
refusal_number StringIndex = 13
refusal_number BadRequest = 14
refusal_number LentTable = 15
refusal_number NumberTooLong = 16

-- the number of an answer: 0 for success
abbrev pub answer_number : Result ℕ Refusal → ℕ
answer_number (Ok n) = 0
answer_number (Err r) = refusal_number r

-- the count of an answer: 0 for a refusal
abbrev pub answer_count : Result ℕ Refusal → ℕ
answer_count (Ok n) = n
answer_count (Err r) = 0

abbrev pub largest_file : ℕ
largest_file = 16777216

abbrev pub is_too_large : ℕ → Bool
is_too_large n = ltb largest_file n
