-- No refusal has the number of success.
-- Assumes nothing.
use mathlib.Core.Path.{◌≡◌}
use mathlib.Core.Bool.{false}
use lib.Dec.{eqb}
use native.Mathlib.Omega.{arith}
use borrow.Author.Tests.{ne_eqb}
use Rattle.refusal.specs.declared.Refusal.{Refusal}
use Rattle.refusal.specs.declared.Refusal.TheVariants.{FileTooLarge, UnknownKind, TableOutside, LentTooShort, StringOutside, NumberOutside}
use Rattle.refusal.specs.declared.Refusal.TheVariants.{MethodIndex, CodeOutside, BadQuery, LengthOverflow, NotAscii, RegionOutside}
use Rattle.refusal.specs.declared.Refusal.TheVariants.{StringIndex, BadRequest, LentTable, NumberTooLong}
use Rattle.refusal.specs.Refusals.{refusal_number}

pub some_number : (r : Refusal) → refusal_number r ≡ 0 → ⊥
some_number FileTooLarge e = omega arith
some_number UnknownKind e = omega arith
some_number TableOutside e = omega arith
some_number LentTooShort e = omega arith
some_number StringOutside e = omega arith
some_number NumberOutside e = omega arith
some_number MethodIndex e = omega arith
some_number CodeOutside e = omega arith
some_number BadQuery e = omega arith
some_number LengthOverflow e = omega arith
some_number NotAscii e = omega arith
some_number RegionOutside e = omega arith
some_number StringIndex e = omega arith
some_number BadRequest e = omega arith
some_number LentTable e = omega arith
some_number NumberTooLong e = omega arith

pub numbered : (r : Refusal) → eqb (refusal_number r) 0 ≡ false
numbered r = ne_eqb (refusal_number r) 0 (some_number r)
