-- The numbers of the kinds (SPEC, Conventions), and what the enum of the crate stands for.
-- Assumes nothing.
use Rattle.std.specs.Prelude.{ℕ, Bool, true, false, cond, eqb, Option, Some, None}
use Rattle.dalvik.specs.Instructions as dalvik
use Rattle.dalvik.specs.Instructions.Kind.{strings, types, fields, methods}
use Rattle.kinds.specs.declared.Kind.{Kind}
use Rattle.kinds.specs.declared.Kind.TheVariants.{Strings, Types, Fields, Methods}

-- the kinds 1 to 4 (SPEC, Conventions)
abbrev pub kind_number : dalvik.Kind → ℕ
kind_number strings = 1
kind_number types = 2
kind_number fields = 3
kind_number methods = 4

unfoldable pub kind_of : ℕ → Option dalvik.Kind
kind_of n = cond (eqb n 1) (Some strings) (cond (eqb n 2) (Some types) (cond (eqb n 3) (Some fields) (cond (eqb n 4) (Some methods) None)))

-- strings alone have indices of four bytes, and starts at odd places
abbrev pub is_strings : dalvik.Kind → Bool
is_strings strings = true
is_strings types = false
is_strings fields = false
is_strings methods = false

abbrev pub meant : Kind → dalvik.Kind
meant Strings = strings
meant Types = types
meant Fields = fields
meant Methods = methods

abbrev pub kind_read : Option Kind → Option dalvik.Kind
kind_read (Some k) = Some (meant k)
kind_read None = None
