-- `skip_numbers` meets its contract: each turn skips one number, so what is left to skip from here ends where it was to end.
-- Assumes nothing.
use Prim.Native.Nat.{◌-◌}
use mathlib.Core.Path.{◌≡◌}
use Rattle.class_data.specs.Walk.{skipped}
use Rattle.class_data.proofs.item.skip_numbers.Given as goal

abbrev pub invariant-loop : goal.invariant-loop
invariant-loop l = skipped (l.n - l.counter) l.buf l.at ≡ skipped l.n l.buf l.pos
