use mathlib.Core.Path.{refl}
use native.Mathlib.Omega.{arith}
use Rattle.opcodes.specs.Steps.{packed}
use Rattle.opcodes.proofs.Packed.{turn, turn_fits}
use Rattle.opcodes.proofs.entry.sixteen.Goals as goal

pub loop-i-init : goal.loop-i-init
unfolding packed
loop-i-init c = (omega arith, refl)

pub overflow_mul-word : goal.overflow_mul-word
overflow_mul-word c =
    omega (arith, turn_fits c.args.from c.loop-i.i c.requires.0 c.requires.1 c.loop-i-test.true c.loop-i.invariant)

pub overflow_add-word-in-loop-i : goal.overflow_add-word-in-loop-i
overflow_add-word-in-loop-i c =
    omega
    (arith, turn_fits c.args.from c.loop-i.i c.requires.0 c.requires.1 c.loop-i-test.true c.loop-i.invariant)

pub loop-i-preserved : goal.loop-i-preserved
loop-i-preserved c = (
  omega arith,
  turn c.args.from c.loop-i.i c.requires.0 c.requires.1 c.loop-i-test.true c.loop-i.invariant,
)
