use mathlib.Core.Path.{refl, sym, ◌∙◌}
use native.Mathlib.Omega.{arith}
use Rattle.insn_walk.proofs.Steps.{step_outside, step_keeps}
use Rattle.insn_walk.proofs.Walks.{after_none, lands_step, walk_on, walk_lands, walk_passes, walk_fails}
use borrow.Author.Rules.{rules}
use Rattle.insn_walk.proofs.walk.Goals as goal

pub loop-pos-init : goal.loop-pos-init
loop-pos-init c = (
  record {
    taken = after_none _;
    few = omega arith;
    stood = omega arith;
    stands = omega arith;
    most = omega arith;
    before = λ u h. refl;
    now = λ u h. refl;
  },
  search rules,
  search rules,
)

pub returns-in_default : goal.returns-in_default
returns-in_default c =
    let going = c.loop-pos.invariant.0 in
    record {
      is = walk_fails _ _ _ _ (omega arith) (sym c.in_default.is ∙ c.step.ensures) ∙ going.taken;
      forward = going.stands;
      most = omega arith;
      same = going.now;
    }

pub loop-pos-smaller : goal.loop-pos-smaller
loop-pos-smaller c = omega (arith, step_keeps _ _ _ (sym c.in-Some.is ∙ c.step.ensures))

pub loop-pos-preserved : goal.loop-pos-preserved
loop-pos-preserved c =
    let k = c.loop-pos in
    let going = k.invariant.0 in
    let told = sym c.in-Some.is ∙ c.step.ensures in
    let further = step_keeps _ _ _ told in (
      record {
        taken = walk_on _ _ _ _ _ (omega arith) told ∙ going.taken;
        few = omega arith;
        stood = going.stands;
        stands = omega arith;
        most = omega arith;
        before = going.now;
        now = λ u h. lands_step _ _ u _ (omega arith) told ∙ going.now u h;
      },
      k.invariant.1,
      k.invariant.2,
    )

pub returns-then-pos-to : goal.returns-then-pos-to
returns-then-pos-to c =
    let going = c.loop-pos.invariant.0 in
    record {
      is = walk_fails _ _ _ _ (omega arith) (step_outside _ _ (omega arith)) ∙ going.taken;
      forward = going.stands;
      most = omega arith;
      same = going.now;
    }

pub returns-then-pos-to-2 : goal.returns-then-pos-to-2
returns-then-pos-to-2 c =
    let going = c.loop-pos.invariant.0 in
    record { is = walk_lands _ _ _ _ (omega arith) ∙ going.taken; forward = going.stands; most = omega arith; same = going.now }

pub returns : goal.returns
returns c =
    let going = c.loop-pos.invariant.0 in
    record { is = walk_passes _ _ _ _ (omega arith) ∙ going.taken; forward = going.stood; most = going.most; same = going.before }
