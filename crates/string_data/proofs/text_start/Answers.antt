use Rattle.std.proofs.lemmas.Grind.{common_steps}
use Rattle.std.proofs.lemmas.Result.{err_from_is_err_and}
use Rattle.string_data.proofs.Laws.{length_off, length_over, length_ends, length_more, length_none}
use Rattle.refusal.specs.declared.Refusal.TheVariants.{NumberOutside}
use Rattle.dalvik.specs.Numbers.{byte}
use mathlib.Core.Path.{◌≡◌, ◌∙◌}
use Prim.Native.Nat.{◌+◌, ◌<◌, ◌≤◌}
use native.Mathlib.Nat.{sub-add-eq, add_assoc}
use native.Mathlib.Omega.{arith}
use lib.ListN.{length}
use Rattle.string_data.proofs.text_start.Goals.{In_ok-b}
use Rattle.string_data.proofs.text_start.Goals as goal

-- what was read is the file's byte at the place
byte_here : (c : In_ok-b)
    → (c.args.offset + c.loop-i.i < length c.args.file.now) × (c.in_ok-b.field-0.now ≡ byte c.args.file.now (c.args.offset + c.loop-i.i))
byte_here c = (grind arith, grind (arith, common_steps))

pub returns-in_err-b : goal.returns-in_err-b
returns-in_err-b c =
    let p = err_from_is_err_and c.from_residual.result c.from_residual.ensures.1 in
    let e : c.in_err-b.field-0.0 ≡ NumberOutside = grind arith in
    let outside : length c.args.file.now ≤ c.args.offset + c.loop-i.i = grind arith in
    rw (p.1, p.2, e) (length_off _ _ _ (omega arith) outside ∙ c.loop-i.invariant.rest)

pub returns-then-b-gt15 : goal.returns-then-b-gt15
returns-then-b-gt15 c =
    let here = byte_here (goal.at.returns-then-b-gt15 c).In_ok-b in
    length_over _ _ _ (omega arith) here.0 (omega arith) (omega arith) ∙ c.loop-i.invariant.rest

pub returns-then-b-lt128 : goal.returns-then-b-lt128
returns-then-b-lt128 c =
    let here = byte_here (goal.at.returns-then-b-lt128 c).In_ok-b in
    length_ends _ _ _ (omega arith) here.0 (λ e. omega arith) (omega arith) ∙ c.loop-i.invariant.rest

pub loop-i-preserved : goal.loop-i-preserved
loop-i-preserved c =
    let here = byte_here (goal.at.loop-i-preserved c).In_ok-b in
    record {
      inside = λ _. omega arith;
      rest = rw (sub-add-eq, ← add_assoc) (length_more _ _ _ (omega arith) here.0 (λ e. omega arith) (omega arith) ∙ c.loop-i.invariant.rest);
    }

pub returns : goal.returns
returns c = length_none _ _ _ (omega arith) ∙ c.loop-i.invariant.rest
