use Rattle.std.specs.Prelude.{Err}
use borrow.Author.Rules.{rules}
use native.Mathlib.Nat.{sub-zero}
use native.Mathlib.Omega.{arith}
use mathlib.Core.Path.{◌≡◌, refl}
use Rattle.class_data.proofs.Kept.{found_seen, refused_seen}
use Rattle.class_data.proofs.Steps.{step_told, step_no, going_again, walk_no, walk_end}
use Rattle.class_data.proofs.parse.encoded_methods.Goals as goal

pub loop-init : goal.loop-init
loop-init c = record { rest = rw sub-zero; place = omega arith; few = omega arith; same = record { triples = refl; starts = refl } }

pub loop-preserved : goal.loop-preserved
loop-preserved c =
    going_again c.loop.invariant c.requires _ (omega arith)
    (step_told _ _ _ _ _ _ c.encoded_method.ensures c.in_ok-at.was)
    (record { triples = omega arith; starts = omega arith })

pub returns-in_err-at : goal.returns-in_err-at
returns-in_err-at c =
    let e : c.from_residual.result ≡ Err c.in_err-at.field-0.0 = search rules in
    rw e (refused_seen _ _ _
    (walk_no _ _ _ _ _ (omega arith) (step_no _ _ _ _ _ _ c.encoded_method.ensures c.in_err-at.was) c.loop.invariant.rest))

pub returns : goal.returns
returns c = found_seen _ _ _ _ (walk_end _ _ _ _ _ (omega arith) c.loop.invariant.rest)
