use Rattle.std.specs.Prelude.{Err}
use borrow.Author.Rules.{rules}
use native.Mathlib.Nat.{sub-zero}
use native.Mathlib.Omega.{arith}
use mathlib.Core.Path.{◌≡◌, refl}
use Rattle.class_data.proofs.Items.{def_told, def_refused, bydef_again, defined_no, defined_end}
use Rattle.class_data.proofs.Kept.{found_seen, refused_seen}
use Rattle.class_data.proofs.build_map_bydef.Goals as goal

pub loop-init : goal.loop-init
loop-init c = record { rest = rw sub-zero; most = omega arith; place = omega arith; few = omega arith; same = record { triples = refl; starts = refl } }

pub loop-preserved : goal.loop-preserved
loop-preserved c =
    bydef_again c.loop.invariant c.requires _ (omega arith)
    (def_told _ _ _ _ _ _ c.class_def.ensures c.in_ok-count.was)
    (record { triples = omega arith; starts = omega arith })

pub returns-in_err-count : goal.returns-in_err-count
returns-in_err-count c =
    let e : c.from_residual.result ≡ Err c.in_err-count.field-0.0 = search rules in
    rw e (refused_seen _ _ _
    (defined_no _ _ _ _ _ (omega arith) (def_refused _ _ _ _ _ _ c.class_def.ensures c.in_err-count.was) c.loop.invariant.rest))

pub returns : goal.returns
returns c = found_seen _ _ _ _ (defined_end _ _ _ _ _ (omega arith) c.loop.invariant.rest)
