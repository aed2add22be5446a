use Rattle.std.specs.Prelude.{Err}
use borrow.Author.Rules.{rules}
use native.Mathlib.Omega.{arith}
use mathlib.Core.Path.{◌≡◌, refl}
use Rattle.class_data.proofs.Items.{by_words, bymap_again, successive_no, successive_end}
use Rattle.class_data.proofs.Kept.{seen_found, seen_refused, found_seen, refused_seen}
use Rattle.class_data.proofs.build_map_bymap.Goals as goal

pub loop-init : goal.loop-init
loop-init c = record {
  rest = by_words _ _ _ (omega (arith, c.u32_at-size.ensures)) c.u32_at-off.ensures;
  most = omega (arith, c.u32_at-size.ensures);
  few = omega arith;
  same = record { triples = refl; starts = refl };
}

pub loop-preserved : goal.loop-preserved
loop-preserved c =
    bymap_again c.loop.invariant c.requires.small _ (omega arith)
    (seen_found _ _ _ c.class_data_parse.ensures _ c.in_ok-at.was)
    (record { triples = omega arith; starts = omega arith })

pub returns-in_err-at : goal.returns-in_err-at
returns-in_err-at c =
    let e : c.from_residual.result ≡ Err c.in_err-at.field-0.0 = search rules in
    rw e (refused_seen _ _ _
    (successive_no _ _ _ _ _ (omega arith) (seen_refused _ _ _ c.class_data_parse.ensures _ c.in_err-at.was) c.loop.invariant.rest))

pub returns : goal.returns
returns c = found_seen _ _ _ _ (successive_end _ _ _ _ _ (omega arith) c.loop.invariant.rest)
