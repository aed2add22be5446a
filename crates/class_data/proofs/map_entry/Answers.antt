use Rattle.std.specs.Prelude.{None}
use borrow.Author.Rules.{rules}
use mathlib.Core.Path.{◌≡◌}
use native.Mathlib.Nat.{sub-zero}
use native.Mathlib.Omega.{arith}
use Rattle.class_data.proofs.Entry.{map_zero, map_outside, map_inside, entry_past, entry_this, entry_again, entry_end}
use Rattle.structs.proofs.Laws.{read16_value, read16_outside, read32_value, read32_outside}
use Rattle.class_data.proofs.map_entry.Goals as goal

pub returns-then-mapoff-eq0 : goal.returns-then-mapoff-eq0
returns-then-mapoff-eq0 c = map_zero _ _ (omega arith)

pub returns-in_err-size : goal.returns-in_err-size
returns-in_err-size c =
    let e : c.from_residual.result ≡ None = search rules in
    rw e (map_outside _ _ c.if-mapoff-eq0.false (read32_outside _ _ c.in_err-size.ensures))

pub loop-init : goal.loop-init
loop-init c = record {
  rest = rw sub-zero (map_inside _ _ c.if-mapoff-eq0.false (read32_value _ _ _ c.in_ok-size.ensures));
  most = omega arith;
  place = omega arith;
}

pub returns-then-buf-at : goal.returns-then-buf-at
returns-then-buf-at c = entry_past _ _ _ (omega arith) c.loop.invariant.rest

pub returns-in_err-kind : goal.returns-in_err-kind
returns-in_err-kind c =
    let e : c.from_residual-in_err-kind.result ≡ None = search rules in
    rw e (entry_past _ _ _ (omega (arith, read16_outside _ _ c.in_err-kind.ensures)) c.loop.invariant.rest)

pub returns-then-kind-eq8192 : goal.returns-then-kind-eq8192
returns-then-kind-eq8192 c =
    entry_this _ _ (omega arith) (read16_value _ _ _ c.in_ok-kind.ensures) _
    (omega arith) (omega arith) c.loop.invariant.rest

pub loop-preserved : goal.loop-preserved
loop-preserved c =
    record {
      rest =
          entry_again _ _ (omega arith) (read16_value _ _ _ c.in_ok-kind.ensures) _ _
          (omega arith) c.if-kind-eq8192.false c.loop.invariant.rest;
      most = omega arith;
      place = omega arith;
    }

pub returns : goal.returns
returns c = entry_end _ _ _ (omega arith) c.loop.invariant.rest
