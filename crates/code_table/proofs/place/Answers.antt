-- `place` meets its contract: a free start slot is filled with the method, else a share is put after the others and its number filled in.
-- Assumes nothing.
use Prim.Native.Nat.{◌+◌, ◌-◌, ◌/◌}
use native.Mathlib.Omega.{arith}
use Rattle.words.proofs.Padded.{lent_fill}
use Rattle.code_table.specs.Slots.{shared}
use Rattle.code_table.proofs.Slots.{held_free, held_share, held_over}
use Rattle.code_table.proofs.place.Goals as goal

pub returns-then-v-eq0 : goal.returns-then-v-eq0
returns-then-v-eq0 c = λ N W cd t w words inside H.
    let a = c.args in
    let p = c.requires in
    let f = c.fill in
    let v = lent_fill a.slots.now (a.code.first - a.base) (a.code.last - a.base + 1 - (a.code.first - a.base)) (a.code.method + 1) f.new.self
    (omega arith) (f.ensures.after (λ y e. e)) in
    held_free H words p.above p.rises inside v c.if-v-eq0.true

pub returns-then-min-used : goal.returns-then-min-used
returns-then-min-used c = λ N W cd t w words inside H.
    let p = c.requires in
    held_over H words p.above p.rises inside c.if-v-eq0.false
    (omega (arith, c.min.ensures, c.if-min-used.true, w))

pub returns : goal.returns
returns c = λ N W cd t w words inside H.
    let a = c.args in
    let p = c.requires in
    let f = c.fill-2 in
    let v = lent_fill a.slots.now (a.code.first - a.base) (a.code.last - a.base + 1 - (a.code.first - a.base)) (shared + a.used / 3) f.new.self
    (omega arith) (f.ensures.after (λ y e. e)) in
    held_share H words p.above p.rises inside c.if-v-eq0.false v
    c.add_share.ensures (omega (arith, c.min.ensures, c.if-min-used.false, w))
