use Rattle.std.specs.Prelude.{None}
use borrow.Author.Rules.{rules}
use mathlib.Core.Path.{◌≡◌, refl, subst, ◌∙◌}
use Prim.Native.Nat.{◌+◌, ◌≤◌}
use lib.ListN.{length}
use Rattle.code_table.specs.Slots.{Table}
use Rattle.code_table.specs.Steps.{slot_words, Holds}
use Rattle.code_table.proofs.Slots.{up_to, held_none, placeable, turn, table_all, table_over, after_done, after_full}
use native.Mathlib.Omega.{arith}
use Rattle.code_table.proofs.place_all.Goals as goal

pub loop-i-init : goal.loop-i-init
loop-i-init c =
    let p = c.requires in
    (refl, refl, λ cs T b e. held_none _ _ cs p.cleared.slots p.cleared.shares (rw b at e))

pub place-requires : goal.place-requires
place-requires c =
    let l = c.loop-i in
    let p = c.requires in
    let C = p.cleared.coded in
    let H = l.invariant.2 C.codes C.triples p.least p.enough in
    placeable C.triples l.i (omega arith) p.least _ _ _ (omega (arith, p.enough)) (omega (arith, H.fits))

pub returns-in_err-used : goal.returns-in_err-used
returns-in_err-used c =
    let none : c.from_residual.result ≡ None = search rules in
    rw none (λ cs T b e.
    let a = c.args in
    let l = c.loop-i in
    let p = c.place in
    let now-held = slot_words p.new.slots p.new.shares in
    let A = turn T l.i (omega arith) b p.result now-held l.invariant.1 (l.invariant.2 cs T b e) p.ensures in
    table_over cs (l.i + 1) _
    (after_full (length a.slots.now) (length a.shares.now) (up_to cs (l.i + 1)) p.result now-held c.in_err-used.was A))

pub loop-i-preserved : goal.loop-i-preserved
loop-i-preserved c =
    let l = c.loop-i in
    let p = c.place in (
      p.auto.slots ∙ l.invariant.0,
      p.auto.shares ∙ l.invariant.1,
      λ cs T b e.
          after_done _ c.in_ok-used.was
          (turn T l.i (omega arith) b p.result (slot_words p.new.slots p.new.shares) l.invariant.1 (l.invariant.2 cs T b e)
          p.ensures),
    )

pub returns : goal.returns
returns c = λ cs T b e.
    let a = c.args in
    let l = c.loop-i in
    let k : length cs ≤ l.i = omega (arith, T.count) in
    subst (λ (t : Table). Holds (length a.slots.now) (length a.shares.now) t (slot_words l.slots l.shares) l.used)
    (table_all cs l.i k) (l.invariant.2 cs T b e)
