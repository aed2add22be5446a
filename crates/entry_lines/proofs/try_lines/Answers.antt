use Rattle.refusal.specs.declared.Refusal.TheVariants.{LentTable}
use Rattle.entry_lines.specs.Line.{line_at}
use Rattle.entry_lines.specs.Gives.{entries, line_words}
use Rattle.entry_lines.proofs.LineLaws.{unlike, likewise, gives_as, gives_room, try_start, try_on, try_refused, try_done, tried_unlike}
use Rattle.entry_lines.proofs.LineLaws.{tried_alike, tries_refused, tries_done}
use mathlib.Core.Bool.{not}
use mathlib.Core.Path.{ap, refl, sym, ◌∙◌}
use lib.ListN.{length}
use native.Mathlib.Omega.{arith}
use Rattle.entry_lines.proofs.try_lines.Goals as goal

pub returns-then-not-alike : goal.returns-then-not-alike
returns-then-not-alike c = record {
  gives = tries_refused LentTable (sym (tried_unlike _ _ _ (unlike (ap not c.if-not-alike.true) c.alike.ensures))) refl refl
      c.refuse.ensures.gives;
}

pub loop-i-init : goal.loop-i-init
loop-i-init c = try_start _ _

pub returns-in-Err : goal.returns-in-Err
returns-in-Err c = record {
  gives = let l = c.loop-i in
      let a = c.args in
      let n = length a.lists.offs.now in
      let E = entries a.lists in
      let f = line_at E (length a.mids.now) (length a.text.now) in
      let g = gives_as {o = line_at E (length l.mids) (length l.text) l.i} c.in-Err.is c.line_at.ensures.gives.line in
      let h = gives_room E l.i l.auto.mids l.auto.text g in
      tries_refused _
      (try_refused f n l.i _ l.text _ (omega arith) h l.invariant
      ∙ sym (tried_alike E _ _ (likewise (ap not c.if-not-alike.false) c.alike.ensures)))
      (omega (arith, l.auto.text, c.line_at.auto.text)) (omega (arith, l.auto.mids, c.line_at.auto.mids))
      c.refuse-in-Err.ensures.gives;
}

pub loop-i-preserved : goal.loop-i-preserved
loop-i-preserved c =
    let l = c.loop-i in
    let a = c.args in
    let n = length a.lists.offs.now in
    let E = entries a.lists in
    let f = line_at E (length a.mids.now) (length a.text.now) in
    let g = gives_as {o = line_at E (length l.mids) (length l.text) l.i} c.in_default.is c.line_at.ensures.gives.line in
    let h = gives_room E l.i l.auto.mids l.auto.text g in
    try_on f n l.i _ l.text _ (omega arith) h l.invariant

pub returns : goal.returns
returns c = record {
  gives = let l = c.loop-i in
      let a = c.args in
      let n = length a.lists.offs.now in
      let E = entries a.lists in
      let f = line_at E (length a.mids.now) (length a.text.now) in
      tries_done (line_words l.mids l.text)
      (try_done f n l.i (omega arith) l.invariant ∙ sym (tried_alike E _ _ (likewise (ap not c.if-not-alike.false) c.alike.ensures)))
      (omega arith) l.auto.text l.auto.mids c.clear-2.ensures c.clear.ensures;
}
