use Rattle.word_set.proofs.Decides.{decided_yes, decided_no}
use Rattle.name_filter.proofs.HasName.{letters, has_empty_of, has_short, has_at, has_none, room_at, search_start, search_next, search_less}
use Rattle.name_filter.proofs.matches_name.matches_name.Goals as goal

pub returns-then-n-eq0 : goal.returns-then-n-eq0
returns-then-n-eq0 c = decided_yes (has_empty_of c.args.text.now c.args.query.now c.if-n-eq0.true)

pub returns-then-text-n : goal.returns-then-text-n
returns-then-text-n c =
    decided_no (has_short c.args.text.now c.args.query.now c.if-text-n.true)

pub loop-at-init : goal.loop-at-init
loop-at-init c =
    let a = c.args in
    let l = letters _ _ _ c.to_ascii_lowercase-a.ensures.value c.to_ascii_uppercase-b.ensures.value in
    search_start a.text.now a.query.now _ _ c.if-n-eq0.false l.0 l.1 _
    c.memchr2-at.ensures

pub stands_at-requires : goal.stands_at-requires
stands_at-requires c =
    room_at c.args.text.now c.args.query.now c.loop-at.at c.if-text-n.false c.loop-at-test.true

pub returns-then-stands_at : goal.returns-then-stands_at
returns-then-stands_at c =
    let a = c.args in
    decided_yes (has_at a.text.now a.query.now c.loop-at.at c.if-text-n.false
    c.loop-at-test.true (c.stands_at.ensures.yes c.if-stands_at.true))

pub loop-at-smaller : goal.loop-at-smaller
loop-at-smaller c =
    let a = c.args in
    let l = letters _ _ _ c.to_ascii_lowercase-a.ensures.value c.to_ascii_uppercase-b.ensures.value in
    search_less a.text.now a.query.now _ _ c.if-n-eq0.false l.0 l.1
    c.loop-at.at _ c.if-text-n.false c.loop-at-test.true c.memchr2-at-in-loop-at.ensures

pub loop-at-preserved : goal.loop-at-preserved
loop-at-preserved c =
    let a = c.args in
    let l = letters _ _ _ c.to_ascii_lowercase-a.ensures.value c.to_ascii_uppercase-b.ensures.value in
    let k = c.loop-at in
    search_next a.text.now a.query.now _ _ c.if-n-eq0.false l.0 l.1 k.at _
    c.memchr2-at-in-loop-at.ensures k.invariant.1 (c.stands_at.ensures.no c.if-stands_at.false)

pub returns : goal.returns
returns c =
    decided_no (has_none c.args.text.now c.args.query.now c.loop-at.at c.loop-at-test.false c.loop-at.invariant.1)
