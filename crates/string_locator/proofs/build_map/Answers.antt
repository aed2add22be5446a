-- `string_locator::build_map` meets its contract: the words are cleared, and an answer with keys has room for them.
-- Assumes nothing.
use Rattle.std.proofs.lemmas.Result.{err_from_is_err_and}
use Rattle.string_locator.proofs.Laws.{Room, room, length_part, same_answer, no_keys, keys_written}
use mathlib.Core.Path.{sym}
use lib.ListN.{length}
use Rattle.string_locator.specs.Map.{area}
use native.Mathlib.Omega.{arith}
use Rattle.string_locator.proofs.build_map.Goals.{In_ok-map}
use Rattle.string_locator.proofs.build_map.Goals as goal

pub returns-in_err-map : goal.returns-in_err-map
returns-in_err-map c =
    let p = err_from_is_err_and c.from_residual.result c.from_residual.ensures.1 in
    let e = c.in_err-map.ensures in
    let z = c.clear.ensures in
    let k = c.args.keys.now in
    rw (p.1, p.2) (record { answer = same_answer _ _ _ k _ z _ e; keys = no_keys _ _ _ k _ z _ e })

room_of : (c : In_ok-map) → let a = c.args in
    Room a.file.now a.header.strings.off a.header.strings.size (length c.clear.new.w)
    (area c.in_ok-map.map.start c.in_ok-map.map.end c.in_ok-map.map.count)
room_of c = room _ _ _ c.args.keys.now _ c.clear.ensures _ _ _ c.in_ok-map.ensures

pub slice_bounds-put_keys-end : goal.slice_bounds-put_keys-end
slice_bounds-put_keys-end c = (room_of (goal.at.slice_bounds-put_keys-end c).In_ok-map).lent_enough

pub slice_bounds-put_keys-end-2 : goal.slice_bounds-put_keys-end-2
slice_bounds-put_keys-end-2 c = sym (length_part c.clear.new.w (room_of (goal.at.slice_bounds-put_keys-end-2 c).In_ok-map))

pub put_keys-requires : goal.put_keys-requires
put_keys-requires c =
    let r = room_of (goal.at.put_keys-requires c).In_ok-map in
    let l = length_part c.clear.new.w r in
    record { ids = λ p. omega (arith, l, r.ids (omega (arith, l))); few = omega (arith, l, r.few) }

pub returns : goal.returns
returns c =
    let e = c.in_ok-map.ensures in
    let z = c.clear.ensures in
    let k = c.args.keys.now in
    record { answer = same_answer _ _ _ k _ z _ e; keys = keys_written _ _ _ k _ z _ _ _ e _ c.put_keys.ensures }
