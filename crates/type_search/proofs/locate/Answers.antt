-- A law for each way out; what was found of the strings stands at the front of their words, and is cleared once the types are collected.
-- Assumes nothing.
use Rattle.type_search.proofs.Exits.{held_fit, exit_fault, exit_empty, exit_strings, exit_types, exit_done}
use Rattle.type_search.proofs.Types.{asked_fault}
use Rattle.std.specs.Prelude.{Err}
use borrow.Author.Rules.{rules}
use borrow.Author.Tests.{eqb-true, eqb-false}
use Rattle.word_set.proofs.Found.{zeros_again}
use Rattle.groups.specs.Built.{group_words}
use Rattle.string_search.specs.Search.{area}
use lib.Seq.{length-take-le}
use lib.ListN.{length}
use mathlib.Core.Path.{◌≡◌, sym, ◌∙◌}
use native.Mathlib.Omega.{arith}
use Rattle.type_search.proofs.locate.Goals as goal

pub returns-in_err-search_fault : goal.returns-in_err-search_fault
returns-in_err-search_fault c =
    let a = c.args in
    let zs = c.clear.ensures in
    let zo = c.clear-2.ensures in
    let e : c.from_residual.result ≡ Err c.in_err-search_fault.field-0.0 = search rules in
    rw e record {
      gives =
          exit_fault (area a.file.now a.keys.now a.start a.end) a.query.now (group_words a.str_offsets.now a.type_idxs.now)
          a.strings.now a.out.now _ _ zs zo c.in_err-search_fault.field-0.0 c.in_err-search_fault.ensures;
    }

pub returns-then-is_empty : goal.returns-then-is_empty
returns-then-is_empty c = record {
  gives = let a = c.args in
      let zs = c.clear.ensures in
      let zo = c.clear-2.ensures in
      exit_empty (area a.file.now a.keys.now a.start a.end) a.query.now (group_words a.str_offsets.now a.type_idxs.now)
      a.strings.now a.out.now _ _ zs zo
      c.in_ok-search_fault.ensures (eqb-true (length a.query.now) 0 (sym c.is_empty.ensures ∙ c.if-is_empty.true));
}

pub returns-in_default : goal.returns-in_default
returns-in_default c = record {
  gives = let a = c.args in
      let zs = c.clear.ensures in
      let zo = c.clear-2.ensures in
      exit_strings (area a.file.now a.keys.now a.start a.end) a.query.now (group_words a.str_offsets.now a.type_idxs.now)
      a.strings.now a.out.now _ _ zs zo c.in_ok-search_fault.ensures
      c.locate.ensures.gives
      (asked_fault _ _ _ (eqb-false (length a.query.now) 0 (sym c.is_empty.ensures ∙ c.if-is_empty.false)) c.in_ok-search_fault.ensures)
      c.in_default.field-0 c.in_default.is;
}

pub slice_bounds-collect-end : goal.slice_bounds-collect-end
slice_bounds-collect-end c =
    held_fit c.locate.ensures.gives _ c.in-Ok.is

pub slice_bounds-collect-end-2 : goal.slice_bounds-collect-end-2
slice_bounds-collect-end-2 c =
    sym (length-take-le _ _ (held_fit c.locate.ensures.gives _ c.in-Ok.is))

pub collect-found-requires : goal.collect-found-requires
collect-found-requires c =
    zeros_again (length c.args.out.now) _ c.clear-2.ensures

pub shape_of-strings-in_default-found : goal.shape_of-strings-in_default-found
shape_of-strings-in_default-found c =
    omega (arith, c.fill.auto, c.locate.auto, c.clear.auto)

pub returns-in_default-found : goal.returns-in_default-found
returns-in_default-found c = record {
  gives = let a = c.args in
      let zs = c.clear.ensures in
      let zo = c.clear-2.ensures in
      exit_types (area a.file.now a.keys.now a.start a.end) a.query.now (group_words a.str_offsets.now a.type_idxs.now)
      a.strings.now a.out.now _ _ zs zo c.in_ok-search_fault.ensures
      c.locate.ensures.gives _ c.in-Ok.is _ c.fill.ensures (omega (arith, c.locate.auto))
      c.collect-found.ensures _ c.in_default-found.is (omega (arith, c.collect-found.auto))
      c.clear-in_default-found.ensures;
}

pub returns : goal.returns
returns c = record {
  gives = let a = c.args in
      let zs = c.clear.ensures in
      let zo = c.clear-2.ensures in
      exit_done (area a.file.now a.keys.now a.start a.end) a.query.now (group_words a.str_offsets.now a.type_idxs.now)
      a.strings.now a.out.now _ _ zs zo c.in_ok-search_fault.ensures
      c.locate.ensures.gives _ c.in-Ok.is _ c.fill.ensures (omega (arith, c.locate.auto))
      c.collect-found.ensures _ c.in-Some.is;
}
