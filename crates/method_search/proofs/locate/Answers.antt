-- A fault is met before anything is searched for; else it is the search itself.
-- Assumes nothing.
use Rattle.groups.specs.Built.{group_words}
use Rattle.string_search.specs.Search.{area}
use Rattle.method_search.specs.Methods.{query, search_for}
use Rattle.method_search.proofs.Exits.{exit_fault, searched_out}
use Rattle.word_set.specs.Found.{fault_number}
use Rattle.word_set.proofs.Found.{zeros_again, zeros_length}
use borrow.Author.Rules.{rules}
use lib.ListN.{length}
use mathlib.Core.Path.{ap, sym, ◌∙◌}
use Rattle.method_search.proofs.locate.Goals as goal

pub returns-in-Err : goal.returns-in-Err
returns-in-Err c = record {
  gives = let a = c.args in
      exit_fault (search_for (area a.file.now a.keys.now a.start a.end) (query a.class.now a.name.now)
      (group_words a.str_offsets.now a.type_idxs.now) a.header.methods) c.in-Err.why
      (sym (ap fault_number c.in-Err.is) ∙ c.method_fault.ensures) c.clear-in-Err.ensures
      c.clear-in-Err-2.ensures c.clear.ensures;
}

pub search-requires : goal.search-requires
search-requires c =
    record {
      none = sym (ap fault_number c.in_default.is) ∙ c.method_fault.ensures;
      clear = zeros_again (length c.args.out.now) _ c.clear.ensures;
    }

pub returns : goal.returns
returns c = record { gives = searched_out c.args.out.now (zeros_length _ _ c.clear.ensures) (search rules) }
