-- `name_filter::locate_name_indices` meets its contract: a law for each way out.
-- Assumes nothing.
use mathlib.Core.Path.{ap, sym, ◌∙◌}
use lib.ListN.{length}
use native.Mathlib.Omega.{arith}
use Rattle.word_set.specs.Found.{fault_number}
use Rattle.word_set.proofs.Found.{found_refused, zeros_again, zeros_length}
use Rattle.name_filter.proofs.Faults.{no_fault, ids_known, filter_head}
use Rattle.name_filter.proofs.Listing.{named_listed}
use Rattle.name_filter.proofs.Exits.{exit_done, exit_refused, as_refused}
use Rattle.name_filter.proofs.locate_name_indices.Goals as goal

pub returns-in-Err : goal.returns-in-Err
returns-in-Err c = record {
  gives = as_refused c.refuse.ensures (found_refused (named_listed _ _ _ _) c.in-Err.why _
      (filter_head _ _ _ c.in-Err.why (sym (ap fault_number c.in-Err.is) ∙ c.head_fault.ensures))
      c.refuse.ensures.cleared);
}

pub sift_all-requires : goal.sift_all-requires
sift_all-requires c =
    let ok = no_fault _ _ (sym (ap fault_number c.in_default.is) ∙ c.head_fault.ensures) in
    let ids = ids_known _ _ _ c.u32_at.ensures c.u32_at-2.ensures ok in
    record {
      within = omega (arith, ids, ok.small);
      clear = zeros_again (length c.args.out.now) _ c.clear.ensures;
    }

pub returns-in-Ok : goal.returns-in-Ok
returns-in-Ok c = record {
  gives = exit_done _ _ _ _ _ c.u32_at.ensures c.u32_at-2.ensures
      (sym (ap fault_number c.in_default.is) ∙ c.head_fault.ensures) c.sift_all.ensures _
      (zeros_length _ _ c.clear.ensures) _ c.in-Ok.is;
}

pub returns-in-Err-sift_all : goal.returns-in-Err-sift_all
returns-in-Err-sift_all c = record {
  gives = as_refused c.refuse-in-Err-sift_all.ensures (exit_refused _ _ _ _ _ c.u32_at.ensures c.u32_at-2.ensures
      (sym (ap fault_number c.in_default.is) ∙ c.head_fault.ensures) c.sift_all.ensures _
      (zeros_length _ _ c.clear.ensures) c.in-Err-sift_all.why c.in-Err-sift_all.is _ (omega (arith, c.sift_all.auto))
      c.refuse-in-Err-sift_all.ensures.cleared);
}
