-- A law for each way out; what the matcher yields are the owners in the area, since the area is inside the file and forward.
-- Assumes nothing.
use borrow.Author.Rules.{rules}
use lib.ListN.{length}
use mathlib.Core.Path.{◌≡◌}
use Rattle.std.specs.Prelude.{Err}
use Rattle.string_search.proofs.Listing.{owners_listed, in_area, outside}
use Rattle.string_search.proofs.Faults.{no_fault}
use Rattle.string_search.proofs.GoodKeys.{good_rising}
use Rattle.word_set.proofs.Found.{found_refused, found_none, exit_short, exit_all, zeros_again, zeros_length}
use native.Mathlib.Omega.{arith}
use Rattle.string_search.proofs.locate.Goals as goal

pub returns-in_err-search_fault : goal.returns-in_err-search_fault
returns-in_err-search_fault c =
    let e : c.from_residual.result ≡ Err c.in_err-search_fault.field-0.0 = search rules in
    rw e record { gives = found_refused (owners_listed _ _) _ _ c.in_err-search_fault.ensures c.clear.ensures }

pub returns-then-end-start : goal.returns-then-end-start
returns-then-end-start c = record {
  gives = found_none (outside _ _ c.then-end-start.either) _ c.in_ok-search_fault.ensures c.clear.ensures;
}

pub match_string_offset-requires : goal.match_string_offset-requires
match_string_offset-requires c =
    let ok = no_fault _ _ _ _ c.in_ok-search_fault.ensures in
    record {
      area = record { inside = c.if-file-end.false; small = ok.small; short = ok.short; forward = c.if-end-start.false };
      asked = ok.least;
      rising = good_rising 0 _ ok.good;
      clear = zeros_again (length c.args.out.now) _ c.clear.ensures;
    }

pub returns-in_default : goal.returns-in_default
returns-in_default c = record {
  gives = let ok = no_fault _ _ _ _ c.in_ok-search_fault.ensures in
      let m = c.match_string_offset in
      let z = zeros_length _ _ c.clear.ensures in
      exit_short (in_area _ _ ok.least c.if-end-start.false c.if-file-end.false m.ensures) _ c.in_ok-search_fault.ensures _ z
      (owners_listed _ _) _ c.in_default.is (omega (arith, m.auto)) c.fill.ensures;
}

pub returns : goal.returns
returns c = record {
  gives = let ok = no_fault _ _ _ _ c.in_ok-search_fault.ensures in
      exit_all (in_area _ _ ok.least c.if-end-start.false c.if-file-end.false c.match_string_offset.ensures) _
      c.in_ok-search_fault.ensures _ (zeros_length _ _ c.clear.ensures) _ c.in-Some.is;
}
