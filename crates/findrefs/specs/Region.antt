-- What the finder says of its region: a scan of the same file over it is never refused 12, whatever is asked for and lent, and so the finder
-- never is.
-- Assumes nothing.
use Rattle.std.specs.Prelude.{ℕ, ◌≢◌, List, Result}
use Rattle.code_item_scan.specs.Scan.{asked, HitRoom, scan_out}
use Rattle.refusal.specs.declared.Refusal.{Refusal}
use Rattle.findrefs.specs.declared.Found.{Found}
use Rattle.findrefs.specs.Gives.{found_number, found_region}

pub record NeverOutside (s : List ℕ) (r : Result Found Refusal) : Type 0 where
  pub number : found_number r ≢ 12
  pub scan : (kind : ℕ) (wanted : List ℕ) (room : HitRoom)
      → (scan_out s (asked kind wanted (found_region r).start (found_region r).end) room).number ≢ 12
