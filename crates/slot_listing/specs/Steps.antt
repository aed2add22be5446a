-- What the inner steps of the listing promise each other: the methods of a share, first how many, then which.
-- Assumes nothing.
use Rattle.std.specs.Prelude.{ℕ, suc, List, [], length, Option, Some, None}
use Rattle.slot_listing.specs.Listing.{chain}

-- the methods of share k, in as many shares as it takes
unfoldable pub methods_of : List ℕ → ℕ → Option (List ℕ)
methods_of ws k = chain (suc k) ws k

abbrev pub count_of : Option (List ℕ) → Option ℕ
count_of None = None
count_of (Some l) = Some (length l)

abbrev pub list_by : Option (List ℕ) → List ℕ
list_by None = []
list_by (Some l) = l
