-- Listing a slot: the methods that a slot word stands for. SPEC, Listing a slot; a share is three words (SPEC, Code table).
-- Assumes nothing.
use Rattle.std.specs.Prelude.{ℕ, zero, suc, ◌+◌, ◌-◌, ◌*◌, List, [], ◌∷◌, ◌++◌, cond, length, ltb, leb, eqb, Option, None, Some}
use Rattle.refusal.specs.Outcomes.{Outcome, refused, success}
use Rattle.code_table.specs.Slots.{shared, share_at}

abbrev pub snoc_to : ℕ → Option (List ℕ) → Option (List ℕ)
snoc_to m None = None
snoc_to m (Some l) = Some (l ++ (m ∷ []))

-- the methods of share k: its two methods, or those of its earlier share and then its last. None where a share is not inside, or its
-- earlier share isn't an earlier one. Shares fall, so k + 1 of them are enough
unfoldable pub chain : ℕ → List ℕ → ℕ → Option (List ℕ)
chain zero ws k = None
chain (suc n) ws k =
    cond (leb (3 * k + 3) (length ws))
    (cond (eqb (share_at ws k 2) 0)
    (Some (share_at ws k 0 ∷ share_at ws k 1 ∷ []))
    (cond (ltb (share_at ws k 2 - 1) k) (snoc_to (share_at ws k 1) (chain n ws (share_at ws k 2 - 1))) None))
    None

-- a free slot lists nothing
unfoldable pub listed : List ℕ → ℕ → Option (List ℕ)
listed ws v = cond (eqb v 0) (Some []) (cond (ltb v shared) (Some ((v - 1) ∷ [])) (chain (suc (v - shared)) ws (v - shared)))

abbrev pub listed_from : ℕ → Option (List ℕ) → Outcome
listed_from room None = refused 15
listed_from room (Some l) = cond (leb (length l) room) (success l) (refused 4)

-- 15, 4
unfoldable pub list_out : List ℕ → ℕ → ℕ → Outcome
list_out shares slot room = listed_from room (listed shares slot)
