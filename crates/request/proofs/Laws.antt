-- Reading the indices one by one stores the list: what is stored so far and what is still to be read make up the whole at each step.
-- Assumes nothing.
use Rattle.std.specs.Prelude.{Option, Some, None, option_map}
use Prim.Native.Nat.{ℕ, suc, ◌+◌}
use native.Mathlib.Omega.{arith}
use native.Mathlib.Numerals.{add-one}
use mathlib.Core.Path.{◌≡◌, refl, ap}
use mathlib.Core.List.{List, [], ◌∷◌}
use lib.ListN.{set}
use lib.Seq.{sets}
use Rattle.text_in.specs.declared.Number.{Number}
use Rattle.text_in.specs.Numbers.{number_at}
use Rattle.text_in.specs.Words.{word_at}
use Rattle.request.specs.Lines.{comma}
use Rattle.request.specs.Request.{Listed, cons_to, indices_at}
use Rattle.request.specs.Steps.{stored}

-- one index stored, the rest to be read
pub stored_cons : (k : ℕ) (ws : List ℕ) (v : ℕ) (r : Option Listed) → stored (k + 1) (set ws k v) r ≡ stored k ws (option_map (cons_to v) r)
stored_cons k ws v (Some l) =
    rw add-one (ap (λ (n : ℕ). Some (record { count = n; words = sets (set ws k v) (suc k) l.list; next = l.next })) (omega arith))
stored_cons k ws v None = refl

module _ (s : List ℕ) (m l i : ℕ) (next : m ≡ suc l) where
  pub no_number : None ≡ number_at s i → indices_at m s i ≡ None
  unfolding indices_at
  no_number e = rw (next, ← e)

  pub last_number : (v : Number) → Some v ≡ number_at s i → None ≡ word_at comma s (v.next)
      → indices_at m s i ≡ Some (record { list = v.value ∷ []; next = v.next })
  unfolding indices_at
  last_number v e f = rw (next, ← e, ← f)

  pub more_numbers : (v : Number) (j : ℕ) → Some v ≡ number_at s i → Some j ≡ word_at comma s (v.next)
      → indices_at m s i ≡ option_map (cons_to (v.value)) (indices_at l s j)
  unfolding indices_at
  more_numbers v j e f = rw (next, ← e, ← f)
