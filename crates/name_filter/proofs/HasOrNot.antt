-- Of a text it can be told whether it has a name: place by place.
-- Assumes nothing.
use Prim.Native.Nat.{ℕ, zero, suc, ◌+◌, ◌≤◌, ◌<◌}
use native.Mathlib.Omega.{arith}
use mathlib.Core.Path.{◌≡◌, subst}
use mathlib.Core.Logic.{◌⊎◌, inl, inr, ⊎_elim}
use mathlib.Core.List.{List, map}
use lib.ListN.{length}
use Rattle.word_set.proofs.Sets.{below_or_not}
use Rattle.byte_search.specs.Occurs.{Occurs}
use Rattle.byte_search.proofs.Occurs.{occurs_or_not}
use Rattle.name_filter.specs.HasName.{lower_case, HasName}

-- a text has the name from a place on, or not
record HasFrom (text q : List ℕ) (from : ℕ) : Type 0 where
  at : ℕ
  after : from ≤ at
  occurs : Occurs (map lower_case text) (map lower_case q) (length text) at

from_or_not : (text q : List ℕ) (fuel from : ℕ) → length text < from + fuel → HasFrom text q from ⊎ (HasFrom text q from → ⊥)
from_or_not text q zero from h = inr (λ f. omega (arith, f.after, f.occurs.inside))
from_or_not text q (suc fuel) from h =
    ⊎_elim (λ (o : Occurs (map lower_case text) (map lower_case q) (length text) from). inl record { at = from; after = omega arith; occurs = o })
    (λ (n : Occurs (map lower_case text) (map lower_case q) (length text) from → ⊥).
    ⊎_elim (λ (f : HasFrom text q (from + 1)). inl record { at = f.at; after = omega (arith, f.after); occurs = f.occurs })
    (λ (f : HasFrom text q (from + 1) → ⊥). inr (λ g. ⊎_elim (λ (l : from < g.at). f record { at = g.at; after = omega arith; occurs = g.occurs })
    (λ (l : g.at ≤ from). n
    (let e : g.at ≡ from = omega (arith, g.after) in subst (Occurs (map lower_case text) (map lower_case q) (length text)) e g.occurs))
    (below_or_not from g.at)))
    (from_or_not text q fuel (from + 1) (omega arith)))
    (occurs_or_not (map lower_case text) (map lower_case q) (length text) from)

pub has_or_not : (text q : List ℕ) → HasName text q ⊎ (HasName text q → ⊥)
has_or_not text q =
    ⊎_elim (λ (f : HasFrom text q 0). inl record { at = f.at; occurs = f.occurs })
    (λ (f : HasFrom text q 0 → ⊥). inr (λ g. f record { at = g.at; after = omega arith; occurs = g.occurs }))
    (from_or_not text q (suc (length text)) 0 (omega arith))
