-- The matcher's loop: what is marked or held are owners of finds before `from`, and the owners still to come are those of the finds
-- from there on. A find takes its owner from these.
-- Assumes nothing.
use Rattle.std.specs.Prelude.{Option, Some, None}
use Prim.Native.Nat.{ℕ, ◌+◌, ◌≤◌, ◌<◌}
use mathlib.Core.Path.{◌≡◌, subst}
use mathlib.Core.Logic.{inl, inr, ⊎_elim}
use mathlib.Core.List.{List}
use lib.ListN.{length}
use native.Mathlib.Omega.{arith}
use Rattle.word_set.specs.Sets.{SetOf}
use Rattle.index_set.specs.Marked.{SetWords}
use Rattle.index_set.proofs.Marking.{Marking, mark_pass, mark_add, mark_full}
use Rattle.string_search.specs.declared.Owner.TheVariants.{Entry}
use Rattle.byte_search.specs.Occurs.{Occurs}
use Rattle.string_search.specs.Steps.{NextFind, at_place, no_more}
use Rattle.string_search.specs.Finds.{First}
use Rattle.string_search.specs.Owner.{owner}
use Rattle.string_search.specs.Steps.{Stepped, joined, passed}
use Rattle.string_search.specs.Search.{OwnsFrom}
use Rattle.string_search.proofs.Finds.{owned_first, first_owned, later_owned}

module _ {s q : List ℕ} {e from : ℕ} {r : (Option ℕ)} where
  pub found_at : (p : ℕ) → r ≡ Some p → NextFind s q e from r → First s q e from p
  found_at p h (at_place p' g f) = let k : p' ≡ p = cc in subst (λ (i : ℕ). First s q e from i) k f
  found_at p h (no_more g n) = absurd (let z : ◌≡◌ {A = ℕ} 0 1 = cc in omega arith)

  pub found_none : r ≡ None → NextFind s q e from r → (k : ℕ) → from ≤ k → Occurs s q e k → ⊥
  found_none h (at_place p g f) = absurd (let z : ◌≡◌ {A = ℕ} 0 1 = cc in omega arith)
  found_none h (no_more g n) = n

module _ {s ks q : List ℕ} {e start from room n : ℕ} {w : SetWords} (c : Marking (OwnsFrom s ks q e start) (OwnsFrom s ks q e from) room n w) where
  pub turn : {p m : ℕ} {after : SetWords} {r : (Option ℕ)} → First s q e from p → Stepped (owner ks p) n w after r → r ≡ Some m
      → Marking (OwnsFrom s ks q e start) (OwnsFrom s ks q e (p + length q)) room m after
  turn {p} {m} f (joined i o a) h =
      mark_add c (later_owned f) (first_owned f i o) m
      (λ y d. ⊎_elim (λ (g : owner ks p ≡ Entry y). inl (let k : y ≡ i = cc in k)) (λ (g : OwnsFrom s ks q e (p + length q) y). inr g)
      (owned_first f y d)) a h
  turn {p} {m} f (passed o k a) h =
      mark_pass c (later_owned f) (λ y d. ⊎_elim (λ (g : owner ks p ≡ Entry y). absurd (let z : ◌≡◌ {A = ℕ} 0 1 = cc in omega arith))
      (λ (g : OwnsFrom s ks q e (p + length q) y). g) (owned_first f y d)) k a h

  pub no_room : {p : ℕ} {after : SetWords} {r : (Option ℕ)} → First s q e from p → Stepped (owner ks p) n w after r → r ≡ None
      → (l : List ℕ) → SetOf (OwnsFrom s ks q e start) l → room < length l
  no_room f (joined i o a) h = mark_full c (first_owned f i o) a h
  no_room {r = r} f (passed o k a) h = absurd (let z : ◌≡◌ {A = ℕ} 0 1 = cc in omega arith)
