-- How many entries there can be: a start is a hit once at most, and of the kinds other than strings every second start is tried.
-- Assumes nothing.
use Rattle.std.specs.Prelude.{Option, None, Some}
use Prim.Native.Nat.{ℕ, ◌-◌, ◌≤◌}
use native.Mathlib.Omega.{arith}
use mathlib.Core.Path.{◌≡◌, refl, ap, ◌∙◌}
use mathlib.Core.Logic.{⊎_elim}
use mathlib.Core.Bool.{true, false}
use mathlib.Core.List.{List}
use lib.ListN.{length}
use lib.Dec.{eqb}
use borrow.Author.Tests.{eqb-true, eqb-false}
use Rattle.words.proofs.Shared.{case, cond_elim}
use Rattle.dalvik.specs.Instructions.{Kind}
use Rattle.dalvik.specs.Instructions.Kind.{strings, types, fields, methods}
use Rattle.kinds.specs.Kinds.{kind_number, kind_of, is_strings}
use Rattle.code_item_scan.specs.Scan.{is_in, Sought, sought, hits_of}
use Rattle.code_item_scan.proofs.Listed.{hits_few, hits_half}
use Rattle.completeness.specs.Completeness.{most_entries}

pub words_more : (number a b : ℕ) → a ≤ b → most_entries number a ≤ most_entries number b
words_more number a b h =
    ⊎_elim (λ (e : eqb number 1 ≡ true). rw e (omega arith)) (λ (e : eqb number 1 ≡ false). rw e (omega arith)) (case (eqb number 1))

-- a kind has one number
one_kind : (x y : Kind) → Some x ≡ Some y → x ≡ y
one_kind x y e = cc

no_kind : (y : Kind) → None ≡ Some y → ⊥
no_kind y e = let z : ◌≡◌ {A = ℕ} 0 1 = cc in omega arith

pub its_number : (number : ℕ) (kind : Kind) → kind_of number ≡ Some kind → number ≡ kind_number kind
unfolding kind_of
its_number number kind =
    cond_elim Is (eqb number 1) (Some strings) _ (λ a. is strings (eqb-true number 1 a))
    (λ _. cond_elim Is (eqb number 2) (Some types) _ (λ a. is types (eqb-true number 2 a))
    (λ _. cond_elim Is (eqb number 3) (Some fields) _ (λ a. is fields (eqb-true number 3 a))
    (λ _. cond_elim Is (eqb number 4) (Some methods) None (λ a. is methods (eqb-true number 4 a)) (λ _ e. absurd (no_kind kind e)))))
  where
    Is : Option Kind → Type 0
    Is o = o ≡ Some kind → number ≡ kind_number kind

    is : (x : Kind) → number ≡ kind_number x → Is (Some x)
    is x q e = q ∙ ap kind_number (one_kind x kind e)

other : (number : ℕ) → eqb number 1 ≡ false → (kind : Kind) → number ≡ kind_number kind → is_strings kind ≡ false
other number a strings e = absurd (eqb-false number 1 a e)
other number a types e = refl
other number a fields e = refl
other number a methods e = refl

-- of the kinds other than strings every second start is tried
pub few_hits : (s wanted : List ℕ) (from to number : ℕ) (kind : Kind) → kind_of number ≡ Some kind
    → length (hits_of s kind wanted from to) ≤ most_entries number (to - from)
few_hits s wanted from to number kind e =
    let Q : Sought = sought kind (λ z. is_in z wanted) from to in
    ⊎_elim
    (λ (a : eqb number 1 ≡ true). rw a (hits_few s Q))
    (λ (a : eqb number 1 ≡ false). rw a (hits_half s Q (other number a kind (its_number number kind e))))
    (case (eqb number 1))
