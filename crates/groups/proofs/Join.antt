-- Several builds as one operation. The first number that is not 0 is that of the whole; with it nothing is left of any build, and without one
-- each build's words are its own.
-- Assumes nothing.
use Rattle.refusal.specs.declared.Refusal.{Refusal}
use Rattle.std.specs.Prelude.{Result, Ok}
use Prim.Native.Nat.{ℕ}
use mathlib.Core.Path.{◌≡◌, sym, ap, subst, ◌∙◌}
use mathlib.Core.Bool.{true, false}
use mathlib.Core.Logic.{◌⊎◌, inl, inr, ⊎_elim}
use mathlib.Core.List.{List, ◌∷◌}
use lib.ListN.{length}
use lib.Dec.{eqb}
use borrow.Author.Tests.{eqb-true, eqb-false, eq-eqb, ne_eqb}
use Rattle.words.proofs.Shared.{case}
use Rattle.refusal.specs.Refusals.{answer_number, answer_count}
use Rattle.groups.specs.Built.{GroupWords, none, Outcome, Laid, Gives}
use Rattle.groups.specs.Join.{first_refusal, kept}
use Rattle.groups.proofs.Built.{Zeroed, laid_none}

-- ---- the number of the whole
pub first_next : (n : ℕ) (ns : List ℕ) → n ≡ 0 → first_refusal (n ∷ ns) ≡ first_refusal ns
unfolding first_refusal
first_next n ns e = rw (eq-eqb n 0 e)

pub first_here : (n : ℕ) (ns : List ℕ) → (n ≡ 0 → ⊥) → first_refusal (n ∷ ns) ≡ n
unfolding first_refusal
first_here n ns d = rw (ne_eqb n 0 d)

-- where the whole succeeds each build does
pub zero_first : (n : ℕ) (ns : List ℕ) → first_refusal (n ∷ ns) ≡ 0 → (n ≡ 0) × (first_refusal ns ≡ 0)
zero_first n ns e =
    ⊎_elim (λ (t : eqb n 0 ≡ true). (eqb-true n 0 t, sym (first_next n ns (eqb-true n 0 t)) ∙ e))
    (λ (t : eqb n 0 ≡ false). absurd (eqb-false n 0 t (sym (first_here n ns (eqb-false n 0 t)) ∙ e))) (case (eqb n 0))

-- the whole's number is that of a build, or 0
pub first_among : (n : ℕ) (ns : List ℕ) (m : ℕ) → first_refusal (n ∷ ns) ≡ m → (n ≡ m) ⊎ (first_refusal ns ≡ m)
first_among n ns m e =
    ⊎_elim (λ (t : eqb n 0 ≡ true). inr (sym (first_next n ns (eqb-true n 0 t)) ∙ e))
    (λ (t : eqb n 0 ≡ false). inl (sym (first_here n ns (eqb-false n 0 t)) ∙ e))
    (case (eqb n 0))

-- ---- one build, as a part of the whole
pub kept_all : (n : ℕ) (g : GroupWords) → n ≡ 0 → kept n g ≡ g
unfolding kept
kept_all n g e = rw (eq-eqb n 0 e)

pub kept_none : (n : ℕ) (g : GroupWords) → (n ≡ 0 → ⊥) → kept n g ≡ none
unfolding kept
kept_none n g d = rw (ne_eqb n 0 d)

-- no build refuses: its words and its count are its own
pub part_words : {n : ℕ} {o : Outcome} {r : (Result ℕ Refusal)} {before after : GroupWords} → n ≡ 0 → Gives o r before after
    → Laid (kept n o.groups) before after
part_words {n} {o} {r} {before} {after} e g = subst (λ (x : GroupWords). Laid x before after) (sym (kept_all n o.groups e)) g.words

pub part_count : {n x : ℕ} {o : Outcome} {r : (Result ℕ Refusal)} {before after : GroupWords} → n ≡ 0 → r ≡ Ok x → Gives o r before after
    → x ≡ length (kept n o.groups).ids
part_count {n} {x} {o} e d g = sym (ap answer_count d) ∙ (g.count ∙ ap (λ (w : GroupWords). length w.ids) (sym (kept_all n o.groups e)))

pub part_done : {x : ℕ} {o : Outcome} {r : (Result ℕ Refusal)} {before after : GroupWords} → r ≡ Ok x → Gives o r before after → o.number ≡ 0
part_done d g = sym g.number ∙ ap answer_number d

-- one of the builds refuses: nothing is left
pub part_none : {n : ℕ} (g : GroupWords) {before after : GroupWords} → (n ≡ 0 → ⊥) → Zeroed before after → Laid (kept n g) before after
part_none {n} g {before} {after} d z = subst (λ (x : GroupWords). Laid x before after) (sym (kept_none n g d)) (laid_none z)

pub none_counted : {n : ℕ} (g : GroupWords) → (n ≡ 0 → ⊥) → 0 ≡ length (kept n g).ids
none_counted {n} g d = ap (λ (w : GroupWords). length w.ids) (sym (kept_none n g d))
