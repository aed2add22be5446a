-- Room for the texts of `refs`: a line is its slot's listing and then a text, and each of these has a law on room.
-- Assumes nothing.
use Prim.Native.Nat.{ℕ, zero, suc, ◌+◌, ◌≤◌}
use native.Mathlib.Omega.{arith}
use mathlib.Core.Path.{◌≡◌, refl}
use mathlib.Core.Logic.{⊎_elim}
use mathlib.Core.Bool.{true, false, ◌&&◌}
use mathlib.Core.List.{List}
use lib.ListN.{length, get_or}
use lib.Dec.{ltb, eqb}
use borrow.Author.Tests.{eqb-true, eqb-false}
use Rattle.words.proofs.Shared.{case}
use Rattle.refusal.specs.Outcomes.{Outcome, refused}
use Rattle.slot_listing.specs.Listing.{list_out}
use Rattle.listing_text.proofs.TextRoom.{entry_room}
use Rattle.entry_lines.specs.Line.{Entries, line_by, line_out, alike, line_at, first_refused, tried_out}
use Rattle.room.proofs.Branches.{same_then}
use Rattle.room.proofs.Located.{list_more}

module _ (words bytes words' bytes' : ℕ) (a : words ≤ words') (b : bytes ≤ bytes') where
  by_more : (off idx : ℕ) (o o' : Outcome) → (o.number ≡ 0 → o' ≡ o) → (line_by off idx o bytes).number ≡ 0
      → line_by off idx o' bytes' ≡ line_by off idx o bytes
  by_more off idx o o' f =
      ⊎_elim
      (λ (t : eqb o.number 0 ≡ true) e.
      rw (f (eqb-true o.number 0 t)) (rw t (entry_room bytes bytes' b off idx o.list (rw t at e))))
      (λ (t : eqb o.number 0 ≡ false) e. absurd (eqb-false o.number 0 t (rw t at e)))
      (case (eqb o.number 0))

  line_more : (off idx slot : ℕ) (shares : List ℕ) → (line_out off idx slot shares words bytes).number ≡ 0
      → line_out off idx slot shares words' bytes' ≡ line_out off idx slot shares words bytes
  unfolding line_out
  line_more off idx slot shares =
      by_more off idx (list_out shares slot words) (list_out shares slot words') (list_more shares slot words words' a)

  module _ (E : Entries) where
    pub entry_more : (i : ℕ) → (line_at E words bytes i).number ≡ 0
        → line_at E words' bytes' i ≡ line_at E words bytes i
    unfolding line_at
    entry_more i =
        same_then (λ (o : Outcome). o.number) (alike E.offs E.marks E.answers && ltb i (length E.offs)) _ _ (refused 15)
        (line_more (get_or E.offs i 0) (get_or E.marks i 0) (get_or E.answers i 0) E.shares)

    first_more : (k i : ℕ) → first_refused (line_at E words bytes) k i ≡ 0
        → first_refused (line_at E words' bytes') k i ≡ 0
    unfolding first_refused
    first_more zero i = λ e. refl
    first_more (suc k) i =
        ⊎_elim
        (λ (t : eqb (line_at E words bytes i).number 0 ≡ true) e.
        let z : (line_at E words bytes i).number ≡ 0 = eqb-true _ 0 t in
        rw (entry_more i z) (rw t (first_more k (i + 1) (rw t at e))))
        (λ (t : eqb (line_at E words bytes i).number 0 ≡ false) e. absurd (eqb-false _ 0 t (rw t at e)))
        (case (eqb (line_at E words bytes i).number 0))

    pub entries_more : tried_out E words bytes ≡ 0 → tried_out E words' bytes' ≡ 0
    unfolding tried_out
    entries_more =
        ⊎_elim
        (λ (t : alike E.offs E.marks E.answers ≡ true) e. rw t (first_more (length E.offs) 0 (rw t at e)))
        (λ (t : alike E.offs E.marks E.answers ≡ false) e. absurd (let z : ◌≡◌ {A = ℕ} 15 0 = rw t at e in omega arith))
        (case (alike E.offs E.marks E.answers))
