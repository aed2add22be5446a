-- Laws of a run over the entries: what is stored so far and the answers of the entries left make up the whole, at every turn. Onward these are the
-- answers of each entry alone, whichever words the walks go on from.
-- Assumes nothing.
use Rattle.std.specs.Prelude.{Some, Option, None}
use mathlib.Core.Path.{◌≡◌, refl, ap, sym, ◌∙◌}
use mathlib.Core.Bool.{Bool, true, false}
use mathlib.Core.List.{List, ◌∷◌}
use Prim.Native.Nat.{ℕ, suc, ◌+◌, ◌≤◌, ◌<◌}
use native.Mathlib.Numerals.{add-one}
use native.Mathlib.Omega.{arith}
use lib.ListN.{length, get_or, set, drop, drop_of_length-le}
use lib.Seq.{drop-cons}
use Rattle.insn_locator.specs.Locate.{Tables, Answered, slot_at, answered, cons_to, and_then, locate_from}
use Rattle.insn_locator.specs.Steps.{ReadyOn, Onward, answer_of, EntryIn, stored}
use Rattle.insn_locator.proofs.Alone.{onward_on, onward_turn}

-- ---- one entry of the list

no_answer : (o : Option Answered) → None ≡ answer_of o → None ≡ o
no_answer None e = refl
no_answer (Some r) e = absurd (let z : ◌≡◌ {A = ℕ} 0 1 = cc in omega arith)

stored_cons : (out : List ℕ) (i a : ℕ) (o : Option (List ℕ)) → stored (set out i a) (suc i) o ≡ stored out i (cons_to a o)
stored_cons out i a None = refl
stored_cons out i a (Some xs) = refl

-- the answers of the entries from i on
abbrev pub rest : List ℕ → Tables → List ℕ → ℕ → List ℕ → Option (List ℕ)
rest s T entries i last = locate_from s T last (drop i entries)

module _ (s : List ℕ) (T : Tables) (entries : List ℕ) (i : ℕ) (last out : List ℕ) where
  pub rest_end : length entries ≤ i → Some out ≡ stored out i (rest s T entries i last)
  unfolding locate_from
  rest_end h = ap (λ (l : List ℕ). stored out i (locate_from s T last l)) (sym (drop_of_length-le entries h))

  module _ (left : i < length entries) where
    rest_cons : (o : Option Answered) → o ≡ answered s T last (get_or entries i 0) (slot_at T.base T.slots (get_or entries i 0))
        → rest s T entries i last ≡ and_then o (λ l. rest s T entries (suc i) l)
    unfolding locate_from
    rest_cons o e = rw (drop-cons entries i 0 left, ← e)

    pub rest_fault : None ≡ answer_of (answered s T last (get_or entries i 0) (slot_at T.base T.slots (get_or entries i 0)))
        → None ≡ stored out i (rest s T entries i last)
    rest_fault e = ap (stored out i) (sym (rest_cons None (no_answer _ e)))

    rest_answer : (a : ℕ) (last' out' : List ℕ) → out' ≡ set out i a
        → rest s T entries i last ≡ cons_to a (rest s T entries (suc i) last')
        → stored out' (i + 1) (rest s T entries (i + 1) last') ≡ stored out i (rest s T entries i last)
    rest_answer a last' out' p e =
        rw (add-one i, p) (stored_cons out i a (rest s T entries (suc i) last') ∙ ap (stored out i) (sym e))

    module _ (last' : List ℕ) (keeps : ReadyOn s T (get_or entries i 0) last last') (O : Onward s T last (drop i entries)) where
      first_left : Onward s T last (get_or entries i 0 ∷ drop (suc i) entries)
      first_left = rw (drop-cons entries i 0 left) at O

      pub rest_onward : Onward s T last' (drop (i + 1) entries)
      rest_onward = rw (add-one i) (onward_on s T (get_or entries i 0) (drop (suc i) entries) last last' first_left keeps)

      pub answer_onward : (a : ℕ) → Some a ≡ answer_of (answered s T last (get_or entries i 0) (slot_at T.base T.slots (get_or entries i 0)))
          → rest s T entries i last ≡ cons_to a (rest s T entries (suc i) last')
      answer_onward a e =
          ap (locate_from s T last) (drop-cons entries i 0 left)
          ∙ onward_turn s T (get_or entries i 0) (drop (suc i) entries) last last' first_left keeps a e

    -- one entry answered, in either way
    pub rest_turn : (onward : Bool) (a : ℕ) (last' out' : List ℕ) → out' ≡ set out i a
        → EntryIn onward (answered s T last (get_or entries i 0) (slot_at T.base T.slots (get_or entries i 0))) (Some a) last'
        → (onward ≡ true → ReadyOn s T (get_or entries i 0) last last') → (onward ≡ true → Onward s T last (drop i entries))
        → stored out' (i + 1) (rest s T entries (i + 1) last') ≡ stored out i (rest s T entries i last)
    rest_turn false a last' out' p E keeps O =
        rest_answer a last' out' p (rest_cons (Some (record { answer = a; last = last' })) (E.whole refl))
    rest_turn true a last' out' p E keeps O = rest_answer a last' out' p (answer_onward last' (keeps refl) (O refl) a E.answer)
