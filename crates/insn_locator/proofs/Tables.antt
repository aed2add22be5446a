-- Laws of an entry's answer, one for each way out of its definition.
-- Assumes nothing.
use Rattle.std.specs.Prelude.{Some, None, Option}
use mathlib.Core.Path.{◌≡◌, ap, ◌∙◌}
use mathlib.Core.Bool.{Bool, true, false}
use mathlib.Core.List.{List}
use Prim.Native.Nat.{ℕ, ◌≤◌, ◌<◌}
use native.Mathlib.Omega.{arith}
use lib.ListN.{get_or, set}
use borrow.Author.Tests.{lt-ltb, le-ltb, eq-eqb, ne_eqb}
use Rattle.start_words.specs.Starts.{pair_of}
use Rattle.start_words.specs.declared.Pair.{Pair}
use Rattle.insn_walk.specs.Walk.{lands}
use Rattle.insn_locator.specs.Answers.{entry_of}
use Rattle.insn_locator.specs.Steps.{Tried, answer_of, EntryIn}
use Rattle.insn_locator.specs.Locate.{Tables, slot_at, first_of, Answered, from_of, tried, tried_by, answered_by, answered}

-- ---- a method's walk tried

module _ (s : List ℕ) (p : Pair) (last : List ℕ) (v m t : ℕ) where
  pub tried_past : p.end ≤ t → record { answer = 0; last = last } ≡ tried s p last v m t
  tried_past h = rw (le-ltb t p.end h)

  module _ (before : t < p.end) (from : ℕ) (here : from ≡ from_of p.start (get_or last m 0)) where
    pub tried_none : from ≡ 0 → record { answer = 0; last = last } ≡ tried s p last v m t
    tried_none z = rw (lt-ltb t p.end before, ← here, le-ltb 0 from (omega arith))

    pub tried_off : 0 < from → lands s from t ≡ false → record { answer = 0; last = last } ≡ tried s p last v m t
    tried_off h e = rw (lt-ltb t p.end before, ← here, lt-ltb 0 from h, e)

    pub tried_on : 0 < from → lands s from t ≡ true → record { answer = v; last = set last m t } ≡ tried s p last v m t
    tried_on h e = rw (lt-ltb t p.end before, ← here, lt-ltb 0 from h, e)

-- what was done is the definition's, in either way
pub tried_same : {onward : Bool} {goal done : Answered} → done ≡ goal → Tried onward goal done
tried_same e = record { answer = ap (λ (r : Answered). r.answer) e; whole = λ _. e }

-- onward the words may be others
pub tried_onward : {onward : Bool} {goal done : Answered} → onward ≡ true → done.answer ≡ goal.answer → Tried onward goal done
tried_onward o e = record { answer = e; whole = λ z. absurd (let y : ◌≡◌ {A = ℕ} 0 1 = cc in omega arith) }

-- ---- an entry answered

module _ (s : List ℕ) (T : Tables) (last : List ℕ) (t v : ℕ) (slot : v ≡ slot_at T.base T.slots t) where
  pub entry_free : v ≡ 0 → Some (record { answer = 0; last = last }) ≡ answered s T last t (slot_at T.base T.slots t)
  entry_free z = rw (← slot, eq-eqb v 0 z)

  entry_by : (o : Option ℕ) → 0 < v → o ≡ first_of T.shares v
      → answered_by s T.starts last v t o ≡ answered s T last t (slot_at T.base T.slots t)
  entry_by o h e = rw (← slot, ne_eqb v 0 (λ z. omega arith), ← e)

  pub entry_missing : 0 < v → None ≡ first_of T.shares v → None ≡ answered s T last t (slot_at T.base T.slots t)
  entry_missing h e = entry_by None h e

  pub entry_unknown : (m : ℕ) → 0 < v → Some m ≡ first_of T.shares v → None ≡ pair_of T.starts m
      → None ≡ answered s T last t (slot_at T.base T.slots t)
  entry_unknown m h e k = ap (tried_by s last v m t) k ∙ entry_by (Some m) h e

  pub entry_tried : (m : ℕ) (p : Pair) → 0 < v → Some m ≡ first_of T.shares v → Some p ≡ pair_of T.starts m
      → Some (tried s p last v m t) ≡ answered s T last t (slot_at T.base T.slots t)
  entry_tried m p h e k = ap (tried_by s last v m t) k ∙ entry_by (Some m) h e

-- an entry answered by the definition's words, in either way
pub entry_same : {onward : Bool} {goal : Option Answered} (r : Option ℕ) (last : List ℕ) → entry_of r last ≡ goal → EntryIn onward goal r last
entry_same (Some a) last e = record { answer = ap answer_of e; whole = λ _. e }
entry_same None last e = record { answer = ap answer_of e; whole = λ _. e }

-- by a walk tried in either way
pub entry_by_walk : {onward : Bool} {goal : Option Answered} {r : Answered} (a : ℕ) (last : List ℕ) → Some r ≡ goal
    → Tried onward r (record { answer = a; last = last }) → EntryIn onward goal (Some a) last
entry_by_walk a last e W = record { answer = ap Some W.answer ∙ ap answer_of e; whole = λ o. ap Some (W.whole o) ∙ e }
