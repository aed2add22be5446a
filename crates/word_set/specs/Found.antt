-- The outcome of an operation whose result is a set of words: a fault, 4 where the lent words are fewer than the set has, or the
-- set as a rising list.
-- Assumes nothing.
use Rattle.refusal.specs.declared.Refusal.{Refusal}
use Rattle.std.specs.Prelude.{ℕ, cond, List, length, eqb, ltb, Result, Ok, Err}
use Rattle.refusal.specs.Refusals.{refusal_number}
use Rattle.refusal.specs.Outcomes.{Outcome, refused, success, Gives}
use Rattle.word_set.specs.Sets.{SetOf}

-- the number of what speaks against an operation, 0 where nothing does
abbrev pub fault_number : Result (Unit {0}) Refusal → ℕ
fault_number (Err r) = refusal_number r
fault_number (Ok tt) = 0

-- fault is the number of the operation's first fault before 4, and 0 where there is none
abbrev pub fitted : ℕ → ℕ → List ℕ → Outcome
fitted fault room xs = cond (eqb fault 0) (cond (ltb room (length xs)) (refused 4) (success xs)) (refused fault)

pub record Found (P : ℕ → Type 0) (fault : ℕ) (r : Result ℕ Refusal) (before after : List ℕ) : Type 0 where
  pub list : List ℕ
  pub set : SetOf P list
  pub gives : Gives (fitted fault (length before) list) r before after
