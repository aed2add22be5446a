-- How an operation over one lent slice of words gives its outcome: a refusal has cleared the words, a success has its list and zeros there.
-- Assumes nothing.
use Rattle.std.specs.Prelude.{Ok, Err}
use Prim.Native.Nat.{ℕ}
use mathlib.Core.Path.{◌≡◌, refl, sym, ◌∙◌}
use mathlib.Core.List.{List}
use lib.ListN.{length}
use Rattle.words.specs.Padded.{zeros, padded}
use Rattle.words.proofs.Padded.{padded_none}
use Rattle.refusal.specs.declared.Refusal.{Refusal}
use Rattle.refusal.specs.Refusals.{refusal_number}
use Rattle.refusal.specs.Outcomes.{Outcome, refused, success, Gives}

module _ (o : Outcome) (before after : List ℕ) where
  pub gives_refused : (why : Refusal) → o ≡ refused (refusal_number why) → after ≡ zeros (length before) → Gives o (Err why) before after
  gives_refused why e z = rw e (record { number = refl; count = refl; words = z ∙ sym (padded_none (length before)) })

  pub gives_done : (n : ℕ) (l : List ℕ) → o ≡ success l → length l ≡ n → after ≡ padded (length before) l → Gives o (Ok n) before after
  gives_done n l e k w = rw e (record { number = refl; count = sym k; words = w })
