-- On rising entries locate answers as the walk from the method's start does: each entry's answer is that of a list with it alone.
-- Assumes nothing.
use Rattle.std.specs.Prelude.{Some}
use Prim.Native.Nat.{ℕ, ◌≤◌, ◌<◌}
use native.Mathlib.Omega.{arith}
use mathlib.Core.Path.{◌≡◌, refl, sym, ◌∙◌}
use mathlib.Core.Bool.{true, cond}
use mathlib.Core.List.{List}
use lib.ListN.{length, get_or}
use borrow.Author.Tests.{le-leb}
use Rattle.words.proofs.Shared.{some_inj}
use Rattle.start_words.specs.Starts.{pair_of}
use Rattle.start_words.specs.declared.Pair.{Pair}
use Rattle.code_item_scan.proofs.Listed.{Above, no_more, one_more}
use Rattle.insn_locator.specs.Locate.{slot_at, first_of, Tables, locate_all}
use Rattle.insn_locator.specs.Steps.{climbs}
use Rattle.insn_locator.proofs.Whole.{answers_length}
use Rattle.insn_locator.proofs.Alone.{confirms, alone_at, alone_free, alone_by, locates_alone, each_alone}
use Rattle.insn_locator.proofs.Built.{Answerable, no_method, by, has_answers}

-- a list that rises does not fall
pub above_climbs : {b c : ℕ} {ts : List ℕ} → Above c ts → b ≤ c → climbs b ts ≡ true
unfolding climbs
above_climbs no_more le = refl
above_climbs {b} (one_more {t = t} h o) le = rw (le-leb b t (omega arith)) (above_climbs o (omega arith))

-- an entry's answer
pub data Answer (s starts shares : List ℕ) (t v : ℕ) : ℕ → Type 0 where
  vacant : {r : ℕ} → v ≡ 0 → r ≡ 0 → Answer s starts shares t v r
  walked : {r : ℕ} (m : ℕ) → first_of shares v ≡ Some m → (p : Pair) → pair_of starts m ≡ Some p → r ≡ cond (confirms s p t) v 0
      → Answer s starts shares t v r

as_alone : (s : List ℕ) (T : Tables) (t r : ℕ) → Answerable T.starts T.shares (slot_at T.base T.slots t) → alone_at s T t ≡ Some r
    → Answer s T.starts T.shares t (slot_at T.base T.slots t) r
as_alone s T t r (no_method z) e = vacant z (some_inj (sym e ∙ alone_free s T t _ refl z))
as_alone s T t r (by n m f p i) e = walked m f p i (some_inj (sym e ∙ alone_by s T t _ refl n m f p i))

pub record Located (s : List ℕ) (T : Tables) (ts : List ℕ) : Type 0 where
  pub answers : List ℕ
  pub gives : locate_all s T ts ≡ Some answers
  pub sized : length answers ≡ length ts
  pub each : (k : ℕ) → k < length ts → Answer s T.starts T.shares (get_or ts k 0) (slot_at T.base T.slots (get_or ts k 0)) (get_or answers k 0)

pub located : (s : List ℕ) (T : Tables) → ((t : ℕ) → Answerable T.starts T.shares (slot_at T.base T.slots t))
    → {ts : List ℕ} {c : ℕ} → Above c ts → Located s T ts
unfolding locate_all
located s T A {ts} R =
    let H = has_answers s T A ts _ in
    record {
      answers = H.answers;
      gives = H.gives;
      sized = answers_length s T ts _ H.answers H.gives;
      each = λ k h.
          as_alone s T (get_or ts k 0) (get_or H.answers k 0) (A (get_or ts k 0))
          (each_alone s T ts H.answers (sym (locates_alone s T ts (above_climbs R (omega arith))) ∙ H.gives) k h);
    }
