-- Laws of the operation: the refusals in their order, and a run over all entries, which has as many answers as there are entries.
-- Assumes nothing.
use Rattle.std.specs.Prelude.{Option, None, Some}
use Rattle.std.specs.Option.{is_some}
use mathlib.Core.Path.{◌≡◌, refl, ap, sym, ◌∙◌}
use mathlib.Core.Bool.{true, false}
use mathlib.Core.List.{List, [], ◌∷◌}
use Prim.Native.Nat.{ℕ, zero, suc, ◌≤◌, ◌<◌}
use native.Mathlib.Omega.{arith}
use lib.ListN.{length, take}
use lib.Seq.{sets}
use borrow.Author.Tests.{le-leb, lt-leb}
use Rattle.words.specs.Padded.{zeros, padded}
use Rattle.words.proofs.Padded.{sets_zeros}
use Rattle.refusal.specs.Refusals.{is_too_large}
use Rattle.refusal.specs.Outcomes.{refused, success}
use Rattle.start_words.specs.Starts.{pair_count}
use Rattle.insn_locator.specs.Locate.{Tables, Answered, slot_at, answered, cons_to, and_then, locate_from, locate_all, answers_from, locate_out}
use Rattle.insn_locator.specs.Steps.{stored, ran_to}

pub ran_none : (r : Option (Unit {0})) (out : List ℕ) → is_some r ≡ false → ran_to r out ≡ None
ran_none None out e = refl
ran_none (Some u) out e = absurd (let z : ◌≡◌ {A = ℕ} 0 1 = cc in omega arith)

pub ran_some : (r : Option (Unit {0})) (out : List ℕ) → is_some r ≡ true → ran_to r out ≡ Some out
ran_some None out e = absurd (let z : ◌≡◌ {A = ℕ} 0 1 = cc in omega arith)
ran_some (Some u) out e = refl

pub take_zeros : (n k : ℕ) → n ≤ k → take n (zeros k) ≡ zeros n
take_zeros zero k h = refl
take_zeros (suc n) zero h = absurd (omega arith)
take_zeros (suc n) (suc k) h = ap (λ (l : List ℕ). 0 ∷ l) (take_zeros n k (omega arith))

-- ---- there are as many answers as entries

cons_length : (a n : ℕ) (q : Option (List ℕ)) (xs : List ℕ) → ((ys : List ℕ) → q ≡ Some ys → length ys ≡ n) → cons_to a q ≡ Some xs → length xs ≡ suc n
cons_length a n None xs h e = absurd (let z : ◌≡◌ {A = ℕ} 0 1 = cc in omega arith)
cons_length a n (Some ys) xs h e =
    let z : a ∷ ys ≡ xs = cc in
    sym (ap length z) ∙ ap suc (h ys refl)

then_length : (n : ℕ) (o : Option Answered) (f : List ℕ → Option (List ℕ)) (xs : List ℕ) → ((l ys : List ℕ) → f l ≡ Some ys → length ys ≡ n)
    → and_then o f ≡ Some xs → length xs ≡ suc n
then_length n None f xs h e = absurd (let z : ◌≡◌ {A = ℕ} 0 1 = cc in omega arith)
then_length n (Some r) f xs h e = cons_length r.answer n (f r.last) xs (h r.last) e

pub answers_length : (s : List ℕ) (T : Tables) (ts last xs : List ℕ) → locate_from s T last ts ≡ Some xs → length xs ≡ length ts
unfolding locate_from
answers_length s T [] last xs e =
    let z : [] ≡ xs = cc in
    sym (ap length z)
answers_length s T (t ∷ ts) last xs e =
    then_length (length ts) (answered s T last t (slot_at T.base T.slots t)) (λ l. locate_from s T l ts) xs (answers_length s T ts) e

-- ---- the outcome

module _ (s : List ℕ) (T : Tables) (entries : List ℕ) (room further : ℕ) where
  pub locate_long : is_too_large (length s) ≡ true → locate_out s T entries room further ≡ refused 1
  unfolding locate_out
  locate_long h = rw h

  module _ (fits : is_too_large (length s) ≡ false) where
    pub locate_room : room < length entries → locate_out s T entries room further ≡ refused 4
    unfolding locate_out
    locate_room h = rw (fits, lt-leb (length entries) room h)

    module _ (enough : length entries ≤ room) where
      pub locate_further : further < pair_count T.starts → locate_out s T entries room further ≡ refused 4
      unfolding locate_out
      locate_further h = rw (fits, le-leb (length entries) room enough, lt-leb (pair_count T.starts) further h)

      module _ (known : pair_count T.starts ≤ further) (last : List ℕ) (none_yet : last ≡ zeros (pair_count T.starts)) where
        locate_run : (q : Option (List ℕ)) → locate_from s T last entries ≡ q → locate_out s T entries room further ≡ answers_from q
        unfolding locate_out locate_all
        locate_run q e = rw (fits, le-leb (length entries) room enough, le-leb (pair_count T.starts) further known, ← none_yet, e)

        fault_by : (out : List ℕ) (q : Option (List ℕ)) → locate_from s T last entries ≡ q → None ≡ stored out 0 q
            → locate_out s T entries room further ≡ refused 15
        fault_by out None e p = locate_run None e
        fault_by out (Some xs) e p = absurd (let z : ◌≡◌ {A = ℕ} 0 1 = cc in omega arith)

        pub locate_fault : (out : List ℕ) → None ≡ stored out 0 (locate_from s T last entries) → locate_out s T entries room further ≡ refused 15
        locate_fault out p = fault_by out (locate_from s T last entries) refl p

        -- the answers, as the run has stored them
        pub record Ran (out' : List ℕ) : Type 0 where
          pub list : List ℕ
          pub outcome : locate_out s T entries room further ≡ success list
          pub count : length list ≡ length entries
          pub words : out' ≡ padded room list

        done_by : (out out' : List ℕ) → out ≡ zeros room → (q : Option (List ℕ)) → locate_from s T last entries ≡ q → Some out' ≡ stored out 0 q
            → Ran out'
        done_by out out' z None e p = absurd (let w : ◌≡◌ {A = ℕ} 0 1 = cc in omega arith)
        done_by out out' z (Some xs) e p =
            let k : length xs ≡ length entries = answers_length s T entries last xs e in
            let w : out' ≡ sets out 0 xs = cc in
            record {
              list = xs;
              outcome = locate_run (Some xs) e;
              count = k;
              words = w ∙ sets_zeros room xs z (omega arith);
            }

        pub locate_done : (out out' : List ℕ) → out ≡ zeros room → Some out' ≡ stored out 0 (locate_from s T last entries) → Ran out'
        locate_done out out' z p = done_by out out' z (locate_from s T last entries) refl p
