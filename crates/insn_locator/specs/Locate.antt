-- SPEC, Locate: which entries a walk over instructions and payloads confirms, over any tables.
-- Assumes nothing.
use Rattle.std.specs.Prelude.{ℕ, ◌+◌, ◌-◌, ◌*◌, ◌/◌, List, [], ◌∷◌, Bool, cond, ◌&&◌, length, get_or, set, replicate, ltb, leb, eqb, Option, None, Some}
use Rattle.refusal.specs.Refusals.{is_too_large}
use Rattle.refusal.specs.Outcomes.{Outcome, refused, success}
use Rattle.start_words.specs.Starts.{pair_count, pair_of}
use Rattle.start_words.specs.declared.Pair.{Pair}
use Rattle.code_table.specs.Slots.{shared, share_at}
use Rattle.insn_walk.specs.Walk.{lands}

-- what a build returned, or any other words
pub record Tables : Type 0 where
  pub base : ℕ
  pub slots : List ℕ
  pub starts : List ℕ
  pub shares : List ℕ

-- the slot of the block that holds offset t: 0 below or past the slots
unfoldable pub slot_at : ℕ → List ℕ → ℕ → ℕ
slot_at base slots t = cond (leb base (t / 16)) (get_or slots (t / 16 - base) 0) 0

-- the first method that a slot word other than 0 stands for; none where its share is outside the shares
unfoldable pub first_of : List ℕ → ℕ → Option ℕ
first_of ws v =
    cond (ltb v shared) (Some (v - 1)) (cond (leb (3 * (v - shared) + 3) (length ws)) (Some (share_at ws (v - shared) 0)) None)

-- an entry's answer, and the last confirmed offset of each method after it
pub record Answered : Type 0 where
  pub answer : ℕ
  pub last : List ℕ

-- where the walk of a method begins: its last confirmed offset, else its start
abbrev pub from_of : ℕ → ℕ → ℕ
from_of start confirmed = cond (eqb confirmed 0) start confirmed

-- an entry at t is before the end of the method's array
abbrev pub before_end : Pair → ℕ → Bool
before_end p t = ltb t p.end

-- and a walk from a place other than 0 confirms it
abbrev pub confirmed_by : List ℕ → Pair → ℕ → ℕ → Bool
confirmed_by s p from t = before_end p t && (ltb 0 from && lands s from t)

-- the last confirmed offsets after an entry at t of method m
abbrev pub noted : Bool → List ℕ → ℕ → ℕ → List ℕ
noted confirmed last m t = cond confirmed (set last m t) last

-- the slot word is v, and its first method m, with the pair p
abbrev pub tried : List ℕ → Pair → List ℕ → ℕ → ℕ → ℕ → Answered
tried s p last v m t =
    let confirmed = confirmed_by s p (from_of p.start (get_or last m 0)) t in
    record { answer = cond confirmed v 0; last = noted confirmed last m t }

-- a first method without both start words: 15
abbrev pub tried_by : List ℕ → List ℕ → ℕ → ℕ → ℕ → Option Pair → Option Answered
tried_by s last v m t None = None
tried_by s last v m t (Some p) = Some (tried s p last v m t)

-- no first method: 15
abbrev pub answered_by : List ℕ → List ℕ → List ℕ → ℕ → ℕ → Option ℕ → Option Answered
answered_by s starts last v t None = None
answered_by s starts last v t (Some m) = tried_by s last v m t (pair_of starts m)

abbrev pub answered : List ℕ → Tables → List ℕ → ℕ → ℕ → Option Answered
answered s T last t v = cond (eqb v 0) (Some (record { answer = 0; last = last })) (answered_by s T.starts last v t (first_of T.shares v))

-- the answer of an entry at t
abbrev pub answered_at : List ℕ → Tables → List ℕ → ℕ → Option Answered
answered_at s T last t = answered s T last t (slot_at T.base T.slots t)

abbrev pub cons_to : ℕ → Option (List ℕ) → Option (List ℕ)
cons_to a None = None
cons_to a (Some l) = Some (a ∷ l)

abbrev pub and_then : Option Answered → (List ℕ → Option (List ℕ)) → Option (List ℕ)
and_then None f = None
and_then (Some r) f = cons_to r.answer (f r.last)

-- the answers of the entries, in order; none for 15
unfoldable pub locate_from : List ℕ → Tables → List ℕ → List ℕ → Option (List ℕ)
locate_from s T last [] = Some []
locate_from s T last (t ∷ ts) = and_then (answered_at s T last t) (λ l. locate_from s T l ts)

-- every last confirmed offset is 0 at first
unfoldable pub locate_all : List ℕ → Tables → List ℕ → Option (List ℕ)
locate_all s T ts = locate_from s T (replicate (pair_count T.starts) 0) ts

abbrev pub answers_from : Option (List ℕ) → Outcome
answers_from None = refused 15
answers_from (Some l) = success l

-- 1, 4, 15; room counts the answer words, and further the words for last confirmed offsets
unfoldable pub locate_out : List ℕ → Tables → List ℕ → ℕ → ℕ → Outcome
locate_out s T entries room further =
    cond (is_too_large (length s)) (refused 1)
    (cond (leb (length entries) room && leb (pair_count T.starts) further) (answers_from (locate_all s T entries)) (refused 4))
