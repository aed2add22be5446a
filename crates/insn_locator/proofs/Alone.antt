-- An entry stands by itself: the confirmed offsets of a method lie on one walk from its start, and a walk from a later point of it is its rest.
-- So in a list that does not fall a walk may begin at any place that it has come to, and lands where the walk from the start lands.
--     GoesOn     stays, goes_on, goes_on_confirmed
--     Ready      ready_none, ready_later, ready_on
--     entries    one_entry; alone_free, alone_by; run_alone; locates_alone, each_alone, known_alone, one_alone; onward_on, onward_turn, onward_first
-- Assumes nothing.
use Rattle.std.specs.Prelude.{Option, None, Some}
use Prim.Native.Nat.{ℕ, zero, suc, ◌≤◌, ◌<◌}
use native.Mathlib.Omega.{arith}
use mathlib.Core.Path.{◌≡◌, refl, sym, ◌∙◌, ap}
use mathlib.Core.Logic.{◌≢◌, ⊎_elim}
use mathlib.Core.Bool.{Bool, true, false, cond}
use mathlib.Core.List.{List, [], ◌∷◌, map}
use lib.Dec.{ltb, eqb}
use lib.ListN.{length, get_or, set}
use lib.Seq.{get_or-set_same, get_or-set_other, set_out}
use borrow.Author.Tests.{lt-ltb, le-leb, ltb-true, ltb-false, eqb-true, eqb-false, eq-eqb, ne_eqb}
use Rattle.words.specs.Padded.{zeros}
use Rattle.words.proofs.Padded.{get_or_zeros}
use Rattle.words.proofs.Shared.{case, and_left, and_right, some_inj}
use Rattle.start_words.specs.Starts.{pair_count, pair_of}
use Rattle.start_words.specs.declared.Pair.{Pair}
use Rattle.insn_walk.specs.Walk.{lands}
use Rattle.insn_locator.specs.Locate.{Tables, Answered, slot_at, first_of, from_of, before_end, confirmed_by, noted, tried, tried_by, answered_by, answered, answered_at, cons_to, and_then, locate_from, locate_all}
use Rattle.insn_locator.specs.Steps.{climbs, walks, GoesOn, Ready, ReadyOn, Onward, answer_of}
use Rattle.insn_locator.proofs.Climbing.{first_climbs, rest_climbs}
use Rattle.insn_walk.proofs.Walks.{Steps, steps_le, lands_to, lands_again}

-- ---- a method's walk goes on

pub stays : {s : List ℕ} {start m t : ℕ} {last : List ℕ} → GoesOn s start m t last last
stays = record { same = λ u h. refl; others = λ k n. refl }

module _ (s : List ℕ) (start m t : ℕ) (last : List ℕ) (from : ℕ) (here : from ≡ from_of start (get_or last m 0)) (begun : 0 < from) where
  -- from a place x, where it lands as from where it stood
  pub goes_on : (x : ℕ) → 0 < x → ((u : ℕ) → t ≤ u → lands s x u ≡ lands s from u) → GoesOn s start m t last (set last m x)
  goes_on x some-place same = record {
    same = λ u h.
        ⊎_elim
        (λ (i : ltb m (length last) ≡ true).
        rw (get_or-set_same last m x 0 (ltb-true m (length last) i), ne_eqb x 0 (λ z. omega arith), ← here, lt-ltb 0 x some-place, lt-ltb 0 from begun)
        (same u h))
        (λ (i : ltb m (length last) ≡ false). rw (set_out last m x (ltb-false m (length last) i)))
        (case (ltb m (length last)));
    others = λ k n. get_or-set_other last m k x 0 n;
  }

  -- from an entry that it lands on
  pub goes_on_confirmed : lands s from t ≡ true → GoesOn s start m t last (set last m t)
  goes_on_confirmed e =
      let r : Steps s from t = lands_to s from t e in
      goes_on t (omega (arith, steps_le r)) (λ u h. lands_again s from t u r h)

-- ---- all methods' walks

module _ (s : List ℕ) (T : Tables) where
  pub ready_none : (low n : ℕ) → Ready s T low (zeros n)
  ready_none low n m p e u h = rw (get_or_zeros n m)

  pub ready_later : (t : ℕ) (last : List ℕ) → ReadyOn s T t last last
  ready_later t last low le R m p e u h = R m p e u (omega arith)

  pub ready_on : (m : ℕ) (p : Pair) (t : ℕ) (before after : List ℕ) → pair_of T.starts m ≡ Some p → GoesOn s p.start m t before after
      → ReadyOn s T t before after
  ready_on m p t before after e G low le R k q f u h =
      ⊎_elim
      (λ (i : eqb k m ≡ true).
      let z : k ≡ m = eqb-true k m i in
      let y : q ≡ p = some_inj (sym f ∙ (rw z e)) in
      rw (z, y) (G.same u h ∙ R m p e u (omega arith)))
      (λ (i : eqb k m ≡ false). rw (G.others k (eqb-false k m i)) (R k q f u (omega arith)))
      (case (eqb k m))

-- ---- an entry as the only one

abbrev pub alone_at : List ℕ → Tables → ℕ → Option ℕ
alone_at s T t = answer_of (answered_at s T (zeros (pair_count T.starts)) t)

-- the walk from the method's start confirms it
abbrev pub confirms : List ℕ → Pair → ℕ → Bool
confirms s p t = confirmed_by s p p.start t

-- it does from a place from which it lands as from the start
from_place : (s : List ℕ) (p : Pair) (from t : ℕ) → walks s from t ≡ walks s p.start t → confirmed_by s p from t ≡ confirms s p t
from_place s p from t e = rw e

from_none : (s : List ℕ) (p : Pair) (n m t : ℕ) → confirmed_by s p (from_of p.start (get_or (zeros n) m 0)) t ≡ confirms s p t
from_none s p n m t = ap (λ (x : ℕ). confirmed_by s p (from_of p.start x) t) (get_or_zeros n m)

-- ---- one entry of a list that does not fall

-- after entries that are not later its answer is the one alone, and the words that the definition notes stay ready
pub record OneEntry (s : List ℕ) (T : Tables) (t : ℕ) (o alone : Option Answered) : Type 0 where
  pub same : answer_of o ≡ answer_of alone
  pub ready : (r : Answered) → o ≡ Some r → Ready s T t r.last

module _ (s : List ℕ) (T : Tables) (last : List ℕ) (low t v : ℕ) (le : low ≤ t) (R : Ready s T low last) where
  abbrev nothing : List ℕ
  nothing = zeros (pair_count T.starts)

  no_answer : OneEntry s T t None None
  no_answer = record { same = refl; ready = λ r e. absurd (let z : ◌≡◌ {A = ℕ} 0 1 = cc in omega arith) }

  module _ (m : ℕ) (p : Pair) (e : pair_of T.starts m ≡ Some p) where
    abbrev from : ℕ
    from = from_of p.start (get_or last m 0)

    -- the words that the definition notes
    noted_ready : (b : Bool) → confirmed_by s p from t ≡ b → Ready s T t (noted b last m t)
    noted_ready true q =
        let w : walks s from t ≡ true = and_right (before_end p t) (walks s from t) q in
        ready_on s T m p t last (set last m t) e
        (goes_on_confirmed s p.start m t last from refl (ltb-true 0 from (and_left (ltb 0 from) (lands s from t) w))
        (and_right (ltb 0 from) (lands s from t) w))
        low le R
    noted_ready false q = ready_later s T t last low le R

    tried_one : OneEntry s T t (Some (tried s p last v m t)) (Some (tried s p nothing v m t))
    tried_one = record {
      same = ap (λ (b : Bool). Some (cond b v 0)) (from_place s p from t (R m p e t le) ∙ sym (from_none s p (pair_count T.starts) m t));
      ready = λ r f.
          let z : r.last ≡ noted (confirmed_by s p from t) last m t = ap (λ (x : Answered). x.last) (sym (some_inj f)) in
          rw z (noted_ready (confirmed_by s p from t) refl);
    }

  pair_by : (m : ℕ) (o : Option Pair) → pair_of T.starts m ≡ o → OneEntry s T t (tried_by s last v m t o) (tried_by s nothing v m t o)
  pair_by m None e = no_answer
  pair_by m (Some p) e = tried_one m p e

  first_by : (o : Option ℕ) → OneEntry s T t (answered_by s T.starts last v t o) (answered_by s T.starts nothing v t o)
  first_by None = no_answer
  first_by (Some m) = pair_by m (pair_of T.starts m) refl

  pub one_entry : OneEntry s T t (answered s T last t v) (answered s T nothing t v)
  one_entry =
      ⊎_elim
      (λ (e : eqb v 0 ≡ true).
      rw e
      (record {
        same = refl;
        ready = λ r f.
            let z : r.last ≡ last = cc in
            rw z (ready_later s T t last low le R);
      }))
      (λ (e : eqb v 0 ≡ false). rw e (first_by (first_of T.shares v)))
      (case (eqb v 0))

-- ---- its answer as the only one

module _ (s : List ℕ) (T : Tables) (t v : ℕ) (slot : slot_at T.base T.slots t ≡ v) where
  pub alone_free : v ≡ 0 → alone_at s T t ≡ Some 0
  alone_free e = rw (slot, eq-eqb v 0 e)

  pub alone_by : v ≢ 0 → (m : ℕ) → first_of T.shares v ≡ Some m → (p : Pair) → pair_of T.starts m ≡ Some p
      → alone_at s T t ≡ Some (cond (confirms s p t) v 0)
  alone_by n m e p i =
      rw (slot, ne_eqb v 0 n, e, i) (ap (λ (b : Bool). Some (cond b v 0)) (from_none s p (pair_count T.starts) m t))

-- ---- the list

abbrev pub together : Option ℕ → Option (List ℕ) → Option (List ℕ)
together None q = None
together (Some a) q = cons_to a q

-- each entry as the only one
unfoldable pub all_alone : List ℕ → Tables → List ℕ → Option (List ℕ)
all_alone s T [] = Some []
all_alone s T (t ∷ ts) = together (alone_at s T t) (all_alone s T ts)

then_alone : (f : List ℕ → Option (List ℕ)) (o : Option Answered) (a : Option ℕ) (q : Option (List ℕ)) → answer_of o ≡ a
    → ((r : Answered) → o ≡ Some r → f r.last ≡ q) → and_then o f ≡ together a q
then_alone f None a q e k = rw (← e)
then_alone f (Some r) a q e k = rw (← e) (ap (cons_to r.answer) (k r refl))

pub run_alone : (s : List ℕ) (T : Tables) (ts last : List ℕ) (low : ℕ) → Ready s T low last → climbs low ts ≡ true
    → locate_from s T last ts ≡ all_alone s T ts
unfolding locate_from all_alone
run_alone s T [] last low R c = refl
run_alone s T (t ∷ ts) last low R c =
    let E = one_entry s T last low t (slot_at T.base T.slots t) (first_climbs low t ts c) R in
    then_alone (λ l. locate_from s T l ts) _ (alone_at s T t) (all_alone s T ts) E.same
    (λ r e. run_alone s T ts r.last t (E.ready r e) (rest_climbs low t ts c))

-- ---- the whole operation

pub locates_alone : (s : List ℕ) (T : Tables) (ts : List ℕ) → climbs 0 ts ≡ true → locate_all s T ts ≡ all_alone s T ts
unfolding locate_all
locates_alone s T ts c = run_alone s T ts (zeros (pair_count T.starts)) 0 (ready_none s T 0 (pair_count T.starts)) c

-- a list of answers has that of the first entry, and those of the others
record First (a : Option ℕ) (q : Option (List ℕ)) (xs : List ℕ) : Type 0 where
  answer : ℕ
  others : List ℕ
  first : a ≡ Some answer
  rest : q ≡ Some others
  is : xs ≡ answer ∷ others

first_of_list : (a : Option ℕ) (q : Option (List ℕ)) (xs : List ℕ) → together a q ≡ Some xs → First a q xs
first_of_list None q xs e = absurd (let z : ◌≡◌ {A = ℕ} 0 1 = cc in omega arith)
first_of_list (Some a) None xs e = absurd (let z : ◌≡◌ {A = ℕ} 0 1 = cc in omega arith)
first_of_list (Some a) (Some ys) xs e = record { answer = a; others = ys; first = refl; rest = refl; is = cc }

pub each_alone : (s : List ℕ) (T : Tables) (ts xs : List ℕ) → all_alone s T ts ≡ Some xs → (k : ℕ) → k < length ts
    → alone_at s T (get_or ts k 0) ≡ Some (get_or xs k 0)
unfolding all_alone
each_alone s T [] xs e k h = absurd (omega arith)
each_alone s T (t ∷ ts) xs e zero h =
    let F = first_of_list (alone_at s T t) (all_alone s T ts) xs e in
    rw F.is F.first
each_alone s T (t ∷ ts) xs e (suc k) h =
    let F = first_of_list (alone_at s T t) (all_alone s T ts) xs e in
    rw F.is (each_alone s T ts F.others F.rest k (omega arith))

-- each has a known answer
pub known_alone : (s : List ℕ) (T : Tables) (f : ℕ → ℕ) → ((t : ℕ) → alone_at s T t ≡ Some (f t)) → (ts : List ℕ) → all_alone s T ts ≡ Some (map f ts)
unfolding all_alone
known_alone s T f e [] = refl
known_alone s T f e (t ∷ ts) = rw (e t, known_alone s T f e ts)

-- a list with one entry
pub one_alone : (s : List ℕ) (T : Tables) (t : ℕ) → locate_all s T (t ∷ []) ≡ together (alone_at s T t) (Some [])
unfolding climbs all_alone
one_alone s T t = locates_alone s T (t ∷ []) (rw (le-leb 0 t (omega arith)))

-- ---- a turn of a run that goes onward, with words of its own

module _ (s : List ℕ) (T : Tables) (t : ℕ) (ts last last' : List ℕ) (O : Onward s T last (t ∷ ts)) (keeps : ReadyOn s T t last last') where
  pub onward_on : Onward s T last' ts
  onward_on = record {
    low = t;
    ready = keeps O.low (first_climbs O.low t ts O.climbs) O.ready;
    climbs = rest_climbs O.low t ts O.climbs;
  }

  pub onward_turn : (a : ℕ) → Some a ≡ answer_of (answered_at s T last t) → locate_from s T last (t ∷ ts) ≡ cons_to a (locate_from s T last' ts)
  unfolding all_alone
  onward_turn a e =
      let E = one_entry s T last O.low t (slot_at T.base T.slots t) (first_climbs O.low t ts O.climbs) O.ready in
      let N : Onward s T last' ts = onward_on in
      run_alone s T (t ∷ ts) last O.low O.ready O.climbs
      ∙ ap (λ (x : Option ℕ). together x (all_alone s T ts)) (sym (e ∙ E.same))
      ∙ ap (cons_to a) (sym (run_alone s T ts last' N.low N.ready N.climbs))

-- nothing is noted yet
pub onward_first : (s : List ℕ) (T : Tables) (ts last : List ℕ) (n : ℕ) → last ≡ zeros n → climbs 0 ts ≡ true → Onward s T last ts
onward_first s T ts last n e c = record { low = 0; ready = rw e (ready_none s T 0 n); climbs = c }
