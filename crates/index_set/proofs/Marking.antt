-- A set collected in marks and in a rising list: what is marked counts as still to come, so that the list is one that is being collected
-- (`Collected`). A word that is marked goes from one part of what is to come into the other; at the end the marks join the list.
--     mark_start, mark_pass, mark_add, mark_full, mark_all, mark_all_full, mark_end
-- Assumes nothing.
use Rattle.std.specs.Prelude.{Option, Some, None}
use Prim.Native.Nat.{ℕ, ◌≤◌, ◌<◌}
use native.Mathlib.Omega.{arith}
use mathlib.Core.Path.{◌≡◌, refl, sym, subst, ◌∙◌}
use mathlib.Core.Bool.{Bool, true, false, ◌&&◌}
use mathlib.Core.Logic.{◌⊎◌, inl, inr, ⊎_elim}
use mathlib.Core.List.{List, [], ◌∷◌}
use lib.ListN.{length, length-replicate}
use lib.Dec.{eqb}
use borrow.Author.Tests.{eq-eqb, eqb-true}
use Rattle.words.specs.Padded.{zeros}
use Rattle.words.proofs.Shared.{case, or_right}
use Rattle.word_set.specs.Sets.{In, SetOf, Joins}
use Rattle.word_set.specs.Steps.{Matched}
use Rattle.word_set.proofs.Sets.{in_none, in_here, in_cons, in_cases}
use Rattle.word_set.proofs.Collected.{Collected, collect_start, collect_pass, collect_insert, collect_full, held_length}
use Rattle.word_set.proofs.Joins.{joins_collected}
use Rattle.index_set.specs.Bits.{is_held, Adds, indices}
use Rattle.index_set.proofs.Bits.{indices_set, held_zeros}
use Rattle.index_set.specs.Marked.{SetWords, set_words, Added, marked, inserted, AddedAll, none, next, stop}
use Rattle.index_set.specs.Steps.{Blank}

-- x is marked, or still to come
abbrev pub Pending : List ℕ → (ℕ → Type 0) → ℕ → Type 0
Pending marks Q x = (is_held marks x ≡ true) ⊎ Q x

-- the set P, of which Q is still to come
pub record Marking (P Q : ℕ → Type 0) (room n : ℕ) (w : SetWords) : Type 0 where
  pub collected : Collected P (Pending w.marks Q) room n w.words
  pub few : length w.marks ≤ 67108864

never : {A : Type 0} (b : Bool) → b ≡ true → b ≡ false → A
never b t f = absurd (let z : ◌≡◌ {A = ℕ} 0 1 = cc in omega arith)

-- an index added to marks, or not
module _ {x : ℕ} {marks marks' : List ℕ} where
  pub kept : (r : Bool) → Adds x marks marks' r → (y : ℕ) → is_held marks y ≡ true → is_held marks' y ≡ true
  kept r a y t = a.held y ∙ rw t

  pub was : (r : Bool) → Adds x marks marks' r → (y : ℕ) → is_held marks' y ≡ true → (is_held marks y ≡ true) ⊎ (y ≡ x)
  was r a y t =
      ⊎_elim (λ (h : is_held marks y ≡ true). inl h) (λ (h : is_held marks y ≡ false). inr (eqb-true y x (other r (rw h at (sym (a.held y) ∙ t)))))
      (case (is_held marks y))
    where
      other : (b : Bool) → (b && eqb y x) ≡ true → eqb y x ≡ true
      other true e = e
      other false e = never false e refl

  pub was_false : Adds x marks marks' false → (y : ℕ) → is_held marks' y ≡ true → is_held marks y ≡ true
  was_false a y t =
      ⊎_elim (λ (h : is_held marks y ≡ true). h) (λ (h : is_held marks y ≡ false). never false (rw h at (sym (a.held y) ∙ t)) refl)
      (case (is_held marks y))

  pub is : Adds x marks marks' true → is_held marks' x ≡ true
  is a = a.held x ∙ or_right (is_held marks x) (true && eqb x x) (eq-eqb x x refl)

module _ {P : ℕ → Type 0} {room : ℕ} where
  pub mark_start : {marks : List ℕ} (out : List ℕ) → Blank marks → out ≡ zeros room → Marking P P room 0 (set_words marks out)
  mark_start {marks} out b z =
      let c : Collected P P room 0 out = collect_start out z in
      record {
        collected = record {
          kept = c.kept;
          sound = c.sound;
          rest = λ x q. ⊎_elim (λ (t : is_held marks x ≡ true). never (is_held marks x) t (b.none x)) (λ (p : P x). p) q;
          complete = λ x p. inr (inr p);
        };
        few = b.few;
      }

  module _ {Q Q' : ℕ → Type 0} {n : ℕ} {w : SetWords} (c : Marking P Q room n w) (less : (y : ℕ) → Q' y → Q y) where
    -- nothing joined
    pub mark_pass : ((y : ℕ) → Q y → Q' y) → {m : ℕ} {after : SetWords} {r : (Option ℕ)} → after ≡ w → r ≡ Some n → r ≡ Some m
        → Marking P Q' room m after
    mark_pass same {m} e a h =
        subst (Marking P Q' room m) (sym e)
        record {
          collected = collect_pass c.collected (λ y q. ⊎_elim (λ (t : is_held w.marks y ≡ true). inl t) (λ (k : Q' y). inr (less y k)) q)
              (λ y q. ⊎_elim (λ (t : is_held w.marks y ≡ true). inl t) (λ (k : Q y). inr (same y k)) q) refl a h;
          few = c.few;
        }

    module _ {x : ℕ} (now : Q x) {after : SetWords} {r : (Option ℕ)} where
      pub mark_add : (m : ℕ) → ((y : ℕ) → Q y → (y ≡ x) ⊎ Q' y) → Added x n w after r → r ≡ Some m → Marking P Q' room m after
      mark_add m one (marked a s h) e = record {
        collected = collect_pass c.collected
            (λ y q. ⊎_elim (λ (t : is_held after.marks y ≡ true). ⊎_elim (λ (k : is_held w.marks y ≡ true). inl k)
            (λ (d : y ≡ x). inr (subst Q (sym d) now)) (was true a y t)) (λ (k : Q' y). inr (less y k)) q)
            (λ y q. ⊎_elim (λ (t : is_held w.marks y ≡ true). inl (kept true a y t))
            (λ (k : Q y). ⊎_elim (λ (d : y ≡ x). inl (subst (λ (z : ℕ). is_held after.marks z ≡ true) (sym d) (is a))) (λ (k' : Q' y). inr k')
            (one y k)) q) s h e;
        few = omega (arith, a.long, c.few);
      }
      mark_add m one (inserted a i) e = record {
        collected =
            collect_insert c.collected
            (λ y q. ⊎_elim (λ (t : is_held after.marks y ≡ true). inl (was_false a y t)) (λ (k : Q' y). inr (less y k)) q) x (inr now)
            after.words r i m
            (λ y q. ⊎_elim (λ (t : is_held w.marks y ≡ true). inr (inl (kept false a y t)))
            (λ (k : Q y). ⊎_elim (λ (d : y ≡ x). inl d) (λ (k' : Q' y). inr (inr k')) (one y k)) q) e;
        few = omega (arith, a.long, c.few);
      }

  module _ {Q : ℕ → Type 0} {n : ℕ} {w : SetWords} (c : Marking P Q room n w) where
    pub mark_full : {x : ℕ} (now : Q x) {after : SetWords} {r : (Option ℕ)} → Added x n w after r → r ≡ None → (l : List ℕ) → SetOf P l
        → room < length l
    mark_full now {r = r} (marked a s h) e = absurd (let z : ◌≡◌ {A = ℕ} 0 1 = cc in omega arith)
    mark_full {x} now {after} {r} (inserted a i) e = collect_full c.collected (λ y q. q) x (inr now) after.words r i e

  -- the words of a list
  pub mark_all :
      {Q Q' : ℕ → Type 0} {n : ℕ} {w after : SetWords} (c : Marking P Q room n w) (less : (y : ℕ) → Q' y → Q y) {xs : List ℕ}
      (now : (y : ℕ) → In y xs → Q y) {r : (Option ℕ)} (m : ℕ)
      → ((y : ℕ) → Q y → In y xs ⊎ Q' y) → AddedAll xs n w after r → r ≡ Some m → Marking P Q' room m after
  mark_all {Q} {Q'} c less now m one none e =
      mark_pass c less (λ y q. ⊎_elim (λ (i : In y []). absurd (in_none i)) (λ (k : Q' y). k) (one y q)) refl refl e
  mark_all {Q} {Q'} c less now m one (next {x} {n} {k} {xs} a j) e =
      mark_all
      (mark_add c (λ y q. ⊎_elim (λ (i : In y xs). now y (in_cons x i)) (λ (h : Q' y). less y h) q) (now x (in_here x xs)) k
      (λ y q. ⊎_elim (λ (i : In y (x ∷ xs)). ⊎_elim (λ (d : y ≡ x). inl d) (λ (h : In y xs). inr (inl h)) (in_cases i)) (λ (h : Q' y). inr (inr h))
      (one y q)) a refl)
      (λ y h. inr h) (λ y i. inl i) m (λ y q. q) j e
  mark_all c less now m one (stop a) e = absurd (let z : ◌≡◌ {A = ℕ} 0 1 = cc in omega arith)

  pub mark_all_full :
      {Q : ℕ → Type 0} {n : ℕ} {w after : SetWords} (c : Marking P Q room n w) {xs : List ℕ} (now : (y : ℕ) → In y xs → Q y) {r : (Option ℕ)}
      → AddedAll xs n w after r → r ≡ None → (l : List ℕ) → SetOf P l → room < length l
  mark_all_full c now none e = absurd (let z : ◌≡◌ {A = ℕ} 0 1 = cc in omega arith)
  mark_all_full {Q} c now (next {x} {n} {k} {xs} a j) e =
      mark_all_full (mark_add c (λ y q. q) (now x (in_here x xs)) k (λ y q. inr q) a refl) (λ y i. now y (in_cons x i)) j e
  mark_all_full c now (stop {x} {n} {xs} a) e = mark_full c (now x (in_here x xs)) a refl

  pub mark_length : {Q : ℕ → Type 0} {n : ℕ} {w : SetWords} → Marking P Q room n w → length w.words ≡ room
  mark_length c = held_length c.collected

-- nothing is to come but what is marked, which joins
pub mark_end : {P Q : ℕ → Type 0} {n : ℕ} (before : List ℕ) {w : SetWords} {after : List ℕ} {r : (Option ℕ)} → Marking P Q (length before) n w
    → ((y : ℕ) → Q y → ⊥)
    → Joins (indices w.marks) n w.words after r → Matched P before after r
mark_end {P} {Q} {n} before {w} c over j =
    let s = indices_set w.marks c.few in
    joins_collected before
    (collect_pass c.collected (λ y i. inl (s.sound y i))
    (λ y q. ⊎_elim (λ (t : is_held w.marks y ≡ true). s.complete y t) (λ (k : Q y). absurd (over y k)) q) {m = n} {after = w.words} {r = Some n}
    refl refl refl) j

-- a table of zeros
pub blank : (n : ℕ) → n ≤ 67108864 → Blank (zeros n)
blank n h = record { none = held_zeros n; few = omega (arith, length-replicate {A = ℕ} n 0) }
