-- Words that join one after another: what is still to join leads from here to the same marks, words and answer as the whole list from the
-- beginning.
-- Assumes nothing.
use Rattle.std.specs.Prelude.{Option, Some, None}
use Prim.Native.Nat.{ℕ, ◌+◌, ◌≤◌, ◌<◌}
use native.Mathlib.Omega.{arith}
use native.Mathlib.Numerals.{add-one}
use mathlib.Core.Path.{◌≡◌, refl, sym, subst}
use mathlib.Core.List.{List, ◌∷◌}
use lib.ListN.{length, get_or, drop, drop_of_length-le}
use lib.Seq.{drop-cons}
use Rattle.index_set.specs.Marked.{SetWords, Added, AddedAll, none, next, stop}

pub record Walking (start : SetWords) (n : ℕ) (more : List ℕ) (here : SetWords) (held i : ℕ) : Type 0 where
  pub inside : i ≤ length more
  pub marks_long : length here.marks ≡ length start.marks
  pub words_long : length here.words ≡ length start.words
  pub toward : (u : SetWords) (r : Option ℕ) → AddedAll (drop i more) held here u r → AddedAll more n start u r

pub walk_start : (start : SetWords) (n : ℕ) (more : List ℕ) → Walking start n more start n 0
walk_start start n more = record { inside = omega arith; marks_long = refl; words_long = refl; toward = λ u r a. a }

module _ {start : SetWords} {n : ℕ} {more : List ℕ} {here : SetWords} {held i : ℕ} (w : Walking start n more here held i) where
  pub walk_end : length more ≤ i → AddedAll more n start here (Some held)
  walk_end h = w.toward here (Some held) (subst (λ (l : List ℕ). AddedAll l held here here (Some held)) (sym (drop_of_length-le more h)) none)

  module _ (h : i < length more) {after : SetWords} {r : (Option ℕ)} (a : Added (get_or more i 0) held here after r) where
    split : drop i more ≡ get_or more i 0 ∷ drop (i + 1) more
    split = rw add-one (drop-cons more i 0 h)

    first : {q : (Option ℕ)} → r ≡ q → Added (get_or more i 0) held here after q
    first e = subst (Added (get_or more i 0) held here after) e a

    pub walk_next : (m : ℕ) → r ≡ Some m → length after.marks ≡ length here.marks → length after.words ≡ length here.words
        → Walking start n more after m (i + 1)
    walk_next m e l k = record {
      inside = omega arith;
      marks_long = omega (arith, w.marks_long);
      words_long = omega (arith, w.words_long);
      toward = λ u q b. w.toward u q (subst (λ (l : List ℕ). AddedAll l held here u q) (sym split) (next (first e) b));
    }

    pub walk_full : r ≡ None → AddedAll more n start after None
    walk_full e = w.toward after None (subst (λ (l : List ℕ). AddedAll l held here after None) (sym split) (stop (first e)))
