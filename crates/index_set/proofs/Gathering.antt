-- Indices that join one after another: an insertion takes the first of those still to join, and an index that isn't held takes none.
--     gathered    for a caller: the set joins a rising list
-- Assumes nothing.
use Rattle.std.specs.Prelude.{Option, Some, None}
use Prim.Native.Nat.{ℕ, ◌+◌, ◌-◌, ◌*◌, ◌/◌, ◌%◌, ◌^◌, ◌≤◌, ◌<◌, min}
use native.Mathlib.Omega.{arith}
use native.Mathlib.Nat.{div-one}
use mathlib.Core.Path.{◌≡◌, refl, ap, sym, subst, ◌∙◌}
use mathlib.Core.Bool.{true}
use mathlib.Core.List.{List, ◌∷◌, ◌++◌}
use lib.ListN.{length, get_or}
use borrow.Author.Tests.{eq-eqb, ne_eqb}
use Rattle.word_set.specs.Sets.{Inserts, Joins, none, next, stop}
use Rattle.word_set.specs.Steps.{Matched}
use Rattle.word_set.proofs.Joins.{Holding, HeldOr, joins_append, joins_full, joins_matched}
use Rattle.index_set.specs.Bits.{is_held, held_from, indices}
use Rattle.index_set.proofs.Bits.{indices_set, held_one, held_none, held_empty, held_split, bit_here, bit_next, bits_done, bits_left}

-- lent words, and how many of them are held
pub record Front : Type 0 where
  pub words : List ℕ
  pub held : ℕ

abbrev pub front : List ℕ → ℕ → Front
front out n = record { words = out; held = n }

-- what joins from here on leads to the same words and answer as the whole from the beginning
abbrev pub Toward : List ℕ → Front → List ℕ → Front → Type 0
Toward rest here whole start = (u : List ℕ) (r : Option ℕ) → Joins rest here.held here.words u r → Joins whole start.held start.words u r

toward_same : {whole a b : List ℕ} {start here : Front} → a ≡ b → Toward a here whole start → Toward b here whole start
toward_same {here = here} e t u r j = t u r (subst (λ (l : List ℕ). Joins l here.held here.words u r) (sym e) j)

-- a word's bits from x on
pub record Midway (bits : List ℕ) (i : ℕ) (start here : Front) (w x : ℕ) : Type 0 where
  pub low : 64 * i ≤ x
  pub high : x ≤ 64 * i + 64
  pub is : w ≡ get_or bits i 0 / 2 ^ (x - 64 * i)
  pub rest : Toward (held_from (64 * i + 64 - x) bits x) here (held_from 64 bits (64 * i)) start
  pub long : length here.words ≡ length start.words
  pub small : get_or bits i 0 < 2 ^ 64

pub word_start : (bits : List ℕ) (i : ℕ) (start : Front) → get_or bits i 0 < 2 ^ 64 → Midway bits i start start (get_or bits i 0) (64 * i)
word_start bits i start small =
    let a : 64 * i - 64 * i ≡ 0 = omega arith in
    let b : 64 * i + 64 - 64 * i ≡ 64 = omega arith in
    record { low = omega arith; high = omega arith; is = rw a (sym (div-one (get_or bits i 0))); rest = rw b (λ u r j. j); long = refl; small = small }

module _ {bits : List ℕ} {i : ℕ} {start here : Front} {w x : ℕ} (m : Midway bits i start here w x) where
  -- no bit is left
  pub word_done : w ≡ 0 → Joins (held_from 64 bits (64 * i)) start.held start.words here.words (Some here.held)
  word_done z =
      let e : x + (64 * i + 64 - x) ≡ 64 * i + 64 = omega (arith, m.high) in
      m.rest here.words (Some here.held)
      (subst (λ (l : List ℕ). Joins l here.held here.words here.words (Some here.held))
      (sym (held_empty bits (64 * i + 64 - x) x (λ y l h. bits_done bits i x w m.low m.is z y l (omega arith)))) none)

  module _ (left : w ≡ 0 → ⊥) where
    pub room : x < 64 * i + 64
    room = bits_left bits i x w m.low m.is m.high m.small left

    onward : 64 * i + 64 - x - 1 ≡ 64 * i + 64 - (x + 1)
    onward = omega arith

    next_word : {k held' : ℕ} {v out' : List ℕ} → Toward (held_from (64 * i + 64 - x - 1) bits (x + 1)) (front v k) (held_from 64 bits (64 * i)) start
        → length v ≡ length start.words → out' ≡ v → held' ≡ k
        → Midway bits i start (front out' held') (w / 2) (x + 1)
    next_word t l p q =
        rw (p, q) record {
          low = omega (arith, m.low);
          high = omega (arith, room);
          is = bit_next bits i x w m.low m.is;
          rest = toward_same (ap (λ (k : ℕ). held_from k bits (x + 1)) onward) t;
          long = l;
          small = m.small;
        }

    -- x is not held
    pub word_pass : (w % 2 ≡ 1 → ⊥) → {out' : List ℕ} {held' : ℕ} → out' ≡ here.words → held' ≡ here.held
        → Midway bits i start (front out' held') (w / 2) (x + 1)
    word_pass d p q =
        next_word (toward_same
        (held_none bits (64 * i + 64 - x) x (omega (arith, room)) (bit_here bits i x w m.low m.is room ∙ ne_eqb (w % 2) 1 d)) m.rest)
        m.long p q

    module _ (one : w % 2 ≡ 1) {v : List ℕ} {r : (Option ℕ)} (s : Inserts x here.held here.words v r) where
      first : held_from (64 * i + 64 - x) bits x ≡ x ∷ held_from (64 * i + 64 - x - 1) bits (x + 1)
      first = held_one bits (64 * i + 64 - x) x (omega (arith, room)) (bit_here bits i x w m.low m.is room ∙ eq-eqb (w % 2) 1 one)

      pub word_joins : (k : ℕ) → r ≡ Some k → length v ≡ length here.words → {out' : List ℕ} {held' : ℕ} → out' ≡ v → held' ≡ k
          → Midway bits i start (front out' held') (w / 2) (x + 1)
      word_joins k e l p q =
          next_word (λ u f j. toward_same first m.rest u f (next (subst (Inserts x here.held here.words v) e s) j)) (l ∙ m.long) p q

      pub word_full : r ≡ None → Joins (held_from 64 bits (64 * i)) start.held start.words v None
      word_full e = toward_same first m.rest v None (stop (subst (Inserts x here.held here.words v) e s))

-- the words from i on
pub record Through (bits : List ℕ) (start : Front) (end : ℕ) (here : Front) (i : ℕ) : Type 0 where
  pub ends : end ≡ min (length bits) 67108864
  pub inside : i ≤ end
  pub rest : Toward (held_from (64 * (end - i)) bits (64 * i)) here (indices bits) start
  pub long : length here.words ≡ length start.words

pub all_start : (bits : List ℕ) (start : Front) (end : ℕ) → end ≡ min (length bits) 67108864 → Through bits start end start 0
all_start bits start end e =
    let z : end - 0 ≡ min (length bits) 67108864 = omega arith in record { ends = e; inside = omega arith; rest = rw z (λ u r j. j); long = refl }

-- a word without a bit
pub no_bits : (bits : List ℕ) (i : ℕ) → get_or bits i 0 ≡ 0 → (out : List ℕ) (held : ℕ) → Joins (held_from 64 bits (64 * i)) held out out (Some held)
no_bits bits i z out held = word_done (word_start bits i (front out held) (omega (arith, z))) z

module _ {bits : List ℕ} {start : Front} {end : ℕ} {here : Front} {i : ℕ} (t : Through bits start end here i) where
  pub all_done : end ≤ i → Joins (indices bits) start.held start.words here.words (Some here.held)
  unfolding held_from
  all_done l =
      let e : end - i ≡ 0 = omega arith in
      t.rest here.words (Some here.held) (rw e none)

  module _ (l : i < end) where
    split : held_from (64 * (end - i)) bits (64 * i) ≡ held_from 64 bits (64 * i) ++ held_from (64 * (end - (i + 1))) bits (64 * (i + 1))
    split =
        let a : 64 * (end - i) ≡ 64 + 64 * (end - (i + 1)) = omega arith in
        let b : 64 * i + 64 ≡ 64 * (i + 1) = omega arith in
        ap (λ (k : ℕ). held_from k bits (64 * i)) a ∙ held_split bits 64 (64 * (end - (i + 1))) (64 * i) ∙ ap
        (λ (k : ℕ). held_from 64 bits (64 * i) ++ held_from (64 * (end - (i + 1))) bits k) b

    pub all_next : {v : List ℕ} {r : (Option ℕ)} (k : ℕ) → Joins (held_from 64 bits (64 * i)) here.held here.words v r → r ≡ Some k
        → length v ≡ length here.words → {out' : List ℕ} {held' : ℕ} → out' ≡ v → held' ≡ k
        → Through bits start end (front out' held') (i + 1)
    all_next k j e f p q =
        rw (p, q) record {
          ends = t.ends;
          inside = omega arith;
          rest = λ u r a. toward_same split t.rest u r (joins_append (held_from (64 * (end - (i + 1))) bits (64 * (i + 1))) j e a);
          long = f ∙ t.long;
        }

    pub all_full : {v : List ℕ} {r : (Option ℕ)} → Joins (held_from 64 bits (64 * i)) here.held here.words v r → r ≡ None
        → Joins (indices bits) start.held start.words v None
    all_full {v} j e = toward_same split t.rest v None (joins_full (held_from (64 * (end - (i + 1))) bits (64 * (i + 1))) j e)

-- for a caller
pub gathered : (bits : List ℕ) → length bits ≤ 67108864 → {n : ℕ} {out after : List ℕ} {r : (Option ℕ)} → Holding n out
    → Joins (indices bits) n out after r
    → Matched (HeldOr n out (λ x. is_held bits x ≡ true)) out after r
gathered bits h k j = joins_matched (indices_set bits h) k j
