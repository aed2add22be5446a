-- Laws of start words, which open their definitions; nothing else does.
--     pair_there, pair_missing, pair_inside   a pair read
--     first_all, first_padded                 those of the first methods
--     with_there, with_missing, length_with, array_same, array_other    an array stored
--     pair_padded, with_padded                in a list with zeros after it
--     length_none, count_none, none_padded    methods without code
-- Assumes nothing.
use Rattle.std.specs.Prelude.{None, Some}
use Prim.Native.Nat.{ℕ, ◌+◌, ◌-◌, ◌*◌, ◌<◌, ◌≤◌}
use native.Mathlib.Omega.{arith}
use mathlib.Core.Path.{◌≡◌, refl, sym, ◌∙◌, ap, ap₂}
use mathlib.Core.Logic.{◌≢◌, ⊎_elim}
use mathlib.Core.Bool.{Bool, true, false}
use mathlib.Core.List.{List}
use lib.Dec.{ltb}
use lib.ListN.{length, get_or, set, length-set, length-replicate}
use lib.Seq.{get_or-set_same, get_or-set_other, take_at, take_all}
use borrow.Author.Tests.{lt-ltb, le-ltb, ltb-true, ltb-false}
use Rattle.words.specs.Padded.{zeros, padded}
use Rattle.words.proofs.Padded.{padded_longer, padded_at, padded_set, padded_zeros}
use Rattle.words.proofs.Shared.{case}
use Rattle.start_words.specs.Starts.{pairs_in, pair_count, pair, pair_of, first_starts, with_array, no_starts}
use Rattle.start_words.specs.declared.Pair.{Pair}

-- ---- a pair read
module _ (ws : List ℕ) (m : ℕ) where
  pub pair_there : m < pair_count ws → pair_of ws m ≡ Some (pair (get_or ws (2 * m) 0) (get_or ws (2 * m + 1) 0))
  unfolding pair_of
  pair_there h = rw (lt-ltb m (pair_count ws) h)

  pub pair_missing : pair_count ws ≤ m → pair_of ws m ≡ None
  unfolding pair_of
  pair_missing h = rw (le-ltb m (pair_count ws) h)

  inside_by : (b : Bool) → ltb m (pair_count ws) ≡ b → (a : Pair) → pair_of ws m ≡ Some a → m < pair_count ws
  inside_by true t a e = ltb-true m (pair_count ws) t
  inside_by false t a e = absurd (let f = pair_missing (ltb-false m (pair_count ws) t) in let z : ◌≡◌ {A = ℕ} 0 1 = cc in omega arith)

  pub pair_inside : (a : Pair) → pair_of ws m ≡ Some a → m < pair_count ws
  pair_inside a e = inside_by (ltb m (pair_count ws)) refl a e

-- two lists with as many pairs, and the same two words
same_pair : (ws vs : List ℕ) (m : ℕ) → length vs ≡ length ws → get_or vs (2 * m) 0 ≡ get_or ws (2 * m) 0
    → get_or vs (2 * m + 1) 0 ≡ get_or ws (2 * m + 1) 0 → pair_of vs m ≡ pair_of ws m
unfolding pair_of
same_pair ws vs m l p q = rw (l, p, q)

pub pair_padded : (ws : List ℕ) (m n : ℕ) (a : Pair) → pair_of ws m ≡ Some a → pair_of (padded n ws) m ≡ Some a
pair_padded ws m n a e =
    let h : m < pair_count ws = pair_inside ws m a e in
    pair_there (padded n ws) m (omega (arith, padded_longer n ws))
    ∙ ap₂ (λ (x y : ℕ). Some (pair x y)) (padded_at n ws (2 * m)) (padded_at n ws (2 * m + 1))
    ∙ sym (pair_there ws m h) ∙ e

module _ (n : ℕ) (ws : List ℕ) where
  pub first_all : length ws ≤ 2 * n → first_starts n ws ≡ ws
  unfolding first_starts
  first_all h = take_all (2 * n) ws h

  pub first_padded : (k : ℕ) → length ws ≡ 2 * n → first_starts n (padded k ws) ≡ ws
  unfolding first_starts padded
  first_padded k h = take_at ws (zeros (k - length ws)) (2 * n) h

-- ---- an array stored
module _ (ws : List ℕ) (m a e : ℕ) where
  pub with_there : m < pair_count ws → with_array ws m a e ≡ set (set ws (2 * m) a) (2 * m + 1) e
  unfolding with_array
  with_there h = rw (lt-ltb m (pair_count ws) h)

  pub with_missing : pair_count ws ≤ m → with_array ws m a e ≡ ws
  unfolding with_array
  with_missing h = rw (le-ltb m (pair_count ws) h)

  length_set_two : length (set (set ws (2 * m) a) (2 * m + 1) e) ≡ length ws
  length_set_two = length-set (set ws (2 * m) a) (2 * m + 1) e ∙ length-set ws (2 * m) a

  pub length_with : length (with_array ws m a e) ≡ length ws
  length_with =
      ⊎_elim
      (λ (t : ltb m (pair_count ws) ≡ true). ap length (with_there (ltb-true m (pair_count ws) t)) ∙ length_set_two)
      (λ (t : ltb m (pair_count ws) ≡ false). ap length (with_missing (ltb-false m (pair_count ws) t)))
      (case (ltb m (pair_count ws)))

  pub array_same : m < pair_count ws → pair_of (with_array ws m a e) m ≡ Some (pair a e)
  array_same h =
      rw (with_there h)
      (pair_there (set (set ws (2 * m) a) (2 * m + 1) e) m (omega (arith, length_set_two))
      ∙ ap₂ (λ (x y : ℕ). Some (pair x y))
      (get_or-set_other (set ws (2 * m) a) (2 * m + 1) (2 * m) e 0 (λ z. omega arith) ∙ get_or-set_same ws (2 * m) a 0 (omega arith))
      (get_or-set_same (set ws (2 * m) a) (2 * m + 1) e 0 (omega (arith, length-set ws (2 * m) a))))

  -- a word other than its two
  other_word : (i : ℕ) → i ≢ 2 * m → i ≢ 2 * m + 1 → get_or (set (set ws (2 * m) a) (2 * m + 1) e) i 0 ≡ get_or ws i 0
  other_word i p q = get_or-set_other (set ws (2 * m) a) (2 * m + 1) i e 0 q ∙ get_or-set_other ws (2 * m) i a 0 p

  pub array_other : (k : ℕ) → k ≢ m → pair_of (with_array ws m a e) k ≡ pair_of ws k
  array_other k n =
      ⊎_elim
      (λ (t : ltb m (pair_count ws) ≡ true).
      rw (with_there (ltb-true m (pair_count ws) t))
      (same_pair ws (set (set ws (2 * m) a) (2 * m + 1) e) k length_set_two
      (other_word (2 * k) (λ z. n (omega arith)) (λ z. omega arith))
      (other_word (2 * k + 1) (λ z. omega arith) (λ z. n (omega arith)))))
      (λ (t : ltb m (pair_count ws) ≡ false). ap (λ (l : List ℕ). pair_of l k) (with_missing (ltb-false m (pair_count ws) t)))
      (case (ltb m (pair_count ws)))

pub with_padded : (ws : List ℕ) (m a e n : ℕ) → m < pair_count ws → with_array (padded n ws) m a e ≡ padded n (with_array ws m a e)
with_padded ws m a e n h =
    with_there (padded n ws) m a e (omega (arith, padded_longer n ws))
    ∙ ap (λ (l : List ℕ). set l (2 * m + 1) e) (padded_set n ws (2 * m) a (omega arith))
    ∙ padded_set n (set ws (2 * m) a) (2 * m + 1) e (omega (arith, length-set ws (2 * m) a))
    ∙ ap (padded n) (sym (with_there ws m a e h))

pub length_none : (n : ℕ) → length (no_starts n) ≡ 2 * n
unfolding no_starts
length_none n = length-replicate {A = ℕ} (2 * n) 0

pub count_none : (n : ℕ) → pair_count (no_starts n) ≡ n
count_none n = omega (arith, length_none n)

pub none_padded : (n m : ℕ) → m ≤ pairs_in n → padded n (no_starts m) ≡ zeros n
unfolding no_starts
none_padded n m h = padded_zeros n (2 * m) (omega arith)
