-- The class data items, one after another or by the class definitions: each loop's step goes on from what the step before it left.
-- Assumes nothing.
use Rattle.std.specs.Prelude.{Result, Ok, Err}
use Prim.Native.Nat.{ℕ, zero, suc, ◌+◌, ◌*◌, ◌-◌, ◌<◌, ◌≤◌}
use native.Mathlib.Omega.{arith}
use mathlib.Core.Path.{◌≡◌, ap, subst, ◌∙◌}
use mathlib.Core.List.{List}
use lib.ListN.{length}
use borrow.Author.Tests.{le-leb, lt-leb, eq-eqb, ne_eqb}
use Rattle.dalvik.specs.Numbers.{le32}
use Rattle.refusal.specs.Refusals.{largest_file}
use Rattle.refusal.specs.declared.Refusal.{Refusal}
use Rattle.refusal.specs.declared.Refusal.TheVariants.{TableOutside}
use Rattle.class_data.specs.Walk.{Walk, and_on, class_data_at}
use Rattle.class_data.specs.Walk.Walk.{refused}
use Rattle.structs.proofs.Laws.{Word}
use Rattle.class_data.specs.Codes.{successive, defined}
use Rattle.class_data.specs.Stored.{CodeWords}
use Rattle.class_data.specs.Steps.{Kept, kept, Left, stored, seen, DefinedOn, OneDefined}
use Rattle.class_data.specs.Steps.Left.{refusal, left}
use Rattle.class_data.specs.declared.parse.Walked.{Walked}
use Rattle.class_data.proofs.Kept.{stored_on, stored_none, stored_refused, refused_stored, Turn, turn, SameLengths, same_on}
use Rattle.class_data.proofs.OneItem.{class_few}

-- ---- the items of a map entry
module _ (s : List ℕ) (m i : ℕ) (x : Kept) {d : Left} where
  pub successive_again : (n k : ℕ) {e : ℕ} {y : Kept} → n ≡ suc k → left e y ≡ stored x (class_data_at s m i)
      → stored x (successive n s m i) ≡ d → stored y (successive k s m e) ≡ d
  unfolding successive
  successive_again n k {e} {y} z h q = stored_on x (class_data_at s m i) (λ a. successive k s m a) e y h ∙ rw z at q

  pub successive_no : (n : ℕ) {r : Refusal} → 0 < n → refusal r ≡ stored x (class_data_at s m i)
      → stored x (successive n s m i) ≡ d → refusal r ≡ d
  unfolding successive
  successive_no zero z h q = absurd (omega arith)
  successive_no (suc n) {r} z h q =
      refused_stored x _ r (ap (λ (w : Walk). and_on w (λ a. successive n s m a)) (stored_refused x (class_data_at s m i) r h)) ∙ q

  pub successive_end : (n : ℕ) → n ≤ 0 → stored x (successive n s m i) ≡ d → left i x ≡ d
  unfolding successive
  successive_end zero z q = stored_none x i ∙ q
  successive_end (suc n) z q = absurd (omega arith)

-- the loop begins at the entry's words
pub by_words : (s : List ℕ) (m : ℕ) {n i n' i' : ℕ} (x : Kept) → n ≡ n' → i ≡ i' → stored x (successive n s m i) ≡ stored x (successive n' s m i')
by_words s m x a b = λ j. stored x (successive (a j) s m (b j))

-- what is left to walk is what was to be walked from the start; an item has fewer codes than the file has bytes
pub record ByMap (s : List ℕ) (m : ℕ) (from at : Turn) : Type 0 where
  pub rest : stored at.held (successive at.togo s m at.pos) ≡ stored from.held (successive from.togo s m from.pos)
  pub most : at.togo ≤ from.togo
  pub few : at.held.count ≤ largest_file * (from.togo - at.togo)
  pub same : SameLengths from.held.words at.held.words

module _ {s : List ℕ} {m : ℕ} {from at : Turn} (x : ByMap s m from at) (small : length s ≤ largest_file) where
  -- a turn of the loop
  pub bymap_again : (k : ℕ) → at.togo ≡ suc k → {e : ℕ} {y : Kept} → left e y ≡ stored at.held (class_data_at s m at.pos)
      → SameLengths at.held.words y.words → ByMap s m from (turn k e y)
  bymap_again k z {e} {y} h l =
      let f = class_few s m at.pos at.held h in
      record {
        rest = successive_again s m at.pos at.held at.togo k z h x.rest;
        most = omega arith;
        few = omega arith;
        same = same_on x.same l;
      }

-- ---- a class definition
module _ (s : List ℕ) (m i : ℕ) (x : Kept) where
  pub def_outside : (after : CodeWords) → length s < i + 24 + 4 → OneDefined s m i x (Err TableOutside) after
  unfolding OneDefined defined
  def_outside after q =
      let p : length s < i + 28 = omega arith in
      λ n. rw (lt-leb _ _ p)

  module _ {v : ℕ} (word : Word s (i + 24) v 4 (le32 s (i + 24))) where
    abbrev def_fits : i + 28 ≤ length s
    def_fits = omega (arith, word.inside)

    def_skips : v ≡ 0 → (n : ℕ) → defined n s m (i + 32) ≡ defined (suc n) s m i
    unfolding defined
    def_skips z n = rw (le-leb _ _ def_fits, ← word.is, eq-eqb _ _ z)

    def_walks : (v ≡ 0 → ⊥) → (n : ℕ) → and_on (class_data_at s m v) (λ e. defined n s m (i + 32)) ≡ defined (suc n) s m i
    unfolding defined
    def_walks z n = rw (le-leb _ _ def_fits, ← word.is, ne_eqb _ _ z)

    pub def_none : (e : ℕ) → v ≡ 0 → OneDefined s m i x (Ok (record { next = e; count = x.count })) x.words
    unfolding OneDefined
    def_none e z = record { rest = λ n. ap (stored x) (def_skips z n); few = omega arith }

    pub def_some : (r : Result Walked Refusal) (after : CodeWords) → (v ≡ 0 → ⊥) → seen r after ≡ stored x (class_data_at s m v) → OneDefined s m i x r after
    unfolding OneDefined seen
    def_some (Ok y) after z h =
        record {
          rest = λ n. stored_on x (class_data_at s m v) (λ a. defined n s m (i + 32)) y.next (kept y.count after) h ∙ ap (stored x) (def_walks z n);
          few = class_few s m v x h;
        }
    def_some (Err y) after z h =
        λ n. ap (λ (a : Walk). and_on a (λ e. defined n s m (i + 32))) (stored_refused x (class_data_at s m v) y h) ∙ def_walks z n

module _ (s : List ℕ) (m i : ℕ) (x : Kept) (r : Result Walked Refusal) (after : CodeWords) (q : OneDefined s m i x r after) where
  pub def_told : {y : Walked} → r ≡ Ok y → DefinedOn s m i x (kept y.count after)
  unfolding OneDefined
  def_told h = subst (λ (z : Result Walked Refusal). OneDefined s m i x z after) h q

  pub def_refused : {y : Refusal} → r ≡ Err y → (n : ℕ) → refused y ≡ defined (suc n) s m i
  unfolding OneDefined
  def_refused h = subst (λ (z : Result Walked Refusal). OneDefined s m i x z after) h q

module _ (s : List ℕ) (m i : ℕ) (x : Kept) {d : Left} where
  pub defined_again : (n k : ℕ) {y : Kept} → n ≡ suc k → DefinedOn s m i x y → stored x (defined n s m i) ≡ d → stored y (defined k s m (i + 32)) ≡ d
  defined_again n k z h q = h.rest k ∙ rw z at q

  pub defined_no : (n : ℕ) {r : Refusal} → 0 < n → ((n : ℕ) → refused r ≡ defined (suc n) s m i)
      → stored x (defined n s m i) ≡ d → refusal r ≡ d
  defined_no zero z h q = absurd (omega arith)
  defined_no (suc n) {r} z h q = refused_stored x _ r (h n) ∙ q

  pub defined_end : (n : ℕ) → n ≤ 0 → stored x (defined n s m i) ≡ d → left i x ≡ d
  unfolding defined
  defined_end zero z q = stored_none x i ∙ q
  defined_end (suc n) z q = absurd (omega arith)

-- what is left to walk is what was to be walked from the start
pub record ByDef (s : List ℕ) (m : ℕ) (from at : Turn) : Type 0 where
  pub rest : stored at.held (defined at.togo s m at.pos) ≡ stored from.held (defined from.togo s m from.pos)
  pub most : at.togo ≤ from.togo
  pub place : at.pos ≡ from.pos + 32 * (from.togo - at.togo)
  pub few : at.held.count ≤ largest_file * (from.togo - at.togo)
  pub same : SameLengths from.held.words at.held.words

pub bydef_again : {s : List ℕ} {m : ℕ} {from at : Turn} → ByDef s m from at → length s ≤ largest_file → (k : ℕ) → at.togo ≡ suc k
    → {y : Kept} → DefinedOn s m at.pos at.held y → SameLengths at.held.words y.words
    → ByDef s m from (turn k (at.pos + 32) y)
bydef_again {s} {m} {from} {at} x small k z g l = record {
  rest = defined_again s m at.pos at.held at.togo k z g x.rest;
  most = omega arith;
  place = omega arith;
  few = omega arith;
  same = same_on x.same l;
}
