-- The answers of the steps, taken apart and put together: a step over one method leaves the walk over the methods after it.
-- Assumes nothing.
use Rattle.std.specs.Prelude.{Result, Ok, Err}
use Prim.Native.Nat.{ℕ, zero, suc, ◌+◌, ◌*◌, ◌-◌, ◌/◌, ◌<◌, ◌≤◌}
use native.Mathlib.Omega.{arith}
use mathlib.Core.Path.{◌≡◌, ap, subst, ◌∙◌}
use mathlib.Core.List.{List, [], ◌∷◌}
use lib.Seq.{sets}
use Rattle.start_words.specs.Starts.{with_array}
use Rattle.dalvik.specs.CodeItem.{Code}
use Rattle.refusal.specs.Refusals.{largest_file}
use Rattle.refusal.specs.declared.Refusal.{Refusal}
use Rattle.class_data.specs.Walk.{methods_from}
use Rattle.class_data.specs.Walk.Walk.{refused}
use Rattle.class_data.specs.Stored.{CodeWords, code_words, triples_of}
use Rattle.class_data.specs.Steps.{BareAt, CodedAt, Kept, kept, more, with_code, StorePre, StepPre, MethodsPre, Stepped, Onward, Left, stored}
use Rattle.class_data.specs.Steps.Left.{refusal, left}
use Rattle.class_data.specs.declared.parse.At.{At}
use Rattle.class_data.proofs.Kept.{stored_following, stored_none, refused_stored, Turn, SameLengths, same_on}

-- ---- an answer taken apart
module _ (s : List ℕ) (methods : ℕ) (a : At) (r : Result At Refusal) (before after : CodeWords) (q : Onward s methods a r before after) where
  pub step_told : {b : At} → r ≡ Ok b → Stepped s methods a b before after
  unfolding Onward
  step_told e = subst (λ (x : Result At Refusal). Onward s methods a x before after) e q

  pub step_no : {y : Refusal} → r ≡ Err y → (n : ℕ) → refused y ≡ methods_from (suc n) s methods a.pos a.idx
  unfolding Onward
  step_no e = subst (λ (x : Result At Refusal). Onward s methods a x before after) e q

-- ---- one code kept
pub store_all : (x : Kept) (m c n : ℕ) (after : CodeWords)
    → after.triples ≡ sets x.words.triples (3 * x.count) ((c + 16) / 16 ∷ (c + 16 + 2 * n - 1) / 16 ∷ m ∷ [])
    → after.starts ≡ with_array x.words.starts m (c + 16) (c + 16 + 2 * n) → after ≡ with_code x m c n
unfolding triples_of
store_all x m c n after a b = λ j. code_words (a j) (b j)

pub store_pre : {s : List ℕ} {methods : ℕ} {a : At} {i : ℕ} (code : Code) → StepPre s a → CodedAt s methods a.pos a.idx i code
    → StorePre a.count code.off code.units
store_pre code p q = record { few = p.few; small = omega arith; some = q.some }

-- ---- one method
module _ (s : List ℕ) (methods : ℕ) (a : At) (before : CodeWords) where
  pub step_refused : {y : Refusal} (after : CodeWords) → ((n : ℕ) → refused y ≡ methods_from (suc n) s methods a.pos a.idx)
      → Onward s methods a (Err y) before after
  unfolding Onward
  step_refused after e = e

  pub step_bare : {i j : ℕ} → BareAt s methods a.pos a.idx i j
      → Onward s methods a (Ok (record { pos = i; idx = j; count = a.count })) before before
  unfolding Onward
  step_bare q = record { rest = λ n. ap (stored (kept a.count before)) (q.rest n); on = q.on; inside = q.inside; one = omega arith }

  pub step_coded : {i : ℕ} {code : Code} → CodedAt s methods a.pos a.idx i code
      → {after : CodeWords} → after ≡ (more (kept a.count before) (code ∷ [])).words
      → Onward s methods a (Ok (record { pos = i; idx = code.method; count = a.count + 1 })) before after
  unfolding Onward
  step_coded {i} {code} q e = record {
    rest = λ n.
        (λ l. stored (kept (a.count + 1) (e l)) (methods_from n s methods i code.method))
        ∙ stored_following (kept a.count before) (code ∷ []) (methods_from n s methods i code.method)
        ∙ ap (stored (kept a.count before)) (q.rest n);
    on = q.on;
    inside = q.inside;
    one = omega arith;
  }

-- ---- the loop over methods: what is left to walk from here is what was to be walked from the start
pub record Going (s : List ℕ) (methods : ℕ) (from : Turn) (a : At) (togo : ℕ) (words : CodeWords) : Type 0 where
  pub rest : stored (kept a.count words) (methods_from togo s methods a.pos a.idx)
      ≡ stored from.held (methods_from from.togo s methods from.pos 0)
  pub place : a.pos ≤ largest_file
  pub few : a.count + from.pos ≤ from.held.count + a.pos
  pub same : SameLengths from.held.words words

module _ (s : List ℕ) (methods : ℕ) (a : At) (words : CodeWords) {d : Left} where
  walk_again : (togo k : ℕ) {b : At} {after : CodeWords} → togo ≡ suc k → Stepped s methods a b words after
      → stored (kept a.count words) (methods_from togo s methods a.pos a.idx) ≡ d
      → stored (kept b.count after) (methods_from k s methods b.pos b.idx) ≡ d
  walk_again togo k z e q = e.rest k ∙ rw z at q

  pub walk_no : (togo : ℕ) {y : Refusal} → 0 < togo → ((n : ℕ) → refused y ≡ methods_from (suc n) s methods a.pos a.idx)
      → stored (kept a.count words) (methods_from togo s methods a.pos a.idx) ≡ d → refusal y ≡ d
  walk_no zero z e q = absurd (omega arith)
  walk_no (suc n) {y} z e q = refused_stored (kept a.count words) _ y (e n) ∙ q

  pub walk_end : (n : ℕ) → n ≤ 0 → stored (kept a.count words) (methods_from n s methods a.pos a.idx) ≡ d
      → left a.pos (kept a.count words) ≡ d
  unfolding methods_from
  walk_end zero z q = stored_none (kept a.count words) a.pos ∙ q
  walk_end (suc n) z q = absurd (omega arith)

-- a turn of the loop: a method takes bytes of the file and adds at most one code
module _ {s : List ℕ} {methods : ℕ} {from : Turn} {a : At} {togo : ℕ} {words : CodeWords} (x : Going s methods from a togo words)
    (q : MethodsPre s from.pos from.held.count) where
  pub going_again : (k : ℕ) → togo ≡ suc k → {b : At} {after : CodeWords} → Stepped s methods a b words after → SameLengths words after
      → Going s methods from b k after
  going_again k z g l = record {
    rest = walk_again s methods a words togo k z g x.rest;
    place = omega arith;
    few = omega arith;
    same = same_on x.same l;
  }
