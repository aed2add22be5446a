-- The outcome of `codes`: the walk over the class data where the file is not too large and the lent words hold what is found, and
-- what stands in the lent words then. The lengths of the lent outputs are arguments.
-- Assumes nothing.
use Rattle.refusal.specs.declared.Refusal.{Refusal}
use Rattle.std.specs.Prelude.{ℕ, ◌*◌, ◌≡◌, List, [], cond, length, leb, Result, Ok, Err}
use Rattle.words.specs.Padded.{padded}
use Rattle.start_words.specs.Starts.{pairs_in}
use Rattle.refusal.specs.Refusals.{is_too_large}
use Rattle.refusal.specs.declared.Refusal.TheVariants.{FileTooLarge, LentTooShort}
use Rattle.tinydex.specs.declared.DexHeader.{DexHeader}
use Rattle.class_data.specs.Walk.{Walk}
use Rattle.class_data.specs.Walk.Walk.{refused, found}
use Rattle.class_data.specs.Codes.{codes_of}
use Rattle.class_data.specs.Stored.{CodeWords, triples_of, starts_of}

-- last 4 for the triples: the whole walk comes first
abbrev pub fitting : ℕ → Walk → Walk
fitting room (refused r) = refused r
fitting room (found cs e) = cond (leb (3 * length cs) room) (found cs e) (refused LentTooShort)

-- 1, then 4 for start words, then as the walk reads, last 4 for the triples
unfoldable pub codes_in : List ℕ → DexHeader → ℕ → ℕ → Walk
codes_in s h triples starts =
    cond (is_too_large (length s)) (refused FileTooLarge)
    (cond (leb h.methods.size (pairs_in starts)) (fitting triples (codes_of s h)) (refused LentTooShort))

-- the same by the lent slices
abbrev pub codes_for : List ℕ → DexHeader → CodeWords → Walk
codes_for s h w = codes_in s h (length w.triples) (length w.starts)

-- the answer counts the codes
abbrev pub answer_of : Walk → Result ℕ Refusal
answer_of (refused r) = Err r
answer_of (found cs e) = Ok (length cs)

abbrev pub triples_in : Walk → List ℕ
triples_in (refused r) = []
triples_in (found cs e) = triples_of cs

abbrev pub starts_in : ℕ → Walk → List ℕ
starts_in m (refused r) = []
starts_in m (found cs e) = starts_of m cs

-- the answer and both lent slices are those of the walk w; m counts the method ids
pub record GivesCodes (m : ℕ) (w : Walk) (r : Result ℕ Refusal) (before after : CodeWords) : Type 0 where
  pub answer : r ≡ answer_of w
  pub triples : after.triples ≡ padded (length before.triples) (triples_in w)
  pub starts : after.starts ≡ padded (length before.starts) (starts_in m w)
