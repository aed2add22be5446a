-- From a listing and a text to the line of an entry.
-- Assumes nothing.
use Rattle.std.specs.Prelude.{Result, Ok, Err}
use Prim.Native.Nat.{ℕ, zero, suc, ◌+◌, ◌-◌, ◌≤◌, ◌<◌}
use native.Mathlib.Omega.{arith}
use mathlib.Core.Path.{◌≡◌, refl, sym, ap, ◌∙◌}
use mathlib.Core.Bool.{Bool, true, false, not}
use mathlib.Core.List.{List}
use lib.ListN.{length, get_or, take, length-append, length-replicate}
use lib.Seq.{take_at}
use lib.Dec.{eqb}
use borrow.Author.Tests.{eq-eqb, eqb-true, lt-ltb, le-ltb}
use Rattle.words.specs.Padded.{zeros, padded}
use Rattle.words.proofs.Shared.{and_left, and_right}
use Rattle.refusal.specs.declared.Refusal.{Refusal}
use Rattle.refusal.specs.Refusals.{refusal_number}
use Rattle.refusal.specs.Outcomes.{Outcome, Gives, refused}
use Rattle.refusal.proofs.Outcomes.{gives_refused}
use Rattle.refusal.proofs.Numbers.{numbered}
use Rattle.listing_text.specs.Text.{entry_out}
use Rattle.entry_lines.specs.Line.{Entries, line_by, line_out, alike, line_at, first_refused, tried_out}
use Rattle.entry_lines.specs.Gives.{LineWords, GivesLine, Tries}
use Rattle.entry_lines.specs.Steps.{RefusedBy}

pub gives_as : {o : Outcome} {r x : (Result ℕ Refusal)} {before after : List ℕ} → r ≡ x → Gives o r before after → Gives o x before after
gives_as e g = rw (← e) g

-- the rooms lent are as large as at first
pub gives_room : (E : Entries) (i : ℕ) {a b a' b' : ℕ} {r : (Result ℕ Refusal)} {before after : List ℕ} → a ≡ a' → b ≡ b'
    → Gives (line_at E a b i) r before after → Gives (line_at E a' b' i) r before after
gives_room E i e f g = rw (← e, ← f) g

module _ (o : Outcome) (before after : List ℕ) where
  pub done_fits : (n : ℕ) → Gives o (Ok n) before after → n ≤ length after
  unfolding padded
  done_fits n g =
      let l : length after ≡ length o.list + (length before - length o.list) =
      ap length g.words ∙ simp (length-append, length-replicate) refl in
      omega (arith, g.count)

  done_list : (n : ℕ) → Gives o (Ok n) before after → take n after ≡ o.list
  unfolding padded
  done_list n g = ap (take n) g.words ∙ take_at o.list (zeros (length before - length o.list)) n (sym g.count)

  pub line_done : (off idx n room : ℕ) (r : Result ℕ Refusal) (text text' : List ℕ) → Gives o (Ok n) before after
      → Gives (entry_out off idx (take n after) room) r text text' → Gives (line_by off idx o room) r text text'
  line_done off idx n room r text text' g h = rw (eq-eqb o.number 0 (sym g.number), ← done_list n g) h

  pub line_refused : (off idx room : ℕ) (why : Refusal) (text text' : List ℕ) → Gives o (Err why) before after
      → text' ≡ zeros (length text)
      → Gives (line_by off idx o room) (Err why) text text'
  line_refused off idx room why text text' g z =
      gives_refused _ text text' why (rw (← g.number, numbered why) refl) z

-- ---- the lists

-- what a test shows of a call's answer, and what the call ensures of it
pub unlike : {r d : Bool} → not r ≡ true → r ≡ d → d ≡ false
unlike {r = true} e f = absurd (cc)
unlike {r = false} e f = sym f

pub likewise : {r d : Bool} → not r ≡ false → r ≡ d → d ≡ true
likewise {r = true} e f = sym f
likewise {r = false} e f = absurd (cc)

module _ (offs marks answers : List ℕ) where
  pub alike_marks : alike offs marks answers ≡ true → length marks ≡ length offs
  unfolding alike
  alike_marks e = eqb-true (length marks) (length offs) (and_left (eqb (length marks) (length offs)) (eqb (length answers) (length offs)) e)

  pub alike_answers : alike offs marks answers ≡ true → length answers ≡ length offs
  unfolding alike
  alike_answers e = eqb-true (length answers) (length offs) (and_right (eqb (length marks) (length offs)) (eqb (length answers) (length offs)) e)

module _ (E : Entries) (words bytes i : ℕ) where
  pub line_unlike : alike E.offs E.marks E.answers ≡ false → line_at E words bytes i ≡ refused 15
  unfolding line_at
  line_unlike e = rw e

  pub line_past : alike E.offs E.marks E.answers ≡ true → length E.offs ≤ i → line_at E words bytes i ≡ refused 15
  unfolding line_at
  line_past e h = rw (e, le-ltb i (length E.offs) h)

  pub line_held : alike E.offs E.marks E.answers ≡ true → i < length E.offs
      → line_at E words bytes i ≡ line_out (get_or E.offs i 0) (get_or E.marks i 0) (get_or E.answers i 0) E.shares words bytes
  unfolding line_at
  line_held e h = rw (e, lt-ltb i (length E.offs) h)

pub line_refusal : (o : Outcome) (why : Refusal) (r : Result ℕ Refusal) (before after : LineWords) → o ≡ refused (refusal_number why)
    → RefusedBy why r before after → GivesLine o r before after
line_refusal o why r before after e q =
    rw q.answer (record { line = gives_refused o before.text after.text why e q.no_bytes; cleared = q.no_words })

-- ---- all lines tried

module _ (f : ℕ → Outcome) where
  first_on : (k i : ℕ) → 0 ≡ (f i).number → first_refused f (suc k) i ≡ first_refused f k (i + 1)
  unfolding first_refused
  first_on k i e = rw (eq-eqb (f i).number 0 (sym e)) refl

  first_here : (k i : ℕ) (why : Refusal) → refusal_number why ≡ (f i).number → first_refused f (suc k) i ≡ refusal_number why
  unfolding first_refused
  first_here k i why e = rw (← e, numbered why) refl

  pub try_start : (n : ℕ) → first_refused f (n - 0) 0 ≡ first_refused f n 0
  try_start n =
      let e : n - 0 ≡ n = omega arith in
      ap (λ (k : ℕ). first_refused f k 0) e

  -- the line at i was written
  pub try_on : (n i m : ℕ) (before after : List ℕ) → i < n → Gives (f i) (Ok m) before after
      → first_refused f (n - i) i ≡ first_refused f n 0
      → first_refused f (n - (i + 1)) (i + 1) ≡ first_refused f n 0
  try_on n i m before after h g e =
      let s : n - i ≡ suc (n - (i + 1)) = omega arith in
      sym (first_on (n - (i + 1)) i g.number) ∙ ap (λ (k : ℕ). first_refused f k i) (sym s) ∙ e

  -- the line at i was refused
  pub try_refused : (n i : ℕ) (why : Refusal) (before after : List ℕ) → i < n → Gives (f i) (Err why) before after
      → first_refused f (n - i) i ≡ first_refused f n 0 → refusal_number why ≡ first_refused f n 0
  try_refused n i why before after h g e =
      let s : n - i ≡ suc (n - (i + 1)) = omega arith in
      sym (first_here (n - (i + 1)) i why g.number) ∙ ap (λ (k : ℕ). first_refused f k i) (sym s) ∙ e

  pub try_done : (n i : ℕ) → n ≤ i → first_refused f (n - i) i ≡ first_refused f n 0 → 0 ≡ first_refused f n 0
  unfolding first_refused
  try_done n i h e =
      let s : n - i ≡ zero = omega arith in
      ap (λ (k : ℕ). first_refused f k i) (sym s) ∙ e

module _ (E : Entries) (words bytes : ℕ) where
  pub tried_unlike : alike E.offs E.marks E.answers ≡ false → tried_out E words bytes ≡ 15
  unfolding tried_out
  tried_unlike e = rw e

  pub tried_alike : alike E.offs E.marks E.answers ≡ true → tried_out E words bytes ≡ first_refused (line_at E words bytes) (length E.offs) 0
  unfolding tried_out
  tried_alike e = rw e

-- a refusal of all, from slices as long as at first
pub tries_refused : {number n : ℕ} (why : Refusal) {r : (Result ℕ Refusal)} {before middle after : LineWords} → refusal_number why ≡ number
    → length middle.text ≡ length before.text → length middle.mids ≡ length before.mids → RefusedBy why r middle after
    → Tries number n r before after
tries_refused why e t m q =
    rw (← e, q.answer) (record {
      numbered = refl;
      count = rw (numbered why) refl;
      no_bytes = q.no_bytes ∙ ap zeros t;
      no_words = q.no_words ∙ ap zeros m;
    })

-- every line was written, and the slices were cleared
pub tries_done : {number n i : ℕ} {before : LineWords} (middle : LineWords) {after : LineWords} → 0 ≡ number → i ≡ n
    → length middle.text ≡ length before.text → length middle.mids ≡ length before.mids
    → after.text ≡ zeros (length middle.text) → after.mids ≡ zeros (length middle.mids)
    → Tries number n (Ok i) before after
tries_done middle e k t m x y =
    rw (← e) (record { numbered = refl; count = k; no_bytes = x ∙ ap zeros t; no_words = y ∙ ap zeros m })
