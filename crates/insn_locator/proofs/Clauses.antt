-- The clauses of locate's contract: what it gives is the list's outcome, and that of a list which does not fall is made of each entry's alone. Over a
-- build's tables every entry has an answer.
-- Assumes nothing.
use Rattle.refusal.specs.declared.Refusal.{Refusal}
use Rattle.std.specs.Prelude.{Result, Option, None, Some}
use Prim.Native.Nat.{ℕ, ◌≤◌}
use native.Mathlib.Omega.{arith}
use mathlib.Core.Path.{◌≡◌, refl, sym, ◌∙◌, ap}
use mathlib.Core.Bool.{true, false, ◌&&◌}
use mathlib.Core.List.{List, [], ◌∷◌, map}
use lib.Dec.{leb}
use lib.ListN.{length, get_or}
use borrow.Author.Tests.{le-leb}
use Rattle.words.proofs.Padded.{padded_at}
use Rattle.words.proofs.Shared.{cond_elim}
use Rattle.refusal.specs.Refusals.{is_too_large}
use Rattle.refusal.specs.Outcomes.{Outcome, refused, success}
use Rattle.start_words.specs.Starts.{pair_count}
use Rattle.code_table.proofs.Named.{build_small}
use Rattle.insn_locator.specs.Locate.{Tables, locate_all, answers_from, locate_out}
use Rattle.insn_locator.specs.Answers.{LocateWords, Located}
use Rattle.insn_locator.specs.Steps.{climbs}
use Rattle.insn_locator.specs.Alone.{Returned, alone_out, StandsAlone}
use Rattle.insn_locator.proofs.Climbing.{climbs_all}
use Rattle.insn_locator.proofs.Alone.{together, alone_at, locates_alone, each_alone, known_alone, one_alone}
use Rattle.insn_locator.proofs.Built.{has_answers, all_answerable}

-- ---- an outcome that is a success

record Succeeded (s : List ℕ) (T : Tables) (entries : List ℕ) (o : Outcome) : Type 0 where
  list : List ℕ
  small : is_too_large (length s) ≡ false
  all : locate_all s T entries ≡ Some list
  is : o ≡ success list

module _ (s : List ℕ) (T : Tables) (entries : List ℕ) where
  abbrev Succeeds : Outcome → Type 0
  Succeeds o = o.number ≡ 0 → Succeeded s T entries o

  answers_by : is_too_large (length s) ≡ false → (q : Option (List ℕ)) → locate_all s T entries ≡ q → Succeeds (answers_from q)
  answers_by small None e z = absurd (omega arith)
  answers_by small (Some xs) e z = record { list = xs; small = small; all = e; is = refl }

  succeeded : (room further : ℕ) → Succeeds (locate_out s T entries room further)
  unfolding locate_out
  succeeded room further =
      cond_elim Succeeds (is_too_large (length s)) (refused 1) _ (λ _ z. absurd (omega arith))
      (λ small. cond_elim Succeeds (leb (length entries) room && leb (pair_count T.starts) further) (answers_from (locate_all s T entries)) (refused 4)
      (λ _. answers_by small (locate_all s T entries) refl) (λ _ z. absurd (omega arith)))

-- a file that is not too large, and enough words
pub record Fits (s : List ℕ) (T : Tables) (entries : List ℕ) (room further : ℕ) : Type 0 where
  pub small : is_too_large (length s) ≡ false
  pub answers : length entries ≤ room
  pub pairs : pair_count T.starts ≤ further

located_some : {s : List ℕ} {T : Tables} {entries : List ℕ} {room further : ℕ} (xs : List ℕ) → Fits s T entries room further
    → locate_all s T entries ≡ Some xs → locate_out s T entries room further ≡ success xs
unfolding locate_out
located_some {s} {T} {entries} {room} {further} xs F e =
    rw (F.small, le-leb (length entries) room F.answers, le-leb (pair_count T.starts) further F.pairs, e)

-- a list that does not fall, each entry with a known answer
pub located_known : {s : List ℕ} {T : Tables} {ts : List ℕ} {room further : ℕ} (f : ℕ → ℕ) → Fits s T ts room further
    → ((t : ℕ) → alone_at s T t ≡ Some (f t)) → climbs 0 ts ≡ true → locate_out s T ts room further ≡ success (map f ts)
located_known {s} {T} {ts} f F e c = located_some (map f ts) F (locates_alone s T ts c ∙ known_alone s T f e ts)

-- ---- one entry alone

out_alone : (s : List ℕ) (T : Tables) (t a : ℕ) → is_too_large (length s) ≡ false → alone_at s T t ≡ Some a → alone_out s T t ≡ success (a ∷ [])
out_alone s T t a small e =
    located_some (a ∷ []) (record { small = small; answers = omega arith; pairs = omega arith })
    (one_alone s T t ∙ ap (λ (x : Option ℕ). together x (Some [])) e)

-- ---- over the tables of a build

pub returned_succeeds : (s : List ℕ) (T : Tables) (entries : List ℕ) (room further : ℕ) → Returned s T → length entries ≤ room
    → pair_count T.starts ≤ further → (locate_out s T entries room further).number ≡ 0
unfolding locate_all
returned_succeeds s T entries room further R enough known =
    let H = has_answers s T (all_answerable s T R) entries _ in
    let F : Fits s T entries room further =
    record { small = build_small s R.header R.room R.succeeds; answers = enough; pairs = known } in
    ap (λ (x : Outcome). x.number) (located_some H.answers F H.gives)

-- ---- the clauses

module _ (s : List ℕ) (T : Tables) (entries : List ℕ) (r : Result ℕ Refusal) (before after : LocateWords) where
  abbrev o : Outcome
  o = locate_out s T entries (length before.answers) (length before.further)

  pub stands_alone : Located o r before after → StandsAlone s T entries r before after
  stands_alone L = record {
    succeeds = λ R enough known. L.answer.number ∙ returned_succeeds s T entries _ _ R enough known;
    each = λ N z k h.
        let S = succeeded s T entries _ _ (sym L.answer.number ∙ z) in
        let word : get_or after.answers k 0 ≡ get_or S.list k 0 =
        ap (λ (l : List ℕ). get_or l k 0) L.answer.words ∙ padded_at (length before.answers) o.list k
        ∙ ap (λ (x : Outcome). get_or x.list k 0) S.is in
        rw word
        (out_alone s T (get_or entries k 0) (get_or S.list k 0) S.small
        (each_alone s T entries S.list (sym (locates_alone s T entries (climbs_all entries N)) ∙ S.all) k h));
  }

  pub clauses : Located o r before after → Located o r before after × StandsAlone s T entries r before after
  clauses L = (L, stands_alone L)
