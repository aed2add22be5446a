-- Each way out of the finder leaves what its outcome says: a refusal's number is never 0, so that the outcome takes the same branch.
-- Assumes nothing.
use Rattle.std.specs.Prelude.{Result, Ok, Err}
use Prim.Native.Nat.{ℕ, ◌/◌}
use mathlib.Core.Path.{◌≡◌, refl, sym, ap, ◌∙◌}
use mathlib.Core.Logic.{⊎_elim}
use mathlib.Core.Bool.{true, false}
use mathlib.Core.List.{List, []}
use lib.ListN.{length}
use lib.Dec.{eqb}
use borrow.Author.Tests.{eq-eqb, ne_eqb, eqb-true}
use Rattle.words.specs.Padded.{zeros, padded}
use Rattle.words.proofs.Padded.{padded_none}
use Rattle.words.proofs.Shared.{case}
use Rattle.refusal.proofs.Numbers.{some_number}
use Rattle.refusal.specs.Outcomes.{Outcome}
use Rattle.refusal.specs.declared.Refusal.{Refusal}
use Rattle.start_words.specs.Starts.{first_starts}
use Rattle.start_words.proofs.Starts.{first_padded}
use Rattle.tinydex.specs.declared.DexHeader.{DexHeader}
use Rattle.code_table.specs.Build.{Build, build_out}
use Rattle.code_table.specs.Answer.{TableWords, room_of, GivesBuild}
use Rattle.code_table.specs.declared.Built.{Built}
use Rattle.code_table.proofs.Named.{starts_length}
use Rattle.code_item_scan.specs.Scan.{Hit, asked}
use Rattle.code_item_scan.specs.Answers.{HitWords, hit_room_of}
use Rattle.insn_locator.specs.Answers.{tables, LocateWords}
use Rattle.completeness.specs.Completeness.{FindWords, find_words}
use Rattle.region_search.specs.Search.{Search, searched, search_out, search_words, GivesSearch}
use Rattle.findrefs.specs.Find.{Lengths, lengths_of, Find, found, search_of, find_out}
use Rattle.findrefs.specs.Gives.{GivesFind}
use Rattle.findrefs.specs.Steps.{four, Cleared}

-- ---- an outcome's number is that of the operation that refuses
pub searched_number : (hits : List Hit) (A : Outcome) → (searched hits A).number ≡ A.number
searched_number hits A =
    ⊎_elim (λ (e : eqb A.number 0 ≡ true). rw e (sym (eqb-true A.number 0 e))) (λ (e : eqb A.number 0 ≡ false). rw e)
    (case (eqb A.number 0))

pub found_number : (B : Build) (R : Search) → (found B R).number ≡ R.number
found_number B R =
    ⊎_elim (λ (e : eqb R.number 0 ≡ true). rw e (sym (eqb-true R.number 0 e))) (λ (e : eqb R.number 0 ≡ false). rw e)
    (case (eqb R.number 0))

-- ---- what is cleared is as long as before
pub record SameRoom (t u : TableWords) : Type 0 where
  pub starts : length t.starts ≡ length u.starts
  pub triples : length t.triples ≡ length u.triples
  pub slots : length t.slots ≡ length u.slots
  pub shares : length t.shares ≡ length u.shares

nothing_left : {ws : List ℕ} (n m : ℕ) → ws ≡ zeros n → n ≡ m → ws ≡ padded m []
nothing_left n m e l = e ∙ (ap zeros l ∙ sym (padded_none m))

-- ---- build, scan and locate
module _ (s : List ℕ) (h : DexHeader) (kind : ℕ) (wanted : List ℕ) (before : FindWords) where
  abbrev L : Lengths
  L = lengths_of before

  abbrev build_of : Build
  build_of = build_out s h (room_of before.table)

  abbrev goal : Find
  goal = find_out s h kind wanted L

  find_none : (build_of.number ≡ 0 → ⊥) → goal ≡ record { number = build_of.number; build = build_of; hits = []; answers = [] }
  unfolding find_out
  find_none n = rw (ne_eqb build_of.number 0 n)

  pub find_some : build_of.number ≡ 0 → goal ≡ found build_of (search_of s kind wanted L build_of)
  unfolding find_out
  find_some e = rw (eq-eqb build_of.number 0 e)

  -- the build refused, and the other words were cleared
  pub find_unbuilt : {q : Result Built Refusal} (x : Refusal) (after : FindWords) → q ≡ Err x → GivesBuild build_of q before.table after.table
      → Cleared (four before.hits.offs before.hits.marks before.located.further before.located.answers)
      (four after.hits.offs after.hits.marks after.located.further after.located.answers)
      → GivesFind goal (Err x) before after
  find_unbuilt x after e G C =
      let B : GivesBuild build_of (Err x) before.table after.table = rw e at G in
      rw (find_none (λ w. some_number x (B.number ∙ w)))
      (record {
        number = B.number;
        from = B.from;
        to = B.to;
        count = refl;
        starts = B.starts;
        triples = B.triples;
        slots = B.slots;
        shares = B.shares;
        offs = C.first ∙ sym (padded_none (length before.hits.offs));
        marks = C.second ∙ sym (padded_none (length before.hits.marks));
        further = C.third;
        answers = C.fourth ∙ sym (padded_none (length before.located.answers));
      })

  -- the build succeeded with the region of d and left the table t, and the search over it answers
  module _ {p : Result Built Refusal} (d : Built) (t : TableWords) (e : p ≡ Ok d) (G : GivesBuild build_of p before.table t) where
    B : GivesBuild build_of (Ok d) before.table t
    B = rw e at G

    abbrev S : Search
    S = search_of s kind wanted L build_of

    passed_is : first_starts h.methods.size t.starts ≡ build_of.starts
    passed_is =
        ap (first_starts h.methods.size) B.starts
        ∙ first_padded h.methods.size build_of.starts (length before.table.starts)
        (starts_length s h (room_of before.table) (sym B.number))

    searched_is : search_out s (asked kind wanted d.region.start d.region.end)
        (tables (d.region.start / 16) t.slots (first_starts h.methods.size t.starts) t.shares)
        L.hits L.further L.answers ≡ S
    searched_is = rw (B.from, B.to, B.slots, passed_is, B.shares)

    -- the search over it
    module _ {q : Result ℕ Refusal} (hits : HitWords) (located : LocateWords)
        (F : GivesSearch (search_out s (asked kind wanted d.region.start d.region.end)
        (tables (d.region.start / 16) t.slots (first_starts h.methods.size t.starts) t.shares)
        (hit_room_of before.hits) L.further L.answers)
        q (search_words before.hits before.located) (search_words hits located)) where
      searched_by : (r : Result ℕ Refusal) → q ≡ r → GivesSearch S r (search_words before.hits before.located) (search_words hits located)
      searched_by r e = rw (searched_is, e) at F

      pub find_found : (n : ℕ) → q ≡ Ok n → GivesFind goal (Ok (record { region = d.region; hits = n })) before (find_words t hits located)
      find_found n e =
          let K = searched_by (Ok n) e in
          rw (find_some (sym B.number), eq-eqb S.number 0 (sym K.number))
          (record {
            number = refl;
            from = B.from;
            to = B.to;
            count = K.count;
            starts = B.starts;
            triples = B.triples;
            slots = B.slots;
            shares = B.shares;
            offs = K.offs;
            marks = K.marks;
            further = K.further;
            answers = K.answers;
          })

      -- it refused, and the tables were cleared
      pub find_refused : (x : Refusal) (none : TableWords) → q ≡ Err x → SameRoom t before.table
          → Cleared (four t.starts t.triples t.slots t.shares) (four none.starts none.triples none.slots none.shares)
          → GivesFind goal (Err x) before (find_words none hits located)
      find_refused x none e M C =
          let K = searched_by (Err x) e in
          rw (find_some (sym B.number), ne_eqb S.number 0 (λ w. some_number x (K.number ∙ w)))
          (record {
            number = K.number;
            from = refl;
            to = refl;
            count = K.count;
            starts = nothing_left (length t.starts) (length before.table.starts) C.first M.starts;
            triples = nothing_left (length t.triples) (length before.table.triples) C.second M.triples;
            slots = nothing_left (length t.slots) (length before.table.slots) C.third M.slots;
            shares = nothing_left (length t.shares) (length before.table.shares) C.fourth M.shares;
            offs = K.offs;
            marks = K.marks;
            further = K.further;
            answers = K.answers;
          })
