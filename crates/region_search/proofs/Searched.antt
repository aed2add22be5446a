-- Each way out of the search leaves what its outcome says: a refusal's number is never 0, so that the outcome takes the same branch.
-- Assumes nothing.
use Rattle.std.specs.Prelude.{Result, Ok, Err}
use Prim.Native.Nat.{ℕ, suc, ◌+◌, ◌-◌, ◌≤◌}
use native.Mathlib.Omega.{arith}
use mathlib.Core.Path.{◌≡◌, refl, sym, ap, ◌∙◌}
use mathlib.Core.List.{List, [], ◌∷◌}
use lib.ListN.{length, take, length-append}
use lib.Seq.{take_at}
use borrow.Author.Tests.{eq-eqb, ne_eqb}
use Rattle.words.specs.Padded.{zeros, padded}
use Rattle.words.proofs.Padded.{padded_none}
use Rattle.refusal.specs.Refusals.{refusal_number, answer_number, answer_count}
use Rattle.refusal.proofs.Numbers.{some_number}
use Rattle.refusal.specs.Outcomes.{Outcome}
use Rattle.refusal.specs.declared.Refusal.{Refusal}
use Rattle.code_item_scan.specs.Scan.{Hit, offs, Asked, Scan, scan_out}
use Rattle.code_item_scan.specs.Answers.{HitWords, hit_room_of}
use Rattle.code_item_scan.specs.Answers as S
use Rattle.insn_locator.specs.Locate.{Tables, locate_out}
use Rattle.insn_locator.specs.Answers.{tables, LocateWords, Located}
use Rattle.region_search.specs.Search.{Search, searched, search_out, SearchWords, search_words, GivesSearch}

-- ---- words
take_padded : (n k : ℕ) (xs : List ℕ) → k ≡ length xs → take k (padded n xs) ≡ xs
unfolding padded
take_padded n k xs e = take_at xs (zeros (n - length xs)) k (sym e)

length_offs : (hs : List Hit) → length (offs hs) ≡ length hs
length_offs [] = refl
length_offs (h ∷ hs) = ap suc (length_offs hs)

-- ---- scan and locate
-- a scan that counts k hits left k words or more in the offsets
pub scan_fits : (o : Scan) {p : (Result ℕ Refusal)} (k : ℕ) (before after : HitWords) → p ≡ Ok k → S.Gives o p before after → k ≤ length after.offs
unfolding padded
scan_fits o k before after e G =
    let n : k ≡ length o.hits = ap answer_count (sym e) ∙ G.count in
    let zs : List ℕ = zeros (length before.offs - length (offs o.hits)) in
    let l : length after.offs ≡ length (offs o.hits) + length zs = ap length G.starts ∙ length-append (offs o.hits) zs in
    omega (arith, l, n, length_offs o.hits)

module _ (s : List ℕ) (A : Asked) (T : Tables) (before : SearchWords) where
  abbrev scan_of : Scan
  scan_of = scan_out s A (hit_room_of before.hits)

  abbrev locate_of : Outcome
  locate_of = locate_out s T (offs scan_of.hits) (length before.located.answers) (length before.located.further)

  abbrev goal : Search
  goal = search_out s A T (hit_room_of before.hits) (length before.located.further) (length before.located.answers)

  search_none : (n : ℕ) → scan_of.number ≡ n → (n ≡ 0 → ⊥) → goal ≡ record { number = scan_of.number; hits = scan_of.hits; answers = [] }
  unfolding search_out
  search_none n e h = rw (ne_eqb scan_of.number 0 (λ q. h (sym e ∙ q)))

  search_some : scan_of.number ≡ 0 → goal ≡ searched scan_of.hits locate_of
  unfolding search_out
  search_some e = rw (eq-eqb scan_of.number 0 e)

  -- scan refused
  pub search_refused : {q : (Result ℕ Refusal)} (x : Refusal) (after : SearchWords) → q ≡ Err x → S.Gives scan_of q before.hits after.hits
      → after.located.further ≡ zeros (length before.located.further) → after.located.answers ≡ zeros (length before.located.answers)
      → GivesSearch goal (Err x) before after
  search_refused {q} x after e G p z =
      let n : refusal_number x ≡ scan_of.number = ap answer_number (sym e) ∙ G.number in
      rw (search_none (refusal_number x) (sym n) (some_number x))
      (record {
        number = n;
        count = ap answer_count (sym e) ∙ G.count;
        offs = G.starts;
        marks = G.indices;
        further = p;
        answers = z ∙ sym (padded_none (length before.located.answers));
      })

  -- scan counted k hits, and locate of the first k offsets answers
  module _ (p : Result ℕ Refusal) (k : ℕ) (hits : HitWords) (e : p ≡ Ok k) (G : S.Gives scan_of p before.hits hits) where
    scan_succeeds : scan_of.number ≡ 0
    scan_succeeds = sym (ap answer_number (sym e) ∙ G.number)

    counted : k ≡ length scan_of.hits
    counted = ap answer_count (sym e) ∙ G.count

    first_offsets : take k hits.offs ≡ offs scan_of.hits
    first_offsets =
        ap (take k) G.starts ∙ take_padded (length before.hits.offs) k (offs scan_of.hits) (counted ∙ sym (length_offs scan_of.hits))

    -- vs are the start words passed on, and locate was lent cleared words
    module _ {q : Result ℕ Refusal} (vs : List ℕ) (cleared left : LocateWords) (v : vs ≡ T.starts)
        (lf : length cleared.further ≡ length before.located.further) (la : length cleared.answers ≡ length before.located.answers)
        (L : Located (locate_out s (tables T.base T.slots vs T.shares) (take k hits.offs) (length cleared.answers) (length cleared.further))
        q cleared left) where
      M : Located locate_of q cleared left
      M = rw (v, first_offsets, lf, la) at L

      further_left : left.further ≡ zeros (length before.located.further)
      further_left = M.further ∙ ap zeros lf

      answers_left : left.answers ≡ padded (length before.located.answers) locate_of.list
      answers_left = M.answer.words ∙ ap (λ (n : ℕ). padded n locate_of.list) la

      pub search_located : (c : ℕ) → q ≡ Ok c → GivesSearch goal (Ok k) before (search_words hits left)
      search_located c d =
          rw (search_some scan_succeeds, eq-eqb locate_of.number 0 (sym (ap answer_number (sym d) ∙ M.answer.number)))
          (record {
            number = refl;
            count = counted;
            offs = G.starts;
            marks = G.indices;
            further = further_left;
            answers = answers_left;
          })

      -- locate refused, and the hits were cleared
      pub locate_refused : (x : Refusal) (none : HitWords) → q ≡ Err x → none.offs ≡ zeros (length hits.offs)
          → none.marks ≡ zeros (length hits.marks) → length hits.offs ≡ length before.hits.offs
          → length hits.marks ≡ length before.hits.marks → GivesSearch goal (Err x) before (search_words none left)
      locate_refused x none d zo zm lo lm =
          let n : refusal_number x ≡ locate_of.number = ap answer_number (sym d) ∙ M.answer.number in
          rw (search_some scan_succeeds, ne_eqb locate_of.number 0 (λ w. some_number x (n ∙ w)))
          (record {
            number = n;
            count = refl;
            offs = (zo ∙ ap zeros lo) ∙ sym (padded_none (length before.hits.offs));
            marks = (zm ∙ ap zeros lm) ∙ sym (padded_none (length before.hits.marks));
            further = further_left;
            answers = answers_left;
          })
