-- The outcome of a search: the outcomes of scan and locate one after another, up to the first that refuses; and what a call leaves.
-- Assumes nothing.
use Rattle.refusal.specs.declared.Refusal.{Refusal}
use Rattle.std.specs.Prelude.{ℕ, ◌≡◌, List, [], cond, length, eqb, Result}
use Rattle.words.specs.Padded.{zeros, padded}
use Rattle.refusal.specs.Refusals.{answer_number, answer_count}
use Rattle.refusal.specs.Outcomes.{Outcome}
use Rattle.code_item_scan.specs.Scan.{Hit, offs, marks, Asked, HitRoom, scan_out}
use Rattle.code_item_scan.specs.Answers.{HitWords}
use Rattle.insn_locator.specs.Locate.{Tables, locate_out}
use Rattle.insn_locator.specs.Answers.{LocateWords}

-- ---- the refusal's number (0 for success), the hits, and an answer for each
pub record Search : Type 0 where
  pub number : ℕ
  pub hits : List Hit
  pub answers : List ℕ

-- where locate refuses no hit is left
abbrev pub searched : List Hit → Outcome → Search
searched hits A =
    cond (eqb A.number 0)
    (record { number = 0; hits = hits; answers = A.list })
    (record { number = A.number; hits = []; answers = A.list })

-- over any tables; further and answers count the words for last confirmed offsets and for answers
unfoldable pub search_out : List ℕ → Asked → Tables → HitRoom → ℕ → ℕ → Search
search_out s A T room further answers =
    let S = scan_out s A room in
    cond (eqb S.number 0)
    (searched S.hits (locate_out s T (offs S.hits) answers further))
    (record { number = S.number; hits = S.hits; answers = [] })

-- ---- what is lent, and what a call leaves
pub record SearchWords : Type 0 where
  pub hits : HitWords
  pub located : LocateWords

abbrev pub search_words : HitWords → LocateWords → SearchWords
search_words hits located = record { hits = hits; located = located }

pub record GivesSearch (o : Search) (r : Result ℕ Refusal) (before after : SearchWords) : Type 0 where
  pub number : answer_number r ≡ o.number
  pub count : answer_count r ≡ length o.hits
  pub offs : after.hits.offs ≡ padded (length before.hits.offs) (offs o.hits)
  pub marks : after.hits.marks ≡ padded (length before.hits.marks) (marks o.hits)
  pub further : after.located.further ≡ zeros (length before.located.further)
  pub answers : after.located.answers ≡ padded (length before.located.answers) o.answers
