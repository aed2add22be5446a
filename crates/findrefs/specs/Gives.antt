-- What an answer of the finder says, and that answer and lent words are the outcome's.
-- Assumes nothing.
use Rattle.std.specs.Prelude.{ℕ, ◌≡◌, length, Result, Ok, Err}
use Rattle.words.specs.Padded.{zeros, padded}
use Rattle.refusal.specs.declared.Refusal.{Refusal}
use Rattle.refusal.specs.Refusals.{refusal_number}
use Rattle.code_table.specs.declared.Region.{Region}
use Rattle.code_item_scan.specs.Scan.{offs, marks}
use Rattle.completeness.specs.Completeness.{FindWords, Reply, reply}
use Rattle.findrefs.specs.declared.Found.{Found}
use Rattle.findrefs.specs.Find.{Find}

-- 0 for success
abbrev pub found_number : Result Found Refusal → ℕ
found_number (Ok f) = 0
found_number (Err x) = refusal_number x

-- 0 to 0 for a refusal
abbrev pub found_region : Result Found Refusal → Region
found_region (Ok f) = f.region
found_region (Err x) = record { start = 0; end = 0 }

-- the entries, 0 for a refusal
abbrev pub found_hits : Result Found Refusal → ℕ
found_hits (Ok f) = f.hits
found_hits (Err x) = 0

-- of an answer, what demand 3 speaks of
abbrev pub reply_of : Result Found Refusal → Reply
reply_of r = reply (found_number r) (found_hits r)

-- answer and lent slices are the outcome's: each slice holds its list, and zeros after it
pub record GivesFind (o : Find) (r : Result Found Refusal) (before after : FindWords) : Type 0 where
  pub number : found_number r ≡ o.number
  pub from : (found_region r).start ≡ o.build.from
  pub to : (found_region r).end ≡ o.build.to
  pub count : found_hits r ≡ length o.hits
  pub starts : after.table.starts ≡ padded (length before.table.starts) o.build.starts
  pub triples : after.table.triples ≡ padded (length before.table.triples) o.build.triples
  pub slots : after.table.slots ≡ padded (length before.table.slots) o.build.slots
  pub shares : after.table.shares ≡ padded (length before.table.shares) o.build.shares
  pub offs : after.hits.offs ≡ padded (length before.hits.offs) (offs o.hits)
  pub marks : after.hits.marks ≡ padded (length before.hits.marks) (marks o.hits)
  pub further : after.located.further ≡ zeros (length before.located.further)
  pub answers : after.located.answers ≡ padded (length before.located.answers) o.answers
