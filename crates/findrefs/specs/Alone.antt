-- An entry stands by itself (SPEC, The finder): its answer is that of locate of it alone, and so the confirmed entries of a call are those of two
-- calls with the same indices between them, merged. The calls are of one file, record and kind.
-- Assumes nothing.
use Rattle.std.specs.Prelude.{ℕ, zero, suc, ◌/◌, ◌<◌, ◌≡◌, ◌≢◌, ◌⊎◌, cond, ltb, eqb, Result}
use mathlib.Core.List.{List, [], ◌∷◌, Memᴰ}
use Rattle.refusal.specs.Outcomes.{success}
use Rattle.start_words.specs.Starts.{first_starts}
use Rattle.tinydex.specs.declared.DexHeader.{DexHeader}
use Rattle.insn_locator.specs.Locate.{Tables}
use Rattle.insn_locator.specs.Answers.{tables}
use Rattle.insn_locator.specs.Alone.{alone_out}
use Rattle.completeness.specs.Completeness.{FindWords, Entry, entry_at, Call}
use Rattle.refusal.specs.declared.Refusal.{Refusal}
use Rattle.findrefs.specs.declared.Found.{Found}
use Rattle.findrefs.specs.Find.{lengths_of, find_out}
use Rattle.findrefs.specs.Gives.{found_number, found_region, found_hits, GivesFind}

-- the tables that a call left, as they are passed on to locate
abbrev pub tables_left : DexHeader → Result Found Refusal → FindWords → Tables
tables_left h r w = tables ((found_region r).start / 16) w.table.slots (first_starts h.methods.size w.table.starts) w.table.shares

-- of n entries in the words w, from the k-th on, the confirmed ones: offset, index and slot
abbrev pub confirmed_from : ℕ → ℕ → FindWords → List Entry
confirmed_from k zero w = []
confirmed_from k (suc n) w = cond (eqb (entry_at w k).slot 0) (confirmed_from (suc k) n w) (entry_at w k ∷ confirmed_from (suc k) n w)

-- those of a call
abbrev pub confirmed : Result Found Refusal → FindWords → List Entry
confirmed r w = confirmed_from 0 (found_hits r) w

-- two lists that rise by offset merged into one; of two entries with one offset the first list's stays
abbrev pub merged : List Entry → List Entry → List Entry
merged [] fs = fs
merged (e ∷ es) [] = e ∷ es
merged (e ∷ es) (f ∷ fs) =
    cond (ltb e.off f.off) (e ∷ merged es (f ∷ fs)) (cond (ltb f.off e.off) (f ∷ merged (e ∷ es) fs) (e ∷ merged es fs))

-- a call that succeeds, for some wanted indices: what was lent, what it left, and its answer
pub record Succeeded (s : List ℕ) (h : DexHeader) (kind : ℕ) (wanted : List ℕ) : Type 0 where
  pub before : FindWords
  pub after : FindWords
  pub r : Result Found Refusal
  pub gives : GivesFind (find_out s h kind wanted (lengths_of before)) r before after
  pub succeeds : found_number r ≡ 0

-- the wanted indices are those of two lists together, in any order
pub record Together (wanted a b : List ℕ) : Type 0 where
  pub from : (x : ℕ) → Memᴰ x wanted → Memᴰ x a ⊎ Memᴰ x b
  pub left : (x : ℕ) → Memᴰ x a → Memᴰ x wanted
  pub right : (x : ℕ) → Memᴰ x b → Memᴰ x wanted

pub record StandAlone (q : Call) (r : Result Found Refusal) (after : FindWords) : Type 0 where
  -- no entry asks for what the build's tables don't hold
  pub never_15 : found_number r ≢ 15
  -- an entry's answer is that of locate of it alone, over the tables that the call left
  pub each : found_number r ≡ 0 → (k : ℕ) → k < found_hits r
      → alone_out q.file (tables_left q.header r after) (entry_at after k).off ≡ success ((entry_at after k).slot ∷ [])
  -- the confirmed entries are those of calls for two lists with the same indices together, merged by offset, common ones once
  pub merge : found_number r ≡ 0 → (a b : List ℕ) → Together q.wanted a b
      → (A : Succeeded q.file q.header q.kind a) (B : Succeeded q.file q.header q.kind b)
      → confirmed r after ≡ merged (confirmed A.r A.after) (confirmed B.r B.after)
