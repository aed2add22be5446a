-- An entry of the finder stands by itself: the words left hold each hit beside its answer, which depends on file, record and offset alone. So the
-- confirmed entries are the hits with an answer other than 0, and these merge.
-- Assumes nothing.
use Rattle.std.specs.Prelude.{Option, None, Some, Result}
use Prim.Native.Nat.{ℕ, zero, suc, ◌+◌, ◌/◌, ◌<◌}
use native.Mathlib.Omega.{arith}
use mathlib.Core.Path.{◌≡◌, refl, sym, ap, ◌∙◌}
use mathlib.Core.Bool.{cond}
use mathlib.Core.List.{List, [], ◌∷◌, map}
use lib.ListN.{length, get_or}
use lib.Dec.{eqb}
use Rattle.words.specs.Padded.{padded}
use Rattle.words.proofs.Padded.{padded_at}
use Rattle.refusal.specs.Outcomes.{success}
use Rattle.tinydex.specs.declared.DexHeader.{DexHeader}
use Rattle.start_words.specs.Starts.{pair_count, first_starts}
use Rattle.start_words.proofs.Starts.{first_padded}
use Rattle.dalvik.specs.Instructions.{Kind}
use Rattle.kinds.specs.Kinds.{kind_of}
use Rattle.code_table.specs.Build.{Build, build_out}
use Rattle.code_table.proofs.Named.{starts_length}
use Rattle.code_item_scan.specs.Scan.{Hit, offs, marks}
use Rattle.code_item_scan.proofs.Listed.Above.{no_more, one_more}
use Rattle.insn_locator.specs.Locate.{Tables}
use Rattle.insn_locator.specs.Answers.{tables}
use Rattle.insn_locator.specs.Alone.{alone_out}
use Rattle.completeness.specs.Completeness.{FindWords, Entry, entry_at, call_of}
use Rattle.findrefs.specs.Find.{Lengths, lengths_of, built_tables, find_out}
use Rattle.findrefs.specs.Gives.{found_number, found_hits, GivesFind}
use Rattle.findrefs.specs.Alone.{tables_left, confirmed_from, confirmed, merged, Succeeded, Together, StandAlone}
use Rattle.refusal.specs.declared.Refusal.{Refusal}
use Rattle.findrefs.specs.declared.Found.{Found}
use Rattle.findrefs.proofs.Merged.{entry_for, shown, shown_merged}
use Rattle.findrefs.proofs.Whole.{Answers, hits_for, hits, whole, find_never_15, find_whole, find_built}

-- ---- the entries that lie in the words
abbrev no_hit : Hit
no_hit = record { off = 0; mark = 0 }

read : {ws : List ℕ} (n : ℕ) (xs : List ℕ) (k : ℕ) → ws ≡ padded n xs → get_or ws k 0 ≡ get_or xs k 0
read n xs k e = ap (λ (l : List ℕ). get_or l k 0) e ∙ padded_at n xs k

-- word k of the lists is that of hit k
entry_of : (answer : ℕ → ℕ) (hs : List Hit) (k : ℕ) → k < length hs
    → record { off = get_or (offs hs) k 0; index = get_or (marks hs) k 0; slot = get_or (map answer (offs hs)) k 0 } ≡ entry_for answer (get_or hs k no_hit)
entry_of answer [] k l = absurd (omega arith)
entry_of answer (x ∷ hs) zero l = refl
entry_of answer (x ∷ hs) (suc k) l = entry_of answer hs k (omega arith)

-- an entry put before others where it is confirmed
abbrev add : Entry → List Entry → List Entry
add e es = cond (eqb e.slot 0) es (e ∷ es)

from_confirmed : (answer : ℕ → ℕ) (w : FindWords) (hs : List Hit) (k : ℕ)
    → ((i : ℕ) → i < length hs → entry_at w (k + i) ≡ entry_for answer (get_or hs i no_hit)) → confirmed_from k (length hs) w ≡ shown answer hs
from_confirmed answer w [] k f = refl
from_confirmed answer w (x ∷ hs) k f =
    let z : k ≡ k + 0 = omega arith in
    let first : entry_at w k ≡ entry_for answer x = ap (entry_at w) z ∙ f 0 (omega arith) in
    let later : confirmed_from (suc k) (length hs) w ≡ shown answer hs = from_confirmed answer w hs (suc k)
    (λ i l. let m : suc k + i ≡ k + suc i = omega arith in ap (entry_at w) m ∙ f (suc i) (omega arith)) in
    ap (λ (e : Entry). add e (confirmed_from (suc k) (length hs) w)) first ∙ ap (add (entry_for answer x)) later

-- ---- what a call that succeeds leaves
same_tables : {x y : ℕ} {a b c d e f : List ℕ} → x ≡ y → a ≡ b → c ≡ d → e ≡ f → tables (x / 16) a c e ≡ tables (y / 16) b d f
same_tables p q t u = rw (p, q, t, u)

module _ {s : List ℕ} {h : DexHeader} (law : Answers s h) (kind : ℕ) {wanted : List ℕ} (C : Succeeded s h kind wanted) where
  abbrev L : Lengths
  L = lengths_of C.before

  abbrev left : FindWords
  left = C.after

  abbrev hits_found : List Hit
  hits_found = hits law kind wanted L

  zero_number : (find_out s h kind wanted L).number ≡ 0
  zero_number = sym C.gives.number ∙ C.succeeds

  is_built : (build_out s h L.build).number ≡ 0
  is_built = find_built law kind wanted L zero_number

  gives_whole : GivesFind (whole law kind wanted L) C.r C.before left
  gives_whole = rw (find_whole law kind wanted L zero_number) at C.gives

  entry_is : (k : ℕ) → k < length hits_found → entry_at left k ≡ entry_for law.answer (get_or hits_found k no_hit)
  entry_is k l =
      rw (
        read (length C.before.hits.offs) (offs hits_found) k gives_whole.offs,
        read (length C.before.hits.marks) (marks hits_found) k gives_whole.marks,
        read (length C.before.located.answers) (map law.answer (offs hits_found)) k gives_whole.answers,
      )
      (entry_of law.answer hits_found k l)

  passed_is : first_starts h.methods.size left.table.starts ≡ (build_out s h L.build).starts
  passed_is =
      ap (first_starts h.methods.size) gives_whole.starts
      ∙ first_padded h.methods.size (build_out s h L.build).starts (length C.before.table.starts) (starts_length s h L.build is_built)

  tables_are : tables_left h C.r left ≡ built_tables (build_out s h L.build) L
  tables_are = same_tables gives_whole.from gives_whole.slots passed_is gives_whole.shares

  answer_alone : (t : ℕ) → alone_out s (tables_left h C.r left) t ≡ success (law.answer t ∷ [])
  answer_alone t =
      ap (λ (T : Tables). alone_out s T t) tables_are
      ∙ law.each L is_built 0 (t ∷ []) (one_more {b = 0} {t = t} (omega arith) no_more) 1 (pair_count (build_out s h L.build).starts)
      (omega arith) (omega arith)

  alone_is : (e : Entry) (x : Hit) → e ≡ entry_for law.answer x → alone_out s (tables_left h C.r left) e.off ≡ success (e.slot ∷ [])
  alone_is e x p = rw p (answer_alone x.off)

  each_alone : (k : ℕ) → k < found_hits C.r
      → alone_out s (tables_left h C.r left) (entry_at left k).off ≡ success ((entry_at left k).slot ∷ [])
  each_alone k l = alone_is (entry_at left k) (get_or hits_found k no_hit) (entry_is k (omega (arith, gives_whole.count)))

  confirmed_is : confirmed C.r left ≡ shown law.answer hits_found
  confirmed_is =
      ap (λ (n : ℕ). confirmed_from 0 n left) gives_whole.count
      ∙ from_confirmed law.answer left hits_found 0 (λ i l. let z : 0 + i ≡ i = omega arith in ap (entry_at left) z ∙ entry_is i l)

-- ---- two calls, and one for both together
module _ {s : List ℕ} {h : DexHeader} (law : Answers s h) (kind : ℕ) where
  for_merged : (from to : ℕ) (k : Option Kind) {wanted a b : List ℕ} → Together wanted a b
      → shown law.answer (hits_for s wanted from to k)
      ≡ merged (shown law.answer (hits_for s a from to k)) (shown law.answer (hits_for s b from to k))
  for_merged from to None t = refl
  for_merged from to (Some kind) t = shown_merged s law.answer kind from to t

  -- the confirmed entries of a call, by the build of another
  confirmed_by : {wanted a : List ℕ} (C : Succeeded s h kind wanted) (A : Succeeded s h kind a)
      → let B = build_out s h (lengths_of C.before).build in
      confirmed A.r A.after ≡ shown law.answer (hits_for s a B.from B.to (kind_of kind))
  confirmed_by {a = a} C A =
      confirmed_is law kind A
      ∙ ap (λ (B : Build). shown law.answer (hits_for s a B.from B.to (kind_of kind)))
      (law.same (lengths_of C.before).build (lengths_of A.before).build (is_built law kind C) (is_built law kind A))

  merge_alone : {wanted a b : List ℕ} → Together wanted a b
      → (C : Succeeded s h kind wanted) (A : Succeeded s h kind a) (B : Succeeded s h kind b)
      → confirmed C.r C.after ≡ merged (confirmed A.r A.after) (confirmed B.r B.after)
  merge_alone t C A B =
      let D = build_out s h (lengths_of C.before).build in
      rw (confirmed_by C C, confirmed_by C A, confirmed_by C B) (for_merged D.from D.to (kind_of kind) t)

pub stand_alone : {s : List ℕ} {h : DexHeader} (law : Answers s h) (kind : ℕ) (wanted : List ℕ) (r : Result Found Refusal) (before after : FindWords)
    → GivesFind (find_out s h kind wanted (lengths_of before)) r before after → StandAlone (call_of s h kind wanted) r after
stand_alone {s} {h} law kind wanted r before after G =
    let C : found_number r ≡ 0 → Succeeded s h kind wanted = λ z. record { before = before; after = after; r = r; gives = G; succeeds = z } in
    record {
      never_15 = λ q. find_never_15 law kind wanted (lengths_of before) (sym G.number ∙ q);
      each = λ z. each_alone law kind (C z);
      merge = λ z a b t A B. merge_alone law kind t (C z) A B;
    }
