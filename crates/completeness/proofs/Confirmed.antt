-- Which entries are confirmed: every instruction that names a wanted index, since the walk from its array's start lands on it before the
-- array's end; and no other, since up to there the walk meets only the array's instructions and payloads.
-- Assumes nothing.
use Rattle.std.specs.Prelude.{Some}
use Prim.Native.Nat.{ℕ, ◌/◌, ◌<◌}
use native.Mathlib.Omega.{arith}
use mathlib.Core.Path.{◌≡◌, sym, ◌∙◌}
use mathlib.Core.Logic.{⊎_elim}
use mathlib.Core.Bool.{true, false, cond, ◌&&◌}
use mathlib.Core.List.{List, Memᴰ}
use lib.Dec.{ltb}
use lib.ListN.{length, get_or, length-map}
use borrow.Author.Tests.{le-leb, lt-ltb, ltb-true}
use Rattle.words.proofs.Shared.{case, and_left, and_right}
use Rattle.refusal.specs.Outcomes.{success}
use Rattle.dalvik.specs.CodeItem.{Code, start, stop}
use Rattle.dalvik.specs.Instructions.{Kind}
use Rattle.code_item_scan.specs.Scan.{Hit}
use Rattle.insn_walk.specs.Walk.{lands}
use Rattle.insn_locator.specs.Locate.{Tables}
use Rattle.slot_listing.specs.Listing.{listed, list_out}
use Rattle.completeness.specs.Completeness.{Supposed, sharing, arranged, Lists, NamesWanted}
use Rattle.completeness.proofs.Outcomes.{entries_of, Confirmed}
use Rattle.completeness.proofs.Members.{place_of, length_arranged}
use Rattle.insn_walk.proofs.Published.{payload_low}
use Rattle.insn_walk.proofs.Walks.{Steps, lands_to, to_lands}
use Rattle.completeness.proofs.Arrays.{Standing, payload, instruction, lands_within}
use Rattle.completeness.proofs.Buckets.{InBuckets, owner_of}
use Rattle.completeness.proofs.Walks.{passes, in_buckets}
use Rattle.completeness.proofs.Owners.{tables_for, slot_of, owner, slot_free, no_answer}
use Rattle.completeness.proofs.Entries.{no_hit, off_at, Tells, an_entry, entry_tells, answers, answer_at}

module _ {s : List ℕ} {mapoff classes_off classes methods : ℕ} {codes : List Code} (P : Supposed s mapoff classes_off classes methods codes) where
  -- a slot word that stands for the methods with the code of c lists them
  pub lists_methods : (c : Code) (shares : List ℕ) (slot : ℕ) → listed shares slot ≡ Some (arranged (sharing codes c.off))
      → Lists codes c shares slot
  unfolding list_out
  lists_methods c shares slot e room fits =
      let ms : List ℕ = arranged (sharing codes c.off) in
      let all : list_out shares slot room ≡ success ms = rw (e, le-leb (length ms) room (omega (arith, length_arranged (sharing codes c.off)))) in
      all

  module _ (kind : Kind) (wanted : List ℕ) (i j k : ℕ) where
    abbrev T : Tables
    T = tables_for methods codes i j k

    abbrev hits : List Hit
    hits = entries_of s codes kind wanted

    abbrev words : List ℕ
    words = (answers P kind wanted i j k).answers

    -- an instruction that names a wanted index: its entry, with the slot of its bucket
    pub record Entered (p x : ℕ) : Type 0 where
      pub n : ℕ
      pub entry : Confirmed hits words n p x (slot_of T p)

    pub entered : (c : Code) → Memᴰ c codes → (p x : ℕ) → NamesWanted s c kind wanted p x → Entered p x
    entered c m p x N =
        let b : InBuckets c (p / 16) = in_buckets P c m p N.units N.instruction in
        let h = place_of no_hit (an_entry P kind wanted c m p x N) in
        record {
          n = h.0;
          entry = record {
            in_list = h.1;
            entry = h.2;
            answer = answer_at P kind wanted i j k c m h.0 p x h.1 h.2 b
                ∙ rw (
                  lt-ltb p (stop c) (omega (arith, N.instruction.fits, N.instruction.there.some_size)),
                  to_lands (passes P c m p N.units N.instruction),
                );
            confirmed = (owner P i j k c m p b).not_free;
          };
        }

    -- a confirmed entry in a bucket of an array: its walk lands there, before the array's end
    record Walked (d : Code) (o v : ℕ) : Type 0 where
      before_end : o < stop d
      walk : Steps s (start d) o
      its : v ≡ slot_of T o

    walked_to : (d : Code) → Memᴰ d codes → (n o x v : ℕ) → Confirmed hits words n o x v → InBuckets d (o / 16) → Walked d o v
    walked_to d m n o x v C b = ⊎_elim yes no (case (ltb o (stop d) && lands s (start d) o))
      where
        a : v ≡ cond (ltb o (stop d) && lands s (start d) o) (slot_of T o) 0
        a = sym C.answer ∙ answer_at P kind wanted i j k d m n o x C.in_list C.entry b

        yes : (ltb o (stop d) && lands s (start d) o) ≡ true → Walked d o v
        yes q = record {
          before_end = ltb-true o (stop d) (and_left (ltb o (stop d)) (lands s (start d) o) q);
          walk = lands_to s (start d) o (and_right (ltb o (stop d)) (lands s (start d) o) q);
          its = rw q at a;
        }

        no : (ltb o (stop d) && lands s (start d) o) ≡ false → Walked d o v
        no q = absurd (C.confirmed (rw q at a))

    -- so it names a wanted index: no payload begins with an opcode of the kind
    names_by : (d : Code) (o x : ℕ) → Tells s kind wanted o x → Standing s (stop d) (start d) o → NamesWanted s d kind wanted o x
    names_by d o x t (payload l) = absurd (t.opcode (payload_low s P.bytes o l))
    names_by d o x t (instruction {n} r i f) =
        record { units = n; instruction = record { reached = r; there = i; fits = f }; names = t.names; is_wanted = t.is_wanted }

    -- a confirmed entry lies in a bucket of an array, names a wanted index there, and its answer is the slot of that bucket
    pub record Landed (o x v : ℕ) : Type 0 where
      pub d : Code
      pub found : Memᴰ d codes
      pub bucket : InBuckets d (o / 16)
      pub names : NamesWanted s d kind wanted o x
      pub its : v ≡ slot_of T o

    pub landed : (n o x v : ℕ) → Confirmed hits words n o x v → Landed o x v
    landed n o x v C = ⊎_elim owned unowned (owner_of codes (o / 16))
      where
        owned : (d : Code) × Memᴰ d codes × InBuckets d (o / 16) → Landed o x v
        owned r =
            let d = r.0 in
            let m = r.1 in
            let w : Walked d o v = walked_to d m n o x v C r.2 in
            record {
              d = d;
              found = m;
              bucket = r.2;
              names =
                  names_by d o x (entry_tells P kind wanted n o x C.in_list C.entry)
                  (lands_within P.bytes (P.each d m).inside (P.each d m).array.whole w.walk w.before_end);
              its = w.its;
            }

        unowned : ((d : Code) → Memᴰ d codes → InBuckets d (o / 16) → ⊥) → Landed o x v
        unowned f =
            absurd (C.confirmed (sym C.answer
            ∙ no_answer s T.starts T.shares o (slot_of T o)
            (get_or words n 0) (slot_free P i j k o f)
            (rw (off_at hits n o x C.entry) at
            ((answers P kind wanted i j k).each n (omega (arith, C.in_list, length-map hits (λ (z : Hit). z.off)))))))
