-- Scan's entries and locate's answers over the tables of a build: an instruction that names a wanted index is an entry, and the answer of an
-- entry in a bucket of an array is its slot exactly where it lies before the array's end and the walk from its start lands on it.
-- Assumes nothing.
use Prim.Native.Nat.{ℕ, ◌+◌, ◌-◌, ◌*◌, ◌/◌, ◌≤◌, ◌<◌}
use native.Mathlib.Omega.{arith}
use mathlib.Core.Path.{◌≡◌, sym, ◌∙◌, ap}
use mathlib.Core.Logic.{◌≢◌}
use mathlib.Core.Bool.{cond, ◌&&◌}
use mathlib.Core.List.Memᴰ
use mathlib.Core.List.{List, Memᴰ}
use lib.Dec.{ltb}
use lib.ListN.{length, get_or, length-map, get_or-map}
use Rattle.dalvik.specs.Numbers.{byte}
use Rattle.dalvik.specs.Formats.{length_of}
use Rattle.dalvik.specs.CodeItem.{Code, start, stop}
use Rattle.dalvik.specs.Instructions.{Kind, Names}
use Rattle.code_table.specs.Slots.{base_of}
use Rattle.code_table.specs.RegionEnd.{region_end}
use Rattle.code_table.proofs.Buckets.{base_le}
use Rattle.kinds.specs.Width.{width_of}
use Rattle.code_item_scan.specs.Scan.{Hit, is_in, Sought, sought, index_by, offs}
use Rattle.code_item_scan.proofs.Listed.{even_tried, Tested, hits_above, hits_complete, hits_sound}
use Rattle.insn_walk.specs.Walk.{lands}
use Rattle.insn_locator.specs.Locate.{Tables}
use Rattle.completeness.specs.Completeness.{Supposed, NamesWanted}
use Rattle.completeness.proofs.Outcomes.{entries_of, Rising}
use Rattle.completeness.proofs.Tests.{is_in_mem, mem_is_in}
use Rattle.completeness.proofs.Members.{at_place}
use Rattle.insn_walk.proofs.Walks.{steps_le}
use Rattle.completeness.proofs.Buckets.{InBuckets}
use Rattle.completeness.proofs.Widths.{zero_width, index_fits, Seen, named_width, width_names}
use Rattle.completeness.proofs.Locates.{Located, located}
use Rattle.completeness.proofs.Rises.{above_rising}
use Rattle.completeness.proofs.Walks.{before_end, passes, at_even}
use Rattle.completeness.proofs.Owners.{tables_for, slot_of, owner, answerable, answer_is}

abbrev pub no_hit : Hit
no_hit = record { off = 0; mark = 0 }

pub off_at : (hits : List Hit) (n o x : ℕ) → get_or hits n no_hit ≡ record { off = o; mark = x } → get_or (offs hits) n 0 ≡ o
off_at hits n o x e = get_or-map (λ (z : Hit). z.off) hits n no_hit ∙ ap (λ (z : Hit). z.off) e

-- what a hit tells: the index is one that an instruction of the kind with this opcode, which isn't 0, names, and it is wanted
pub record Tells (s : List ℕ) (kind : Kind) (wanted : List ℕ) (o x : ℕ) : Type 0 where
  pub opcode : byte s o ≢ 0
  pub names : Names s o x kind
  pub is_wanted : Memᴰ x wanted

module _ {s : List ℕ} {mapoff classes_off classes methods : ℕ} {codes : List Code} (P : Supposed s mapoff classes_off classes methods codes)
    (kind : Kind) (wanted : List ℕ) where
  abbrev from : ℕ
  from = base_of codes * 16

  abbrev to : ℕ
  to = region_end (length s) codes

  abbrev Q : Sought
  Q = sought kind (λ z. is_in z wanted) from to

  abbrev hits : List Hit
  hits = entries_of s codes kind wanted

  low : (d : Code) → Memᴰ d codes → (p x : ℕ) → NamesWanted s d kind wanted p x → from ≤ p
  low d m p x N = omega (arith, base_le m, steps_le (passes P d m p N.units N.instruction))

  -- an instruction that names a wanted index passes the scan's test
  tested : (d : Code) → Memᴰ d codes → (p x : ℕ) → NamesWanted s d kind wanted p x → Tested s Q p
  tested d m p x N = record {
    tried = even_tried kind (p - from) (omega (arith, at_even P d m p N.units N.instruction, low d m p x N));
    some_width = w.some_width;
    inside = omega (arith, room, N.instruction.fits, N.instruction.there.size, before_end P d m);
    wanted = mem_is_in {x = index_by s kind p} {ys = wanted} (rw w.index N.is_wanted);
  }
    where
      w : Seen s kind p x
      w = named_width N.names

      room : 2 + width_of kind (byte s p) ≤ 2 * length_of (byte s p)
      room = index_fits kind (byte s p) (P.bytes p) w.some_width

  -- so it is an entry, with that index beside it
  pub an_entry : (d : Code) → Memᴰ d codes → (p x : ℕ) → NamesWanted s d kind wanted p x → Memᴰ (record { off = p; mark = x }) hits
  an_entry d m p x N = rw (named_width N.names).index at (hits_complete s Q p (low d m p x N) (tested d m p x N))

  pub entries_rise : Rising (offs hits)
  entries_rise = above_rising (hits_above s Q)

  -- an entry passes the scan's test
  pub entry_tells : (n o x : ℕ) → n < length hits → get_or hits n no_hit ≡ record { off = o; mark = x } → Tells s kind wanted o x
  entry_tells n o x l e =
      let r = hits_sound s Q (record { off = o; mark = x }) (Memᴰ.cast (sym e) (at_place no_hit hits n l)) in
      let q : index_by s kind o ≡ x = sym (ap (λ (z : Hit). z.mark) r.1) in
      record {
        opcode = λ z. omega (arith, zero_width kind, rw z at r.0.some_width);
        names = rw q at (width_names s kind o r.0.some_width);
        is_wanted = rw q at (is_in_mem (index_by s kind o) wanted r.0.wanted);
      }

  -- ---- locate's answers
  module _ (i j k : ℕ) where
    abbrev T : Tables
    T = tables_for methods codes i j k

    pub answers : Located s T (offs hits)
    answers = located s T (answerable P i j k) (hits_above s Q)

    pub answer_at : (d : Code) → Memᴰ d codes → (n o x : ℕ) → n < length hits
        → get_or hits n no_hit ≡ record { off = o; mark = x } → InBuckets d (o / 16)
        → get_or answers.answers n 0 ≡ cond (ltb o (stop d) && lands s (start d) o) (slot_of T o) 0
    answer_at d m n o x h e b =
        answer_is s T codes d o (get_or answers.answers n 0) (owner P i j k d m o b)
        (rw (off_at hits n o x e) at (answers.each n (omega (arith, length-map hits (λ (z : Hit). z.off)))))
