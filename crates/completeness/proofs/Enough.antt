-- Buffers that suffice for a supposed file can be had beforehand: there are no more entries than starts are tried, no more slots than blocks,
-- and no more codes, shares or methods of one code than method ids.
-- Assumes nothing.
use Prim.Native.Nat.{ℕ, ◌-◌, ◌*◌, ◌/◌, ◌≤◌}
use native.Mathlib.Omega.{arith}
use mathlib.Core.List.{List}
use lib.ListN.{length}
use Rattle.dalvik.specs.CodeItem.{Code}
use Rattle.dalvik.specs.Instructions.{Kind}
use Rattle.kinds.specs.Kinds.{kind_number}
use Rattle.code_table.specs.Slots.{base_of}
use Rattle.code_table.specs.RegionEnd.{region_end}
use Rattle.code_table.proofs.RegionEnd.{end_inside, slots_few}
use Rattle.code_table.specs.Build.{Room}
use Rattle.code_table.specs.Answer.{room_of}
use Rattle.code_item_scan.specs.Answers.{hit_room_of}
use Rattle.completeness.specs.Completeness.{Supposed, FindWords, most_entries, Enough}
use Rattle.completeness.proofs.Outcomes.{Lent, entries_of, HoldsTable, Suffices}
use Rattle.completeness.proofs.Few.{codes_few, shares_few}
use Rattle.completeness.proofs.Walks.{all_inside}
use Rattle.completeness.proofs.Tried.{words_more, few_hits}
use Rattle.completeness.proofs.Demand.{kind_read}

-- the room that lent slices have, of which the whole is passed on, but of the start words those of the methods, two for each
abbrev pub lent_of : ℕ → FindWords → Lent
lent_of methods w = record {
  build = room_of w.table;
  slots = length w.table.slots;
  starts = 2 * methods;
  shares = length w.table.shares;
  hits = hit_room_of w.hits;
  answers = length w.located.answers;
  further = length w.located.further;
}

module _ {s : List ℕ} {mapoff classes_off classes methods : ℕ} {codes : List Code} (P : Supposed s mapoff classes_off classes methods codes) where
  pub codes_most : length codes ≤ methods
  codes_most = codes_few methods codes P.once (λ c m. (P.each c m).below)

  entries_most : (kind : Kind) (wanted : List ℕ) → length (entries_of s codes kind wanted) ≤ most_entries (kind_number kind) (length s)
  entries_most kind wanted =
      omega (
        arith,
        few_hits s wanted (base_of codes * 16) (region_end (length s) codes) (kind_number kind) kind (kind_read kind),
        words_more (kind_number kind) (region_end (length s) codes - base_of codes * 16) (length s) (omega (arith, end_inside (length s) codes)),
      )

  pub table_enough : (room : Room) → 2 * methods ≤ room.starts → 3 * methods ≤ room.triples → length s / 16 ≤ room.slots → 3 * methods ≤ room.shares
      → HoldsTable methods codes room
  table_enough room a b c d =
      let f : length codes ≤ methods = codes_most in
      record {
        starts = a;
        triples = omega arith;
        slots = omega (arith, slots_few (length s) codes (all_inside P));
        shares = omega (arith, shares_few codes);
      }

  pub enough_suffices : (kind : Kind) (wanted : List ℕ) (w : FindWords) → Enough (length s) methods (kind_number kind) w
      → Suffices s methods codes kind wanted (lent_of methods w)
  enough_suffices kind wanted w E =
      let e : length (entries_of s codes kind wanted) ≤ most_entries (kind_number kind) (length s) = entries_most kind wanted in
      record {
        build = table_enough (lent_of methods w).build E.starts E.triples E.slots E.shares;
        offs = omega (arith, E.offs);
        marks = omega (arith, E.marks);
        answers = omega (arith, E.answers);
        starts_passed = omega arith;
        further = omega (arith, E.further);
      }
