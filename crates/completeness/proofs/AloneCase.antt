-- What is not promised of an entry by itself, by computation on the whole case (SPEC, The program refs): a list that falls, and tables that no build
-- returned. Its array at 64 has const-string, return-void at 68 and nop at 70, and its one slot word is 1.
-- Assumes nothing.
use Prim.Native.Nat.{ℕ}
use native.Mathlib.Omega.{arith}
use mathlib.Core.Path.{◌≡◌, refl, sym, ap, ◌∙◌}
use mathlib.Core.List.{[], ◌∷◌}
use Rattle.words.specs.Padded.{padded, stretch}
use Rattle.refusal.specs.Outcomes.{Outcome, refused, success}
use Rattle.dalvik.specs.Numbers.{le16, le32}
use Rattle.opcodes.specs.Length.{units_of}
use Rattle.leb128.specs.Leb.{uleb, uleb_fast, uleb_len}
use Rattle.class_data.specs.Walk.{skipped, two_at, sizes_at, methods_at, methods_from, class_data_at}
use Rattle.class_data.specs.Codes.{defined, map_entry, codes_of}
use Rattle.class_data.specs.Stored.{triples_of, starts_of}
use Rattle.start_words.specs.Starts.{with_array, no_starts, pair_of}
use Rattle.code_table.specs.Slots.{joined, joined_slot, place, table_of}
use Rattle.code_table.specs.RegionEnd.{region_end}
use Rattle.code_table.specs.Build.{Room, build_out}
use Rattle.insn_walk.specs.Walk.{payload_units, step, walk_in, walk}
use Rattle.insn_locator.specs.Locate.{Tables, slot_at, first_of, locate_from, locate_all, locate_out}
use Rattle.insn_locator.specs.Answers.{tables}
use Rattle.insn_locator.specs.Alone.{Returned, alone_out}
use Rattle.insn_locator.proofs.Clauses.{returned_succeeds}
use Rattle.completeness.proofs.Case.{file, header}

room : Room
room = record { starts = 2; triples = 3; slots = 1; shares = 0 }

-- what the build of the whole case leaves
built : Tables
built = tables 4 (1 ∷ []) (64 ∷ 72 ∷ []) []

-- the same, and a slot word more, for a method that has no start words
made_up : Tables
made_up = tables 4 (1 ∷ 2 ∷ []) (64 ∷ 72 ∷ []) []

record NotPromised : Type 0 where
  pub returned : Returned file built
  -- 68 is confirmed, and after it 64 is not, for the walk goes on from 68; alone it is
  pub falls : locate_out file built (68 ∷ 64 ∷ []) 2 1 ≡ success (1 ∷ 0 ∷ [])
  pub in_order : locate_out file built (64 ∷ 68 ∷ []) 2 1 ≡ success (1 ∷ 1 ∷ [])
  pub alone : alone_out file built 64 ≡ success (1 ∷ [])
  -- over tables that are made up 64 is confirmed alone, and refused with 80, which asks for what is not there
  pub refused_with_another : locate_out file made_up (64 ∷ 80 ∷ []) 2 1 ≡ refused 15
  pub alone_made_up : alone_out file made_up 64 ≡ success (1 ∷ [])

not_promised : NotPromised
unfolding room built made_up file header
    build_out codes_of map_entry defined class_data_at methods_at sizes_at two_at methods_from skipped uleb_fast uleb uleb_len
    le16 le32 triples_of starts_of with_array no_starts pair_of table_of region_end place joined joined_slot stretch padded
    locate_out locate_all locate_from slot_at first_of walk walk_in step payload_units units_of
not_promised = record {
  returned = record {
    header = header;
    room = room;
    succeeds = refl;
    left = record {
      base = refl;
      slots = record { count = 1; same = refl };
      starts = record { count = 2; same = refl };
      shares = record { count = 0; same = refl };
    };
  };
  falls = refl;
  in_order = refl;
  alone = refl;
  refused_with_another = refl;
  alone_made_up = refl;
}

-- so these are no build's
no_build : Returned file made_up → ⊥
unfolding made_up
no_build R =
    let z : ◌≡◌ {A = ℕ} 15 0 = ap (λ (o : Outcome). o.number) (sym not_promised.refused_with_another)
    ∙ returned_succeeds file made_up (64 ∷ 80 ∷ []) 2 1 R (omega arith) (omega arith) in
    omega arith
