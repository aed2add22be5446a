-- Room for the code table of any file. Its blocks are among those from 1 up to the file's last; a code adds one share at most; and the walk over
-- class data has no refusal of its own for room.
-- Assumes nothing.
use Prim.Native.Nat.{ℕ, ◌-◌, ◌*◌, ◌/◌, ◌^◌, ◌≤◌}
use native.Mathlib.Omega.{arith}
use mathlib.Core.Path.{◌≡◌, refl}
use mathlib.Core.Logic.{◌≢◌}
use mathlib.Core.Bool.{Bool, ◌&&◌}
use mathlib.Core.List.{List}
use lib.ListN.{length}
use lib.Dec.{leb}
use borrow.Author.Tests.{le-leb}
use Rattle.refusal.specs.Refusals.{is_too_large}
use Rattle.start_words.specs.Starts.{pairs_in}
use Rattle.tinydex.specs.declared.DexHeader.{DexHeader}
use Rattle.class_data.specs.Walk.{Walk}
use Rattle.class_data.specs.Walk.Walk.{refused, found}
use Rattle.class_data.specs.Codes.{codes_of}
use Rattle.class_data.proofs.Reasons.{Reasoned, codes_reason, never}
use Rattle.code_table.specs.Slots.{base_of, top_of, table_of}
use Rattle.code_table.specs.Build.{Room, Build, no_build, whole_build, most_shares, built_from, build_out}
use Rattle.code_table.proofs.RegionEnd.{slots_few}
use Rattle.code_table.proofs.Inside.{walked_inside}
use Rattle.completeness.proofs.Few.{shares_few}
use Rattle.room.specs.Laws.{Longer, codes_found}
use Rattle.room.proofs.Branches.{same_else, room_then, more_leb, more_both, neither}

-- ---- more room
module _ (len count : ℕ) (room room' : Room) (L : Longer room room') where
  from_more : (w : Walk) → (built_from len count room w).number ≡ 0 → built_from len count room' w ≡ built_from len count room w
  from_more (refused r) = λ e. refl
  from_more (found cs e) =
      let k : ℕ = length (table_of cs).shares in
      let n : ℕ = top_of cs - base_of cs in
      let p : Room → Bool = λ r. leb (3 * length cs) r.triples in
      let q : Room → Bool = λ r. leb n r.slots in
      let v : Room → Bool = λ r. leb k r.shares in
      room_then (λ (B : Build). B.number) (p room && q room && v room && leb k most_shares) (p room' && q room' && v room' && leb k most_shares)
      (whole_build len count cs) (whole_build len count cs) (no_build 4) (λ z. omega arith)
      (more_both (p room && q room && v room) (leb k most_shares) (p room' && q room' && v room') (leb k most_shares)
      (more_both (p room && q room) (v room) (p room' && q room') (v room')
      (more_both (p room) (q room) (p room') (q room') (more_leb (3 * length cs) room.triples room'.triples L.triples)
      (more_leb n room.slots room'.slots L.slots))
      (more_leb k room.shares room'.shares L.shares))
      (λ z. z))
      (λ z. refl)

pub build_more : (s : List ℕ) (h : DexHeader) (room room' : Room) → Longer room room' → (build_out s h room).number ≡ 0
    → build_out s h room' ≡ build_out s h room
unfolding build_out
build_more s h room room' L =
    let n : Build → ℕ = λ B. B.number in
    same_else n (is_too_large (length s)) (no_build 1) _ _
    (room_then n (leb h.methods.size (pairs_in room.starts)) (leb h.methods.size (pairs_in room'.starts)) _ _ (no_build 4) (λ z. omega arith)
    (more_leb h.methods.size (pairs_in room.starts) (pairs_in room'.starts) (omega (arith, L.starts))) (from_more (length s) h.methods.size room room' L (codes_of s h)))

-- ---- what suffices
module _ (s : List ℕ) (h : DexHeader) (room : Room) (a : 2 * h.methods.size ≤ room.starts) (b : length s / 16 ≤ room.slots) where
  from_enough : (w : Walk) → w ≡ codes_of s h → Reasoned w → 3 * codes_found w ≤ room.triples → 3 * codes_found w ≤ room.shares → codes_found w ≤ 2 ^ 31
      → (built_from (length s) h.methods.size room w).number ≢ 4
  from_enough (refused r) q n c d e = never 4 refl n
  from_enough (found cs x) q n c d e =
      let k : length (table_of cs).shares ≤ 3 * length cs = shares_few cs in
      rw (
        le-leb (3 * length cs) room.triples c,
        le-leb (top_of cs - base_of cs) room.slots (omega (arith, slots_few (length s) cs (walked_inside s h cs x q))),
        le-leb (length (table_of cs).shares) room.shares (omega arith),
        le-leb (length (table_of cs).shares) most_shares (omega arith),
      )
      (λ z. omega arith)

  pub build_enough : 3 * codes_found (codes_of s h) ≤ room.triples → 3 * codes_found (codes_of s h) ≤ room.shares → codes_found (codes_of s h) ≤ 2 ^ 31
      → (build_out s h room).number ≢ 4
  unfolding build_out
  build_enough c d e =
      neither (λ (B : Build). B.number) (is_too_large (length s)) (no_build 1) _ (λ z. omega arith)
      (rw (le-leb h.methods.size (pairs_in room.starts) (omega arith)) (from_enough (codes_of s h) refl (codes_reason s h) c d e))
