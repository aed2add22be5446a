-- Room for a file as demand 3 supposes: that its own lengths suffice is shown with the statement (crate completeness); a kind that is none is
-- refused by the scan, and a slot lists no more methods than there are codes.
-- Assumes nothing.
use Rattle.std.specs.Prelude.{Option, None, Some}
use Prim.Native.Nat.{ℕ, ◌≤◌}
use native.Mathlib.Omega.{arith}
use mathlib.Core.Path.{◌≡◌, refl, ap, ◌∙◌}
use mathlib.Core.Logic.{◌≢◌, ⊎_elim}
use mathlib.Core.Bool.{true, false}
use mathlib.Core.List.{List, [], ◌∷◌}
use lib.Dec.{eqb}
use lib.ListN.{length}
use borrow.Author.Tests.{le-ltb}
use Rattle.words.proofs.Shared.{case}
use Rattle.refusal.specs.Refusals.{largest_file}
use Rattle.tinydex.specs.declared.DexHeader.{DexHeader}
use Rattle.dalvik.specs.CodeItem.{Code}
use Rattle.dalvik.specs.Instructions.{Kind}
use Rattle.dalvik.specs.Instructions.Kind.{strings}
use Rattle.kinds.specs.Kinds.{kind_of, kind_number}
use Rattle.code_table.specs.Build.{Room, Build, build_out}
use Rattle.code_table.specs.Answer.{room_of}
use Rattle.code_item_scan.specs.Scan.{scan_out}
use Rattle.completeness.specs.Completeness.{Supposed, FindWords, Enough, sharing}
use Rattle.completeness.proofs.Outcomes.{Lent}
use Rattle.completeness.proofs.Tried.{its_number}
use Rattle.completeness.proofs.Demand.{build_is}
use Rattle.completeness.proofs.Enough.{codes_most, table_enough, enough_suffices}
use Rattle.region_search.specs.Search.{search_out}
use Rattle.findrefs.specs.Find.{lengths_of, Find, search_of, find_out}
use Rattle.findrefs.proofs.Laws.{found_number}
use Rattle.findrefs.proofs.Promised.{suffices_not_four}
use Rattle.room.specs.Enough.{build_room}
use Rattle.room.specs.Laws.{Longer, EnoughSupposed}
use Rattle.room.proofs.Finder.{find_is}

sharing_few : (cs : List Code) (o : ℕ) → length (sharing cs o) ≤ length cs
sharing_few [] o = omega arith
sharing_few (c ∷ cs) o =
    ⊎_elim
    (λ (h : eqb c.off o ≡ true). rw h (omega (arith, sharing_few cs o)))
    (λ (h : eqb c.off o ≡ false). rw h (omega (arith, sharing_few cs o)))
    (case (eqb c.off o))

module _ (s : List ℕ) (h : DexHeader) (codes : List Code)
    (P : Supposed s h.mapoff h.classes.off h.classes.size h.methods.size codes) where
  -- a build's room, with nothing lent to the other operations
  only : Room → Lent
  only room = record { build = room; slots = 0; starts = 0; shares = 0; hits = record { offs = 0; marks = 0 }; answers = 0; further = 0 }

  builds : (room : Room) → Longer (build_room (length s) h) room → (build_out s h room).number ≡ 0
  unfolding only
  builds room M =
      ap (λ (B : Build). B.number)
      (build_is s h codes P strings [] (only room) (table_enough P room M.starts M.triples M.slots M.shares))

  -- a kind that is none is refused by the scan
  unknown : (k : ℕ) (wanted : List ℕ) (w : FindWords) → Enough (length s) h.methods.size k w → kind_of k ≡ None
      → (find_out s h k wanted (lengths_of w)).number ≡ 2
  unfolding search_out scan_out
  unknown k wanted w E e =
      let B : Build = build_out s h (room_of w.table) in
      let b : B.number ≡ 0 =
      builds (room_of w.table) (record { starts = E.starts; triples = E.triples; slots = E.slots; shares = E.shares }) in
      ap (λ (o : Find). o.number) (find_is s h k wanted (lengths_of w) b)
      ∙ (found_number B (search_of s k wanted (lengths_of w) B) ∙ rw (le-ltb largest_file (length s) P.small, e))

  by_kind : (k : ℕ) (wanted : List ℕ) (w : FindWords) → Enough (length s) h.methods.size k w → (o : Option Kind) → kind_of k ≡ o
      → (find_out s h k wanted (lengths_of w)).number ≢ 4
  by_kind k wanted w E None e = λ z. omega (arith, unknown k wanted w E e)
  by_kind k wanted w E (Some kind) e =
      let q : k ≡ kind_number kind = its_number k kind e in
      let F : Enough (length s) h.methods.size (kind_number kind) w = rw q at E in
      rw q (suffices_not_four s h kind wanted w codes P (enough_suffices P kind wanted w F))

pub enough_supposed : EnoughSupposed
enough_supposed s h codes P = record {
  code_table = builds s h codes P;
  finder = λ k wanted w E. by_kind s h codes P k wanted w E (kind_of k) refl;
  listing = λ c m. omega (arith, sharing_few codes c.off, codes_most P);
}
