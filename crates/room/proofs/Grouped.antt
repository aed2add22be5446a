-- Room for groups and for the string map. A pool of that many keys has one offset more, no more ids are grouped than there are, and the map's
-- test of room asks for a key a string before it looks at any.
-- Assumes nothing.
use Rattle.std.specs.Prelude.{Option, Some, None}
use Prim.Native.Nat.{ℕ, suc, ◌+◌, ◌≤◌}
use native.Mathlib.Omega.{arith}
use mathlib.Core.Path.{◌≡◌, ap₂}
use mathlib.Core.Logic.{◌≢◌, ⊎_elim}
use mathlib.Core.Bool.{false}
use mathlib.Core.List.{List, [], ◌∷◌}
use lib.ListN.{length}
use lib.Dec.{ltb, leb, eqb}
use borrow.Author.Tests.{le-ltb}
use Rattle.dalvik.specs.Ids.{item, string_id_size, method_id_size, method_class_idx, method_name_idx}
use Rattle.refusal.specs.Refusals.{is_too_large}
use Rattle.tinydex.specs.declared.DexHeader.{DexHeader}
use Rattle.tinydex.specs.declared.Table.{Table}
use Rattle.groups.specs.Groups.{grouped, offsets, start}
use Rattle.groups.specs.Built.{GroupWords, groups_of, short, passes, Outcome, fitting, outcome, refused}
use Rattle.groups.specs.Join.{first_refusal}
use Rattle.groups.proofs.Join.{zero_first, first_among}
use Rattle.groups.proofs.Lists.{length_tabulate}
use Rattle.groups.proofs.Groups.{few}
use Rattle.method_locator.specs.Built as m
use Rattle.string_data.specs.Text.{first_zero, on_zero}
use Rattle.string_locator.proofs.LengthBytes.{length_any}
use Rattle.string_locator.specs.Map.{MapOutcome, none, area, greatest, text_area, strings_area, map_outcome}
use Rattle.room.specs.Laws.{LongerGroups}
use Rattle.room.proofs.Branches.{same_else, room_else, more_ltb, more_either, neither}

-- ---- more room
more_short : (g : GroupWords) (l m l' m' : ℕ) → l ≤ l' → m ≤ m' → short g l m ≡ false → short g l' m' ≡ false
more_short g l m l' m' a b =
    more_either (ltb l (length g.offs)) (ltb m (length g.ids)) (ltb l' (length g.offs)) (ltb m' (length g.ids))
    (more_ltb (length g.offs) l l' a) (more_ltb (length g.ids) m m' b)

fitting_more : (g : GroupWords) (l m l' m' : ℕ) → l ≤ l' → m ≤ m' → (fitting g l m).number ≡ 0 → fitting g l' m' ≡ fitting g l m
unfolding fitting
fitting_more g l m l' m' a b =
    room_else (λ (o : Outcome). o.number) (short g l m) (short g l' m') (refused 4) (record { number = 0; groups = g }) (λ e. omega arith)
    (more_short g l m l' m' a b)

pub groups_more : (len : ℕ) (t : Table) (size : ℕ) (g before before' : GroupWords) → LongerGroups before before'
    → (outcome len t size g before).number ≡ 0
    → outcome len t size g before' ≡ outcome len t size g before
unfolding outcome
groups_more len t size g b b' m =
    let n : Outcome → ℕ = λ o. o.number in
    same_else n (is_too_large len) (refused 1) _ _
    (same_else n (passes len t size) (refused 3) _ _
    (fitting_more g (length b.offs) (length b.ids) (length b'.offs) (length b'.ids) m.offs m.ids))

pub methods_more : (s : List ℕ) (h : DexHeader) (before before' : m.MethodWords) → LongerGroups before.clz before'.clz
    → LongerGroups before.name before'.name
    → (m.outcome s h before).number ≡ 0 → m.outcome s h before' ≡ m.outcome s h before
unfolding m.joint
methods_more s h before before' a b e =
    let c = zero_first (m.clz_outcome s h before.clz).number ((m.name_outcome s h before.name).number ∷ []) e in
    let f = zero_first (m.name_outcome s h before.name).number [] c.1 in
    ap₂ m.joint (groups_more (length s) h.methods method_id_size (m.clz_groups s h) before.clz before'.clz a c.0)
    (groups_more (length s) h.methods method_id_size (m.name_groups s h) before.name before'.name b f.0)

pub map_more : (s : List ℕ) (table n lent lent' : ℕ) → lent ≤ lent' → (map_outcome s table n lent).number ≡ 0
    → map_outcome s table n lent' ≡ map_outcome s table n lent
unfolding map_outcome
map_more s table n lent lent' a =
    let f : MapOutcome → ℕ = λ o. o.number in
    same_else f (is_too_large (length s)) (none 1) _ _
    (same_else f (eqb n 0) (area 0 0 0) _ _
    (same_else f (ltb (length s) (item table string_id_size n)) (none 3) _ _
    (room_else f (ltb lent n) (ltb lent' n) (none 4) (strings_area s table n) (λ e. omega arith) (more_ltb n lent lent' a))))

-- ---- what suffices
not_short : (key : ℕ → ℕ) (n pool l m : ℕ) → pool + 1 ≤ l → n ≤ m → short (groups_of key n pool) l m ≡ false
unfolding groups_of
not_short key n pool l m a b =
    rw (
      le-ltb l (length (offsets key n pool)) (omega (arith, length_tabulate (start key n) (suc pool))),
      le-ltb m (length (grouped key n pool)) (omega (arith, few key n pool)),
    )

pub groups_enough : (len : ℕ) (t : Table) (size : ℕ) (key : ℕ → ℕ) (pool : ℕ) (before : GroupWords) → pool + 1 ≤ length before.offs
    → t.size ≤ length before.ids
    → (outcome len t size (groups_of key t.size pool) before).number ≢ 4
unfolding outcome fitting
groups_enough len t size key pool before a b =
    let n : Outcome → ℕ = λ o. o.number in
    neither n (is_too_large len) (refused 1) _ (λ e. omega arith)
    (neither n (passes len t size) (refused 3) _ (λ e. omega arith)
    (rw (not_short key t.size pool (length before.offs) (length before.ids) a b) (λ e. omega arith)))

pub methods_enough : (s : List ℕ) (h : DexHeader) (before : m.MethodWords) → h.types.size + 1 ≤ length before.clz.offs
    → h.methods.size ≤ length before.clz.ids
    → h.strings.size + 1 ≤ length before.name.offs → h.methods.size ≤ length before.name.ids → (m.outcome s h before).number ≢ 4
unfolding m.joint first_refusal
methods_enough s h before a b c d e =
    ⊎_elim (groups_enough (length s) h.methods method_id_size (method_class_idx s h.methods.off) h.types.size before.clz a b)
    (λ z. ⊎_elim (groups_enough (length s) h.methods method_id_size (method_name_idx s h.methods.off) h.strings.size before.name c d)
    (λ y. omega arith)
    (first_among (m.name_outcome s h before.name).number [] 4 z))
    (first_among (m.clz_outcome s h before.clz).number ((m.name_outcome s h before.name).number ∷ []) 4 e)

-- after the test of room there is only 5
abbrev Not : MapOutcome → Type 0
Not o = o.number ≢ 4

at_zero : (r : Option ℕ) (f : ℕ → MapOutcome) → ((k : ℕ) → Not (f k)) → Not (on_zero r (none 5) f)
at_zero (Some n) f g = g n
at_zero None f g = λ e. omega arith

area_five : (s : List ℕ) (table n : ℕ) → Not (strings_area s table n)
unfolding strings_area text_area
area_five s table n =
    neither (λ (o : MapOutcome). o.number) (leb (length s) (greatest s table n)) (none 5) _ (λ e. omega arith)
    (length_any Not s (greatest s table n) (none 5) _ (λ e. omega arith) (λ k. at_zero (first_zero s (greatest s table n + k)) _ (λ x e. omega arith)))

pub map_enough : (s : List ℕ) (table n lent : ℕ) → n ≤ lent → (map_outcome s table n lent).number ≢ 4
unfolding map_outcome
map_enough s table n lent a =
    let f : MapOutcome → ℕ = λ o. o.number in
    neither f (is_too_large (length s)) (none 1) _ (λ e. omega arith)
    (neither f (eqb n 0) (area 0 0 0) _ (λ e. omega arith)
    (neither f (ltb (length s) (item table string_id_size n)) (none 3) _ (λ e. omega arith)
    (rw (le-ltb lent n a) (area_five s table n))))
