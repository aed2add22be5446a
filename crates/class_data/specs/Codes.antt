-- The walk over all class data of a file (SPEC, Class data): which class data items are walked, by the map or
-- by the class definitions. The walk over one of them is in Walk.
-- Assumes nothing.
use Rattle.std.specs.Prelude.{ℕ, zero, suc, ◌+◌, List, [], cond, ◌||◌, length, ltb, leb, eqb, Option, None, Some}
use Rattle.dalvik.specs.Numbers.{le32}
use Rattle.dalvik.specs.MapList.{map_item_size, class_data_type, map_type, map_size, map_offset}
use Rattle.dalvik.specs.ClassData.{class_def_size, class_data_off}
use Rattle.refusal.specs.declared.Refusal.TheVariants.{TableOutside}
use Rattle.tinydex.specs.declared.DexHeader.{DexHeader}
use Rattle.class_data.specs.Walk.{Walk, and_on, class_data_at}
use Rattle.class_data.specs.Walk.Walk.{refused, found}

-- n class data items one after another
unfoldable pub successive : ℕ → List ℕ → ℕ → ℕ → Walk
successive zero s methods i = found [] i
successive (suc n) s methods i = and_on (class_data_at s methods i) (λ e. successive n s methods e)

-- the class data of n class definitions; the class data offset is the last that is read of one
unfoldable pub defined : ℕ → List ℕ → ℕ → ℕ → Walk
defined zero s methods i = found [] i
defined (suc n) s methods i =
    cond (leb (i + 28) (length s))
    (cond (eqb (class_data_off s i) 0)
    (defined n s methods (i + class_def_size))
    (and_on (class_data_at s methods (class_data_off s i)) (λ e. defined n s methods (i + class_def_size))))
    (refused TableOutside)

-- the first of n map items that is of class data; the search ends at an item that is not inside
unfoldable pub entry_from : ℕ → List ℕ → ℕ → Option ℕ
entry_from zero s i = None
entry_from (suc n) s i =
    cond (leb (i + map_item_size) (length s)) (cond (eqb (map_type s i) class_data_type) (Some i) (entry_from n s (i + map_item_size))) None

-- the map's entry of class data, where the map is there and has one
unfoldable pub map_entry : List ℕ → ℕ → Option ℕ
map_entry s mapoff = cond (eqb mapoff 0 || ltb (length s) (mapoff + 4)) None (entry_from (le32 s mapoff) s (mapoff + 4))

-- with an entry by the map alone, else by the class definitions
abbrev pub by_entry : List ℕ → DexHeader → Option ℕ → Walk
by_entry s h None = defined h.classes.size s h.methods.size h.classes.off
by_entry s h (Some e) = successive (map_size s e) s h.methods.size (map_offset s e)

unfoldable pub codes_of : List ℕ → DexHeader → Walk
codes_of s h = by_entry s h (map_entry s h.mapoff)
