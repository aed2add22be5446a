-- The walk finds the codes that the published class data have: each number it reads is the published one, and no test of it refuses.
-- Assumes nothing.
use Rattle.std.specs.Prelude.{None, Some}
use Prim.Native.Nat.{ℕ, ◌+◌, ◌*◌, ◌%◌, ◌≤◌, ◌<◌}
use native.Mathlib.Omega.{arith}
use mathlib.Core.Path.{◌≡◌, refl, ap}
use mathlib.Core.List.Memᴰ
use mathlib.Core.List.{List, Memᴰ}
use lib.ListN.{length}
use borrow.Author.Tests.{lt-ltb, le-ltb, le-leb, eq-eqb, ne_eqb}
use Rattle.dalvik.specs.Numbers.{Uleb128s}
use Rattle.dalvik.specs.MapList.{map_item_size, class_data_type, map_type, ClassDataEntry, NoClassDataEntry}
use Rattle.dalvik.specs.MapList.ClassDataEntry.{this, later}
use Rattle.dalvik.specs.CodeItem.{Code, insns_size}
use Rattle.dalvik.specs.ClassData.{EncodedMethods, ClassData, Successive, class_data_off, Defined, CodesOf}
use Rattle.dalvik.specs.ClassData.EncodedMethods.{without_code, with_code}
use Rattle.dalvik.specs.ClassData.Defined.{no_data, some_data}
use Rattle.dalvik.specs.ClassData.CodesOf.{by_map, without_entry, without_map}
use Rattle.leb128.proofs.Published.{ends_after, ends_inside, fast_published}
use Rattle.tinydex.specs.declared.DexHeader.{DexHeader}
use Rattle.refusal.specs.Refusals.{largest_file}
use Rattle.class_data.specs.Walk.{word, two_at, sizes_at, methods_at, most_methods, code_at, methods_from, class_data_at}
use Rattle.class_data.specs.Walk.Walk.{found}
use Rattle.class_data.proofs.Published.{on, numbers_skipped}
use Rattle.class_data.specs.Codes.{successive, defined, entry_from, map_entry, codes_of}

-- ---- field pairs: they are skipped, and are fewer than the file has bytes
numbers_few : {s : List ℕ} {n i e : ℕ} → Uleb128s s n i e → i + n ≤ e
numbers_few Uleb128s.no_more = omega arith
numbers_few (Uleb128s.one_more u r) = omega (arith, numbers_few r, ends_after u.number)

numbers_inside : {s : List ℕ} {n i e : ℕ} → Uleb128s s n i e → i ≤ length s → e ≤ length s
numbers_inside Uleb128s.no_more le = le
numbers_inside (Uleb128s.one_more u r) le = numbers_inside r (ends_inside u.number)

-- ---- methods: what the walk tests of a code
pub record Tested (s : List ℕ) (methods : ℕ) (c : Code) : Type 0 where
  pub below : c.method < methods
  pub small : c.method < most_methods
  pub header : c.off + 16 ≤ length s
  pub some_units : 0 < c.units
  pub array : c.off + 16 + 2 * c.units ≤ length s

abbrev pub AllTested : List ℕ → ℕ → List Code → Type 0
AllTested s methods cs = (c : Code) → Memᴰ c cs → Tested s methods c

module _ (s : List ℕ) (methods : ℕ) where
  methods_found : {n i m e : ℕ} {cs : List Code} → EncodedMethods s n i m cs e → AllTested s methods cs → methods_from n s methods i m ≡ found cs e
  unfolding methods_from
  methods_found EncodedMethods.no_more t = refl
  methods_found (without_code {m = m} {d = d} u h f o r) t =
      rw (fast_published u, on u, lt-ltb (m + d) word h, fast_published f, on f, fast_published o, on o)
      (methods_found r t)
  methods_found (with_code {n = n} {m = m} {d = d} {c = c} {o = o} {cs = cs} u h f w z r) t =
      let k : Tested s methods (code_at s (m + d) o) = t (code_at s (m + d) o) (Memᴰ.head refl) in
      rw (
        fast_published u,
        on u,
        lt-ltb (m + d) word h,
        fast_published f,
        on f,
        fast_published w,
        on w,
        ne_eqb o 0 z,
        lt-ltb (m + d) methods k.below,
        lt-ltb (m + d) most_methods k.small,
        le-leb (o + 16) (length s) k.header,
        lt-ltb 0 (insns_size s o) k.some_units,
        le-leb (o + 16 + 2 * insns_size s o) (length s) k.array,
        methods_found r (λ x y. t x (Memᴰ.tail y)),
      )

  -- ---- class data items
  module _ (small : length s ≤ largest_file) where
    class_data_found : {i e : ℕ} {cs : List Code} → ClassData s i cs e → AllTested s methods cs → class_data_at s methods i ≡ found cs e
    unfolding class_data_at methods_at sizes_at two_at
    class_data_found {i} {e} {cs} D t =
        rw (
          fast_published D.size_statics,
          on D.size_statics,
          fast_published D.size_instances,
          on D.size_instances,
          fast_published D.size_directs,
          on D.size_directs,
          fast_published D.size_virtuals,
          on D.size_virtuals,
          pairs,
          numbers_skipped D.fields,
          methods_found D.direct (λ x y. t x (rw (← D.all) (Memᴰ.append_left D.in_virtuals y))),
          methods_found D.virtual (λ x y. t x (rw (← D.all) (Memᴰ.append_right D.in_directs y))),
        )
        (ap (λ (l : List Code). found l e) D.all)
      where
        pairs : (D.static_fields_size + D.instance_fields_size) % word ≡ D.static_fields_size + D.instance_fields_size
        pairs = omega (arith, numbers_few D.fields, numbers_inside D.fields (ends_inside D.size_virtuals.number))

    successive_found : {n i : ℕ} {cs : List Code} → Successive s n i cs → AllTested s methods cs → (e : ℕ) × (successive n s methods i ≡ found cs e)
    unfolding successive
    successive_found {i = i} Successive.no_more t = (i, refl)
    successive_found (Successive.one_more {cs = cs} {ds = ds} D r) t =
        let o = successive_found r (λ x y. t x (Memᴰ.append_right cs y)) in
        (o.0, rw (class_data_found D (λ x y. t x (Memᴰ.append_left ds y)), o.1))

    defined_found : {n i : ℕ} {cs : List Code} → Defined s n i cs → AllTested s methods cs → (e : ℕ) × (defined n s methods i ≡ found cs e)
    unfolding defined
    defined_found {i = i} Defined.no_more t = (i, refl)
    defined_found (no_data {i = i} h z r) t =
        let o = defined_found r t in
        (o.0, rw (le-leb (i + 28) (length s) (omega arith), eq-eqb (class_data_off s i) 0 z) o.1)
    defined_found (some_data {i = i} {cs = cs} {ds = ds} h z D r) t =
        let o = defined_found r (λ x y. t x (Memᴰ.append_right cs y)) in (
          o.0,
          rw (
            le-leb (i + 28) (length s) (omega arith),
            ne_eqb (class_data_off s i) 0 z,
            class_data_found D (λ x y. t x (Memᴰ.append_left ds y)),
            o.1,
          ),
        )

-- ---- the map
entry_found : {s : List ℕ} {n i e : ℕ} → ClassDataEntry s n i e → entry_from n s i ≡ Some e
unfolding entry_from
entry_found {s} (this {i = i} h q) = rw (le-leb (i + map_item_size) (length s) h, eq-eqb (map_type s i) class_data_type q)
entry_found {s} (later {i = i} h q r) = rw (le-leb (i + map_item_size) (length s) h, ne_eqb (map_type s i) class_data_type q) (entry_found r)

no_entry_found : {s : List ℕ} {n i : ℕ} → NoClassDataEntry s n i → entry_from n s i ≡ None
unfolding entry_from
no_entry_found NoClassDataEntry.no_more = refl
no_entry_found {s} (NoClassDataEntry.one_more {i = i} h q r) =
    rw (le-leb (i + map_item_size) (length s) h, ne_eqb (map_type s i) class_data_type q) (no_entry_found r)

pub codes_found : {s : List ℕ} (h : DexHeader) {cs : List Code} → length s ≤ largest_file
    → CodesOf s h.mapoff h.classes.off h.classes.size cs → AllTested s h.methods.size cs
    → (e : ℕ) × (codes_of s h ≡ found cs e)
unfolding codes_of map_entry
codes_found {s} h small (by_map z l E S) t =
    let o = successive_found s h.methods.size small S t in
    (o.0, rw (ne_eqb h.mapoff 0 z, le-ltb (length s) (h.mapoff + 4) l, entry_found E) o.1)
codes_found {s} h small (without_entry z l E D) t =
    let o = defined_found s h.methods.size small D t in
    (o.0, rw (ne_eqb h.mapoff 0 z, le-ltb (length s) (h.mapoff + 4) l, no_entry_found E) o.1)
codes_found {s} h small (without_map z D) t =
    let o = defined_found s h.methods.size small D t in
    (o.0, rw (eq-eqb h.mapoff 0 z) o.1)
