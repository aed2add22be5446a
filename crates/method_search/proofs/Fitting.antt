-- Methods that fit, from one on: that method, if it fits, and those after it. Whether one fits can be told, so they have a rising
-- list; and with the types and strings found they are the methods found.
-- Assumes nothing.
use Rattle.std.specs.Prelude.{Option, Some, None}
use Prim.Native.Nat.{ℕ, zero, suc, ◌+◌, ◌≤◌, ◌<◌}
use native.Mathlib.Omega.{arith}
use mathlib.Core.Path.{◌≡◌, refl, sym, subst}
use mathlib.Core.Bool.{Bool, true, false}
use mathlib.Core.Logic.{◌⊎◌, inl, inr, ⊎_elim}
use mathlib.Core.List.{List, [], ◌∷◌}
use lib.ListN.{length}
use lib.Dec.{eqb, ltb}
use borrow.Author.Tests.{lt-ltb, le-ltb, ltb-true, eqb-true, eqb-false}
use Rattle.words.proofs.Shared.{case}
use Rattle.dalvik.specs.Ids.{method_class_idx, method_name_idx}
use Rattle.word_set.specs.Sets.{In, SetOf}
use Rattle.word_set.specs.Steps.{Decides, Matched}
use Rattle.word_set.proofs.Sets.{below_or_not, in_none, in_here, in_cons, in_cases, Listed, set_none, set_with, set_same}
use Rattle.word_set.proofs.Collected.{Collected, collect_pass, collect_insert, collect_full}
use Rattle.string_search.specs.Search.{Owns}
use Rattle.string_search.proofs.Listing.{owners_listed}
use Rattle.type_search.specs.Types.{TypeFound}
use Rattle.type_search.proofs.Types.{types_found}
use Rattle.method_search.specs.Steps.{Among, Sieve, sieve_for, Fits, Fitting, asked_count, Stepped, joined, passed}
use Rattle.method_search.specs.Methods.{Asked, MethodFound}

in_or_not : (x : ℕ) (xs : List ℕ) → In x xs ⊎ (In x xs → ⊥)
in_or_not x [] = inr (λ i. in_none i)
in_or_not x (y ∷ ys) =
    ⊎_elim (λ (e : eqb x y ≡ true). inl (subst (λ (z : ℕ). In z (y ∷ ys)) (sym (eqb-true x y e)) (in_here y ys)))
    (λ (e : eqb x y ≡ false). ⊎_elim (λ (i : In x ys). inl (in_cons y i))
    (λ (n : In x ys → ⊥). inr (λ i. ⊎_elim (λ (d : x ≡ y). eqb-false x y e d) (λ (d : In x ys). n d) (in_cases i))) (in_or_not x ys))
    (case (eqb x y))

among_or_not : (asked : Bool) (xs : List ℕ) (x : ℕ) → Among asked xs x ⊎ (Among asked xs x → ⊥)
among_or_not true xs x = ⊎_elim (λ (i : In x xs). inl (λ _. i)) (λ (n : In x xs → ⊥). inr (λ m. n (m refl))) (in_or_not x xs)
among_or_not false xs x = inl (λ e. absurd (let z : ◌≡◌ {A = ℕ} 0 1 = cc in omega arith))

module _ (v : Sieve) where
  -- both tests of a method, with its class_idx and name_idx as they were read
  module _ (i x : ℕ) (ex : x ≡ method_class_idx v.file v.off i) (r : Bool) (d : Decides (Among v.by_class v.types x) r) where
    pub class_other : r ≡ false → Decides (Fits v i) false
    class_other e =
        record {
          yes = λ h. absurd (let z : ◌≡◌ {A = ℕ} 0 1 = cc in omega arith);
          no = λ h f. d.no e (subst (Among v.by_class v.types) (sym ex) f.class);
        }

    pub class_fits : r ≡ true → (y : ℕ) → y ≡ method_name_idx v.file v.off i → (t : Bool) → Decides (Among v.by_name v.names y) t
        → Decides (Fits v i) t
    class_fits e y ey t g = record {
      yes = λ h. record { class = subst (Among v.by_class v.types) ex (d.yes e); name = subst (Among v.by_name v.names) ey (g.yes h) };
      no = λ h f. g.no h (subst (Among v.by_name v.names) (sym ey) f.name);
    }

  fits_or_not : (i : ℕ) → Fits v i ⊎ (Fits v i → ⊥)
  fits_or_not i =
      ⊎_elim (λ (a : Among v.by_class v.types (method_class_idx v.file v.off i)). ⊎_elim
      (λ (b : Among v.by_name v.names (method_name_idx v.file v.off i)). inl record { class = a; name = b })
      (λ (b : Among v.by_name v.names (method_name_idx v.file v.off i) → ⊥). inr (λ f. b f.name))
      (among_or_not v.by_name v.names (method_name_idx v.file v.off i)))
      (λ (a : Among v.by_class v.types (method_class_idx v.file v.off i) → ⊥). inr (λ f. a f.class))
      (among_or_not v.by_class v.types (method_class_idx v.file v.off i))

  pub fitting_listed : (count : ℕ) → Listed (Fitting v count)
  fitting_listed zero = set_none (λ x f. omega (arith, f.below))
  fitting_listed (suc count) =
      let l = fitting_listed count in
      ⊎_elim (λ (h : Fits v count). let w = set_with count l in
      record {
        list = w.list;
        set = set_same
            (λ x m. ⊎_elim (λ (e : x ≡ count). record { below = omega arith; fits = subst (Fits v) (sym e) h })
            (λ (f : Fitting v count x). record { below = omega (arith, f.below); fits = f.fits }) m)
            (λ x f. ⊎_elim (λ (k : x < count). inr record { below = k; fits = f.fits }) (λ (k : count ≤ x). inl (omega (arith, f.below)))
            (below_or_not x count)) w.set;
      })
      (λ (h : Fits v count → ⊥).
      record {
        list = l.list;
        set = set_same (λ x f. record { below = omega (arith, f.below); fits = f.fits })
            (λ x f. ⊎_elim (λ (k : x < count). record { below = k; fits = f.fits })
            (λ (k : count ≤ x). absurd (h (let e : x ≡ count = omega (arith, f.below) in subst (Fits v) e f.fits))) (below_or_not x count))
            l.set;
      })
      (fits_or_not count)

  -- the loop: methods from i on
  module _ (count : ℕ) where
    abbrev From : ℕ → ℕ → Type 0
    From i x = (i ≤ x) × Fitting v count x

    pub none_from : (i : ℕ) → count ≤ i → (x : ℕ) → From i x → ⊥
    none_from i h x f = omega (arith, f.0, f.1.below)

    cases : (i x : ℕ) → From i x → (x ≡ i) ⊎ From (i + 1) x
    cases i x f = ⊎_elim (λ (k : i < x). inr (omega arith, f.1)) (λ (k : x ≤ i). inl (omega (arith, f.0))) (below_or_not i x)

    later : (i x : ℕ) → From (i + 1) x → From i x
    later i x f = (omega (arith, f.0), f.1)

    here : (i : ℕ) → i < count → Fits v i → From i i
    here i h f = (omega arith, record { below = h; fits = f })

    module _ {room n i : ℕ} {out : List ℕ} (c : Collected (Fitting v count) (λ x. From i x) room n out) (h : i < count) where
      pub turn : {m : ℕ} {after : List ℕ} {r : (Option ℕ)} → Stepped (Fits v i) i n out after r → r ≡ Some m
          → Collected (Fitting v count) (λ x. From (i + 1) x) room m after
      turn {m} {after} {r} (joined a ins) e = collect_insert c (later i) i (here i h a) after r ins m (cases i) e
      turn {m} {after} {r} (passed a w b) e =
          collect_pass c (later i)
          (λ x d. ⊎_elim (λ (g : x ≡ i). absurd (a (subst (Fits v) g d.1.fits))) (λ (g : From (i + 1) x). g) (cases i x d)) w b e

      pub no_room : {after : List ℕ} {r : (Option ℕ)} → Stepped (Fits v i) i n out after r → r ≡ None
          → (l : List ℕ) → SetOf (Fitting v count) l → room < length l
      no_room {after} {r} (joined a ins) e = collect_full c (later i) i (here i h a) after r ins e
      no_room {after} {r} (passed a w b) e = absurd (let z : ◌≡◌ {A = ℕ} 0 1 = cc in omega arith)

pub recount : {v : Sieve} {count count' : ℕ} {out out' : List ℕ} {r : (Option ℕ)} → count ≡ count' → Matched (Fitting v count) out out' r
    → Matched (Fitting v count') out out' r
recount {v} {count} {count'} {out} {out'} {r} e m = subst (λ (k : ℕ). Matched (Fitting v k) out out' r) e m

-- all of them are to come at first
pub from_start : {P : ℕ → Type 0} {room : ℕ} {out : List ℕ} → Collected P P room 0 out → Collected P (λ x. (0 ≤ x) × P x) room 0 out
from_start c = record { kept = c.kept; sound = c.sound; rest = λ x q. q.1; complete = λ x p. inr (omega arith, p) }

-- the methods found
module _ (k : Asked) where
  module _ (types names : List ℕ) (t : SetOf (TypeFound k.area k.query.class k.types) types) (o : SetOf (Owns k.area k.query.name) names) where
    abbrev Fit : ℕ → Type 0
    Fit x = Fitting (sieve_for k types names) (asked_count k.methods.size (ltb 0 (length k.query.class)) (ltb 0 (length k.query.name))) x

    some_asked : (x : ℕ) → x < asked_count k.methods.size (ltb 0 (length k.query.class)) (ltb 0 (length k.query.name))
        → (x < k.methods.size) × (0 < length k.query.class + length k.query.name)
    some_asked x h =
        ⊎_elim (λ (c : 0 < length k.query.class). let q : ltb 0 (length k.query.class) ≡ true = lt-ltb 0 (length k.query.class) c in
        (rw q at h, omega arith))
        (λ (c : length k.query.class ≤ 0). let q : ltb 0 (length k.query.class) ≡ false = le-ltb 0 (length k.query.class) c in
        ⊎_elim (λ (d : 0 < length k.query.name). let p : ltb 0 (length k.query.name) ≡ true = lt-ltb 0 (length k.query.name) d in
        (rw (q, p) at h, omega arith))
        (λ (d : length k.query.name ≤ 0). let p : ltb 0 (length k.query.name) ≡ false = le-ltb 0 (length k.query.name) d in absurd
        (let z : x < 0 = rw (q, p) at h in omega arith)) (below_or_not 0 (length k.query.name)))
        (below_or_not 0 (length k.query.class))

    all_asked : (x : ℕ) → x < k.methods.size → 0 < length k.query.class + length k.query.name
        → x < asked_count k.methods.size (ltb 0 (length k.query.class)) (ltb 0 (length k.query.name))
    all_asked x h g =
        ⊎_elim
        (λ (c : 0 < length k.query.class). let q : ltb 0 (length k.query.class) ≡ true = lt-ltb 0 (length k.query.class) c in rw q h)
        (λ (c : length k.query.class ≤ 0).
        let q : ltb 0 (length k.query.class) ≡ false = le-ltb 0 (length k.query.class) c in
        let p : ltb 0 (length k.query.name) ≡ true = lt-ltb 0 (length k.query.name) (omega arith) in rw (q, p) h)
        (below_or_not 0 (length k.query.class))

    pub found_fit : (x : ℕ) → Fit x → MethodFound k x
    found_fit x f =
        let b = some_asked x f.below in
        record {
          below = b.0;
          given = b.1;
          of_class = λ h. t.sound (method_class_idx k.area.file k.methods.off x) (f.fits.class (lt-ltb 0 (length k.query.class) h));
          of_name = λ h. o.sound (method_name_idx k.area.file k.methods.off x) (f.fits.name (lt-ltb 0 (length k.query.name) h));
        }

    pub fit_found : (x : ℕ) → MethodFound k x → Fit x
    fit_found x m = record {
      below = all_asked x m.below m.given;
      fits = record {
        class = λ h. t.complete (method_class_idx k.area.file k.methods.off x) (m.of_class (ltb-true 0 (length k.query.class) h));
        name = λ h. o.complete (method_name_idx k.area.file k.methods.off x) (m.of_name (ltb-true 0 (length k.query.name) h));
      };
    }

    listed_here : Listed (MethodFound k)
    listed_here =
        let l =
        fitting_listed (sieve_for k types names)
        (asked_count k.methods.size (ltb 0 (length k.query.class)) (ltb 0 (length k.query.name))) in
        record { list = l.list; set = set_same found_fit fit_found l.set }

  pub methods_listed : Listed (MethodFound k)
  methods_listed =
      let t = types_found k.types k.area k.query.class in
      let o = owners_listed k.area k.query.name in
      listed_here t.list o.list t.set o.set
