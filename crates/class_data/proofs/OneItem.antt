-- A class data item by its methods: the virtual methods go on from what the direct methods left, and no more codes are found than the file
-- has bytes.
-- Assumes nothing.
use Rattle.std.specs.Prelude.{Ok}
use Prim.Native.Nat.{ℕ, ◌+◌, ◌≤◌}
use native.Mathlib.Omega.{arith}
use mathlib.Core.Path.{◌≡◌, ap, ◌∙◌}
use mathlib.Core.List.{List}
use lib.ListN.{length}
use Rattle.refusal.specs.declared.Refusal.{Refusal}
use Rattle.class_data.specs.Walk.{Walk, and_on, methods_at, methods_from, class_data_at}
use Rattle.class_data.specs.declared.item.Methods.{Methods}
use Rattle.class_data.proofs.Parts.{class_from}
use Rattle.class_data.proofs.Within.{methods_in, class_in}
use Rattle.class_data.specs.Steps.{Kept, MethodsPre, ItemPre, Left, stored}
use Rattle.class_data.specs.Steps.Left.{refusal, left}
use Rattle.class_data.proofs.Kept.{stored_on, stored_refused, refused_stored, left_by, Turn}

-- the direct methods begin inside the file
pub methods_first : (s : List ℕ) (i k : ℕ) → ItemPre s k → i ≤ length s → MethodsPre s i k
methods_first s i k d q = record { small = d.small; place = omega arith; few = omega arith }

-- the virtual methods begin where they end: still inside, with at most a code for each byte between
pub methods_second : (s : List ℕ) (m : ℕ) (from : Turn) {e : ℕ} {y : Kept} → ItemPre s from.held.count → from.pos ≤ length s
    → left e y ≡ stored from.held (methods_from from.togo s m from.pos 0) → MethodsPre s e y.count
methods_second s m from {e} {y} d q h =
    let b = left_by from.held (methods_from from.togo s m from.pos 0) e y h in
    let w = methods_in s m from.togo from.pos 0 q b.walk in
    record { small = d.small; place = omega arith; few = omega (arith, b.count) }

module _ (s : List ℕ) (m i : ℕ) {d : Methods} (z : Ok d ≡ methods_at s i) (x : Kept) where
  pub class_no : {r : Refusal} → refusal r ≡ stored x (methods_from d.direct s m d.pos 0) → refusal r ≡ stored x (class_data_at s m i)
  class_no {r} h =
      refused_stored x (class_data_at s m i) r
      (ap (λ (w : Walk). and_on w (λ f. methods_from d.virt s m f 0)) (stored_refused x (methods_from d.direct s m d.pos 0) r h)
      ∙ class_from s m i z)

  pub class_at : {a : ℕ} {y : Kept} {o : Left} → left a y ≡ stored x (methods_from d.direct s m d.pos 0)
      → o ≡ stored y (methods_from d.virt s m a 0) → o ≡ stored x (class_data_at s m i)
  class_at {a} {y} h g =
      g ∙ stored_on x (methods_from d.direct s m d.pos 0) (λ f. methods_from d.virt s m f 0) a y h ∙ ap (stored x) (class_from s m i z)

-- the codes of an item are fewer than the file has bytes
pub class_few : (s : List ℕ) (m i : ℕ) (x : Kept) {e : ℕ} {y : Kept} → left e y ≡ stored x (class_data_at s m i) → y.count ≤ x.count + length s
class_few s m i x {e} {y} h =
    let b = left_by x (class_data_at s m i) e y h in
    let w = class_in s m i b.walk in
    omega (arith, b.count)
