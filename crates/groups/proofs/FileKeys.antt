-- A key that stands first in its item is the number at the item's start.
-- Assumes nothing.
use Prim.Native.Nat.{ℕ, ◌+◌}
use native.Mathlib.Nat.{add-zero}
use mathlib.Core.Path.{◌≡◌, refl, ap, fun_ext}
use mathlib.Core.List.{List}
use Rattle.dalvik.specs.Ids.{item}
use Rattle.tinydex.specs.declared.Table.{Table}
use Rattle.groups.specs.declared.Width.{Width}
use Rattle.groups.specs.Keys.{number_at, file_key}

pub key_first : (s : List ℕ) (t : Table) (size : ℕ) (w : Width)
    → file_key s t (record { stride = size; place = 0; width = w }) ≡ (λ (i : ℕ). number_at w s (item t.off size i))
unfolding file_key
key_first s t size w = fun_ext (λ i. ap (number_at w s) (add-zero (item t.off size i)))

pub key_at : (s : List ℕ) (t : Table) (size place : ℕ) (w : Width)
    → file_key s t (record { stride = size; place = place; width = w }) ≡ (λ (i : ℕ). number_at w s (item t.off size i + place))
unfolding file_key
key_at s t size place w = fun_ext (λ i. refl)
