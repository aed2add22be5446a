-- The map's entry of class data, which decides how the class data are found: an entry passed leaves the search over those after it.
-- Assumes nothing.
use Rattle.std.specs.Prelude.{Some, None, Option}
use Prim.Native.Nat.{ℕ, zero, suc, ◌+◌, ◌*◌, ◌-◌, ◌<◌, ◌≤◌}
use native.Mathlib.Omega.{arith}
use mathlib.Core.Path.{◌≡◌, sym, ap, subst, ◌∙◌}
use mathlib.Core.Bool.{◌||◌}
use mathlib.Core.List.{List}
use lib.ListN.{length}
use lib.Dec.{ltb, leb, eqb}
use borrow.Author.Tests.{lt-ltb, le-ltb, le-leb, lt-leb, eq-eqb, ne_eqb, leb-true}
use Rattle.words.proofs.Shared.{cond_elim}
use Rattle.dalvik.specs.Numbers.{le16, le32}
use Rattle.tinydex.specs.declared.DexHeader.{DexHeader}
use Rattle.class_data.specs.Codes.{successive, defined, entry_from, map_entry, by_entry, codes_of}
use Rattle.class_data.specs.Steps.{Kept, Left, stored}
use Rattle.structs.proofs.Laws.{Word}

-- ---- the map
module _ (s : List ℕ) (i : ℕ) where
  pub map_zero : i ≡ 0 → None ≡ map_entry s i
  unfolding map_entry
  map_zero z = rw (eq-eqb _ _ z)

  module _ (z : i ≡ 0 → ⊥) where
    pub map_outside : length s < i + 4 → None ≡ map_entry s i
    unfolding map_entry
    map_outside q = rw (ne_eqb _ _ z, lt-ltb _ _ q)

    pub map_inside : {n : ℕ} → Word s i n 4 (le32 s i) → entry_from n s (i + 4) ≡ map_entry s i
    unfolding map_entry
    map_inside x = rw (ne_eqb _ _ z, le-ltb _ _ x.inside, ← x.is)

module _ (s : List ℕ) (i : ℕ) {d : Option ℕ} where
  pub entry_past : (n : ℕ) → length s < i + 12 → entry_from n s i ≡ d → None ≡ d
  unfolding entry_from
  entry_past zero q h = h
  entry_past (suc n) q h = rw (lt-leb _ _ q) at h

  pub entry_end : (n : ℕ) → n ≤ 0 → entry_from n s i ≡ d → None ≡ d
  unfolding entry_from
  entry_end zero z h = h
  entry_end (suc n) z h = absurd (omega arith)

  module _ (q : i + 12 ≤ length s) {v : ℕ} (x : Word s i v 2 (le16 s i)) where
    pub entry_this : (n : ℕ) → 0 < n → v ≡ 8192 → entry_from n s i ≡ d → Some i ≡ d
    unfolding entry_from
    entry_this zero z t h = absurd (omega arith)
    entry_this (suc n) z t h = rw (le-leb _ _ q, ← x.is, eq-eqb _ _ t) at h

    pub entry_again : (n k : ℕ) → n ≡ suc k → (v ≡ 8192 → ⊥) → entry_from n s i ≡ d → entry_from k s (i + 12) ≡ d
    unfolding entry_from
    entry_again n k z t h = rw (z, le-leb _ _ q, ← x.is, ne_eqb _ _ t) at h

pub record Searching (s : List ℕ) (mapoff n at left : ℕ) : Type 0 where
  pub rest : entry_from left s at ≡ map_entry s mapoff
  pub most : left ≤ n
  pub place : at ≡ mapoff + 4 + 12 * (n - left)

-- an entry lies inside the file
abbrev EntryR : List ℕ → Option ℕ → Type 0
EntryR s None = Unit {0}
EntryR s (Some e) = e + 12 ≤ length s

entry_keeps : (n : ℕ) (s : List ℕ) (i : ℕ) → EntryR s (entry_from n s i)
unfolding entry_from
entry_keeps zero s i = tt
entry_keeps (suc n) s i =
    cond_elim (EntryR s) (leb (i + 12) (length s)) _ _
    (λ q. cond_elim (EntryR s) (eqb (le16 s i) 8192) _ _ (λ _. leb-true _ _ q) (λ _. entry_keeps n s (i + 12)))
    (λ _. tt)

map_keeps : (s : List ℕ) (i : ℕ) → EntryR s (map_entry s i)
unfolding map_entry
map_keeps s i = cond_elim (EntryR s) (eqb i 0 || ltb (length s) (i + 4)) _ _ (λ _. tt) (λ _. entry_keeps (le32 s i) s (i + 4))

pub entry_in : (s : List ℕ) (i e : ℕ) → Some e ≡ map_entry s i → e + 12 ≤ length s
entry_in s i e q = subst (EntryR s) (sym q) (map_keeps s i)

-- ---- the file
module _ (s : List ℕ) (h : DexHeader) (x : Kept) {d : Left} where
  pub by_map : {e : ℕ} → Some e ≡ map_entry s h.mapoff → d ≡ stored x (successive (le32 s (e + 4)) s h.methods.size (le32 s (e + 8)))
      → d ≡ stored x (codes_of s h)
  unfolding codes_of
  by_map q g = g ∙ ap (λ (r : Option ℕ). stored x (by_entry s h r)) q

  pub by_def : None ≡ map_entry s h.mapoff → d ≡ stored x (defined h.classes.size s h.methods.size h.classes.off)
      → d ≡ stored x (codes_of s h)
  unfolding codes_of
  by_def q g = g ∙ ap (λ (r : Option ℕ). stored x (by_entry s h r)) q
