-- The start words of a method with code are its array's start and end: no method has code twice, so no later code writes over them.
-- Assumes nothing.
use Rattle.std.specs.Prelude.{Some}
use Prim.Native.Nat.{ℕ, ◌<◌}
use native.Mathlib.Omega.{arith}
use mathlib.Core.Path.{◌≡◌, refl, ◌∙◌}
use mathlib.Core.List.{List, [], ◌∷◌, Memᴰ}
use Rattle.start_words.specs.Starts.{pair_count, pair, pair_of, no_starts}
use Rattle.start_words.specs.declared.Pair.{Pair}
use Rattle.start_words.proofs.Starts.{length_with, array_same, array_other, length_none}
use Rattle.dalvik.specs.CodeItem.{Code, start, stop}
use Rattle.class_data.specs.Stored.{starts_from, starts_of}
use Rattle.completeness.specs.Completeness.{Distinct, methods_of}

starts_other : (ws : List ℕ) (cs : List Code) (m : ℕ) → (Memᴰ m (methods_of cs) → ⊥) → pair_of (starts_from ws cs) m ≡ pair_of ws m
starts_other ws [] m f = refl
starts_other ws (c ∷ cs) m f =
    starts_other (starts_from ws (c ∷ [])) cs m (λ k. f (Memᴰ.tail k)) ∙ array_other ws c.method _ _ m (λ e. f (Memᴰ.head e))

-- where the array of c starts and ends
abbrev pub array_of : Code → Pair
array_of c = pair (start c) (stop c)

starts_mem : {c : Code} {cs : List Code} → Memᴰ c cs → Distinct (methods_of cs) → (ws : List ℕ) → c.method < pair_count ws
    → pair_of (starts_from ws cs) c.method ≡ Some (array_of c)
unfolding Distinct
starts_mem {c} (Memᴰ.head {x = d} {xs = cs} e) u ws h =
    rw e (starts_other _ cs d.method u.0 ∙ array_same ws d.method _ _ (rw e at h))
starts_mem {c} (Memᴰ.tail {x = d} {xs = cs} m) u ws h =
    starts_mem m u.1 _ (rw (length_with ws d.method _ _) h)

pub starts_of_mem : (methods : ℕ) {c : Code} {cs : List Code} → Memᴰ c cs → Distinct (methods_of cs) → c.method < methods
    → pair_of (starts_of methods cs) c.method ≡ Some (array_of c)
unfolding starts_of
starts_of_mem methods m u h = starts_mem m u (no_starts methods) (omega (arith, length_none methods))
