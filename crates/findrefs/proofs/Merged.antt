-- Confirmed hits of two lists of wanted indices together are those of each, merged: the starts are tried one after another, a start is a hit
-- for both together where it is one for either, and every later entry has a greater offset.
--     entry_for, shown    confirmed hits, as entries
--     shown_merged        the law
-- Assumes nothing.
use Prim.Native.Nat.{ℕ, zero, suc, ◌+◌, ◌-◌, ◌≤◌}
use native.Mathlib.Omega.{arith}
use mathlib.Core.Path.{◌≡◌, refl, sym, ap}
use mathlib.Core.Logic.{⊎_elim}
use mathlib.Core.Bool.{Bool, true, false, cond, not, ◌&&◌, ◌||◌}
use mathlib.Core.List.{List, [], ◌∷◌}
use lib.Dec.{ltb, leb, eqb}
use borrow.Author.Tests.{lt-ltb, le-ltb}
use Rattle.words.proofs.Shared.{case, cond_elim, or_left, or_right, same_test}
use Rattle.dalvik.specs.Numbers.{byte}
use Rattle.dalvik.specs.Instructions.{Kind}
use Rattle.kinds.specs.Width.{width_of}
use Rattle.code_item_scan.specs.Scan.{is_in, Hit, Sought, sought, is_tried, index_by, is_hit, hit_at, hits_in, hits_by, hits_of}
use Rattle.completeness.specs.Completeness.{Entry}
use Rattle.completeness.proofs.Tests.{is_in_mem, mem_is_in}
use Rattle.findrefs.specs.Alone.{merged, Together}

-- ---- wanted by two lists together
together_in : {wanted a b : List ℕ} → Together wanted a b → (x : ℕ) → is_in x wanted ≡ (is_in x a || is_in x b)
together_in {wanted} {a} {b} T x =
    same_test (is_in x wanted) (is_in x a || is_in x b)
    (λ e. ⊎_elim (λ m. or_left (is_in x a) (is_in x b) (mem_is_in m)) (λ m. or_right (is_in x a) (is_in x b) (mem_is_in m))
    (T.from x (is_in_mem x wanted e)))
    (λ e. ⊎_elim
    (λ (h : is_in x a ≡ true). mem_is_in (T.left x (is_in_mem x a h)))
    (λ (h : is_in x a ≡ false). mem_is_in (T.right x (is_in_mem x b (rw h at e))))
    (case (is_in x a)))

-- ---- one entry before two lists that rise
abbrev with : Bool → Entry → List Entry → List Entry
with t e es = cond t (e ∷ es) es

-- no entry before p: it is enough to say it of the first
abbrev From : ℕ → List Entry → Type 0
From p [] = Unit {0}
From p (e ∷ es) = p ≤ e.off

from_later : (p : ℕ) (es : List Entry) → From (suc p) es → From p es
from_later p [] h = tt
from_later p (e ∷ es) h = omega arith

merged_none : (es : List Entry) → merged es [] ≡ es
merged_none [] = refl
merged_none (e ∷ es) = refl

module _ (e : Entry) where
  left_first : (es fs : List Entry) → From (suc e.off) fs → merged (e ∷ es) fs ≡ e ∷ merged es fs
  left_first es [] h = ap (λ l. e ∷ l) (sym (merged_none es))
  left_first es (f ∷ fs) h = rw (lt-ltb e.off f.off h)

  right_first : (es fs : List Entry) → From (suc e.off) es → merged es (e ∷ fs) ≡ e ∷ merged es fs
  right_first [] fs h = refl
  right_first (d ∷ es) fs h = rw (le-ltb d.off e.off (omega arith), lt-ltb e.off d.off h)

  common_once : (es fs : List Entry) → merged (e ∷ es) (e ∷ fs) ≡ e ∷ merged es fs
  common_once es fs = rw (le-ltb e.off e.off (omega arith))

  merged_with : (s t : Bool) (es fs : List Entry) → From (suc e.off) es → From (suc e.off) fs
      → with (s || t) e (merged es fs) ≡ merged (with s e es) (with t e fs)
  merged_with true true es fs h k = sym (common_once es fs)
  merged_with true false es fs h k = sym (left_first es fs k)
  merged_with false true es fs h k = sym (right_first es fs h)
  merged_with false false es fs h k = refl

-- ---- confirmed hits: answer gives the slot word of each offset, 0 where it isn't confirmed
abbrev pub entry_for : (ℕ → ℕ) → Hit → Entry
entry_for answer h = record { off = h.off; index = h.mark; slot = answer h.off }

abbrev pub shown : (ℕ → ℕ) → List Hit → List Entry
shown answer [] = []
shown answer (h ∷ hs) = cond (eqb (answer h.off) 0) (shown answer hs) (entry_for answer h ∷ shown answer hs)

-- a start that passes the other tests, g, is confirmed for two lists together where it is for either
either : (g a b n : Bool) → (g && (a || b) && n) ≡ ((g && a && n) || (g && b && n))
either false a b n = refl
either true false b n = refl
either true true b true = refl
either true true true false = refl
either true true false false = refl

turned : {A : Type 0} (t : Bool) (x y : A) → cond t x y ≡ cond (not t) y x
turned true x y = refl
turned false x y = refl

module _ (s : List ℕ) (answer : ℕ → ℕ) where
  abbrev shows : Sought → ℕ → Bool
  shows Q p = is_hit s Q p && not (eqb (answer p) 0)

  abbrev entry_by : Kind → ℕ → Entry
  entry_by kind p = entry_for answer (hit_at s kind p)

  shown_choice : (t : Bool) (kind : Kind) (p : ℕ) (hs : List Hit)
      → shown answer (cond t (hit_at s kind p ∷ hs) hs) ≡ with (t && not (eqb (answer p) 0)) (entry_by kind p) (shown answer hs)
  shown_choice true kind p hs = turned (eqb (answer p) 0) (shown answer hs) (entry_by kind p ∷ shown answer hs)
  shown_choice false kind p hs = refl

  shown_in : (n : ℕ) (Q : Sought) (p : ℕ)
      → shown answer (hits_in (suc n) s Q p) ≡ with (shows Q p) (entry_by Q.kind p) (shown answer (hits_in n s Q (suc p)))
  unfolding hits_in
  shown_in n Q p = shown_choice (is_hit s Q p) Q.kind p (hits_in n s Q (suc p))

  from_in : (n : ℕ) (Q : Sought) (p : ℕ) → From p (shown answer (hits_in n s Q p))
  unfolding hits_in
  from_in zero Q p = tt
  from_in (suc n) Q p =
      let later : From (suc p) (shown answer (hits_in n s Q (suc p))) = from_in n Q (suc p) in
      rw (shown_in n Q p)
      (cond_elim (From p) (shows Q p) (entry_by Q.kind p ∷ shown answer (hits_in n s Q (suc p))) (shown answer (hits_in n s Q (suc p)))
      (λ _. omega arith) (λ _. from_later p (shown answer (hits_in n s Q (suc p))) later))

  -- ---- what Q wants is what a wants and what b wants
  module _ (Q : Sought) (a b : ℕ → Bool) (split : (x : ℕ) → Q.wants x ≡ (a x || b x)) where
    abbrev by : (ℕ → Bool) → Sought
    by wants = sought Q.kind wants Q.from Q.to

    shows_either : (p : ℕ) → shows Q p ≡ (shows (by a) p || shows (by b) p)
    shows_either p =
        let i : ℕ = index_by s Q.kind p in
        let w : ℕ = width_of Q.kind (byte s p) in
        rw (split i) (either (is_tried Q.kind (p - Q.from) && ltb 0 w && leb (p + 2 + w) Q.to) (a i) (b i) (not (eqb (answer p) 0)))

    merged_in : (n p : ℕ) → shown answer (hits_in n s Q p) ≡ merged (shown answer (hits_in n s (by a) p)) (shown answer (hits_in n s (by b) p))
    unfolding hits_in
    merged_in zero p = refl
    merged_in (suc n) p =
        rw (shown_in n Q p, shown_in n (by a) p, shown_in n (by b) p, merged_in n (suc p), shows_either p)
        (merged_with (entry_by Q.kind p) (shows (by a) p) (shows (by b) p) (shown answer (hits_in n s (by a) (suc p)))
        (shown answer (hits_in n s (by b) (suc p))) (from_in n (by a) (suc p)) (from_in n (by b) (suc p)))

    merged_by : shown answer (hits_by s Q) ≡ merged (shown answer (hits_by s (by a))) (shown answer (hits_by s (by b)))
    unfolding hits_by
    merged_by = merged_in (Q.to - Q.from) Q.from

-- ---- the law
pub shown_merged : (s : List ℕ) (answer : ℕ → ℕ) (kind : Kind) (from to : ℕ) {wanted a b : List ℕ} → Together wanted a b
    → shown answer (hits_of s kind wanted from to) ≡ merged (shown answer (hits_of s kind a from to)) (shown answer (hits_of s kind b from to))
shown_merged s answer kind from to {wanted} {a} {b} T =
    merged_by s answer (sought kind (λ x. is_in x wanted) from to) (λ x. is_in x a) (λ x. is_in x b) (together_in T)
