-- The hits of a region are exactly the starts that pass the scan's test, rise, and are no more than the starts that are tried: the starts are
-- tried one after another. Who speaks of the list of hits cites these laws and unfolds nothing.
--     is_tried    tried_even, even_tried
--     Tested      hit_is, hit_tested
--     hits_by     hits_above, hits_complete, hits_sound, hits_few, hits_half
-- Assumes nothing.
use Prim.Native.Nat.{ℕ, zero, suc, ◌+◌, ◌-◌, ◌/◌, ◌%◌, ◌≤◌, ◌<◌}
use native.Mathlib.Omega.{arith}
use mathlib.Core.Path.{◌≡◌, refl, sym, ◌∙◌}
use mathlib.Core.Logic.{⊎_elim}
use mathlib.Core.Bool.{true, false, ◌&&◌}
use mathlib.Core.List.Memᴰ
use mathlib.Core.List.{List, [], ◌∷◌, Memᴰ}
use lib.ListN.{length}
use lib.Dec.{ltb, leb, eqb}
use borrow.Author.Tests.{le-leb, lt-ltb, ltb-true, leb-true, eqb-true, eqb-false, eq-eqb}
use Rattle.words.proofs.Shared.{case, and_left, and_right}
use Rattle.dalvik.specs.Numbers.{byte}
use Rattle.dalvik.specs.Instructions.{Kind}
use Rattle.dalvik.specs.Instructions.Kind.{strings, types, fields, methods}
use Rattle.kinds.specs.Width.{width_of}
use Rattle.kinds.specs.Kinds.{is_strings}
use Rattle.code_item_scan.specs.Scan.{Hit, is_tried, Sought, index_by, is_hit, hit_at, hits_in, hits_by, offs}

-- ---- one start

-- kinds other than strings are tried at even distances from the region's first byte, and there every kind is
pub tried_even : (kind : Kind) (d : ℕ) → is_strings kind ≡ false → is_tried kind d ≡ eqb (d % 2) 0
unfolding is_tried
tried_even strings d e = let z : ◌≡◌ {A = ℕ} 0 1 = cc in absurd (omega arith)
tried_even types d e = refl
tried_even fields d e = refl
tried_even methods d e = refl

pub even_tried : (kind : Kind) (d : ℕ) → d % 2 ≡ 0 → is_tried kind d ≡ true
unfolding is_tried
even_tried strings d h = refl
even_tried types d h = eq-eqb (d % 2) 0 h
even_tried fields d h = eq-eqb (d % 2) 0 h
even_tried methods d h = eq-eqb (d % 2) 0 h

-- what a hit has passed
pub record Tested (s : List ℕ) (Q : Sought) (p : ℕ) : Type 0 where
  pub tried : is_tried Q.kind (p - Q.from) ≡ true
  pub some_width : 0 < width_of Q.kind (byte s p)
  pub inside : p + 2 + width_of Q.kind (byte s p) ≤ Q.to
  pub wanted : Q.wants (index_by s Q.kind p) ≡ true

-- rising, from b on
pub data Above : ℕ → List ℕ → Type 0 where
  no_more : {b : ℕ} → Above b []
  one_more : {b t : ℕ} {ts : List ℕ} → b ≤ t → Above (suc t) ts → Above b (t ∷ ts)

above_le : {b c : ℕ} {ts : List ℕ} → b ≤ c → Above c ts → Above b ts
above_le h no_more = no_more
above_le {b} h (one_more {t = t} k o) = one_more {b = b} {t = t} (omega arith) o

module _ (s : List ℕ) (Q : Sought) where
  hit_is : (p : ℕ) → Tested s Q p → is_hit s Q p ≡ true
  hit_is p t =
      let w : ℕ = width_of Q.kind (byte s p) in
      rw (t.tried, lt-ltb 0 w t.some_width, le-leb (p + 2 + w) Q.to t.inside, t.wanted)

  hit_tested : (p : ℕ) → is_hit s Q p ≡ true → Tested s Q p
  hit_tested p e =
      let t = is_tried Q.kind (p - Q.from) in
      let w = ltb 0 (width_of Q.kind (byte s p)) in
      let f = leb (p + 2 + width_of Q.kind (byte s p)) Q.to in
      let g = Q.wants (index_by s Q.kind p) in
      let a : (t && w && f) ≡ true = and_left (t && w && f) g e in
      let b : (t && w) ≡ true = and_left (t && w) f a in
      record {
        tried = and_left t w b;
        some_width = ltb-true 0 (width_of Q.kind (byte s p)) (and_right t w b);
        inside = leb-true (p + 2 + width_of Q.kind (byte s p)) Q.to (and_right (t && w) f a);
        wanted = and_right (t && w && f) g e;
      }

  -- ---- n starts from p on
  above_in : (n p : ℕ) → Above p (offs (hits_in n s Q p))
  unfolding hits_in
  above_in zero p = no_more
  above_in (suc n) p =
      ⊎_elim
      (λ (e : is_hit s Q p ≡ true). rw e (one_more {b = p} {t = p} (omega arith) (above_in n (suc p))))
      (λ (e : is_hit s Q p ≡ false). rw e (above_le {b = p} {c = suc p} (omega arith) (above_in n (suc p))))
      (case (is_hit s Q p))

  complete_in : (n p t : ℕ) → p ≤ t → t < p + n → is_hit s Q t ≡ true → Memᴰ (hit_at s Q.kind t) (hits_in n s Q p)
  unfolding hits_in
  complete_in zero p t h k e = absurd (omega arith)
  complete_in (suc n) p t h k e =
      ⊎_elim
      (λ (q : eqb t p ≡ true). rw (← eqb-true t p q, e) (Memᴰ.head refl))
      (λ (q : eqb t p ≡ false).
      let later = complete_in n (suc p) t (omega (arith, eqb-false t p q)) (omega arith) e in
      ⊎_elim
      (λ (f : is_hit s Q p ≡ true). rw f (Memᴰ.tail later))
      (λ (f : is_hit s Q p ≡ false). rw f later)
      (case (is_hit s Q p)))
      (case (eqb t p))

  sound_in : (n p : ℕ) (h : Hit) → Memᴰ h (hits_in n s Q p) → (is_hit s Q h.off ≡ true) × (h ≡ hit_at s Q.kind h.off)
  unfolding hits_in
  sound_in zero p h m = absurd (Memᴰ.not-nil m)
  sound_in (suc n) p h m =
      ⊎_elim
      (λ (e : is_hit s Q p ≡ true).
      ⊎_elim
      (λ (q : h ≡ hit_at s Q.kind p). (rw q e, rw q refl))
      (λ k. sound_in n (suc p) h k)
      (Memᴰ.cases_cons (rw e at m)))
      (λ (e : is_hit s Q p ≡ false). sound_in n (suc p) h (rw e at m))
      (case (is_hit s Q p))

  few_in : (n p : ℕ) → length (hits_in n s Q p) ≤ n
  unfolding hits_in
  few_in zero p = omega arith
  few_in (suc n) p =
      ⊎_elim
      (λ (e : is_hit s Q p ≡ true). rw e (omega (arith, few_in n (suc p))))
      (λ (e : is_hit s Q p ≡ false). rw e (omega (arith, few_in n (suc p))))
      (case (is_hit s Q p))

  half_in : is_strings Q.kind ≡ false → (n p : ℕ) → Q.from ≤ p → length (hits_in n s Q p) ≤ (n + 1 - (p - Q.from) % 2) / 2
  unfolding hits_in
  half_in k zero p h = omega arith
  half_in k (suc n) p h =
      let rest : length (hits_in n s Q (suc p)) ≤ (n + 1 - (suc p - Q.from) % 2) / 2 = half_in k n (suc p) (omega arith) in
      ⊎_elim
      (λ (e : is_hit s Q p ≡ true).
      let even : (p - Q.from) % 2 ≡ 0 = eqb-true ((p - Q.from) % 2) 0 (sym (tried_even Q.kind (p - Q.from) k) ∙ (hit_tested p e).tried) in
      rw e (omega arith))
      (λ (e : is_hit s Q p ≡ false). rw e (omega arith))
      (case (is_hit s Q p))

  -- ---- the region
  pub hits_above : Above Q.from (offs (hits_by s Q))
  unfolding hits_by
  hits_above = above_in (Q.to - Q.from) Q.from

  pub hits_complete : (p : ℕ) → Q.from ≤ p → Tested s Q p → Memᴰ (hit_at s Q.kind p) (hits_by s Q)
  unfolding hits_by
  hits_complete p h t = complete_in (Q.to - Q.from) Q.from p h (omega (arith, t.inside)) (hit_is p t)

  pub hits_sound : (h : Hit) → Memᴰ h (hits_by s Q) → Tested s Q h.off × (h ≡ hit_at s Q.kind h.off)
  unfolding hits_by
  hits_sound h m = let r = sound_in (Q.to - Q.from) Q.from h m in (hit_tested h.off r.0, r.1)

  -- at most one for each start
  pub hits_few : length (hits_by s Q) ≤ Q.to - Q.from
  unfolding hits_by
  hits_few = few_in (Q.to - Q.from) Q.from

  -- and of the kinds other than strings one for every second
  pub hits_half : is_strings Q.kind ≡ false → length (hits_by s Q) ≤ (Q.to - Q.from + 1) / 2
  unfolding hits_by
  hits_half k = omega (arith, half_in k (Q.to - Q.from) Q.from (omega arith))
