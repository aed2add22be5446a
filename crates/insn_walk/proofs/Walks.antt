-- Laws of the walk. A step goes forward, so the bytes up to the target are more than enough steps, and callers see no bound on them; and
-- from each place the walk has one way, so of two places that it comes to it passes the nearer one on its way to the other.
--     walk     walk_end, walk_stuck, walk_step, lands_step; walk_on, walk_lands, walk_passes, walk_fails
--     Steps    steps_le, steps_even, steps_trans, steps_on; lands_to, to_lands, lands_again
-- Assumes nothing.
use Rattle.std.specs.Prelude.{Option, None, Some}
use mathlib.Core.Path.{◌≡◌, refl, ap, sym, ◌∙◌}
use mathlib.Core.Bool.{Bool, true, false}
use mathlib.Core.List.{List}
use Prim.Native.Nat.{ℕ, zero, suc, ◌+◌, ◌-◌, ◌%◌, ◌≤◌, ◌<◌}
use native.Mathlib.Omega.{arith}
use lib.Dec.{eqb, ltb}
use borrow.Author.Tests.{lt-ltb, le-ltb, ltb-true, ltb-false, eq-eqb, ne_eqb, eqb-true}
use Rattle.words.proofs.Shared.{same_test}
use Rattle.insn_walk.specs.Walk.{step, Walked, arrived, failed, after_steps, on_step, walk_in, walk, lands}
use Rattle.insn_walk.proofs.Steps.{Stepped, step_keeps}

-- ---- the steps that are enough

at_end : (n : ℕ) (s : List ℕ) (p t : ℕ) → t ≤ p → walk_in n s p t ≡ arrived p t
unfolding walk_in
at_end zero s p t h = refl
at_end (suc n) s p t h = simp (le-ltb p t h)

going : (n : ℕ) (s : List ℕ) (p t : ℕ) (o : Option ℕ) → p < t → o ≡ step s p → walk_in (suc n) s p t ≡ on_step o (λ q. walk_in n s q t)
unfolding walk_in
going n s p t o h e = simp (lt-ltb p t h, ← e)

module _ (n m : ℕ) (s : List ℕ) (t : ℕ) (ih : (p : ℕ) → t - p ≤ n → t - p ≤ m → walk_in n s p t ≡ walk_in m s p t) where
  enough_by : (p : ℕ) → t - p ≤ suc n → t - p ≤ suc m → (b : Bool) → ltb p t ≡ b → (o : Option ℕ) → o ≡ step s p
      → walk_in (suc n) s p t ≡ walk_in (suc m) s p t
  enough_by p h k false b o e = at_end (suc n) s p t (ltb-false p t b) ∙ sym (at_end (suc m) s p t (ltb-false p t b))
  enough_by p h k true b None e =
      let l : p < t = ltb-true p t b in
      going n s p t None l e ∙ sym (going m s p t None l e)
  enough_by p h k true b (Some q) e =
      let l : p < t = ltb-true p t b in
      let f = step_keeps s p q e in
      going n s p t (Some q) l e ∙ ap (after_steps 1) (ih q (omega arith) (omega arith)) ∙ sym (going m s p t (Some q) l e)

-- more steps than bytes change nothing
enough : (n m : ℕ) (s : List ℕ) (t p : ℕ) → t - p ≤ n → t - p ≤ m → walk_in n s p t ≡ walk_in m s p t
enough zero m s t p h k = at_end zero s p t (omega arith) ∙ sym (at_end m s p t (omega arith))
enough (suc n) zero s t p h k = at_end (suc n) s p t (omega arith) ∙ sym (at_end zero s p t (omega arith))
enough (suc n) (suc m) s t p h k = enough_by n m s t (enough n m s t) p h k (ltb p t) refl (step s p) refl

-- ---- the walk

module _ (s : List ℕ) (p t : ℕ) where
  pub walk_end : t ≤ p → walk s p t ≡ arrived p t
  unfolding walk
  walk_end h = at_end (t - p) s p t h

  pub walk_stuck : p < t → None ≡ step s p → walk s p t ≡ failed
  unfolding walk
  walk_stuck h e = enough (t - p) (suc (t - p)) s t p (omega arith) (omega arith) ∙ going (t - p) s p t None h e

  pub walk_step : (q : ℕ) → p < t → Some q ≡ step s p → walk s p t ≡ after_steps 1 (walk s q t)
  unfolding walk
  walk_step q h e =
      let f = step_keeps s p q e in
      enough (t - p) (suc (t - p)) s t p (omega arith) (omega arith)
      ∙ going (t - p) s p t (Some q) h e
      ∙ ap (after_steps 1) (enough (t - p) (t - q) s t q (omega arith) (omega arith))

-- a step changes nothing of what lies after it
pub lands_step : (s : List ℕ) (p t q : ℕ) → p < t → Some q ≡ step s p → lands s q t ≡ lands s p t
lands_step s p t q h e = sym (ap (λ (w : Walked). w.lands) (walk_step s p t q h e))

after_more : (k : ℕ) (w : Walked) → after_steps (k + 1) w ≡ after_steps k (after_steps 1 w)
after_more k w =
    let e : k + 1 + w.steps ≡ k + (1 + w.steps) = omega arith in
    ap (λ (n : ℕ). record { lands = w.lands; steps = n }) e

pub after_none : (w : Walked) → after_steps 0 w ≡ w
after_none w =
    let e : 0 + w.steps ≡ w.steps = omega arith in
    ap (λ (n : ℕ). record { lands = w.lands; steps = n }) e

-- for a loop that has taken k steps
module _ (s : List ℕ) (p t k : ℕ) where
  pub walk_on : (q : ℕ) → p < t → Some q ≡ step s p → after_steps (k + 1) (walk s q t) ≡ after_steps k (walk s p t)
  walk_on q h e = after_more k (walk s q t) ∙ ap (after_steps k) (sym (walk_step s p t q h e))

  ends_by : (b : Bool) → b ≡ eqb p t → t ≤ p → record { lands = b; steps = k } ≡ after_steps k (walk s p t)
  ends_by b q h =
      let e : k ≡ k + 0 = omega arith in
      rw q (ap (λ (n : ℕ). record { lands = eqb p t; steps = n }) e) ∙ ap (after_steps k) (sym (walk_end s p t h))

  pub walk_lands : p ≡ t → record { lands = true; steps = k } ≡ after_steps k (walk s p t)
  walk_lands e = ends_by true (sym (eq-eqb p t e)) (omega arith)

  pub walk_passes : t < p → record { lands = false; steps = k } ≡ after_steps k (walk s p t)
  walk_passes h = ends_by false (sym (ne_eqb p t (λ z. omega arith))) (omega arith)

  pub walk_fails : p < t → None ≡ step s p → record { lands = false; steps = k + 1 } ≡ after_steps k (walk s p t)
  walk_fails h e = ap (after_steps k) (sym (walk_stuck s p t h e))

-- ---- the walk as a relation: from p it comes to t

pub data Steps (s : List ℕ) : ℕ → ℕ → Type 0 where
  here : {p q : ℕ} → p ≡ q → Steps s p q
  onward : {p q t : ℕ} → step s p ≡ Some q → Steps s q t → Steps s p t

pub steps_le : {s : List ℕ} {p q : ℕ} → Steps s p q → p ≤ q
steps_le (here e) = omega arith
steps_le {s} {p} (onward {q = q} e r) = let k : Stepped s p q = step_keeps s p q (sym e) in omega (arith, steps_le r)

pub steps_even : {s : List ℕ} {p q : ℕ} → Steps s p q → p % 2 ≡ 0 → q % 2 ≡ 0
steps_even (here e) h = omega arith
steps_even {s} {p} (onward {q = q} e r) h = let k : Stepped s p q = step_keeps s p q (sym e) in steps_even r (omega arith)

steps_from : {s : List ℕ} {p q t : ℕ} → p ≡ q → Steps s q t → Steps s p t
steps_from e r = rw e r

pub steps_trans : {s : List ℕ} {p q t : ℕ} → Steps s p q → Steps s q t → Steps s p t
steps_trans (here e) r = steps_from e r
steps_trans (onward e x) r = onward e (steps_trans x r)

one_way : (o : Option ℕ) (q r : ℕ) → o ≡ Some q → o ≡ Some r → q ≡ r
one_way o q r e f = cc

pub steps_on : {s : List ℕ} {a p t : ℕ} → Steps s a p → Steps s a t → p ≤ t → Steps s p t
steps_on (here e) r le = steps_from (sym e) r
steps_on {s} {a} (onward {q = q} e x) (here f) le = let k : Stepped s a q = step_keeps s a q (sym e) in absurd (omega (arith, steps_le x))
steps_on {s} {a} (onward {q = q} e x) (onward {q = r} f y) le = steps_on x (steps_from (one_way (step s a) q r e f) y) le

-- ---- `lands` decides it

ends_here : (s : List ℕ) (p t : ℕ) → t ≤ p → lands s p t ≡ true → Steps s p t
ends_here s p t h e =
    let f : lands s p t ≡ eqb p t = ap (λ (w : Walked). w.lands) (walk_end s p t h) in
    here (eqb-true p t (sym f ∙ e))

module _ (n : ℕ) (s : List ℕ) (t : ℕ) (ih : (q : ℕ) → t - q ≤ n → lands s q t ≡ true → Steps s q t) where
  lands_by : (p : ℕ) → t - p ≤ suc n → lands s p t ≡ true → (b : Bool) → ltb p t ≡ b → (o : Option ℕ) → o ≡ step s p → Steps s p t
  lands_by p h e false b o k = ends_here s p t (ltb-false p t b) e
  lands_by p h e true b None k =
      let f : lands s p t ≡ false = ap (λ (w : Walked). w.lands) (walk_stuck s p t (ltb-true p t b) k) in
      absurd (let z : ◌≡◌ {A = ℕ} 0 1 = cc in omega arith)
  lands_by p h e true b (Some q) k =
      let l : p < t = ltb-true p t b in
      let f = step_keeps s p q k in
      let g : lands s p t ≡ lands s q t = ap (λ (w : Walked). w.lands) (walk_step s p t q l k) in
      onward (sym k) (ih q (omega arith) (sym g ∙ e))

lands_steps : (n : ℕ) (s : List ℕ) (t p : ℕ) → t - p ≤ n → lands s p t ≡ true → Steps s p t
lands_steps zero s t p h e = ends_here s p t (omega arith) e
lands_steps (suc n) s t p h e = lands_by n s t (lands_steps n s t) p h e (ltb p t) refl (step s p) refl

pub lands_to : (s : List ℕ) (p t : ℕ) → lands s p t ≡ true → Steps s p t
lands_to s p t e = lands_steps (t - p) s t p (omega arith) e

pub to_lands : {s : List ℕ} {p t : ℕ} → Steps s p t → lands s p t ≡ true
to_lands {s} {p} {t} (here e) = ap (λ (w : Walked). w.lands) (walk_end s p t (omega arith)) ∙ eq-eqb p t e
to_lands {s} {p} {t} (onward {q = q} e r) =
    let k : Stepped s p q = step_keeps s p q (sym e) in
    ap (λ (w : Walked). w.lands) (walk_step s p t q (omega (arith, steps_le r)) (sym e)) ∙ to_lands r

-- from a place that the walk from a has come to, it lands on what lies after that as the walk from a does
pub lands_again : (s : List ℕ) (a p t : ℕ) → Steps s a p → p ≤ t → lands s p t ≡ lands s a t
lands_again s a p t r le =
    same_test (lands s p t) (lands s a t)
    (λ e. to_lands (steps_trans r (lands_to s p t e)))
    (λ e. to_lands (steps_on r (lands_to s a t e) le))
