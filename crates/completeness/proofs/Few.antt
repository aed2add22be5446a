-- The shares are few: methods with code are distinct and below 16,777,216, so there are no more codes than that, and a code adds one share
-- at most.
-- Assumes nothing.
use Prim.Native.Nat.{ℕ, zero, suc, ◌+◌, ◌-◌, ◌*◌, ◌≤◌, ◌<◌}
use native.Mathlib.Omega.{arith}
use mathlib.Core.Path.{◌≡◌, refl, sym, ◌∙◌, ap}
use mathlib.Core.Logic.{⊎_elim, ◌≢◌}
use mathlib.Core.Bool.{true, false, cond}
use mathlib.Core.List.Memᴰ
use mathlib.Core.List.{List, [], ◌∷◌, Memᴰ}
use lib.Dec.{eqb, ltb}
use lib.ListN.{length, get_or, length-append, replicate}
use borrow.Author.Tests.{eqb-true, eqb-false, ne_eqb}
use Rattle.words.proofs.Shared.{case}
use Rattle.dalvik.specs.CodeItem.{Code}
use Rattle.class_data.specs.Stored.{first_bucket}
use Rattle.code_table.specs.Slots.{shared, joined, Table, place, table_from, table_of, base_of, top_of}
use Rattle.completeness.specs.Completeness.{Distinct, methods_of}
use Rattle.completeness.proofs.Members.{method_mem}

-- the list without x
without : ℕ → List ℕ → List ℕ
without x [] = []
without x (y ∷ ys) = cond (eqb y x) (without x ys) (y ∷ without x ys)

mem_without : (x : ℕ) {m : ℕ} (ys : List ℕ) → Memᴰ m (without x ys) → Memᴰ m ys × (m ≢ x)
unfolding without
mem_without x [] h = absurd (Memᴰ.not-nil h)
mem_without x {m} (y ∷ ys) h =
    ⊎_elim
    (λ (e : eqb y x ≡ true). let r = mem_without x ys (rw e at h) in (Memᴰ.tail r.0, r.1))
    (λ (e : eqb y x ≡ false).
    ⊎_elim
    (λ (q : m ≡ y). (Memᴰ.head q, λ z. eqb-false y x e (sym q ∙ z)))
    (λ k. let r = mem_without x ys k in (Memᴰ.tail r.0, r.1))
    (Memᴰ.cases_cons (rw e at h)))
    (case (eqb y x))

distinct_without : (x : ℕ) (ys : List ℕ) → Distinct ys → Distinct (without x ys)
unfolding without Distinct
distinct_without x [] h = h
distinct_without x (y ∷ ys) h =
    ⊎_elim
    (λ (e : eqb y x ≡ true). rw e (distinct_without x ys h.1))
    (λ (e : eqb y x ≡ false). rw e ((λ k. h.0 (mem_without x ys k).0), distinct_without x ys h.1))
    (case (eqb y x))

absent : (x : ℕ) (ys : List ℕ) → (Memᴰ x ys → ⊥) → length (without x ys) ≡ length ys
unfolding without
absent x [] f = refl
absent x (y ∷ ys) f = rw (ne_eqb y x (λ e. f (Memᴰ.head (sym e)))) (ap suc (absent x ys (λ k. f (Memᴰ.tail k))))

one_less : (x : ℕ) (ys : List ℕ) → Distinct ys → length ys ≤ suc (length (without x ys))
unfolding without Distinct
one_less x [] h = omega arith
one_less x (y ∷ ys) h =
    ⊎_elim
    (λ (e : eqb y x ≡ true). rw e (omega (arith, absent x ys (λ k. h.0 (Memᴰ.cast (eqb-true y x e) k)))))
    (λ (e : eqb y x ≡ false). rw e (omega (arith, one_less x ys h.1)))
    (case (eqb y x))

pub pigeonhole : (n : ℕ) (ys : List ℕ) → Distinct ys → ((m : ℕ) → Memᴰ m ys → m < n) → length ys ≤ n
pigeonhole zero [] d f = omega arith
pigeonhole zero (y ∷ ys) d f = absurd (omega (arith, f y (Memᴰ.head refl)))
pigeonhole (suc n) ys d f =
    omega (
      arith,
      one_less n ys d,
      pigeonhole n (without n ys) (distinct_without n ys d)
          (λ m k. let r = mem_without n ys k in omega (arith, f m r.0, r.1)),
    )

methods_length : (cs : List Code) → length (methods_of cs) ≡ length cs
methods_length [] = refl
methods_length (c ∷ cs) = ap suc (methods_length cs)

pub codes_few : (n : ℕ) (cs : List Code) → Distinct (methods_of cs) → ((c : Code) → Memᴰ c cs → c.method < n) → length cs ≤ n
codes_few n cs d f =
    omega (arith, methods_length cs, pigeonhole n (methods_of cs) d (λ m k. let r = method_mem cs m k in omega (arith, f r.0 r.1, r.2)))

-- ---- a code adds one share at most
joined_few : (v m : ℕ) (ws : List ℕ) → length (joined v m ws) ≤ 3
unfolding joined
joined_few v m ws =
    ⊎_elim
    (λ (h : eqb v 0 ≡ true). rw h (omega arith))
    (λ (h : eqb v 0 ≡ false).
    ⊎_elim (λ (k : ltb v shared ≡ true). rw (h, k) (omega arith)) (λ (k : ltb v shared ≡ false). rw (h, k) (omega arith)) (case (ltb v shared)))
    (case (eqb v 0))

shares_few_from : (base : ℕ) (t : Table) (cs : List Code) → length (table_from base t cs).shares ≤ length t.shares + 3 * length cs
unfolding place
shares_few_from base t [] = omega arith
shares_few_from base t (c ∷ cs) =
    let v : ℕ = get_or t.slots (first_bucket c - base) 0 in
    omega (
      arith,
      shares_few_from base (place base c t) cs,
      length-append t.shares (joined v c.method t.shares),
      joined_few v c.method
          t.shares,
    )

pub shares_few : (cs : List Code) → length (table_of cs).shares ≤ 3 * length cs
unfolding table_of
shares_few cs = omega (arith, shares_few_from (base_of cs) (record { slots = replicate (top_of cs - base_of cs) 0; shares = [] }) cs)
