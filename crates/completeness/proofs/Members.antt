-- Members of lists: of codes, of their methods, and of the methods that share a code item. Each holds since the lists are made of the codes
-- one by one, and arranging them moves none but the first two.
-- Assumes nothing.
use Prim.Native.Nat.{ℕ, zero, suc, ◌<◌}
use native.Mathlib.Omega.{arith}
use mathlib.Core.Path.{◌≡◌, refl, sym, ◌∙◌, ap}
use mathlib.Core.Logic.{⊎_elim}
use mathlib.Core.Bool.{true, false}
use mathlib.Core.List.Memᴰ
use mathlib.Core.List.{List, [], ◌∷◌, ◌++◌, Memᴰ}
use lib.Dec.{eqb}
use lib.ListN.{length, get_or}
use borrow.Author.Tests.{eq-eqb, eqb-true}
use Rattle.words.proofs.Shared.{case}
use Rattle.dalvik.specs.CodeItem.{Code}
use Rattle.completeness.specs.Completeness.{Distinct, methods_of, sharing, arranged}

-- a member stands at some place, and what stands at a place is a member
pub place_of : {A : Type 0} (d : A) {x : A} {l : List A} → Memᴰ x l → (k : ℕ) × (k < length l) × (get_or l k d ≡ x)
place_of d (Memᴰ.head e) = (0, omega arith, sym e)
place_of d (Memᴰ.tail m) = let o = place_of d m in (suc o.0, omega (arith, o.1), o.2)

pub at_place : {A : Type 0} (d : A) (l : List A) (k : ℕ) → k < length l → Memᴰ (get_or l k d) l
at_place d [] k h = absurd (omega arith)
at_place d (x ∷ l) zero h = Memᴰ.head refl
at_place d (x ∷ l) (suc k) h = Memᴰ.tail (at_place d l k (omega arith))

pub head_of : {x : ℕ} {l : List ℕ} → Memᴰ x l → (m : ℕ) × (r : List ℕ) × (l ≡ m ∷ r)
head_of (Memᴰ.head {x = y} {xs = ys} e) = (y, ys, refl)
head_of (Memᴰ.tail {x = y} {xs = ys} m) = (y, ys, refl)

-- ---- the methods with code
pub mem_method : {c : Code} {cs : List Code} → Memᴰ c cs → Memᴰ c.method (methods_of cs)
mem_method (Memᴰ.head e) = Memᴰ.head (ap (λ (d : Code). d.method) e)
mem_method (Memᴰ.tail m) = Memᴰ.tail (mem_method m)

pub method_mem : (cs : List Code) (m : ℕ) → Memᴰ m (methods_of cs) → (c : Code) × Memᴰ c cs × (c.method ≡ m)
method_mem [] m h = absurd (Memᴰ.not-nil h)
method_mem (c ∷ cs) m h =
    ⊎_elim
    (λ (e : m ≡ c.method). (c, Memᴰ.head refl, sym e))
    (λ k. let r = method_mem cs m k in (r.0, Memᴰ.tail r.1, r.2))
    (Memᴰ.cases_cons h)

-- ---- the methods that share a code item
pub mem_sharing : {c : Code} {cs : List Code} (o : ℕ) → Memᴰ c cs → c.off ≡ o → Memᴰ c.method (sharing cs o)
mem_sharing {c} o (Memᴰ.head {x = d} {xs = cs} e) h =
    rw (eq-eqb d.off o (ap (λ (z : Code). z.off) (sym e) ∙ h)) (Memᴰ.head (ap (λ (z : Code). z.method) e))
mem_sharing {c} o (Memᴰ.tail {x = d} {xs = cs} m) h =
    ⊎_elim
    (λ (q : eqb d.off o ≡ true). rw q (Memᴰ.tail (mem_sharing o m h)))
    (λ (q : eqb d.off o ≡ false). rw q (mem_sharing o m h))
    (case (eqb d.off o))

pub record Sharer (cs : List Code) (o m : ℕ) : Type 0 where
  pub d : Code
  pub found : Memᴰ d cs
  pub there : d.off ≡ o
  pub its : d.method ≡ m

pub sharer : (cs : List Code) (o m : ℕ) → Memᴰ m (sharing cs o) → Sharer cs o m
sharer [] o m h = absurd (Memᴰ.not-nil h)
sharer (c ∷ cs) o m h =
    ⊎_elim
    (λ (q : eqb c.off o ≡ true).
    ⊎_elim
    (λ (e : m ≡ c.method). record { d = c; found = Memᴰ.head refl; there = eqb-true c.off o q; its = sym e })
    (λ (k : Memᴰ m (sharing cs o)). further (sharer cs o m k))
    (Memᴰ.cases_cons (rw q at h)))
    (λ (q : eqb c.off o ≡ false). further (sharer cs o m (rw q at h)))
    (case (eqb c.off o))
  where
    further : Sharer cs o m → Sharer (c ∷ cs) o m
    further r = record { d = r.d; found = Memᴰ.tail r.found; there = r.there; its = r.its }

pub sharing_append : (cs ds : List Code) (o : ℕ) → sharing (cs ++ ds) o ≡ sharing cs o ++ sharing ds o
sharing_append [] ds o = refl
sharing_append (c ∷ cs) ds o =
    ⊎_elim
    (λ (h : eqb c.off o ≡ true). rw h (ap (λ (l : List ℕ). c.method ∷ l) (sharing_append cs ds o)))
    (λ (h : eqb c.off o ≡ false). rw h (sharing_append cs ds o))
    (case (eqb c.off o))

pub distinct_sharing : (cs : List Code) (o : ℕ) → Distinct (methods_of cs) → Distinct (sharing cs o)
unfolding Distinct
distinct_sharing [] o h = h
distinct_sharing (c ∷ cs) o h =
    ⊎_elim
    (λ (q : eqb c.off o ≡ true). rw q ((λ k. h.0 (shares_method k)), distinct_sharing cs o h.1))
    (λ (q : eqb c.off o ≡ false). rw q (distinct_sharing cs o h.1))
    (case (eqb c.off o))
  where
    shares_method : Memᴰ c.method (sharing cs o) → Memᴰ c.method (methods_of cs)
    shares_method k = let r : Sharer cs o c.method = sharer cs o c.method k in Memᴰ.cast (sym r.its) (mem_method r.found)

-- ---- arranged
pub mem_arranged : {m : ℕ} (ms : List ℕ) → Memᴰ m ms → Memᴰ m (arranged ms)
mem_arranged [] h = h
mem_arranged (a ∷ []) h = h
mem_arranged (a ∷ b ∷ ms) (Memᴰ.head e) = Memᴰ.tail (Memᴰ.head e)
mem_arranged (a ∷ b ∷ ms) (Memᴰ.tail h) =
    ⊎_elim (λ e. Memᴰ.head e) (λ k. Memᴰ.tail (Memᴰ.tail k)) (Memᴰ.cases_cons h)

pub arranged_mem : {m : ℕ} (ms : List ℕ) → Memᴰ m (arranged ms) → Memᴰ m ms
arranged_mem [] h = h
arranged_mem (a ∷ []) h = h
arranged_mem (a ∷ b ∷ ms) (Memᴰ.head e) = Memᴰ.tail (Memᴰ.head e)
arranged_mem (a ∷ b ∷ ms) (Memᴰ.tail h) =
    ⊎_elim (λ e. Memᴰ.head e) (λ k. Memᴰ.tail (Memᴰ.tail k)) (Memᴰ.cases_cons h)

pub length_arranged : (ms : List ℕ) → length (arranged ms) ≡ length ms
length_arranged [] = refl
length_arranged (a ∷ []) = refl
length_arranged (a ∷ b ∷ ms) = refl

pub distinct_arranged : (ms : List ℕ) → Distinct ms → Distinct (arranged ms)
unfolding Distinct
distinct_arranged [] h = h
distinct_arranged (a ∷ []) h = h
distinct_arranged (a ∷ b ∷ ms) (f, (g, r)) =
    ((λ k. ⊎_elim (λ (e : b ≡ a). f (Memᴰ.head (sym e))) g (Memᴰ.cases_cons k)), ((λ k. f (Memᴰ.tail k)), r))

-- ---- "exactly the methods with that code, each once": what the slots of the code item at o list
pub record Exactly (codes : List Code) (o : ℕ) (list : List ℕ) : Type 0 where
  pub none_missing : (d : Code) → Memᴰ d codes → d.off ≡ o → Memᴰ d.method list
  pub none_else : (m : ℕ) → Memᴰ m list → Sharer codes o m
  pub each_once : Distinct list

pub exactly : (codes : List Code) (o : ℕ) → Distinct (methods_of codes) → Exactly codes o (arranged (sharing codes o))
exactly codes o h = record {
  none_missing = λ d k q. mem_arranged (sharing codes o) (mem_sharing o k q);
  none_else = λ m k. sharer codes o m (arranged_mem (sharing codes o) k);
  each_once = distinct_arranged (sharing codes o) (distinct_sharing codes o h);
}
