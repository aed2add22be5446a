-- What the codes of a class data item keep to: the tests that a method passes hold of its code, and each method takes bytes of the file.
-- Assumes nothing.
use Rattle.std.specs.Prelude.{Result, Ok, Err}
use Prim.Native.Nat.{ℕ, zero, suc, ◌+◌, ◌*◌, ◌<◌, ◌≤◌}
use native.Mathlib.Omega.{arith}
use mathlib.Core.Path.{◌≡◌, refl, sym, subst}
use mathlib.Core.Bool.{◌&&◌}
use mathlib.Core.List.{List, [], ◌∷◌, ◌++◌}
use lib.ListN.{length, length-append}
use lib.Dec.{ltb, eqb}
use borrow.Author.Tests.{ltb-true}
use Rattle.words.proofs.Shared.{cond_elim, and_left, and_right}
use Rattle.dalvik.specs.CodeItem.{Code}
use Rattle.leb128.specs.Leb.{uleb_fast, uleb_len, uleb_of, on_uleb}
use Rattle.leb128.specs.declared.Uleb.{Uleb}
use Rattle.leb128.proofs.Published.{Reason, fast_in, fast_reason, len_in, len_reason}
use Rattle.class_data.specs.Walk.{Walk, following, and_on, word, ◌>>=◌, skipped, two_at, sizes_at, methods_at, on_methods}
use Rattle.class_data.specs.Walk.{most_methods, code_at, code_inside, with_method, methods_from, class_data_at}
use Rattle.class_data.specs.Walk.Walk.{refused, found}
use Rattle.refusal.specs.declared.Refusal.{Refusal}
use Rattle.class_data.specs.declared.item.Two.{Two}
use Rattle.class_data.specs.declared.item.Sizes.{Sizes}
use Rattle.class_data.specs.declared.item.Methods.{Methods}
use Rattle.class_data.proofs.Laws.{code_facts}

-- what holds of a code found
pub record CodeIn (s : List ℕ) (m : ℕ) (c : Code) : Type 0 where
  pub index : c.method < m
  pub small : c.method < most_methods
  pub some : 0 < c.units
  pub inside : c.off + 16 + 2 * c.units ≤ length s

abbrev pub Each : (Code → Type 0) → List Code → Type 0
Each P [] = Unit {0}
Each P (c ∷ cs) = P c × Each P cs

pub each_append : (P : Code → Type 0) (xs ys : List Code) → Each P xs → Each P ys → Each P (xs ++ ys)
each_append P [] ys a b = b
each_append P (c ∷ xs) ys a b = (a.0, each_append P xs ys a.1 b)

-- ---- going by cases through the definitions
on_uleb_p : {A : Type 0} (P : A → Type 0) (r : Result Uleb Refusal) (a : Refusal → A) (g : ℕ → ℕ → A) → ((y : Refusal) → Err y ≡ r → P (a y))
    → ((v n : ℕ) → Ok (uleb_of v n) ≡ r → P (g v n)) → P (on_uleb r a g)
on_uleb_p P (Ok n) a g x f = f n.value n.len refl
on_uleb_p P (Err y) a g x f = x y refl

then_p : {A B : Type 0} (P : Result B Refusal → Type 0) (r : Result A Refusal) (g : A → Result B Refusal)
    → ((y : Refusal) → Err y ≡ r → P (Err y)) → ((x : A) → Ok x ≡ r → P (g x)) → P (r >>= g)
then_p P (Ok x) g a f = f x refl
then_p P (Err y) g a f = a y refl

-- ---- n numbers skipped end inside; here and below, a refusal is a reader's
abbrev pub InsideR : List ℕ → Result ℕ Refusal → Type 0
InsideR s (Ok e) = e ≤ length s
InsideR s (Err r) = Reason r

skipped_keeps : (n : ℕ) (s : List ℕ) (i : ℕ) → i ≤ length s → InsideR s (skipped n s i)
unfolding skipped
skipped_keeps zero s i q = q
skipped_keeps (suc n) s i q = then_p (InsideR s) (uleb_len s i) _ (len_reason s i) (λ m e. skipped_keeps n s (i + m) (len_in s i m e).inside)

-- ---- an item's first method stands inside
abbrev TwoR : List ℕ → Result Two Refusal → Type 0
TwoR s (Ok x) = x.pos ≤ length s
TwoR s (Err r) = Reason r

abbrev SizesR : List ℕ → Result Sizes Refusal → Type 0
SizesR s (Ok x) = x.pos ≤ length s
SizesR s (Err r) = Reason r

abbrev MethodsR : List ℕ → Result Methods Refusal → Type 0
MethodsR s (Ok x) = x.pos ≤ length s
MethodsR s (Err r) = Reason r

two_keeps : (s : List ℕ) (i : ℕ) → TwoR s (two_at s i)
unfolding two_at
two_keeps s i =
    then_p (TwoR s) (uleb_fast s i) _ (fast_reason s i) (λ a _.
    then_p (TwoR s) (uleb_fast s (i + a.len)) _ (fast_reason s (i + a.len)) (λ b e. (fast_in _ _ b.value b.len e).inside))

two_told : (s : List ℕ) (i : ℕ) (r : Result Two Refusal) → r ≡ two_at s i → TwoR s r
two_told s i r e = subst (TwoR s) (sym e) (two_keeps s i)

sizes_keeps : (s : List ℕ) (i : ℕ) → SizesR s (sizes_at s i)
unfolding sizes_at
sizes_keeps s i =
    then_p (SizesR s) (two_at s i) _ (λ y e. two_told s i (Err y) e) (λ x _.
    then_p (SizesR s) (two_at s x.pos) _ (λ y e. two_told s x.pos (Err y) e) (λ m e. two_told s x.pos (Ok m) e))

sizes_told : (s : List ℕ) (i : ℕ) (r : Result Sizes Refusal) → r ≡ sizes_at s i → SizesR s r
sizes_told s i r e = subst (SizesR s) (sym e) (sizes_keeps s i)

skipped_told : (n : ℕ) (s : List ℕ) (i : ℕ) (r : Result ℕ Refusal) → i ≤ length s → r ≡ skipped n s i → InsideR s r
skipped_told n s i r q e = subst (InsideR s) (sym e) (skipped_keeps n s i q)

methods_keeps : (s : List ℕ) (i : ℕ) → MethodsR s (methods_at s i)
unfolding methods_at
methods_keeps s i =
    then_p (MethodsR s) (sizes_at s i) _ (λ y e. sizes_told s i (Err y) e) (λ x e.
    let q = sizes_told s i (Ok x) e in
    then_p (MethodsR s) (skipped x.fields s x.pos) _ (λ y f. skipped_told x.fields s x.pos (Err y) q f)
    (λ p f. skipped_told x.fields s x.pos (Ok p) q f))

pub first_inside : (s : List ℕ) (i : ℕ) (x : Methods) → Ok x ≡ methods_at s i → x.pos ≤ length s
first_inside s i x e = subst (MethodsR s) (sym e) (methods_keeps s i)

-- what holds of a reader's refusal and of every walk from a first method holds of the item
pub class_any : (s : List ℕ) (methods i : ℕ) (P : Walk → Type 0) → ((r : Refusal) → Reason r → P (refused r))
    → ((a v p : ℕ) → P (and_on (methods_from a s methods p 0) (λ f. methods_from v s methods f 0)))
    → P (class_data_at s methods i)
unfolding class_data_at
class_any s methods i P x g = by_item (methods_at s i) (methods_keeps s i)
  where
    by_item : (r : Result Methods Refusal) → MethodsR s r → P (on_methods r (λ a v p. and_on (methods_from a s methods p 0) (λ f. methods_from v s methods f 0)))
    by_item (Ok d) h = g d.direct d.virt d.pos
    by_item (Err y) h = x y h

-- ---- a walk from i over bytes of the file finds at most a code for each byte
pub record Within (s : List ℕ) (m i : ℕ) (cs : List Code) (e : ℕ) : Type 0 where
  pub each : Each (CodeIn s m) cs
  pub few : length cs + i ≤ e
  pub inside : e ≤ length s

abbrev pub WithinR : List ℕ → ℕ → ℕ → Walk → Type 0
WithinR s m i (refused r) = Unit {0}
WithinR s m i (found cs e) = Within s m i cs e

module _ (s : List ℕ) (m : ℕ) where
  within_from : (i j : ℕ) (v : Walk) → i ≤ j → WithinR s m j v → WithinR s m i v
  within_from i j (refused r) q h = tt
  within_from i j (found cs e) q h = record { each = h.each; few = omega arith; inside = h.inside }

  within_following : (i j : ℕ) (cs : List Code) (v : Walk) → Each (CodeIn s m) cs → length cs + i ≤ j → WithinR s m j v
      → WithinR s m i (following cs v)
  within_following i j cs (refused r) a q h = tt
  within_following i j cs (found ds e) a q h =
      record { each = each_append (CodeIn s m) cs ds a h.each; few = omega (arith, length-append cs ds); inside = h.inside }

  within_on : (i : ℕ) (v : Walk) (f : ℕ → Walk) → WithinR s m i v → ((e : ℕ) → e ≤ length s → WithinR s m e (f e)) → WithinR s m i (and_on v f)
  within_on i (refused r) f a b = tt
  within_on i (found cs e) f a b = within_following i e cs (f e) a.each a.few (b e a.inside)

  within_method : (i p j c : ℕ) (v : Walk) → i < p → WithinR s m p v → WithinR s m i (with_method s m j c v)
  within_method i p j c v q h =
      cond_elim (WithinR s m i) (eqb c 0) _ _ (λ _. within_from i p v (omega arith) h) (λ _.
      cond_elim (WithinR s m i) (ltb j m && ltb j most_methods) _ _
      (λ a. cond_elim (WithinR s m i) (code_inside s c) _ _
      (λ b.
      let f = code_facts s c b in
      let x = ltb-true _ _ (and_left (ltb j m) (ltb j most_methods) a) in
      let y = ltb-true _ _ (and_right (ltb j m) (ltb j most_methods) a) in
      let k : CodeIn s m (code_at s j c) = record { index = x; small = y; some = f.some; inside = f.inside } in
      within_following i p (code_at s j c ∷ []) v (k, tt) (omega arith) h)
      (λ _. tt))
      (λ _. tt))

  methods_within : (n i j : ℕ) → i ≤ length s → WithinR s m i (methods_from n s m i j)
  unfolding methods_from
  methods_within zero i j q = record { each = tt; few = omega arith; inside = q }
  methods_within (suc n) i j q =
      on_uleb_p (WithinR s m i) (uleb_fast s i) _ _ (λ _ _. tt) (λ d a e₁.
      cond_elim (WithinR s m i) (ltb (j + d) word) _ _
      (λ _. on_uleb_p (WithinR s m i) (uleb_fast s (i + a)) _ _ (λ _ _. tt) (λ f b e₂.
      on_uleb_p (WithinR s m i) (uleb_fast s (i + a + b)) _ _ (λ _ _. tt) (λ o c e₃.
      let x = fast_in _ _ _ _ e₁ in
      let y = fast_in _ _ _ _ e₂ in
      let z = fast_in _ _ _ _ e₃ in
      within_method i (i + a + b + c) (j + d) o _ (omega arith) (methods_within n (i + a + b + c) (j + d) z.inside))))
      (λ _. tt))

  item_within : (r : Result Methods Refusal) (f : ℕ → ℕ → ℕ → Walk) → MethodsR s r → ((d v e : ℕ) → e ≤ length s → WithinR s m e (f d v e))
      → WithinR s m 0 (on_methods r f)
  item_within (Err r) f a b = tt
  item_within (Ok x) f a b = within_from 0 x.pos (f x.direct x.virt x.pos) (omega arith) (b x.direct x.virt x.pos a)

  pub class_within : (i : ℕ) → WithinR s m 0 (class_data_at s m i)
  unfolding class_data_at
  class_within i =
      item_within (methods_at s i) _ (methods_keeps s i)
      (λ d v e q. within_on e (methods_from d s m e 0) (λ k. methods_from v s m k 0) (methods_within d e 0 q) (λ k w. methods_within v k 0 w))

  pub methods_in : (n i j : ℕ) {cs : List Code} {e : ℕ} → i ≤ length s → found cs e ≡ methods_from n s m i j → Within s m i cs e
  methods_in n i j q h = subst (WithinR s m i) (sym h) (methods_within n i j q)

  pub class_in : (i : ℕ) {cs : List Code} {e : ℕ} → found cs e ≡ class_data_at s m i → Within s m 0 cs e
  class_in i h = subst (WithinR s m 0) (sym h) (class_within i)
