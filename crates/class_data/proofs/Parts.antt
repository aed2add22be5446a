-- What the reads give together: an item up to its methods, and a method with its code, each by what was read of it before.
-- Assumes nothing.
use Rattle.std.specs.Prelude.{Some, None, Result, Ok, Err}
use Prim.Native.Nat.{ℕ, suc, ◌<◌, ◌≤◌}
use mathlib.Core.Path.{◌≡◌, ap, subst, ◌∙◌}
use mathlib.Core.Bool.{true, false}
use mathlib.Core.List.{List, [], ◌∷◌}
use borrow.Author.Tests.{lt-ltb, le-ltb, eq-eqb, ne_eqb}
use Rattle.refusal.specs.declared.Refusal.{Refusal}
use Rattle.refusal.specs.declared.Refusal.TheVariants.{MethodIndex, CodeOutside}
use Rattle.class_data.specs.Walk.{Walk, following, and_on, methods_at}
use Rattle.class_data.specs.Walk.{most_methods, code_at, code_inside, with_method, methods_from, class_data_at}
use Rattle.class_data.specs.Walk.Walk.{refused}
use Rattle.class_data.specs.Steps.{HeadAt, item_at, BareAt, CodedAt, MethodAt, MethodRead}
use Rattle.class_data.specs.declared.item.Methods.{Methods}
use Rattle.class_data.specs.declared.item.Head.{Head}
use Rattle.class_data.specs.declared.item.CodeItem.{CodeItem}
use Rattle.class_data.specs.declared.item.Method.{Method}
use Rattle.class_data.proofs.Laws.{item_out, item_in, item_facts}

-- the item is walked from its first method on
module _ (s : List ℕ) (methods i : ℕ) where
  pub class_refused : {y : Refusal} → Err y ≡ methods_at s i → refused y ≡ class_data_at s methods i
  unfolding class_data_at
  class_refused e = rw (← e)

  pub class_from : {d : Methods} → Ok d ≡ methods_at s i
      → and_on (methods_from d.direct s methods d.pos 0) (λ f. methods_from d.virt s methods f 0) ≡ class_data_at s methods i
  unfolding class_data_at
  class_from e = rw (← e)

-- ---- a method whose numbers were read
module _ (s : List ℕ) (methods j c : ℕ) (rest : Walk) where
  with_none : c ≡ 0 → rest ≡ with_method s methods j c rest
  with_none q = rw (eq-eqb _ _ q)

  module _ (q : c ≡ 0 → ⊥) where
    with_index : methods ≤ j → refused MethodIndex ≡ with_method s methods j c rest
    with_index a = rw (ne_eqb _ _ q, le-ltb _ _ a)

    module _ (a : j < methods) where
      with_large : most_methods ≤ j → refused MethodIndex ≡ with_method s methods j c rest
      with_large b = rw (ne_eqb _ _ q, lt-ltb _ _ a, le-ltb _ _ b)

      module _ (b : j < most_methods) where
        with_outside : code_inside s c ≡ false → refused CodeOutside ≡ with_method s methods j c rest
        with_outside d = rw (ne_eqb _ _ q, lt-ltb _ _ a, lt-ltb _ _ b, d)

        with_code : code_inside s c ≡ true → following (code_at s j c ∷ []) rest ≡ with_method s methods j c rest
        with_code d = rw (ne_eqb _ _ q, lt-ltb _ _ a, lt-ltb _ _ b, d)

pub method_refused : (s : List ℕ) (methods i m : ℕ) {y : Refusal} → ((methods n : ℕ) → refused y ≡ methods_from (suc n) s methods i m)
    → MethodRead s methods i m (Err y)
unfolding MethodRead
method_refused s methods i m e = e methods

module _ (methods : ℕ) {s : List ℕ} {i m : ℕ} {x : Head} (q : HeadAt s i m x) where
  -- what is after the method
  abbrev more : ℕ → Walk
  more n = methods_from n s methods x.pos x.idx

  pub method_bare : x.code ≡ 0 → MethodRead s methods i m (Ok (record { pos = x.pos; idx = x.idx; code = None }))
  unfolding MethodRead
  method_bare z = record { rest = λ n. with_none s methods x.idx x.code (more n) z ∙ q.rest methods n; on = q.on; inside = q.inside }

  module _ (z : x.code ≡ 0 → ⊥) where
    pub method_index : methods ≤ x.idx → MethodRead s methods i m (Err MethodIndex)
    unfolding MethodRead
    method_index a = λ n. with_index s methods x.idx x.code (more n) z a ∙ q.rest methods n

    module _ (a : x.idx < methods) where
      pub method_large : most_methods ≤ x.idx → MethodRead s methods i m (Err MethodIndex)
      unfolding MethodRead
      method_large b = λ n. with_large s methods x.idx x.code (more n) z a b ∙ q.rest methods n

      module _ (b : x.idx < most_methods) where
        pub method_outside : None ≡ item_at s x.code → MethodRead s methods i m (Err CodeOutside)
        unfolding MethodRead
        method_outside e = λ n. with_outside s methods x.idx x.code (more n) z a b (item_out s x.code e) ∙ q.rest methods n

        pub method_coded : {u : ℕ} → Some u ≡ item_at s x.code
            → MethodRead s methods i m (Ok (record { pos = x.pos; idx = x.idx; code = Some (record { off = x.code; units = u }) }))
        unfolding MethodRead
        method_coded {u} e =
            let v = item_in s x.code u e in
            let f = item_facts s x.code u e in
            record {
              rest = λ n.
                  ap (λ (k : ℕ). following (record { method = x.idx; off = x.code; units = k } ∷ []) (more n)) v.1
                  ∙ with_code s methods x.idx x.code (more n) z a b v.0
                  ∙ q.rest methods n;
              on = q.on;
              inside = q.inside;
              some = f.some;
              fits = f.inside;
            }

module _ (s : List ℕ) (methods i m : ℕ) (r : Result Method Refusal) (q : MethodRead s methods i m r) where
  method_told : {x : Method} → r ≡ Ok x → MethodAt s methods i m x
  unfolding MethodRead
  method_told e = subst (MethodRead s methods i m) e q

  pub bare_told : {x : Method} → r ≡ Ok x → x.code ≡ None → BareAt s methods i m x.pos x.idx
  bare_told {x} e z = rw z at (method_told e)

  pub coded_told : {x : Method} {c : CodeItem} → r ≡ Ok x → x.code ≡ Some c
      → CodedAt s methods i m x.pos (record { method = x.idx; off = c.off; units = c.units })
  coded_told {x} e z = rw z at (method_told e)

  pub refused_told : {y : Refusal} → r ≡ Err y → (n : ℕ) → refused y ≡ methods_from (suc n) s methods i m
  unfolding MethodRead
  refused_told e = subst (MethodRead s methods i m) e q
