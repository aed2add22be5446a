-- The named strings are a set with a rising list: of each given index it can be told.
-- Assumes nothing.
use Prim.Native.Nat.{ℕ}
use mathlib.Core.Path.{◌≡◌, sym, subst}
use mathlib.Core.Logic.{◌⊎◌, inl, inr, ⊎_elim}
use mathlib.Core.List.{List, [], ◌∷◌}
use Rattle.word_set.specs.Sets.{In}
use Rattle.word_set.proofs.Sets.{in_none, in_here, in_cons, in_cases, Listed, set_none, set_with, set_same}
use Rattle.name_filter.proofs.HasOrNot.{has_or_not}
use Rattle.name_filter.specs.Names.{name_text, Named}

-- the given indices of a kind
given_listed : {D : ℕ → Type 0} → ((x : ℕ) → D x ⊎ (D x → ⊥)) → (given : List ℕ) → Listed (λ x. In x given × D x)
given_listed tell [] = set_none (λ x m. in_none m.0)
given_listed {D} tell (i ∷ is) =
    let l = given_listed tell is in
    ⊎_elim (λ (d : D i). let w = set_with i l in
    record {
      list = w.list;
      set =
          set_same (λ x m. ⊎_elim (λ (e : x ≡ i). subst (λ (y : ℕ). In y (i ∷ is) × D y) (sym e) (in_here i is, d))
          (λ (n : In x is × D x). (in_cons i n.0, n.1)) m)
          (λ x m. ⊎_elim (λ (e : x ≡ i). inl e) (λ (n : In x is). inr (n, m.1)) (in_cases m.0))
          w.set;
    })
    (λ (d : D i → ⊥). record {
      list = l.list;
      set =
          set_same (λ x m. (in_cons i m.0, m.1))
          (λ x m. ⊎_elim (λ (e : x ≡ i). absurd (d (subst D e m.1))) (λ (n : In x is). (n, m.1)) (in_cases m.0)) l.set;
    })
    (tell i)

module _ (s : List ℕ) (table : ℕ) (q given : List ℕ) where
  pub named_listed : Listed (Named s table q given)
  named_listed =
      let l = given_listed (λ x. has_or_not (name_text s table x) q) given in
      record { list = l.list; set = set_same (λ x m. record { listed = m.0; has = m.1 }) (λ x m. (m.listed, m.has)) l.set }
