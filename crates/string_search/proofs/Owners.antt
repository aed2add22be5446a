-- The owner is the key before the place of the least key whose offset is past the find, since all before it have offsets that are not,
-- and all after it have.
-- Assumes nothing.
use Prim.Native.Nat.{ℕ, zero, suc, ◌+◌, ◌-◌, ◌*◌, ◌≤◌, ◌<◌}
use mathlib.Core.Path.{◌≡◌, refl, sym, subst}
use mathlib.Core.Logic.{◌⊎◌, inl, inr, ⊎_elim}
use mathlib.Core.List.{List, [], ◌∷◌, map}
use lib.ListN.{length, get_or}
use lib.Dec.{leb}
use native.Mathlib.Omega.{arith}
use borrow.Author.Tests.{le-leb, lt-leb}
use Rattle.words.specs.Rising.{Rising}
use Rattle.word_set.specs.Sets.{In, Place}
use Rattle.word_set.proofs.Sets.{all_right, in_here, in_cons}
use Rattle.string_search.specs.Keys.{key_offset, key_index}
use Rattle.words.proofs.Shared.{cond_elim}
use Rattle.string_search.specs.declared.Owner.{Owner}
use Rattle.string_search.specs.declared.Owner.TheVariants.{Entry, Absent}
use Rattle.string_search.specs.Owner.{reaches, or_else, owner}

none_reaches : (ks : List ℕ) (p : ℕ) → ((i : ℕ) → i < length ks → p < key_offset (get_or ks i 0)) → owner ks p ≡ Absent
unfolding owner
none_reaches [] p f = refl
none_reaches (k ∷ ks) p f =
    let e : owner ks p ≡ Absent = none_reaches ks p (λ i h. f (suc i) (omega arith)) in
    rw (e, lt-leb (key_offset k) p (f 0 (omega arith)))

-- a later key's answer is the answer
goes_before : (later other : Owner) (x : ℕ) → later ≡ Entry x → or_else later other ≡ Entry x
goes_before later other x e = rw e refl

last_reaches : (ks : List ℕ) (p m : ℕ) → m < length ks → key_offset (get_or ks m 0) ≤ p → ((i : ℕ) → m < i → i < length ks → p < key_offset (get_or ks i 0))
    → owner ks p ≡ Entry (key_index (get_or ks m 0))
unfolding owner
last_reaches [] p m h l f = absurd (omega arith)
last_reaches (k ∷ ks) p zero h l f =
    let e : owner ks p ≡ Absent = none_reaches ks p (λ i z. f (suc i) (omega arith) (omega arith)) in
    rw (e, le-leb (key_offset k) p l)
last_reaches (k ∷ ks) p (suc m) h l f =
    goes_before (owner ks p) (reaches k p) _ (last_reaches ks p m (omega arith) l (λ i a z. f (suc i) (omega arith) (omega arith)))

module _ (ks : List ℕ) (p n : ℕ) (r : Rising ks) (b : Place ks ((p + 1) * 4294967296) n) where
  past : (i : ℕ) → n ≤ i → i < length ks → p < key_offset (get_or ks i 0)
  past i l h = omega (arith, all_right ks ((p + 1) * 4294967296) n r b i l h)

  pub owner_none : n ≡ 0 → Absent ≡ owner ks p
  owner_none e = sym (none_reaches ks p (λ i h. past i (omega arith) h))

  pub owner_at : (n ≡ 0 → ⊥) → Entry (key_index (get_or ks (n - 1) 0)) ≡ owner ks p
  owner_at z =
      let l : get_or ks (n - 1) 0 < (p + 1) * 4294967296 = b.left (n - 1) (omega arith) in
      sym (last_reaches ks p (n - 1) (omega (arith, b.inside)) (omega arith) (λ i m h. past i (omega arith) h))

-- ---- an owner's index is a key's
reaches_is : (k p x : ℕ) → reaches k p ≡ Entry x → x ≡ key_index k
reaches_is k p x =
    cond_elim (λ (o : Owner). o ≡ Entry x → x ≡ key_index k) (leb (key_offset k) p) (Entry (key_index k)) Absent (λ _ e. cc)
    (λ _ e. absurd (let z : ◌≡◌ {A = ℕ} 0 1 = cc in omega arith))

either_is : (o o' : Owner) (x : ℕ) → or_else o o' ≡ Entry x → (o ≡ Entry x) ⊎ (o' ≡ Entry x)
either_is (Entry i) o' x e = inl e
either_is Absent o' x e = inr e

pub owner_in : (ks : List ℕ) (p x : ℕ) → owner ks p ≡ Entry x → In x (map key_index ks)
unfolding owner
owner_in [] p x e = absurd (let z : ◌≡◌ {A = ℕ} 0 1 = cc in omega arith)
owner_in (k ∷ ks) p x e =
    ⊎_elim (λ (f : owner ks p ≡ Entry x). in_cons (key_index k) (owner_in ks p x f))
    (λ (f : reaches k p ≡ Entry x). subst (λ (y : ℕ). In y (map key_index (k ∷ ks))) (sym (reaches_is k p x f))
    (in_here (key_index k) (map key_index ks)))
    (either_is (owner ks p) (reaches k p) x e)
