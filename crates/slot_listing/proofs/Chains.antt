-- Laws of a share's list. Each share goes on with an earlier one, so as many steps as its number are enough, and callers see no bound.
-- Assumes nothing.
use Rattle.std.specs.Prelude.{Some, None, Option}
use mathlib.Core.Path.{◌≡◌, refl, sym, ap, ◌∙◌}
use mathlib.Core.List.{List, [], ◌∷◌, ◌++◌}
use Prim.Native.Nat.{ℕ, zero, suc, ◌+◌, ◌-◌, ◌*◌, ◌/◌, ◌≤◌, ◌<◌}
use native.Mathlib.Nat.{add-zero}
use native.Mathlib.Decide.{dec_lt, dec_le}
use native.Mathlib.Omega.{arith}
use lib.ListN.{length, get_or, length-append}
use borrow.Author.Tests.{lt-ltb, le-ltb, le-leb, lt-leb, eq-eqb, ne_eqb}
use Rattle.code_table.specs.Slots.{share_at}
use Rattle.slot_listing.specs.Listing.{snoc_to, chain}
use Rattle.slot_listing.specs.Steps.{methods_of, count_of, list_by}

-- ---- the three words of a share, at the places where the code reads them

abbrev pub first_word : List ℕ → ℕ → ℕ
first_word ws k = get_or ws (3 * k) 0

abbrev pub last_word : List ℕ → ℕ → ℕ
last_word ws k = share_at ws k 1

abbrev pub earlier_word : List ℕ → ℕ → ℕ
earlier_word ws k = share_at ws k 2

-- ---- one share

module _ (n : ℕ) (ws : List ℕ) (k : ℕ) where
  chain_out : length ws / 3 ≤ k → chain (suc n) ws k ≡ None
  unfolding chain
  chain_out h = rw (lt-leb (3 * k + 3) (length ws) (omega arith))

  module _ (inside : k < length ws / 3) where
    chain_end : earlier_word ws k ≡ 0 → chain (suc n) ws k ≡ Some (first_word ws k ∷ last_word ws k ∷ [])
    unfolding chain
    chain_end e = rw (le-leb (3 * k + 3) (length ws) (omega arith), eq-eqb (earlier_word ws k) 0 e, add-zero)

    chain_back : k < earlier_word ws k → chain (suc n) ws k ≡ None
    unfolding chain
    chain_back h =
        rw (
          le-leb (3 * k + 3) (length ws) (omega arith),
          ne_eqb (earlier_word ws k) 0 (λ z. omega arith),
          le-ltb (earlier_word ws k - 1) k
              (omega arith),
        )

    chain_on : 0 < earlier_word ws k → earlier_word ws k ≤ k → chain (suc n) ws k ≡ snoc_to (last_word ws k) (chain n ws (earlier_word ws k - 1))
    unfolding chain
    chain_on p h =
        rw (
          le-leb (3 * k + 3) (length ws) (omega arith),
          ne_eqb (earlier_word ws k) 0 (λ z. omega arith),
          lt-ltb (earlier_word ws k - 1) k
              (omega arith),
        )

-- a share is outside, the last of its chain, one with an earlier share that isn't earlier, or goes on
pub data Share (ws : List ℕ) (k : ℕ) : Type 0 where
  outside : length ws / 3 ≤ k → Share ws k
  ends : k < length ws / 3 → earlier_word ws k ≡ 0 → Share ws k
  back : k < length ws / 3 → k < earlier_word ws k → Share ws k
  goes : k < length ws / 3 → 0 < earlier_word ws k → earlier_word ws k ≤ k → Share ws k

share_by : (ws : List ℕ) (k : ℕ) → Dec (k < length ws / 3) → Dec (earlier_word ws k ≤ k) → Dec (0 < earlier_word ws k) → Share ws k
share_by ws k (no h) b p = outside (omega arith)
share_by ws k (yes h) (no b) p = back h (omega arith)
share_by ws k (yes h) (yes b) (no p) = ends h (omega arith)
share_by ws k (yes h) (yes b) (yes p) = goes h p b

pub share : (ws : List ℕ) (k : ℕ) → Share ws k
share ws k = share_by ws k (dec_lt k (length ws / 3)) (dec_le (earlier_word ws k) k) (dec_lt 0 (earlier_word ws k))

-- ---- more steps than it takes change nothing

enough_by : (ws : List ℕ) (n m k : ℕ) → ((j : ℕ) → j < k → chain n ws j ≡ chain m ws j) → Share ws k → chain (suc n) ws k ≡ chain (suc m) ws k
enough_by ws n m k ih (outside h) = chain_out n ws k h ∙ sym (chain_out m ws k h)
enough_by ws n m k ih (ends h e) = chain_end n ws k h e ∙ sym (chain_end m ws k h e)
enough_by ws n m k ih (back h b) = chain_back n ws k h b ∙ sym (chain_back m ws k h b)
enough_by ws n m k ih (goes h p b) =
    chain_on n ws k h p b ∙ ap (snoc_to (last_word ws k)) (ih (earlier_word ws k - 1) (omega arith)) ∙ sym (chain_on m ws k h p b)

enough : (ws : List ℕ) (n m k : ℕ) → k < n → k < m → chain n ws k ≡ chain m ws k
enough ws zero m k p q = absurd (omega arith)
enough ws (suc n) zero k p q = absurd (omega arith)
enough ws (suc n) (suc m) k p q = enough_by ws n m k (λ j h. enough ws n m j (omega arith) (omega arith)) (share ws k)

-- ---- what proofs cite

module _ (ws : List ℕ) (k : ℕ) where
  pub share_outside : length ws / 3 ≤ k → methods_of ws k ≡ None
  unfolding methods_of
  share_outside h = chain_out k ws k h

  module _ (inside : k < length ws / 3) where
    pub share_ends : earlier_word ws k ≡ 0 → methods_of ws k ≡ Some (first_word ws k ∷ last_word ws k ∷ [])
    unfolding methods_of
    share_ends e = chain_end k ws k inside e

    pub share_back : k < earlier_word ws k → methods_of ws k ≡ None
    unfolding methods_of
    share_back h = chain_back k ws k inside h

    pub share_goes : 0 < earlier_word ws k → earlier_word ws k ≤ k → methods_of ws k ≡ snoc_to (last_word ws k) (methods_of ws (earlier_word ws k - 1))
    unfolding methods_of
    share_goes p h =
        chain_on k ws k inside p h ∙ ap (snoc_to (last_word ws k))
        (enough ws k (suc (earlier_word ws k - 1)) (earlier_word ws k - 1) (omega arith) (omega arith))

-- ---- how many

abbrev pub more : ℕ → Option ℕ → Option ℕ
more n None = None
more n (Some c) = Some (c + n)

pub more_none : (c : Option ℕ) → more 0 c ≡ c
more_none None = refl
more_none (Some c) = ap Some (add-zero c)

pub more_one : (n : ℕ) (r : Option (List ℕ)) (x : ℕ) → more n (count_of (snoc_to x r)) ≡ more (n + 1) (count_of r)
more_one n None x = refl
more_one n (Some l) x =
    let e : length (l ++ x ∷ []) + n ≡ length l + (n + 1) = simp length-append (omega arith) in
    ap Some e

pub count_none : (r : Option (List ℕ)) → count_of r ≡ None → r ≡ None
count_none None e = refl
count_none (Some l) e = absurd (cc)

pub count_some : (r : Option (List ℕ)) (n : ℕ) → count_of r ≡ Some n → (r ≡ Some (list_by r)) × (length (list_by r) ≡ n)
count_some None n e = absurd (cc)
count_some (Some l) n e = (refl, cc)

-- ---- a share that has a list: the list of the earlier share and its last method, or its two methods

pub record Goes (ws : List ℕ) (k : ℕ) (l : List ℕ) : Type 0 where
  pub inside : k < length ws / 3
  pub some_earlier : 0 < earlier_word ws k
  pub earlier : earlier_word ws k ≤ k
  pub rest : List ℕ
  pub rest_is : methods_of ws (earlier_word ws k - 1) ≡ Some rest
  pub list : l ≡ rest ++ last_word ws k ∷ []

pub record Ends (ws : List ℕ) (k : ℕ) (l : List ℕ) : Type 0 where
  pub inside : k < length ws / 3
  pub list : l ≡ first_word ws k ∷ last_word ws k ∷ []

never : {A : Type 0} (l : List ℕ) → None ≡ Some l → A
never l e = absurd (cc)

pub data HasList (ws : List ℕ) (k : ℕ) (l : List ℕ) : Type 0 where
  has_ends : Ends ws k l → HasList ws k l
  has_goes : Goes ws k l → HasList ws k l

goes_by : (ws : List ℕ) (k : ℕ) (l : List ℕ) → methods_of ws k ≡ Some l → k < length ws / 3 → 0 < earlier_word ws k → earlier_word ws k ≤ k → Goes ws k l
goes_by ws k l has h p b = by (methods_of ws (earlier_word ws k - 1)) refl
  where
    by : (r : Option (List ℕ)) → methods_of ws (earlier_word ws k - 1) ≡ r → Goes ws k l
    by None e = never l (sym (share_goes ws k h p b ∙ ap (snoc_to (last_word ws k)) e) ∙ has)
    by (Some m) e = record {
      inside = h;
      some_earlier = p;
      earlier = b;
      rest = m;
      rest_is = e;
      list = ap list_by (sym has ∙ share_goes ws k h p b ∙ ap (snoc_to (last_word ws k)) e);
    }

has_by : (ws : List ℕ) (k : ℕ) (l : List ℕ) → methods_of ws k ≡ Some l → Share ws k → HasList ws k l
has_by ws k l has (outside h) = never l (sym (share_outside ws k h) ∙ has)
has_by ws k l has (back h b) = never l (sym (share_back ws k h b) ∙ has)
has_by ws k l has (ends h e) = has_ends (record { inside = h; list = ap list_by (sym has ∙ share_ends ws k h e) })
has_by ws k l has (goes h p b) = has_goes (goes_by ws k l has h p b)

pub has_list : (ws : List ℕ) (k : ℕ) (l : List ℕ) → methods_of ws k ≡ Some l → HasList ws k l
has_list ws k l has = has_by ws k l has (share ws k)

-- a share lists two methods or more: by recursion on the steps that its number allows
two_by : (ws : List ℕ) (k : ℕ) (l : List ℕ) → ((j : ℕ) (m : List ℕ) → j < k → methods_of ws j ≡ Some m → 2 ≤ length m) → HasList ws k l → 2 ≤ length l
two_by ws k l ih (has_ends e) = omega (arith, ap length e.list)
two_by ws k l ih (has_goes g) =
    omega (arith, ih (earlier_word ws k - 1) g.rest (omega arith) g.rest_is, simp length-append at (ap length g.list))

two_in : (n : ℕ) (ws : List ℕ) (k : ℕ) (l : List ℕ) → k < n → methods_of ws k ≡ Some l → 2 ≤ length l
two_in zero ws k l h has = absurd (omega arith)
two_in (suc n) ws k l h has = two_by ws k l (λ j m q e. two_in n ws j m (omega arith) e) (has_list ws k l has)

pub two_of : (ws : List ℕ) (k : ℕ) (l : List ℕ) → methods_of ws k ≡ Some l → 2 ≤ length l
two_of ws k l has = two_in (suc k) ws k l (omega arith) has

goes_of : (ws : List ℕ) (k : ℕ) (l : List ℕ) → 2 < length l → HasList ws k l → Goes ws k l
goes_of ws k l h (has_goes g) = g
goes_of ws k l h (has_ends e) = absurd (omega (arith, ap length e.list))

ends_of : (ws : List ℕ) (k : ℕ) (l : List ℕ) → length l ≤ 2 → HasList ws k l → Ends ws k l
ends_of ws k l h (has_ends e) = e
ends_of ws k l h (has_goes g) =
    absurd (omega (arith, two_of ws (earlier_word ws k - 1) g.rest g.rest_is, simp length-append at (ap length g.list)))

inside_of : (ws : List ℕ) (k : ℕ) (l : List ℕ) → HasList ws k l → k < length ws / 3
inside_of ws k l (has_ends e) = e.inside
inside_of ws k l (has_goes g) = g.inside

module _ (ws : List ℕ) (k : ℕ) (l : List ℕ) (has : methods_of ws k ≡ Some l) where
  pub list_inside : k < length ws / 3
  list_inside = inside_of ws k l (has_list ws k l has)

  -- a list longer than two goes on with the earlier share; another is the two methods of this one
  pub list_goes : 2 < length l → Goes ws k l
  list_goes h = goes_of ws k l h (has_list ws k l has)

  pub list_ends : length l ≤ 2 → Ends ws k l
  list_ends h = ends_of ws k l h (has_list ws k l has)
