-- The owners of finds are a set with a rising list, whatever the file, keys, area and query: walking from a place, an occurrence
-- there is the first one and its owner joins those from its end on, and without one the owners are those from the next place on.
--     occurrence_touched          every occurrence begins in a find, or where one begins
--     owners_listed               the rising list
--     outside, in_area            the area
-- Assumes nothing.
use Rattle.std.specs.Prelude.{Option}
use Prim.Native.Nat.{ℕ, zero, suc, ◌+◌, ◌≤◌, ◌<◌}
use native.Mathlib.Omega.{arith}
use mathlib.Core.Path.{◌≡◌, refl, ap, sym, subst, ◌∙◌}
use mathlib.Core.Logic.{◌⊎◌, inl, inr, ⊎_elim}
use mathlib.Core.List.{List}
use lib.ListN.{length}
use Rattle.word_set.specs.Steps.{Matched}
use Rattle.word_set.proofs.Found.{matched_same}
use Rattle.word_set.proofs.Sets.{below_or_not, Listed, set_none, set_with, set_same}
use Rattle.string_search.specs.declared.Owner.{Owner}
use Rattle.string_search.specs.declared.Owner.TheVariants.{Entry, Absent}
use Rattle.byte_search.specs.Occurs.{Occurs}
use Rattle.string_search.specs.Finds.{First, Find, leftmost, further}
use Rattle.string_search.specs.Owner.{owner}
use Rattle.byte_search.proofs.Occurs.{occurs_or_not}
use Rattle.string_search.specs.Search.{OwnsFrom, Area, Owns}
use Rattle.string_search.proofs.Finds.{owned_first, first_owned, later_owned, none_owned}

module _ (s q : List ℕ) (e : ℕ) where
  -- where no occurrence begins at a place, the first from there is the first from the next
  first_later : {from p : ℕ} → (Occurs s q e from → ⊥) → First s q e (from + 1) p → First s q e from p
  first_later {from} {p} n f = record {
    after = omega (arith, f.after);
    occurs = f.occurs;
    none_before =
        λ k a b o. ⊎_elim (λ (d : from < k). f.none_before k (omega arith) b o)
        (λ (d : k ≤ from). n (let i : k ≡ from = omega arith in subst (Occurs s q e) i o)) (below_or_not from k);
  }

  first_past : {from p : ℕ} → (Occurs s q e from → ⊥) → First s q e from p → First s q e (from + 1) p
  first_past {from} {p} n f = record {
    after =
        ⊎_elim (λ (d : from < p). omega arith)
        (λ (d : p ≤ from). absurd (n (let i : p ≡ from = omega (arith, f.after) in subst (Occurs s q e) i f.occurs))) (below_or_not from p);
    occurs = f.occurs;
    none_before = λ k a b o. f.none_before k (omega arith) b o;
  }

  find_later : {from p : ℕ} → (Occurs s q e from → ⊥) → Find s q e (from + 1) p → Find s q e from p
  find_later n (leftmost f) = leftmost (first_later n f)
  find_later n (further f r) = further (first_later n f) r

  find_past : {from p : ℕ} → (Occurs s q e from → ⊥) → Find s q e from p → Find s q e (from + 1) p
  find_past n (leftmost f) = leftmost (first_past n f)
  find_past n (further f r) = further (first_past n f) r

  first_here : {from : ℕ} → Occurs s q e from → First s q e from from
  first_here o = record { after = omega arith; occurs = o; none_before = λ k a b. absurd (omega arith) }

  -- every occurrence begins in a find
  pub record Touched (from k : ℕ) : Type 0 where
    pub p : ℕ
    pub find : Find s q e from p
    pub before : p ≤ k
    pub reaches : k < p + length q

  touched : (fuel from k : ℕ) → 0 < length q → k < from + fuel → from ≤ k → Occurs s q e k → Touched from k
  touched zero from k l h a o = absurd (omega arith)
  touched (suc fuel) from k l h a o =
      ⊎_elim
      (λ (d : Occurs s q e from). ⊎_elim (λ (m : k < from + length q). record { p = from; find = leftmost (first_here d); before = a; reaches = m })
      (λ (m : from + length q ≤ k). let t = touched fuel (from + length q) k l (omega arith) m o in
      record { p = t.p; find = further (first_here d) t.find; before = t.before; reaches = t.reaches }) (below_or_not k (from + length q)))
      (λ (d : Occurs s q e from → ⊥). let t = touched fuel (from + 1) k l (omega arith) (⊎_elim (λ (m : from < k). omega arith)
      (λ (m : k ≤ from). absurd (d (let i : k ≡ from = omega arith in subst (Occurs s q e) i o))) (below_or_not from k)) o in
      record { p = t.p; find = find_later d t.find; before = t.before; reaches = t.reaches })
      (occurs_or_not s q e from)

  pub occurrence_touched : {from k : ℕ} → 0 < length q → from ≤ k → Occurs s q e k → Touched from k
  occurrence_touched {from} {k} l a o = touched (suc k) from k l (omega arith) a o

  module _ (ks : List ℕ) where
    with_owner : {from : ℕ} → Occurs s q e from → (o : Owner) → owner ks from ≡ o → Listed (OwnsFrom s ks q e (from + length q))
        → Listed (OwnsFrom s ks q e from)
    with_owner {from} d (Entry i) h l =
        let w = set_with i l in
        let f = first_here d in
        record {
          list = w.list;
          set = set_same
              (λ x m. ⊎_elim (λ (g : x ≡ i). first_owned f x (h ∙ ap Entry (sym g)))
              (λ (g : OwnsFrom s ks q e (from + length q) x). later_owned f x g) m)
              (λ x m. ⊎_elim (λ (g : owner ks from ≡ Entry x). inl (let k : x ≡ i = cc in k)) (λ (g : OwnsFrom s ks q e (from + length q) x). inr g)
              (owned_first f x m)) w.set;
        }
    with_owner {from} d Absent h l =
        let f = first_here d in
        record {
          list = l.list;
          set = set_same (λ x m. later_owned f x m)
              (λ x m. ⊎_elim (λ (g : owner ks from ≡ Entry x). absurd (let z : ◌≡◌ {A = ℕ} 0 1 = cc in omega arith))
              (λ (g : OwnsFrom s ks q e (from + length q) x). g) (owned_first f x m)) l.set;
        }

    pub owned_list : (fuel from : ℕ) → 0 < length q → e < from + fuel → Listed (OwnsFrom s ks q e from)
    owned_list zero from l h = set_none (none_owned (λ k a o. omega (arith, o.inside)))
    owned_list (suc fuel) from l h =
        ⊎_elim (λ (d : Occurs s q e from). with_owner d (owner ks from) refl (owned_list fuel (from + length q) l (omega arith)))
        (λ (d : Occurs s q e from → ⊥). let r = owned_list fuel (from + 1) l (omega arith) in
        record {
          list = r.list;
          set = set_same (λ x o. record { at = o.at; find = find_later d o.find; owns = o.owns })
              (λ x o. record { at = o.at; find = find_past d o.find; owns = o.owns }) r.set;
        })
        (occurs_or_not s q e from)

module _ (w : Area) (q : List ℕ) where
  pub owners_listed : Listed (Owns w q)
  owners_listed =
      ⊎_elim (λ (h : 0 < length q). ⊎_elim (λ (m : w.to < w.from). set_none (λ x o. omega (arith, o.forward)))
      (λ (m : w.from ≤ w.to). ⊎_elim (λ (n : length w.file < w.to). set_none (λ x o. omega (arith, o.inside)))
      (λ (n : w.to ≤ length w.file). let l = owned_list w.file q w.to w.keys (suc w.to) w.from h (omega arith) in
      record { list = l.list; set = set_same (λ x o. record { asked = h; forward = m; inside = n; owned = o }) (λ x o. o.owned) l.set })
      (below_or_not (length w.file) w.to))
      (below_or_not w.to w.from))
      (λ (h : length q ≤ 0). set_none (λ x o. omega (arith, o.asked)))
      (below_or_not 0 (length q))

  -- an area backward or past the file's end has no owner
  pub outside : (w.to < w.from) ⊎ ((w.from ≤ w.to) × (length w.file < w.to)) → (x : ℕ) → Owns w q x → ⊥
  outside d x o =
      ⊎_elim (λ (h : w.to < w.from). omega (arith, o.forward))
      (λ (h : (w.from ≤ w.to) × (length w.file < w.to)). omega (arith, o.inside, h.1)) d

  -- the owners from the area's start on are those of the area
  module _ (asked : 0 < length q) (forward : w.from ≤ w.to) (inside : w.to ≤ length w.file) where
    pub in_area : {out out' : List ℕ} {r : (Option ℕ)} → Matched (OwnsFrom w.file w.keys q w.to w.from) out out' r
        → Matched (Owns w q) out out' r
    in_area m = matched_same (λ x o. record { asked = asked; forward = forward; inside = inside; owned = o }) (λ x o. o.owned) m
