-- The tables tell which indices are wanted, since each word of the list that was passed has left its trace in them.
--     is_in       is_in_take, any_is_in, parts_is_in
--     TableOf     table_marked, table_passed, table_tells
--     WantedOf    wanted_none, wanted_in, wanted_out, wanted_tells
--     Tells       tells_listed, tells_table
-- Assumes nothing.
use mathlib.Core.Path.{◌≡◌, refl, ap, sym, subst, ◌∙◌}
use mathlib.Core.Bool.{Bool, true, false, not, ◌&&◌, ◌||◌}
use mathlib.Core.Logic.{⊎_elim}
use mathlib.Core.List.{List, [], ◌∷◌, ◌++◌}
use Prim.Native.Nat.{ℕ, ◌+◌, ◌*◌, ◌≤◌, ◌<◌}
use native.Mathlib.Numerals.{add-one}
use native.Mathlib.Omega.{arith}
use lib.Dec.{ltb, eqb}
use lib.ListN.{length, get_or, set, take}
use lib.Seq.{take-suc, get_or-set_same, get_or-set_other}
use borrow.Author.Tests.{eq-eqb, ne_eqb, eqb-true, eqb-false, ltb-true, ltb-false, lt-ltb, le-ltb, le-leb}
use denote.Ref.{Bor}
use denote.Param.Members.{Mut}
use Rattle.std.specs.Prelude.{None, Some}
use Rattle.std.specs.Fn.{Called}
use Rattle.std.specs.Iterator.{Yields, ChecksAny}
use Rattle.std.specs.List.{FoldsTo, list_any}
use Rattle.std.specs.Slice.Iter.{rchunks_rest, rchunks_steps}
use Rattle.dalvik.specs.Instructions.{Kind}
use Rattle.dalvik.specs.Instructions.Kind.{strings}
use Rattle.kinds.specs.Kinds.{is_strings}
use Rattle.words.proofs.Shared.{case}
use Rattle.index_set.specs.Bits.{is_held, Adds}
use Rattle.code_item_scan.specs.Scan.{is_in}
use Rattle.code_item_scan.specs.Next.{IndexSet, index_set_of, index_count, listed, holds, Tells}
use Rattle.code_item_scan.specs.Steps.{bit, Told, TableOf, NoneHeld, WantedOf}

or_assoc : (a b c : Bool) → (a || b) || c ≡ a || (b || c)
or_assoc true b c = refl
or_assoc false b c = refl

or_false : (a : Bool) → a || false ≡ a
or_false true = refl
or_false false = refl

or_true : (a : Bool) → a || true ≡ true
or_true true = refl
or_true false = refl

is_in_append : (x : ℕ) (a b : List ℕ) → is_in x (a ++ b) ≡ is_in x a || is_in x b
is_in_append x [] b = refl
is_in_append x (y ∷ a) b = ap (λ (t : Bool). eqb x y || t) (is_in_append x a b) ∙ sym (or_assoc (eqb x y) (is_in x a) (is_in x b))

-- x is one of the words where one of them equals it
eqb_turned : (x y : ℕ) → eqb y x ≡ eqb x y
eqb_turned x y =
    ⊎_elim (λ e. eq-eqb y x (sym (eqb-true x y e)) ∙ sym e) (λ e. ne_eqb y x (λ z. eqb-false x y e (sym z)) ∙ sym e) (case (eqb x y))

pub any_is_in : (x : ℕ) (l : List ℕ) → list_any (λ y. eqb y x) l ≡ is_in x l
any_is_in x [] = refl
any_is_in x (y ∷ ys) = rw (eqb_turned x y, any_is_in x ys)

none_is_in : (x : ℕ) (l : List ℕ) → length l ≡ 0 → false ≡ is_in x l
none_is_in x [] e = refl
none_is_in x (y ∷ ys) e = absurd (omega arith)

-- x is one of the words where it is one of a part that comes off their end: each part that was passed has it not, and the walk stops at a
-- part that has it, or where nothing is left
module _ {F : Type 0} (g : Mut F (Bor (List ℕ) × Unit {0}) Bool) (f : F) (x : ℕ)
    (k : (p : Bor (List ℕ)) (b : Bool) (q : F) → Called g f (p, tt) b q → (q ≡ f) × (b ≡ list_any (λ y. eqb y x) p.now)) where
  passed_is_in : (s t : _) (xs : List (Bor (List ℕ))) (j : F) → Yields rchunks_steps s xs t → FoldsTo (λ p y q. Called g p (y, tt) false q) f xs j
      → (is_in x (rchunks_rest s) ≡ is_in x (rchunks_rest t)) × (j ≡ f)
  passed_is_in s t [] j y h = (ap (λ z. is_in x (rchunks_rest z)) y, sym h)
  passed_is_in s t (p ∷ ps) j (u, step, y) (q, call, h) =
      let e = k p false q call in
      let more = passed_is_in u t ps j y (subst (λ w. FoldsTo (λ a y b. Called g a (y, tt) false b) w ps j) e.0 h) in (
        ap (is_in x) step.1.0 ∙ is_in_append x (rchunks_rest u) p.now ∙ ap (λ b. is_in x (rchunks_rest u) || b) (sym (e.1 ∙ any_is_in x p.now))
            ∙ or_false (is_in x (rchunks_rest u)) ∙ more.0,
        more.1,
      )

  pub parts_is_in : (r : Bool) (s u : _) → ChecksAny rchunks_steps g s f r u → r ≡ is_in x (rchunks_rest s)
  parts_is_in r s u (xs, None, j, (t, y, last), h, e) = e ∙ none_is_in x (rchunks_rest t) last.1.0 ∙ sym (passed_is_in s t xs j y h).0
  parts_is_in r s u (xs, Some p, j, (t, y, last), h, (e, (q, call))) =
      let w = passed_is_in s t xs j y h in
      let n = k p true q (subst (λ a. Called g a (p, tt) true q) w.1 call) in
      e ∙ sym (or_true (is_in x (rchunks_rest u))) ∙ ap (λ b. is_in x (rchunks_rest u) || b) (n.1 ∙ any_is_in x p.now)
      ∙ sym (ap (is_in x) last.1.0 ∙ is_in_append x (rchunks_rest u) p.now) ∙ sym w.0

-- one word more
pub is_in_take : (x : ℕ) (l : List ℕ) (i : ℕ) → i < length l → is_in x (take (i + 1) l) ≡ is_in x (take i l) || eqb x (get_or l i 0)
is_in_take x l i h =
    rw (add-one i)
    (rw (take-suc l i 0 h) (is_in_append x (take i l) (get_or l i 0 ∷ []) ∙ ap (λ (t : Bool). is_in x (take i l) || t) (or_false (eqb x (get_or l i 0)))))

pub is_in_more : (x : ℕ) (l : List ℕ) (i : ℕ) → i < length l → get_or l i 0 ≡ x → is_in x (take (i + 1) l) ≡ true
is_in_more x l i h e = is_in_take x l i h ∙ rw (eq-eqb x (get_or l i 0) (sym e)) (or_true (is_in x (take i l)))

pub is_in_no_more : (x : ℕ) (l : List ℕ) (i : ℕ) → i < length l → (get_or l i 0 ≡ x → ⊥) → is_in x (take (i + 1) l) ≡ is_in x (take i l)
is_in_no_more x l i h n = is_in_take x l i h ∙ rw (ne_eqb x (get_or l i 0) (λ z. n (sym z))) (or_false (is_in x (take i l)))

-- the table of the wanted indices of two bytes
module _ (l t : List ℕ) (i : ℕ) (h : i < length l) (e : (y : ℕ) → y < index_count → get_or t y 0 ≡ bit (is_in y (take i l))) where
  pub table_marked : length t ≡ index_count → (y : ℕ) → y < index_count → get_or (set t (get_or l i 0) 1) y 0 ≡ bit (is_in y (take (i + 1) l))
  table_marked n y k =
      ⊎_elim
      (λ q.
      let z : get_or l i 0 ≡ y = sym (eqb-true y (get_or l i 0) q) in
      rw (is_in_more y l i h z) (rw z (get_or-set_same t y 1 0 (omega arith))))
      (λ q.
      let z : get_or l i 0 ≡ y → ⊥ = λ f. eqb-false y (get_or l i 0) q (sym f) in
      rw (is_in_no_more y l i h z) (get_or-set_other t (get_or l i 0) y 1 0 (λ f. z (sym f)) ∙ e y k))
      (case (eqb y (get_or l i 0)))

  pub table_passed : index_count ≤ get_or l i 0 → (y : ℕ) → y < index_count → get_or t y 0 ≡ bit (is_in y (take (i + 1) l))
  table_passed n y k = rw (is_in_no_more y l i h (λ z. omega arith)) (e y k)

bit_one : (b : Bool) → ltb 0 (bit b) ≡ b
bit_one true = refl
bit_one false = refl

-- the table tells which indices of two bytes are wanted
pub table_tells : (wanted table bits : List ℕ) (kind : Kind) → is_strings kind ≡ false → TableOf wanted table
    → Tells (index_set_of table bits false wanted) kind (λ x. is_in x wanted)
unfolding holds
table_tells wanted table bits kind k t x small =
    rw (k, le-leb index_count (length table) (omega (arith, t.long)), t.at x (small k)) (bit_one (is_in x wanted))

-- the set of the wanted words: none before the first word
pub wanted_none : (l : List ℕ) {bits : List ℕ} → NoneHeld bits → WantedOf (take 0 l) bits false
wanted_none l e = record { at = λ x h. e x; none_other = λ o x h. refl }

not_true : (b : Bool) → not b ≡ true → b ≡ false
not_true true e = sym e
not_true false e = refl

not_false : (b : Bool) → not b ≡ false → b ≡ true
not_false true e = refl
not_false false e = sym e

-- one word more
module _ (l : List ℕ) (i : ℕ) (h : i < length l) {b b' : List ℕ} {o r : Bool} (w : WantedOf (take i l) b o) (d : Adds (get_or l i 0) b b' r) where
  abbrev word : ℕ
  word = get_or l i 0

  joins : r ≡ true → word < 64 * length b
  joins e = let t : ltb word (64 * length b) ≡ true = sym d.inside ∙ e in ltb-true word (64 * length b) t

  stays_out : r ≡ false → 64 * length b ≤ word
  stays_out e = let t : ltb word (64 * length b) ≡ false = sym d.inside ∙ e in ltb-false word (64 * length b) t

  pub wanted_in : not r ≡ false → WantedOf (take (i + 1) l) b' o
  wanted_in n = let e : r ≡ true = not_false r n in record {
    at = λ x k. d.held x ∙ rw (e, w.at x (omega (arith, d.long))) (sym (is_in_take x l i h));
    none_other = λ f x k. is_in_no_more x l i h (λ z. omega (arith, joins e, d.long)) ∙ w.none_other f x (omega (arith, d.long));
  }

  pub wanted_out : not r ≡ true → WantedOf (take (i + 1) l) b' true
  wanted_out n = let e : r ≡ false = not_true r n in record {
    at =
        λ x k. d.held x ∙ rw (e, w.at x (omega (arith, d.long)))
        (or_false (is_in x (take i l)) ∙ sym (is_in_no_more x l i h (λ z. omega (arith, stays_out e, d.long))));
    none_other = λ f x k. absurd (let z : ◌≡◌ {A = ℕ} 0 1 = cc in omega arith);
  }

-- ---- the set as it is asked

module _ (W : IndexSet) (x : ℕ) where
  pub listed_bit : x < 64 * length W.bits → is_held W.bits x ≡ listed W x
  unfolding listed
  listed_bit h = simp (lt-ltb x (64 * length W.bits) h)

  pub listed_word : 64 * length W.bits ≤ x → W.others ≡ true → is_in x W.words ≡ listed W x
  unfolding listed
  listed_word h e = simp (le-ltb x (64 * length W.bits) h, e)

  pub listed_none : 64 * length W.bits ≤ x → W.others ≡ false → false ≡ listed W x
  unfolding listed
  listed_none h e = simp (le-ltb x (64 * length W.bits) h, e)

others_by : (wanted bits : List ℕ) (others : Bool) → WantedOf wanted bits others → (x : ℕ) → 64 * length bits ≤ x
    → others && is_in x wanted ≡ is_in x wanted
others_by wanted bits true w x h = refl
others_by wanted bits false w x h = sym (w.none_other refl x h)

-- the bits and the words tell which strings are wanted
pub wanted_tells : (wanted table bits : List ℕ) (others : Bool) → WantedOf wanted bits others
    → Tells (index_set_of table bits others wanted) strings (λ x. is_in x wanted)
unfolding holds listed
wanted_tells wanted table bits others w x small =
    ⊎_elim
    (λ h. rw h (w.at x (ltb-true x (64 * length bits) h)))
    (λ h. rw h (others_by wanted bits others w x (ltb-false x (64 * length bits) h)))
    (case (ltb x (64 * length bits)))

module _ (W : IndexSet) (kind : Kind) (wants : ℕ → Bool) (t : Tells W kind wants) where
  pub tells_listed : is_strings kind ≡ true → (x : ℕ) → listed W x ≡ wants x
  unfolding holds
  tells_listed k x = rw k at (t x (λ e. absurd (let z : ◌≡◌ {A = ℕ} 0 1 = cc in omega arith)))

  pub tells_table : is_strings kind ≡ false → Told W.table wants
  unfolding holds
  tells_table k x h = rw k at (t x (λ e. h))
