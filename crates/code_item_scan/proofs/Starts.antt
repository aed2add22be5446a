-- What one start tells and what is left after it: a start that names no wanted index, or is not tried, drops out of the hits, and where a
-- region begins matters only for which starts are tried.
--     named       named_other, named_short, named_unwanted, named_wanted, named_even
--     hits_by     no_hits, hits_alike
--     Came        came_on, came_found, came_end, came_skipped, string_miss, string_found
--     Passed      passed_skipped, passed_on, passed_found, passed_end
--     Tells       tells_backward, tells_string, tells_short, tells_even
-- Assumes nothing.
use Rattle.std.specs.Prelude.{Option, None, Some}
use mathlib.Core.Path.{◌≡◌, refl, ap, sym, ◌∙◌, subst}
use mathlib.Core.Bool.{Bool, true, false, ◌&&◌, cond}
use mathlib.Core.List.{List, [], ◌∷◌}
use mathlib.Core.Logic.{inl, inr, ⊎_elim}
use Prim.Native.Nat.{ℕ, zero, suc, ◌+◌, ◌-◌, ◌%◌, ◌≤◌, ◌<◌, min}
use native.Mathlib.Numerals.{add-one}
use native.Mathlib.Omega.{arith}
use lib.Dec.{eqb, ltb, leb}
use lib.ListN.{length, get_or}
use borrow.Author.Tests.{eq-eqb, ne_eqb, lt-ltb, lt-leb, le-leb}
use Rattle.byte_search.specs.First.{Is, Either, First}
use Rattle.byte_search.proofs.Firsts.{onward}
use Rattle.dalvik.specs.Numbers.{byte, le16, le32}
use Rattle.dalvik.specs.Instructions.{Kind}
use Rattle.dalvik.specs.Instructions.Kind.{strings}
use Rattle.structs.specs.Reads.{HalfAt}
use Rattle.kinds.specs.Kinds.{is_strings}
use Rattle.kinds.specs.Width.{width_of}
use Rattle.kinds.proofs.Widths.{width_even, width_any, strings_only}
use Rattle.code_item_scan.specs.Scan.{Hit, index_at, is_tried, Sought, sought, is_hit, hits_in, hits_by}
use Rattle.code_item_scan.specs.Next.{IndexSet, index_set_of, index_count, tabled, listed, Tells, on_from, FirstHit, Finds}
use Rattle.code_item_scan.specs.Steps.{named_by, named, Told, EvenHit, Skipped, SkippedEven, FindsEven}
use Rattle.code_item_scan.specs.declared.Found.{Found}
use Rattle.code_item_scan.proofs.Sets.{tells_listed, tells_table}
use Rattle.code_item_scan.proofs.Listed.{tried_even}

-- ---- the index

pub index_four : (s : List ℕ) (i w : ℕ) → w ≡ 4 → le32 s i ≡ index_at s i w
unfolding index_at
index_four s i w e = simp (eq-eqb w 4 e)

pub index_two : (s : List ℕ) (i w : ℕ) → (w ≡ 4 → ⊥) → le16 s i ≡ index_at s i w
unfolding index_at
index_two s i w n = simp (ne_eqb w 4 n)

string_none : (op : ℕ) → (Is 0x1a 0x1b op → ⊥) → width_of strings op ≡ 0
unfolding width_of
string_none op h = simp (ne_eqb op 0x1a (λ e. h (inl e)), ne_eqb op 0x1b (λ e. h (inr e)))

-- ---- one start

second : (a b c : Bool) (x : Option ℕ) → b ≡ false → cond (a && b && c) x None ≡ None
second true b c x e = rw e
second false b c x e = refl

third : (a b c : Bool) (x : Option ℕ) → c ≡ false → cond (a && b && c) x None ≡ None
third true true c x e = rw e
third true false c x e = refl
third false b c x e = refl

module _ (s : List ℕ) (kind : Kind) (wants : ℕ → Bool) (to p : ℕ) where
  abbrev width : ℕ
  width = width_of kind (byte s p)

  pub named_other : 0 ≡ width → None ≡ named s kind wants to p
  unfolding named
  named_other e = ap (named_by s wants to p) e

  pub named_short : (w : ℕ) → w ≡ width → to < p + 2 + w → None ≡ named s kind wants to p
  unfolding named
  named_short w e h = sym (second (ltb 0 w) (leb (p + 2 + w) to) _ _ (lt-leb (p + 2 + w) to h)) ∙ ap (named_by s wants to p) e

  pub named_unwanted : (w x : ℕ) → w ≡ width → x ≡ index_at s (p + 2) w → wants x ≡ false → None ≡ named s kind wants to p
  unfolding named
  named_unwanted w x e i n =
      sym (third (ltb 0 w) (leb (p + 2 + w) to) _ _ (ap wants (sym i) ∙ n)) ∙ ap (named_by s wants to p) e

  pub named_wanted : (w x : ℕ) → w ≡ width → 0 < w → p + 2 + w ≤ to → x ≡ index_at s (p + 2) w → wants x ≡ true
      → Some x ≡ named s kind wants to p
  unfolding named
  named_wanted w x e n h i y =
      let f : named_by s wants to p w ≡ Some x = simp (lt-ltb 0 w n, le-leb (p + 2 + w) to h, sym i, y) in
      sym f ∙ ap (named_by s wants to p) e

  -- where indices have two bytes, an unwanted one tells alone
  pub named_even : (x : ℕ) → is_strings kind ≡ false → x ≡ le16 s (p + 2) → wants x ≡ false → None ≡ named s kind wants to p
  unfolding index_at
  named_even x k i n = ⊎_elim (λ e. named_other (sym e)) (λ e. named_unwanted 2 x (sym e) i n) (width_even kind (byte s p) k)

  pub named_end : to < p + 4 → None ≡ named s kind wants to p
  named_end h = ⊎_elim (λ e. named_other (sym e)) (λ l. named_short width refl (omega arith)) (width_any kind (byte s p))

-- ---- the starts one after another

tried_none : (a b c d : Bool) (x : ℕ) → None ≡ cond (b && c && d) (Some x) None → a && b && c && d ≡ false
tried_none false b c d x e = refl
tried_none true false c d x e = refl
tried_none true true false d x e = refl
tried_none true true true false x e = refl
tried_none true true true true x e = let z : ◌≡◌ {A = ℕ} 0 1 = cc in absurd (omega arith)

tried_some : (b c d : Bool) (x y : ℕ) → Some x ≡ cond (b && c && d) (Some y) None → (true && b && c && d ≡ true) × (y ≡ x)
tried_some true true true x y e = (refl, cc)
tried_some false c d x y e = let z : ◌≡◌ {A = ℕ} 0 1 = cc in absurd (omega arith)
tried_some true false d x y e = let z : ◌≡◌ {A = ℕ} 0 1 = cc in absurd (omega arith)
tried_some true true false x y e = let z : ◌≡◌ {A = ℕ} 0 1 = cc in absurd (omega arith)

module _ (s : List ℕ) (kind : Kind) (wants : ℕ → Bool) (from to : ℕ) where
  abbrev Q : Sought
  Q = sought kind wants from to

  abbrev left : ℕ → List Hit
  left p = hits_in (to - p) s Q p

  no_hit : (p : ℕ) → None ≡ named s kind wants to p → is_hit s Q p ≡ false
  unfolding named
  no_hit p e = tried_none (is_tried kind (p - from)) _ _ _ _ e

  hit_named : (p x : ℕ) → is_tried kind (p - from) ≡ true → Some x ≡ named s kind wants to p
      → (is_hit s Q p ≡ true) × (index_at s (p + 2) (width_of kind (byte s p)) ≡ x)
  unfolding named
  hit_named p x t e =
      let w = width_of kind (byte s p) in
      rw t (tried_some (ltb 0 w) (leb (p + 2 + w) to) (wants (index_at s (p + 2) w)) x (index_at s (p + 2) w) e)

  no_tries : (p : ℕ) → is_tried kind (p - from) ≡ false → is_hit s Q p ≡ false
  no_tries p e = rw e

  one_miss : (n p : ℕ) → is_hit s Q p ≡ false → hits_in (suc n) s Q p ≡ hits_in n s Q (suc p)
  unfolding hits_in
  one_miss n p e = rw e

  one_hit : (n p x : ℕ) → is_hit s Q p ≡ true → index_at s (p + 2) (width_of kind (byte s p)) ≡ x
      → hits_in (suc n) s Q p ≡ record { off = p; mark = x } ∷ hits_in n s Q (suc p)
  unfolding hits_in
  one_hit n p x e i = rw (e, i)

  miss : (p : ℕ) → p < to → is_hit s Q p ≡ false → left p ≡ left (p + 1)
  miss p h e =
      let k : to - p ≡ suc (to - (p + 1)) = omega arith in
      rw (k, add-one p) (one_miss (to - suc p) p e)

  next_none : (p : ℕ) → p < to → None ≡ named s kind wants to p → left p ≡ left (p + 1)
  next_none p h e = miss p h (no_hit p e)

  next_some : (p x : ℕ) → p < to → is_tried kind (p - from) ≡ true → Some x ≡ named s kind wants to p
      → left p ≡ record { off = p; mark = x } ∷ left (p + 1)
  next_some p x h t e =
      let k : to - p ≡ suc (to - (p + 1)) = omega arith in
      let f = hit_named p x t e in
      rw (k, add-one p) (one_hit (to - suc p) p x f.0 f.1)

  none_left : (n p : ℕ) → to < p + 4 → hits_in n s Q p ≡ []
  unfolding hits_in
  none_left zero p h = refl
  none_left (suc n) p h = one_miss n p (no_hit p (named_end s kind wants to p h)) ∙ none_left n (suc p) (omega arith)

  -- below four bytes there is none
  pub no_hits : to < from + 4 → hits_by s Q ≡ []
  unfolding hits_by
  no_hits h = none_left (to - from) from h

  pub no_region : to < from → hits_by s Q ≡ []
  no_region h = no_hits (omega arith)

  -- where a region begins matters only for which starts are tried
  moved : (a n p : ℕ) → ((q : ℕ) → p ≤ q → is_tried kind (q - from) ≡ is_tried kind (q - a)) → hits_in n s Q p ≡ hits_in n s (sought kind wants a to) p
  unfolding hits_in
  moved a zero p f = refl
  moved a (suc n) p f = rw (f p (omega arith), moved a n (suc p) (λ q h. f q (omega arith)))

  -- nor does it matter how it is told which indices are wanted
  alike : (wants' : ℕ → Bool) → ((x : ℕ) → wants x ≡ wants' x) → (n p : ℕ) → hits_in n s Q p ≡ hits_in n s (sought kind wants' from to) p
  unfolding hits_in
  alike wants' f zero p = refl
  alike wants' f (suc n) p = rw (f (index_at s (p + 2) (width_of kind (byte s p))), alike wants' f n (suc p))

  pub hits_alike : (wants' : ℕ → Bool) → ((x : ℕ) → wants x ≡ wants' x) → hits_by s Q ≡ hits_by s (sought kind wants' from to)
  unfolding hits_by
  hits_alike wants' f = alike wants' f (to - from) from

tried_strings : (d : ℕ) → is_tried strings d ≡ true
unfolding is_tried
tried_strings d = refl

-- ---- what is found

module _ {s : List ℕ} {Q : Sought} where
  pub finds_hit : (f : Found) → FirstHit s Q f.off f.mark f.next → Finds s Q (Some f)
  finds_hit f h =
      record {
        hit = λ g e. let d : f ≡ g = cc in subst (λ (k : Found). FirstHit s Q k.off k.mark k.next) d h;
        none_left = λ e. absurd (let z : ◌≡◌ {A = ℕ} 0 1 = cc in omega arith);
      }

  pub finds_nothing : hits_by s Q ≡ [] → Finds s Q None
  finds_nothing h = record { hit = λ f e. absurd (let z : ◌≡◌ {A = ℕ} 0 1 = cc in omega arith); none_left = λ e. h }

-- ---- from one start to another

-- no hit starts before p, from which on the rest is the same
pub record Came (s : List ℕ) (Q : Sought) (p : ℕ) : Type 0 where
  pub same : hits_by s Q ≡ hits_by s (on_from Q p)
  pub onward : Q.from ≤ p
  pub inside : p ≤ Q.to

module _ {s : List ℕ} {Q : Sought} where
  pub came_on : {p r : ℕ} → Came s Q p → Came s (on_from Q p) r → Came s Q r
  came_on a b = record { same = a.same ∙ b.same; onward = omega (arith, a.onward, b.onward); inside = b.inside }

  pub came_found : {p off mark next : ℕ} → Came s Q p → FirstHit s (on_from Q p) off mark next → FirstHit s Q off mark next
  came_found a f = record { hits = a.same ∙ f.hits; onward = omega (arith, a.onward, f.onward); passed = f.passed; inside = f.inside }

module _ (s : List ℕ) (kind : Kind) (wants : ℕ → Bool) (to : ℕ) where
  abbrev rest : ℕ → List Hit
  rest p = hits_by s (sought kind wants p to)

  pub came_start : (p : ℕ) → p ≤ to → Came s (sought kind wants p to) p
  came_start p h = record { same = refl; onward = omega arith; inside = h }

  pub came_end : (p r : ℕ) → Came s (sought kind wants p to) r → to < r + 4 → rest p ≡ []
  came_end p r c h = c.same ∙ no_hits s kind wants r to h

-- ---- strings: every start

module _ (s : List ℕ) (wants : ℕ → Bool) (to p : ℕ) (h : p < to) where
  abbrev strings_from : ℕ → List Hit
  strings_from q = hits_by s (sought strings wants q to)

  string_moved : hits_in (to - (p + 1)) s (sought strings wants p to) (p + 1) ≡ strings_from (p + 1)
  unfolding hits_by
  string_moved = moved s strings wants p to (p + 1) (to - (p + 1)) (p + 1) (λ q k. tried_strings (q - p) ∙ sym (tried_strings (q - (p + 1))))

  pub string_miss : None ≡ named s strings wants to p → Came s (sought strings wants p to) (p + 1)
  unfolding hits_by
  string_miss e = record { same = next_none s strings wants p to p h e ∙ string_moved; onward = omega arith; inside = omega arith }

  pub string_found : (x : ℕ) → Some x ≡ named s strings wants to p → FirstHit s (sought strings wants p to) p x (p + 1)
  unfolding hits_by
  string_found x e =
      record {
        hits = next_some s strings wants p to p x h (tried_strings (p - p)) e ∙ ap (λ (l : List Hit). record { off = p; mark = x } ∷ l) string_moved;
        onward = omega arith;
        passed = omega arith;
        inside = omega arith;
      }

pub came_skipped : {s : List ℕ} {to p r : ℕ} (wants : ℕ → Bool) → Skipped s to p r → Came s (sought strings wants p to) r
came_skipped wants k = record { same = k.same wants; onward = k.onward; inside = k.inside }

-- n starts, none of which opens a string instruction
skipped_more : (s : List ℕ) (to p n : ℕ) → p + n ≤ to → ((k : ℕ) → p ≤ k → k < p + n → Is 0x1a 0x1b (byte s k) → ⊥) → Skipped s to p (p + n)
skipped_more s to p zero h f =
    let e : p ≡ p + zero = omega arith in
    subst (Skipped s to p) e (record { onward = omega arith; inside = omega arith; same = λ wants. refl })
skipped_more s to p (suc n) h f =
    let e : p + n + 1 ≡ p + suc n = omega arith in
    let k : Skipped s to p (p + n) = skipped_more s to p n (omega arith) (λ i a b. f i a (omega arith)) in
    let w : width_of strings (byte s (p + n)) ≡ 0 = string_none (byte s (p + n)) (f (p + n) (omega arith) (omega arith)) in
    subst (Skipped s to p) e
    (record {
      onward = omega arith;
      inside = omega arith;
      same = λ wants. k.same wants ∙ (string_miss s wants to (p + n) (omega arith) (named_other s strings wants to (p + n) (sym w))).same;
    })

pub skipped_first : (s : List ℕ) (to p r : ℕ) → p ≤ to → to ≤ length s → First (Either 0x1a 0x1b s) p (min to (length s)) r → Skipped s to p r
skipped_first s to p r h l f =
    let a : p ≤ r = onward (omega arith) f in
    let e : p + (r - p) ≡ r = omega arith in
    subst (Skipped s to p) e (skipped_more s to p (r - p) (omega (arith, f.inside)) (λ k b c. f.none_before k b (omega arith)))

-- ---- the other kinds: every second start

module _ (s : List ℕ) (kind : Kind) (wants : ℕ → Bool) (to p : ℕ) (k : is_strings kind ≡ false) (h : p + 4 ≤ to) where
  abbrev even_from : ℕ → List Hit
  even_from q = hits_by s (sought kind wants q to)

  -- the odd start is not tried
  odd_moved : hits_in (to - (p + 1)) s (sought kind wants p to) (p + 1) ≡ even_from (p + 2)
  unfolding hits_by
  odd_moved =
      let e : p + 1 + 1 ≡ p + 2 = omega arith in
      let t : is_tried kind (p + 1 - p) ≡ false =
      tried_even kind (p + 1 - p) k ∙ ne_eqb ((p + 1 - p) % 2) 0 (λ (z : (p + 1 - p) % 2 ≡ 0). omega arith) in
      miss s kind wants p to (p + 1) (omega arith) (no_tries s kind wants p to (p + 1) t)
      ∙ ap (λ (q : ℕ). hits_in (to - q) s (sought kind wants p to) q) e
      ∙ moved s kind wants p to (p + 2) (to - (p + 2)) (p + 2)
      (λ q l.
      let f : (q - p) % 2 ≡ (q - (p + 2)) % 2 = omega arith in
      tried_even kind (q - p) k ∙ ap (λ (d : ℕ). eqb d 0) f ∙ sym (tried_even kind (q - (p + 2)) k))

  pub even_miss : None ≡ named s kind wants to p → Came s (sought kind wants p to) (p + 2)
  unfolding hits_by
  even_miss e = record { same = next_none s kind wants p to p (omega arith) e ∙ odd_moved; onward = omega arith; inside = omega arith }

  pub even_found : (x : ℕ) → Some x ≡ named s kind wants to p → FirstHit s (sought kind wants p to) p x (p + 2)
  unfolding hits_by
  even_found x e =
      let t : is_tried kind (p - p) ≡ true = tried_even kind (p - p) k ∙ eq-eqb ((p - p) % 2) 0 (omega arith) in
      record {
        hits = next_some s kind wants p to p x (omega arith) t e ∙ ap (λ (l : List Hit). record { off = p; mark = x } ∷ l) odd_moved;
        onward = omega arith;
        passed = omega arith;
        inside = omega arith;
      }

and_false : (b : Bool) → (b && false) ≡ false
and_false true = refl
and_false false = refl

-- what a table says of an index
tabled_none : (table : List ℕ) (x : ℕ) → get_or table x 0 ≡ 0 → tabled table x ≡ false
tabled_none table x e = rw e (and_false (leb index_count (length table)))

tabled_some : (table : List ℕ) (x : ℕ) → index_count ≤ length table → (get_or table x 0 ≡ 0 → ⊥) → tabled table x ≡ true
tabled_some table x h n = rw (le-leb index_count (length table) h, lt-ltb 0 (get_or table x 0) (omega arith))

module _ (s : List ℕ) (to : ℕ) (table : List ℕ) (p : ℕ) where
  pub even_skipped_none : p ≤ to → SkippedEven s to table p p
  even_skipped_none h = record { onward = omega arith; inside = h; same = λ kind wants k t. refl }

  pub even_skipped_one : (r x : ℕ) → SkippedEven s to table p r → r + 4 ≤ to → HalfAt s (r + 2) x → get_or table x 0 ≡ 0
      → SkippedEven s to table p (r + 2)
  even_skipped_one r x g h i z =
      record {
        onward = omega (arith, g.onward);
        inside = omega arith;
        same = λ kind wants k t.
            g.same kind wants k t
            ∙ (even_miss s kind wants to r k h (named_even s kind wants to r x k i.is (sym (t x i.small) ∙ tabled_none table x z))).same;
      }

module _ (s : List ℕ) (kind : Kind) (table : List ℕ) (p : ℕ) (k : is_strings kind ≡ false) where
  pub even_hit_unwanted : (x : ℕ) → HalfAt s (p + 2) x → get_or table x 0 ≡ 0 → EvenHit s kind table p None
  even_hit_unwanted x i z =
      record { is = λ wants to t h. named_even s kind wants to p x k i.is (sym (t x i.small) ∙ tabled_none table x z) }

  pub even_hit_other : 0 ≡ width_of kind (byte s p) → EvenHit s kind table p None
  even_hit_other e = record { is = λ wants to t h. named_other s kind wants to p e }

  pub even_hit_wanted : (x : ℕ) → index_count ≤ length table → HalfAt s (p + 2) x → (get_or table x 0 ≡ 0 → ⊥) → (width_of kind (byte s p) ≡ 0 → ⊥)
      → EvenHit s kind table p (Some x)
  unfolding index_at
  even_hit_wanted x l i z n =
      record {
        is = λ wants to t h.
            named_wanted s kind wants to p 2 x (⊎_elim (λ e. absurd (n e)) (λ e. sym e) (width_even kind (byte s p) k)) (omega arith) (omega arith)
            i.is
            (sym (t x i.small) ∙ tabled_some table x l z);
      }

-- no hit of the kind from p up to r
pub record Passed (s : List ℕ) (kind : Kind) (table : List ℕ) (to p r : ℕ) : Type 0 where
  pub onward : p ≤ r
  pub inside : r ≤ to
  pub same : (wants : ℕ → Bool) → Told table wants → hits_by s (sought kind wants p to) ≡ hits_by s (sought kind wants r to)

module _ (s : List ℕ) (kind : Kind) (table : List ℕ) (to p : ℕ) (k : is_strings kind ≡ false) where
  pub passed_skipped : (r : ℕ) → SkippedEven s to table p r → Passed s kind table to p r
  passed_skipped r g = record { onward = g.onward; inside = g.inside; same = λ wants t. g.same kind wants k t }

  module _ (r : ℕ) (g : Passed s kind table to p r) where
    pub passed_end : to < r + 4 → FindsEven s kind table p to None
    passed_end h wants t = finds_nothing (g.same wants t ∙ no_hits s kind wants r to h)

    module _ (h : r + 4 ≤ to) where
      pub passed_found : (x : ℕ) → EvenHit s kind table r (Some x) → FindsEven s kind table p to (Some (record { off = r; mark = x; next = r + 2 }))
      passed_found x e wants t =
          let f : FirstHit s (sought kind wants r to) r x (r + 2) = even_found s kind wants to r k h x (e.is wants to t h) in
          finds_hit (record { off = r; mark = x; next = r + 2 }) (record { hits = g.same wants t ∙ f.hits; onward = g.onward; passed = f.passed; inside = f.inside })

      -- a start that is no hit, and those skipped after it
      pub passed_on : (q : ℕ) → EvenHit s kind table r None → SkippedEven s to table (r + 2) q → Passed s kind table to p q
      passed_on q e j =
          record {
            onward = omega (arith, g.onward, j.onward);
            inside = j.inside;
            same = λ wants t. g.same wants t ∙ (even_miss s kind wants to r k h (e.is wants to t h)).same ∙ j.same kind wants k t;
          }

-- ---- any kind, for the indices that a set tells

module _ (s : List ℕ) (kind : Kind) (v w : ℕ → Bool) (same : (x : ℕ) → v x ≡ w x) (from to : ℕ) where
  first_alike : {off mark next : ℕ} → FirstHit s (sought kind v from to) off mark next → FirstHit s (sought kind w from to) off mark next
  first_alike {off} {mark} {next} f =
      record {
        hits =
            sym (hits_alike s kind v from to w same) ∙ f.hits
            ∙ ap (λ (l : List Hit). record { off = off; mark = mark } ∷ l) (hits_alike s kind v next to w same);
        onward = f.onward;
        passed = f.passed;
        inside = f.inside;
      }

  pub finds_alike : {r : Option Found} → Finds s (sought kind v from to) r → Finds s (sought kind w from to) r
  finds_alike f =
      record { hit = λ g e. first_alike (f.hit g e); none_left = λ e. sym (hits_alike s kind v from to w same) ∙ f.none_left e }

module _ (s : List ℕ) (kind : Kind) (wants : ℕ → Bool) (from to : ℕ) (k : is_strings kind ≡ false) (bytes : (i : ℕ) → byte s i < 256)
    (none-wanted : (x : ℕ) → x < index_count → wants x ≡ false) where
  two_bytes : (p : ℕ) → le16 s p < index_count
  unfolding le16
  two_bytes p = omega (arith, bytes p, bytes (p + 1))

  none_told : (n p : ℕ) → hits_in n s (sought kind wants from to) p ≡ []
  unfolding hits_in
  none_told zero p = refl
  none_told (suc n) p =
      one_miss s kind wants from to n p
      (no_hit s kind wants from to p
      (named_even s kind wants to p (le16 s (p + 2)) k refl (none-wanted (le16 s (p + 2)) (two_bytes (p + 2)))))
      ∙ none_told n (suc p)

  -- where no index of two bytes is wanted there is no hit
  pub none_hit : hits_by s (sought kind wants from to) ≡ []
  unfolding hits_by
  none_hit = none_told (to - from) from

module _ (s : List ℕ) (W : IndexSet) (kind : Kind) (from to to' : ℕ) (cut : to ≡ to') where
  pub tells_backward : to < from → (wants : ℕ → Bool) → Tells W kind wants → Finds s (sought kind wants from to') None
  tells_backward h wants t = finds_nothing (no_region s kind wants from to' (omega arith))

  pub tells_string : {r : Option Found} → is_strings kind ≡ true → Finds s (sought strings (listed (index_set_of [] W.bits W.others W.words)) from to) r
      → (wants : ℕ → Bool) → Tells W kind wants → Finds s (sought kind wants from to') r
  unfolding listed
  tells_string {r = r} k f wants t =
      subst (λ (n : ℕ). Finds s (sought kind wants from n) r) cut
      (finds_alike s kind (listed W) wants (tells_listed W kind wants t k) from to
      (subst (λ (j : Kind). Finds s (sought j (listed W) from to) r) (sym (strings_only kind k)) f))

  module _ (k : is_strings kind ≡ false) where
    pub tells_short : length W.table < index_count → ((i : ℕ) → byte s i < 256) → (wants : ℕ → Bool) → Tells W kind wants
        → Finds s (sought kind wants from to') None
    tells_short h bytes wants t =
        finds_nothing
        (none_hit s kind wants from to' k bytes (λ x l. sym (tells_table W kind wants t k x l) ∙ rw (lt-leb index_count (length W.table) h)))

    pub tells_even : {r : Option Found} → FindsEven s kind W.table from to r → (wants : ℕ → Bool) → Tells W kind wants
        → Finds s (sought kind wants from to') r
    tells_even {r = r} f wants t =
        subst (λ (n : ℕ). Finds s (sought kind wants from n) r) cut (f wants (tells_table W kind wants t k))
