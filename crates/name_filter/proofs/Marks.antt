-- The strings seen: none at first, one more with each that is looked at, and in the end the given indices.
--     marks_none, look_known, look_refused, look_noted    what is known of strings
--     passed_none, passed_next                            the given indices, one after another
--     passed_all, passed_index, passed_fault              .. and the ways out
-- Assumes nothing.
use Rattle.std.specs.Prelude.{Result, Ok, Err}
use Prim.Native.Nat.{ℕ, ◌+◌, ◌*◌, ◌≤◌, ◌<◌}
use native.Mathlib.Omega.{arith}
use mathlib.Core.Path.{◌≡◌, refl, ap, sym, subst, ◌∙◌}
use mathlib.Core.Bool.{Bool, true, false, ◌&&◌, ◌||◌}
use mathlib.Core.Logic.{inl, inr, ⊎_elim}
use mathlib.Core.List.{List}
use lib.ListN.{length, get_or, drop}
use lib.Dec.{ltb, eqb}
use borrow.Author.Tests.{eqb-true, eqb-false, eq-eqb, lt-ltb}
use Rattle.words.proofs.Shared.{case}
use Rattle.refusal.specs.declared.Refusal.{Refusal}
use Rattle.refusal.specs.declared.Refusal.TheVariants.{StringIndex}
use Rattle.refusal.specs.Refusals.{refusal_number}
use Rattle.refusal.proofs.Numbers.{numbered}
use Rattle.word_set.specs.Sets.{In}
use Rattle.word_set.proofs.Sets.{below_or_not}
use Rattle.index_set.specs.Bits.{is_held, Adds}
use Rattle.word_set.specs.Steps.{Decides}
use Rattle.word_set.specs.Found.{fault_number}
use Rattle.name_filter.specs.Faults.{first_fault}
use Rattle.name_filter.proofs.Faults.{fault_end, fault_index, fault_text, fault_next}
use Rattle.name_filter.specs.Steps.{Names, fault_of, HasNameAt, Noted, Room, Marks, Looked, Unmarked, Seen, AllLooked}

pub nonzero : (why : Refusal) → refusal_number why ≡ 0 → ⊥
nonzero why z = eqb-false (refusal_number why) 0 (numbered why) z

clash : {b : Bool} → b ≡ true → b ≡ false → ⊥
clash t f = let z : ◌≡◌ {A = ℕ} 0 1 = cc in omega arith

or_true : (b : Bool) → (b || true) ≡ true
or_true true = refl
or_true false = refl

or_false : (b : Bool) → (b || false) ≡ b
or_false true = refl
or_false false = refl

and_true : (b : Bool) → (b && true) ≡ b
and_true true = refl
and_true false = refl

and_false : (b : Bool) → (b && false) ≡ false
and_false true = refl
and_false false = refl

-- an index that is inside joins each set that it is to join
joined : (x : ℕ) {bits bits' : List ℕ} {r : Bool} → Adds x bits bits' r → x < 64 * length bits → (y : ℕ) → is_held bits' y ≡ (is_held bits y || eqb y x)
joined x {bits} a h y = let t = a.inside ∙ lt-ltb x (64 * length bits) h in a.held y ∙ rw t

module _ {x : ℕ} {seen has seen' : List ℕ} {r : Bool} (a : Adds x seen seen' r) (m : Room (x + 1) seen has) (b : Bool) where
  pub noted_seen : b ≡ false → Noted x b seen has seen' has
  noted_seen e = record { seen_at = joined x a (omega (arith, m.for_seen)); has_at = λ y. rw e (sym (or_false (is_held has y))) }

  pub noted_both : b ≡ true → {has' : List ℕ} {v : Bool} → Adds x has has' v → Noted x b seen has seen' has'
  noted_both e d = record { seen_at = joined x a (omega (arith, m.for_seen)); has_at = λ y. rw e (joined x d (omega (arith, m.for_has)) y) }

module _ {k : Names} where
  pub marks_none : {seen has : List ℕ} → ((x : ℕ) → is_held seen x ≡ false) → ((x : ℕ) → is_held has x ≡ false) → Marks k seen has
  marks_none n m = record { good = λ x t. absurd (clash t (n x)); says = λ x t. absurd (clash t (n x)); among = λ x t. absurd (clash t (m x)) }

  -- one string
  module _ {seen has : List ℕ} (x : ℕ) (t : Marks k seen has) where
    pub look_known : is_held seen x ≡ true → Looked k x seen seen has (Ok tt)
    look_known h = record { fault = t.good x h; marks = t; now_seen = λ z. h; kept = λ y z. z; only = λ y z. inl z }

    pub look_refused : (why : Refusal) → refusal_number why ≡ fault_of k x → Looked k x seen seen has (Err why)
    look_refused why e = record { fault = e; marks = t; now_seen = λ z. absurd (nonzero why z); kept = λ y z. z; only = λ y z. inl z }

    module _ (new : is_held seen x ≡ false) (b : Bool) (e : 0 ≡ fault_of k x) (d : Decides (HasNameAt k x) b) {seen' has' : List ℕ} (n : Noted x b seen has seen' has') where
      seen_here : is_held seen' x ≡ true
      seen_here = n.seen_at x ∙ ap (λ (c : Bool). is_held seen x || c) (eq-eqb x x refl) ∙ or_true (is_held seen x)

      -- no other string was seen to have the name before it was looked at
      has_not : is_held has x ≡ false
      has_not = ⊎_elim (λ (h : is_held has x ≡ true). absurd (clash (t.among x h) new)) (λ (h : is_held has x ≡ false). h) (case (is_held has x))

      has_here : is_held has' x ≡ b
      has_here = n.has_at x ∙ rw (has_not, eq-eqb x x refl) (and_true b)

      seen_there : (y : ℕ) → eqb y x ≡ false → is_held seen' y ≡ is_held seen y
      seen_there y f = n.seen_at y ∙ ap (λ (c : Bool). is_held seen y || c) f ∙ or_false (is_held seen y)

      has_there : (y : ℕ) → eqb y x ≡ false → is_held has' y ≡ is_held has y
      has_there y f =
          n.has_at y ∙ ap (λ (c : Bool). is_held has y || (b && c)) f ∙ ap (λ (c : Bool). is_held has y || c) (and_false b) ∙ or_false (is_held has y)

      marks_now : Marks k seen' has'
      marks_now = record {
        good = λ y h. ⊎_elim (λ (f : eqb y x ≡ true). subst (λ (z : ℕ). 0 ≡ fault_of k z) (sym (eqb-true y x f)) e)
            (λ (f : eqb y x ≡ false). t.good y (sym (seen_there y f) ∙ h)) (case (eqb y x));
        says = λ y h. ⊎_elim
            (λ (f : eqb y x ≡ true). subst (λ (z : ℕ). Decides (HasNameAt k z) (is_held has' z)) (sym (eqb-true y x f))
            (subst (Decides (HasNameAt k x)) (sym has_here) d))
            (λ (f : eqb y x ≡ false). subst (Decides (HasNameAt k y)) (sym (has_there y f)) (t.says y (sym (seen_there y f) ∙ h))) (case (eqb y x));
        among = λ y h. ⊎_elim (λ (f : eqb y x ≡ true). subst (λ (z : ℕ). is_held seen' z ≡ true) (sym (eqb-true y x f)) seen_here)
            (λ (f : eqb y x ≡ false). seen_there y f ∙ t.among y (sym (has_there y f) ∙ h)) (case (eqb y x));
      }

      pub look_noted : Looked k x seen seen' has' (Ok tt)
      look_noted = record {
        fault = e;
        marks = marks_now;
        now_seen = λ z. seen_here;
        kept = λ y h. n.seen_at y ∙ rw h;
        only =
            λ y h. ⊎_elim (λ (f : eqb y x ≡ true). inr (eqb-true y x f)) (λ (f : eqb y x ≡ false). inl (sym (seen_there y f) ∙ h)) (case (eqb y x));
      }

-- the given indices, one after another: the ways out
module _ {k : Names} (count : ℕ) (given : List ℕ) {seen has : List ℕ} where
  all_refused : (why : Refusal) → refusal_number why ≡ first_fault k.file count k.table (ltb 0 (length k.query)) given → Marks k seen has
      → AllLooked k count given seen has (Err why)
  all_refused why e t = record { fault = e; marks = t; seen_all = λ z. absurd (nonzero why z) }

  all_none : (i : ℕ) → 0 ≡ first_fault k.file count k.table (ltb 0 (length k.query)) given → Marks k seen has → Seen given seen i
      → length given ≤ i → AllLooked k count given seen has (Ok tt)
  all_none i e t n h = record { fault = e; marks = t; seen_all = λ z. record { all = λ j l. n.all j (omega arith); only = n.only } }

-- .. and one step
seen_none : (given : List ℕ) {seen : List ℕ} → ((x : ℕ) → is_held seen x ≡ false) → Seen given seen 0
seen_none given z = record { all = λ k h. absurd (omega arith); only = λ x h. absurd (clash h (z x)) }

module _ {n : Names} (given : List ℕ) (i : ℕ) {seen seen' has' : List ℕ} {r : (Result (Unit {0}) Refusal)} (h : i < length given) (k : Looked n (get_or given i 0) seen seen' has' r) where
  seen_next : fault_number r ≡ 0 → Seen given seen i → Seen given seen' (i + 1)
  seen_next z sn = record {
    all = λ j l. ⊎_elim (λ (a : j < i). k.kept _ (sn.all j a))
        (λ (a : i ≤ j). let e : i ≡ j = omega arith in subst (λ (n : ℕ). is_held seen' (get_or given n 0) ≡ true) e (k.now_seen z)) (below_or_not j i);
    only =
        λ x l. ⊎_elim (λ (a : is_held seen x ≡ true). sn.only x a)
        (λ (e : x ≡ get_or given i 0). subst (λ (y : ℕ). In y given) (sym e) record { at = i; inside = h; is = refl }) (k.only x l);
  }

-- the two sets
pub record Bits : Type 0 where
  pub seen : List ℕ
  pub has : List ℕ

abbrev pub bits : List ℕ → List ℕ → Bits
bits s h = record { seen = s; has = h }

-- the indices before the i-th
pub record Passed (k : Names) (count : ℕ) (given : List ℕ) (before after : Bits) (i : ℕ) : Type 0 where
  pub rest :
      first_fault k.file count k.table (ltb 0 (length k.query)) (drop i given) ≡ first_fault k.file count k.table
      (ltb 0 (length k.query)) given
  pub inside : i ≤ length given
  pub marks : Marks k after.seen after.has
  pub seen_so_far : Seen given after.seen i
  pub long_seen : length after.seen ≡ length before.seen
  pub long_has : length after.has ≡ length before.has

pub passed_none : {k : Names} {count : ℕ} (given : List ℕ) {seen has : List ℕ} → Unmarked count seen has
    → Passed k count given (bits seen has) (bits seen has) 0
passed_none given u = record {
  rest = refl;
  inside = omega arith;
  marks = marks_none u.none_seen u.none_has;
  seen_so_far = seen_none given u.none_seen;
  long_seen = refl;
  long_has = refl;
}

module _ {k : Names} {count : ℕ} {given seen has : List ℕ} {before : Bits} {i : ℕ} (p : Passed k count given before (bits seen has) i) where
  pub passed_all : length given ≤ i → AllLooked k count given seen has (Ok tt)
  passed_all h =
      all_none count given i (fault_end k.file count k.table (ltb 0 (length k.query)) given i h ∙ p.rest) p.marks p.seen_so_far h

  module _ (h : i < length given) where
    pub passed_index : count ≤ get_or given i 0 → AllLooked k count given seen has (Err StringIndex)
    passed_index l =
        all_refused count given StringIndex (fault_index k.file count k.table (ltb 0 (length k.query)) given i h l ∙ p.rest) p.marks

    module _ (l : get_or given i 0 < count) {seen' has' : List ℕ} {r : (Result (Unit {0}) Refusal)} (look : Looked k (get_or given i 0) seen seen' has' r) where
      pub passed_fault : (why : Refusal) → r ≡ Err why → AllLooked k count given seen' has' (Err why)
      passed_fault why e =
          all_refused count given why
          (fault_text k.file count k.table (ltb 0 (length k.query)) given i h l why (sym (ap fault_number e) ∙ look.fault) ∙ p.rest)
          look.marks

      pub passed_next : r ≡ (Ok tt) → length seen' ≡ length seen → length has' ≡ length has
          → Passed k count given before (bits seen' has') (i + 1)
      passed_next e a b = record {
        rest = sym (fault_next k.file count k.table (ltb 0 (length k.query)) given i h l (sym (ap fault_number e) ∙ look.fault)) ∙ p.rest;
        inside = omega arith;
        marks = look.marks;
        seen_so_far = seen_next given i h look (ap fault_number e) p.seen_so_far;
        long_seen = a ∙ p.long_seen;
        long_has = b ∙ p.long_has;
      }
