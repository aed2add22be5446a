-- One law for each way out of the definitions of the walk over one class data item: what a read has shown decides the test, and the rest of
-- the walk is the same.
-- Assumes nothing.
use Rattle.std.specs.Prelude.{Some, None, Result, Ok, Err}
use Prim.Native.Nat.{ℕ, zero, suc, ◌+◌, ◌*◌, ◌<◌, ◌≤◌}
use native.Mathlib.Omega.{arith}
use mathlib.Core.Path.{◌≡◌, refl, sym, subst}
use mathlib.Core.Bool.{Bool, true, false, cond, ◌&&◌}
use mathlib.Core.List.{List}
use lib.ListN.{length}
use lib.Dec.{ltb, leb}
use borrow.Author.Tests.{lt-ltb, le-ltb, le-leb, lt-leb, ltb-true, leb-true}
use Rattle.words.proofs.Shared.{and_left, and_right}
use Rattle.dalvik.specs.Numbers.{le32}
use Rattle.leb128.specs.Leb.{uleb_fast, uleb_len}
use Rattle.leb128.specs.declared.Uleb.{Uleb}
use Rattle.leb128.proofs.Published.{fast_in}
use Rattle.refusal.specs.declared.Refusal.{Refusal}
use Rattle.refusal.specs.declared.Refusal.TheVariants.{MethodIndex}
use Rattle.dalvik.specs.CodeItem.{insns_size}
use Rattle.class_data.specs.Walk.{word, skipped, code_inside, methods_from}
use Rattle.class_data.specs.Walk.Walk.{refused}
use Rattle.class_data.specs.Steps.{HeadAt, HeadRead, item_at}
use Rattle.class_data.specs.declared.item.Head.{Head}

-- ---- numbers skipped
module _ (s : List ℕ) (i : ℕ) where
  pub skipped_again : (n k : ℕ) {m : ℕ} {r : Result ℕ Refusal} → n ≡ suc k → Ok m ≡ uleb_len s i → skipped n s i ≡ r → skipped k s (i + m) ≡ r
  unfolding skipped
  skipped_again n k z e q = rw (z, ← e) at q

  pub skipped_no : (n : ℕ) {r : Result ℕ Refusal} {y : Refusal} → 0 < n → Err y ≡ uleb_len s i → skipped n s i ≡ r → Err y ≡ r
  unfolding skipped
  skipped_no zero z e q = absurd (omega arith)
  skipped_no (suc n) z e q = rw (← e) at q

  pub skipped_end : (n : ℕ) {r : Result ℕ Refusal} → n ≤ 0 → skipped n s i ≡ r → Ok i ≡ r
  unfolding skipped
  skipped_end zero z q = q
  skipped_end (suc n) z q = absurd (omega arith)

-- ---- the numbers of a method
module _ (s : List ℕ) (i m : ℕ) where
  pub head_no1 : {y : Refusal} → Err y ≡ uleb_fast s i → HeadRead s i m (Err y)
  unfolding methods_from HeadRead
  head_no1 e = λ methods n. rw (← e)

  module _ {d : Uleb} (e1 : Ok d ≡ uleb_fast s i) where
    pub head_index : word ≤ m + d.value → HeadRead s i m (Err MethodIndex)
    unfolding methods_from HeadRead
    head_index q = λ methods n. rw (← e1, le-ltb _ _ q)

    module _ (q : m + d.value < word) where
      pub head_no2 : {y : Refusal} → Err y ≡ uleb_fast s (i + d.len) → HeadRead s i m (Err y)
      unfolding methods_from HeadRead
      head_no2 e = λ methods n. rw (← e1, lt-ltb _ _ q, ← e)

      module _ {f : Uleb} (e2 : Ok f ≡ uleb_fast s (i + d.len)) where
        pub head_no3 : {y : Refusal} → Err y ≡ uleb_fast s (i + d.len + f.len) → HeadRead s i m (Err y)
        unfolding methods_from HeadRead
        head_no3 e = λ methods n. rw (← e1, lt-ltb _ _ q, ← e2, ← e)

        pub head_at : {o : Uleb} → Ok o ≡ uleb_fast s (i + d.len + f.len)
            → HeadRead s i m (Ok (record { pos = i + d.len + f.len + o.len; idx = m + d.value; code = o.value }))
        unfolding methods_from HeadRead
        head_at {o} e3 =
            let k1 = fast_in s i d.value d.len e1 in
            let k2 = fast_in s (i + d.len) f.value f.len e2 in
            let k3 = fast_in s (i + d.len + f.len) o.value o.len e3 in
            record { rest = λ methods n. rw (← e1, lt-ltb _ _ q, ← e2, ← e3); on = omega arith; inside = k3.inside }

module _ (s : List ℕ) (i m : ℕ) (r : Result Head Refusal) (q : HeadRead s i m r) where
  pub head_told : {x : Head} → r ≡ Ok x → HeadAt s i m x
  unfolding HeadRead
  head_told e = subst (HeadRead s i m) e q

  pub head_refused : {y : Refusal} → r ≡ Err y → (methods n : ℕ) → refused y ≡ methods_from (suc n) s methods i m
  unfolding HeadRead
  head_refused e = subst (HeadRead s i m) e q

-- ---- a code item
module _ (s : List ℕ) (c : ℕ) where
  pub item_header : length s < c + 12 + 4 → None ≡ item_at s c
  unfolding item_at
  item_header q =
      let p : length s < c + 16 = omega arith in
      rw (lt-leb _ _ p)

  module _ (q : c + 12 + 4 ≤ length s) (n : ℕ) (e : n ≡ le32 s (c + 12)) where
    abbrev fits : c + 16 ≤ length s
    fits = omega arith

    pub item_empty : n ≡ 0 → None ≡ item_at s c
    unfolding item_at
    item_empty z =
        let y : n ≤ 0 = omega arith in
        rw (le-leb _ _ fits, ← e, le-ltb 0 n y)

    module _ (z : n ≡ 0 → ⊥) where
      abbrev some_unit : 0 < n
      some_unit = omega (arith, z)

      pub item_past : length s < c + 16 + 2 * n → None ≡ item_at s c
      unfolding item_at
      item_past p = rw (le-leb _ _ fits, ← e, lt-ltb 0 n some_unit, lt-leb _ _ p)

      pub item_units : c + 16 + 2 * n ≤ length s → Some n ≡ item_at s c
      unfolding item_at
      item_units p = rw (le-leb _ _ fits, ← e, lt-ltb 0 n some_unit, le-leb _ _ p)

item_none : (b : Bool) (x : ℕ) → None ≡ cond b (Some x) None → b ≡ false
item_none true x e = absurd (let q : ◌≡◌ {A = ℕ} 0 1 = cc in omega arith)
item_none false x e = refl

item_some : (b : Bool) (n x : ℕ) → Some n ≡ cond b (Some x) None → (b ≡ true) × (n ≡ x)
item_some true n x e = (refl, cc)
item_some false n x e = absurd (let q : ◌≡◌ {A = ℕ} 0 1 = cc in omega arith)

pub record CodeFacts (s : List ℕ) (c n : ℕ) : Type 0 where
  pub some : 0 < n
  pub inside : c + 16 + 2 * n ≤ length s

pub code_facts : (s : List ℕ) (c : ℕ) → code_inside s c ≡ true → CodeFacts s c (insns_size s c)
code_facts s c e =
    let a = leb (c + 16) (length s) in
    let b = ltb 0 (insns_size s c) in
    let d = leb (c + 16 + 2 * insns_size s c) (length s) in
    record { some = ltb-true _ _ (and_right a b (and_left (a && b) d e)); inside = leb-true _ _ (and_right (a && b) d e) }

-- a code item that was accepted, or not
module _ (s : List ℕ) (c : ℕ) where
  pub item_out : None ≡ item_at s c → code_inside s c ≡ false
  unfolding item_at
  item_out e = item_none (code_inside s c) (insns_size s c) e

  pub item_in : (n : ℕ) → Some n ≡ item_at s c → (code_inside s c ≡ true) × (n ≡ insns_size s c)
  unfolding item_at
  item_in n e = item_some (code_inside s c) n (insns_size s c) e

  pub item_facts : (n : ℕ) → Some n ≡ item_at s c → CodeFacts s c n
  item_facts n e =
      let q = item_in n e in
      subst (CodeFacts s c) (sym q.1) (code_facts s c q.0)
