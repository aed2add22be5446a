-- The small steps: membership in a rising list, and the faults before the search.
-- Assumes nothing.
use Rattle.std.specs.Prelude.{Result}
use Prim.Native.Nat.{ℕ, ◌≤◌, ◌<◌, max}
use native.Mathlib.Omega.{arith}
use mathlib.Core.Path.{◌≡◌, sym, subst, ◌∙◌}
use mathlib.Core.Bool.{Bool, true, false}
use mathlib.Core.Logic.{⊎_elim}
use mathlib.Core.List.{List}
use lib.Dec.{eqb}
use borrow.Author.Tests.{lt-ltb, le-ltb, eqb-true, eqb-false}
use Rattle.words.proofs.Shared.{case}
use Rattle.dalvik.specs.Ids.{method_id_size}
use Rattle.refusal.specs.declared.Refusal.{Refusal}
use Rattle.refusal.specs.Refusals.{refusal_number, is_too_large, largest_file}
use Rattle.tinydex.specs.declared.Table.{Table}
use Rattle.groups.specs.Built.{passes}
use Rattle.word_set.specs.Found.{Found}
use Rattle.words.specs.Rising.{Rising}
use Rattle.word_set.specs.Sets.{Contains}
use Rattle.word_set.proofs.Sets.{is_in, not_in}
use Rattle.refusal.proofs.Numbers.{numbered}
use Rattle.word_set.specs.Steps.{Decides}
use Rattle.string_search.specs.Search.{search_fault}
use Rattle.string_search.proofs.Faults.{no_fault, fault_none}
use Rattle.method_search.specs.Steps.{Among}
use Rattle.method_search.specs.Methods.{method_fault, settles}

-- a rising list that is asked says whether it has an index
pub asked_among : (xs : List ℕ) (x : ℕ) (asked r : Bool) → asked ≡ true → Rising xs → Contains xs x r → Decides (Among asked xs x) r
asked_among xs x asked r a up c = record {
  yes = λ e _. is_in xs x c.at up c.place (sym c.is ∙ e);
  no = λ e m. not_in xs x c.at up c.place (sym c.is ∙ e) (m a);
}

pub not_asked : (xs : List ℕ) (x : ℕ) (asked : Bool) → asked ≡ false → Decides (Among asked xs x) true
not_asked xs x asked a = record {
  yes = λ e m. absurd (let z : ◌≡◌ {A = ℕ} 0 1 = cc in omega arith);
  no = λ e. absurd (let z : ◌≡◌ {A = ℕ} 0 1 = cc in omega arith);
}

-- faults
module _ (len : ℕ) (methods : Table) (c n : ℕ) (ks : List ℕ) (m : ℕ) (e : m ≡ max c n) where
  pub fault_search : (why : Refusal) → refusal_number why ≡ search_fault len 0 m ks → refusal_number why ≡ method_fault len methods c n ks
  unfolding method_fault
  fault_search why h = rw (← e, ← h, numbered why)

  pub fault_table : 0 ≡ search_fault len 0 m ks → passes len methods method_id_size ≡ true → 3 ≡ method_fault len methods c n ks
  unfolding method_fault
  fault_table h p = rw (← e, ← h, p)

  pub fault_nothing : 0 ≡ search_fault len 0 m ks → passes len methods method_id_size ≡ false → 0 ≡ method_fault len methods c n ks
  unfolding method_fault
  fault_nothing h p = rw (← e, ← h, p)

-- no fault: none of the search for either name
pub record Sound (len : ℕ) (methods : Table) (c n : ℕ) (ks : List ℕ) : Type 0 where
  pub class : 0 ≡ search_fault len 0 c ks
  pub name : 0 ≡ search_fault len 0 n ks

pub sound : (len : ℕ) (methods : Table) (c n : ℕ) (ks : List ℕ) → 0 ≡ method_fault len methods c n ks → Sound len methods c n ks
unfolding method_fault
sound len methods c n ks e =
    ⊎_elim (λ (h : eqb (search_fault len 0 (max c n) ks) 0 ≡ true).
    let ok = no_fault len 0 (max c n) ks (sym (eqb-true (search_fault len 0 (max c n) ks) 0 h)) in
    let l : is_too_large len ≡ false = le-ltb largest_file len ok.small in
    record {
      class = fault_none len 0 c ks l (omega arith) (omega (arith, ok.short)) ok.good;
      name = fault_none len 0 n ks l (omega arith) (omega (arith, ok.short)) ok.good;
    })
    (λ (h : eqb (search_fault len 0 (max c n) ks) 0 ≡ false). absurd (eqb-false (search_fault len 0 (max c n) ks) 0 h (sym (rw h at e))))
    (case (eqb (search_fault len 0 (max c n) ks) 0))

-- whether a class settles the result
module _ (class types : ℕ) where
  pub settles_given : 0 < class → eqb types 0 ≡ settles class types
  settles_given h = rw (lt-ltb 0 class h)

  pub settles_absent : class ≤ 0 → false ≡ settles class types
  settles_absent h = rw (le-ltb 0 class h)

-- a query that is not empty has the same faults in string search
pub same_fault : (len n : ℕ) (ks : List ℕ) → (n ≡ 0 → ⊥) → search_fault len 1 n ks ≡ search_fault len 0 n ks
unfolding search_fault
same_fault len n ks z = rw (le-ltb n 1 (omega arith), le-ltb n 0 (omega arith))

pub found_fault : {P : ℕ → Type 0} {f g : ℕ} {r : (Result ℕ Refusal)} {before after : List ℕ} → f ≡ g → Found P f r before after → Found P g r before after
found_fault {P} {f} {g} {r} {before} {after} e w = subst (λ (k : ℕ). Found P k r before after) e w
