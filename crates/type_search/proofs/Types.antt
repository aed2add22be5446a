-- Types of strings: those of a list of strings are those of its first string and of the others; and the types found are those of
-- the strings found.
-- Assumes nothing.
use Rattle.std.specs.Prelude.{Option, Some, None}
use Prim.Native.Nat.{ℕ, ◌+◌, ◌≤◌, ◌<◌}
use native.Mathlib.Omega.{arith}
use mathlib.Core.Path.{◌≡◌, sym, subst}
use mathlib.Core.Bool.{false}
use mathlib.Core.Logic.{◌⊎◌, inl, inr, ⊎_elim}
use mathlib.Core.List.{List, [], ◌∷◌}
use lib.ListN.{length, get_or, drop}
use lib.Dec.{eqb}
use borrow.Author.Tests.{lt-ltb, le-ltb}
use Rattle.refusal.specs.declared.Refusal.{Refusal}
use Rattle.refusal.specs.Refusals.{refusal_number}
use Rattle.groups.specs.Stretch.{stretch_of}
use Rattle.groups.specs.Built.{GroupWords}
use Rattle.word_set.specs.Sets.{In, SetOf}
use Rattle.word_set.specs.Steps.{Matched}
use Rattle.word_set.proofs.Sets.{in_none, in_here, in_cons, in_cases, in_drop_here, in_drop_later, in_drop_cases, in_drop_none, Listed, set_none}
use Rattle.word_set.proofs.Sets.{set_same, set_union}
use Rattle.index_set.specs.Marked.{SetWords, AddedAll}
use Rattle.index_set.proofs.Marking.{Marking, mark_all, mark_all_full}
use Rattle.refusal.proofs.Numbers.{numbered}
use Rattle.word_set.proofs.Found.{matched_same}
use Rattle.string_search.specs.Search.{Area, Owns, search_fault}
use Rattle.string_search.proofs.Listing.{owners_listed}
use Rattle.string_search.proofs.Faults.{no_fault, fault_none}
use Rattle.type_search.specs.Steps.{TypesOf}
use Rattle.type_search.specs.Types.{TypeFound, or_short}

module _ (table : GroupWords) where
  -- the strings from i on
  pub types_none : (strings : List ℕ) (i : ℕ) → length strings ≤ i → (x : ℕ) → TypesOf table (drop i strings) x → ⊥
  types_none strings i h x t = in_drop_none strings i h t.listed

  module _ (strings : List ℕ) (i : ℕ) (h : i < length strings) where
    types_cases : (x : ℕ) → TypesOf table (drop i strings) x
        → In x (stretch_of table.offs table.ids (get_or strings i 0)) ⊎ TypesOf table (drop (i + 1) strings) x
    types_cases x t =
        ⊎_elim (λ (e : t.string ≡ get_or strings i 0). inl (subst (λ (k : ℕ). In x (stretch_of table.offs table.ids k)) e t.among))
        (λ (m : In t.string (drop (i + 1) strings)). inr record { string = t.string; listed = m; among = t.among })
        (in_drop_cases strings i h t.string t.listed)

    types_here : (x : ℕ) → In x (stretch_of table.offs table.ids (get_or strings i 0)) → TypesOf table (drop i strings) x
    types_here x m = record { string = get_or strings i 0; listed = in_drop_here strings i h; among = m }

    types_later : (x : ℕ) → TypesOf table (drop (i + 1) strings) x → TypesOf table (drop i strings) x
    types_later x t = record { string = t.string; listed = in_drop_later strings i h t.string t.listed; among = t.among }

    module _ {room n : ℕ} {w after : SetWords} {r : (Option ℕ)} (c : Marking (TypesOf table strings) (TypesOf table (drop i strings)) room n w)
        (group : List ℕ) (g : group ≡ stretch_of table.offs table.ids (get_or strings i 0)) (add : AddedAll group n w after r) where
      in_group : (x : ℕ) → In x group → TypesOf table (drop i strings) x
      in_group x m = types_here x (subst (In x) g m)

      pub turn : (m : ℕ) → r ≡ Some m → Marking (TypesOf table strings) (TypesOf table (drop (i + 1) strings)) room m after
      turn m e =
          mark_all c types_later in_group m
          (λ x t. ⊎_elim (λ (k : In x (stretch_of table.offs table.ids (get_or strings i 0))). inl (subst (In x) (sym g) k))
          (λ (k : TypesOf table (drop (i + 1) strings) x). inr k) (types_cases x t)) add e

      pub no_room : r ≡ None → (l : List ℕ) → SetOf (TypesOf table strings) l → room < length l
      no_room e = mark_all_full c in_group add e

  types_listed : (strings : List ℕ) → Listed (TypesOf table strings)
  types_listed [] = set_none (λ x t. in_none t.listed)
  types_listed (y ∷ ys) =
      let l = set_union (types_listed ys) (stretch_of table.offs table.ids y) in
      record {
        list = l.list;
        set = set_same
            (λ x q. ⊎_elim (λ (t : TypesOf table ys x). record { string = t.string; listed = in_cons y t.listed; among = t.among })
            (λ (m : In x (stretch_of table.offs table.ids y)). record { string = y; listed = in_here y ys; among = m }) q)
            (λ x t. ⊎_elim (λ (e : t.string ≡ y). inr (subst (λ (k : ℕ). In x (stretch_of table.offs table.ids k)) e t.among))
            (λ (m : In t.string ys). inl record { string = t.string; listed = m; among = t.among }) (in_cases t.listed))
            l.set;
      }

  module _ (w : Area) (q : List ℕ) where
    -- the types of the strings found
    module _ (strings : List ℕ) (o : SetOf (Owns w q) strings) where
      of_found : (x : ℕ) → TypesOf table strings x → TypeFound w q table x
      of_found x t = record { string = t.string; owns = o.sound t.string t.listed; among = t.among }

      found_of : (x : ℕ) → TypeFound w q table x → TypesOf table strings x
      found_of x t = record { string = t.string; listed = o.complete t.string t.owns; among = t.among }

      pub all_types : {out out' : List ℕ} {r : (Option ℕ)} → Matched (TypesOf table strings) out out' r → Matched (TypeFound w q table) out out' r
      all_types m = matched_same of_found found_of m

    pub types_found : Listed (TypeFound w q table)
    types_found =
        let o = owners_listed w q in
        let l = types_listed o.list in
        record { list = l.list; set = set_same (of_found o.list o.set) (found_of o.list o.set) l.set }

-- faults
module _ (fault room : ℕ) (xs : List ℕ) where
  pub short_fault : (why : Refusal) → refusal_number why ≡ fault → refusal_number why ≡ or_short fault room xs
  short_fault why e =
      let n : eqb fault 0 ≡ false = rw (← e) (numbered why) in
      rw n e

  pub short_four : 0 ≡ fault → room < length xs → 4 ≡ or_short fault room xs
  short_four z h = rw (← z, lt-ltb room (length xs) h)

  pub short_none : 0 ≡ fault → length xs ≤ room → 0 ≡ or_short fault room xs
  short_none z h = rw (← z, le-ltb room (length xs) h)

-- a query that is not empty and passes for any length passes in string search
pub asked_fault : (len n : ℕ) (ks : List ℕ) → (n ≡ 0 → ⊥) → 0 ≡ search_fault len 0 n ks → 0 ≡ search_fault len 1 n ks
asked_fault len n ks z e =
    let ok = no_fault len 0 n ks e in
    fault_none len 1 n ks (le-ltb _ _ ok.small) (omega arith) ok.short ok.good
