-- Without a fault the strings that have the name are read off: the set has them and no others.
-- Assumes nothing.
use Rattle.refusal.specs.declared.Refusal.{Refusal}
use Rattle.std.specs.Prelude.{Option, Result}
use Rattle.std.specs.Option.{ok_or}
use Prim.Native.Nat.{ℕ, ◌*◌, ◌≤◌}
use native.Mathlib.Omega.{arith}
use mathlib.Core.Path.{◌≡◌, sym, subst, ◌∙◌}
use mathlib.Core.Bool.{true, false}
use mathlib.Core.Logic.{⊎_elim}
use mathlib.Core.List.{List}
use lib.ListN.{length, length-replicate}
use Rattle.words.specs.Padded.{zeros}
use Rattle.words.proofs.Shared.{case}
use Rattle.refusal.specs.declared.Refusal.TheVariants.{LentTooShort}
use Rattle.word_set.specs.Sets.{Joins}
use Rattle.word_set.specs.Steps.{Matched, all, over}
use Rattle.word_set.proofs.Found.{matched_same}
use Rattle.word_set.proofs.Joins.{holding_none, joined_none}
use Rattle.index_set.specs.Bits.{is_held, indices}
use Rattle.index_set.proofs.Bits.{held_zeros}
use Rattle.index_set.proofs.Gathering.{gathered}
use Rattle.word_set.specs.Found.{fault_number}
use Rattle.name_filter.specs.Steps.{Names, AllLooked, Begun, Counted, SiftedOf, done, short}
use Rattle.name_filter.specs.Names.{Named}

-- empty sets with a bit for each string
pub begun : (n : ℕ) {most count : ℕ} {out : List ℕ} → n ≤ 67108864 → most ≤ 64 * n → Counted most count out → Begun count (zeros n) (zeros n) out
begun n l m c =
    let e : length (zeros n) ≡ n = length-replicate n 0 in
    record {
      unmarked = record {
        room = record { for_seen = omega (arith, c.within); for_has = omega (arith, c.within) };
        none_seen = held_zeros n;
        none_has = held_zeros n;
      };
      small = omega arith;
      clear = c.clear;
    }

module _ {k : Names} {count : ℕ} {given seen has : List ℕ} {r : (Result (Unit {0}) Refusal)} (a : AllLooked k count given seen has r) (z : fault_number r ≡ 0) where
  held_named : (x : ℕ) → is_held has x ≡ true → Named k.file k.table k.query given x
  held_named x h =
      let l = a.marks.among x h in
      record { listed = (a.seen_all z).only x l; has = (a.marks.says x l).yes h }

  named_held : (x : ℕ) → Named k.file k.table k.query given x → is_held has x ≡ true
  named_held x n =
      let i = n.listed in
      let l : is_held seen x ≡ true = subst (λ (y : ℕ). is_held seen y ≡ true) i.is ((a.seen_all z).all i.at i.inside) in
      ⊎_elim (λ (t : is_held has x ≡ true). t) (λ (t : is_held has x ≡ false). absurd ((a.marks.says x l).no t n.has)) (case (is_held has x))

  module _ {out after : List ℕ} {g : (Option ℕ)} (small : length has ≤ 67108864) (clear : out ≡ zeros (length out)) (j : Joins (indices has) 0 out after g) where
    named : Matched (Named k.file k.table k.query given) out after g
    named = matched_same held_named named_held (joined_none (gathered has small (holding_none out clear) j))

    -- as many as there is room for, or none
    pub sift_said : {r' : Result ℕ Refusal} → r' ≡ ok_or g LentTooShort → SiftedOf k count given out after r'
    sift_said {r'} e = go named
      where
        go : Matched (Named k.file k.table k.query given) out after g → SiftedOf k count given out after r'
        go (all n f w) = done n (rw f at e) (sym z ∙ a.fault) w
        go (over f more) = short (rw f at e) (sym z ∙ a.fault) more
