-- The ways out of the whole filter.
-- Assumes nothing.
use Rattle.std.specs.Prelude.{Result, Ok, Err}
use Prim.Native.Nat.{ℕ}
use native.Mathlib.Omega.{arith}
use mathlib.Core.Path.{◌≡◌, ap, sym, subst, ◌∙◌}
use mathlib.Core.List.{List}
use lib.ListN.{length}
use lib.Dec.{ltb}
use Rattle.words.specs.Padded.{padded, zeros}
use Rattle.dalvik.specs.Numbers.{le32}
use Rattle.refusal.specs.declared.Refusal.{Refusal}
use Rattle.refusal.specs.declared.Refusal.TheVariants.{LentTooShort}
use Rattle.refusal.specs.Refusals.{refusal_number}
use Rattle.word_set.specs.Found.{Found}
use Rattle.word_set.proofs.Found.{found_refused, found_short, found_all}
use Rattle.name_filter.specs.Faults.{first_fault, head_fault, filter_fault}
use Rattle.name_filter.proofs.Faults.{filter_known}
use Rattle.name_filter.specs.Steps.{Sifted, done, short, stopped, Refuses}
use Rattle.name_filter.specs.Names.{Named}
use Rattle.name_filter.proofs.Listing.{named_listed}

-- the header's words as the code has them
module _ (s q given : List ℕ) (count table : ℕ) (c : count ≡ le32 s 0x38) (t : table ≡ le32 s 0x3c) (z : 0 ≡ head_fault s q) where
  number : first_fault s count table (ltb 0 (length q)) given ≡ filter_fault s q given
  number = filter_known s q given count table c t z

  module _ {mid out' : List ℕ} {r : (Result ℕ Refusal)} (m : Sifted (Named s table q given) (first_fault s count table (ltb 0 (length q)) given) mid out' r) (before : List ℕ) (same : length mid ≡ length before) where
    here : Sifted (Named s (le32 s 0x3c) q given) (filter_fault s q given) mid out' r
    here =
        subst (λ (i : ℕ). Sifted (Named s i q given) (filter_fault s q given) mid out' r) t
        (subst (λ (n : ℕ). Sifted (Named s table q given) n mid out' r) number m)

    pub exit_done : (n : ℕ) → r ≡ Ok n → Found (Named s (le32 s 0x3c) q given) (filter_fault s q given) (Ok n) before out'
    exit_done n e = go here
      where
        go : Sifted (Named s (le32 s 0x3c) q given) (filter_fault s q given) mid out' r
            → Found (Named s (le32 s 0x3c) q given) (filter_fault s q given) (Ok n) before out'
        go (done k f y w) =
            let i : k ≡ n = cc in
            found_all w.list w.set (filter_fault s q given) n y (w.count ∙ i) (omega (arith, w.fits))
            (w.words ∙ ap (λ (j : ℕ). padded j w.list) same)
        go (short f y more) = absurd (let x : ◌≡◌ {A = ℕ} 0 1 = cc in omega arith)
        go (stopped why f y) = absurd (let x : ◌≡◌ {A = ℕ} 0 1 = cc in omega arith)

    pub exit_refused : (why : Refusal) → r ≡ Err why → (after : List ℕ) → length out' ≡ length mid → after ≡ zeros (length out')
        → Found (Named s (le32 s 0x3c) q given) (filter_fault s q given) (Err why) before after
    exit_refused why e after k u = go here
      where
        cleared : after ≡ zeros (length before)
        cleared = u ∙ ap zeros (k ∙ same)

        go : Sifted (Named s (le32 s 0x3c) q given) (filter_fault s q given) mid out' r
            → Found (Named s (le32 s 0x3c) q given) (filter_fault s q given) (Err why) before after
        go (done n f y w) = absurd (let x : ◌≡◌ {A = ℕ} 0 1 = cc in omega arith)
        go (short f y more) =
            let i : Err LentTooShort ≡ Err why = sym f ∙ e in
            subst (λ (a : Result ℕ Refusal). Found (Named s (le32 s 0x3c) q given) (filter_fault s q given) a before after) i
            (found_short (named_listed s (le32 s 0x3c) q given) (filter_fault s q given) y (λ l p. omega (arith, same, more l p)) cleared)
        go (stopped x f y) =
            let i : x ≡ why = cc in found_refused (named_listed s (le32 s 0x3c) q given) why (filter_fault s q given) (sym (ap refusal_number i) ∙ y)
            cleared

-- .. with the answer as it was made
pub as_refused : {P : ℕ → Type 0} {fault : ℕ} {why : Refusal} {before lent after : List ℕ} {r : (Result ℕ Refusal)} → Refuses why lent after r
    → Found P fault (Err why) before after → Found P fault r before after
as_refused {P} {fault} {why} {before} {lent} {after} x f = subst (λ (a : Result ℕ Refusal). Found P fault a before after) (sym x.answer_is) f
