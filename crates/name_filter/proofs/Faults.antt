-- The faults of the filter, a law for each way out.
-- Assumes nothing.
use Rattle.std.specs.Prelude.{Result, Ok, Err}
use Prim.Native.Nat.{ℕ, ◌+◌, ◌≤◌, ◌<◌}
use native.Mathlib.Numerals.{add-one}
use native.Mathlib.Omega.{arith}
use mathlib.Core.Path.{◌≡◌, refl, ap, sym, subst, ◌∙◌}
use mathlib.Core.Bool.{Bool, true, false, cond, not, ◌&&◌}
use mathlib.Core.Logic.{⊎_elim}
use mathlib.Core.List.{List}
use lib.ListN.{length, get_or, drop, drop_of_length-le}
use lib.Seq.{drop-cons}
use lib.Dec.{ltb, eqb}
use borrow.Author.Tests.{lt-ltb, le-ltb, ltb-false}
use Rattle.words.proofs.Shared.{case, or_right}
use Rattle.dalvik.specs.Numbers.{le32}
use Rattle.dalvik.specs.Ids.{item, string_id_size, string_data_off}
use Rattle.refusal.specs.declared.Refusal.{Refusal}
use Rattle.refusal.specs.declared.Refusal.TheVariants.{NotAscii}
use Rattle.refusal.specs.Refusals.{refusal_number, largest_file, is_too_large}
use Rattle.word_set.proofs.Sets.{below_or_not}
use Rattle.refusal.proofs.Numbers.{numbered}
use Rattle.string_data.specs.Text.{Found, none, found, string_text, stretch_of}
use Rattle.word_set.specs.Steps.{Decides}
use Rattle.name_filter.specs.HasName.{is_ascii, HasName}
use Rattle.name_filter.proofs.HasName.{has_empty_of}
use Rattle.name_filter.specs.Steps.{Judged}
use Rattle.name_filter.specs.Faults.{text_fault, first_fault, head_fault, filter_fault}

-- one string
module _ (s : List ℕ) (asked : Bool) (f : Found) where
  pub text_refused : (why : Refusal) → none (refusal_number why) ≡ f → refusal_number why ≡ text_fault s asked f
  unfolding text_fault
  text_refused why e = rw (← e, numbered why)

  module _ (a n : ℕ) (e : found a n ≡ f) where
    pub text_any : asked ≡ false → 0 ≡ text_fault s asked f
    unfolding text_fault
    text_any h = rw (← e, h)

    pub text_ascii : is_ascii (stretch_of s f) ≡ true → 0 ≡ text_fault s asked f
    unfolding text_fault
    text_ascii h = ascii asked (stretch_of s f) h
      where
        ascii : (b : Bool) (l : List ℕ) → is_ascii l ≡ true → 0 ≡ cond (eqb f.number 0) (cond (b && not (is_ascii l)) 11 0) f.number
        ascii true l g = rw (← e, g)
        ascii false l g = rw (← e)

    pub text_not_ascii : asked ≡ true → is_ascii (stretch_of s f) ≡ false → 11 ≡ text_fault s asked f
    unfolding text_fault
    text_not_ascii h g =
        let z : eqb f.number 0 ≡ true = rw (← e) refl in
        rw (h, g, z)

-- the ways to judge it
module _ (s q : List ℕ) (f : Found) where
  pub judged_known : (b : Bool) → 0 ≡ text_fault s (ltb 0 (length q)) f → Decides (HasName (stretch_of s f) q) b → Judged s q f (Ok b)
  judged_known b e d = record {
    known = λ b' g. (e, let k : b ≡ b' = cc in subst (Decides (HasName (stretch_of s f) q)) k d);
    refused = λ why g. absurd (let z : ◌≡◌ {A = ℕ} 0 1 = cc in omega arith);
  }

  pub judged_refused : (why : Refusal) → refusal_number why ≡ text_fault s (ltb 0 (length q)) f → Judged s q f (Err why)
  judged_refused why e = record {
    known = λ b g. absurd (let z : ◌≡◌ {A = ℕ} 0 1 = cc in omega arith);
    refused = λ why' g. let k : why ≡ why' = cc in sym (ap refusal_number k) ∙ e;
  }

pub judged_at : {s q : List ℕ} {f f' : Found} {r : (Result Bool Refusal)} → f ≡ f' → Judged s q f r → Judged s q f' r
judged_at {s} {q} {f} {f'} {r} e j = subst (λ (g : Found). Judged s q g r) e j

-- a text that was found
module _ (s q : List ℕ) (a n : ℕ) where
  pub judged_empty : length q < 1 → Judged s q (found a n) (Ok true)
  judged_empty h =
      judged_known s q (found a n) true (text_any s (ltb 0 (length q)) (found a n) a n refl (le-ltb 0 (length q) (omega arith))) record
      { yes = λ e. has_empty_of (stretch_of s (found a n)) q (omega arith); no = λ e. absurd (let z : ◌≡◌ {A = ℕ} 0 1 = cc in omega arith) }

  module _ (text : List ℕ) (t : text ≡ stretch_of s (found a n)) where
    pub judged_ascii : (b : Bool) → is_ascii text ≡ true → Decides (HasName text q) b → Judged s q (found a n) (Ok b)
    judged_ascii b g d =
        judged_known s q (found a n) b (text_ascii s (ltb 0 (length q)) (found a n) a n refl (sym (ap is_ascii t) ∙ g))
        (subst (λ (l : List ℕ). Decides (HasName l q) b) t d)

    pub judged_other : 1 ≤ length q → is_ascii text ≡ false → Judged s q (found a n) (Err NotAscii)
    judged_other h g =
        judged_refused s q (found a n) NotAscii
        (text_not_ascii s (ltb 0 (length q)) (found a n) a n refl (lt-ltb 0 (length q) (omega arith)) (sym (ap is_ascii t) ∙ g))

-- the given indices, from the i-th on
module _ (s : List ℕ) (count table : ℕ) (asked : Bool) (given : List ℕ) (i : ℕ) where
  pub fault_end : length given ≤ i → 0 ≡ first_fault s count table asked (drop i given)
  unfolding first_fault
  fault_end h = rw (drop_of_length-le given h)

  module _ (h : i < length given) where
    pub fault_index : count ≤ get_or given i 0 → 13 ≡ first_fault s count table asked (drop i given)
    unfolding first_fault
    fault_index k = rw (drop-cons given i 0 h, le-ltb (get_or given i 0) count k)

    pub fault_text : get_or given i 0 < count → (why : Refusal)
        → refusal_number why ≡ text_fault s asked (string_text s (string_data_off s table (get_or given i 0)))
        → refusal_number why ≡ first_fault s count table asked (drop i given)
    unfolding first_fault
    fault_text k why e = rw (drop-cons given i 0 h, lt-ltb (get_or given i 0) count k, ← e, numbered why)

    pub fault_next : get_or given i 0 < count → 0 ≡ text_fault s asked (string_text s (string_data_off s table (get_or given i 0)))
        → first_fault s count table asked (drop i given) ≡ first_fault s count table asked (drop (i + 1) given)
    unfolding first_fault
    fault_next k e = rw (drop-cons given i 0 h, lt-ltb (get_or given i 0) count k, ← e, add-one i)

-- before any index is looked at
module _ (s q : List ℕ) where
  pub head_large : is_too_large (length s) ≡ true → 1 ≡ head_fault s q
  unfolding head_fault
  head_large l = rw l

  module _ (l : is_too_large (length s) ≡ false) where
    pub head_short : length s < 0x70 → 3 ≡ head_fault s q
    unfolding head_fault
    head_short h = rw (l, lt-ltb (length s) 0x70 h)

    pub head_table : length s < item (le32 s 0x3c) string_id_size (le32 s 0x38) → 3 ≡ head_fault s q
    unfolding head_fault
    head_table h = rw (l, or_right (ltb (length s) 0x70) (ltb (length s) (item (le32 s 0x3c) string_id_size (le32 s 0x38))) (lt-ltb _ _ h))

    module _ (h : 0x70 ≤ length s) (k : item (le32 s 0x3c) string_id_size (le32 s 0x38) ≤ length s) where
      pub head_long : 255 < length q → 9 ≡ head_fault s q
      unfolding head_fault
      head_long b = rw (l, le-ltb _ _ h, le-ltb _ _ k, lt-ltb _ _ b)

      pub head_query : length q ≤ 255 → is_ascii q ≡ false → 9 ≡ head_fault s q
      unfolding head_fault
      head_query b g = rw (l, le-ltb _ _ h, le-ltb _ _ k, le-ltb _ _ b, g)

      pub head_none : length q ≤ 255 → is_ascii q ≡ true → 0 ≡ head_fault s q
      unfolding head_fault
      head_none b g = rw (l, le-ltb _ _ h, le-ltb _ _ k, le-ltb _ _ b, g)

-- what no fault of the head says
pub record Sound (s : List ℕ) : Type 0 where
  pub small : length s ≤ largest_file
  pub header : 0x70 ≤ length s
  pub ids : item (le32 s 0x3c) string_id_size (le32 s 0x38) ≤ length s

pub no_fault : (s q : List ℕ) → 0 ≡ head_fault s q → Sound s
no_fault s q e =
    ⊎_elim (λ (l : is_too_large (length s) ≡ true). absurd (let f = head_large s q l in let z : ◌≡◌ {A = ℕ} 0 1 = cc in omega arith))
    (λ (l : is_too_large (length s) ≡ false). ⊎_elim
    (λ (h : length s < 0x70). absurd (let f = head_short s q l h in let z : ◌≡◌ {A = ℕ} 0 3 = cc in omega arith))
    (λ (h : 0x70 ≤ length s). ⊎_elim (λ (k : length s < item (le32 s 0x3c) string_id_size (le32 s 0x38)). absurd
    (let f = head_table s q l k in let z : ◌≡◌ {A = ℕ} 0 3 = cc in omega arith))
    (λ (k : item (le32 s 0x3c) string_id_size (le32 s 0x38) ≤ length s). record { small = ltb-false largest_file (length s) l; header = h; ids = k })
    (below_or_not (length s) (item (le32 s 0x3c) string_id_size (le32 s 0x38))))
    (below_or_not (length s) 0x70))
    (case (is_too_large (length s)))

-- the whole filter
module _ (s q given : List ℕ) where
  pub filter_head : (why : Refusal) → refusal_number why ≡ head_fault s q → refusal_number why ≡ filter_fault s q given
  unfolding filter_fault
  filter_head why e = rw (← e, numbered why)

  pub filter_first : 0 ≡ head_fault s q → first_fault s (le32 s 0x38) (le32 s 0x3c) (ltb 0 (length q)) given ≡ filter_fault s q given
  unfolding filter_fault
  filter_first e = rw (← e)

-- the header's words as the code has them
pub filter_known : (s q given : List ℕ) (count table : ℕ) → count ≡ le32 s 0x38 → table ≡ le32 s 0x3c → 0 ≡ head_fault s q
    → first_fault s count table (ltb 0 (length q)) given ≡ filter_fault s q given
filter_known s q given count table c t e = rw (c, t) (filter_first s q given e)

pub ids_known : (s : List ℕ) (count table : ℕ) → count ≡ le32 s 0x38 → table ≡ le32 s 0x3c → Sound s → item table string_id_size count ≤ length s
ids_known s count table c t k = omega (arith, c, t, k.ids)
