-- Laws of the build's outcome. Once codes are found, only the lent lengths decide between the whole table and refusal 4.
--     top_small, base_below     the buckets of a file of 16 MiB
--     from_whole, from_short    the outcome of codes found
--     gives_none, whole, short  answer and lent words are the outcome's
-- Assumes nothing.
use Rattle.std.specs.Prelude.{Option, Some, None, Ok, Err}
use mathlib.Core.Path.{◌≡◌, refl, sym, ap, ap₂, subst, subst⁻¹, ◌∙◌}
use mathlib.Core.List.{List, [], ◌∷◌}
use mathlib.Core.Logic.{◌⊎◌, ⊎_elim}
use mathlib.Core.Bool.{true, ◌&&◌}
use Prim.Native.Nat.{ℕ, suc, ◌-◌, ◌*◌, ◌≤◌, ◌<◌}
use native.Mathlib.Omega.{arith}
use lib.Dec.{leb}
use lib.ListN.{length, get_or}
use borrow.Author.Tests.{le-leb, leb-true}
use Rattle.words.specs.Padded.{zeros, padded}
use Rattle.words.proofs.Padded.{padded_none}
use Rattle.words.proofs.Shared.{cond_elim, and_left, and_right}
use Rattle.refusal.specs.Refusals.{refusal_number}
use Rattle.refusal.specs.declared.Refusal.{Refusal}
use Rattle.refusal.specs.declared.Refusal.TheVariants.{LentTooShort}
use Rattle.dalvik.specs.CodeItem.{Code}
use Rattle.class_data.specs.Walk.Walk.{found}
use Rattle.class_data.proofs.Found.{length_triples}
use Rattle.class_data.specs.Stored.{first_bucket, last_bucket, starts_of}
use Rattle.code_table.specs.Slots.{base_of, top_of, table_of}
use Rattle.code_table.specs.RegionEnd.{region_end}
use Rattle.code_table.specs.Build.{Room, Build, no_build, whole_build, built_from, most_shares}
use Rattle.code_table.specs.Answer.{TableWords, table_words, room_of, GivesBuild}
use Rattle.code_table.specs.Steps.{no_code, most_buckets, Triples, Coded, room, SlotWords, slot_words, HoldsAll, TabledAs}
use Rattle.code_table.specs.declared.Tabled.{Tabled}
use Rattle.code_table.specs.declared.Built.{Built}
use Rattle.code_table.proofs.Buckets.{base_least, top_greatest}
use Rattle.code_table.proofs.Slots.{table_length}

-- ---- buckets
top_bound : (B : ℕ) (cs : List Code) → ((i : ℕ) → i < length cs → last_bucket (get_or cs i no_code) < B) → top_of cs ≤ B
top_bound B [] h = omega arith
top_bound B (c ∷ cs) h =
    let p : last_bucket c < B = h 0 (omega arith) in
    omega (arith, top_bound B cs (λ i q. h (suc i) (omega arith)))

base_top : (cs : List Code) → ((i : ℕ) → i < length cs → first_bucket (get_or cs i no_code) ≤ last_bucket (get_or cs i no_code)) → base_of cs ≤ top_of cs
base_top [] h = omega arith
base_top (c ∷ cs) h =
    let p : first_bucket c ≤ last_bucket c = h 0 (omega arith) in
    let b : base_of (c ∷ cs) ≤ first_bucket c = base_least (c ∷ cs) 0 (omega arith) in
    let t : last_bucket c < top_of (c ∷ cs) = top_greatest (c ∷ cs) 0 (omega arith) in
    omega arith

module _ {ts : List ℕ} {n : ℕ} {cs : List Code} (T : Triples ts n cs) where
  rising : (i : ℕ) → i < length cs → first_bucket (get_or cs i no_code) ≤ last_bucket (get_or cs i no_code)
  rising i h = (T.sound i (omega (arith, T.count))).rises

  pub top_small : top_of cs ≤ most_buckets
  top_small = top_bound most_buckets cs (λ i h. (T.sound i (omega (arith, T.count))).inside)

  pub base_below : base_of cs ≤ top_of cs
  base_below = base_top cs rising

-- ---- the outcome of codes found
module _ (len m e : ℕ) (lent : Room) (cs : List Code) where
  pub from_whole : 3 * length cs ≤ lent.triples → top_of cs - base_of cs ≤ lent.slots
      → length (table_of cs).shares ≤ lent.shares → length (table_of cs).shares ≤ most_shares
      → built_from len m lent (found cs e) ≡ whole_build len m cs
  from_whole p q r s =
      rw (
        le-leb (3 * length cs) lent.triples p,
        le-leb (top_of cs - base_of cs) lent.slots q,
        le-leb (length (table_of cs).shares) lent.shares r,
        le-leb (length (table_of cs).shares) most_shares s,
      )

  -- the four tests passed, so nothing is short
  never : (lent.slots < top_of cs - base_of cs) ⊎ (room lent.shares < length (table_of cs).shares)
      → (leb (3 * length cs) lent.triples && leb (top_of cs - base_of cs) lent.slots && leb (length (table_of cs).shares) lent.shares
      && leb (length (table_of cs).shares) most_shares)
      ≡ true
      → ⊥
  never d q =
      let a = leb (3 * length cs) lent.triples in
      let b = leb (top_of cs - base_of cs) lent.slots in
      let k = length (table_of cs).shares in
      let t = a && b && leb k lent.shares in
      let p : top_of cs - base_of cs ≤ lent.slots = leb-true _ _ (and_right a b (and_left (a && b) _ (and_left t _ q))) in
      let r : k ≤ lent.shares = leb-true _ _ (and_right (a && b) _ (and_left t _ q)) in
      let s : k ≤ most_shares = leb-true _ _ (and_right t _ q) in
      ⊎_elim (λ h. omega arith) (λ h. omega arith) d

  pub from_short : (lent.slots < top_of cs - base_of cs) ⊎ (room lent.shares < length (table_of cs).shares)
      → built_from len m lent (found cs e) ≡ no_build 4
  from_short d =
      cond_elim (λ (o : Build). o ≡ no_build 4)
      (leb (3 * length cs) lent.triples && leb (top_of cs - base_of cs) lent.slots && leb (length (table_of cs).shares) lent.shares
      && leb (length (table_of cs).shares) most_shares)
      (whole_build len m cs) (no_build 4) (λ q. absurd (never d q)) (λ q. refl)

-- lent words that are all zero, as long as before
pub record AllZero (before after : TableWords) : Type 0 where
  pub starts : after.starts ≡ zeros (length before.starts)
  pub triples : after.triples ≡ zeros (length before.triples)
  pub slots : after.slots ≡ zeros (length before.slots)
  pub shares : after.shares ≡ zeros (length before.shares)

-- a refusal's answer, and lent words that are all zero
pub gives_none : (b : Build) (r : Refusal) (before after : TableWords) → b ≡ no_build (refusal_number r) → AllZero before after
    → GivesBuild b (Err r) before after
gives_none b r before after e z =
    subst⁻¹ (λ (o : Build). GivesBuild o (Err r) before after) e
    (record {
      number = refl;
      from = refl;
      to = refl;
      code_count = refl;
      slot_count = refl;
      share_words = refl;
      starts = z.starts ∙ sym (padded_none (length before.starts));
      triples = z.triples ∙ sym (padded_none (length before.triples));
      slots = z.slots ∙ sym (padded_none (length before.slots));
      shares = z.shares ∙ sym (padded_none (length before.shares));
    })

-- the slots and shares of the four lent slices
abbrev pub slots_in : TableWords → SlotWords
slots_in w = slot_words w.slots w.shares

-- the answer for n codes, whose region ends at x
abbrev pub built_as : ℕ → Tabled → ℕ → Built
built_as n t x = record { region = record { start = t.base * 16; end = x }; codes = n; slots = t.top - t.base; shares = t.used }

module _ (len : ℕ) {n : ℕ} {cs : List Code} (before : TableWords) (T : Triples before.triples n cs) (m e : ℕ) where
  pub whole : {t : Tabled} {x : ℕ} {w : SlotWords} → HoldsAll cs t (slots_in before) w → x ≡ region_end len cs
      → before.starts ≡ padded (length before.starts) (starts_of m cs)
      → GivesBuild (built_from len m (room_of before) (found cs e)) (Ok (built_as n t x))
      before (table_words before.starts before.triples w.slots w.shares)
  whole {t} {x} {w} A E s =
      let H = A.held in
      let p : 3 * length cs ≤ length before.triples = omega (arith, T.there, T.count) in
      let q : length (table_of cs).shares ≤ room (length before.shares) = omega (arith, H.used, H.fits) in
      let after = table_words before.starts before.triples w.slots w.shares in
      subst⁻¹ (λ (o : Build). GivesBuild o (Ok (built_as n t x)) before after)
      (from_whole len m e (room_of before) cs p A.enough (omega arith) (omega arith))
      (record {
        number = refl;
        from = ap (λ (x : ℕ). x * 16) A.base;
        to = E;
        code_count = omega (arith, length_triples cs, T.count);
        slot_count = ap₂ (λ (x y : ℕ). x - y) A.top A.base ∙ sym (table_length cs (rising T));
        share_words = H.used;
        starts = s;
        triples = T.words;
        slots = H.slots;
        shares = H.shares;
      })

  pub short : {after : TableWords} → (length before.slots < top_of cs - base_of cs) ⊎ (room (length before.shares) < length (table_of cs).shares)
      → AllZero before after → GivesBuild (built_from len m (room_of before) (found cs e)) (Err LentTooShort) before after
  short {after} d z = gives_none _ LentTooShort before after (from_short len m e (room_of before) cs d) z

-- ---- an answer of `slot_table`, taken apart
module _ (cs : List Code) (r : Option Tabled) (before after : SlotWords) (A : TabledAs cs r before after) where
  pub tabled_filled : {t : Tabled} → r ≡ Some t → HoldsAll cs t before after
  tabled_filled q = subst (λ (x : Option Tabled). TabledAs cs x before after) q A

  pub tabled_short : r ≡ None → (length before.slots < top_of cs - base_of cs) ⊎ (room (length before.shares) < length (table_of cs).shares)
  tabled_short q = subst (λ (x : Option Tabled). TabledAs cs x before after) q A

-- the buckets of a table that some codes have
pub record Buckets (t : Tabled) : Type 0 where
  pub small : t.top ≤ most_buckets
  pub rises : t.base ≤ t.top

pub buckets_of : {ts : List ℕ} {n : ℕ} (r : Option Tabled) (t : Tabled) (before after : SlotWords) → Coded ts n
    → ((cs : List Code) → Triples ts n cs → TabledAs cs r before after) → r ≡ Some t → Buckets t
buckets_of r t before after C f q =
    let A = tabled_filled C.codes r before after (f C.codes C.triples) q in
    let p = top_small C.triples in
    let b = base_below C.triples in
    record { small = omega (arith, A.top); rises = omega (arith, A.base, A.top) }
