-- The outcome of `codes`, a law for each way out of it. Stores into cleared words are the list and zeros after it, since each code's method
-- is below the count of method ids and its triple stands after the one before.
-- Assumes nothing.
use Rattle.std.specs.Prelude.{Result, Ok, Err, is_err}
use Prim.Native.Nat.{ℕ, ◌+◌, ◌*◌, ◌/◌, ◌<◌, ◌≤◌}
use native.Mathlib.Omega.{arith}
use mathlib.Core.Path.{◌≡◌, refl, sym, ap, subst, ◌∙◌}
use mathlib.Core.Bool.{true, false, true≢false}
use mathlib.Core.List.{List, [], ◌∷◌}
use lib.ListN.{length, length-replicate}
use lib.Seq.{sets, sets-eq}
use borrow.Author.Tests.{le-leb, lt-leb}
use Rattle.words.specs.Padded.{zeros, padded}
use Rattle.words.proofs.Padded.{padded_none, padded_front}
use Rattle.start_words.specs.Starts.{pairs_in, pair_count, no_starts}
use Rattle.start_words.proofs.Starts.{length_with, with_padded, count_none, none_padded}
use Rattle.dalvik.specs.CodeItem.{Code}
use Rattle.refusal.specs.Refusals.{is_too_large}
use Rattle.refusal.specs.declared.Refusal.{Refusal}
use Rattle.refusal.specs.declared.Refusal.TheVariants.{FileTooLarge, LentTooShort}
use Rattle.tinydex.specs.declared.DexHeader.{DexHeader}
use Rattle.class_data.specs.Walk.{Walk}
use Rattle.class_data.specs.Walk.Walk.{refused, found}
use Rattle.class_data.proofs.Within.{CodeIn, Each}
use Rattle.class_data.specs.Codes.{codes_of}
use Rattle.class_data.specs.Stored.{CodeWords, triples_of, starts_from, starts_of}
use Rattle.class_data.specs.Found.{codes_in, codes_for, GivesCodes}
use Rattle.class_data.specs.Steps.{Kept, kept, stored, FitCodes}
use Rattle.class_data.specs.Steps.Left.{refusal, left}
use Rattle.class_data.proofs.Kept.{length_triples, left_by, stored_refused, SameLengths}
use Rattle.class_data.proofs.Found.{codes_sound}

-- ---- stores into cleared words
triples_padded : (n : ℕ) (cs : List Code) → 3 * length cs ≤ n → sets (zeros n) 0 (triples_of cs) ≡ padded n (triples_of cs)
triples_padded n cs q =
    let l : 0 + length (triples_of cs) ≡ length (triples_of cs) = omega arith in
    let h : 0 + length (triples_of cs) ≤ length (zeros n) = omega (arith, length_triples cs, length-replicate {A = ℕ} n 0) in
    sets-eq (triples_of cs) (zeros n) 0 h ∙ padded_front n (0 + length (triples_of cs)) (triples_of cs) (sym l)

starts_padded : (s : List ℕ) (m n : ℕ) (ws : List ℕ) (cs : List Code) → pair_count ws ≡ m → Each (CodeIn s m) cs
    → starts_from (padded n ws) cs ≡ padded n (starts_from ws cs)
starts_padded s m n ws [] e a = refl
starts_padded s m n ws (c ∷ cs) e a =
    let q : c.method < pair_count ws = omega (arith, a.0.index) in
    ap (λ (l : List ℕ). starts_from l cs) (with_padded ws c.method _ _ n q)
    ∙ starts_padded s m n (starts_from ws (c ∷ [])) cs (ap pairs_in (length_with ws c.method _ _) ∙ e) a.1

starts_zeros : (s : List ℕ) (m n : ℕ) (cs : List Code) → m ≤ pairs_in n → Each (CodeIn s m) cs → starts_from (zeros n) cs ≡ padded n (starts_of m cs)
unfolding starts_of
starts_zeros s m n cs q a =
    ap (λ (l : List ℕ). starts_from l cs) (sym (none_padded n m q)) ∙ starts_padded s m n (no_starts m) cs (count_none m) a

-- ---- the outcome's cases
-- lent words cleared
pub record Cleared (before after : CodeWords) : Type 0 where
  pub triples : after.triples ≡ zeros (length before.triples)
  pub starts : after.starts ≡ zeros (length before.starts)

module _ (s : List ℕ) (h : DexHeader) (lent : CodeWords) where
  pub codes_large : is_too_large (length s) ≡ true → refused FileTooLarge ≡ codes_for s h lent
  unfolding codes_in
  codes_large a = rw a

  module _ (a : is_too_large (length s) ≡ false) where
    pub codes_short : pair_count lent.starts < h.methods.size → refused LentTooShort ≡ codes_for s h lent
    unfolding codes_in
    codes_short b = rw (a, lt-leb _ _ b)

    module _ (b : h.methods.size ≤ pair_count lent.starts) where
      pub codes_no : {r : Refusal} (x : Kept) → refusal r ≡ stored x (codes_of s h) → refused r ≡ codes_for s h lent
      unfolding codes_in
      codes_no {r} x e = rw (a, le-leb _ _ b, ← stored_refused x (codes_of s h) r e)

      codes_full : {cs : List Code} {i : ℕ} → found cs i ≡ codes_of s h → length lent.triples < 3 * length cs
          → refused LentTooShort ≡ codes_for s h lent
      unfolding codes_in
      codes_full e q = rw (a, le-leb _ _ b, ← e, lt-leb _ _ q)

      codes_fits : {cs : List Code} {i : ℕ} → found cs i ≡ codes_of s h → 3 * length cs ≤ length lent.triples → found cs i ≡ codes_for s h lent
      unfolding codes_in
      codes_fits e q = rw (a, le-leb _ _ b, ← e, le-leb _ _ q)

      module _ (cleared : CodeWords) {i : ℕ} {y : Kept} (e : left i y ≡ stored (kept 0 cleared) (codes_of s h)) where
        pub codes_over : length lent.triples / 3 < y.count → refused LentTooShort ≡ codes_for s h lent
        codes_over q =
            let x = left_by (kept 0 cleared) (codes_of s h) i y e in
            codes_full x.walk (omega (arith, x.count))

        pub fit_all : Cleared lent cleared → y.count ≤ length lent.triples / 3
            → FitCodes h.methods.size (codes_for s h lent) (Ok y.count) lent y.words
        unfolding FitCodes
        fit_all z q =
            let x = left_by (kept 0 cleared) (codes_of s h) i y e in
            let cs : List Code = x.codes in
            let m : ℕ = h.methods.size in
            let k : y.count ≡ length cs = omega (arith, x.count) in
            let o : 3 * length cs ≤ length lent.triples = omega arith in
            subst (λ (v : Walk). GivesCodes m v (Ok y.count) lent y.words) (codes_fits x.walk o)
            (record {
              answer = ap Ok k;
              triples =
                  ap (λ (v : Kept). v.words.triples) x.is ∙ ap (λ (w : List ℕ). sets w 0 (triples_of cs)) z.triples
                  ∙ triples_padded (length lent.triples) cs o;
              starts =
                  ap (λ (v : Kept). v.words.starts) x.is ∙ ap (λ (w : List ℕ). starts_from w cs) z.starts
                  ∙ starts_zeros s m (length lent.starts) cs b (codes_sound s h cs i x.walk);
            })

-- a refusal with cleared words
pub gives_refused : {m : ℕ} {v : Walk} {r : Refusal} {before after : CodeWords} → refused r ≡ v → Cleared before after
    → GivesCodes m v (Err r) before after
gives_refused {m} {v} {r} {before} {after} e z =
    subst (λ (x : Walk). GivesCodes m x (Err r) before after) e
    (record {
      answer = refl;
      triples = z.triples ∙ sym (padded_none (length before.triples));
      starts = z.starts ∙ sym (padded_none (length before.starts));
    })

-- ---- before the words of a refusal are cleared
module _ (m : ℕ) (v : Walk) (before after : CodeWords) where
  pub fit_refused : {r : Refusal} → refused r ≡ v → FitCodes m v (Err r) before after
  unfolding FitCodes
  fit_refused e = e

  -- no refusal: the words are the outcome's
  pub fit_kept : (a : Result ℕ Refusal) → FitCodes m v a before after → false ≡ is_err a → GivesCodes m v a before after
  unfolding FitCodes
  fit_kept (Ok n) q e = q
  fit_kept (Err r) q e = absurd (true≢false (sym e))

  -- a refusal, and cleared words
  pub fit_cleared : (a : Result ℕ Refusal) → FitCodes m v a before after → true ≡ is_err a → {cleared : CodeWords} → Cleared before cleared
      → GivesCodes m v a before cleared
  unfolding FitCodes
  fit_cleared (Ok n) q e z = absurd (true≢false e)
  fit_cleared (Err r) q e z = gives_refused q z

-- words cleared again, as long as they came
pub cleared_again : {before mid after : CodeWords} → Cleared mid after → SameLengths before mid → Cleared before after
cleared_again z l = record { triples = z.triples ∙ ap zeros l.triples; starts = z.starts ∙ ap zeros l.starts }
