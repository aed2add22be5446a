-- The ways out of an operation whose result is a set.
--     found_refused, found_none, found_short, found_all
--     exit_short, exit_all                     of a set that was collected in cleared words
--     found_done, found_over, found_cleared    for a caller
-- Assumes nothing.
use Rattle.std.specs.Prelude.{Option, Some, None, Result, Ok, Err}
use Prim.Native.Nat.{ℕ, ◌≤◌, ◌<◌}
use mathlib.Core.Path.{◌≡◌, refl, ap, sym, ◌∙◌}
use mathlib.Core.Bool.{Bool, true, false}
use mathlib.Core.List.{List, [], ◌∷◌}
use lib.ListN.{length, length-replicate}
use lib.Dec.{eqb, ltb}
use native.Mathlib.Omega.{arith}
use borrow.Author.Tests.{lt-ltb, le-ltb, eqb-false, ltb-true, ltb-false}
use Rattle.words.specs.Padded.{padded, zeros}
use Rattle.words.proofs.Padded.{padded_none}
use Rattle.refusal.specs.declared.Refusal.{Refusal}
use Rattle.refusal.specs.declared.Refusal.TheVariants.{LentTooShort}
use Rattle.refusal.specs.Refusals.{refusal_number, answer_number, answer_count}
use Rattle.refusal.proofs.Numbers.{numbered}
use Rattle.word_set.specs.Sets.{SetOf}
use Rattle.word_set.specs.Found.{Found, fitted}
use Rattle.word_set.specs.Steps.{Whole, Matched, all, over}
use Rattle.word_set.proofs.Sets.{Listed, set_empty, set_same, set_unique}

pub no_words : (xs : List ℕ) → length xs ≡ 0 → xs ≡ []
no_words [] e = refl
no_words (x ∷ xs) e = absurd (omega arith)

none_held : (n : ℕ) (after : List ℕ) → after ≡ zeros n → after ≡ padded n []
none_held n after z = z ∙ sym (padded_none n)

module _ {P : ℕ → Type 0} {before after : List ℕ} where
  pub found_refused : Listed P → (why : Refusal) (fault : ℕ) → refusal_number why ≡ fault → after ≡ zeros (length before)
      → Found P fault (Err why) before after
  found_refused l why fault e z =
      let n : eqb fault 0 ≡ false = rw (← e) (numbered why) in
      record { list = l.list; set = l.set; gives = record { number = rw n e; count = rw n; words = rw n (none_held (length before) after z) } }

  pub found_short : Listed P → (fault : ℕ) → 0 ≡ fault → ((l : List ℕ) → SetOf P l → length before < length l) → after ≡ zeros (length before)
      → Found P fault (Err LentTooShort) before after
  found_short l fault f more z =
      let t : ltb (length before) (length l.list) ≡ true = lt-ltb _ _ (more l.list l.set) in
      record {
        list = l.list;
        set = l.set;
        gives = record { number = rw (← f, t); count = rw (← f, t); words = rw (← f, t) (none_held (length before) after z) };
      }

  pub found_all : (list : List ℕ) → SetOf P list → (fault n : ℕ) → 0 ≡ fault → length list ≡ n → n ≤ length before
      → after ≡ padded (length before) list
      → Found P fault (Ok n) before after
  found_all list s fault n f c h w =
      let t : ltb (length before) (length list) ≡ false = le-ltb (length before) (length list) (omega arith) in
      record { list = list; set = s; gives = record { number = rw (← f, t); count = rw (← f, t) (sym c); words = rw (← f, t) w } }

  pub found_none : ((x : ℕ) → P x → ⊥) → (fault : ℕ) → 0 ≡ fault → after ≡ zeros (length before) → Found P fault (Ok 0) before after
  found_none none fault f z = found_all [] (set_empty none) fault 0 f refl (omega arith) (none_held (length before) after z)

-- for a caller: what an answer says
module _ {P : ℕ → Type 0} {fault : ℕ} {before after : List ℕ} where
  pub found_done : (n : ℕ) (r : Result ℕ Refusal) → r ≡ Ok n → Found P fault r before after → Whole P n before after
  found_done n r e f = go (eqb fault 0) refl (ltb (length before) (length f.list)) refl
    where
      said : answer_number (Ok n) ≡ (fitted fault (length before) f.list).number
      said = ap answer_number (sym e) ∙ f.gives.number

      go : (a : Bool) → eqb fault 0 ≡ a → (b : Bool) → ltb (length before) (length f.list) ≡ b → Whole P n before after
      go false h b k = absurd (let z : 0 ≡ fault = rw h at said in eqb-false fault 0 h (sym z))
      go true h true k = absurd (let z : ◌≡◌ {A = ℕ} 0 4 = rw (h, k) at said in omega arith)
      go true h false k =
          let c : n ≡ length f.list = rw (h, k) at (ap answer_count (sym e) ∙ f.gives.count) in
          let w : after ≡ padded (length before) f.list = rw (h, k) at f.gives.words in
          record { list = f.list; set = f.set; count = sym c; fits = omega (arith, ltb-false (length before) (length f.list) k); words = w }

  pub found_over : (why : Refusal) (r : Result ℕ Refusal) → r ≡ Err why → 0 ≡ fault → Found P fault r before after → (l : List ℕ) → SetOf P l
      → length before < length l
  found_over why r e z f l s = go (ltb (length before) (length f.list)) refl
    where
      same : f.list ≡ l
      same = set_unique f.list l f.set s

      said : refusal_number why ≡ (fitted fault (length before) f.list).number
      said = ap answer_number (sym e) ∙ f.gives.number

      go : (b : Bool) → ltb (length before) (length f.list) ≡ b → length before < length l
      go true k = rw (← same) (ltb-true _ _ k)
      go false k = absurd (let n : refusal_number why ≡ 0 = rw (← z, k) at said in eqb-false (refusal_number why) 0 (numbered why) n)

  -- a refusal leaves zeros
  pub found_cleared : (why : Refusal) (r : Result ℕ Refusal) → r ≡ Err why → Found P fault r before after → after ≡ zeros (length before)
  found_cleared why r e f =
      let c : 0 ≡ length (fitted fault (length before) f.list).list = ap answer_count (sym e) ∙ f.gives.count in
      f.gives.words ∙ ap (padded (length before)) (no_words _ (sym c)) ∙ padded_none (length before)

-- zeros keep their length
pub zeros_again : (n : ℕ) (out : List ℕ) → out ≡ zeros n → out ≡ zeros (length out)
zeros_again n out z =
    let l : length out ≡ n = ap length z ∙ length-replicate n 0 in
    z ∙ ap zeros (sym l)

pub zeros_length : (n : ℕ) (out : List ℕ) → out ≡ zeros n → length out ≡ n
zeros_length n out z = ap length z ∙ length-replicate n 0

-- the set said in another way
pub matched_same : {P Q : ℕ → Type 0} {out out' : List ℕ} {r : (Option ℕ)} → ((x : ℕ) → P x → Q x) → ((x : ℕ) → Q x → P x) → Matched P out out' r
    → Matched Q out out' r
matched_same f g (all n h w) = all n h record { list = w.list; set = set_same f g w.set; count = w.count; fits = w.fits; words = w.words }
matched_same f g (over h more) = over h (λ l s. more l (set_same g f s))

-- cleared words `out`, the set collected in them, and the answer
module _ {P : ℕ → Type 0} {out out' : List ℕ} {r : (Option ℕ)} (m : Matched P out out' r) (fault : ℕ) (f : 0 ≡ fault) (before : List ℕ) (same : length out ≡ length before) where
  pub exit_short : Listed P → (after : List ℕ) → r ≡ None → length out' ≡ length out → after ≡ zeros (length out')
      → Found P fault (Err LentTooShort) before after
  exit_short some after h k z = go m
    where
      go : Matched P out out' r → Found P fault (Err LentTooShort) before after
      go (all n g w) = absurd (let z' : ◌≡◌ {A = ℕ} 0 1 = cc in omega arith)
      go (over g more) = found_short some fault f (λ l t. omega (arith, more l t)) (z ∙ ap zeros (k ∙ same))

  pub exit_all : (n : ℕ) → r ≡ Some n → Found P fault (Ok n) before out'
  exit_all n h = go m
    where
      go : Matched P out out' r → Found P fault (Ok n) before out'
      go (all k g w) =
          let i : k ≡ n = cc in
          found_all w.list w.set fault n f (w.count ∙ i) (omega (arith, w.fits)) (w.words ∙ ap (λ (j : ℕ). padded j w.list) same)
      go (over g more) = absurd (let z' : ◌≡◌ {A = ℕ} 0 1 = cc in omega arith)
