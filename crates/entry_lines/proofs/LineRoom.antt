-- A line is refused only as its listing is, where at most 4,096 words and no fewer than 65,536 bytes are lent: it has room for as many methods
-- of ten digits.
-- Assumes nothing.
use Rattle.std.specs.Prelude.{Option, None, Some}
use Prim.Native.Nat.{ℕ, zero, suc, ◌+◌, ◌-◌, ◌*◌, ◌^◌, ◌≤◌, ◌<◌}
use native.Mathlib.Omega.{arith}
use mathlib.Core.Path.{◌≡◌, refl, ap, ◌∙◌}
use mathlib.Core.Logic.{⊎_elim}
use mathlib.Core.List.{List, [], ◌∷◌, ◌++◌}
use lib.ListN.{length}
use lib.Dec.{leb, eqb, ltb, lit<}
use borrow.Author.Tests.{leb-true}
use Rattle.words.proofs.Shared.{case, cond_elim}
use Rattle.refusal.specs.Outcomes.{Outcome}
use Rattle.code_table.specs.Slots.{shared, share_at}
use Rattle.slot_listing.specs.Listing.{snoc_to, chain, listed, listed_from, list_out}
use Rattle.listing_text.proofs.TextRoom.{Words, entry_fits, entry_room}
use Rattle.entry_lines.specs.Line.{line_by, line_out}

-- ---- what is listed are words

abbrev WordsOf : Option (List ℕ) → Type 0
WordsOf None = Unit {0}
WordsOf (Some l) = Words l

words_snoc : (l : List ℕ) (m : ℕ) → Words l → m < 2 ^ 32 → Words (l ++ (m ∷ []))
words_snoc [] m w h zero = h
words_snoc [] m w h (suc k) = lit< tt
words_snoc (x ∷ l) m w h zero = w 0
words_snoc (x ∷ l) m w h (suc k) = words_snoc l m (λ j. w (suc j)) h k

snoc_of : (m : ℕ) (o : Option (List ℕ)) → m < 2 ^ 32 → WordsOf o → WordsOf (snoc_to m o)
snoc_of m None h w = tt
snoc_of m (Some l) h w = words_snoc l m w h

two : (a b : ℕ) → a < 2 ^ 32 → b < 2 ^ 32 → Words (a ∷ b ∷ [])
two a b h k zero = h
two a b h k (suc zero) = k
two a b h k (suc (suc j)) = lit< tt

chain_words : (n : ℕ) (ws : List ℕ) (k : ℕ) → Words ws → WordsOf (chain n ws k)
unfolding chain
chain_words zero ws k w = tt
chain_words (suc n) ws k w =
    cond_elim WordsOf (leb (3 * k + 3) (length ws)) _ None
    (λ s. cond_elim WordsOf (eqb (share_at ws k 2) 0) (Some (share_at ws k 0 ∷ share_at ws k 1 ∷ [])) _
    (λ t. two (share_at ws k 0) (share_at ws k 1) (w _) (w _))
    (λ t. cond_elim WordsOf (ltb (share_at ws k 2 - 1) k) (snoc_to (share_at ws k 1) (chain n ws (share_at ws k 2 - 1))) None
    (λ u. snoc_of (share_at ws k 1) (chain n ws (share_at ws k 2 - 1)) (w _) (chain_words n ws (share_at ws k 2 - 1) w))
    (λ u. tt)))
    (λ s. tt)

one : (a : ℕ) → a < 2 ^ 32 → Words (a ∷ [])
one a h zero = h
one a h (suc k) = lit< tt

listed_words : (ws : List ℕ) (v : ℕ) → v < 2 ^ 32 → Words ws → WordsOf (listed ws v)
unfolding listed
listed_words ws v h w =
    cond_elim WordsOf (eqb v 0) (Some []) _ (λ s k. lit< tt)
    (λ s. cond_elim WordsOf (ltb v shared) (Some ((v - 1) ∷ [])) (chain (suc (v - shared)) ws (v - shared))
    (λ t. one (v - 1) (omega arith))
    (λ t. chain_words (suc (v - shared)) ws (v - shared) w))

-- ---- the line

module _ (off idx words bytes : ℕ) (h : off < 2 ^ 32) (k : idx < 2 ^ 32) (few : words ≤ 4096) (enough : 65536 ≤ bytes) where
  fits_by : (o : Option (List ℕ)) → WordsOf o → (line_by off idx (listed_from words o) bytes).number ≡ (listed_from words o).number
  fits_by None w = refl
  fits_by (Some l) w =
      ⊎_elim
      (λ t.
      let f = entry_fits off idx l h k w (omega (arith, leb-true (length l) words t)) in
      rw t (ap (λ (o : Outcome). o.number) (entry_room 65536 bytes enough off idx l f) ∙ f))
      (λ t. rw t refl)
      (case (leb (length l) words))

  pub line_fits : (slot : ℕ) (shares : List ℕ) → slot < 2 ^ 32 → Words shares
      → (line_out off idx slot shares words bytes).number ≡ (list_out shares slot words).number
  unfolding line_out list_out
  line_fits slot shares s w = fits_by (listed shares slot) (listed_words shares slot s w)
