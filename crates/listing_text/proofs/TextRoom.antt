-- How many bytes the lines take: a word has at most ten digits, so a line of 4,096 methods fits 65,536 bytes. More bytes never turn a line
-- into a refusal.
-- Assumes nothing.
use Prim.Native.Nat.{ℕ, suc, ◌+◌, ◌*◌, ◌^◌, ◌≤◌, ◌<◌}
use native.Mathlib.Omega.{arith}
use mathlib.Core.Path.{◌≡◌, refl}
use mathlib.Core.Bool.{Bool, true, false, cond, ◌&&◌}
use mathlib.Core.List.{List, [], ◌∷◌, ◌++◌}
use lib.ListN.{length, get_or, length-append}
use lib.Dec.{leb}
use borrow.Author.Tests.{le-leb}
use Rattle.refusal.specs.declared.Refusal.{Refusal}
use Rattle.refusal.specs.Outcomes.{refused}
use Rattle.text_out.specs.Text.{decimal, feed, text_outcome}
use Rattle.text_out.proofs.Laws.{decimal_short, text_room}
use Rattle.listing_text.specs.Text.{more, mids_text, off=, idx=, mids=, entry_text, head_text, refusal_text, entry_out, head_out, refusal_out}

-- ---- more bytes

module _ (m n : ℕ) (h : m ≤ n) where
  pub entry_room : (off idx : ℕ) (mids : List ℕ) → (entry_out off idx mids m).number ≡ 0 → entry_out off idx mids n ≡ entry_out off idx mids m
  unfolding entry_out
  entry_room off idx mids e = text_room (entry_text off idx mids) m n h e

  pub refusal_room : (why : Refusal) → (refusal_out why m).number ≡ 0 → refusal_out why n ≡ refusal_out why m
  unfolding refusal_out
  refusal_room why e = text_room (refusal_text why) m n h e

  branch : (b : Bool) (text : List ℕ) → (cond b (text_outcome text m) (refused 2)).number ≡ 0
      → cond b (text_outcome text n) (refused 2) ≡ cond b (text_outcome text m) (refused 2)
  branch true text e = text_room text m n h e
  branch false text e = refl

  pub head_room : (kind hits : ℕ) → (head_out kind hits m).number ≡ 0 → head_out kind hits n ≡ head_out kind hits m
  unfolding head_out
  head_room kind hits e = branch (leb 1 kind && leb kind 4) (head_text kind hits) e

-- ---- how long a line is

-- words, and 0 past their end
abbrev pub Words : List ℕ → Type 0
Words ms = (k : ℕ) → get_or ms k 0 < 2 ^ 32

more_short : (ms : List ℕ) → Words ms → length (more ms) ≤ 11 * length ms
unfolding more
more_short [] w = omega arith
more_short (m ∷ ms) w =
    omega (arith, length-append (decimal m) (more ms), decimal_short m (w 0), more_short ms (λ k. w (suc k)))

mids_short : (ms : List ℕ) → Words ms → length (mids_text ms) ≤ 11 * length ms + 1
unfolding mids_text
mids_short [] w = omega arith
mids_short (m ∷ ms) w =
    omega (arith, length-append (decimal m) (more ms), decimal_short m (w 0), more_short ms (λ k. w (suc k)))

parts : (a b c d e f g : List ℕ)
    → length (a ++ b ++ c ++ d ++ e ++ f ++ g) ≡ length a + length b + length c + length d + length e + length f + length g
parts a b c d e f g = simp length-append

entry_short : (off idx : ℕ) (ms : List ℕ) → off < 2 ^ 32 → idx < 2 ^ 32 → Words ms → length (entry_text off idx ms) ≤ 37 + 11 * length ms
entry_short off idx ms h k w =
    omega (arith, parts off= (decimal off) idx= (decimal idx) mids= (mids_text ms) feed, decimal_short off h, decimal_short idx k, mids_short ms w)

pub entry_fits : (off idx : ℕ) (ms : List ℕ) → off < 2 ^ 32 → idx < 2 ^ 32 → Words ms → length ms ≤ 4096 → (entry_out off idx ms 65536).number ≡ 0
unfolding entry_out text_outcome
entry_fits off idx ms h k w l =
    let f : length (entry_text off idx ms) ≤ 65536 = omega (arith, entry_short off idx ms h k w) in
    rw (le-leb (length (entry_text off idx ms)) 65536 f)
