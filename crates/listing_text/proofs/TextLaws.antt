-- Laws of the methods' text and of the head's number of a kind.
--     more         rest_none, more_next
--     mids_text    mids_some, mids_none
--     head_out     head_unknown, head_known
--     decimal      named_number
-- Assumes nothing.
use Prim.Native.Nat.{ℕ, suc, ◌+◌, ◌≤◌, ◌<◌}
use native.Mathlib.Omega.{arith}
use mathlib.Core.Path.{◌≡◌, refl, sym, ap, ◌∙◌}
use mathlib.Core.Logic.{◌⊎◌, ⊎_elim}
use mathlib.Core.List.{List, [], ◌∷◌, ◌++◌, append_assoc, append-nil}
use lib.ListN.{length, take, get_or}
use lib.Seq.{take-suc}
use borrow.Author.Tests.{le-leb, lt-leb}
use Rattle.std.proofs.Common.{◌≢◌}
use Rattle.refusal.specs.Outcomes.{refused}
use Rattle.text_out.specs.Text.{decimal, text_outcome}
use Rattle.text_out.specs.Write.{Writes}
use Rattle.text_out.proofs.Laws.{writes_none, writes_then}
use Rattle.listing_text.specs.Text.{more, mids_text, head_text, head_out}

-- ---- the methods

more_more : (ms : List ℕ) (m : ℕ) → more (ms ++ m ∷ []) ≡ more ms ++ (44 ∷ decimal m)
unfolding more
more_more [] m = append-nil _
more_more (a ∷ ms) m = ap (λ (l : List ℕ). (44 ∷ decimal a) ++ l) (more_more ms m) ∙ sym (append_assoc (44 ∷ decimal a) (more ms) (44 ∷ decimal m))

pub rest_none : (ws : List ℕ) (at : ℕ) → Writes ws at (more []) ws at
unfolding more
rest_none ws at = writes_none ws at

-- the first i methods, and one more
pub more_next : {a : List ℕ} {p : ℕ} {b : List ℕ} {q : ℕ} {c : List ℕ} {r : ℕ} (ms : List ℕ) (i : ℕ) → i < length ms
    → Writes a p (more (take i ms)) b q → Writes b q (44 ∷ decimal (get_or ms i 0)) c r → Writes a p (more (take (i + 1) ms)) c r
more_next ms i h x y =
    let s : i + 1 ≡ suc i = omega arith in
    rw (s, take-suc ms i 0 h, more_more (take i ms) (get_or ms i 0)) (writes_then x y)

-- the first method, and the others
pub mids_some : (ms : List ℕ) (m : ℕ) (rest : List ℕ) → ms ≡ m ∷ rest → mids_text ms ≡ decimal m ++ more rest
unfolding mids_text
mids_some ms m rest e = rw e

pub mids_none : (ms : List ℕ) → length ms ≡ 0 → mids_text ms ≡ 45 ∷ []
unfolding mids_text
mids_none [] h = refl
mids_none (m ∷ ms) h = absurd (omega arith)

-- ---- the head's number of a kind

pub head_unknown : (kind hits room : ℕ) → (kind ≡ 0) ⊎ (kind ≢ 0) × (4 < kind) → head_out kind hits room ≡ refused 2
unfolding head_out
head_unknown kind hits room h =
    ⊎_elim
    (λ e. rw (lt-leb 1 kind (omega arith)) refl)
    (λ e. rw (le-leb 1 kind (omega arith), lt-leb kind 4 e.1) refl)
    h

pub head_known : (kind hits room : ℕ) → 0 < kind → kind ≤ 4 → head_out kind hits room ≡ text_outcome (head_text kind hits) room
unfolding head_out
head_known kind hits room h k = rw (le-leb 1 kind h, le-leb kind 4 k) refl

-- ---- a name and a number that is known

pub named_number : {a : List ℕ} {p : ℕ} (name : List ℕ) {m n : ℕ} {b : List ℕ} {q : ℕ} → m ≡ n → Writes a p (name ++ decimal m) b q
    → Writes a p (name ++ decimal n) b q
named_number name e w = rw (← e) w
