-- A slot word stands for a list of methods: a share's words name its earlier share, whose list they lengthen by one. Joining a method to a
-- slot word appends it to that list, but for the second, which comes first; words appended after change no list.
-- Assumes nothing.
use Rattle.std.specs.Prelude.{Some}
use Prim.Native.Nat.{ℕ, zero, suc, ◌+◌, ◌-◌, ◌*◌, ◌/◌, ◌≤◌, ◌<◌}
use native.Mathlib.Omega.{arith}
use mathlib.Core.Path.{◌≡◌, refl, sym, ◌∙◌, ap}
use mathlib.Core.Logic.{⊎_elim, ◌≢◌}
use mathlib.Core.List.{List, [], ◌∷◌, ◌++◌}
use mathlib.Core.Bool.{true, false}
use lib.Dec.{ltb, eqb}
use lib.ListN.{length, get_or, length-append, get_or-append}
use lib.Seq.{get_or-append-add}
use borrow.Author.Tests.{lt-ltb, le-ltb, le-leb, eq-eqb, ne_eqb}
use Rattle.words.specs.Padded.{zeros, padded}
use Rattle.words.proofs.Shared.{case}
use Rattle.class_data.specs.Walk.{most_methods}
use Rattle.code_table.specs.Slots.{shared, share_at, joined, joined_slot}
use Rattle.slot_listing.specs.Listing.{snoc_to, chain, listed}
use Rattle.insn_locator.specs.Locate.{first_of}
use Rattle.completeness.specs.Completeness.{arranged}

-- share k has this list
pub data Chained (ws : List ℕ) : ℕ → List ℕ → Type 0 where
  two : {k a b : ℕ} → 3 * k + 3 ≤ length ws → share_at ws k 0 ≡ a → share_at ws k 1 ≡ b → share_at ws k 2 ≡ 0 → Chained ws k (a ∷ b ∷ [])
  more : {k p a b m : ℕ} {l : List ℕ} → 3 * k + 3 ≤ length ws → share_at ws k 0 ≡ a → share_at ws k 1 ≡ m → share_at ws k 2 ≡ p + 1 → p < k
      → Chained ws p (a ∷ b ∷ l) → Chained ws k (a ∷ b ∷ (l ++ (m ∷ [])))

-- the slot word v stands for this list
pub data Stands (ws : List ℕ) : ℕ → List ℕ → Type 0 where
  free : {v : ℕ} → v ≡ 0 → Stands ws v []
  single : {v m : ℕ} → v ≡ m + 1 → v < shared → Stands ws v (m ∷ [])
  share : {v k a b : ℕ} {l : List ℕ} → v ≡ shared + k → Chained ws k (a ∷ b ∷ l) → Stands ws v (a ∷ b ∷ l)

share_at_append : (ws x : List ℕ) (k i : ℕ) → i < 3 → 3 * k + 3 ≤ length ws → share_at (ws ++ x) k i ≡ share_at ws k i
share_at_append ws x k i h le = get_or-append ws x 0 (3 * k + i) (omega arith)

longer : (ws x : List ℕ) (k : ℕ) → 3 * k + 3 ≤ length ws → 3 * k + 3 ≤ length (ws ++ x)
longer ws x k le = omega (arith, length-append ws x)

-- more words after change no list
chained_append : {ws : List ℕ} (x : List ℕ) {k : ℕ} {l : List ℕ} → Chained ws k l → Chained (ws ++ x) k l
chained_append {ws} x (two {k} le a b e) =
    two (longer ws x k le) (share_at_append ws x k 0 (omega arith) le ∙ a) (share_at_append ws x k 1 (omega arith) le ∙ b)
    (share_at_append ws x k 2 (omega arith) le ∙ e)
chained_append {ws} x (more {k} le a m e lt c) =
    more (longer ws x k le) (share_at_append ws x k 0 (omega arith) le ∙ a) (share_at_append ws x k 1 (omega arith) le ∙ m)
    (share_at_append ws x k 2 (omega arith) le ∙ e)
    lt (chained_append x c)

pub stands_append : {ws : List ℕ} (x : List ℕ) {v : ℕ} {l : List ℕ} → Stands ws v l → Stands (ws ++ x) v l
stands_append x (free e) = free e
stands_append x (single e lt) = single e lt
stands_append x (share e c) = share e (chained_append x c)

pub stands_padded : {ws : List ℕ} (n : ℕ) {v : ℕ} {l : List ℕ} → Stands ws v l → Stands (padded n ws) v l
unfolding padded
stands_padded {ws} n r = stands_append (zeros (n - length ws)) r

-- the listing finds it
chain_finds : {ws : List ℕ} {k : ℕ} {l : List ℕ} → Chained ws k l → (f : ℕ) → k < f → chain f ws k ≡ Some l
unfolding chain
chain_finds c zero lt = absurd (omega arith)
chain_finds {ws} (two {k} le a b e) (suc f) lt = rw (le-leb (3 * k + 3) (length ws) le, eq-eqb (share_at ws k 2) 0 e, a, b)
chain_finds {ws} (more {k} {p} le a m e h c) (suc f) lt =
    rw (le-leb (3 * k + 3) (length ws) le, e, ne_eqb (p + 1) 0 (omega arith), lt-ltb (p + 1 - 1) k (omega arith), m)
    (ap (snoc_to _) (ap (chain f ws) (omega arith) ∙ chain_finds c f (omega arith)))

pub stands_lists : {ws : List ℕ} {v : ℕ} {l : List ℕ} → Stands ws v l → listed ws v ≡ Some l
unfolding listed
stands_lists {ws} {v} (free e) = rw (eq-eqb v 0 e)
stands_lists {ws} {v} (single {m = m} e lt) =
    let z : v - 1 ≡ m = omega arith in
    rw (ne_eqb v 0 (omega arith), lt-ltb v shared lt, z)
stands_lists {ws} {v} (share {k = k} e c) =
    let z : v - shared ≡ k = omega arith in
    rw (ne_eqb v 0 (omega arith), le-ltb v shared (omega arith), z) (chain_finds c (suc k) (omega arith))

chained_first : {ws : List ℕ} {k a : ℕ} {l : List ℕ} → Chained ws k (a ∷ l) → share_at ws k 0 ≡ a
chained_first (two le a b e) = a
chained_first (more le a m e lt c) = a

chained_inside : {ws : List ℕ} {k : ℕ} {l : List ℕ} → Chained ws k l → 3 * k + 3 ≤ length ws
chained_inside (two le a b e) = le
chained_inside (more le a m e lt c) = le

pub stands_first : {ws : List ℕ} {v m : ℕ} {l : List ℕ} → Stands ws v (m ∷ l) → first_of ws v ≡ Some m
unfolding first_of
stands_first {ws} {v} {m} (single e lt) =
    let z : v - 1 ≡ m = omega arith in
    rw (lt-ltb v shared lt, z)
stands_first {ws} {v} (share {k = k} e c) =
    let z : v - shared ≡ k = omega arith in
    rw (le-ltb v shared (omega arith), z, le-leb (3 * k + 3) (length ws) (chained_inside c), chained_first c)

pub stands_some : {ws : List ℕ} {v m : ℕ} {l : List ℕ} → Stands ws v (m ∷ l) → v ≢ 0
stands_some (single e lt) h = omega arith
stands_some (share e c) h = omega arith

-- the list with a method more
abbrev pub adds : List ℕ → ℕ → List ℕ
adds [] m = m ∷ []
adds (a ∷ []) m = m ∷ a ∷ []
adds (a ∷ b ∷ l) m = a ∷ b ∷ (l ++ (m ∷ []))

pub arranged_snoc : (ms : List ℕ) (m : ℕ) → arranged (ms ++ (m ∷ [])) ≡ adds (arranged ms) m
arranged_snoc [] m = refl
arranged_snoc (a ∷ []) m = refl
arranged_snoc (a ∷ b ∷ ms) m = refl

-- a word of the share that is appended as number n
new_share : (ws x : List ℕ) (n i : ℕ) → length ws ≡ 3 * n → share_at (ws ++ x) n i ≡ get_or x i 0
new_share ws x n i e = ap (λ (z : ℕ). get_or (ws ++ x) (z + i) 0) (sym e) ∙ get_or-append-add ws x i 0

pub join : {ws : List ℕ} {v : ℕ} {l : List ℕ} (m n : ℕ) → Stands ws v l → m < most_methods → length ws ≡ 3 * n
    → Stands (ws ++ joined v m ws) (joined_slot v m ws) (adds l m)
unfolding joined joined_slot
join {ws} {v} m n (free e) small whole = rw (eq-eqb v 0 e) (single {m = m} refl (omega arith))
join {ws} {v} m n (single {m = a} e lt) small whole =
    let x : List ℕ = m ∷ (v - 1) ∷ 0 ∷ [] in
    let q : shared + length ws / 3 ≡ shared + n = omega arith in
    let z : v - 1 ≡ a = omega arith in
    rw (ne_eqb v 0 (omega arith), lt-ltb v shared lt)
    (share {k = n} q
    (two {k = n} (omega (arith, length-append ws x)) (new_share ws x n 0 whole) (new_share ws x n 1 whole ∙ z) (new_share ws x n 2 whole)))
join {ws} {v} m n (share {k = k} {a = a} e c) small whole =
    let x : List ℕ = share_at ws (v - shared) 0 ∷ m ∷ (v - shared + 1) ∷ [] in
    let z : v - shared ≡ k = omega arith in
    let y : v - shared + 1 ≡ k + 1 = omega arith in
    let q : shared + length ws / 3 ≡ shared + n = omega arith in
    rw (ne_eqb v 0 (omega arith), le-ltb v shared (omega arith))
    (share {k = n} q
    (more {k = n} {p = k}
    (omega (arith, length-append ws x)) (new_share ws x n 0 whole ∙ ap (λ (j : ℕ). share_at ws j 0) z ∙ chained_first c) (new_share ws x n 1 whole)
    (new_share ws x n 2 whole ∙ y) (omega (arith, chained_inside c)) (chained_append x c)))

-- shares stay three words each
pub joined_length : (ws : List ℕ) (v m n : ℕ) → length ws ≡ 3 * n → (k : ℕ) × (length (ws ++ joined v m ws) ≡ 3 * k)
unfolding joined
joined_length ws v m n whole =
    ⊎_elim
    (λ (h : eqb v 0 ≡ true). (n, rw h (omega (arith, length-append ws []))))
    (λ (h : eqb v 0 ≡ false).
    ⊎_elim
    (λ (k : ltb v shared ≡ true). (n + 1, rw (h, k) (omega (arith, length-append ws (m ∷ (v - 1) ∷ 0 ∷ [])))))
    (λ (k : ltb v shared ≡ false). (n + 1, rw (h, k) (omega (arith, length-append ws (share_at ws (v - shared) 0 ∷ m ∷ (v - shared + 1) ∷ [])))))
    (case (ltb v shared)))
    (case (eqb v 0))
