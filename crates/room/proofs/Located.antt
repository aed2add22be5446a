-- Room for scan, locate and the listing of a slot. A start is a hit once at most; and a share's earlier shares fall, so that its list has one
-- method more than shares are passed.
-- Assumes nothing.
use Rattle.std.specs.Prelude.{Option, None, Some}
use Prim.Native.Nat.{ℕ, zero, suc, ◌+◌, ◌-◌, ◌*◌, ◌/◌, ◌≤◌, ◌<◌}
use native.Mathlib.Omega.{arith}
use mathlib.Core.Path.{◌≡◌, refl}
use mathlib.Core.Logic.{◌≢◌, ⊎_elim}
use mathlib.Core.Bool.{true, false, ◌&&◌}
use mathlib.Core.List.{List, [], ◌∷◌}
use lib.ListN.{length, length-append}
use lib.Dec.{ltb, leb, eqb}
use borrow.Author.Tests.{le-leb, leb-true, ltb-true}
use Rattle.words.proofs.Shared.{case, cond_elim, and_right}
use Rattle.refusal.specs.Refusals.{is_too_large}
use Rattle.refusal.specs.Outcomes.{Outcome, refused, success}
use Rattle.start_words.specs.Starts.{pair_count}
use Rattle.dalvik.specs.Instructions.{Kind}
use Rattle.kinds.specs.Kinds.{kind_of}
use Rattle.code_item_scan.specs.Scan.{Hit, hits_of, Asked, HitRoom, Scan, no_scan, scanned, scanned_as, scan_out}
use Rattle.code_table.specs.Slots.{shared, share_at}
use Rattle.insn_locator.specs.Locate.{Tables, locate_all, answers_from, locate_out}
use Rattle.slot_listing.specs.Listing.{snoc_to, chain, listed, listed_from, list_out}
use Rattle.completeness.specs.Completeness.{most_entries}
use Rattle.completeness.proofs.Tried.{words_more, few_hits}
use Rattle.room.specs.Laws.{LongerHits}
use Rattle.room.proofs.Branches.{same_else, same_then, room_then, more_leb, more_both, neither}

-- ---- scan
module _ (s : List ℕ) (A : Asked) (room : HitRoom) where
  scanned_more : (room' : HitRoom) → LongerHits room room' → (k : Option Kind) → (scanned_as s A room k).number ≡ 0
      → scanned_as s A room' k ≡ scanned_as s A room k
  scanned_more room' M None = λ e. refl
  scanned_more room' M (Some kind) =
      let n : Scan → ℕ = λ o. o.number in
      let k : ℕ = length (hits_of s kind A.wanted A.from A.to) in
      same_then n (leb A.from A.to && leb A.to (length s)) _ _ (no_scan 12)
      (room_then n (leb k room.offs && leb k room.marks) (leb k room'.offs && leb k room'.marks) _ _ (no_scan 4) (λ z. omega arith)
      (more_both (leb k room.offs) (leb k room.marks) (leb k room'.offs) (leb k room'.marks)
      (more_leb k room.offs room'.offs M.offs)
      (more_leb k room.marks room'.marks M.marks))
      (λ z. refl))

  scanned_enough : most_entries A.kind (length s) ≤ room.offs → most_entries A.kind (length s) ≤ room.marks → (k : Option Kind)
      → kind_of A.kind ≡ k
      → (scanned_as s A room k).number ≢ 4
  scanned_enough a b None q = λ z. omega arith
  scanned_enough a b (Some kind) q =
      let hits : List Hit = hits_of s kind A.wanted A.from A.to in
      cond_elim (λ (o : Scan). o.number ≢ 4) (leb A.from A.to && leb A.to (length s)) (scanned room hits) (no_scan 12)
      (λ i.
      let t : A.to ≤ length s = leb-true A.to (length s) (and_right (leb A.from A.to) (leb A.to (length s)) i) in
      let few : length hits ≤ most_entries A.kind (A.to - A.from) = few_hits s A.wanted A.from A.to A.kind kind q in
      let most : most_entries A.kind (A.to - A.from) ≤ most_entries A.kind (length s) =
      words_more A.kind (A.to - A.from) (length s) (omega arith) in
      rw (le-leb (length hits) room.offs (omega arith), le-leb (length hits) room.marks (omega arith))
      (λ z. omega arith))
      (λ _ z. omega arith)

pub scan_more : (s : List ℕ) (A : Asked) (room room' : HitRoom) → LongerHits room room' → (scan_out s A room).number ≡ 0
    → scan_out s A room' ≡ scan_out s A room
unfolding scan_out
scan_more s A room room' M =
    same_else (λ (o : Scan). o.number) (is_too_large (length s)) (no_scan 1) _ _ (scanned_more s A room room' M (kind_of A.kind))

pub scan_enough : (s : List ℕ) (A : Asked) (room : HitRoom) → most_entries A.kind (length s) ≤ room.offs
    → most_entries A.kind (length s) ≤ room.marks
    → (scan_out s A room).number ≢ 4
unfolding scan_out
scan_enough s A room a b =
    neither (λ (o : Scan). o.number) (is_too_large (length s)) (no_scan 1) _ (λ z. omega arith) (scanned_enough s A room a b (kind_of A.kind) refl)

-- ---- locate
answers_not : (r : Option (List ℕ)) → (answers_from r).number ≢ 4
answers_not None e = omega arith
answers_not (Some l) e = omega arith

pub locate_more : (s : List ℕ) (T : Tables) (entries : List ℕ) {answers further answers' further' : ℕ} → answers ≤ answers' → further ≤ further'
    → (locate_out s T entries answers further).number ≡ 0 → locate_out s T entries answers' further' ≡ locate_out s T entries answers further
unfolding locate_out
locate_more s T entries {answers} {further} {answers'} {further'} a b =
    let n : Outcome → ℕ = λ o. o.number in
    let k : ℕ = length entries in
    let m : ℕ = pair_count T.starts in
    same_else n (is_too_large (length s)) (refused 1) _ _
    (room_then n (leb k answers && leb m further) (leb k answers' && leb m further') _ _ (refused 4) (λ z. omega arith)
    (more_both (leb k answers) (leb m further) (leb k answers') (leb m further') (more_leb k answers answers' a) (more_leb m further further' b))
    (λ z. refl))

pub locate_enough : (s : List ℕ) (T : Tables) (entries : List ℕ) (answers further : ℕ) → length entries ≤ answers → pair_count T.starts ≤ further
    → (locate_out s T entries answers further).number ≢ 4
unfolding locate_out
locate_enough s T entries answers further a b =
    neither (λ (o : Outcome). o.number) (is_too_large (length s)) (refused 1) _ (λ z. omega arith)
    (rw (le-leb (length entries) answers a, le-leb (pair_count T.starts) further b) (answers_not (locate_all s T entries)))

-- ---- listing
pub list_more : (shares : List ℕ) (slot room room' : ℕ) → room ≤ room' → (list_out shares slot room).number ≡ 0
    → list_out shares slot room' ≡ list_out shares slot room
unfolding list_out
list_more shares slot room room' a = by (listed shares slot)
  where
    by : (r : Option (List ℕ)) → (listed_from room r).number ≡ 0 → listed_from room' r ≡ listed_from room r
    by None e = refl
    by (Some l) e =
        room_then (λ (o : Outcome). o.number) (leb (length l) room) (leb (length l) room') (success l) (success l) (refused 4) (λ z. omega arith)
        (more_leb (length l) room room' a) (λ z. refl) e

-- a list of at most n methods
abbrev Most : ℕ → Option (List ℕ) → Type 0
Most n None = Unit {0}
Most n (Some l) = length l ≤ n

snoc_most : (n m : ℕ) (r : Option (List ℕ)) → Most n r → Most (suc n) (snoc_to m r)
snoc_most n m None h = tt
snoc_most n m (Some l) h = omega (arith, length-append l (m ∷ []))

wider : (n m : ℕ) (r : Option (List ℕ)) → n ≤ m → Most n r → Most m r
wider n m None h k = tt
wider n m (Some l) h k = omega arith

-- share k is inside, and its list has no more than k + 2 methods
chain_most : (n : ℕ) (ws : List ℕ) (k : ℕ) → Most (k + 2) (chain n ws k)
unfolding chain
chain_most zero ws k = tt
chain_most (suc n) ws k =
    let e : ℕ = share_at ws k 2 in
    cond_elim (Most (k + 2)) (leb (3 * k + 3) (length ws)) _ None
    (λ _. cond_elim (Most (k + 2)) (eqb e 0) (Some (share_at ws k 0 ∷ share_at ws k 1 ∷ [])) _ (λ _. omega arith)
    (λ _. cond_elim (Most (k + 2)) (ltb (e - 1) k) (snoc_to (share_at ws k 1) (chain n ws (e - 1))) None
    (λ i.
    let j : e - 1 < k = ltb-true (e - 1) k i in
    wider (suc (e - 1 + 2)) (k + 2) (snoc_to (share_at ws k 1) (chain n ws (e - 1))) (omega arith)
    (snoc_most (e - 1 + 2) (share_at ws k 1) (chain n ws (e - 1)) (chain_most n ws (e - 1))))
    (λ _. tt)))
    (λ _. tt)

chain_outside : (n : ℕ) (ws : List ℕ) (k : ℕ) → leb (3 * k + 3) (length ws) ≡ false → chain n ws k ≡ None
unfolding chain
chain_outside zero ws k e = refl
chain_outside (suc n) ws k e = rw e

chain_inside : (n : ℕ) (ws : List ℕ) (k : ℕ) → Most (length ws / 3 + 1) (chain n ws k)
chain_inside n ws k =
    ⊎_elim
    (λ (e : leb (3 * k + 3) (length ws) ≡ true).
    wider (k + 2) (length ws / 3 + 1) (chain n ws k) (omega (arith, leb-true (3 * k + 3) (length ws) e)) (chain_most n ws k))
    (λ (e : leb (3 * k + 3) (length ws) ≡ false). rw (chain_outside n ws k e) tt)
    (case (leb (3 * k + 3) (length ws)))

listed_most : (ws : List ℕ) (v : ℕ) → Most (length ws / 3 + 1) (listed ws v)
unfolding listed
listed_most ws v =
    cond_elim (Most (length ws / 3 + 1)) (eqb v 0) (Some []) _ (λ _. omega arith)
    (λ _. cond_elim (Most (length ws / 3 + 1)) (ltb v shared) (Some ((v - 1) ∷ [])) (chain (suc (v - shared)) ws (v - shared)) (λ _. omega arith)
    (λ _. chain_inside (suc (v - shared)) ws (v - shared)))

pub list_enough : (shares : List ℕ) (slot room : ℕ) → length shares / 3 + 1 ≤ room → (list_out shares slot room).number ≢ 4
unfolding list_out
list_enough shares slot room a = by (listed shares slot) (wider (length shares / 3 + 1) room (listed shares slot) a (listed_most shares slot))
  where
    by : (r : Option (List ℕ)) → Most room r → (listed_from room r).number ≢ 4
    by None h = λ z. omega arith
    by (Some l) h = rw (le-leb (length l) room h) (λ z. omega arith)
