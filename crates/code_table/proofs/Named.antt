-- What a build that succeeds has, whatever the file is: it is the whole build of the codes found, which the room has no part in. Only placing a
-- code writes slots and shares, and the walk lets a code pass only where its method is below the number of methods.
--     SlotWord, slots_named              each slot word
--     starts_of_length, starts_length    the start words
--     build_small, build_is              the file's size, and which build it is
-- Assumes nothing.
use Prim.Native.Nat.{ℕ, zero, suc, ◌+◌, ◌-◌, ◌*◌, ◌/◌, ◌%◌, ◌≤◌, ◌<◌}
use native.Mathlib.Omega.{arith}
use mathlib.Core.Path.{◌≡◌, refl, ap, ◌∙◌}
use mathlib.Core.Bool.{false, ◌&&◌}
use mathlib.Core.List.{List, [], ◌∷◌, ◌++◌, append-nil}
use lib.Dec.{leb}
use lib.ListN.{length, get_or, take, drop, replicate, length-append, get_or-append}
use lib.Seq.{get_or-drop, get_or-append-add}
use Rattle.words.specs.Padded.{stretch}
use Rattle.words.proofs.Shared.{cond_elim}
use Rattle.refusal.specs.Refusals.{refusal_number, is_too_large}
use Rattle.refusal.proofs.Numbers.{some_number}
use Rattle.start_words.specs.Starts.{pairs_in, no_starts}
use Rattle.start_words.proofs.Starts.{length_with, length_none}
use Rattle.tinydex.specs.declared.DexHeader.{DexHeader}
use Rattle.dalvik.specs.CodeItem.{Code}
use Rattle.class_data.specs.Walk.{Walk, most_methods}
use Rattle.class_data.specs.Walk.Walk.{refused, found}
use Rattle.class_data.specs.Codes.{codes_of}
use Rattle.class_data.specs.Stored.{first_bucket, starts_from, starts_of}
use Rattle.class_data.proofs.Found.{CodeIn, Each, codes_sound}
use Rattle.code_table.specs.Slots.{base_of, top_of, shared, joined, joined_slot, Table, place, table_from, table_of}
use Rattle.code_table.specs.Build.{Room, Build, most_shares, no_build, whole_build, built_from, build_out}
use Rattle.code_table.proofs.Slots.{joined_free, joined_single, joined_share, slot_free, slot_share}

-- a slot word is free, or stands for one method below `methods`, or for a share that is there and whose first method is below `methods`
pub data SlotWord (methods : ℕ) (shares : List ℕ) (v : ℕ) : Type 0 where
  free : v ≡ 0 → SlotWord methods shares v
  single : 0 < v → v < shared → v ≤ methods → SlotWord methods shares v
  share : shared ≤ v → 3 * (v - shared) + 3 ≤ length shares → get_or shares (3 * (v - shared)) 0 < methods → SlotWord methods shares v

-- ---- what holds of every word of a list; past the end it is 0
abbrev AllWords : (ℕ → Type 0) → List ℕ → Type 0
AllWords P xs = (i : ℕ) → P (get_or xs i 0)

module _ (P : ℕ → Type 0) (none : P 0) where
  words_append : (xs ys : List ℕ) → AllWords P xs → AllWords P ys → AllWords P (xs ++ ys)
  words_append [] ys p q i = q i
  words_append (x ∷ xs) ys p q zero = p 0
  words_append (x ∷ xs) ys p q (suc i) = words_append xs ys (λ j. p (suc j)) q i

  words_take : (n : ℕ) (xs : List ℕ) → AllWords P xs → AllWords P (take n xs)
  words_take zero xs p i = none
  words_take (suc n) [] p i = none
  words_take (suc n) (x ∷ xs) p zero = p 0
  words_take (suc n) (x ∷ xs) p (suc i) = words_take n xs (λ j. p (suc j)) i

  words_drop : (n : ℕ) (xs : List ℕ) → AllWords P xs → AllWords P (drop n xs)
  words_drop n xs p i = rw (get_or-drop n xs i 0) (p (n + i))

  words_same : (n v : ℕ) → P v → AllWords P (replicate n v)
  words_same zero v p i = none
  words_same (suc n) v p zero = p
  words_same (suc n) v p (suc i) = words_same n v p i

  words_stretch : (xs : List ℕ) (a k v : ℕ) → P v → AllWords P xs → AllWords P (stretch xs a k v)
  unfolding stretch
  words_stretch xs a k v p q =
      words_append (take a xs) (replicate k v ++ drop k (drop a xs)) (words_take a xs q)
      (words_append (replicate k v) (drop k (drop a xs)) (words_same k v p) (words_drop k (drop a xs) (words_drop a xs q)))

-- ---- a method joined to a slot word
module _ (methods : ℕ) where
  -- shares only grow at their end
  word_append : {ws : List ℕ} (x : List ℕ) {v : ℕ} → SlotWord methods ws v → SlotWord methods (ws ++ x) v
  word_append x (free e) = free e
  word_append x (single p q r) = single p q r
  word_append {ws} x {v} (share p q r) =
      share p (omega (arith, length-append ws x)) (rw (get_or-append ws x 0 (3 * (v - shared)) (omega arith)) r)

  -- three words more are a share, and its slot word stands for it
  new_share : (ws : List ℕ) (a b c : ℕ) → length ws % 3 ≡ 0 → a < methods → SlotWord methods (ws ++ (a ∷ b ∷ c ∷ [])) (shared + length ws / 3)
  new_share ws a b c whole h =
      let x : List ℕ = a ∷ b ∷ c ∷ [] in
      let e : 3 * (shared + length ws / 3 - shared) ≡ length ws + 0 = omega arith in
      share (omega arith) (omega (arith, length-append ws x)) (rw (e, get_or-append-add ws x 0 0) h)

  -- shares of three words each, and a slot word over them
  record Joined (ws : List ℕ) (v : ℕ) : Type 0 where
    whole : length ws % 3 ≡ 0
    word : SlotWord methods ws v

  joined_new : (ws : List ℕ) (a b c : ℕ) → length ws % 3 ≡ 0 → a < methods → Joined (ws ++ (a ∷ b ∷ c ∷ [])) (shared + length ws / 3)
  joined_new ws a b c whole h = record { whole = omega (arith, length-append ws (a ∷ b ∷ c ∷ [])); word = new_share ws a b c whole h }

  join : (ws : List ℕ) (v m : ℕ) → length ws % 3 ≡ 0 → m < methods → m < most_methods → SlotWord methods ws v
      → Joined (ws ++ joined v m ws) (joined_slot v m ws)
  join ws v m whole h small (free e) =
      rw (joined_free v m ws e, slot_free v m ws e, append-nil)
      (record { whole = whole; word = single (omega arith) (omega arith) (omega arith) })
  join ws v m whole h small (single p q r) =
      rw (joined_single v m ws p q, slot_share v m ws (omega arith)) (joined_new ws m (v - 1) 0 whole h)
  join ws v m whole h small (share p q r) =
      rw (joined_share v m ws p, slot_share v m ws (omega arith)) (joined_new ws (get_or ws (3 * (v - shared)) 0) m (v - shared + 1) whole r)

  -- ---- the codes placed
  record Named (t : Table) : Type 0 where
    whole : length t.shares % 3 ≡ 0
    words : AllWords (SlotWord methods t.shares) t.slots

  place_named : (base : ℕ) (c : Code) (t : Table) → c.method < methods → c.method < most_methods → Named t → Named (place base c t)
  unfolding place
  place_named base c t h small N =
      let v : ℕ = get_or t.slots (first_bucket c - base) 0 in
      let x : List ℕ = joined v c.method t.shares in
      let J = join t.shares v c.method N.whole h small (N.words (first_bucket c - base)) in
      record {
        whole = J.whole;
        words = words_stretch (SlotWord methods (t.shares ++ x)) (free refl) t.slots _ _ _ J.word (λ i. word_append x (N.words i));
      }

  all_named : (s : List ℕ) (base : ℕ) (cs : List Code) (t : Table) → Each (CodeIn s methods) cs → Named t → Named (table_from base t cs)
  all_named s base [] t E N = N
  all_named s base (c ∷ cs) t E N = all_named s base cs (place base c t) E.1 (place_named base c t E.0.index E.0.small N)

  table_named : (s : List ℕ) (cs : List Code) → Each (CodeIn s methods) cs → Named (table_of cs)
  unfolding table_of
  table_named s cs E =
      all_named s (base_of cs) cs _ E
      (record { whole = refl; words = words_same (SlotWord methods []) (free refl) (top_of cs - base_of cs) 0 (free refl) })

-- ---- the start words: two for each method
from_length : (ws : List ℕ) (cs : List Code) → length (starts_from ws cs) ≡ length ws
from_length ws [] = refl
from_length ws (c ∷ cs) = from_length (starts_from ws (c ∷ [])) cs ∙ length_with ws c.method _ _

pub starts_of_length : (methods : ℕ) (cs : List Code) → length (starts_of methods cs) ≡ 2 * methods
unfolding starts_of
starts_of_length methods cs = from_length (no_starts methods) cs ∙ length_none methods

-- ---- a build that succeeds
abbrev found_build : ℕ → ℕ → Walk → Build
found_build len methods (refused r) = no_build (refusal_number r)
found_build len methods (found cs e) = whole_build len methods cs

-- the build of file and record with room for all of it
abbrev pub file_build : List ℕ → DexHeader → Build
file_build s h = found_build (length s) h.methods.size (codes_of s h)

record Whole (s : List ℕ) (h : DexHeader) (B : Build) : Type 0 where
  codes : List Code
  next : ℕ
  walk : found codes next ≡ codes_of s h
  small : is_too_large (length s) ≡ false
  is : B ≡ whole_build (length s) h.methods.size codes

abbrev Succeeds : List ℕ → DexHeader → Build → Type 0
Succeeds s h B = B.number ≡ 0 → Whole s h B

from_whole : (s : List ℕ) (h : DexHeader) (room : Room) (w : Walk) → w ≡ codes_of s h → is_too_large (length s) ≡ false
    → Succeeds s h (built_from (length s) h.methods.size room w)
from_whole s h room (refused r) e small = λ z. absurd (some_number r z)
from_whole s h room (found cs n) e small =
    cond_elim (Succeeds s h)
    (leb (3 * length cs) room.triples && leb (top_of cs - base_of cs) room.slots && leb (length (table_of cs).shares) room.shares
    && leb (length (table_of cs).shares) most_shares)
    (whole_build (length s) h.methods.size cs) (no_build 4)
    (λ _ z. record { codes = cs; next = n; walk = e; small = small; is = refl }) (λ _ z. absurd (omega arith))

build_whole : (s : List ℕ) (h : DexHeader) (room : Room) → Succeeds s h (build_out s h room)
unfolding build_out
build_whole s h room =
    cond_elim (Succeeds s h) (is_too_large (length s)) (no_build 1) _ (λ _ z. absurd (omega arith))
    (λ small. cond_elim (Succeeds s h) (leb h.methods.size (pairs_in room.starts))
    (built_from (length s) h.methods.size room (codes_of s h)) (no_build 4)
    (λ _. from_whole s h room (codes_of s h) refl small) (λ _ z. absurd (omega arith)))

module _ (s : List ℕ) (h : DexHeader) (room : Room) (succeeds : (build_out s h room).number ≡ 0) where
  W : Whole s h (build_out s h room)
  W = build_whole s h room succeeds

  pub slots_named : (i : ℕ) → SlotWord h.methods.size (build_out s h room).shares (get_or (build_out s h room).slots i 0)
  slots_named i = rw W.is ((table_named h.methods.size s W.codes (codes_sound s h W.codes W.next W.walk)).words i)

  pub starts_length : length (build_out s h room).starts ≡ 2 * h.methods.size
  starts_length = rw W.is (starts_of_length h.methods.size W.codes)

  pub build_small : is_too_large (length s) ≡ false
  build_small = W.small

  -- it is the one build of file and record that there is
  pub build_is : build_out s h room ≡ file_build s h
  build_is = W.is ∙ ap (found_build (length s) h.methods.size) W.walk
