-- Over the tables of a build every entry has an answer, the same however many zeros stand after them: a slot word of a build is free or stands for
-- a first method below the number of methods, and each of these has a pair.
-- Assumes nothing.
use Rattle.std.specs.Prelude.{Some}
use Prim.Native.Nat.{ℕ, ◌+◌, ◌-◌, ◌*◌, ◌/◌, ◌<◌}
use native.Mathlib.Omega.{arith}
use mathlib.Core.Path.{◌≡◌, refl, sym, ◌∙◌, ap}
use mathlib.Core.Logic.{◌≢◌, ◌⊎◌, inl, inr, ⊎_elim}
use mathlib.Core.Bool.{cond}
use mathlib.Core.List.{List, [], ◌∷◌}
use lib.Dec.{leb}
use lib.ListN.{length, get_or}
use borrow.Author.Tests.{eq-eqb, ne_eqb}
use Rattle.words.specs.Padded.{padded}
use Rattle.words.proofs.Padded.{padded_longer, padded_at}
use Rattle.words.proofs.Shared.{cond_elim}
use Rattle.start_words.specs.Starts.{pair, pair_of}
use Rattle.start_words.specs.declared.Pair.{Pair}
use Rattle.tinydex.specs.declared.DexHeader.{DexHeader}
use Rattle.start_words.proofs.Starts.{pair_there, pair_padded}
use Rattle.code_table.specs.Slots.{shared}
use Rattle.code_table.specs.Build.{Room, Build, build_out}
use Rattle.code_table.proofs.Named.{SlotWord, slots_named, starts_length}
use Rattle.code_table.proofs.Named.SlotWord.{free, single, share}
use Rattle.insn_locator.specs.Alone.{LeftBy, Returned}
use Rattle.insn_locator.specs.Locate.{Tables, Answered, slot_at, first_of, tried, answered, locate_from}
use Rattle.insn_locator.proofs.Slots.{first_single, first_shared}
use Rattle.insn_locator.proofs.Alone.{confirms, alone_at, alone_free, alone_by}

-- ---- an entry that asks for nothing which is not there

pub data Answerable (starts shares : List ℕ) (v : ℕ) : Type 0 where
  no_method : v ≡ 0 → Answerable starts shares v
  by : v ≢ 0 → (m : ℕ) → first_of shares v ≡ Some m → (p : Pair) → pair_of starts m ≡ Some p → Answerable starts shares v

-- it has an answer, whatever was confirmed before
pub record HasAnswer (s : List ℕ) (T : Tables) (last : List ℕ) (t v : ℕ) : Type 0 where
  pub r : Answered
  pub gives : answered s T last t v ≡ Some r

pub has_answer : (s : List ℕ) (T : Tables) (last : List ℕ) (t v : ℕ) → Answerable T.starts T.shares v → HasAnswer s T last t v
has_answer s T last t v (no_method e) = record { r = record { answer = 0; last = last }; gives = rw (eq-eqb v 0 e) }
has_answer s T last t v (by n m e p i) = record { r = tried s p last v m t; gives = rw (ne_eqb v 0 n, e, i) }

-- and so has each of a list, in any order
pub record HasAnswers (s : List ℕ) (T : Tables) (last ts : List ℕ) : Type 0 where
  pub answers : List ℕ
  pub gives : locate_from s T last ts ≡ Some answers

pub has_answers : (s : List ℕ) (T : Tables) → ((t : ℕ) → Answerable T.starts T.shares (slot_at T.base T.slots t))
    → (ts last : List ℕ) → HasAnswers s T last ts
unfolding locate_from
has_answers s T A [] last = record { answers = []; gives = refl }
has_answers s T A (t ∷ ts) last =
    let H = has_answer s T last t (slot_at T.base T.slots t) (A t) in
    let R = has_answers s T A ts H.r.last in
    record { answers = H.r.answer ∷ R.answers; gives = rw (H.gives, R.gives) }

-- ---- the slot words of a build

-- a slot word's first method and its pair, with any number of zeros after shares and start words
pub record Holder (starts shares : List ℕ) (v : ℕ) : Type 0 where
  pub m : ℕ
  pub p : Pair
  pub some_slot : v ≢ 0
  pub first : (n : ℕ) → first_of (padded n shares) v ≡ Some m
  pub its_pair : (n : ℕ) → pair_of (padded n starts) m ≡ Some p

module _ (methods : ℕ) (starts shares : List ℕ) (v : ℕ) (two-each : length starts ≡ 2 * methods) where
  held_by : (m : ℕ) → m < methods → v ≢ 0 → ((n : ℕ) → first_of (padded n shares) v ≡ Some m) → Holder starts shares v
  held_by m h n F = record {
    m = m;
    p = pair (get_or starts (2 * m) 0) (get_or starts (2 * m + 1) 0);
    some_slot = n;
    first = F;
    its_pair = λ k. pair_padded starts m k _ (pair_there starts m (omega arith));
  }

  pub held : SlotWord methods shares v → (v ≡ 0) ⊎ Holder starts shares v
  held (free e) = inl e
  held (single a b c) = inr (held_by (v - 1) (omega arith) (λ z. omega arith) (λ n. sym (first_single (padded n shares) v b)))
  held (share a b c) =
      inr
      (held_by (get_or shares (3 * (v - shared)) 0) c (λ z. omega arith)
      (λ n. sym (first_shared (padded n shares) v a (omega (arith, padded_longer n shares))) ∙ ap Some (padded_at n shares (3 * (v - shared)))))

slot_padded : (base n : ℕ) (slots : List ℕ) (t : ℕ) → slot_at base (padded n slots) t ≡ slot_at base slots t
unfolding slot_at
slot_padded base n slots t = rw (padded_at n slots (t / 16 - base))

slot_by : (P : ℕ → Type 0) → P 0 → (base : ℕ) (slots : List ℕ) (t : ℕ) → ((i : ℕ) → P (get_or slots i 0)) → P (slot_at base slots t)
unfolding slot_at
slot_by P z base slots t each = cond_elim P (leb base (t / 16)) _ _ (λ _. each (t / 16 - base)) (λ _. z)

-- ---- a build that succeeds

module _ (s : List ℕ) (h : DexHeader) (room : Room) (succeeds : (build_out s h room).number ≡ 0) (t : ℕ) where
  abbrev B : Build
  B = build_out s h room

  abbrev v : ℕ
  v = slot_at (B.from / 16) B.slots t

  slot_held : (v ≡ 0) ⊎ Holder B.starts B.shares v
  slot_held =
      held h.methods.size B.starts B.shares v (starts_length s h room succeeds)
      (slot_by (SlotWord h.methods.size B.shares) (free refl) (B.from / 16) B.slots t (slots_named s h room succeeds))

  slot_left : (T : Tables) → LeftBy B T → slot_at T.base T.slots t ≡ v
  slot_left T L = rw (L.base, L.slots.same) (slot_padded (B.from / 16) L.slots.count B.slots t)

  pub answerable : (T : Tables) → LeftBy B T → Answerable T.starts T.shares (slot_at T.base T.slots t)
  answerable T L =
      rw (slot_left T L, L.starts.same, L.shares.same)
      (⊎_elim (λ (e : v ≡ 0). no_method e)
      (λ (H : Holder B.starts B.shares v). by H.some_slot H.m (H.first L.shares.count) H.p (H.its_pair L.starts.count)) slot_held)

  -- its answer alone is one number, whichever words of the build are passed on
  pub record AloneIn : Type 0 where
    pub answer : ℕ
    pub is : (T : Tables) → LeftBy B T → alone_at s T t ≡ Some answer

  pub alone_in : AloneIn
  alone_in =
      ⊎_elim
      (λ (e : v ≡ 0). record { answer = 0; is = λ T L. alone_free s T t v (slot_left T L) e })
      (λ (H : Holder B.starts B.shares v). record {
        answer = cond (confirms s H.p t) v 0;
        is = λ T L.
            alone_by s T t v (slot_left T L) H.some_slot H.m (rw L.shares.same (H.first L.shares.count)) H.p
            (rw L.starts.same (H.its_pair L.starts.count));
      })
      slot_held

pub all_answerable : (s : List ℕ) (T : Tables) → Returned s T → (t : ℕ) → Answerable T.starts T.shares (slot_at T.base T.slots t)
all_answerable s T R t = answerable s R.header R.room R.succeeds t T R.left
