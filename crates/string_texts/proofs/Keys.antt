-- The definitions of the texts' keys, a law for each way out of them: the strings passed have their keys, in order, and the first fault
-- ends it; a text has an end exactly if it begins before the file's last zero; and the zero after the last start is the end of all.
-- Assumes nothing.
use Rattle.std.specs.Prelude.{Option, Some, None, Result, Ok, Err}
use Prim.Native.Nat.{ℕ, zero, suc, ◌+◌, ◌*◌, ◌-◌, ◌<◌, ◌≤◌, min, max}
use native.Mathlib.Omega.{arith}
use native.Mathlib.Numerals.{add-one}
use mathlib.Core.Path.{◌≡◌, refl, sym, ap, subst, ◌∙◌}
use mathlib.Core.Logic.{◌≢◌, ⊎_elim}
use mathlib.Core.List.{List, [], ◌∷◌}
use lib.ListN.{length, set, length-append, length-set}
use borrow.Author.Tests.{le-ltb, ne_eqb, eqb-false}
use Rattle.words.specs.Padded.{zeros, padded}
use Rattle.words.proofs.Padded.{padded_none, padded_push}
use Rattle.dalvik.specs.Numbers.{byte, Bytes}
use Rattle.dalvik.specs.Ids.{string_data_off}
use Rattle.refusal.specs.Refusals.{refusal_number, largest_file}
use Rattle.refusal.specs.declared.Refusal.{Refusal}
use Rattle.refusal.specs.declared.Refusal.TheVariants.{StringOutside}
use Rattle.refusal.proofs.Numbers.{numbered}
use Rattle.byte_search.specs.First.{Either, First}
use Rattle.string_data.specs.Text.{Found, none, found, first_zero, text_from, text_at, after_length, string_text}
use Rattle.string_data.proofs.Laws.{text_ends, text_open, small_enough}
use Rattle.string_texts.proofs.Accepted.{zeroed, no_zero, accepted}
use Rattle.sort_keys.proofs.Counts.{below?, same?}
use Rattle.string_texts.specs.Texts.{text_of, fault_from, text_key, text_keys_of, Covers}
use Rattle.string_texts.specs.Steps.{LastZero, Readable, start_number, start_place, Begins, Put, PutAll, greatest_start}

pub nonzero : (why : Refusal) → refusal_number why ≡ 0 → ⊥
nonzero why z = eqb-false (refusal_number why) 0 (numbered why) z

-- ---- the last zero
module _ (s : List ℕ) (n : ℕ) (free : (k : ℕ) → n ≤ k → k < length s → byte s k ≢ 0) where
  pub one_back : byte s (n - 1) ≢ 0 → (k : ℕ) → n - 1 ≤ k → k < length s → byte s k ≢ 0
  one_back h k l m e =
      ⊎_elim (λ (q : k < n). h (ap (byte s) (let p : n - 1 ≡ k = omega arith in p) ∙ e)) (λ (q : n ≤ k). free k q m e) (below? k n)

  pub last_found : n ≤ length s → byte s (n - 1) ≡ 0 → LastZero s n
  last_found l h = record { inside = l; here = λ _. h; none_after = free }

  pub last_none : n ≤ 0 → LastZero s 0
  last_none l = record { inside = omega arith; here = λ p. absurd (omega arith); none_after = λ k _ m. free k (omega arith) m }

-- ---- where a text begins
module _ (s : List ℕ) (offset zeros : ℕ) (ok : Readable s zeros) where
  whole_text : (f : Found) → f ≡ after_length 5 s offset → f ≡ string_text s offset
  whole_text f e = small_enough s offset (le-ltb largest_file (length s) ok.small) f e

  pub begin_refused : (r : Result ℕ Refusal) (why : Refusal) → r ≡ Err why → text_at s r ≡ after_length 5 s offset → Begins (string_text s offset) r
  begin_refused r why q e =
      let f = whole_text (none (refusal_number why)) (ap (text_at s) (sym q) ∙ e) in
      record {
        number = ap start_number q ∙ ap (λ (x : Found). x.number) f;
        place = ap start_place q ∙ ap (λ (x : Found). x.start) f;
      }

  module _ (a : ℕ) (e : text_from s a ≡ after_length 5 s offset) where
    at_of : (r : Option ℕ) → first_zero s a ≡ r → a < zeros → Begins (string_text s offset) (Ok a)
    at_of (Some n) q h =
        let f = whole_text (found a n) (text_ends s a n (sym q) ∙ e) in
        record { number = ap (λ (x : Found). x.number) f; place = ap (λ (x : Found). x.start) f }
    at_of None q h =
        let l = ok.last in
        let i : zeros ≤ length s = l.inside in
        absurd (no_zero s (zeros - 1 - a) a q (omega arith)
        (ap (byte s) (let p : a + (zeros - 1 - a) ≡ zeros - 1 = omega arith in p) ∙ l.here (omega arith)))

    pub begin_at : a < zeros → Begins (string_text s offset) (Ok a)
    begin_at h = at_of (first_zero s a) refl h

    open_of : (r : Option ℕ) → first_zero s a ≡ r → zeros ≤ a → Begins (string_text s offset) (Err StringOutside)
    open_of (Some n) q h =
        let y = zeroed s n a q in
        absurd (ok.last.none_after (a + n) (omega arith) y.inside y.final_zero)
    open_of None q h =
        let f = whole_text (none 5) (text_open s a (sym q) ∙ e) in
        record { number = ap (λ (x : Found). x.number) f; place = ap (λ (x : Found). x.start) f }

    pub begin_open : zeros ≤ a → Begins (string_text s offset) (Err StringOutside)
    begin_open h = open_of (first_zero s a) refl h

-- a text that begins does so inside the file
started : (s : List ℕ) (i : ℕ) → Bytes s → (string_text s i).number ≡ 0 → (string_text s i).start < length s
started s i bytes e =
    let a = accepted s i bytes e in
    omega (arith, ap (λ (x : Found). x.start) a.read.answer, a.item.inside)

pub begin_small : (s : List ℕ) (i a : ℕ) (r : Result ℕ Refusal) → Bytes s → length s ≤ largest_file → r ≡ Ok a → Begins (string_text s i) r → a ≤ largest_file
begin_small s i a r bytes h q g =
    omega (arith, started s i bytes (sym g.number ∙ ap start_number q), sym (ap start_place q) ∙ g.place)

-- ---- the strings passed: i of them, and n left
module _ (s : List ℕ) (table : ℕ) where
  pub fault_end : (n i : ℕ) → n ≤ 0 → 0 ≡ fault_from s table n i
  unfolding fault_from
  fault_end zero i h = refl
  fault_end (suc n) i h = absurd (omega arith)

  pub fault_next : (n i : ℕ) → 0 < n → (text_of s table i).number ≡ 0 → fault_from s table (n - 1) (i + 1) ≡ fault_from s table n i
  unfolding fault_from
  fault_next zero i h e = absurd (omega arith)
  fault_next (suc n) i h e =
      let q : suc n - 1 ≡ n = omega arith in
      rw (e, q)

  pub fault_here : (n i r : ℕ) → 0 < n → 0 < r → r ≡ (text_of s table i).number → r ≡ fault_from s table n i
  unfolding fault_from
  fault_here zero i r h p e = absurd (omega arith)
  fault_here (suc n) i r h p e = rw (← e, ne_eqb r 0 (λ q. omega arith))

  -- without a fault each text is whole
  pub faultless : (n i : ℕ) → fault_from s table n i ≡ 0 → (k : ℕ) → i ≤ k → k < i + n → (text_of s table k).number ≡ 0
  unfolding fault_from
  faultless zero i e k h l = absurd (omega arith)
  faultless (suc n) i e k h l =
      ⊎_elim (λ (q : (text_of s table i).number ≡ 0). ⊎_elim
      (λ (m : i < k). faultless n (i + 1) (simp q at e) k (omega arith) (omega arith))
      (λ (m : k ≤ i). ap (λ (j : ℕ). (text_of s table j).number) (let p : k ≡ i = omega arith in p) ∙ q) (below? i k))
      (λ (q : (text_of s table i).number ≡ 0 → ⊥). absurd (q (simp (ne_eqb (text_of s table i).number 0 q) at e)))
      (same? (text_of s table i).number 0)

  pub length_text_keys : (n : ℕ) → length (text_keys_of s table n) ≡ n
  unfolding text_keys_of
  length_text_keys zero = refl
  length_text_keys (suc n) = length-append (text_keys_of s table n) (text_key s table n ∷ []) ∙ omega (arith, length_text_keys n)

  pub keys_none : (room : ℕ) → zeros room ≡ padded room (text_keys_of s table 0)
  unfolding text_keys_of
  keys_none room = sym (padded_none room)

  pub keys_more : (room i : ℕ) → i < room → set (padded room (text_keys_of s table i)) i (text_key s table i) ≡ padded room (text_keys_of s table (i + 1))
  unfolding text_keys_of
  keys_more room i h = rw (add-one i) (padded_push room (text_keys_of s table i) i (text_key s table i) (length_text_keys i) h)

  pub greatest_none : 0 ≡ greatest_start s table 0
  unfolding greatest_start
  greatest_none = refl

  pub greatest_more : (i hi a : ℕ) → hi ≡ greatest_start s table i → a ≡ (text_of s table i).start → max hi a ≡ greatest_start s table (i + 1)
  unfolding greatest_start
  greatest_more i hi a p q = rw (add-one i, p, q)

  greatest_high : (n i : ℕ) → i < n → (text_of s table i).start ≤ greatest_start s table n
  unfolding greatest_start
  greatest_high zero i h = absurd (omega arith)
  greatest_high (suc n) i h =
      ⊎_elim (λ (l : i < n). omega (arith, greatest_high n i l))
      (λ (l : n ≤ i). let e : i ≡ n = omega arith in omega (arith, ap (λ (j : ℕ). (text_of s table j).start) e)) (below? i n)

  -- the zero after the last start ends every text, or comes later
  pub all_covered : (n e : ℕ) → Bytes s → fault_from s table n 0 ≡ 0 → First (Either 0 0 s) (greatest_start s table n) (min (length s) (length s)) e
      → Covers s table n e
  all_covered n e bytes q f =
      record {
        inside = omega (arith, f.inside);
        covers = λ i h.
            let a = accepted s _ bytes (faultless n 0 q i (omega arith) (omega arith)) in
            let at = ap (λ (x : Found). x.start) a.read.answer in
            let len = ap (λ (x : Found). x.len) a.read.answer in
            let last = greatest_high n i h in
            ⊎_elim (λ (l : e < a.item.start + a.item.n).
            let j : e < length s = omega (arith, a.item.inside) in
            let after = f.after (omega arith) in
            let k : a.item.start + (e - a.item.start) ≡ e = omega arith in
            absurd (a.item.none_zero (e - a.item.start) (omega arith) (ap (byte s) k ∙ ⊎_elim (λ z. z) (λ z. z) (f.here (omega arith)))))
            (λ (l : a.item.start + a.item.n ≤ e). omega arith) (below? e (a.item.start + a.item.n));
      }

-- ---- one string
module _ (s : List ℕ) (table i : ℕ) where
  pub put_refused : (r : Result ℕ Refusal) {why : Refusal} → r ≡ Err why → (o : ℕ) → o ≡ string_data_off s table i → Begins (string_text s o) r → (ws : List ℕ)
      → Put s table i r ws ws
  put_refused r {why} q o e g ws =
      record {
        begins = subst (λ (k : ℕ). Begins (string_text s k) r) e g;
        long = refl;
        words = λ z. absurd (nonzero why (sym (ap start_number q) ∙ z));
      }

  pub put_done : (r : Result ℕ Refusal) (a o : ℕ) → o ≡ string_data_off s table i → r ≡ Ok a → Begins (string_text s o) r → (before after : List ℕ)
      → after ≡ set before i (a * 4294967296 + i) → Put s table i (Ok a) before after
  put_done r a o e q g before after w =
      let begins : Begins (text_of s table i) (Ok a) = subst (λ (k : ℕ). Begins (string_text s k) (Ok a)) e (subst (Begins (string_text s o)) q g) in
      record {
        begins = begins;
        long = ap length w ∙ length-set before i _;
        words = λ z. w ∙ ap (λ (k : ℕ). set before i (k * 4294967296 + i)) begins.place;
      }

-- ---- i of n strings, the greatest start among them
pub record Far : Type 0 where
  pub last : ℕ
  pub i : ℕ

pub record Passed (s : List ℕ) (table n : ℕ) (before after : List ℕ) (far : Far) : Type 0 where
  pub few : far.i ≤ n
  pub rest : fault_from s table (n - far.i) far.i ≡ fault_from s table n 0
  pub greatest : far.last ≡ greatest_start s table far.i
  pub long : length after ≡ length before
  pub words : n ≤ length before → before ≡ zeros (length before) → after ≡ padded (length before) (text_keys_of s table far.i)

pub passed_none : (s : List ℕ) (table n : ℕ) (ws : List ℕ) → Passed s table n ws ws (record { last = 0; i = 0 })
passed_none s table n ws =
    record {
      few = omega arith;
      rest = ap (λ (k : ℕ). fault_from s table k 0) (let p : n - 0 ≡ n = omega arith in p);
      greatest = greatest_none s table;
      long = refl;
      words = λ h z. z ∙ keys_none s table (length ws);
    }

module _ {s : List ℕ} {table n : ℕ} {before mid : List ℕ} {last i : ℕ} (p : Passed s table n before mid (record { last = last; i = i })) where
  pub passed_fault : i < n → {r : (Result ℕ Refusal)} {why : Refusal} → r ≡ Err why → {after : List ℕ} → Put s table i r mid after
      → PutAll s table n r before after
  passed_fault h {r} {why} q g =
      let bad : start_number r ≡ 0 → ⊥ = λ z. nonzero why (sym (ap start_number q) ∙ z) in
      let some : 0 < start_number r = ⊎_elim (λ (l : 0 < start_number r). l) (λ (l : start_number r ≤ 0). absurd (bad (omega arith)))
      (below? 0 (start_number r)) in
      record {
        number = fault_here s table (n - i) i (start_number r) (omega arith) some g.begins.number ∙ p.rest;
        last = λ z. absurd (bad z);
        long = g.long ∙ p.long;
        words = λ z. absurd (bad z);
      }

  pub passed_one : i < n → {r : (Result ℕ Refusal)} {a : ℕ} → r ≡ Ok a → {after : List ℕ} → Put s table i r mid after → {m : ℕ} → m ≡ max last a
      → Passed s table n before after (record { last = m; i = i + 1 })
  passed_one h {r} {a} q g e =
      let fine = ap start_number q in
      record {
        few = omega arith;
        rest = ap (λ (k : ℕ). fault_from s table k (i + 1)) (let z : n - (i + 1) ≡ n - i - 1 = omega arith in z)
            ∙ fault_next s table (n - i) i (omega arith) (sym g.begins.number ∙ fine) ∙ p.rest;
        greatest = e ∙ greatest_more s table i last a p.greatest (sym (ap start_place q) ∙ g.begins.place);
        long = g.long ∙ p.long;
        words = λ l z. g.words fine ∙ ap (λ (w : List ℕ). set w i (text_key s table i)) (p.words l z) ∙ keys_more s table (length before) i (omega arith);
      }

  pub passed_all : n ≤ i → PutAll s table n (Ok last) before mid
  passed_all h =
      let same : i ≡ n = omega (arith, p.few) in
      record {
        number = fault_end s table (n - i) i (omega arith) ∙ p.rest;
        last = λ _. p.greatest ∙ ap (greatest_start s table) same;
        long = p.long;
        words = λ _ l z. p.words l z ∙ ap (λ (k : ℕ). padded (length before) (text_keys_of s table k)) same;
      }
