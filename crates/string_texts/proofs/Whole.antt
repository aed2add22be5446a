-- The ways out of `text_keys`, each with its fault: none before it applies, and only without one are there keys.
-- Assumes nothing.
use Rattle.std.specs.Prelude.{Result, Ok, Err}
use Prim.Native.Nat.{ℕ, ◌-◌, ◌<◌, ◌≤◌}
use native.Mathlib.Omega.{arith}
use mathlib.Core.Path.{◌≡◌, sym, ap, subst, ◌∙◌}
use mathlib.Core.Bool.{true, false, cond}
use mathlib.Core.List.{List, ◌++◌}
use lib.ListN.{length, take, drop}
use lib.Seq.{take_at, drop_at}
use lib.Dec.{ltb}
use borrow.Author.Tests.{lt-ltb, le-ltb}
use Rattle.words.specs.Padded.{zeros, padded}
use Rattle.words.proofs.Padded.{padded_none}
use Rattle.dalvik.specs.Numbers.{Bytes}
use Rattle.dalvik.specs.Ids.{item, string_id_size}
use Rattle.refusal.specs.Refusals.{refusal_number, is_too_large}
use Rattle.refusal.specs.declared.Refusal.{Refusal}
use Rattle.refusal.specs.declared.Refusal.TheVariants as r
use Rattle.refusal.proofs.Numbers.{numbered}
use Rattle.tinydex.specs.declared.Table.{Table}
use Rattle.string_texts.specs.Texts.{or_fault}
use Rattle.sort_keys.specs.Sorted.{sorted}
use Rattle.sort_keys.proofs.Sorted.{length_sorted}
use Rattle.string_texts.specs.Texts.{fault_from, text_keys_of, texts_fault, GivesTexts}
use Rattle.string_texts.specs.Steps.{start_number, greatest_start, Finished}
use Rattle.string_texts.specs.Steps.Finished.{short, whole}
use Rattle.string_texts.proofs.Keys.{nonzero, length_text_keys, all_covered}

-- a front of the words in use replaced
replaced : (room n : ℕ) (xs ys : List ℕ) → length xs ≡ n → length ys ≡ n → ys ++ drop n (padded room xs) ≡ padded room ys
unfolding padded
replaced room n xs ys p q = rw (drop_at xs (zeros (room - length xs)) n p, p, q)

front : (room n : ℕ) (xs : List ℕ) → length xs ≡ n → take n (padded room xs) ≡ xs
unfolding padded
front room n xs p = take_at xs (zeros (room - length xs)) n p

module _ (s : List ℕ) (strings : Table) (before : List ℕ) where
  abbrev fault : ℕ
  fault = texts_fault s strings (length before)

  gives_refused : (why : Refusal) → refusal_number why ≡ fault → (after : List ℕ) → after ≡ zeros (length before)
      → GivesTexts s strings (Err why) before after
  gives_refused why e after z =
      record {
        number = e;
        covers = λ q. absurd (nonzero why q);
        keys = z ∙ (sym (padded_none (length before)) ∙ ap (padded (length before)) (rw (← e, numbered why)));
      }

  pub gives_large : is_too_large (length s) ≡ true → (after : List ℕ) → after ≡ zeros (length before)
      → GivesTexts s strings (Err r.FileTooLarge) before after
  unfolding texts_fault
  gives_large e after z = gives_refused r.FileTooLarge (rw e) after z

  module _ (small : is_too_large (length s) ≡ false) where
    pub gives_none : strings.size ≡ 0 → (after : List ℕ) → after ≡ zeros (length before) → GivesTexts s strings (Ok 0) before after
    unfolding texts_fault fault_from sorted text_keys_of
    gives_none e after z =
        let no : 0 ≡ fault = rw (small, le-ltb 0 strings.size (omega arith), e, le-ltb (length before) 0 (omega arith)) in
        record {
          number = no;
          covers = λ q. record { inside = omega arith; covers = λ i h. absurd (omega arith) };
          keys = z ∙ (sym (padded_none (length before)) ∙ ap (padded (length before)) (rw (← no, e)));
        }

    pub gives_outside : 0 < strings.size → length s < item strings.off string_id_size strings.size → (after : List ℕ) → after ≡ zeros (length before)
        → GivesTexts s strings (Err r.TableOutside) before after
    unfolding texts_fault
    gives_outside p h after z = gives_refused r.TableOutside (rw (small, lt-ltb _ _ p, lt-ltb _ _ h)) after z

    module _ (p : 0 < strings.size) (h : item strings.off string_id_size strings.size ≤ length s) where
      abbrev found : ℕ
      found = fault_from s strings.off strings.size 0

      strings_fault : fault ≡ or_fault found (cond (ltb (length before) strings.size) 4 0)
      unfolding texts_fault
      strings_fault = rw (small, lt-ltb _ _ p, le-ltb _ _ h)

      pub gives_fault : (why : Refusal) {x : (Result ℕ Refusal)} → x ≡ Err why → start_number x ≡ found → (after : List ℕ) → after ≡ zeros (length before)
          → GivesTexts s strings (Err why) before after
      gives_fault why q e after z =
          let same : refusal_number why ≡ found = sym (ap start_number q) ∙ e in
          gives_refused why (sym (strings_fault ∙ rw (← same, numbered why))) after z

      module _ (fine : found ≡ 0) where
        room_fault : fault ≡ cond (ltb (length before) strings.size) 4 0
        room_fault = strings_fault ∙ rw fine

        pub gives_finished : {last : ℕ} {x : (Result ℕ Refusal)} (mid after : List ℕ) → Bytes s
            → (strings.size ≤ length before → mid ≡ padded (length before) (text_keys_of s strings.off strings.size)) → length mid ≡ length before
            → last ≡ greatest_start s strings.off strings.size → Finished s last strings.size x mid after → GivesTexts s strings x before after
        gives_finished mid after bytes ks long e (short l q z) =
            subst (λ (y : Result ℕ Refusal). GivesTexts s strings y before after) (sym q)
            (gives_refused r.LentTooShort (sym (room_fault ∙ rw (lt-ltb (length before) strings.size (omega arith)))) after (z ∙ ap zeros long))
        gives_finished mid after bytes ks long e (whole a l q f w) =
            let keys = text_keys_of s strings.off strings.size in
            let n = length_text_keys s strings.off strings.size in
            let is : mid ≡ padded (length before) keys = ks (omega arith) in
            let none : fault ≡ 0 = room_fault ∙ rw (le-ltb (length before) strings.size (omega arith)) in
            let first : take strings.size mid ≡ keys = ap (take strings.size) is ∙ front (length before) strings.size keys n in
            let there : after ≡ padded (length before) (sorted keys) =
            w
            ∙ rw (first, is)
            (replaced (length before) strings.size keys (sorted keys) n (length_sorted keys ∙ n)) in
            subst (λ (y : Result ℕ Refusal). GivesTexts s strings y before after) (sym q)
            (record {
              number = sym none;
              covers = λ _. all_covered s strings.off strings.size a bytes fine (rw e at f);
              keys = rw none there;
            })
