-- Why the walk over a file's class data refuses: each way out of its definition is a number's, a class definition's, a method index's or a code
-- item's.
--     WalkReason     these refusals
--     codes_reason   the walk has no others
--     never          so it is refused by no other number, as 4, 12 or 15
-- Assumes nothing.
use Rattle.std.specs.Prelude.{Option, None, Some, Result, Ok, Err}
use Prim.Native.Nat.{ℕ, zero, suc, ◌+◌}
use mathlib.Core.Path.{◌≡◌, refl, ap, ◌∙◌}
use mathlib.Core.Logic.{◌≢◌}
use mathlib.Core.Bool.{Bool, false, ◌&&◌, ◌||◌, true≢false}
use mathlib.Core.List.{List, [], ◌∷◌}
use lib.ListN.{length}
use lib.Dec.{ltb, leb, eqb}
use Rattle.words.proofs.Shared.{cond_elim}
use Rattle.refusal.specs.Refusals.{refusal_number}
use Rattle.refusal.specs.declared.Refusal.{Refusal}
use Rattle.refusal.specs.declared.Refusal.TheVariants.{TableOutside, MethodIndex, CodeOutside}
use Rattle.tinydex.specs.declared.DexHeader.{DexHeader}
use Rattle.dalvik.specs.CodeItem.{Code}
use Rattle.dalvik.specs.MapList.{map_size, map_offset}
use Rattle.dalvik.specs.ClassData.{class_def_size, class_data_off}
use Rattle.leb128.specs.Leb.{uleb_fast, on_uleb}
use Rattle.leb128.specs.declared.Uleb.{Uleb}
use Rattle.leb128.proofs.Published.{Reason, fast_reason}
use Rattle.leb128.proofs.Published.Reason.{outside, too_long}
use Rattle.class_data.specs.Walk.{Walk, following, and_on, word, most_methods, code_at, code_inside, with_method, methods_from, class_data_at}
use Rattle.class_data.specs.Walk.Walk.{refused, found}
use Rattle.class_data.specs.Codes.{successive, defined, map_entry, by_entry, codes_of}
use Rattle.class_data.proofs.Within.{class_any}

pub data WalkReason : Refusal → Type 0 where
  number : {r : Refusal} → Reason r → WalkReason r
  class_definition : WalkReason TableOutside
  method_index : WalkReason MethodIndex
  code_item : WalkReason CodeOutside

-- the number of one of these refusals
abbrev pub is_reason : ℕ → Bool
is_reason n = eqb n 6 || eqb n 16 || eqb n 3 || eqb n 7 || eqb n 8

-- no other number is one: `never 4 refl`
pub never : (n : ℕ) → is_reason n ≡ false → {r : Refusal} → WalkReason r → refusal_number r ≢ n
never n other (number outside) q = true≢false (ap is_reason q ∙ other)
never n other (number too_long) q = true≢false (ap is_reason q ∙ other)
never n other class_definition q = true≢false (ap is_reason q ∙ other)
never n other method_index q = true≢false (ap is_reason q ∙ other)
never n other code_item q = true≢false (ap is_reason q ∙ other)

-- ---- each way out of the walk
abbrev pub Reasoned : Walk → Type 0
Reasoned (refused r) = WalkReason r
Reasoned (found cs e) = Unit {0}

by_number : (r : Result Uleb Refusal) (f : ℕ → ℕ → Walk) → ((y : Refusal) → Err y ≡ r → Reason y) → ((v n : ℕ) → Reasoned (f v n))
    → Reasoned (on_uleb r (λ y. refused y) f)
by_number (Ok n) f a g = g n.value n.len
by_number (Err y) f a g = number (a y refl)

reads : (s : List ℕ) (i : ℕ) (f : ℕ → ℕ → Walk) → ((v n : ℕ) → Reasoned (f v n)) → Reasoned (on_uleb (uleb_fast s i) (λ y. refused y) f)
reads s i f g = by_number (uleb_fast s i) f (fast_reason s i) g

following_reason : (cs : List Code) (w : Walk) → Reasoned w → Reasoned (following cs w)
following_reason cs (refused r) n = n
following_reason cs (found ds e) n = tt

on_reason : (w : Walk) (f : ℕ → Walk) → Reasoned w → ((e : ℕ) → Reasoned (f e)) → Reasoned (and_on w f)
on_reason (refused r) f n g = n
on_reason (found cs e) f n g = following_reason cs (f e) (g e)

module _ (s : List ℕ) (m : ℕ) where
  method_reason : (i c : ℕ) (rest : Walk) → Reasoned rest → Reasoned (with_method s m i c rest)
  method_reason i c rest n =
      cond_elim Reasoned (eqb c 0) rest _ (λ _. n)
      (λ _. cond_elim Reasoned (ltb i m && ltb i most_methods) _ (refused MethodIndex)
      (λ _. cond_elim Reasoned (code_inside s c) (following (code_at s i c ∷ []) rest) (refused CodeOutside)
      (λ _. following_reason (code_at s i c ∷ []) rest n) (λ _. code_item))
      (λ _. method_index))

  methods_reason : (n i j : ℕ) → Reasoned (methods_from n s m i j)
  unfolding methods_from
  methods_reason zero i j = tt
  methods_reason (suc n) i j =
      reads s i _ (λ d x.
      cond_elim Reasoned (ltb (j + d) word) _ (refused MethodIndex)
      (λ _. reads s (i + x) _ (λ _ y. reads s (i + x + y) _ (λ o z.
      method_reason (j + d) o _ (methods_reason n (i + x + y + z) (j + d)))))
      (λ _. method_index))

  class_reason : (i : ℕ) → Reasoned (class_data_at s m i)
  class_reason i =
      class_any s m i Reasoned (λ y e. number e) (λ directs virtuals p.
      on_reason (methods_from directs s m p 0) _ (methods_reason directs p 0) (λ f. methods_reason virtuals f 0))

  successive_reason : (n i : ℕ) → Reasoned (successive n s m i)
  unfolding successive
  successive_reason zero i = tt
  successive_reason (suc n) i = on_reason (class_data_at s m i) _ (class_reason i) (λ e. successive_reason n e)

  defined_reason : (n i : ℕ) → Reasoned (defined n s m i)
  unfolding defined
  defined_reason zero i = tt
  defined_reason (suc n) i =
      cond_elim Reasoned (leb (i + 28) (length s)) _ (refused TableOutside)
      (λ _. cond_elim Reasoned (eqb (class_data_off s i) 0) (defined n s m (i + class_def_size)) _ (λ _. defined_reason n (i + class_def_size))
      (λ _. on_reason (class_data_at s m (class_data_off s i)) _ (class_reason (class_data_off s i)) (λ e. defined_reason n (i + class_def_size))))
      (λ _. class_definition)

entry_reason : (s : List ℕ) (h : DexHeader) (r : Option ℕ) → Reasoned (by_entry s h r)
entry_reason s h None = defined_reason s h.methods.size h.classes.size h.classes.off
entry_reason s h (Some e) = successive_reason s h.methods.size (map_size s e) (map_offset s e)

pub codes_reason : (s : List ℕ) (h : DexHeader) → Reasoned (codes_of s h)
unfolding codes_of
codes_reason s h = entry_reason s h (map_entry s h.mapoff)
