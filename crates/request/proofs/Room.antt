-- How many words a request takes: 16 hold the indices of any, since its line has at most 16, and more words never turn a request into a
-- refusal.
-- Assumes nothing.
use Rattle.std.specs.Prelude.{Option, Some, None, option_map, option_and_then}
use Prim.Native.Nat.{ℕ, zero, suc, ◌≤◌}
use native.Mathlib.Omega.{arith}
use mathlib.Core.Path.{◌≡◌, refl}
use mathlib.Core.Logic.{⊎_elim}
use mathlib.Core.List.{List}
use mathlib.Core.Bool.{Bool, true, false, cond}
use lib.ListN.{length}
use lib.Dec.{leb, eqb}
use borrow.Author.Tests.{le-leb, leb-true}
use Rattle.words.proofs.Shared.{case}
use Rattle.text_in.specs.declared.Number.{Number}
use Rattle.text_in.specs.Numbers.{number_at}
use Rattle.text_in.specs.Words.{word_at, line_end}
use Rattle.request.specs.Lines.{comma, kind_line}
use Rattle.request.specs.Request.{header_lines, Listed, cons_to, with_more, indices_at, index=, index_line, Said, to_the_end, said_by}
use Rattle.request.specs.Request.{fitted, request_of}

-- what is read, if anything is, keeps P
abbrev Kept : {A : Type 0} → (A → Type 0) → Option A → Type 0
Kept P None = Unit {0}
Kept P (Some x) = P x

kept : {A B : Type 0} (P : B → Type 0) (o : Option A) (f : A → Option B) → ((x : A) → Kept P (f x)) → Kept P (option_and_then f o)
kept P None f h = tt
kept P (Some x) f h = h x

-- at most that many
abbrev Few : ℕ → Listed → Type 0
Few m l = length l.list ≤ m

few_more : (m : ℕ) (v : Number) (more : ℕ → Option Listed) (o : Option ℕ) → ((j : ℕ) → Kept (Few m) (more j)) → Kept (Few (suc m)) (with_more v more o)
few_more m v more None f = omega arith
few_more m v more (Some j) f = few_cons (more j) (f j)
  where
    few_cons : (r : Option Listed) → Kept (Few m) r → Kept (Few (suc m)) (option_map (cons_to v.value) r)
    few_cons None h = tt
    few_cons (Some l) h = omega arith

few_indices : (m : ℕ) (s : List ℕ) (i : ℕ) → Kept (Few m) (indices_at m s i)
unfolding indices_at
few_indices zero s i = tt
few_indices (suc m) s i =
    kept (Few (suc m)) (number_at s i) _ (λ v. few_more m v (indices_at m s) (word_at comma s v.next) (few_indices m s))

few_line : (s : List ℕ) (i : ℕ) → Kept (Few 16) (index_line s i)
unfolding index_line
few_line s i = kept (Few 16) (word_at index= s i) _ (λ a. few_ended (indices_at 16 s a) (few_indices 16 s a))
  where
    few_ended : (o : Option Listed) → Kept (Few 16) o
        → Kept (Few 16) (option_and_then (λ (l : Listed). option_and_then (λ (c : ℕ). Some (record { list = l.list; next = c })) (line_end s l.next)) o)
    few_ended None h = tt
    few_ended (Some l) h = kept (Few 16) (line_end s l.next) _ (λ c. h)

-- the same of a whole request
abbrev FewSaid : Said → Type 0
FewSaid x = length x.indices ≤ 16

few_said : (s : List ℕ) → Kept FewSaid (said_by s)
unfolding said_by
few_said s =
    kept FewSaid (header_lines s) _ (λ d. kept FewSaid (kind_line s d.next) _ (λ k. few_end d.header k.value (index_line s k.next) (few_line s k.next)))
  where
    few_end : (d : _) (k : ℕ) (o : Option Listed) → Kept (Few 16) o → Kept FewSaid (option_and_then (λ (l : Listed). to_the_end s d k l) o)
    few_end d k None h = tt
    few_end d k (Some l) h = few_cond (eqb l.next (length s))
      where
        few_cond : (b : Bool) → Kept FewSaid (cond b (Some (record { header = d; kind = k; indices = l.list })) None)
        few_cond true = h
        few_cond false = tt

suffice : (room : ℕ) (o : Option Said) → 16 ≤ room → Kept FewSaid o → (fitted room o).number ≡ 4 → ⊥
suffice room (Some x) h f e =
    let z : ◌≡◌ {A = ℕ} 0 4 = rw (le-leb (length x.indices) room (omega arith)) at e in
    omega arith
suffice room None h f e = omega arith

pub sixteen_suffice : (s : List ℕ) (room : ℕ) → 16 ≤ room → (request_of s room).number ≡ 4 → ⊥
unfolding request_of
sixteen_suffice s room h e = suffice room (said_by s) h (few_said s) e

more : (a b : ℕ) (o : Option Said) → a ≤ b → (fitted a o).number ≡ 0 → fitted b o ≡ fitted a o
more a b None h e = refl
more a b (Some x) h e =
    ⊎_elim
    (λ t. let l : length x.indices ≤ a = leb-true (length x.indices) a t in rw (le-leb (length x.indices) a l, le-leb (length x.indices) b (omega arith)))
    (λ t. let z : ◌≡◌ {A = ℕ} 4 0 = rw t at e in absurd (omega arith))
    (case (leb (length x.indices) a))

pub more_room : (s : List ℕ) (a b : ℕ) → a ≤ b → (request_of s a).number ≡ 0 → request_of s b ≡ request_of s a
unfolding request_of
more_room s a b h e = more a b (said_by s) h e
