-- What a walk leaves in lent words: a walk and then another store one list after the other, so that each step goes on from what the
-- one before it left.
-- Assumes nothing.
use Rattle.std.specs.Prelude.{Result, Ok, Err}
use Prim.Native.Nat.{ℕ, suc, ◌+◌, ◌*◌}
use native.Mathlib.Omega.{arith}
use native.Mathlib.Nat.{add-zero}
use mathlib.Core.Path.{◌≡◌, refl, sym, ap, ◌∙◌}
use mathlib.Core.List.{List, [], ◌∷◌, ◌++◌}
use lib.ListN.{length, set, length-append}
use lib.Seq.{sets}
use Rattle.dalvik.specs.CodeItem.{Code}
use Rattle.refusal.specs.declared.Refusal.{Refusal}
use Rattle.class_data.specs.Walk.{Walk, following, and_on}
use Rattle.class_data.specs.Walk.Walk.{refused, found}
use Rattle.class_data.specs.Stored.{CodeWords, code_words, triples_of, starts_from}
use Rattle.class_data.specs.Steps.{Kept, kept, more, Left, stored, seen}
use Rattle.class_data.specs.Steps.Left.{refusal, left}
use Rattle.class_data.specs.declared.parse.Walked.{Walked}

-- three words for each code
pub length_triples : (cs : List Code) → length (triples_of cs) ≡ 3 * length cs
unfolding triples_of
length_triples [] = refl
length_triples (c ∷ cs) = omega (arith, length_triples cs)

-- ---- two lists stored one after the other
sets_append : (l : List ℕ) (i : ℕ) (xs ys : List ℕ) → sets l i (xs ++ ys) ≡ sets (sets l i xs) (i + length xs) ys
sets_append l i [] ys = ap (λ (k : ℕ). sets l k ys) (sym (add-zero i))
sets_append l i (x ∷ xs) ys =
    let e : suc i + length xs ≡ i + suc (length xs) = omega arith in
    sets_append (set l i x) (suc i) xs ys ∙ ap (λ (k : ℕ). sets (sets (set l i x) (suc i) xs) k ys) e

triples_append : (xs ys : List Code) → triples_of (xs ++ ys) ≡ triples_of xs ++ triples_of ys
unfolding triples_of
triples_append [] ys = refl
triples_append (c ∷ xs) ys = rw (triples_append xs ys)

starts_append : (zs : List ℕ) (xs ys : List Code) → starts_from zs (xs ++ ys) ≡ starts_from (starts_from zs xs) ys
starts_append zs [] ys = refl
starts_append zs (c ∷ xs) ys = starts_append (starts_from zs (c ∷ [])) xs ys

pub stored_following : (x : Kept) (cs : List Code) (v : Walk) → stored (more x cs) v ≡ stored x (following cs v)
unfolding stored
stored_following x cs (refused r) = refl
stored_following x cs (found ds e) =
    let k : ℕ = x.count in
    let ts : List ℕ = x.words.triples in
    let zs : List ℕ = x.words.starts in
    let n : k + length cs + length ds ≡ k + length (cs ++ ds) = omega (arith, length-append cs ds) in
    let i : 3 * (k + length cs) ≡ 3 * k + length (triples_of cs) = omega (arith, length_triples cs) in
    let t : sets (sets ts (3 * k) (triples_of cs)) (3 * (k + length cs)) (triples_of ds) ≡ sets ts (3 * k) (triples_of (cs ++ ds))
    = rw i (sym (sets_append ts (3 * k) (triples_of cs) (triples_of ds)) ∙ ap (sets ts (3 * k)) (sym (triples_append cs ds))) in
    let z : starts_from (starts_from zs cs) ds ≡ starts_from zs (cs ++ ds) = sym (starts_append zs cs ds) in
    λ j. left e (kept (n j) (code_words (t j) (z j)))

pub stored_none : (x : Kept) (e : ℕ) → left e x ≡ stored x (found [] e)
unfolding stored triples_of
stored_none x e = ap (λ (n : ℕ). left e (kept n x.words)) (sym (add-zero x.count))

-- what stands after a walk goes on from what the walk left
pub stored_on : (x : Kept) (v : Walk) (f : ℕ → Walk) (e : ℕ) (y : Kept) → left e y ≡ stored x v → stored y (f e) ≡ stored x (and_on v f)
unfolding stored
stored_on x (refused r) f e y q = absurd (let z : ◌≡◌ {A = ℕ} 0 1 = cc in omega arith)
stored_on x (found cs i) f e y q =
    let a : e ≡ i = cc in
    let b : y ≡ more x cs = cc in
    (λ j. stored (b j) (f (a j))) ∙ stored_following x cs (f i)

pub stored_refused : (x : Kept) (v : Walk) (r : Refusal) → refusal r ≡ stored x v → refused r ≡ v
unfolding stored
stored_refused x (refused y) r q = cc
stored_refused x (found cs e) r q = absurd (let z : ◌≡◌ {A = ℕ} 0 1 = cc in omega arith)

pub refused_stored : (x : Kept) (v : Walk) (r : Refusal) → refused r ≡ v → refusal r ≡ stored x v
unfolding stored
refused_stored x v r q = rw (← q)

-- a walk that left something has found something
pub record LeftBy (x : Kept) (v : Walk) (e : ℕ) (y : Kept) : Type 0 where
  pub codes : List Code
  pub walk : found codes e ≡ v
  pub is : y ≡ more x codes
  pub count : y.count ≡ x.count + length codes

pub left_by : (x : Kept) (v : Walk) (e : ℕ) (y : Kept) → left e y ≡ stored x v → LeftBy x v e y
unfolding stored
left_by x (refused r) e y q = absurd (let z : ◌≡◌ {A = ℕ} 0 1 = cc in omega arith)
left_by x (found cs i) e y q =
    let b : y ≡ more x cs = cc in
    record { codes = cs; walk = (cc); is = b; count = ap (λ (z : Kept). z.count) b }

-- ---- an answer's case
module _ (v : Result Walked Refusal) (ws : CodeWords) (d : Left) (e : seen v ws ≡ d) where
  pub seen_found : (x : Walked) → v ≡ Ok x → left x.next (kept x.count ws) ≡ d
  unfolding seen
  seen_found x q = rw q at e

  pub seen_refused : (r : Refusal) → v ≡ Err r → refusal r ≡ d
  unfolding seen
  seen_refused r q = rw q at e

module _ (ws : CodeWords) (d : Left) where
  pub found_seen : (i k : ℕ) → left i (kept k ws) ≡ d → seen (Ok (record { next = i; count = k })) ws ≡ d
  unfolding seen
  found_seen i k e = e

  pub refused_seen : (r : Refusal) → refusal r ≡ d → seen (Err r) ws ≡ d
  unfolding seen
  refused_seen r e = e

-- ---- a loop: how many are left, the next offset, and what is stored so far
pub record Turn : Type 0 where
  pub togo : ℕ
  pub pos : ℕ
  pub held : Kept

abbrev pub turn : ℕ → ℕ → Kept → Turn
turn togo pos held = record { togo = togo; pos = pos; held = held }

-- the lent words keep their lengths
pub record SameLengths (before after : CodeWords) : Type 0 where
  pub triples : length after.triples ≡ length before.triples
  pub starts : length after.starts ≡ length before.starts

pub same_on : {a b c : CodeWords} → SameLengths a b → SameLengths b c → SameLengths a c
same_on p q = record { triples = q.triples ∙ p.triples; starts = q.starts ∙ p.starts }
