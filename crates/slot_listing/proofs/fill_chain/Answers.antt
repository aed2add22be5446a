use Rattle.std.specs.Prelude.{Some}
use mathlib.Core.Path.{◌≡◌, refl, sym, ap, ◌∙◌}
use mathlib.Core.List.{List, [], ◌∷◌, ◌++◌, append_assoc}
use Prim.Native.Nat.{ℕ, suc, ◌+◌, ◌-◌, ◌≤◌, ◌<◌}
use lib.ListN.{length, drop, set, length-set, length-append}
use native.Mathlib.Numerals.{add-one}
use native.Mathlib.Omega.{arith}
use lib.Seq.{drop-cons, get_or-set_same, drop-set-lt}
use Rattle.slot_listing.specs.Steps.{methods_of, list_by}
use Rattle.slot_listing.proofs.Chains.{first_word, last_word, earlier_word, list_inside, list_goes, list_ends, two_of, count_some}
use Rattle.slot_listing.proofs.fill_chain.Invariants.{Place, place, Left}
use Rattle.slot_listing.proofs.fill_chain.Goals as goal

-- the word put at i, and those after it
drop-put : (out : List ℕ) (i x : ℕ) → i < length out → drop i (set out i x) ≡ x ∷ drop (i + 1) out
drop-put out i x h =
    let l : i < length (set out i x) = simp length-set h in
    let b : i < suc i = omega arith in
    rw (drop-cons (set out i x) i 0 l, get_or-set_same out i x 0 h, drop-set-lt (suc i) out i x b, add-one)

first_two : (out : List ℕ) (a b : ℕ) → 2 ≤ length out → set (set out 0 a) 1 b ≡ (a ∷ b ∷ []) ++ drop 2 out
first_two [] a b h = absurd (omega arith)
first_two (x ∷ []) a b h = absurd (omega arith)
first_two (x ∷ y ∷ zs) a b h = refl

-- while more than two words are left the share goes on with an earlier one; then there are two, the methods of the share itself
left_at : {ws : List ℕ} {k n : ℕ} {out₀ : List ℕ} (p : Place) → methods_of ws p.at ≡ Some (list_by (methods_of ws p.at))
    → length (list_by (methods_of ws p.at)) ≡ p.left
    → list_by (methods_of ws p.at) ++ drop p.left p.out ≡ list_by (methods_of ws k) ++ drop n out₀
    → p.left ≤ n
    → length p.out ≡ length out₀
    → Left ws k n out₀ p
left_at p has count whole fewer long = record {
  has = has;
  count = count;
  whole = whole;
  two = omega (arith, two_of _ _ _ has);
  fewer = fewer;
  long = long;
  inside = list_inside _ _ _ has;
  back = λ h. let g = list_goes _ _ _ has (omega arith) in (g.some_earlier, g.earlier);
}

-- one method written: the last of the share's list
step : {ws : List ℕ} {k n : ℕ} {out₀ : List ℕ} (out : List ℕ) (at j : ℕ) → Left ws k n out₀ (place out at j) → 2 < j → j ≤ length out
    → Left ws k n out₀ (place (set out (j - 1) (last_word ws at)) (earlier_word ws at - 1) (j - 1))
step {ws} out at j s h b =
    let g = list_goes _ _ _ s.has (omega (arith, s.count)) in
    let x = last_word ws at in
    let r = list_by (methods_of ws (earlier_word ws at - 1)) in
    let q : r ≡ g.rest = ap list_by g.rest_is in
    let i : j - 1 + 1 ≡ j = omega arith in
    left_at _ (g.rest_is ∙ ap Some (sym q)) (omega (arith, s.count, ap length q, simp length-append at (ap length g.list)))
    (ap (λ (l : List ℕ). r ++ l) (drop-put out (j - 1) x (omega arith) ∙ ap (λ (m : ℕ). x ∷ drop m out) i)
    ∙ ap (λ (l : List ℕ). l ++ (x ∷ drop j out)) q
    ∙ sym (append_assoc g.rest (x ∷ []) (drop j out))
    ∙ ap (λ (l : List ℕ). l ++ drop j out) (sym g.list)
    ∙ s.whole)
    (omega arith) (length-set out (j - 1) x ∙ s.long)

pub loop-i-init : goal.loop-i-init
loop-i-init c =
    let g = count_some (methods_of c.args.shares.now c.args.k) c.args.n c.requires.k_value in
    left_at _ g.0 g.1 refl (omega arith) refl

pub loop-i-preserved : goal.loop-i-preserved
loop-i-preserved c =
    let s = c.loop-i in
    step s.methods s.at s.i s.invariant c.loop-i-test.true (omega arith)

pub returns : goal.returns
returns c =
    let ws = c.args.shares.now in
    let s = c.loop-i in
    let has = s.invariant.has in
    let t : s.i ≡ 2 = omega arith in
    let e = list_ends _ _ _ has (omega (arith, s.invariant.count)) in
    let w = s.invariant.whole in
    first_two s.methods (first_word ws s.at) (last_word ws s.at) (omega arith) ∙ rw (e.list, t) at w
