use Rattle.std.specs.Prelude.{Some, Option}
use mathlib.Core.Path.{◌≡◌, sym, ap, ◌∙◌}
use mathlib.Core.List.{List}
use Prim.Native.Nat.{ℕ, ◌+◌, ◌-◌}
use native.Mathlib.Omega.{arith}
use Rattle.slot_listing.specs.Steps.{methods_of, count_of}
use Rattle.slot_listing.proofs.Chains.{earlier_word, last_word, share_outside, share_ends, share_back, share_goes, more, more_one}
use Rattle.slot_listing.proofs.chain_count.Goals as goal

pub returns-then-earlier-eq0 : goal.returns-then-earlier-eq0
returns-then-earlier-eq0 c =
    let ws = c.args.shares.now in
    let s = c.loop-at in
    let q : 2 + s.n ≡ s.n + 2 = omega arith in
    sym (s.invariant.0 ∙ ap (λ (r : Option (List ℕ)). more s.n (count_of r)) (share_ends ws s.at (omega arith) c.if-earlier-eq0.true) ∙ ap Some q)

pub returns-then-at-earlier : goal.returns-then-at-earlier
returns-then-at-earlier c =
    let ws = c.args.shares.now in
    let s = c.loop-at in
    sym (s.invariant.0 ∙ ap (λ (r : Option (List ℕ)). more s.n (count_of r)) (share_back ws s.at (omega arith) (omega arith)))

pub loop-at-preserved : goal.loop-at-preserved
loop-at-preserved c =
    let ws = c.args.shares.now in
    let s = c.loop-at in
    let e = earlier_word ws s.at in (
      s.invariant.0 ∙ ap (λ (r : Option (List ℕ)). more s.n (count_of r)) (share_goes ws s.at (omega arith) (omega arith) (omega arith)) ∙ more_one
          s.n (methods_of ws (e - 1)) (last_word ws s.at),
      omega arith,
      s.invariant.2,
    )

pub returns : goal.returns
returns c =
    let ws = c.args.shares.now in
    let s = c.loop-at in
    sym (s.invariant.0 ∙ ap (λ (r : Option (List ℕ)). more s.n (count_of r)) (share_outside ws s.at (omega arith)))
