-- `walk_fitting` meets its contract: the words are cleared first, so that the stores of a walk are its list and zeros after it.
-- Assumes nothing.
use Rattle.std.specs.Prelude.{Err}
use borrow.Author.Rules.{rules}
use Rattle.class_data.proofs.Kept.{seen_found, seen_refused}
use Rattle.class_data.proofs.Gives.{codes_large, codes_short, codes_over, codes_no, fit_all, fit_refused}
use Rattle.class_data.specs.Stored.{code_words}
use Rattle.refusal.specs.Refusals.{is_too_large}
use Rattle.words.proofs.Shared.{met}
use Rattle.start_words.specs.Starts.{pair_count}
use lib.ListN.{length}
use mathlib.Core.Bool.{false}
use mathlib.Core.Path.{◌≡◌}
use native.Mathlib.Omega.{arith}
use Prim.Native.Nat.{◌≤◌}
use Rattle.class_data.proofs.walk_fitting.Goals as goal

pub returns-then-too_large : goal.returns-then-too_large
returns-then-too_large c = fit_refused _ _ _ _ (codes_large _ _ (code_words c.args.triples.now c.args.starts.now) (met c.too_large.ensures c.if-too_large.true))

pub returns-then-count-header : goal.returns-then-count-header
returns-then-count-header c =
    fit_refused _ _ _ _
    (codes_short _ _ (code_words c.args.triples.now c.args.starts.now) (met c.too_large.ensures c.if-too_large.false)
    (omega (arith, c.if-count-header.true, c.count.ensures)))

pub returns-then-triples-found : goal.returns-then-triples-found
returns-then-triples-found c =
    let small : is_too_large (length c.args.buf.now) ≡ false = met c.too_large.ensures c.if-too_large.false in
    let enough : c.args.header.methods.size ≤ pair_count c.args.starts.now = omega (arith, c.if-count-header.false, c.count.ensures) in
    fit_refused _ _ _ _
    (codes_over _ _ (code_words c.args.triples.now c.args.starts.now) small enough
    _ (seen_found _ _ _ c.walk.ensures _ c.in_ok-found.was)
    (omega arith))

pub returns-in_err-found : goal.returns-in_err-found
returns-in_err-found c =
    let small : is_too_large (length c.args.buf.now) ≡ false = met c.too_large.ensures c.if-too_large.false in
    let enough : c.args.header.methods.size ≤ pair_count c.args.starts.now = omega (arith, c.if-count-header.false, c.count.ensures) in
    let e : c.from_residual.result ≡ Err c.in_err-found.field-0.0 = search rules in
    rw e (fit_refused _ _ _ _
    (codes_no _ _ (code_words c.args.triples.now c.args.starts.now) small enough
    _ (seen_refused _ _ _ c.walk.ensures _ c.in_err-found.was)))

pub returns : goal.returns
returns c =
    let small : is_too_large (length c.args.buf.now) ≡ false = met c.too_large.ensures c.if-too_large.false in
    let enough : c.args.header.methods.size ≤ pair_count c.args.starts.now = omega (arith, c.if-count-header.false, c.count.ensures) in
    fit_all _ _ (code_words c.args.triples.now c.args.starts.now) small enough
    _ (seen_found _ _ _ c.walk.ensures _ c.in_ok-found.was)
    (record { triples = c.clear.ensures; starts = c.clear-2.ensures })
    (omega arith)
