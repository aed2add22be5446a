-- `text_keys` meets its contract: each way out is one of the definition's, and the words were cleared before any.
-- Assumes nothing.
use Prim.Native.Nat.{ℕ}
use native.Mathlib.Omega.{arith}
use mathlib.Core.Path.{◌≡◌, refl, sym, ap, ◌∙◌}
use lib.ListN.{length, length-replicate}
use Rattle.words.specs.Padded.{zeros, padded}
use Rattle.string_texts.specs.Texts.{text_keys_of}
use Rattle.string_texts.proofs.Whole.{gives_large, gives_none, gives_outside, gives_fault, gives_finished}
use Rattle.string_texts.proofs.text_keys.Goals as goal

pub returns-then-too_large : goal.returns-then-too_large
returns-then-too_large c = record { gives = gives_large _ _ _ (sym c.too_large.ensures ∙ c.if-too_large.true) _ c.clear.ensures }

pub returns-then-n-eq0 : goal.returns-then-n-eq0
returns-then-n-eq0 c = record { gives = gives_none _ _ _ (sym c.too_large.ensures ∙ c.if-too_large.false) c.if-n-eq0.true _ c.clear.ensures }

pub returns-then-file-end : goal.returns-then-file-end
returns-then-file-end c =
    record {
      gives = gives_outside _ _ _ (sym c.too_large.ensures ∙ c.if-too_large.false) (omega arith) (omega (arith, c.end.ensures)) _ c.clear.ensures;
    }

pub returns : goal.returns
returns c =
    let put = c.in-Ok.ensures in
    let cleared = c.clear.ensures in
    let same : length c.clear.new.w ≡ length c.args.keys.now = ap length cleared ∙ length-replicate {A = ℕ} _ 0 in
    record {
      gives = gives_finished _ _ _ (sym c.too_large.ensures ∙ c.if-too_large.false) (omega arith) (omega (arith, c.end.ensures)) (sym put.number)
          _ _ (λ i. omega (arith, c.type_inv.file i))
          (λ k. put.words refl (omega (arith, same)) (cleared ∙ ap zeros (sym same)) ∙ ap (λ (m : ℕ). padded m (text_keys_of c.args.file.now c.args.strings.off c.args.strings.size)) same) (put.long ∙ same) (put.last refl) c.finish.ensures;
    }

pub returns-in_default : goal.returns-in_default
returns-in_default c =
    let same : length c.clear.new.w ≡ length c.args.keys.now = ap length c.clear.ensures ∙ length-replicate {A = ℕ} _ 0 in
    rw c.in_default.is
    (record {
      gives = gives_fault _ _ _ (sym c.too_large.ensures ∙ c.if-too_large.false) (omega arith) (omega (arith, c.end.ensures)) _ refl
          c.in_default.ensures.number _ (c.clear-in_default.ensures ∙ ap zeros (c.in_default.ensures.long ∙ same));
    })
