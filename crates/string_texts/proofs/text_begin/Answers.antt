-- `text_begin` meets its contract: a text that begins before the last zero has an end, and none has that begins after it. `was` says that what
-- `text_start` answered is what `?` took apart.
-- Assumes nothing.
use Rattle.std.specs.Prelude.{Result, Ok, Err}
use Rattle.std.proofs.lemmas.Result.{err_from_is_err_and}
use Prim.Native.Nat.{ℕ}
use mathlib.Core.Path.{◌≡◌, subst}
use native.Mathlib.Omega.{arith}
use Rattle.refusal.specs.declared.Refusal.{Refusal}
use Rattle.string_data.specs.Text.{Found, text_at, after_length, string_text}
use Rattle.string_texts.specs.Steps.{Begins}
use Rattle.string_texts.proofs.Keys.{begin_refused, begin_at, begin_open}
use Rattle.string_texts.proofs.text_begin.Goals as goal

-- an equal number tells the same place
at_place : {f : Found} {x y : ℕ} → x ≡ y → Begins f (Ok x) → Begins f (Ok y)
at_place {f} e b = subst (λ (n : ℕ). Begins f (Ok n)) e b

pub returns-in_err-at : goal.returns-in_err-at
returns-in_err-at c =
    let p = err_from_is_err_and c.from_residual.result c.from_residual.ensures.1 in
    let a = c.args in
    let was : c.text_start.result ≡ Err c.in_err-at.field-0.0 = grind arith in
    rw (p.1, p.2)
    (subst (λ (r : Result ℕ Refusal). Begins (string_text a.file.now a.offset) r) was
    (begin_refused _ _ _ c.requires _ _ was c.text_start.ensures))

pub returns-then-at-zeros : goal.returns-then-at-zeros
returns-then-at-zeros c =
    let a = c.args in
    let was : c.text_start.result ≡ Ok c.in_ok-at.at = grind arith in
    at_place (grind arith)
    (begin_at _ _ _ c.requires c.in_ok-at.at
    (subst (λ (r : Result ℕ Refusal). text_at a.file.now r ≡ after_length 5 a.file.now a.offset) was c.text_start.ensures) (grind arith))

pub returns-else-at-zeros : goal.returns-else-at-zeros
returns-else-at-zeros c =
    let a = c.args in
    let was : c.text_start.result ≡ Ok c.in_ok-at.at = grind arith in
    begin_open _ _ _ c.requires c.in_ok-at.at
    (subst (λ (r : Result ℕ Refusal). text_at a.file.now r ≡ after_length 5 a.file.now a.offset) was c.text_start.ensures) (grind arith)
