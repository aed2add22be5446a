-- `encoded_method` meets its contract: what was read of the method says what is left to walk, and the store keeps its code.
-- Assumes nothing.
use Rattle.std.specs.Prelude.{None, Err}
use borrow.Author.Rules.{rules}
use mathlib.Core.Path.{◌≡◌}
use Rattle.class_data.proofs.Parts.{bare_told, coded_told, refused_told}
use Rattle.class_data.proofs.Steps.{store_pre, step_refused, step_bare, step_coded}
use Rattle.class_data.proofs.parse.encoded_method.Goals as goal

pub store-requires : goal.store-requires
store-requires c = store_pre _ c.requires (coded_told _ _ _ _ _ c.method_code.ensures c.in_ok-method.was c.in-Some.is)

pub returns-in_err-method : goal.returns-in_err-method
returns-in_err-method c =
    let e : c.from_residual.result ≡ Err c.in_err-method.field-0.0 = search rules in
    rw e (step_refused _ _ _ _ _ (refused_told _ _ _ _ _ c.method_code.ensures c.in_err-method.was))

pub returns-in_default : goal.returns-in_default
returns-in_default c =
    let none : c.in_ok-method.method.code ≡ None = search rules in
    step_bare _ _ _ _ (bare_told _ _ _ _ _ c.method_code.ensures c.in_ok-method.was none)

pub returns : goal.returns
returns c =
    step_coded _ _ _ _ (coded_told _ _ _ _ _ c.method_code.ensures c.in_ok-method.was c.in-Some.is) c.store.ensures
