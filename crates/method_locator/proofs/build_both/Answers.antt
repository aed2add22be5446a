-- Both builds are made; the first refusal counts.
-- Assumes nothing.
use Rattle.std.specs.Prelude.{Err}
use borrow.Author.Rules.{rules}
use mathlib.Core.Path.{◌≡◌}
use Rattle.groups.specs.declared.Width.TheVariants.{Two, Four}
use Rattle.groups.proofs.FileKeys.{key_first, key_at}
use Rattle.groups.proofs.Built.{by_key}
use Rattle.method_locator.proofs.Both.{both_done, clz_refused, name_refused}
use Rattle.method_locator.proofs.build_both.Goals as goal

pub returns-in_err-clz : goal.returns-in_err-clz
returns-in_err-clz c =
    let e : c.from_residual.result ≡ Err c.in_err-clz.field-0.0 = search rules in
    rw e (λ w z. clz_refused _ _ _ (by_key _ _ _ _ _ (key_first _ _ 8 Two) c.in_err-clz.ensures.gives) z)

pub returns-in_err-name : goal.returns-in_err-name
returns-in_err-name c =
    let e : c.from_residual-in_err-name.result ≡ Err c.in_err-name.field-0.0 = search rules in
    rw e (λ w z.
    name_refused _ _ _ _ (by_key _ _ _ _ _ (key_first _ _ 8 Two) c.in_ok-clz.ensures.gives)
    (by_key _ _ _ _ _ (key_at _ _ 8 4 Four) c.in_err-name.ensures.gives) z)

pub returns : goal.returns
returns c =
    both_done _ _ _ _ (by_key _ _ _ _ _ (key_first _ _ 8 Two) c.in_ok-clz.ensures.gives)
    (by_key _ _ _ _ _ (key_at _ _ 8 4 Four) c.in_ok-name.ensures.gives)
