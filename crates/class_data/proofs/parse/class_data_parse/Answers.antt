-- `class_data_parse` meets its contract: the virtual methods go on from what the direct methods left.
-- Assumes nothing.
use Rattle.std.specs.Prelude.{Err}
use borrow.Author.Rules.{rules}
use mathlib.Core.Path.{◌≡◌}
use Rattle.class_data.proofs.OneItem.{methods_first, methods_second, class_no, class_at}
use Rattle.class_data.proofs.Kept.{refused_seen, refused_stored, seen_found, seen_refused, turn}
use Rattle.class_data.proofs.Parts.{class_refused}
use Rattle.class_data.proofs.Within.{first_inside}
use Rattle.class_data.proofs.parse.class_data_parse.Goals as goal

pub encoded_methods-requires : goal.encoded_methods-requires
encoded_methods-requires c = methods_first _ _ _ c.requires (first_inside _ _ _ c.in_ok-found.ensures)

pub encoded_methods-requires-2 : goal.encoded_methods-requires-2
encoded_methods-requires-2 c =
    methods_second _ _ (turn _ _ _) c.requires (first_inside _ _ _ c.in_ok-found.ensures)
    (seen_found _ _ _ c.encoded_methods.ensures _ c.in_ok-direct.was)

pub returns-in_err-found : goal.returns-in_err-found
returns-in_err-found c =
    let e : c.from_residual.result ≡ Err c.in_err-found.field-0.0 = search rules in
    rw e (refused_seen _ _ _ (refused_stored _ _ _ (class_refused _ _ _ c.in_err-found.ensures)))

pub returns-in_err-direct : goal.returns-in_err-direct
returns-in_err-direct c =
    let e : c.from_residual-in_err-direct.result ≡ Err c.in_err-direct.field-0.0 = search rules in
    rw e (refused_seen _ _ _
    (class_no _ _ _ c.in_ok-found.ensures _ (seen_refused _ _ _ c.encoded_methods.ensures _ c.in_err-direct.was)))

pub returns : goal.returns
returns c =
    class_at _ _ _ c.in_ok-found.ensures _
    (seen_found _ _ _ c.encoded_methods.ensures _ c.in_ok-direct.was) c.encoded_methods-2.ensures
