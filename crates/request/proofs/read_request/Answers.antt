-- `read_request` answers what the definition does: the lines are read first, and the words lent are counted after them.
-- Assumes nothing.
use Rattle.std.proofs.Common.{arith, refl}
use Rattle.refusal.specs.declared.Refusal.TheVariants.{LentTooShort, BadRequest}
use Rattle.request.specs.Request.{request_of}
use Rattle.request.proofs.Whole.{malformed, more_indices, says_asked, says_refused}
use Rattle.request.proofs.read_request.Goals as goal

pub returns-in_default : goal.returns-in_default
unfolding request_of
returns-in_default c =
    says_refused BadRequest (malformed _ _ _ _ (rw c.in_default.is at c.read_lines.ensures)) (omega arith) c.refuse.ensures

pub returns-then-wanted-request : goal.returns-then-wanted-request
unfolding request_of
returns-then-wanted-request c =
    says_refused LentTooShort
    (more_indices _ _ _ _ _ (rw c.in-Some.is at c.read_lines.ensures) (omega (arith, c.if-wanted-request.true)))
    (omega arith) c.refuse-then-wanted-request.ensures

pub returns : goal.returns
unfolding request_of
returns c =
    says_asked _ _ (rw c.in-Some.is at c.read_lines.ensures) (omega arith) c.clear.ensures _ refl
