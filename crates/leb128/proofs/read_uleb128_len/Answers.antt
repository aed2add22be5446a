-- `read_uleb128_len` meets its contract: the length is that of the number, and the refusal that of its reader.
-- Assumes nothing.
use Rattle.std.specs.Prelude.{Ok}
use borrow.Author.Rules.{rules}
use native.Mathlib.Omega.{arith}
use Rattle.leb128.proofs.Published.{len}
use Rattle.leb128.proofs.read_uleb128_len.Goals as goal

pub returns : goal.returns
returns c =
    let all = len _ _ (λ i. omega (arith, c.type_inv.buf i)) (Ok c.in_ok-number.number.len) (search rules) in
    record { gives = all.0; published = all.1 }

pub returns-in_err-number : goal.returns-in_err-number
returns-in_err-number c =
    let all = len _ _ (λ i. omega (arith, c.type_inv.buf i)) c.from_residual.result (search rules) in
    record { gives = all.0; published = all.1 }
