-- `read_uleb128_fast` meets its contract: each byte of 128 or more carries on, the value is the sum of what the bytes add, low first, and
-- the fifth byte is the last.
-- Assumes nothing.
use native.Mathlib.Omega.{arith}
use Rattle.leb128.proofs.Laws.{off, done, more, last, too_long, num}
use Rattle.leb128.proofs.Published.{fast}
use Rattle.leb128.proofs.read_uleb128_fast.Goals as goal

pub returns-then-n-pos : goal.returns-then-n-pos
returns-then-n-pos c =
    let all = fast _ _ (λ i. omega (arith, c.type_inv.buf i)) _
    (off _ _ 4 (omega arith)) in
    record { gives = all.0; published = all.1 }

pub returns-then-b0-lt128 : goal.returns-then-b0-lt128
returns-then-b0-lt128 c =
    let all = fast _ _ (λ i. omega (arith, c.type_inv.buf i)) _
    (done _ _ _ c.byte_at-b0.ensures (omega arith) 3 (omega arith)) in
    record { gives = all.0; published = all.1 }

pub returns-then-n-p1 : goal.returns-then-n-p1
returns-then-n-p1 c =
    let all = fast _ _ (λ i. omega (arith, c.type_inv.buf i)) _
    (more _ _ _ c.byte_at-b0.ensures (omega arith) 3 _ (omega arith)
    (off _ _ 3 (omega arith))) in
    record { gives = all.0; published = all.1 }

pub returns-then-b1-lt128 : goal.returns-then-b1-lt128
returns-then-b1-lt128 c =
    let all = fast _ _ (λ i. omega (arith, c.type_inv.buf i)) _
    (num _ _ _ _ (omega arith)
    (more _ _ _ c.byte_at-b0.ensures (omega arith) 3 _ (omega arith)
    (done _ _ _ c.byte_at-b1.ensures (omega arith) 2 (omega arith)))) in
    record { gives = all.0; published = all.1 }

pub returns-then-n-p2 : goal.returns-then-n-p2
returns-then-n-p2 c =
    let all = fast _ _ (λ i. omega (arith, c.type_inv.buf i)) _
    (more _ _ _ c.byte_at-b0.ensures (omega arith) 3 _ (omega arith)
    (more _ _ _ c.byte_at-b1.ensures (omega arith) 2 _ (omega arith)
    (off _ _ 2 (omega arith)))) in
    record { gives = all.0; published = all.1 }

pub returns-then-b2-lt128 : goal.returns-then-b2-lt128
returns-then-b2-lt128 c =
    let all = fast _ _ (λ i. omega (arith, c.type_inv.buf i)) _
    (num _ _ _ _ (omega arith)
    (more _ _ _ c.byte_at-b0.ensures (omega arith) 3 _ (omega arith)
    (more _ _ _ c.byte_at-b1.ensures (omega arith) 2 _ (omega arith)
    (done _ _ _ c.byte_at-b2.ensures (omega arith) 1 (omega arith))))) in
    record { gives = all.0; published = all.1 }

pub returns-then-n-p3 : goal.returns-then-n-p3
returns-then-n-p3 c =
    let all = fast _ _ (λ i. omega (arith, c.type_inv.buf i)) _
    (more _ _ _ c.byte_at-b0.ensures (omega arith) 3 _ (omega arith)
    (more _ _ _ c.byte_at-b1.ensures (omega arith) 2 _ (omega arith)
    (more _ _ _ c.byte_at-b2.ensures (omega arith) 1 _ (omega arith)
    (off _ _ 1 (omega arith))))) in
    record { gives = all.0; published = all.1 }

pub returns-then-b3-lt128 : goal.returns-then-b3-lt128
returns-then-b3-lt128 c =
    let all = fast _ _ (λ i. omega (arith, c.type_inv.buf i)) _
    (num _ _ _ _ (omega arith)
    (more _ _ _ c.byte_at-b0.ensures (omega arith) 3 _ (omega arith)
    (more _ _ _ c.byte_at-b1.ensures (omega arith) 2 _ (omega arith)
    (more _ _ _ c.byte_at-b2.ensures (omega arith) 1 _ (omega arith)
    (done _ _ _ c.byte_at-b3.ensures (omega arith) 0 (omega arith)))))) in
    record { gives = all.0; published = all.1 }

pub returns-then-n-p4 : goal.returns-then-n-p4
returns-then-n-p4 c =
    let all = fast _ _ (λ i. omega (arith, c.type_inv.buf i)) _
    (more _ _ _ c.byte_at-b0.ensures (omega arith) 3 _ (omega arith)
    (more _ _ _ c.byte_at-b1.ensures (omega arith) 2 _ (omega arith)
    (more _ _ _ c.byte_at-b2.ensures (omega arith) 1 _ (omega arith)
    (more _ _ _ c.byte_at-b3.ensures (omega arith) 0 _ (omega arith)
    (off _ _ 0 (omega arith)))))) in
    record { gives = all.0; published = all.1 }

pub returns-then-b4-gt15 : goal.returns-then-b4-gt15
returns-then-b4-gt15 c =
    let all = fast _ _ (λ i. omega (arith, c.type_inv.buf i)) _
    (more _ _ _ c.byte_at-b0.ensures (omega arith) 3 _ (omega arith)
    (more _ _ _ c.byte_at-b1.ensures (omega arith) 2 _ (omega arith)
    (more _ _ _ c.byte_at-b2.ensures (omega arith) 1 _ (omega arith)
    (more _ _ _ c.byte_at-b3.ensures (omega arith) 0 _ (omega arith)
    (too_long _ _ _ c.byte_at-b4.ensures (omega arith) (omega arith)))))) in
    record { gives = all.0; published = all.1 }

pub returns : goal.returns
returns c =
    let all = fast _ _ (λ i. omega (arith, c.type_inv.buf i)) _
    (num _ _ _ _ (omega arith)
    (more _ _ _ c.byte_at-b0.ensures (omega arith) 3 _ (omega arith)
    (more _ _ _ c.byte_at-b1.ensures (omega arith) 2 _ (omega arith)
    (more _ _ _ c.byte_at-b2.ensures (omega arith) 1 _ (omega arith)
    (more _ _ _ c.byte_at-b3.ensures (omega arith) 0 _ (omega arith)
    (last _ _ _ c.byte_at-b4.ensures (omega arith) (omega arith))))))) in
    record { gives = all.0; published = all.1 }
