-- `refusals::head_fault` meets its contract: a law for each way out.
-- Assumes nothing.
use Rattle.name_filter.proofs.Faults.{head_large, head_short, head_table, head_long, head_query, head_none}
use Prim.Native.Nat.{◌≤◌}
use lib.ListN.{length}
use Rattle.words.proofs.Shared.{met}
use Rattle.dalvik.specs.Numbers.{le32}
use Rattle.dalvik.specs.Ids.{item, string_id_size}
use Rattle.name_filter.proofs.refusals.head_fault.Goals.{then-query-gt255-via-then-query-gt255, then-query-gt255-via-else-query-gt255+then-not-is_ascii}
use native.Mathlib.Omega.{arith}
use Rattle.name_filter.proofs.refusals.head_fault.Goals as goal

pub returns-then-too_large : goal.returns-then-too_large
returns-then-too_large c = head_large _ _ (met c.too_large.ensures c.if-too_large.true)

pub returns-then-len-lt112 : goal.returns-then-len-lt112
returns-then-len-lt112 c = head_short _ _ (met c.too_large.ensures c.if-too_large.false) c.if-len-lt112.true

pub returns-then-len-u32_at : goal.returns-then-len-u32_at
returns-then-len-u32_at c =
    head_table _ _ (met c.too_large.ensures c.if-too_large.false)
    (omega (arith, c.u32_at-2.ensures, c.u32_at.ensures, c.if-len-u32_at.true))

pub returns-then-query-gt255 : goal.returns-then-query-gt255
returns-then-query-gt255 c =
    let l = met c.too_large.ensures c.if-too_large.false in
    let t : item (le32 c.args.file.now 0x3c) string_id_size (le32 c.args.file.now 0x38) ≤ length c.args.file.now =
    omega (arith, c.u32_at-2.ensures, c.u32_at.ensures, c.if-len-u32_at.false) in
    elim c.then-query-gt255.branch [
      | then-query-gt255-via-then-query-gt255 w ↦ head_long _ _ l c.if-len-lt112.false t w.if-query-gt255.true
      | then-query-gt255-via-else-query-gt255+then-not-is_ascii w ↦
          head_query _ _ l c.if-len-lt112.false t w.if-query-gt255.false (met w.is_ascii.ensures w.if-not-is_ascii.true)
    ]

pub returns : goal.returns
returns c =
    head_none _ _ (met c.too_large.ensures c.if-too_large.false) c.if-len-lt112.false
    (omega (arith, c.u32_at-2.ensures, c.u32_at.ensures, c.if-len-u32_at.false))
    c.if-query-gt255.false (met c.is_ascii.ensures c.if-not-is_ascii.false)
