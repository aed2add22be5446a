-- `add_share` meets its contract: a single method makes a share of two, and a share one that goes on from it.
-- Assumes nothing.
use native.Mathlib.Omega.{arith}
use Rattle.code_table.proofs.Slots.{joined_single, joined_share}
use Rattle.code_table.proofs.add_share.Goals as goal

pub returns-then-v-lt-SHARED : goal.returns-then-v-lt-SHARED
returns-then-v-lt-SHARED c =
    let a = c.args in
    rw (joined_single a.v a.method a.shares.now (omega arith) c.if-v-lt-SHARED.true) c.put_share.ensures

pub returns-else-v-lt-SHARED : goal.returns-else-v-lt-SHARED
returns-else-v-lt-SHARED c =
    let a = c.args in
    rw (
      joined_share a.v a.method a.shares.now c.if-v-lt-SHARED.false,
      ← c.word_at-first.ensures,
    )
    c.put_share-else-v-lt-SHARED.ensures
