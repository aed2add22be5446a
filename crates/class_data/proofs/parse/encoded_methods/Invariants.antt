-- `encoded_methods` meets its contract: what is left to walk stays the same walk, and each method takes bytes, so the count stays small.
-- Assumes nothing.
use Prim.Native.Nat.{◌-◌}
use Rattle.class_data.specs.Stored.{code_words}
use Rattle.class_data.specs.Steps.{kept}
use Rattle.class_data.proofs.Kept.{turn}
use Rattle.class_data.proofs.Steps.{Going}
use Rattle.class_data.proofs.parse.encoded_methods.Given as goal

abbrev pub invariant-loop : goal.invariant-loop
invariant-loop l =
    Going l.buf l.methods (turn l.n l.pos (kept l.count (code_words l.initial.triples l.initial.starts))) l.at (l.n - l.counter)
    (code_words l.triples l.starts)
