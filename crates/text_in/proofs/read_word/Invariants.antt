-- `text_in::read_word` meets its contract: the letters left, from the place reached, answer as all letters do from the first place.
-- Assumes nothing.
use Rattle.std.proofs.Common.{◌≡◌, ◌+◌, ◌<◌, ◌≤◌, length, drop}
use Rattle.text_in.specs.Words.{word_at}
use Rattle.text_in.proofs.read_word.Given as goal

abbrev pub invariant-loop-k : goal.invariant-loop-k
invariant-loop-k l = record {
  inside : 0 < l.k → l.at + l.k ≤ length l.text;
  same : word_at (drop l.k l.letters) l.text (l.at + l.k) ≡ word_at l.letters l.text l.at;
}
