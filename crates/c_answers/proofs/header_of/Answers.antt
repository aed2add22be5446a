-- `c_answers::header_of` meets its contract: each word is read in its place.
-- Assumes nothing.
use Rattle.c_answers.specs.Header.{header_of}
use borrow.Author.Rules.{rules}
use Rattle.c_answers.proofs.header_of.Goals as goal

pub returns : goal.returns
unfolding header_of
returns c = search rules
