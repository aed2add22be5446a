-- `store` meets its contract: three words one after another and the start words; a file of at most 2^24 bytes keeps all sums small.
-- Assumes nothing.
use Rattle.class_data.specs.Stored.{code_words}
use Rattle.class_data.specs.Steps.{kept}
use Rattle.class_data.proofs.Steps.{store_all}
use Rattle.class_data.proofs.parse.store.Goals as goal

pub returns : goal.returns
returns c =
    let a = c.args in
    store_all (kept a.k (code_words a.triples.now a.starts.now)) _ _ _ _ c.put_three.ensures
    c.set_array.ensures
