-- `finish` meets its contract: whatever codes have these triples, the table is theirs where it fits; where it does not, all words are cleared.
-- Assumes nothing.
use mathlib.Core.Path.{ap, ◌∙◌}
use native.Mathlib.Omega.{arith}
use Rattle.words.specs.Padded.{zeros}
use Rattle.code_table.specs.Answer.{table_words}
use Rattle.code_table.specs.Steps.{slot_words}
use Rattle.code_table.proofs.Build.{whole, short, tabled_filled, tabled_short, buckets_of}
use Rattle.code_table.proofs.finish.Goals as goal

pub overflow_mul-result : goal.overflow_mul-result
overflow_mul-result c =
    let p = c.slot_table in
    let k = buckets_of p.result _ _ (slot_words p.new.slots p.new.shares) c.requires.coded p.ensures c.in-Some.is in
    omega arith

pub region_end-requires : goal.region_end-requires
region_end-requires c =
    let p = c.slot_table in
    (buckets_of p.result _ _ (slot_words p.new.slots p.new.shares) c.requires.coded p.ensures c.in-Some.is).small

pub overflow_sub-result : goal.overflow_sub-result
overflow_sub-result c =
    let p = c.slot_table in
    (buckets_of p.result _ _ (slot_words p.new.slots p.new.shares) c.requires.coded p.ensures c.in-Some.is).rises

pub returns-in-Some : goal.returns-in-Some
returns-in-Some c = λ m e cs T s.
    let a = c.args in
    let p = c.slot_table in
    let A = tabled_filled cs p.result _ (slot_words p.new.slots p.new.shares) (p.ensures cs T) c.in-Some.is in
    whole a.len (table_words a.starts.now a.triples.now a.slots.now a.shares.now) T m e A (c.region_end.ensures cs A.top) s

pub returns-in-None : goal.returns-in-None
returns-in-None c = λ m e cs T s.
    let a = c.args in
    let p = c.slot_table in
    let before = slot_words a.slots.now a.shares.now in
    let after = slot_words p.new.slots p.new.shares in
    let d = tabled_short cs p.result before after (p.ensures cs T) c.in-None.is in
    short a.len (table_words a.starts.now a.triples.now a.slots.now a.shares.now) T m e d
    (record {
      starts = c.clear.ensures;
      triples = c.clear-in-None.ensures;
      slots = c.clear-in-None-2.ensures ∙ ap zeros p.auto.slots;
      shares = c.clear-in-None-3.ensures ∙ ap zeros p.auto.shares;
    })
