-- `parse` meets its contract: what `codes` refuses the build refuses, and what it found is finished over cleared slots and shares.
-- In each answer `lent` are the lent words as they came, and `left` as `codes` found or left them. What `codes` ensures is cited at the call, and
-- `was` says that its answer is the one that `?` took apart.
-- Assumes nothing.
use Rattle.std.specs.Prelude.{Result, Ok, Err}
use Prim.Native.Nat.{ℕ}
use borrow.Author.Rules.{rules}
use mathlib.Core.Path.{◌≡◌, sym, ap, subst, ◌∙◌}
use native.Mathlib.Omega.{arith}
use Rattle.words.specs.Padded.{zeros}
use Rattle.refusal.specs.declared.Refusal.{Refusal}
use Rattle.class_data.specs.Walk.{Walk}
use Rattle.class_data.specs.Stored.{CodeWords}
use Rattle.class_data.specs.Found.{GivesCodes}
use Rattle.class_data.proofs.Found.{taken, not_taken}
use Rattle.code_table.specs.Answer.{TableWords, table_words, room_of}
use Rattle.code_table.proofs.Build.{gives_none}
use Rattle.code_table.proofs.Walked.{lost, filled, taken_triples, gives_gained}
use Rattle.code_table.proofs.Inside.{both}
use Rattle.code_table.proofs.parse.Goals as goal

-- what `codes` ensures of its answer it ensures of that value
told : {m : ℕ} {w : Walk} {before after : CodeWords} {r x : Result ℕ Refusal} → r ≡ x → GivesCodes m w r before after → GivesCodes m w x before after
told {m} {w} {before} {after} e g = subst (λ (y : Result ℕ Refusal). GivesCodes m w y before after) e g

pub finish-requires : goal.finish-requires
finish-requires c =
    let a = c.args in
    let x = c.clear in
    let w = c.clear-2 in
    let lent : TableWords = table_words a.starts.now a.triples.now a.slots.now a.shares.now in
    let left : TableWords = table_words c.codes.new.starts c.codes.new.triples x.new.w w.new.w in
    let as_long : room_of left ≡ room_of lent = rw (c.codes.auto.starts, c.codes.auto.triples, x.auto.w, w.auto.w) in
    let was : c.codes.result ≡ Ok c.in_ok-n.n = grind arith in
    let K = taken a.file.now a.header (filled lent) (filled left) c.in_ok-n.n (told was c.codes.ensures.gives) in
    record {
      coded = record { codes = K.codes; triples = taken_triples lent left K as_long };
      slots = x.ensures ∙ ap zeros (sym x.auto.w);
      shares = w.ensures ∙ ap zeros (sym w.auto.w);
    }

pub returns-in_err-n : goal.returns-in_err-n
returns-in_err-n c =
    let a = c.args in
    let r = c.in_err-n.field-0.0 in
    let e : c.from_residual.result ≡ Err r = search rules in
    let lent : TableWords = table_words a.starts.now a.triples.now a.slots.now a.shares.now in
    let left : TableWords = table_words c.codes.new.starts c.codes.new.triples c.clear.new.w c.clear-2.new.w in
    let was : c.codes.result ≡ Err r = grind arith in
    let K = not_taken a.file.now a.header (filled lent) (filled left) r (told was c.codes.ensures.gives) in
    let all = both a.file.now a.header
    (gives_none _ r lent left (lost _ _ (room_of lent) r K.walk)
    (record { starts = K.starts; triples = K.triples; slots = c.clear.ensures; shares = c.clear-2.ensures })) in
    rw e (record { gives = all.0; region_inside = all.1 })

pub returns : goal.returns
returns c =
    let a = c.args in
    let q = c.finish in
    let lent : TableWords = table_words a.starts.now a.triples.now a.slots.now a.shares.now in
    let left : TableWords = table_words c.codes.new.starts c.codes.new.triples c.clear.new.w c.clear-2.new.w in
    let as_long : room_of left ≡ room_of lent = rw (c.codes.auto.starts, c.codes.auto.triples, c.clear.auto.w, c.clear-2.auto.w) in
    let was : c.codes.result ≡ Ok c.in_ok-n.n = grind arith in
    let K = taken a.file.now a.header (filled lent) (filled left) c.in_ok-n.n (told was c.codes.ensures.gives) in
    let all = both a.file.now a.header
    (gives_gained lent left K as_long q.result (table_words q.new.starts q.new.triples q.new.slots q.new.shares) q.ensures) in
    record { gives = all.0; region_inside = all.1 }
