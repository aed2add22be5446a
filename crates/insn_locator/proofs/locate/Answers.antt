-- The refusals come in their order, and the run starts from words that are zero; the other clause follows from what is given.
-- Assumes nothing.
use Rattle.words.specs.Padded.{zeros}
use Rattle.start_words.specs.Starts.{pair_count}
use lib.ListN.{take, drop, length-append, length-drop}
use mathlib.Core.List.{◌++◌}
use Prim.Native.Nat.{◌≤◌}
use Rattle.insn_locator.proofs.Whole.{locate_long, locate_room, locate_further, locate_fault, locate_done, ran_none, ran_some, take_zeros}
use Rattle.insn_locator.specs.Answers.{tables}
use Rattle.insn_locator.proofs.Alone.{onward_first}
use Rattle.insn_locator.proofs.Climbing.{climbs_sorted}
use Rattle.insn_locator.proofs.Clauses.{clauses}
use Rattle.refusal.proofs.Outcomes.{gives_refused, gives_done}
use Rattle.refusal.specs.declared.Refusal.TheVariants.{FileTooLarge, LentTooShort, LentTable}
use Rattle.words.proofs.Shared.{met}
use lib.ListN.{length, length-take}
use native.Mathlib.Omega.{arith}
use mathlib.Core.Path.{◌≡◌, sym, ap, ◌∙◌}
use Rattle.insn_locator.proofs.locate.Goals as goal

pub returns-then-too_large : goal.returns-then-too_large
returns-then-too_large c =
    let all = let a = c.args in
    let T = tables a.base a.slots.now a.starts.now a.shares.now in
    clauses a.file.now T a.entries.now _ _ _
    (record {
      answer =
          gives_refused _ a.answers.now _ FileTooLarge
          (locate_long a.file.now T a.entries.now (length a.answers.now) (length a.further.now)
          (met c.too_large.ensures c.if-too_large.true)) c.clear-2.ensures;
      further = c.clear.ensures;
    }) in
    record { gives = all.0; alone = all.1 }

pub returns-then-answers-entries : goal.returns-then-answers-entries
returns-then-answers-entries c =
    let all = let a = c.args in
    let T = tables a.base a.slots.now a.starts.now a.shares.now in
    clauses a.file.now T a.entries.now _ _ _
    (record {
      answer =
          gives_refused _ a.answers.now _ LentTooShort
          (locate_room a.file.now T a.entries.now (length a.answers.now) (length a.further.now)
          (met c.too_large.ensures c.if-too_large.false) (omega (arith, c.clear-2.auto.w)))
          c.clear-2.ensures;
      further = c.clear.ensures;
    }) in
    record { gives = all.0; alone = all.1 }

pub returns-then-further-n : goal.returns-then-further-n
returns-then-further-n c =
    let all = let a = c.args in
    let T = tables a.base a.slots.now a.starts.now a.shares.now in
    clauses a.file.now T a.entries.now _ _ _
    (record {
      answer =
          gives_refused _ a.answers.now _ LentTooShort
          (locate_further a.file.now T a.entries.now (length a.answers.now) (length a.further.now)
          (met c.too_large.ensures c.if-too_large.false)
          (omega (arith, c.clear-2.auto.w))
          (omega (arith, c.clear.auto.w, c.count-n.ensures))) c.clear-2.ensures;
      further = c.clear.ensures;
    }) in
    record { gives = all.0; alone = all.1 }

pub slice_bounds-locate_list-end-2 : goal.slice_bounds-locate_list-end-2
slice_bounds-locate_list-end-2 c =
    simp length-take (omega (arith, c.clear.auto.w))

pub locate_list-run-requires : goal.locate_list-run-requires
locate_list-run-requires c =
    let a = c.args in
    let n = c.count-n.result in
    let known : n ≤ length a.further.now = omega (arith, c.if-further-n.false, c.clear.auto.w) in
    record {
      room = omega (arith, c.if-answers-entries.false);
      goes_on = λ o.
          onward_first _ _ _ _ n (ap (take n) c.clear.ensures ∙ take_zeros n (length a.further.now) known)
          (climbs_sorted _ _ c.is_sorted-onward.ensures.cases o);
    }

pub returns-then-is_some : goal.returns-then-is_some
returns-then-is_some c =
    let all = let a = c.args in
    let T = tables a.base a.slots.now a.starts.now a.shares.now in
    let n = c.count-n.result in
    let same : n ≡ pair_count a.starts.now = c.count-n.ensures in
    let run = c.locate_list-run in
    let cleared = c.clear-2 in
    let unset = c.clear in
    let fits = met c.too_large.ensures c.if-too_large.false in
    let room : length a.entries.now ≤ length a.answers.now = omega (arith, c.if-answers-entries.false, cleared.auto.w) in
    let known : n ≤ length a.further.now = omega (arith, c.if-further-n.false, unset.auto.w) in
    let none_yet = ap (take n) unset.ensures ∙ take_zeros n (length a.further.now) known ∙ ap zeros same in
    let whole : length (run.new.last ++ drop n unset.new.w) ≡ length a.further.now =
    simp (length-append, length-drop) (omega (arith, run.auto, unset.auto.w, length-take n unset.new.w)) in
    let ran = locate_done a.file.now T a.entries.now (length a.answers.now) (length a.further.now) fits room (omega arith) _ none_yet
    cleared.new.w _ cleared.ensures (sym (ran_some run.result _ (sym c.is_some.ensures ∙ c.if-is_some.true)) ∙ run.ensures) in
    clauses a.file.now T a.entries.now _ _ _
    (record {
      answer = gives_done _ a.answers.now _ (length a.entries.now) ran.list ran.outcome ran.count ran.words;
      further = c.clear-3.ensures ∙ ap zeros whole;
    }) in
    record { gives = all.0; alone = all.1 }

pub returns : goal.returns
returns c =
    let all = let a = c.args in
    let T = tables a.base a.slots.now a.starts.now a.shares.now in
    let n = c.count-n.result in
    let same : n ≡ pair_count a.starts.now = c.count-n.ensures in
    let run = c.locate_list-run in
    let cleared = c.clear-2 in
    let unset = c.clear in
    let fits = met c.too_large.ensures c.if-too_large.false in
    let room : length a.entries.now ≤ length a.answers.now = omega (arith, c.if-answers-entries.false, cleared.auto.w) in
    let known : n ≤ length a.further.now = omega (arith, c.if-further-n.false, unset.auto.w) in
    let none_yet = ap (take n) unset.ensures ∙ take_zeros n (length a.further.now) known ∙ ap zeros same in
    let whole : length (run.new.last ++ drop n unset.new.w) ≡ length a.further.now =
    simp (length-append, length-drop) (omega (arith, run.auto, unset.auto.w, length-take n unset.new.w)) in
    let fault =
    locate_fault a.file.now T a.entries.now (length a.answers.now) (length a.further.now) fits room (omega arith) _ none_yet
    cleared.new.w (sym (ran_none run.result _ (sym c.is_some.ensures ∙ c.if-is_some.false)) ∙ run.ensures) in
    let all : length run.new.answers ≡ length a.answers.now = omega (arith, run.auto, cleared.auto.w) in
    clauses a.file.now T a.entries.now _ _ _
    (record {
      answer = gives_refused _ a.answers.now _ LentTable fault (c.clear-4.ensures ∙ ap zeros all);
      further = c.clear-3.ensures ∙ ap zeros whole;
    }) in
    record { gives = all.0; alone = all.1 }
