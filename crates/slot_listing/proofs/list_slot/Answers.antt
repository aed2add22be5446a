-- Each way out is one form of slot word, with the refusals in their order.
-- Assumes nothing.
use Rattle.slot_listing.proofs.Listed.{listed_free, listed_single, listed_share, list_fault, list_short, list_done}
use Rattle.slot_listing.proofs.Chains.{count_some, count_none}
use Rattle.slot_listing.specs.Steps.{methods_of, list_by}
use Rattle.refusal.proofs.Outcomes.{gives_refused, gives_done}
use Rattle.refusal.specs.declared.Refusal.TheVariants.{LentTooShort, LentTable}
use Rattle.words.proofs.Padded.{padded_none, padded_push, padded_front}
use Rattle.words.proofs.Shared.{met}
use lib.ListN.{length, drop, set}
use native.Mathlib.Omega.{arith}
use Prim.Native.Nat.{ℕ, ◌-◌}
use mathlib.Core.List.{List, [], ◌∷◌, ◌++◌}
use mathlib.Core.Path.{◌≡◌, refl, sym, ap, ◌∙◌}
use Rattle.std.specs.Prelude.{Err}
use Rattle.std.specs.Result.{result_ok}
use Rattle.std.proofs.lemmas.Result.{err_from_is_err_and}
use Rattle.slot_listing.proofs.list_slot.Goals as goal

pub returns-then-slot-eq0 : goal.returns-then-slot-eq0
returns-then-slot-eq0 c = record {
  gives =
      let a = c.args in
      let ws = a.shares.now in
      let room = length a.methods.now in
      let cleared = c.clear.ensures in
      gives_done _ a.methods.now _ 0 [] (list_done ws a.slot room [] (listed_free ws a.slot c.if-slot-eq0.true) (omega arith)) refl
      (cleared ∙ sym (padded_none room));
}

pub returns-then-methods-eq0 : goal.returns-then-methods-eq0
returns-then-methods-eq0 c = record {
  gives =
      let a = c.args in
      let ws = a.shares.now in
      let room = length a.methods.now in
      let cleared = c.clear.ensures in
      gives_refused _ a.methods.now _ LentTooShort
      (list_short ws a.slot room ((a.slot - 1) ∷ []) (listed_single ws a.slot (omega arith) c.if-slot-lt-SHARED.true) (omega arith)) cleared;
}

pub returns-then-slot-lt-SHARED : goal.returns-then-slot-lt-SHARED
returns-then-slot-lt-SHARED c = record {
  gives =
      let a = c.args in
      let ws = a.shares.now in
      let room = length a.methods.now in
      let cleared = c.clear.ensures in
      let x = a.slot - 1 in
      gives_done _ a.methods.now _ 1 (x ∷ [])
      (list_done ws a.slot room (x ∷ []) (listed_single ws a.slot (omega arith) c.if-slot-lt-SHARED.true) (omega arith)) refl
      (ap (λ (w : List ℕ). set w 0 x) (cleared ∙ sym (padded_none room)) ∙ padded_push room [] 0 x refl (omega arith));
}

pub returns-in_err-n : goal.returns-in_err-n
returns-in_err-n c = record {
  gives =
      let a = c.args in
      let ws = a.shares.now in
      let room = length a.methods.now in
      let cleared = c.clear.ensures in
      let k = a.slot - 2147483648 in
      let none-listed = listed_share ws a.slot c.if-slot-lt-SHARED.false ∙ count_none (methods_of ws k)
      (met c.chain_count.ensures (c.ok_or.ensures.ok_part ∙ ap result_ok c.in_err-n.was)) in
      let gone = err_from_is_err_and c.from_residual.result c.from_residual.ensures.1 in
      let refused : c.from_residual.result ≡ Err LentTable = grind arith in
      rw refused (gives_refused _ a.methods.now _ LentTable (list_fault ws a.slot room none-listed) cleared);
}

pub returns-then-methods-n : goal.returns-then-methods-n
returns-then-methods-n c = record {
  gives =
      let a = c.args in
      let ws = a.shares.now in
      let room = length a.methods.now in
      let cleared = c.clear.ensures in
      let k = a.slot - 2147483648 in
      let l = list_by (methods_of ws k) in
      let n = c.in_ok-n.n in
      let has = count_some (methods_of ws k) n (met c.chain_count.ensures (c.ok_or.ensures.ok_part ∙ ap result_ok c.in_ok-n.was)) in
      let lists = listed_share ws a.slot (omega arith) ∙ has.0 in
      gives_refused _ a.methods.now _ LentTooShort (list_short ws a.slot room l lists (omega arith)) cleared;
}

pub fill_chain-requires : goal.fill_chain-requires
fill_chain-requires c = record { k_value = met c.chain_count.ensures (c.ok_or.ensures.ok_part ∙ ap result_ok c.in_ok-n.was); n_in_bounds = omega arith }

pub returns : goal.returns
returns c = record {
  gives =
      let a = c.args in
      let ws = a.shares.now in
      let room = length a.methods.now in
      let cleared = c.clear.ensures in
      let k = a.slot - 2147483648 in
      let l = list_by (methods_of ws k) in
      let n = c.in_ok-n.n in
      let has = count_some (methods_of ws k) n (met c.chain_count.ensures (c.ok_or.ensures.ok_part ∙ ap result_ok c.in_ok-n.was)) in
      let lists = listed_share ws a.slot (omega arith) ∙ has.0 in
      gives_done _ a.methods.now _ n l (list_done ws a.slot room l lists (omega arith)) has.1
      (c.fill_chain.ensures ∙ ap (λ (w : List ℕ). l ++ drop n w) cleared ∙ padded_front room n l has.1);
}
