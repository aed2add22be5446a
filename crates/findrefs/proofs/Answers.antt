-- Over the tables that the finder passes on each offset of a rising list has the answer that it has alone, and that is one number for file and
-- record, however much is lent: the tables are those of the one build that there is, with zeros after them.
-- Assumes nothing.
use Rattle.std.specs.Prelude.{Option, None, Some}
use Prim.Native.Nat.{ℕ, ◌/◌}
use native.Mathlib.Omega.{arith}
use mathlib.Core.Path.{◌≡◌, refl, sym, ap, ◌∙◌}
use mathlib.Core.List.{List}
use lib.ListN.{length}
use Rattle.words.proofs.Padded.{padded_full}
use Rattle.tinydex.specs.declared.DexHeader.{DexHeader}
use Rattle.code_table.specs.Build.{Build, build_out}
use Rattle.code_table.proofs.Named.{file_build, build_small, build_is}
use Rattle.insn_locator.specs.Locate.{Tables}
use Rattle.insn_locator.specs.Answers.{tables}
use Rattle.insn_locator.specs.Alone.{PassedOn, LeftBy}
use Rattle.insn_locator.proofs.Alone.{alone_at}
use Rattle.insn_locator.proofs.Built.{alone_in}
use Rattle.insn_locator.proofs.Clauses.{located_known}
use Rattle.completeness.proofs.Locates.{above_climbs}
use Rattle.findrefs.specs.Find.{Lengths, built_tables}
use Rattle.findrefs.proofs.Whole.{Answers}

-- a build's own tables, without zeros after them
abbrev plain : Build → Tables
plain B = tables (B.from / 16) B.slots B.starts B.shares

whole_words : (ws : List ℕ) → PassedOn ws ws
whole_words ws = record { count = length ws; same = sym (padded_full (length ws) ws refl) }

plain_left : (B : Build) → LeftBy B (plain B)
plain_left B = record { base = refl; slots = whole_words B.slots; starts = whole_words B.starts; shares = whole_words B.shares }

built_left : (B : Build) (L : Lengths) → LeftBy B (built_tables B L)
built_left B L = record {
  base = refl;
  slots = record { count = L.build.slots; same = refl };
  starts = whole_words B.starts;
  shares = record { count = L.build.shares; same = refl };
}

abbrev or_none : Option ℕ → ℕ
or_none None = 0
or_none (Some a) = a

abbrev answer_in : List ℕ → DexHeader → ℕ → ℕ
answer_in s h t = or_none (alone_at s (plain (file_build s h)) t)

module _ (s : List ℕ) (h : DexHeader) (L : Lengths) (p : (build_out s h L.build).number ≡ 0) where
  abbrev B : Build
  B = build_out s h L.build

  its_answer : (t : ℕ) → alone_at s (built_tables B L) t ≡ Some (answer_in s h t)
  its_answer t =
      let A = alone_in s h L.build p t in
      let e : alone_at s (plain (file_build s h)) t ≡ Some A.answer =
      rw (← build_is s h L.build p) (A.is (plain B) (plain_left B)) in
      A.is (built_tables B L) (built_left B L) ∙ ap (λ (x : Option ℕ). Some (or_none x)) (sym e)

pub answers_alone : (s : List ℕ) (h : DexHeader) → Answers s h
answers_alone s h = record {
  answer = answer_in s h;
  each = λ L p b ts R room further enough known.
      located_known (answer_in s h) (record { small = build_small s h L.build p; answers = enough; pairs = known }) (its_answer s h L p)
      (above_climbs R (omega arith));
  same = λ room room' p q. build_is s h room' q ∙ sym (build_is s h room p);
}
