-- The ways out of type search. The lent words are first cleared: cs and co are the cleared words of the strings and of the types.
-- Assumes nothing.
use Rattle.std.specs.Prelude.{Option, Some, None, Result, Ok, Err}
use Prim.Native.Nat.{ℕ, ◌≤◌, ◌<◌}
use native.Mathlib.Omega.{arith}
use mathlib.Core.Path.{◌≡◌, ap, sym, subst, ◌∙◌}
use mathlib.Core.List.{List, []}
use lib.ListN.{length, take}
use lib.Seq.{length-take-le}
use Rattle.words.specs.Padded.{zeros}
use Rattle.words.proofs.Padded.{length_padded}
use Rattle.refusal.specs.declared.Refusal.{Refusal}
use Rattle.refusal.specs.declared.Refusal.TheVariants.{LentTooShort}
use Rattle.refusal.specs.Refusals.{refusal_number}
use Rattle.groups.specs.Built.{GroupWords}
use Rattle.word_set.specs.Sets.{SetOf}
use Rattle.word_set.specs.Found.{Found}
use Rattle.word_set.specs.Steps.{Whole, Matched}
use Rattle.word_set.proofs.Sets.{set_empty}
use Rattle.word_set.proofs.Collected.{padded_take}
use Rattle.word_set.proofs.Found.{found_refused, found_none, found_done, found_over, found_cleared, exit_short, exit_all, zeros_length}
use Rattle.string_search.specs.Search.{Area, Owns, search_fault}
use Rattle.string_search.proofs.Listing.{owners_listed}
use Rattle.type_search.specs.Steps.{TypesOf}
use Rattle.type_search.specs.Types.{TypeFound, type_words, or_short, Searched}
use Rattle.type_search.proofs.Types.{types_found, all_types, short_fault, short_four, short_none}

-- what a search that succeeded left at the front of its words
module _ {P : ℕ → Type 0} {fault : ℕ} {cs cs' : List ℕ} {r : (Result ℕ Refusal)} (f : Found P fault r cs cs') (n : ℕ) (d : r ≡ Ok n) where
  whole : Whole P n cs cs'
  whole = found_done n r d f

  pub held_fit : n ≤ length cs'
  held_fit =
      omega (
        arith,
        whole.fits,
        whole.count,
        ap length whole.words,
        length_padded (length cs) whole.list
            (omega (arith, whole.count, whole.fits)),
      )

  held_list : take n cs' ≡ whole.list
  held_list = ap (take n) whole.words ∙ padded_take (length cs) n whole.list whole.count

  pub held_set : SetOf P (take n cs')
  held_set = subst (SetOf P) (sym held_list) whole.set

  pub held_few : length (take n cs') ≤ length cs
  held_few = omega (arith, length-take-le n cs' held_fit, whole.fits)

module _ (w : Area) (q : List ℕ) (table : GroupWords) (strings out cs co : List ℕ) (zs : cs ≡ zeros (length strings)) (zo : co ≡ zeros (length out)) where
  pub exit_fault : (why : Refusal) → refusal_number why ≡ search_fault (length w.file) 0 (length q) w.keys
      → Searched w q table (Err why) (type_words strings out) (type_words cs co)
  exit_fault why h =
      let o = owners_listed w q in
      record {
        strings = o.list;
        owners = o.set;
        types = found_refused (types_found table w q) why _
            (short_fault (search_fault (length w.file) 0 (length q) w.keys) (length strings) o.list why h) zo;
        cleared = zs;
      }

  module _ (z : 0 ≡ search_fault (length w.file) 0 (length q) w.keys) where
    pub exit_empty : length q ≡ 0 → Searched w q table (Ok 0) (type_words strings out) (type_words cs co)
    exit_empty h = record {
      strings = [];
      owners = set_empty (λ x o. omega (arith, o.asked));
      types =
          found_none (λ x t. omega (arith, t.owns.asked)) _
          (short_none (search_fault (length w.file) 0 (length q) w.keys) (length strings) [] z (omega arith)) zo;
      cleared = zs;
    }

    pub exit_strings : {fault : ℕ} {cs' : List ℕ} {r : (Result ℕ Refusal)} → Found (Owns w q) fault r cs cs' → 0 ≡ fault → (why : Refusal) → r ≡ Err why
        → Searched w q table (Err LentTooShort) (type_words strings out) (type_words cs' co)
    exit_strings {fault} {cs'} {r} f k why h =
        let o = owners_listed w q in
        let l : length cs ≡ length strings = zeros_length (length strings) cs zs in
        let m : length cs < length o.list = found_over why r h k f o.list o.set in
        record {
          strings = o.list;
          owners = o.set;
          types =
              found_refused (types_found table w q) LentTooShort _
              (short_four (search_fault (length w.file) 0 (length q) w.keys) (length strings) o.list z (omega arith)) zo;
          cleared = found_cleared why r h f ∙ ap zeros l;
        }

    module _ {k : ℕ} {cs' : List ℕ} {r : (Result ℕ Refusal)} (f : Found (Owns w q) k r cs cs') (n : ℕ) (d : r ≡ Ok n) (cs'' : List ℕ) (zs'' : cs'' ≡ zeros (length cs')) (kept : length cs' ≡ length cs)
        {co' : List ℕ} {t : (Option ℕ)} (m : Matched (TypesOf table (take n cs')) co co' t) where
      none : 0 ≡ or_short (search_fault (length w.file) 0 (length q) w.keys) (length strings) (take n cs')
      none =
          let l : length cs ≡ length strings = zeros_length (length strings) cs zs in
          short_none (search_fault (length w.file) 0 (length q) w.keys) (length strings) (take n cs') z (omega (arith, held_few f n d))

      cleared : cs'' ≡ zeros (length strings)
      cleared = zs'' ∙ ap zeros (kept ∙ zeros_length (length strings) cs zs)

      types : Matched (TypeFound w q table) co co' t
      types = all_types table w q (take n cs') (held_set f n d) m

      pub exit_types : (after : List ℕ) → t ≡ None → length co' ≡ length co → after ≡ zeros (length co')
          → Searched w q table (Err LentTooShort) (type_words strings out) (type_words cs'' after)
      exit_types after h j y = record {
        strings = take n cs';
        owners = held_set f n d;
        types = exit_short types _ none out (zeros_length (length out) co zo) (types_found table w q) after h j y;
        cleared = cleared;
      }

      pub exit_done : (i : ℕ) → t ≡ Some i → Searched w q table (Ok i) (type_words strings out) (type_words cs'' co')
      exit_done i h = record {
        strings = take n cs';
        owners = held_set f n d;
        types = exit_all types _ none out (zeros_length (length out) co zo) i h;
        cleared = cleared;
      }
