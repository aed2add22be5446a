-- The ways out of method search. The lent words are first cleared; cs and ct are the words of the strings and of the types, as each step
-- leaves them.
-- Assumes nothing.
use Rattle.std.specs.Prelude.{Result, Ok, Err}
use Prim.Native.Nat.{ℕ, ◌≤◌, ◌<◌}
use native.Mathlib.Omega.{arith}
use mathlib.Core.Path.{◌≡◌, refl, ap, sym, subst, ◌∙◌}
use mathlib.Core.Bool.{Bool, true, false, cond}
use mathlib.Core.Logic.{⊎_elim}
use mathlib.Core.List.{List}
use lib.ListN.{length, take}
use lib.Seq.{length-take-le}
use lib.Dec.{eqb}
use borrow.Author.Tests.{eqb-true, eqb-false}
use Rattle.words.specs.Padded.{padded, zeros}
use Rattle.words.proofs.Padded.{padded_none}
use Rattle.dalvik.specs.Ids.{method_class_idx}
use Rattle.words.proofs.Shared.{case}
use Rattle.refusal.specs.declared.Refusal.{Refusal}
use Rattle.refusal.specs.declared.Refusal.TheVariants.{LentTooShort}
use Rattle.refusal.specs.Refusals.{refusal_number, answer_number}
use Rattle.word_set.specs.Found.{Found, fitted}
use Rattle.word_set.specs.Steps.{Whole}
use Rattle.word_set.proofs.Sets.{below_or_not, set_same}
use Rattle.word_set.proofs.Found.{found_refused, found_none, no_words, found_done, found_over, found_cleared, zeros_length}
use Rattle.string_search.specs.Search.{Owns, search_fault}
use Rattle.string_search.proofs.Listing.{owners_listed}
use Rattle.type_search.specs.Types.{TypeFound, type_words, or_short, Searched as TypesSearched}
use Rattle.type_search.proofs.Exits.{held_fit, held_set, held_few}
use Rattle.type_search.proofs.Types.{types_found, short_fault, short_four, short_none}
use Rattle.method_search.specs.Steps.{sieve_for, Chosen, Selected}
use Rattle.method_search.specs.Methods.{Asked, asked_fault, SearchWords, search_words, Lists, settles, lent_fault, Searched}
use Rattle.method_search.proofs.Steps.{settles_given, settles_absent, Sound, sound}
use Rattle.method_search.proofs.Fitting.{methods_listed, found_fit, fit_found}

-- three slices, one after another; g is the length of the class
either : (b : Bool) (k n m : ℕ) → k ≡ n → k ≡ m → k ≡ cond b n m
either true k n m p q = p
either false k n m p q = q

module _ (fault g : ℕ) (w : SearchWords) (l : Lists) where
  -- a number of the class is the outcome's, whether or not the name is looked for
  early : (why : Refusal) → refusal_number why ≡ or_short (or_short fault (length w.strings) l.of_class) (length w.types) l.of_types
      → refusal_number why ≡ lent_fault fault g w l
  unfolding lent_fault
  early why e =
      either (settles g (length l.of_types)) (refusal_number why)
      (or_short (or_short fault (length w.strings) l.of_class) (length w.types) l.of_types)
      (or_short (or_short (or_short fault (length w.strings) l.of_class) (length w.types) l.of_types) (length w.strings) l.of_name) e
      (short_fault (or_short (or_short fault (length w.strings) l.of_class) (length w.types) l.of_types) (length w.strings) l.of_name
      why e)

  pub faulty : (why : Refusal) → refusal_number why ≡ fault → refusal_number why ≡ lent_fault fault g w l
  faulty why e =
      early why (short_fault (or_short fault (length w.strings) l.of_class) (length w.types) l.of_types why
      (short_fault fault (length w.strings) l.of_class why e))

  module _ (z : 0 ≡ fault) where
    pub first_short : (length w.strings) < length l.of_class → 4 ≡ lent_fault fault g w l
    first_short h =
        early LentTooShort (short_fault (or_short fault (length w.strings) l.of_class) (length w.types) l.of_types LentTooShort
        (short_four fault (length w.strings) l.of_class z h))

    module _ (h : length l.of_class ≤ (length w.strings)) where
      pub second_short : (length w.types) < length l.of_types → 4 ≡ lent_fault fault g w l
      second_short k =
          early LentTooShort (short_four (or_short fault (length w.strings) l.of_class) (length w.types) l.of_types
          (short_none fault (length w.strings) l.of_class z h) k)

      module _ (k : length l.of_types ≤ (length w.types)) where
        both : 0 ≡ or_short (or_short fault (length w.strings) l.of_class) (length w.types) l.of_types
        both =
            short_none (or_short fault (length w.strings) l.of_class) (length w.types) l.of_types
            (short_none fault (length w.strings) l.of_class z h) k

        pub settled_none : settles g (length l.of_types) ≡ true → 0 ≡ lent_fault fault g w l
        unfolding lent_fault
        settled_none s = rw s both

        module _ (s : settles g (length l.of_types) ≡ false) where
          pub third_short : (length w.strings) < length l.of_name → 4 ≡ lent_fault fault g w l
          unfolding lent_fault
          third_short m =
              rw s (short_four (or_short (or_short fault (length w.strings) l.of_class) (length w.types) l.of_types) (length w.strings)
              l.of_name both m)

          pub none_short : length l.of_name ≤ (length w.strings) → 0 ≡ lent_fault fault g w l
          unfolding lent_fault
          none_short m =
              rw s (short_none (or_short (or_short fault (length w.strings) l.of_class) (length w.types) l.of_types) (length w.strings)
              l.of_name both m)

-- a class that settles the result is given, and no type is found
pub settled_by : (class types : ℕ) → settles class types ≡ true → (0 < class) × (types ≡ 0)
settled_by class types e =
    ⊎_elim (λ (h : 0 < class). (h, eqb-true types 0 (settles_given class types h ∙ e)))
    (λ (h : class ≤ 0). absurd (let q : false ≡ true = settles_absent class types h ∙ e in let z : ◌≡◌ {A = ℕ} 0 1 = cc in omega arith))
    (below_or_not 0 class)

-- what no shortage says
short_fits : (fault room : ℕ) (xs : List ℕ) → 0 ≡ or_short fault room xs → length xs ≤ room
short_fits fault room xs e =
    ⊎_elim (λ (h : room < length xs). absurd (⊎_elim
    (λ (z : eqb fault 0 ≡ true). let f = short_four fault room xs (sym (eqb-true fault 0 z)) h in let y : ◌≡◌ {A = ℕ} 0 4 = cc in omega arith)
    (λ (z : eqb fault 0 ≡ false). eqb-false fault 0 z (sym (rw z at e))) (case (eqb fault 0))))
    (λ (h : length xs ≤ room). h) (below_or_not room (length xs))

-- a set said in another way, and without a fault
found_same : {P Q : ℕ → Type 0} {fault : ℕ} {r : (Result ℕ Refusal)} {before after : List ℕ} → ((x : ℕ) → P x → Q x) → ((x : ℕ) → Q x → P x) → 0 ≡ fault
    → Found P 0 r before after → Found Q fault r before after
found_same {P} {Q} {fault} {r} {before} {after} f g z w =
    subst (λ (k : ℕ). Found Q k r before after) z record { list = w.list; set = set_same f g w.set; gives = w.gives }

-- a success had no fault
done_fault : {P : ℕ → Type 0} {fault : ℕ} {before after : List ℕ} (n : ℕ) (r : Result ℕ Refusal) → r ≡ Ok n → Found P fault r before after → 0 ≡ fault
done_fault {P} {fault} {before} n r e f =
    ⊎_elim (λ (z : eqb fault 0 ≡ true). sym (eqb-true fault 0 z))
    (λ (z : eqb fault 0 ≡ false). let s : 0 ≡ (fitted fault (length before) f.list).number = ap answer_number (sym e) ∙ f.gives.number in
    rw z at s) (case (eqb fault 0))

-- the words of the result have no say in the fault
same_lent : (fault g : ℕ) (strings types co out : List ℕ) (l : Lists)
    → lent_fault fault g (search_words strings types co) l ≡ lent_fault fault g (search_words strings types out) l
unfolding lent_fault
same_lent fault g strings types co out l = refl

found_out : {P : ℕ → Type 0} {fault fault' : ℕ} {r : (Result ℕ Refusal)} {co out after : List ℕ} → fault ≡ fault' → length co ≡ length out
    → Found P fault r co after → Found P fault' r out after
found_out {P} {fault} {fault'} {r} {co} {out} {after} e l g =
    let w : Found P fault' r co after = subst (λ (n : ℕ). Found P n r co after) e g in
    record {
      list = w.list;
      set = w.set;
      gives = record { number = rw (← l) w.gives.number; count = rw (← l) w.gives.count; words = rw (← l) w.gives.words };
    }

-- the lists of strings and types found, however long
abbrev lists_of : Asked → Lists
lists_of k = record {
  of_class = (owners_listed k.area k.query.class).list;
  of_types = (types_found k.types k.area k.query.class).list;
  of_name = (owners_listed k.area k.query.name).list;
}

module _ (k : Asked) where
  abbrev class : ℕ
  class = length k.query.class

  pub exit_fault : (why : Refusal) → refusal_number why ≡ asked_fault k → {before after : SearchWords}
      → after.strings ≡ zeros (length before.strings)
      → after.types ≡ zeros (length before.types) → after.methods ≡ zeros (length before.methods) → Searched k (Err why) before after
  exit_fault why h {before} {after} zs zt zo = record {
    lists = lists_of k;
    class_owners = (owners_listed k.area k.query.class).set;
    class_types = (types_found k.types k.area k.query.class).set;
    name_owners = (owners_listed k.area k.query.name).set;
    found = found_refused (methods_listed k) why _ (faulty (asked_fault k) class before (lists_of k) why h) zo;
    strings_cleared = zs;
    types_cleared = zt;
  }

  module _ (none : 0 ≡ asked_fault k) {strings cs' types ct' : List ℕ} {r : (Result ℕ Refusal)}
      (ts : TypesSearched k.area k.query.class k.types r (type_words strings types) (type_words cs' ct')) where
    ok : Sound (length k.area.file) k.methods class (length k.query.name) k.area.keys
    ok = sound (length k.area.file) k.methods class (length k.query.name) k.area.keys none

    abbrev fault : ℕ
    fault = search_fault (length k.area.file) 0 class k.area.keys

    -- the type search found too few words
    pub exit_class : (why : Refusal) → r ≡ Err why → (out : List ℕ) → out ≡ zeros (length out)
        → Searched k (Err LentTooShort) (search_words strings types out) (search_words cs' ct' out)
    exit_class why h out zo =
        let t = types_found k.types k.area k.query.class in
        let p = owners_listed k.area k.query.name in
        let before : SearchWords = search_words strings types out in
        let l : Lists = record { of_class = ts.strings; of_types = t.list; of_name = p.list } in
        record {
          lists = l;
          class_owners = ts.owners;
          class_types = t.set;
          name_owners = p.set;
          found = found_refused (methods_listed k) LentTooShort _
              (⊎_elim (λ (m : length strings < length ts.strings). first_short (asked_fault k) class before l none m)
              (λ (m : length ts.strings ≤ length strings). second_short (asked_fault k) class before l none m
              (found_over why r h (short_none fault (length strings) ts.strings ok.class m) ts.types t.list t.set))
              (below_or_not (length strings) (length ts.strings))) zo;
          strings_cleared = ts.cleared;
          types_cleared = found_cleared why r h ts.types;
        }

    module _ (t : ℕ) (d : r ≡ Ok t) where
      same : length cs' ≡ length strings
      same = zeros_length (length strings) cs' ts.cleared

      enough : length ts.strings ≤ length strings
      enough = short_fits fault (length strings) ts.strings (done_fault t r d ts.types)

      whole : Whole (TypeFound k.area k.query.class k.types) t types ct'
      whole = found_done t r d ts.types

      types_few : length whole.list ≤ length types
      types_few = omega (arith, whole.count, whole.fits)

      -- the lists, with all strings of the name
      abbrev lists_all : Lists
      lists_all = record { of_class = ts.strings; of_types = whole.list; of_name = (owners_listed k.area k.query.name).list }

      -- a class that settles the result: no type was found, so no method fits
      pub exit_settled : settles class t ≡ true → (out : List ℕ) → out ≡ zeros (length out)
          → Searched k (Ok 0) (search_words strings types out) (search_words cs' ct' out)
      exit_settled y out zo =
          let g = settled_by class t y in
          let none_found : (x : ℕ) → TypeFound k.area k.query.class k.types x → ⊥ =
          λ x f. let i = whole.set.complete x f in omega (arith, i.inside, whole.count, g.1) in
          record {
            lists = lists_all;
            class_owners = ts.owners;
            class_types = whole.set;
            name_owners = (owners_listed k.area k.query.name).set;
            found = found_none (λ x m. none_found (method_class_idx k.area.file k.methods.off x) (m.of_class g.0)) _
                (settled_none (asked_fault k) class (search_words strings types out) lists_all none enough types_few (rw whole.count y)) zo;
            strings_cleared = ts.cleared;
            types_cleared = whole.words ∙ ap (padded (length types)) (no_words _ (whole.count ∙ g.1)) ∙ padded_none (length types);
          }

      module _ (y : settles class t ≡ false) {cs'' : List ℕ} {r' : (Result ℕ Refusal)}
          (f : Found (Owns k.area k.query.name) (search_fault (length k.area.file) 0 (length k.query.name) k.area.keys) r' cs' cs'') where
        -- the search for the name found too few words
        pub exit_name : (why : Refusal) → r' ≡ Err why → (ct'' : List ℕ) → ct'' ≡ zeros (length ct') → length ct' ≡ length types → (out : List ℕ)
            → out ≡ zeros (length out)
            → Searched k (Err LentTooShort) (search_words strings types out) (search_words cs'' ct'' out)
        exit_name why h ct'' zt kept out zo =
            let p = owners_listed k.area k.query.name in
            let l : length cs' ≡ length strings = same in
            let m : length cs' < length p.list = found_over why r' h ok.name f p.list p.set in
            record {
              lists = lists_all;
              class_owners = ts.owners;
              class_types = whole.set;
              name_owners = p.set;
              found = found_refused (methods_listed k) LentTooShort _
                  (third_short (asked_fault k) class (search_words strings types out) lists_all none enough types_few (rw whole.count y)
                  (omega arith)) zo;
              strings_cleared = found_cleared why r' h f ∙ ap zeros same;
              types_cleared = zt ∙ ap zeros kept;
            }

        module _ (n : ℕ) (b : r' ≡ Ok n) where
          pub chosen : (out : List ℕ) → out ≡ zeros (length out) → Chosen t n (search_words cs'' ct' out)
          chosen out zo = record {
            types_fit = held_fit ts.types t d;
            names_fit = held_fit f n b;
            risen = record { types_rise = (held_set ts.types t d).rising; names_rise = (held_set f n b).rising };
            clear = zo;
          }

          pub exit_select : {cs''' ct'' : List ℕ} {r'' : (Result ℕ Refusal)} {out out' : List ℕ}
              → Selected (sieve_for k (take t ct') (take n cs'')) k.methods.size r'' (search_words cs'' ct' out) (search_words cs''' ct'' out')
              → length ct' ≡ length types → length cs'' ≡ length cs' → Searched k r'' (search_words strings types out) (search_words cs''' ct'' out')
          exit_select {cs'''} {ct''} {r''} {out} {out'} g kt kn =
              let s : length cs' ≡ length strings = same in
              let tt = held_set ts.types t d in
              let nn = held_set f n b in
              let l : Lists = record { of_class = ts.strings; of_types = take t ct'; of_name = take n cs'' } in
              record {
                lists = l;
                class_owners = ts.owners;
                class_types = tt;
                name_owners = nn;
                found = found_same (found_fit k (take t ct') (take n cs'') tt nn) (fit_found k (take t ct') (take n cs'') tt nn)
                    (none_short (asked_fault k) class (search_words strings types out) l none enough
                    (held_few ts.types t d) (rw (length-take-le t ct' (held_fit ts.types t d)) y) (omega (arith, held_few f n b)))
                    g.found;
                strings_cleared = g.names_cleared ∙ ap zeros (kn ∙ same);
                types_cleared = g.types_cleared ∙ ap zeros kt;
              }

-- the same of lists of the same length
pub searched_out : {k : Asked} {r : (Result ℕ Refusal)} {strings types co : List ℕ} {after : SearchWords} (out : List ℕ) → length co ≡ length out
    → Searched k r (search_words strings types co) after → Searched k r (search_words strings types out) after
searched_out {k} {r} {strings} {types} {co} {after} out l g = record {
  lists = g.lists;
  class_owners = g.class_owners;
  class_types = g.class_types;
  name_owners = g.name_owners;
  found = found_out (same_lent (asked_fault k) (length k.query.class) strings types co out g.lists) l g.found;
  strings_cleared = g.strings_cleared;
  types_cleared = g.types_cleared;
}
