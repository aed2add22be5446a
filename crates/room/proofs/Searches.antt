-- Room for sets: the searches and the name filter. A set has one rising list, so two calls on the same things have the same need. It has no
-- more numbers than the keys, ids or indices that they stand in, or than lie below a count.
-- Assumes nothing.
use Rattle.refusal.specs.declared.Refusal.{Refusal}
use Rattle.std.specs.Prelude.{Option, Some, None, Result}
use Prim.Native.Nat.{ℕ, zero, suc, ◌+◌, ◌-◌, ◌≤◌, max}
use native.Mathlib.Omega.{arith}
use mathlib.Core.Path.{◌≡◌, refl, sym, ap, ◌∙◌}
use mathlib.Core.Logic.{◌≢◌, ⊎_elim}
use mathlib.Core.Bool.{Bool, true, false, cond, not, ◌&&◌, ◌||◌}
use mathlib.Core.List.{List, [], ◌∷◌, map}
use lib.ListN.{length, get_or, take, drop, length-take, length-drop, length-map}
use lib.Seq.{get_or-take, get_or-drop}
use lib.Dec.{ltb, leb, eqb}
use borrow.Author.Tests.{eqb-true, eqb-false, eq-eqb, ltb-false, le-ltb}
use Rattle.words.specs.Padded.{padded}
use Rattle.words.proofs.Shared.{case, cond_elim}
use Rattle.dalvik.specs.Numbers.{byte, le32}
use Rattle.dalvik.specs.Ids.{item, string_id_size, method_id_size, string_data_off}
use Rattle.refusal.specs.Refusals.{answer_number, answer_count, is_too_large}
use Rattle.refusal.specs.Outcomes.{Outcome, success}
use Rattle.tinydex.specs.declared.Table.{Table}
use Rattle.groups.specs.Built.{GroupWords, passes}
use Rattle.groups.specs.Stretch.{between, stretch_of}
use Rattle.word_set.specs.Sets.{In, SetOf}
use Rattle.word_set.specs.Found.{Found, fitted}
use Rattle.word_set.proofs.Sets.{in_none, set_unique}
use Rattle.word_set.proofs.Collected.{padded_take}
use Rattle.word_set.proofs.Few.{set_in, set_below}
use Rattle.string_search.specs.Keys.{key_index, good_keys}
use Rattle.string_search.proofs.Owners.{owner_in}
use Rattle.string_data.specs.Text as text
use Rattle.string_search.specs.Search.{Area, Owns, search_fault}
use Rattle.type_search.specs.Types.{TypeFound, TypeWords, or_short, Searched}
use Rattle.method_search.specs.Methods as search
use Rattle.method_search.specs.Methods.{SearchWords, Lists, settles, lent_fault}
use Rattle.name_filter.specs.HasName.{is_ascii}
use Rattle.name_filter.specs.Faults.{text_fault, name_fault, first_fault, head_fault, filter_fault}
use Rattle.name_filter.specs.Names.{Named}
use Rattle.room.specs.Laws.{SameList}
use Rattle.room.proofs.Branches.{neither}

-- ---- an answer that a set's contract allows
fits : (fault room : ℕ) (xs : List ℕ) → (fitted fault room xs).number ≡ 0 → (fault ≡ 0) × (length xs ≤ room)
fits fault room xs e =
    ⊎_elim
    (λ (a : eqb fault 0 ≡ true).
    ⊎_elim
    (λ (b : ltb room (length xs) ≡ true). absurd (let z : ◌≡◌ {A = ℕ} 4 0 = rw (a, b) at e in omega arith))
    (λ (b : ltb room (length xs) ≡ false). (eqb-true fault 0 a, ltb-false room (length xs) b))
    (case (ltb room (length xs))))
    (λ (a : eqb fault 0 ≡ false). absurd (eqb-false fault 0 a (rw a at e)))
    (case (eqb fault 0))

fitting : (fault room : ℕ) (xs : List ℕ) → fault ≡ 0 → length xs ≤ room → fitted fault room xs ≡ success xs
fitting fault room xs e h = rw (eq-eqb fault 0 e, le-ltb room (length xs) h)

module _ {P : ℕ → Type 0} where
  pub found_more : (fault fault' : ℕ) (r r' : Result ℕ Refusal) (out out₁ out' out₁' : List ℕ) → Found P fault r out out₁ → Found P fault' r' out' out₁'
      → (fault ≡ 0 → fault' ≡ 0) → length out ≤ length out' → answer_number r ≡ 0 → SameList r out₁ r' out' out₁'
  found_more fault fault' r r' out out₁ out' out₁' F G f h e =
      let xs : List ℕ = F.list in
      let t = fits fault (length out) xs (sym F.gives.number ∙ e) in
      let same : G.list ≡ xs = set_unique G.list xs G.set F.set in
      let a : fitted fault (length out) xs ≡ success xs = fitting fault (length out) xs t.0 t.1 in
      let b : fitted fault' (length out') G.list ≡ success xs =
      ap (fitted fault' (length out')) same ∙ fitting fault' (length out') xs (f t.0) (omega (arith, t.1)) in
      let n : answer_count r ≡ length xs = F.gives.count ∙ ap (λ (o : Outcome). length o.list) a in
      let w : out₁ ≡ padded (length out) xs = F.gives.words ∙ ap (λ (o : Outcome). padded (length out) o.list) a in
      let front : take (answer_count r) out₁ ≡ xs = rw (w, n) (padded_take (length out) (length xs) xs refl) in
      record {
        number = G.gives.number ∙ ap (λ (o : Outcome). o.number) b;
        count = G.gives.count ∙ (ap (λ (o : Outcome). length o.list) b ∙ sym n);
        words = G.gives.words ∙ (ap (λ (o : Outcome). padded (length out') o.list) b ∙ ap (padded (length out')) (sym front));
      }

  pub found_enough : (fault : ℕ) (r : Result ℕ Refusal) (out out₁ : List ℕ) → Found P fault r out out₁ → fault ≢ 4
      → ((xs : List ℕ) → SetOf P xs → length xs ≤ length out)
      → answer_number r ≢ 4
  found_enough fault r out out₁ F n f e =
      let z : (fitted fault (length out) F.list).number ≡ 4 = sym F.gives.number ∙ e in
      ⊎_elim
      (λ (a : eqb fault 0 ≡ true). let y : ◌≡◌ {A = ℕ} 0 4 = rw (a, le-ltb (length out) (length F.list) (f F.list F.set)) at z in
      omega arith)
      (λ (a : eqb fault 0 ≡ false). n (rw a at z))
      (case (eqb fault 0))

-- ---- a fault that counts lent words in
short_more : (fault fault' room room' : ℕ) (xs : List ℕ) → (fault ≡ 0 → fault' ≡ 0) → room ≤ room' → or_short fault room xs ≡ 0
    → or_short fault' room' xs ≡ 0
short_more fault fault' room room' xs f h e =
    ⊎_elim
    (λ (a : eqb fault 0 ≡ true).
    ⊎_elim
    (λ (b : ltb room (length xs) ≡ true). absurd (let z : ◌≡◌ {A = ℕ} 4 0 = rw (a, b) at e in omega arith))
    (λ (b : ltb room (length xs) ≡ false).
    rw (eq-eqb fault' 0 (f (eqb-true fault 0 a)), le-ltb room' (length xs) (omega (arith, ltb-false room (length xs) b))))
    (case (ltb room (length xs))))
    (λ (a : eqb fault 0 ≡ false). absurd (eqb-false fault 0 a (rw a at e)))
    (case (eqb fault 0))

short_enough : (fault room : ℕ) (xs : List ℕ) → fault ≢ 4 → length xs ≤ room → or_short fault room xs ≢ 4
short_enough fault room xs n h =
    neither (λ (x : ℕ). x) (eqb fault 0) (cond (ltb room (length xs)) 4 0) fault (rw (le-ltb room (length xs) h) (λ e. omega arith)) n

-- ---- where the numbers of a result stand
in_take : {x : ℕ} (n : ℕ) (ys : List ℕ) → In x (take n ys) → In x ys
in_take n ys i = record {
  at = i.at;
  inside = omega (arith, i.inside, length-take n ys);
  is = sym (get_or-take n ys i.at 0 (omega (arith, i.inside, length-take n ys))) ∙ i.is;
}

in_drop : {x : ℕ} (n : ℕ) (ys : List ℕ) → In x (drop n ys) → In x ys
in_drop n ys i = record { at = n + i.at; inside = omega (arith, i.inside, length-drop n ys); is = sym (get_or-drop n ys i.at 0) ∙ i.is }

-- a group is a part of the ids
in_stretch : {x : ℕ} (offs ids : List ℕ) (k : ℕ) → In x (stretch_of offs ids k) → In x ids
unfolding stretch_of
in_stretch {x} offs ids k =
    let a : ℕ = get_or offs k 0 in
    let e : ℕ = get_or offs (k + 1) 0 in
    cond_elim (λ (l : List ℕ). In x l → In x ids) (ltb (k + 1) (length offs)) (between ids a e) []
    (λ _.
    cond_elim (λ (l : List ℕ). In x l → In x ids) (leb a e && leb e (length ids)) (take (e - a) (drop a ids)) []
    (λ _ i. in_drop a ids (in_take (e - a) (drop a ids) i)) (λ _ i. absurd (in_none i)))
    (λ _ i. absurd (in_none i))

owners_few : (w : Area) (q xs : List ℕ) → SetOf (Owns w q) xs → length xs ≤ length w.keys
owners_few w q xs S =
    omega (arith, set_in (map key_index w.keys) (λ x o. owner_in w.keys o.owned.at x o.owned.owns) S, length-map w.keys key_index)

types_few : (w : Area) (q : List ℕ) (table : GroupWords) (xs : List ℕ) → SetOf (TypeFound w q table) xs → length xs ≤ length table.ids
types_few w q table xs S = set_in table.ids (λ x t. in_stretch table.offs table.ids t.string t.among) S

-- ---- the faults before room is looked at have other numbers
search_faults : (len shortest n : ℕ) (ks : List ℕ) → search_fault len shortest n ks ≢ 4
unfolding search_fault
search_faults len shortest n ks =
    let i : ℕ → ℕ = λ x. x in
    neither i (is_too_large len) 1 _ (λ e. omega arith)
    (neither i (ltb n shortest || ltb 255 n) 9 _ (λ e. omega arith) (neither i (good_keys ks) 0 15 (λ e. omega arith) (λ e. omega arith)))

method_faults : (len : ℕ) (t : Table) (c n : ℕ) (ks : List ℕ) → search.method_fault len t c n ks ≢ 4
unfolding search.method_fault
method_faults len t c n ks =
    let i : ℕ → ℕ = λ x. x in
    neither i (eqb (search_fault len 0 (max c n) ks) 0) _ (search_fault len 0 (max c n) ks)
    (neither i (passes len t method_id_size) 3 0 (λ e. omega arith) (λ e. omega arith)) (search_faults len 0 (max c n) ks)

text_at : (s : List ℕ) (i : ℕ) → (text.text_from s i).number ≢ 4
unfolding text.text_from
text_at s i = by_zero (text.first_zero s i)
  where
    by_zero : (r : Option ℕ) → (text.on_zero r (text.none 5) (text.found i)).number ≢ 4
    by_zero (Some n) e = omega arith
    by_zero None e = omega arith

text_after : (k : ℕ) (s : List ℕ) (i : ℕ) → (text.after_length k s i).number ≢ 4
unfolding text.after_length
text_after zero s i = λ e. omega arith
text_after (suc k) s i =
    let n : text.Found → ℕ = λ f. f.number in
    neither n (ltb i (length s)) _ (text.none 6)
    (neither n (text.is_last k && ltb 0x0f (byte s i)) (text.none 10) _ (λ e. omega arith)
    (neither n (ltb (byte s i) 128) (text.text_from s (i + 1)) (text.after_length k s (i + 1)) (text_at s (i + 1)) (text_after k s (i + 1))))
    (λ e. omega arith)

text_of_string : (s : List ℕ) (i : ℕ) → (text.string_text s i).number ≢ 4
unfolding text.string_text
text_of_string s i = neither (λ (f : text.Found). f.number) (is_too_large (length s)) (text.none 1) _ (λ e. omega arith) (text_after 5 s i)

first_faults : (s : List ℕ) (count table : ℕ) (asked : Bool) (given : List ℕ) → first_fault s count table asked given ≢ 4
unfolding first_fault text_fault
first_faults s count table asked [] = λ e. omega arith
first_faults s count table asked (i ∷ is) =
    let n : ℕ → ℕ = λ x. x in
    let f : text.Found = text.string_text s (string_data_off s table i) in
    neither n (eqb (name_fault s count table asked i) 0) (first_fault s count table asked is) (name_fault s count table asked i)
    (first_faults s count table asked is)
    (neither n (ltb i count) (text_fault s asked f) 13
    (neither n (eqb f.number 0) _ f.number
    (neither n (asked && not (is_ascii (text.stretch_of s f))) 11 0 (λ e. omega arith) (λ e. omega arith)) (text_of_string s (string_data_off s table i)))
    (λ e. omega arith))

filter_faults : (s q given : List ℕ) → filter_fault s q given ≢ 4
unfolding filter_fault head_fault
filter_faults s q given =
    let n : ℕ → ℕ = λ x. x in
    neither n (eqb (head_fault s q) 0) _ (head_fault s q) (first_faults s (le32 s 0x38) (le32 s 0x3c) (ltb 0 (length q)) given)
    (neither n (is_too_large (length s)) 1 _ (λ e. omega arith)
    (neither n (ltb (length s) 0x70 || ltb (length s) (item (le32 s 0x3c) string_id_size (le32 s 0x38))) 3 _ (λ e. omega arith)
    (neither n (ltb 255 (length q) || not (is_ascii q)) 9 0 (λ e. omega arith) (λ e. omega arith))))

-- ---- the operations
module _ (w : Area) (q : List ℕ) where
  pub strings_enough : (r : Result ℕ Refusal) (out out₁ : List ℕ) → Found (Owns w q) (search_fault (length w.file) 1 (length q) w.keys) r out out₁
      → length w.keys ≤ length out → answer_number r ≢ 4
  strings_enough r out out₁ F h =
      found_enough (search_fault (length w.file) 1 (length q) w.keys) r out out₁ F (search_faults (length w.file) 1 (length q) w.keys)
      (λ xs S. omega (arith, owners_few w q xs S))

  module _ (table : GroupWords) where
    sf : ℕ
    sf = search_fault (length w.file) 0 (length q) w.keys

    pub types_more : (r r' : Result ℕ Refusal) (b a b' a' : TypeWords) → Searched w q table r b a → Searched w q table r' b' a'
        → length b.strings ≤ length b'.strings → length b.types ≤ length b'.types → answer_number r ≡ 0
        → SameList r a.types r' b'.types a'.types
    unfolding sf
    types_more r r' b a b' a' F G h k =
        found_more (or_short sf (length b.strings) F.strings) (or_short sf (length b'.strings) G.strings) r r' b.types a.types
        b'.types a'.types
        F.types G.types
        (λ z.
        ap (or_short sf (length b'.strings)) (set_unique G.strings F.strings G.owners F.owners)
        ∙ short_more sf sf (length b.strings) (length b'.strings) F.strings (λ y. y) h z)
        k

    pub types_enough : (r : Result ℕ Refusal) (b a : TypeWords) → Searched w q table r b a → length w.keys ≤ length b.strings
        → length table.ids ≤ length b.types
        → answer_number r ≢ 4
    unfolding sf
    types_enough r b a F h k =
        found_enough (or_short sf (length b.strings) F.strings) r b.types a.types F.types
        (short_enough sf (length b.strings) F.strings (search_faults (length w.file) 0 (length q) w.keys)
        (omega (arith, owners_few w q F.strings F.owners)))
        (λ xs S. omega (arith, types_few w q table xs S))

-- the words lent to a method search for the strings of the class, its types and, unless the class settles it, the strings of the name
module _ (f class : ℕ) (b : SearchWords) (l : Lists) where
  lent_more : (b' : SearchWords) → length b.strings ≤ length b'.strings → length b.types ≤ length b'.types → lent_fault f class b l ≡ 0
      → lent_fault f class b' l ≡ 0
  unfolding lent_fault
  lent_more b' h k =
      let by-types =
      short_more (or_short f (length b.strings) l.of_class) (or_short f (length b'.strings) l.of_class) (length b.types)
      (length b'.types) l.of_types
      (short_more f f (length b.strings) (length b'.strings) l.of_class (λ y. y) h) k in
      ⊎_elim
      (λ (s : settles class (length l.of_types) ≡ true). rw s by-types)
      (λ (s : settles class (length l.of_types) ≡ false). rw s
      (short_more _ _ (length b.strings) (length b'.strings) l.of_name by-types h))
      (case (settles class (length l.of_types)))

  lent_enough : f ≢ 4 → length l.of_class ≤ length b.strings → length l.of_types ≤ length b.types
      → length l.of_name ≤ length b.strings → lent_fault f class b l ≢ 4
  unfolding lent_fault
  lent_enough n x y z =
      let by-types =
      short_enough (or_short f (length b.strings) l.of_class) (length b.types) l.of_types
      (short_enough f (length b.strings) l.of_class n x) y in
      cond_elim (λ (m : ℕ). m ≢ 4) (settles class (length l.of_types)) _ _ (λ _. by-types)
      (λ _. short_enough _ (length b.strings) l.of_name by-types z)

-- two searches for the same have the same lists
same_lists : (k : search.Asked) {r r' : (Result ℕ Refusal)} {b a b' a' : SearchWords} (F : search.Searched k r b a) (G : search.Searched k r' b' a')
    → G.lists ≡ F.lists
same_lists k F G =
    rw (
      set_unique G.lists.of_class F.lists.of_class G.class_owners F.class_owners,
      set_unique G.lists.of_types F.lists.of_types G.class_types F.class_types,
      set_unique G.lists.of_name F.lists.of_name G.name_owners F.name_owners,
    )

module _ (k : search.Asked) where
  pub methods_more : (r r' : Result ℕ Refusal) (b a b' a' : SearchWords) → search.Searched k r b a → search.Searched k r' b' a'
      → length b.strings ≤ length b'.strings → length b.types ≤ length b'.types → length b.methods ≤ length b'.methods
      → answer_number r ≡ 0 → SameList r a.methods r' b'.methods a'.methods
  methods_more r r' b a b' a' F G h m n =
      let f : ℕ = search.asked_fault k in
      let c : ℕ = length k.query.class in
      found_more (lent_fault f c b F.lists) (lent_fault f c b' G.lists) r r' b.methods a.methods b'.methods a'.methods F.found
      G.found
      (λ z. ap (lent_fault f c b') (same_lists k F G) ∙ lent_more f c b F.lists b' h m z) n

  pub methods_enough : (r : Result ℕ Refusal) (b a : SearchWords) → search.Searched k r b a
      → length k.area.keys ≤ length b.strings → length k.types.ids ≤ length b.types → k.methods.size ≤ length b.methods
      → answer_number r ≢ 4
  methods_enough r b a F h m n =
      let f : ℕ = search.asked_fault k in
      let c : ℕ = length k.query.class in
      found_enough (lent_fault f c b F.lists) r b.methods a.methods F.found
      (lent_enough f c b F.lists (method_faults (length k.area.file) k.methods c (length k.query.name) k.area.keys)
      (omega (arith, owners_few k.area k.query.class F.lists.of_class F.class_owners))
      (omega (arith, types_few k.area k.query.class k.types F.lists.of_types F.class_types))
      (omega (arith, owners_few k.area k.query.name F.lists.of_name F.name_owners)))
      (λ xs S. omega (arith, set_below k.methods.size (λ x g. g.below) S))

pub names_enough : (s q given : List ℕ) (r : Result ℕ Refusal) (out out₁ : List ℕ) → Found (Named s (le32 s 0x3c) q given) (filter_fault s q given) r out out₁
    → length given ≤ length out → answer_number r ≢ 4
names_enough s q given r out out₁ F h =
    found_enough (filter_fault s q given) r out out₁ F (filter_faults s q given) (λ xs S. omega (arith, set_in given (λ x n. n.listed) S))
