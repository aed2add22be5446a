-- What a function of the C interface hands out: the refusal's number, 0 for success, and after it the numbers that go through the
-- pointers, 0 on a refusal.
-- Assumes nothing.
use Rattle.refusal.specs.declared.Refusal.{Refusal}
use Rattle.std.specs.Prelude.{ℕ, ◌≡◌, List, [], ◌∷◌, Result, Ok, Err}
use Rattle.refusal.specs.Refusals.{refusal_number}
use Rattle.method_locator.specs.declared.Built.{Built as MethodGroups}
use Rattle.string_locator.specs.declared.StringMap.{StringMap}
use Rattle.string_data.specs.declared.Text.{Text}
use Rattle.code_table.specs.declared.Built.{Built as CodeTable}
use Rattle.findrefs.specs.declared.Found.{Found}

-- the numbers handed out are those of an answer that is as the operation's own contract says
pub record Told {A : Type 0} (numbers_of : A → List ℕ) (Right : A → Type 0) (numbers : List ℕ) : Type 0 where
  pub answer : A
  pub handed : numbers ≡ numbers_of answer
  pub right : Right answer

-- ---- the numbers of each kind of answer

-- number, count
abbrev pub of_answer : Result ℕ Refusal → List ℕ
of_answer (Ok n) = 0 ∷ n ∷ []
of_answer (Err r) = refusal_number r ∷ 0 ∷ []

-- number, ids by class, ids by name
abbrev pub of_method_groups : Result MethodGroups Refusal → List ℕ
of_method_groups (Ok g) = 0 ∷ g.clz ∷ g.name ∷ []
of_method_groups (Err r) = refusal_number r ∷ 0 ∷ 0 ∷ []

-- number, count, start and end of the text area
abbrev pub of_string_map : Result StringMap Refusal → List ℕ
of_string_map (Ok m) = 0 ∷ m.count ∷ m.start ∷ m.end ∷ []
of_string_map (Err r) = refusal_number r ∷ 0 ∷ 0 ∷ 0 ∷ []

-- number, start, count
abbrev pub of_string_text : Result Text Refusal → List ℕ
of_string_text (Ok t) = 0 ∷ t.start ∷ t.len ∷ []
of_string_text (Err r) = refusal_number r ∷ 0 ∷ 0 ∷ []

-- number, start and end of the region, codes, slots, words of shares
abbrev pub of_code_table : Result CodeTable Refusal → List ℕ
of_code_table (Ok t) = 0 ∷ t.region.start ∷ t.region.end ∷ t.codes ∷ t.slots ∷ t.shares ∷ []
of_code_table (Err r) = refusal_number r ∷ 0 ∷ 0 ∷ 0 ∷ 0 ∷ 0 ∷ []

-- number, start and end of the region, hits
abbrev pub of_found : Result Found Refusal → List ℕ
of_found (Ok f) = 0 ∷ f.region.start ∷ f.region.end ∷ f.hits ∷ []
of_found (Err r) = refusal_number r ∷ 0 ∷ 0 ∷ 0 ∷ []
