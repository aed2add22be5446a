-- The walk over one class data item (SPEC, Class data): the codes found, or the refusal, in the order in which
-- the walk reads. What is published is in dalvik's ClassData; that the walk finds it is proved with demand 3.
-- Assumes nothing.
use Rattle.std.specs.Prelude.{ℕ, zero, suc, ◌+◌, ◌*◌, ◌%◌, ◌^◌, List, [], ◌∷◌, ◌++◌, Bool, cond, ◌&&◌, length, ltb, leb, eqb, Result, Ok, Err}
use Rattle.dalvik.specs.CodeItem.{Code, header_size, insns_size}
use Rattle.leb128.specs.Leb.{uleb_fast, uleb_len, on_uleb}
use Rattle.refusal.specs.declared.Refusal.{Refusal}
use Rattle.refusal.specs.declared.Refusal.TheVariants.{MethodIndex, CodeOutside}
use Rattle.class_data.specs.declared.item.Two.{Two}
use Rattle.class_data.specs.declared.item.Sizes.{Sizes}
use Rattle.class_data.specs.declared.item.Methods.{Methods}

-- a refusal, or the codes in the order found and the offset after them
pub data Walk : Type 0 where
  refused : Refusal → Walk
  found : List Code → ℕ → Walk

-- cs in front of what a walk finds
abbrev pub following : List Code → Walk → Walk
following cs (refused r) = refused r
following cs (found ds e) = found (cs ++ ds) e

-- a walk, and then another from the offset after it
abbrev pub and_on : Walk → (ℕ → Walk) → Walk
and_on (refused r) f = refused r
and_on (found cs e) f = following cs (f e)

-- the number at i: f gets its value and the offset after it
abbrev pub with_number : List ℕ → ℕ → (ℕ → ℕ → Walk) → Walk
with_number s i f = on_uleb (uleb_fast s i) (λ r. refused r) (λ v n. f v (i + n))

-- what is read after r, if r is no refusal
infixl 10 ◌>>=◌
abbrev pub ◌>>=◌ : {A B : Type 0} → Result A Refusal → (A → Result B Refusal) → Result B Refusal
Ok x >>= f = f x
Err r >>= f = Err r

-- the offset after n numbers
unfoldable pub skipped : ℕ → List ℕ → ℕ → Result ℕ Refusal
skipped zero s i = Ok i
skipped (suc n) s i = do
  m ← uleb_len s i
  skipped n s (i + m)

-- the count of field pairs keeps its low 32 bits, and index sums are below this
abbrev pub word : ℕ
word = 2 ^ 32

-- ---- what opens a class data item
-- the number at i, the number after it, and the offset after both
unfoldable pub two_at : List ℕ → ℕ → Result Two Refusal
two_at s i = do
  first ← uleb_fast s i
  second ← uleb_fast s (i + first.len)
  Ok (record { first = first.value; second = second.value; pos = i + first.len + second.len })

-- the four sizes at i, and the offset after them. The fields have two numbers for each pair, and the count of pairs is the low 32 bits
-- of the two sizes' sum
unfoldable pub sizes_at : List ℕ → ℕ → Result Sizes Refusal
sizes_at s i = do
  fields ← two_at s i
  methods ← two_at s fields.pos
  Ok (record
      { fields = 2 * ((fields.first + fields.second) % word); direct = methods.first; virt = methods.second; pos = methods.pos })

-- how many direct and virtual methods the class data item at i has, and the offset of the first of them, after the fields
unfoldable pub methods_at : List ℕ → ℕ → Result Methods Refusal
methods_at s i = do
  sizes ← sizes_at s i
  first ← skipped sizes.fields s sizes.pos
  Ok (record { direct = sizes.direct; virt = sizes.virt; pos = first })

abbrev pub on_methods : Result Methods Refusal → (ℕ → ℕ → ℕ → Walk) → Walk
on_methods (Ok m) f = f m.direct m.virt m.pos
on_methods (Err r) f = refused r

-- ---- its methods

-- indices with code are below this
abbrev pub most_methods : ℕ
most_methods = 16777216

abbrev pub code_at : List ℕ → ℕ → ℕ → Code
code_at s m c = record { method = m; off = c; units = insns_size s c }

-- the header lies inside, the array has a unit and lies inside
abbrev pub code_inside : List ℕ → ℕ → Bool
code_inside s c =
    leb (c + header_size) (length s) && ltb 0 (insns_size s c) && leb (c + header_size + 2 * insns_size s c) (length s)

-- method m has code offset c; 0 means no code, and no check of the index
abbrev pub with_method : List ℕ → ℕ → ℕ → ℕ → Walk → Walk
with_method s methods m c rest =
    cond (eqb c 0) rest
    (cond (ltb m methods && ltb m most_methods)
    (cond (code_inside s c) (following (code_at s m c ∷ []) rest) (refused CodeOutside)) (refused MethodIndex))

-- n methods from i on; m is the index before them, and `methods` counts the method ids
unfoldable pub methods_from : ℕ → List ℕ → ℕ → ℕ → ℕ → Walk
methods_from zero s methods i m = found [] i
methods_from (suc n) s methods i m =
    with_number s i (λ d a.
    cond (ltb (m + d) word)
    (with_number s a (λ _ b.
    with_number s b (λ o c.
    with_method s methods (m + d) o (methods_from n s methods c (m + d)))))
    (refused MethodIndex))

-- the class data item at i: its direct methods, and then its virtual methods
unfoldable pub class_data_at : List ℕ → ℕ → ℕ → Walk
class_data_at s methods i =
    on_methods (methods_at s i) (λ directs virtuals e. and_on (methods_from directs s methods e 0) (λ f. methods_from virtuals s methods f 0))
