-- What the worked files have in common. All numbers of their class data are single bytes, and all their methods, 0 to n - 1, have one code item;
-- such a file is as demand 3 supposes where tests on its bytes pass. What the operations answer for one is four equations.
-- Assumes nothing.
use Prim.Native.Nat.{ℕ, zero, suc, ◌+◌, ◌*◌, ◌/◌, ◌%◌, ◌^◌, ◌≤◌, ◌<◌}
use native.Mathlib.Omega.{arith}
use mathlib.Core.Path.{◌≡◌, refl}
use mathlib.Core.Logic.{⊎_elim}
use mathlib.Core.Bool.{Bool, true, ◌&&◌}
use mathlib.Core.List.Memᴰ
use mathlib.Core.List.{List, [], ◌∷◌, ◌++◌, Memᴰ}
use lib.Dec.{ltb, leb}
use lib.ListN.{length, length-replicate}
use borrow.Author.Tests.{ltb-true, leb-true}
use Rattle.words.specs.Padded.{zeros}
use Rattle.words.proofs.Shared.{and_left, and_right}
use Rattle.refusal.specs.Outcomes.{success}
use Rattle.tinydex.specs.declared.DexHeader.{DexHeader}
use Rattle.dalvik.specs.Numbers.{byte, le16, le32, Bytes, Uleb128, Uleb128s}
use Rattle.dalvik.specs.Numbers.Leb128.{last_byte}
use Rattle.dalvik.specs.CodeItem.{Code, insns_size}
use Rattle.dalvik.specs.Formats.{length_of}
use Rattle.dalvik.specs.ClassData.{EncodedMethods, ClassData, Defined, CodesOf}
use Rattle.dalvik.specs.ClassData.EncodedMethods.{with_code}
use Rattle.dalvik.specs.ClassData.Defined.{some_data}
use Rattle.dalvik.specs.ClassData.CodesOf.{without_map}
use Rattle.dalvik.specs.Instructions.{Instruction, Reached}
use Rattle.dalvik.specs.Instructions.Reached.{past_instruction}
use Rattle.dalvik.specs.Instructions.Kind.{strings}
use Rattle.code_table.specs.Build.{Build}
use Rattle.code_table.specs.Answer.{table_words}
use Rattle.code_item_scan.specs.Scan.{Hit}
use Rattle.code_item_scan.specs.Answers.{hit_words}
use Rattle.insn_locator.specs.Answers.{locate_words}
use Rattle.slot_listing.specs.Listing.{list_out}
use Rattle.completeness.specs.Completeness.{most_bytes, method_limit, Distinct, methods_of, ArrayOf, Supposed}
use Rattle.completeness.specs.Completeness.{FindWords, find_words, most_entries, Enough}
use Rattle.completeness.specs.Completeness.CoincideOrApart.{coincide}
use Rattle.completeness.proofs.Outcomes.{Lent, handed_on, built_of, scanned_of, located_of}
use Rattle.completeness.proofs.Enough.{lent_of}

abbrev all_bytes : List ℕ → Bool
all_bytes [] = true
all_bytes (x ∷ xs) = ltb x 256 && all_bytes xs

are_bytes : (xs : List ℕ) → all_bytes xs ≡ true → Bytes xs
are_bytes [] e i = omega arith
are_bytes (x ∷ xs) e zero = ltb-true x 256 (and_left (ltb x 256) (all_bytes xs) e)
are_bytes (x ∷ xs) e (suc i) = are_bytes xs (and_right (ltb x 256) (all_bytes xs) e) i

-- method m, with the code item at off
abbrev pub code_of : ℕ → ℕ → ℕ → Code
code_of off units m = record { method = m; off = off; units = units }

-- n such methods, from m on
abbrev pub codes_from : ℕ → ℕ → ℕ → ℕ → List Code
codes_from off units zero m = []
codes_from off units (suc n) m = code_of off units m ∷ codes_from off units n (suc m)

module _ (s : List ℕ) where
  -- ---- class data, its numbers of one byte
  abbrev Small : ℕ → Type 0
  Small i = ((ltb i (length s) && ltb (byte s i) 128) ≡ true)

  pub one_byte : (i : ℕ) → Small i → Uleb128 s i (byte s i) (i + 1)
  one_byte i t =
      let inside : i < length s = ltb-true i (length s) (and_left (ltb i (length s)) (ltb (byte s i) 128) t) in
      let l : byte s i < 128 = ltb-true (byte s i) 128 (and_right (ltb i (length s)) (ltb (byte s i) 128) t) in
      record { number = last_byte inside l; fits = omega arith }

  -- a method with code, of three bytes
  pub coded : {n m e : ℕ} {cs : List Code} (i : ℕ)
      → Small i × Small (i + 1) × Small (i + 1 + 1) × (ltb (m + byte s i) (2 ^ 32) ≡ true) × (ltb 0 (byte s (i + 1 + 1)) ≡ true)
      → EncodedMethods s n (i + 1 + 1 + 1) (m + byte s i) cs e
      → EncodedMethods s (suc n) i m (record { method = m + byte s i; off = byte s (i + 1 + 1); units = insns_size s (byte s (i + 1 + 1)) } ∷ cs) e
  coded {m = m} i t rest =
      let some : 0 < byte s (i + 1 + 1) = ltb-true 0 (byte s (i + 1 + 1)) t.4 in
      with_code (one_byte i t.0) (ltb-true (m + byte s i) (2 ^ 32) t.3) (one_byte (i + 1) t.1) (one_byte (i + 1 + 1) t.2)
      (λ q. omega arith) rest

  pub class_data : {f g e : ℕ} {ds vs : List Code} (i : ℕ) → Small i × Small (i + 1) × Small (i + 1 + 1) × Small (i + 1 + 1 + 1)
      → Uleb128s s (2 * (byte s i + byte s (i + 1))) (i + 1 + 1 + 1 + 1) f
      → EncodedMethods s (byte s (i + 1 + 1)) f 0 ds g → EncodedMethods s (byte s (i + 1 + 1 + 1)) g 0 vs e
      → ClassData s i (ds ++ vs) e
  class_data {f} {g} {ds = ds} {vs = vs} i t fields direct virtual = record {
    static_fields_size = byte s i;
    instance_fields_size = byte s (i + 1);
    direct_methods_size = byte s (i + 1 + 1);
    virtual_methods_size = byte s (i + 1 + 1 + 1);
    a = i + 1;
    b = i + 1 + 1;
    c = i + 1 + 1 + 1;
    d = i + 1 + 1 + 1 + 1;
    f = f;
    g = g;
    size_statics = one_byte i t.0;
    size_instances = one_byte (i + 1) t.1;
    size_directs = one_byte (i + 1 + 1) t.2;
    size_virtuals = one_byte (i + 1 + 1 + 1) t.3;
    fields = fields;
    in_directs = ds;
    in_virtuals = vs;
    direct = direct;
    virtual = virtual;
    all = refl;
  }

  -- a file without map, whose only class definition has class data at 32, and these one method with code, a direct one
  pub one_method : (off units : ℕ) → (leb 32 (length s) ≡ true) × (le32 s 24 ≡ 32)
      → Small 32 × Small 33 × Small 34 × Small 35 × Small 36 × Small 37 × Small 38
      → (byte s 32 ≡ 0) × (byte s 33 ≡ 0) × (byte s 34 ≡ 1) × (byte s 35 ≡ 0) × (byte s 36 ≡ 0)
      → (byte s 38 ≡ off) × (insns_size s off ≡ units) × (ltb 0 off ≡ true)
      → CodesOf s 0 0 1 (codes_from off units 1 0)
  one_method off units a t b c =
      let is : record { method = 0 + byte s 36; off = byte s 38; units = insns_size s (byte s 38) } ≡ code_of off units 0 = rw (b.4, c.0, c.1) in
      let coded-one : EncodedMethods s 1 36 0 (code_of off units 0 ∷ []) 39 =
      rw is at (coded {m = 0} 36 (t.4, t.5, t.6, rw b.4, rw (c.0, c.2)) EncodedMethods.no_more) in
      let data-at : ClassData s 32 (code_of off units 0 ∷ []) 39 =
      class_data {f = 36} {g = 39} {ds = code_of off units 0 ∷ []} {vs = []} 32 (t.0, t.1, t.2, t.3) (rw (b.0, b.1) Uleb128s.no_more) (rw b.2 coded-one) (rw b.3 EncodedMethods.no_more) in
      without_map refl
      (some_data {i = 0} {e = 39} {cs = code_of off units 0 ∷ []} {ds = []} (leb-true 32 (length s) a.0) (λ q. omega (arith, a.1))
      (rw a.1 data-at) Defined.no_more)

  -- ---- an instruction, after which the array goes on. A unit below 0x0100 opens no payload
  pub next : {e q : ℕ} (p : ℕ)
      → (ltb (le16 s p) 256 ≡ true) × (ltb 0 (length_of (byte s p)) ≡ true) × (leb (p + 2 * length_of (byte s p)) e ≡ true)
      → Reached s e (p + 2 * length_of (byte s p)) q → Reached s e p q
  next {e} p t rest =
      let h : le16 s p < 256 = ltb-true (le16 s p) 256 t.0 in
      let there : Instruction s p (length_of (byte s p)) = record {
        no_packed_switch = λ q. omega arith;
        no_sparse_switch = λ q. omega arith;
        no_fill_array_data = λ q. omega arith;
        size = refl;
        some_size = ltb-true 0 (length_of (byte s p)) t.1;
      } in
      past_instruction there (leb-true (p + 2 * length_of (byte s p)) e t.2) rest

  -- ---- the supposition
  module _ (off units : ℕ) where
    one_of : (n k : ℕ) (c : Code) → Memᴰ c (codes_from off units n k) → (m : ℕ) × (m < k + n) × (c ≡ code_of off units m)
    one_of zero k c h = absurd (Memᴰ.not-nil h)
    one_of (suc n) k c h =
        ⊎_elim (λ e. (k, omega arith, e)) (λ l. let r = one_of n (suc k) c l in (r.0, omega (arith, r.1), r.2)) (Memᴰ.cases_cons h)

    from_first : (n k x : ℕ) → Memᴰ x (methods_of (codes_from off units n k)) → k ≤ x
    from_first zero k x h = absurd (Memᴰ.not-nil h)
    from_first (suc n) k x h = ⊎_elim (λ (e : x ≡ k). omega arith) (λ l. omega (arith, from_first n (suc k) x l)) (Memᴰ.cases_cons h)

    distinct : (n k : ℕ) → Distinct (methods_of (codes_from off units n k))
    unfolding Distinct
    distinct zero k = tt
    distinct (suc n) k = ((λ h. omega (arith, from_first n (suc k) k h)), distinct n (suc k))

    pub supposed : {mapoff classes_off classes : ℕ} (n : ℕ)
        → (all_bytes s ≡ true) × (leb (length s) most_bytes ≡ true) × (leb n method_limit ≡ true) × (off % 4 ≡ 0)
        × (leb (off + 16 + 2 * units) (length s) ≡ true)
        → CodesOf s mapoff classes_off classes (codes_from off units n 0) → ((m : ℕ) → ArrayOf s (code_of off units m))
        → Supposed s mapoff classes_off classes n (codes_from off units n 0)
    supposed n t found array =
        let few : n ≤ method_limit = leb-true n method_limit t.2 in
        record {
          bytes = are_bytes s t.0;
          small = leb-true (length s) most_bytes t.1;
          found = found;
          once = distinct n 0;
          each = λ x h. let r = one_of n 0 x h in
              rw r.2
              (record {
                below = omega (arith, r.1);
                small = omega (arith, r.1);
                aligned = t.3;
                inside = leb-true (off + 16 + 2 * units) (length s) t.4;
                array = array r.0;
              });
          apart = λ x y h k. let r = one_of n 0 x h in let q = one_of n 0 y k in rw (r.2, q.2) (coincide refl refl);
        }

-- ---- buffers of just the lengths that are enough
abbrev pub least : ℕ → ℕ → ℕ → FindWords
least n methods kind =
    find_words (table_words (zeros (2 * methods)) (zeros (3 * methods)) (zeros (n / 16)) (zeros (3 * methods)))
    (hit_words (zeros (most_entries kind n)) (zeros (most_entries kind n))) (locate_words (zeros methods) (zeros (most_entries kind n)))

pub least_enough : (n methods kind : ℕ) → Enough n methods kind (least n methods kind)
least_enough n methods kind = record {
  starts = exactly (2 * methods);
  triples = exactly (3 * methods);
  slots = exactly (n / 16);
  shares = exactly (3 * methods);
  offs = exactly (most_entries kind n);
  marks = exactly (most_entries kind n);
  further = exactly methods;
  answers = exactly (most_entries kind n);
}
  where
    exactly : (k : ℕ) → k ≤ length (zeros k)
    exactly k = omega (arith, length-replicate {A = ℕ} k 0)

-- ---- a file, its record, and what the operations answer: string 5 is wanted
pub record Worked : Type 0 where
  pub file : List ℕ
  pub header : DexHeader
  pub built : Build
  pub hits : List Hit
  pub answers : List ℕ
  -- the slot that is listed, and its methods
  pub slot : ℕ
  pub methods : List ℕ

abbrev pub header_of : ℕ → ℕ → ℕ → DexHeader
header_of methods classes mapoff = record {
  strings = record { off = 0; size = 0 };
  types = record { off = 0; size = 0 };
  prototypes = record { off = 0; size = 0 };
  fields = record { off = 0; size = 0 };
  methods = record { off = 0; size = methods };
  classes = record { off = 0; size = classes };
  mapoff = mapoff;
}

abbrev lent_to : Worked → Lent
lent_to W = lent_of W.header.methods.size (least (length W.file) W.header.methods.size 1)

pub record Computed (W : Worked) : Type 0 where
  pub build : built_of W.file W.header (lent_to W) ≡ W.built
  pub scan : scanned_of W.file strings (5 ∷ []) (lent_to W) W.built ≡ record { number = 0; hits = W.hits }
  pub located : located_of W.file (lent_to W) W.built (record { number = 0; hits = W.hits }) ≡ success W.answers
  pub listed : list_out (handed_on (lent_to W) W.built).shares W.slot (length W.methods) ≡ success W.methods
