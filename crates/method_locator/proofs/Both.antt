-- Both builds as one operation: where one refuses nothing is left of the other, else each is its own.
-- Assumes nothing.
use Rattle.std.specs.Prelude.{Result, Ok, Err, is_err}
use Prim.Native.Nat.{ℕ}
use mathlib.Core.Path.{◌≡◌, refl, sym, subst, ◌∙◌}
use mathlib.Core.Bool.{cond, true, true≢false}
use mathlib.Core.List.{List, [], ◌∷◌}
use lib.ListN.{length}
use lib.Dec.{ltb}
use Rattle.dalvik.specs.Ids.{method_id_size, method_class_idx, method_name_idx}
use Rattle.tinydex.specs.declared.DexHeader.{DexHeader}
use Rattle.refusal.specs.declared.Refusal.{Refusal}
use Rattle.refusal.specs.Refusals.{refusal_number}
use Rattle.refusal.proofs.Numbers.{some_number}
use Rattle.groups.specs.Groups.{ids_with}
use Rattle.groups.specs.Stretch.{stretch_of}
use Rattle.groups.specs.Built as one
use Rattle.groups.specs.Built.{GroupWords, Laid}
use Rattle.groups.specs.Join.{first_refusal}
use Rattle.groups.proofs.Join.{first_next, first_here, zero_first, kept_all, part_words, part_count, part_done, part_none, none_counted}
use Rattle.groups.proofs.Found.{found_part}
use Rattle.method_locator.specs.declared.Built.{Built}
use Rattle.method_locator.specs.Built.{MethodWords, Outcome, joint, outcome, clz_outcome, name_outcome, Gives, built_number}
use Rattle.method_locator.specs.Steps.{Cleared, BothBuilt}

module _ (c f : one.Outcome) {before after : MethodWords} where
  pub both_done : (x y : ℕ) → one.Gives c (Ok x) before.clz after.clz → one.Gives f (Ok y) before.name after.name
      → Gives (joint c f) (Ok (record { clz = x; name = y })) before after
  unfolding joint first_refusal
  both_done x y a b =
      let z : first_refusal (c.number ∷ f.number ∷ []) ≡ 0 =
      first_next c.number (f.number ∷ []) (part_done refl a) ∙ first_next f.number [] (part_done refl b) in
      record {
        number = sym z;
        clz_counted = part_count z refl a;
        name_counted = part_count z refl b;
        clz_words = part_words z a;
        name_words = part_words z b;
      }

  -- one of the builds refuses, and everything is cleared
  all_zero : (r : Refusal) → refusal_number r ≡ first_refusal (c.number ∷ f.number ∷ []) → Cleared before after → Gives (joint c f) (Err r) before after
  unfolding joint
  all_zero r e z =
      let d : first_refusal (c.number ∷ f.number ∷ []) ≡ 0 → ⊥ = λ m. some_number r (e ∙ m) in
      record {
        number = e;
        clz_counted = none_counted c.groups d;
        name_counted = none_counted f.groups d;
        clz_words = part_none c.groups d (record { offs = z.clz_offs; ids = z.clz_ids });
        name_words = part_none f.groups d (record { offs = z.name_offs; ids = z.name_ids });
      }

  pub clz_refused : {b a : GroupWords} (r : Refusal) → one.Gives c (Err r) b a → Cleared before after → Gives (joint c f) (Err r) before after
  clz_refused r g =
      let n : refusal_number r ≡ c.number = g.number in
      all_zero r (n ∙ sym (first_here c.number (f.number ∷ []) (λ m. some_number r (n ∙ m))))

  pub name_refused : {b a b' a' : GroupWords} (x : ℕ) (r : Refusal) → one.Gives c (Ok x) b a → one.Gives f (Err r) b' a'
      → Cleared before after → Gives (joint c f) (Err r) before after
  name_refused x r g h =
      let n : refusal_number r ≡ f.number = h.number in
      all_zero r (n ∙ sym (first_next c.number (f.number ∷ []) (part_done refl g) ∙ first_here f.number [] (λ m. some_number r (n ∙ m))))

-- both, and the words of a refusal cleared
pub cleared_after : (o : Outcome) (r : Result Built Refusal) {before cleared : MethodWords} (after : MethodWords) → BothBuilt o r before after → true ≡ is_err r
    → Cleared before cleared → Gives o r before cleared
cleared_after o (Ok b) after g e z = absurd (true≢false e)
cleared_after o (Err r) {cleared = cleared} after g e z = g cleared z

-- ---- the requests after a build
module _ (s : List ℕ) (h : DexHeader) (r : Result Built Refusal) (before after : MethodWords) (g : Gives (outcome s h before) r before after) (done : built_number r ≡ 0) where
  number : first_refusal ((clz_outcome s h before.clz).number ∷ (name_outcome s h before.name).number ∷ []) ≡ 0
  unfolding joint
  number = sym g.number ∙ done

  zeros_both : ((clz_outcome s h before.clz).number ≡ 0) × (first_refusal ((name_outcome s h before.name).number ∷ []) ≡ 0)
  zeros_both = zero_first (clz_outcome s h before.clz).number ((name_outcome s h before.name).number ∷ []) number

  -- `clz_slice`: exactly the methods of the class, and none for an index outside the pool
  pub clz_found : (k : ℕ)
      → stretch_of after.clz.offs after.clz.ids k ≡ cond (ltb k h.types.size)
      (ids_with (method_class_idx s h.methods.off) h.methods.size k) []
  unfolding joint
  clz_found k =
      let e =
      kept_all (first_refusal ((clz_outcome s h before.clz).number ∷ (name_outcome s h before.name).number ∷ []))
      (clz_outcome s h before.clz).groups number in
      found_part (length s) h.methods method_id_size (method_class_idx s h.methods.off) h.types.size before.clz zeros_both.0
      (subst (λ (w : GroupWords). Laid w before.clz after.clz) e g.clz_words) k

  -- `name_slice`: the same for the methods of the name
  pub name_found : (k : ℕ)
      → stretch_of after.name.offs after.name.ids k ≡ cond (ltb k h.strings.size)
      (ids_with (method_name_idx s h.methods.off) h.methods.size k) []
  unfolding joint
  name_found k =
      let e =
      kept_all (first_refusal ((clz_outcome s h before.clz).number ∷ (name_outcome s h before.name).number ∷ []))
      (name_outcome s h before.name).groups number in
      found_part (length s) h.methods method_id_size (method_name_idx s h.methods.off) h.strings.size before.name
      (zero_first (name_outcome s h before.name).number [] zeros_both.1).0
      (subst (λ (w : GroupWords). Laid w before.name after.name) e g.name_words) k
