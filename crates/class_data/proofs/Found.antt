-- What the codes of a file keep to, and an answer of `codes`, taken apart. What holds of each class data item's codes holds of all.
-- Assumes nothing.
use Rattle.std.specs.Prelude.{Ok, Err, Option, None, Some}
use Prim.Native.Nat.{ℕ, zero, suc, ◌+◌, ◌*◌, ◌≤◌}
use native.Mathlib.Omega.{arith}
use mathlib.Core.Path.{◌≡◌, refl, sym, ap, subst, ◌∙◌}
use mathlib.Core.Bool.{Bool, true, false, cond}
use mathlib.Core.List.{List}
use lib.ListN.{length}
use lib.Dec.{leb, eqb}
use borrow.Author.Tests.{ltb-false, leb-true}
use Rattle.words.proofs.Shared.{cond_elim}
use Rattle.words.specs.Padded.{zeros, padded}
use Rattle.words.proofs.Padded.{padded_none}
use Rattle.start_words.specs.Starts.{pairs_in, pair_count}
use Rattle.refusal.specs.Refusals.{largest_file, is_too_large}
use Rattle.refusal.specs.declared.Refusal.{Refusal}
use Rattle.refusal.specs.declared.Refusal.TheVariants.{FileTooLarge, LentTooShort}
use Rattle.dalvik.specs.CodeItem.{Code}
use Rattle.dalvik.specs.ClassData.{class_def_size, class_data_off}
use Rattle.dalvik.specs.MapList.{map_size, map_offset}
use Rattle.tinydex.specs.declared.DexHeader.{DexHeader}
use Rattle.class_data.specs.Walk.{Walk, following, and_on, class_data_at}
use Rattle.class_data.specs.Walk.Walk.{refused, found}
pub use Rattle.class_data.proofs.Within.{CodeIn, Each}
use Rattle.class_data.proofs.Within.{each_append, WithinR, class_within}
use Rattle.class_data.specs.Codes.{successive, defined, map_entry, by_entry, codes_of}
use Rattle.class_data.specs.Stored.{CodeWords, triples_of, starts_of}
use Rattle.class_data.specs.Found.{fitting, codes_in, codes_for, GivesCodes}
pub use Rattle.class_data.proofs.Kept.{length_triples}

-- ---- all codes of a file
abbrev EachR : List ℕ → ℕ → Walk → Type 0
EachR s m (refused r) = Unit {0}
EachR s m (found cs e) = Each (CodeIn s m) cs

module _ (s : List ℕ) (m : ℕ) where
  within_each : (i : ℕ) (v : Walk) → WithinR s m i v → EachR s m v
  within_each i (refused r) h = tt
  within_each i (found cs e) h = h.each

  each_following : (cs : List Code) (v : Walk) → Each (CodeIn s m) cs → EachR s m v → EachR s m (following cs v)
  each_following cs (refused r) a h = tt
  each_following cs (found ds e) a h = each_append (CodeIn s m) cs ds a h

  each_on : (v : Walk) (f : ℕ → Walk) → EachR s m v → ((e : ℕ) → EachR s m (f e)) → EachR s m (and_on v f)
  each_on (refused r) f a b = tt
  each_on (found cs e) f a b = each_following cs (f e) a (b e)

  class_each : (i : ℕ) → EachR s m (class_data_at s m i)
  class_each i = within_each 0 (class_data_at s m i) (class_within s m i)

  successive_each : (n i : ℕ) → EachR s m (successive n s m i)
  unfolding successive
  successive_each zero i = tt
  successive_each (suc n) i = each_on (class_data_at s m i) (λ e. successive n s m e) (class_each i) (λ e. successive_each n e)

  defined_each : (n i : ℕ) → EachR s m (defined n s m i)
  unfolding defined
  defined_each zero i = tt
  defined_each (suc n) i =
      cond_elim (EachR s m) (leb (i + 28) (length s)) _ _
      (λ _. cond_elim (EachR s m) (eqb (class_data_off s i) 0) _ _
      (λ _. defined_each n (i + class_def_size))
      (λ _. each_on (class_data_at s m (class_data_off s i)) (λ e. defined n s m (i + class_def_size)) (class_each (class_data_off s i))
      (λ e. defined_each n (i + class_def_size))))
      (λ _. tt)

entry_each : (s : List ℕ) (h : DexHeader) (r : Option ℕ) → EachR s h.methods.size (by_entry s h r)
entry_each s h None = defined_each s h.methods.size h.classes.size h.classes.off
entry_each s h (Some e) = successive_each s h.methods.size (map_size s e) (map_offset s e)

pub codes_sound : (s : List ℕ) (h : DexHeader) (cs : List Code) (e : ℕ) → found cs e ≡ codes_of s h → Each (CodeIn s h.methods.size) cs
unfolding codes_of
codes_sound s h cs e q = subst (EachR s h.methods.size) (sym q) (entry_each s h (map_entry s h.mapoff))

-- ---- an answer of `codes`, taken apart
record Fit (s : List ℕ) (h : DexHeader) (nt nz : ℕ) (cs : List Code) (e : ℕ) : Type 0 where
  small : length s ≤ largest_file
  room : h.methods.size ≤ pairs_in nz
  walk : found cs e ≡ codes_of s h
  fits : 3 * length cs ≤ nt

fit_test : (b : Bool) (cs ds : List Code) (e i : ℕ) → found cs e ≡ cond b (found ds i) (refused LentTooShort) → (b ≡ true) × (found cs e ≡ found ds i)
fit_test true cs ds e i q = (refl, q)
fit_test false cs ds e i q = absurd (let x : ◌≡◌ {A = ℕ} 0 1 = cc in omega arith)

fit_walk : (nt : ℕ) (v : Walk) (cs : List Code) (e : ℕ) → found cs e ≡ fitting nt v → (found cs e ≡ v) × (3 * length cs ≤ nt)
fit_walk nt (refused r) cs e q = absurd (let x : ◌≡◌ {A = ℕ} 0 1 = cc in omega arith)
fit_walk nt (found ds i) cs e q =
    let t = fit_test (leb (3 * length ds) nt) cs ds e i q in
    let y = t.1 in
    let d : cs ≡ ds = cc in
    (y, omega (arith, ap length d, leb-true (3 * length ds) nt t.0))

fit_room : (b : Bool) (nt : ℕ) (v : Walk) (cs : List Code) (e : ℕ) → found cs e ≡ cond b (fitting nt v) (refused LentTooShort)
    → (b ≡ true) × (found cs e ≡ fitting nt v)
fit_room true nt v cs e q = (refl, q)
fit_room false nt v cs e q = absurd (let x : ◌≡◌ {A = ℕ} 0 1 = cc in omega arith)

fit_size : (b : Bool) (v : Walk) (cs : List Code) (e : ℕ) → found cs e ≡ cond b (refused FileTooLarge) v → (b ≡ false) × (found cs e ≡ v)
fit_size true v cs e q = absurd (let x : ◌≡◌ {A = ℕ} 0 1 = cc in omega arith)
fit_size false v cs e q = (refl, q)

codes_fit : (s : List ℕ) (h : DexHeader) (nt nz : ℕ) (cs : List Code) (e : ℕ) → found cs e ≡ codes_in s h nt nz → Fit s h nt nz cs e
unfolding codes_in
codes_fit s h nt nz cs e q =
    let a = fit_size (is_too_large (length s)) _ cs e q in
    let b = fit_room (leb h.methods.size (pairs_in nz)) nt (codes_of s h) cs e a.1 in
    let d = fit_walk nt (codes_of s h) cs e b.1 in
    record { small = ltb-false _ _ a.0; room = leb-true _ _ b.0; walk = d.0; fits = d.1 }

pub record Taken (s : List ℕ) (h : DexHeader) (n : ℕ) (before after : CodeWords) : Type 0 where
  pub codes : List Code
  pub next : ℕ
  pub walk : found codes next ≡ codes_of s h
  pub small : length s ≤ largest_file
  pub room : h.methods.size ≤ pair_count before.starts
  pub fits : 3 * length codes ≤ length before.triples
  pub count : n ≡ length codes
  pub triples : after.triples ≡ padded (length before.triples) (triples_of codes)
  pub starts : after.starts ≡ padded (length before.starts) (starts_of h.methods.size codes)
  pub each : Each (CodeIn s h.methods.size) codes

pub record NotTaken (s : List ℕ) (h : DexHeader) (r : Refusal) (before after : CodeWords) : Type 0 where
  pub walk : refused r ≡ codes_for s h before
  pub triples : after.triples ≡ zeros (length before.triples)
  pub starts : after.starts ≡ zeros (length before.starts)

module _ (s : List ℕ) (h : DexHeader) (before after : CodeWords) where
  taken_by : (n : ℕ) (v : Walk) → v ≡ codes_for s h before → GivesCodes h.methods.size v (Ok n) before after → Taken s h n before after
  taken_by n (refused r) e g = absurd (let a = g.answer in let x : ◌≡◌ {A = ℕ} 0 1 = cc in omega arith)
  taken_by n (found cs i) e g =
      let f = codes_fit s h (length before.triples) (length before.starts) cs i e in
      let a = g.answer in
      record {
        codes = cs;
        next = i;
        walk = f.walk;
        small = f.small;
        room = f.room;
        fits = f.fits;
        count = (cc);
        triples = g.triples;
        starts = g.starts;
        each = codes_sound s h cs i f.walk;
      }

  pub taken : (n : ℕ) → GivesCodes h.methods.size (codes_for s h before) (Ok n) before after → Taken s h n before after
  taken n g = taken_by n (codes_for s h before) refl g

  not_by : (r : Refusal) (v : Walk) → v ≡ codes_for s h before → GivesCodes h.methods.size v (Err r) before after → NotTaken s h r before after
  not_by r (refused y) e g =
      let a = g.answer in
      let x : refused r ≡ refused y = cc in
      record {
        walk = x ∙ e;
        triples = g.triples ∙ padded_none (length before.triples);
        starts = g.starts ∙ padded_none (length before.starts);
      }
  not_by r (found cs i) e g = absurd (let a = g.answer in let x : ◌≡◌ {A = ℕ} 0 1 = cc in omega arith)

  pub not_taken : (r : Refusal) → GivesCodes h.methods.size (codes_for s h before) (Err r) before after → NotTaken s h r before after
  not_taken r g = not_by r (codes_for s h before) refl g
