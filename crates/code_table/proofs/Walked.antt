-- Laws from the walk over the class data to the outcome of the build. Both test the file's size and the start words first, so a refusal
-- of the walk is the build's, and codes found are sound: the walk refuses an empty array and one that is not inside.
--     lost                          a refusal of the walk
--     gained                        codes found
--     sound_at                      what the walk lets pass
--     taken_triples, gives_gained   what `codes` leaves, and the build makes of it
-- Assumes nothing.
use Rattle.std.specs.Prelude.{Result}
use mathlib.Core.Path.{◌≡◌, sym, ap, subst⁻¹, ◌∙◌}
use mathlib.Core.List.{List, [], ◌∷◌}
use mathlib.Core.Bool.{Bool, true, false, cond, ◌&&◌}
use Prim.Native.Nat.{ℕ, zero, suc, ◌-◌, ◌*◌, ◌≤◌, ◌<◌}
use native.Mathlib.Omega.{arith}
use lib.Dec.{leb}
use lib.ListN.{length, get_or}
use borrow.Author.Tests.{le-ltb, le-leb}
use Rattle.words.specs.Padded.{padded}
use Rattle.refusal.specs.Refusals.{refusal_number, largest_file, is_too_large}
use Rattle.refusal.specs.declared.Refusal.{Refusal}
use Rattle.refusal.specs.declared.Refusal.TheVariants.{FileTooLarge, LentTooShort}
use Rattle.start_words.specs.Starts.{pairs_in}
use Rattle.tinydex.specs.declared.DexHeader.{DexHeader}
use Rattle.dalvik.specs.CodeItem.{Code}
use Rattle.class_data.specs.Walk.{Walk}
use Rattle.class_data.specs.Walk.Walk.{refused, found}
use Rattle.class_data.specs.Codes.{codes_of}
use Rattle.class_data.specs.Found.{fitting, codes_in}
use Rattle.class_data.specs.Stored.{CodeWords, code_words, triples_of, starts_of}
use Rattle.class_data.proofs.Found.{CodeIn, Each, codes_sound, Taken}
use Rattle.code_table.specs.Slots.{table_of, base_of, top_of}
use Rattle.code_table.specs.Build.{Room, Build, no_build, built_from, build_out, whole_build, most_shares}
use Rattle.code_table.specs.Answer.{TableWords, room_of, GivesBuild}
use Rattle.code_table.specs.Steps.{no_code, Sound, Triples, Finished}
use Rattle.code_table.specs.declared.Built.{Built}

-- what a walk refuses, an outcome refuses with the same number
abbrev Loses : Refusal → Walk → Build → Type 0
Loses r w b = refused r ≡ w → b ≡ no_build (refusal_number r)

both : (r : Refusal) (t : Bool) (w v : Walk) (b c : Build) → Loses r w b → Loses r v c → Loses r (cond t w v) (cond t b c)
both r true w v b c f g = f
both r false w v b c f g = g

itself : (r q : Refusal) → Loses r (refused q) (no_build (refusal_number q))
itself r q e =
    let z : q ≡ r = cc in
    ap (λ (x : Refusal). no_build (refusal_number x)) z

-- codes found are no refusal
apart : {A : Type 0} (r : Refusal) (cs : List Code) (n : ℕ) → refused r ≡ found cs n → A
apart r cs n e =
    let z : ◌≡◌ {A = ℕ} 0 1 = cc in
    absurd (omega arith)

unfit : (r : Refusal) (w : Walk) (o : Build) (a b c d : Bool) → (refused r ≡ w → ⊥)
    → Loses r (cond a w (refused LentTooShort)) (cond (a && b && c && d) o (no_build 4))
unfit r w o true b c d f q = absurd (f q)
unfit r w o false b c d f q = itself r LentTooShort q

module _ (s : List ℕ) (h : DexHeader) (room : Room) (r : Refusal) where
  fits_not : (m : ℕ) (w : Walk) → Loses r (fitting room.triples w) (built_from (length s) m room w)
  fits_not m (refused q) e = itself r q e
  fits_not m (found cs n) e =
      unfit r (found cs n) (whole_build (length s) m cs) (leb (3 * length cs) room.triples) (leb (top_of cs - base_of cs) room.slots)
      (leb (length (table_of cs).shares) room.shares) (leb (length (table_of cs).shares) most_shares) (λ q. apart r cs n q) e

  pub lost : refused r ≡ codes_in s h room.triples room.starts → build_out s h room ≡ no_build (refusal_number r)
  unfolding codes_in build_out
  lost =
      both r (is_too_large (length s)) _ _ _ _ (itself r FileTooLarge)
      (both r (leb h.methods.size (pairs_in room.starts)) _ _ _ _ (fits_not h.methods.size (codes_of s h)) (itself r LentTooShort))

pub gained : (s : List ℕ) (h : DexHeader) (room : Room) (w : Walk) → w ≡ codes_of s h → length s ≤ largest_file → h.methods.size ≤ pairs_in room.starts
    → build_out s h room ≡ built_from (length s) h.methods.size room w
unfolding build_out
gained s h room w e p q = rw (le-ltb largest_file (length s) p, le-leb h.methods.size (pairs_in room.starts) q, e)

-- what holds of each code holds of code i
each_at : (P : Code → Type 0) (cs : List Code) → Each P cs → (i : ℕ) → i < length cs → P (get_or cs i no_code)
each_at P [] E i h = absurd (omega arith)
each_at P (c ∷ cs) E zero h = E.0
each_at P (c ∷ cs) E (suc i) h = each_at P cs E.1 i (omega arith)

sound_code : (s : List ℕ) (m : ℕ) (c : Code) → length s ≤ largest_file → CodeIn s m c → Sound c
sound_code s m c h C =
    let p = C.some in
    let q = C.inside in
    record { rises = omega arith; inside = omega arith; small = C.small }

-- codes found are sound
pub sound_at : (s : List ℕ) (h : DexHeader) (cs : List Code) (e : ℕ) → found cs e ≡ codes_of s h → length s ≤ largest_file
    → (i : ℕ) → i < length cs → Sound (get_or cs i no_code)
sound_at s h cs e w p i q = sound_code s h.methods.size _ p (each_at _ cs (codes_sound s h cs e w) i q)

-- what the outcome says of lent words, only their lengths decide
same_room : {b : Build} {r : Result Built Refusal} (before mid after : TableWords) → room_of mid ≡ room_of before → GivesBuild b r mid after
    → GivesBuild b r before after
same_room {b} before mid after e G = record {
  number = G.number;
  from = G.from;
  to = G.to;
  code_count = G.code_count;
  slot_count = G.slot_count;
  share_words = G.share_words;
  starts = G.starts ∙ ap (λ (x : Room). padded x.starts b.starts) e;
  triples = G.triples ∙ ap (λ (x : Room). padded x.triples b.triples) e;
  slots = G.slots ∙ ap (λ (x : Room). padded x.slots b.slots) e;
  shares = G.shares ∙ ap (λ (x : Room). padded x.shares b.shares) e;
}

-- those of the lent words that `codes` fills
abbrev pub filled : TableWords → CodeWords
filled w = code_words w.triples w.starts

-- `codes` found n codes: the lent words before the build, and after `codes`
module _ {s : List ℕ} {h : DexHeader} {n : ℕ} (before mid : TableWords)
    (K : Taken s h n (filled before) (filled mid)) (l : room_of mid ≡ room_of before) where
  pub taken_triples : Triples mid.triples n K.codes
  taken_triples = record {
    words = K.triples ∙ ap (λ (x : Room). padded x.triples (triples_of K.codes)) (sym l);
    there = omega (arith, K.fits, K.count, ap (λ (x : Room). x.triples) l);
    count = sym K.count;
    sound = λ i q. sound_at s h K.codes K.next K.walk K.small i (omega (arith, K.count));
  }

  pub gives_gained : (r : Result Built Refusal) (after : TableWords) → Finished (length s) n r mid after
      → GivesBuild (build_out s h (room_of before)) r before after
  gives_gained r after F =
      let m = h.methods.size in
      let w : Walk = found K.codes K.next in
      let G = F m K.next K.codes taken_triples (K.starts ∙ ap (λ (x : Room). padded x.starts (starts_of m K.codes)) (sym l)) in
      let q : build_out s h (room_of before) ≡ built_from (length s) m (room_of mid) w =
      gained s h (room_of before) _ K.walk K.small K.room ∙ ap (λ (x : Room). built_from (length s) m x w) (sym l) in
      subst⁻¹ (λ (o : Build). GivesBuild o r before after) q (same_room before mid after l G)
