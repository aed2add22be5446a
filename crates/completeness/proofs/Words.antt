-- What holds of the outcomes holds of the words that the operations leave: a lent slice reads as the outcome's list, and the zeros after it
-- are never an entry.
-- Assumes nothing.
use Prim.Native.Nat.{ℕ, zero, suc, ◌<◌}
use mathlib.Core.Path.{◌≡◌, refl, sym, ap, ◌∙◌}
use mathlib.Core.Logic.{◌≢◌}
use mathlib.Core.List.{List, [], ◌∷◌, Memᴰ}
use lib.ListN.{length, get_or}
use Rattle.dalvik.specs.CodeItem.{Code}
use Rattle.dalvik.specs.Instructions.{Kind}
use Rattle.code_item_scan.specs.Scan.{Hit, offs, marks}
use Rattle.completeness.specs.Completeness.{FindWords, entry_at, Lists, NamesWanted, Shows, Delivers}
use Rattle.completeness.proofs.Outcomes.{Ran, Rising, Confirmed, Shown, Finds}

abbrev no_hit : Hit
no_hit = record { off = 0; mark = 0 }

-- word k of the offsets and of the indices is that of hit k
off_at : (hs : List Hit) (k : ℕ) → get_or (offs hs) k 0 ≡ (get_or hs k no_hit).off
off_at [] k = refl
off_at (h ∷ hs) zero = refl
off_at (h ∷ hs) (suc k) = off_at hs k

mark_at : (hs : List Hit) (k : ℕ) → get_or (marks hs) k 0 ≡ (get_or hs k no_hit).mark
mark_at [] k = refl
mark_at (h ∷ hs) zero = refl
mark_at (h ∷ hs) (suc k) = mark_at hs k

hit_is : (x : Hit) (o m : ℕ) → x.off ≡ o → x.mark ≡ m → x ≡ record { off = o; mark = m }
hit_is x o m p q = rw (← p, ← q)

length_offs : (hs : List Hit) → length (offs hs) ≡ length hs
length_offs [] = refl
length_offs (h ∷ hs) = ap suc (length_offs hs)

-- the words read as the outcomes' lists
pub record Holds (R : Ran) (w : FindWords) : Type 0 where
  pub shares : w.table.shares ≡ R.shares
  pub offs : (k : ℕ) → get_or w.hits.offs k 0 ≡ get_or (offs R.scan.hits) k 0
  pub marks : (k : ℕ) → get_or w.hits.marks k 0 ≡ get_or (marks R.scan.hits) k 0
  pub answers : (k : ℕ) → get_or w.located.answers k 0 ≡ get_or R.located.list k 0

module _ {s : List ℕ} {codes : List Code} {kind : Kind} {wanted : List ℕ} {R : Ran} {w : FindWords} (F : Finds s codes kind wanted R) (H : Holds R w) where
  abbrev hits : List Hit
  hits = R.scan.hits

  same_lists : (c : Code) {shares shares' : List ℕ} {slot slot' : ℕ} → shares' ≡ shares → slot' ≡ slot
      → Lists codes c shares slot → Lists codes c shares' slot'
  same_lists c p t l = rw (p, t) l

  shows : (c : Code) → Memᴰ c codes → (off index : ℕ) → NamesWanted s c kind wanted off index → Shows codes c (length hits) w off index
  shows c m off index N =
      let x : Shown codes c R off index = F.none_missing c m off index N in
      let E : Confirmed hits R.located.list x.k off index x.slot = x.entry in
      record {
        k = x.k;
        in_list = E.in_list;
        offset = H.offs x.k ∙ (off_at hits x.k ∙ ap (λ (z : Hit). z.off) E.entry);
        mark = H.marks x.k ∙ (mark_at hits x.k ∙ ap (λ (z : Hit). z.mark) E.entry);
        confirmed = λ z. E.confirmed (sym E.answer ∙ (sym (H.answers x.k) ∙ z));
        lists = same_lists c H.shares (H.answers x.k ∙ E.answer) x.lists;
      }

  rises : (i j : ℕ) → i < j → j < length hits → (entry_at w i).off < (entry_at w j).off
  unfolding Rising
  rises i j p q =
      let q' : j < length (offs hits) = rw (length_offs hits) q in
      let z : get_or (offs hits) i 0 < get_or (offs hits) j 0 = F.rising i j p q' in
      rw (H.offs i, H.offs j) z

  entry_of : (k : ℕ) → k < length hits → (entry_at w k).slot ≢ 0
      → Confirmed hits R.located.list k (entry_at w k).off (entry_at w k).index (entry_at w k).slot
  entry_of k l n = record {
    in_list = l;
    entry =
        hit_is (get_or hits k no_hit) (entry_at w k).off (entry_at w k).index
        (sym (off_at hits k) ∙ sym (H.offs k)) (sym (mark_at hits k) ∙ sym (H.marks k));
    answer = sym (H.answers k);
    confirmed = n;
  }

  pub delivers : Delivers s codes kind wanted (length hits) w
  delivers = record {
    none_missing = shows;
    none_invented = λ k l n. rw H.shares (F.none_invented k (entry_at w k).off (entry_at w k).index (entry_at w k).slot (entry_of k l n));
    rising = rises;
  }
