-- The region of a build lies in the file, whatever the file is: the walk over class data lets a code pass only where its array is inside, and a
-- refusal has the region 0 to 0.
--     walked_inside        the codes found
--     region_inside        the outcome's region
--     never_12, never_15   the outcome's number
--     both                 the clauses of the contract, from what the build gives
-- Assumes nothing.
use Rattle.std.specs.Prelude.{Result}
use Prim.Native.Nat.{ℕ, ◌-◌, ◌*◌}
use native.Mathlib.Omega.{arith}
use mathlib.Core.Path.{◌≡◌, refl}
use mathlib.Core.Logic.{◌≢◌, ⊎_elim}
use mathlib.Core.Bool.{◌&&◌}
use mathlib.Core.List.Memᴰ
use mathlib.Core.List.{List, [], ◌∷◌}
use lib.Dec.{leb}
use lib.ListN.{length}
use Rattle.words.proofs.Shared.{cond_elim}
use Rattle.refusal.specs.declared.Refusal.{Refusal}
use Rattle.refusal.specs.Refusals.{refusal_number, is_too_large}
use Rattle.start_words.specs.Starts.{pairs_in}
use Rattle.tinydex.specs.declared.DexHeader.{DexHeader}
use Rattle.dalvik.specs.CodeItem.{Code}
use Rattle.class_data.specs.Walk.{Walk}
use Rattle.class_data.specs.Walk.Walk.{refused, found}
use Rattle.class_data.specs.Codes.{codes_of}
use Rattle.class_data.proofs.Found.{CodeIn, Each, codes_sound}
use Rattle.class_data.proofs.Reasons.{Reasoned, codes_reason, never}
use Rattle.code_table.specs.Slots.{base_of, top_of, table_of}
use Rattle.code_table.specs.RegionEnd.{RegionInside}
use Rattle.code_table.specs.Build.{Room, Build, most_shares, no_build, whole_build, built_from, build_out}
use Rattle.code_table.specs.Answer.{built_region, TableWords, room_of, GivesBuild}
use Rattle.code_table.specs.declared.Built.{Built}
use Rattle.code_table.proofs.RegionEnd.{end_inside, AllInside, base_end}

-- ---- the codes found
each_inside : (s : List ℕ) (m : ℕ) (cs : List Code) → Each (CodeIn s m) cs → AllInside (length s) cs
each_inside s m [] E d k = absurd (Memᴰ.not-nil k)
each_inside s m (c ∷ cs) E d k =
    ⊎_elim (λ (e : d ≡ c). rw e E.0.inside) (λ l. each_inside s m cs E.1 d l) (Memᴰ.cases_cons k)

pub walked_inside : (s : List ℕ) (h : DexHeader) (cs : List Code) (e : ℕ) → found cs e ≡ codes_of s h → AllInside (length s) cs
walked_inside s h cs e q = each_inside s h.methods.size cs (codes_sound s h cs e q)

-- ---- the outcome
record Inside (len : ℕ) (B : Build) : Type 0 where
  region : RegionInside len B.from B.to
  not_12 : B.number ≢ 12
  not_15 : B.number ≢ 15

refuses : (len n : ℕ) → n ≢ 12 → n ≢ 15 → Inside len (no_build n)
refuses len n d e = record { region = record { rises = omega arith; inside = omega arith }; not_12 = d; not_15 = e }

from_inside : (s : List ℕ) (h : DexHeader) (m : ℕ) (room : Room) (w : Walk) → w ≡ codes_of s h → Reasoned w
    → Inside (length s) (built_from (length s) m room w)
from_inside s h m room (refused r) e n = refuses (length s) (refusal_number r) (never 12 refl n) (never 15 refl n)
from_inside s h m room (found cs x) e n =
    cond_elim (Inside (length s))
    (leb (3 * length cs) room.triples && leb (top_of cs - base_of cs) room.slots && leb (length (table_of cs).shares) room.shares
    && leb (length (table_of cs).shares) most_shares)
    (whole_build (length s) m cs) (no_build 4)
    (λ _. record {
      region = record { rises = base_end (length s) cs (walked_inside s h cs x e); inside = end_inside (length s) cs };
      not_12 = λ q. omega arith;
      not_15 = λ q. omega arith;
    })
    (λ _. refuses (length s) 4 (λ q. omega arith) (λ q. omega arith))

inside : (s : List ℕ) (h : DexHeader) (room : Room) → Inside (length s) (build_out s h room)
unfolding build_out
inside s h room =
    cond_elim (Inside (length s)) (is_too_large (length s)) (no_build 1) _ (λ _. refuses (length s) 1 (λ q. omega arith) (λ q. omega arith))
    (λ _. cond_elim (Inside (length s)) (leb h.methods.size (pairs_in room.starts))
    (built_from (length s) h.methods.size room (codes_of s h)) (no_build 4)
    (λ _. from_inside s h h.methods.size room (codes_of s h) refl (codes_reason s h))
    (λ _. refuses (length s) 4 (λ q. omega arith) (λ q. omega arith)))

module _ (s : List ℕ) (h : DexHeader) (room : Room) where
  pub region_inside : RegionInside (length s) (build_out s h room).from (build_out s h room).to
  region_inside = (inside s h room).region

  pub never_12 : (build_out s h room).number ≢ 12
  never_12 = (inside s h room).not_12

  pub never_15 : (build_out s h room).number ≢ 15
  never_15 = (inside s h room).not_15

pub both : (s : List ℕ) (h : DexHeader) {r : Result Built Refusal} {before after : TableWords} → GivesBuild (build_out s h (room_of before)) r before after
    → GivesBuild (build_out s h (room_of before)) r before after × RegionInside (length s) (built_region r).start (built_region r).end
both s h {r} {before} G =
    let I = region_inside s h (room_of before) in
    (G, record { rises = omega (arith, I.rises, G.from, G.to); inside = omega (arith, I.inside, G.to) })
