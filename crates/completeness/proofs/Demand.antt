-- Demand 3: no operation's test refuses, since the walk finds the published codes and the lent buffers suffice; so the outcomes are the tables
-- of these codes, the scan's hits and locate's answers, of which the other files show what is claimed.
-- Assumes nothing.
use Rattle.std.specs.Prelude.{Some}
use Prim.Native.Nat.{ℕ, ◌-◌, ◌*◌, ◌/◌, ◌≤◌}
use native.Mathlib.Omega.{arith}
use mathlib.Core.Path.{◌≡◌, refl, ◌∙◌}
use mathlib.Core.List.{List, Memᴰ}
use lib.ListN.{length, length-map}
use borrow.Author.Tests.{le-leb, le-ltb}
use Rattle.words.proofs.Padded.{length_padded}
use Rattle.refusal.specs.Refusals.{largest_file}
use Rattle.refusal.specs.Outcomes.{success}
use Rattle.tinydex.specs.declared.DexHeader.{DexHeader}
use Rattle.dalvik.specs.CodeItem.{Code}
use Rattle.dalvik.specs.Instructions.{Kind}
use Rattle.dalvik.specs.Instructions.Kind.{strings, types, fields, methods}
use Rattle.start_words.specs.Starts.{pairs_in, pair_count}
use Rattle.class_data.specs.Stored.{starts_of}
use Rattle.code_table.specs.Slots.{base_of, top_of, table_of}
use Rattle.code_table.specs.RegionEnd.{region_end}
use Rattle.code_table.proofs.RegionEnd.{base_end, end_inside}
use Rattle.code_table.specs.Build.{Build, most_shares, whole_build, build_out}
use Rattle.code_table.proofs.Named.{starts_of_length}
use Rattle.kinds.specs.Kinds.{kind_number, kind_of}
use Rattle.code_item_scan.specs.Scan.{Hit, offs, Scan, scan_out}
use Rattle.insn_locator.specs.Locate.{Tables, locate_all, locate_out}
use Rattle.completeness.specs.Completeness.{method_limit, Supposed, Lists, Use}
use Rattle.completeness.proofs.Outcomes.{Lent, handed_on, built_of, scanned_of, located_of, ran_of, entries_of}
use Rattle.completeness.proofs.Outcomes.{HoldsTable, Suffices, Confirmed, Finds, OverOutcomes}
use Rattle.completeness.proofs.Rises.{rising_once}
use Rattle.completeness.proofs.Found.{codes_found}
use Rattle.completeness.proofs.Few.{codes_few, shares_few}
use Rattle.completeness.proofs.Walks.{tested, all_inside, in_buckets}
use Rattle.completeness.proofs.Owners.{tables_for, slot_of, Owner, owner}
use Rattle.completeness.proofs.Entries.{entries_rise, answers}
use Rattle.completeness.proofs.Confirmed.{lists_methods, Entered, entered, Landed, landed}

pub kind_read : (kind : Kind) → kind_of (kind_number kind) ≡ Some kind
unfolding kind_of
kind_read strings = refl
kind_read types = refl
kind_read fields = refl
kind_read methods = refl

module _ (s : List ℕ) (h : DexHeader) (codes : List Code) (P : Supposed s h.mapoff h.classes.off h.classes.size h.methods.size codes)
    (kind : Kind) (wanted : List ℕ) (L : Lent) where
  abbrev B : Build
  B = whole_build (length s) h.methods.size codes

  abbrev hits : List Hit
  hits = entries_of s codes kind wanted

  abbrev S : Scan
  S = record { number = 0; hits = hits }

  -- how much is passed on
  abbrev i : ℕ
  i = L.slots

  abbrev j : ℕ
  j = L.starts

  abbrev k : ℕ
  k = L.shares

  abbrev T : Tables
  T = tables_for h.methods.size codes i j k

  pub A : List ℕ
  A = (answers P kind wanted i j k).answers

  -- ---- each operation's outcome
  pub shares_fit : length (table_of codes).shares ≤ most_shares
  shares_fit = omega (arith, shares_few codes, codes_few method_limit codes P.once (λ c m. (P.each c m).small))

  pub build_is : HoldsTable h.methods.size codes L.build → built_of s h L ≡ B
  unfolding build_out
  build_is R =
      rw (
        le-ltb largest_file (length s) P.small,
        le-leb h.methods.size (pairs_in L.build.starts) (omega (arith, R.starts)),
        (codes_found h P.small P.found (tested P)).1,
        le-leb (3 * length codes) L.build.triples R.triples,
        le-leb (top_of codes - base_of codes) L.build.slots R.slots,
        le-leb (length (table_of codes).shares) L.build.shares R.shares,
        le-leb (length (table_of codes).shares) most_shares shares_fit,
      )

  pub scan_is : length hits ≤ L.hits.offs → length hits ≤ L.hits.marks → scanned_of s kind wanted L B ≡ S
  unfolding scan_out
  scan_is o m =
      rw (
        le-ltb largest_file (length s) P.small,
        kind_read kind,
        le-leb (base_of codes * 16) (region_end (length s) codes) (base_end (length s) codes (all_inside P)),
        le-leb (region_end (length s) codes) (length s) (end_inside (length s) codes),
        le-leb (length hits) L.hits.offs o,
        le-leb (length hits) L.hits.marks m,
      )

  pub passed_on : handed_on L B ≡ T
  passed_on = let z : base_of codes * 16 / 16 ≡ base_of codes = omega arith in rw z

  pub starts_length : 2 * h.methods.size ≤ L.starts → length T.starts ≡ L.starts
  starts_length p = length_padded j (starts_of h.methods.size codes) (omega (arith, starts_of_length h.methods.size codes))

  all_located : locate_all s T (offs hits) ≡ Some A
  unfolding A
  all_located = (answers P kind wanted i j k).gives

  pub locate_is : length hits ≤ L.answers → 2 * h.methods.size ≤ L.starts → pairs_in L.starts ≤ L.further → located_of s L B S ≡ success A
  unfolding locate_out
  locate_is a p f =
      rw (
        passed_on,
        le-ltb largest_file (length s) P.small,
        le-leb (length (offs hits)) L.answers (omega (arith, length-map hits (λ (z : Hit). z.off))),
        le-leb (pair_count T.starts) L.further (omega (arith, starts_length p)),
        all_located,
      )

  -- ---- what holds of them
  lists_at : (c : Code) → Memᴰ c codes → (t v : ℕ) → Owner T codes c t → v ≡ slot_of T t → Lists codes c T.shares v
  lists_at c m t v o e = rw e (lists_methods P c T.shares (slot_of T t) o.lists)

  a_use : (n o x v : ℕ) → Confirmed hits A n o x v → Use s codes kind wanted T.shares (record { off = o; index = x; slot = v })
  unfolding A
  a_use n o x v C =
      let l : Landed P kind wanted i j k o x v = landed P kind wanted i j k n o x v C in
      record {
        c = l.d;
        found = l.found;
        names = l.names;
        lists = lists_at l.d l.found o v (owner P i j k l.d l.found o l.bucket) l.its;
      }

  pub holds : Finds s codes kind wanted (record { build = B; scan = S; located = success A; shares = T.shares })
  unfolding A
  holds = record {
    build_succeeds = refl;
    scan_succeeds = refl;
    locate_succeeds = refl;
    answered = (answers P kind wanted i j k).sized ∙ length-map hits (λ (z : Hit). z.off);
    none_missing = λ c m p x N.
        let e : Entered P kind wanted i j k p x = entered P kind wanted i j k c m p x N in
        record {
          k = e.n;
          slot = slot_of T p;
          entry = e.entry;
          lists = lists_at c m p (slot_of T p) (owner P i j k c m p (in_buckets P c m p N.units N.instruction)) refl;
        };
    rising = entries_rise P kind wanted;
    once = λ n l a b e.
        rising_once (offs hits) (entries_rise P kind wanted) n l
        (omega (arith, length-map hits (λ (z : Hit). z.off))) (omega (arith, length-map hits (λ (z : Hit). z.off))) e;
    none_invented = a_use;
  }

  whole : Suffices s h.methods.size codes kind wanted L → Finds s codes kind wanted (ran_of s h kind wanted L)
  whole R = rw (build_is R.build, scan_is R.offs R.marks, locate_is R.answers R.starts_passed R.further) holds

pub over_outcomes : OverOutcomes
over_outcomes s h codes P kind wanted L R = whole s h codes P kind wanted L R
