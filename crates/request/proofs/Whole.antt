-- The whole request: what the lines say is the outcome, once the words lent are counted; a refusal leaves zeros.
-- Assumes nothing.
use Rattle.std.specs.Prelude.{Option, Some, None, Result, Ok}
use Prim.Native.Nat.{ℕ, ◌<◌, ◌≤◌}
use native.Mathlib.Omega.{arith}
use mathlib.Core.Path.{◌≡◌, refl, sym, ap, ◌∙◌}
use mathlib.Core.List.{List}
use lib.ListN.{length}
use lib.Seq.{sets}
use borrow.Author.Tests.{le-leb, lt-leb}
use Rattle.words.specs.Padded.{zeros, padded}
use Rattle.words.proofs.Shared.{some_inj}
use Rattle.words.proofs.Padded.{padded_none, sets_zeros}
use Rattle.refusal.specs.declared.Refusal.{Refusal}
use Rattle.refusal.specs.Refusals.{refusal_number}
use Rattle.request.specs.Request.{Said, fitted, refused, Outcome, Says}
use Rattle.request.specs.Steps.{asked, asked_by, RefusedBy}
use Rattle.request.specs.declared.Request.{Request}

pub malformed : (room : ℕ) (ws us : List ℕ) (o : Option Said) → asked None us ≡ asked_by ws o → fitted room o ≡ refused 14
unfolding asked asked_by
malformed room ws us None e = refl
malformed room ws us (Some x) e = absurd (cc)

pub more_indices : (room : ℕ) (ws us : List ℕ) (o : Option Said) (q : Request) → asked (Some q) us ≡ asked_by ws o → room < q.count
    → fitted room o ≡ refused 4
unfolding asked asked_by
more_indices room ws us None q e h = absurd (cc)
more_indices room ws us (Some x) q e h =
    let counted : q.count ≡ length x.indices = ap (λ (z : Request × List ℕ). z.0.count) (some_inj e) in
    rw (lt-leb (length x.indices) room (omega arith))

-- the words were zero before
pub says_asked : {room : ℕ} {ws us : List ℕ} (o : Option Said) (q : Request) → asked (Some q) us ≡ asked_by ws o → q.count ≤ room
    → ws ≡ zeros room
    → (before : List ℕ) → length before ≡ room → Says (fitted room o) (Ok q) before us
unfolding asked asked_by
says_asked None q e h w before t = absurd (cc)
says_asked {room} {ws} {us} (Some x) q e h w before t =
    let same = some_inj e in
    let counted : q.count ≡ length x.indices = ap (λ (z : Request × List ℕ). z.0.count) same in
    let fits : length x.indices ≤ room = omega arith in
    rw (le-leb (length x.indices) room fits) (record {
      number = refl;
      header = ap (λ (z : Request × List ℕ). z.0.header) same;
      kind = ap (λ (z : Request × List ℕ). z.0.kind) same;
      count = counted;
      wanted =
          ap (λ (z : Request × List ℕ). z.1) same ∙ (ap (λ (v : List ℕ). sets v 0 x.indices) w
          ∙ (sets_zeros room x.indices refl fits ∙ ap (λ (k : ℕ). padded k x.indices) (sym t)));
    })

pub says_refused : {o : Outcome} (why : Refusal) {q : Result Request Refusal} {before ws after : List ℕ} → o ≡ refused (refusal_number why)
    → length ws ≡ length before
    → RefusedBy why q ws after → Says o q before after
says_refused why {before = before} e h r =
    rw (e, r.request) (record {
      number = refl;
      header = refl;
      kind = refl;
      count = refl;
      wanted = r.cleared ∙ (ap zeros h ∙ sym (padded_none (length before)));
    })
