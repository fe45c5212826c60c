-- The closed sessions, one more or all of a component.
use Rattle.std.proofs.Common.{◌≡◌, ◌∙◌, ◌+◌, ◌<◌, ℕ, List, [], ◌∷◌, ◌++◌, length, drop, get_or, append_assoc, append-nil, Option, Some, None, Result, Ok, Err, OnOk, sym, ap, subst}
use Rattle.std.specs.List.Sorted.{IsNonDecreasingBy, IsPermutation}
use Rattle.std.proofs.lemmas.List.{drop_more, map-append}
use Rattle.budget_meter.specs.Needs.{amounts_of}
use Rattle.view_accounts.specs.ClosedSessions.{Closed, ClosesAll, closed_as, closed_of, closing, closing_of, closings, ended_at, ended_from}
use Rattle.view_accounts.specs.Kept.{noted_in}
use Rattle.view_accounts.specs.Peaks.{Noted}
use Rattle.view_accounts.specs.declared.peaks.SessionPeak.{SessionPeak}
use Rattle.view_accounts.specs.declared.session_needs.ClosedSession.{ClosedSession}
use Rattle.view_accounts.specs.declared.session_needs.Ended.{Ended}
use Rattle.view_accounts.specs.declared.session_needs.MeteredSession.{MeteredSession}

-- no session more
pub closed_still : {T E : Type 0} (r : Result T E) (old new : List ClosedSession) → new ≡ old → OnOk r (closed_of new ≡ closed_of old)
closed_still (Ok x) old new is = ap closed_of is
closed_still (Err e) old new is = tt

-- one session more
pub closed_more : {T E : Type 0} (r : Result T E) (old new : List ClosedSession) (component : ℕ) (ended : Ended) (copy : SessionPeak) (values : Noted) (noted : Option Noted)
    → Some values ≡ noted → copy.component ≡ component → copy.selector ≡ ended.selector → noted_in copy ≡ values
    → OnOk r (new ≡ old ++ record { session = copy; need = ended.need } ∷ []) → OnOk r (closed_of new ≡ closed_of old ++ closing component ended noted)
closed_more (Ok x) old new component ended copy values noted some client named same is =
    ap closed_of is ∙ map-append closed_as old (record { session = copy; need = ended.need } ∷ [])
    ∙ (λ i. closed_of old ++ record { component = client i; selector = named i; noted = same i; need = amounts_of ended.need } ∷ [])
    ∙ ap (λ n. closed_of old ++ closing component ended n) some
closed_more (Err e) old new component ended copy values noted some client named same is = tt

-- the session under a selector
pub closes_one : {T E : Type 0} (r : Result T E) (old new : List Closed) (noted : ℕ → Option Noted) (component selector : ℕ) (opened : Option MeteredSession) (kept : MeteredSession)
    → Some kept ≡ opened → OnOk r (new ≡ old ++ closing_of noted component (record { earlier = kept.earlier; selector = selector; need = kept.need }))
    → OnOk r (new ≡ old ++ closings noted component (ended_at selector opened))
closes_one (Ok x) old new noted component selector opened kept there closed =
    closed ∙ ap (λ l. old ++ l) (sym (append-nil (closing_of noted component (record { earlier = kept.earlier; selector = selector; need = kept.need }))))
    ∙ ap (λ o. old ++ closings noted component (ended_at selector o)) there
closes_one (Err e) old new noted component selector opened kept there closed = tt

pub closes_none : (old : List Closed) (noted : ℕ → Option Noted) (component selector : ℕ) (opened : Option MeteredSession) → None ≡ opened
    → old ≡ old ++ closings noted component (ended_at selector opened)
closes_none old noted component selector opened none = sym (append-nil old) ∙ ap (λ o. old ++ closings noted component (ended_at selector o)) none

-- all of them, in order
pub closes_all : {T E : Type 0} (r : Result T E) (noted : ℕ → Option Noted) (component : ℕ) (given sorted : List Ended) (old new : List Closed)
    → IsPermutation given sorted → IsNonDecreasingBy (λ (e : Ended). e.earlier) sorted → OnOk r (new ≡ old ++ closings noted component sorted)
    → OnOk r ((row : List (Option MeteredSession)) → given ≡ ended_from 0 row → ClosesAll noted component row old new)
closes_all (Ok x) noted component given sorted old new permuted ordered closed = λ row is. record {
  ended = sorted;
  all = subst (λ l. IsPermutation l sorted) is permuted;
  in_order = ordered;
  closed = closed;
}
closes_all (Err e) noted component given sorted old new permuted ordered closed = tt

-- those that end, behind one more row
pub ended_next : (row : List (Option MeteredSession)) (i : ℕ) (one : Option MeteredSession) (ended new whole : List Ended) → i < length row → one ≡ get_or row i one
    → ended ++ ended_from i (drop i row) ≡ whole → new ≡ ended ++ ended_at i one → new ++ ended_from (i + 1) (drop (i + 1) row) ≡ whole
ended_next row i one ended new whole within is so_far more =
    let rest = ended_from (i + 1) (drop (i + 1) row) in
    ap (λ e. e ++ rest) more ∙ append_assoc ended (ended_at i one) rest
    ∙ ap (λ left. ended ++ ended_from i left) (sym (drop_more row i one within ∙ ap (λ o. o ∷ drop (i + 1) row) (sym is))) ∙ so_far
