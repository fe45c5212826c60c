-- The sessions that a call closes, as they are kept.
use Rattle.std.specs.Prelude.{◌≡◌, ℕ, ◌+◌, Bool, true, List, [], ◌∷◌, ◌++◌, map, Option, Some, None}
use Rattle.std.specs.List.{flat_map}
use Rattle.std.specs.List.Sorted.{IsNonDecreasingBy, IsPermutation}
use Rattle.own_model.specs.Amounts.{Amounts}
use Rattle.own_model.specs.Call.{Call}
use Rattle.own_model.specs.Call.Call.{Close, Exit}
use Rattle.budget_meter.specs.Needs.{amounts_of}
use Rattle.view_accounts.specs.Kept.{noted_in}
use Rattle.view_accounts.specs.Peaks.{Noted}
use Rattle.view_accounts.specs.SessionTable.{row_of, value_at}
use Rattle.view_accounts.specs.declared.session_needs.ClosedSession.{ClosedSession}
use Rattle.view_accounts.specs.declared.session_needs.Ended.{Ended}
use Rattle.view_accounts.specs.declared.session_needs.MeteredSession.{MeteredSession}
use Rattle.view_accounts.specs.declared.session_table.SessionTable.{SessionTable}

-- a closed session: its client and its selector, its values, and its need
pub record Closed : Type 0 where
  pub component : ℕ
  pub selector : ℕ
  pub noted : Noted
  pub need : Amounts

abbrev pub closed_as : ClosedSession → Closed
closed_as closed = record {
  component = closed.session.component;
  selector = closed.session.selector;
  noted = noted_in closed.session;
  need = amounts_of closed.need;
}

-- the closed sessions, in their order
abbrev pub closed_of : List ClosedSession → List Closed
closed_of sessions = map closed_as sessions

-- a session of a component that ends is closed with what is noted of it, if anything is
abbrev pub closing : ℕ → Ended → Option Noted → List Closed
closing component ended None = []
closing component ended (Some noted) =
    record { component = component; selector = ended.selector; noted = noted; need = amounts_of ended.need } ∷ []

-- by what is noted of the component's sessions under their selectors
abbrev pub closing_of : (ℕ → Option Noted) → ℕ → Ended → List Closed
closing_of noted component ended = closing component ended (noted ended.selector)

abbrev pub closings : (ℕ → Option Noted) → ℕ → List Ended → List Closed
closings noted component ended = flat_map (closing_of noted component) ended

-- ---- those that end

-- the session under a selector, if it is open
abbrev pub ended_at : ℕ → Option MeteredSession → List Ended
ended_at selector None = []
ended_at selector (Some kept) = record { earlier = kept.earlier; selector = selector; need = kept.need } ∷ []

-- those that are open under the selectors from one on
abbrev pub ended_from : ℕ → List (Option MeteredSession) → List Ended
ended_from selector [] = []
ended_from selector (kept ∷ row) = ended_at selector kept ++ ended_from (selector + 1) row

-- all of a component that are open are closed, in the order in which they were opened
pub record ClosesAll (noted : ℕ → Option Noted) (component : ℕ) (row : List (Option MeteredSession)) (old new : List Closed) : Type 0 where
  pub ended : List Ended
  pub all : IsPermutation (ended_from 0 row) ended
  pub in_order : IsNonDecreasingBy (λ (e : Ended). e.earlier) ended
  pub closed : new ≡ old ++ closings noted component ended

-- ---- by the call

-- the closed sessions before and after a call of a component, which is done or isn't, by what was noted of its sessions and which
-- were open before it
abbrev pub Closes : (ℕ → Option Noted) → SessionTable MeteredSession → ℕ → Call → Bool → List Closed → List Closed → Type 0
Closes noted opened component (Close selector) true old new =
    new ≡ old ++ closings noted component (ended_at selector (value_at opened component selector))
Closes noted opened component Exit true old new = ClosesAll noted component (row_of opened.rows.items component) old new
Closes noted opened component call done old new = new ≡ old
