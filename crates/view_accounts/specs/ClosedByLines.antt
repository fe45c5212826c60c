-- The sessions that the lines of a run close.
use Rattle.std.specs.Prelude.{◌≡◌, ℕ, ◌+◌, ◌-◌, ◌^◌, ◌==◌, ◌&&◌, Bool, not, List, [], ◌∷◌, ◌++◌, length, map, min, if◌then◌else◌}
use Rattle.std.specs.List.{count_by}
use Rattle.std.specs.List.Sorted.{IsNonDecreasingBy}
use Rattle.own_model.specs.Listed.{Listed}
use Rattle.own_model.specs.World.{World, world_running}
use Rattle.view_accounts.specs.ClosedSessions.{Closed}
use Rattle.view_accounts.specs.Peaks.{is_open, noted_of, since_open}
use Rattle.view_accounts.specs.SessionHistories.{history_of, need_by_history}

-- the number of the line that opened the session that is open under a selector of a component, or the largest of 64 bits
abbrev pub opening_line : World → List (List ℕ) → ℕ → ℕ → ℕ
opening_line start calls component selector =
    min (length calls + 1 - length (since_open component selector start calls)) (2 ^ 64 - 1)

-- the session under a selector of a component, closed as it is after these calls
abbrev pub closed_after : Listed → World → List (List ℕ) → ℕ → ℕ → Closed
closed_after listed start calls component selector = record {
  component = component;
  selector = selector;
  noted = noted_of listed start calls component selector;
  need = need_by_history (history_of start calls component selector);
}

-- a closed session is that under this selector of this component
abbrev pub is_under : ℕ → ℕ → Closed → Bool
is_under component selector closed = closed.component == component && closed.selector == selector

-- a session is open in a world and isn't in the next: 1, or else 0
abbrev pub ends_between : World → World → ℕ → ℕ → ℕ
ends_between before after component selector =
    if is_open component selector before && not (is_open component selector after) then 1 else 0

-- these are the sessions that a line after earlier ones closed: each once, as it was before the line, in the order in which they
-- were opened
pub record AreClosedBy (listed : Listed) (start : World) (earlier : List (List ℕ)) (line : List ℕ) (closed : List Closed) : Type 0 where
  pub each : (component selector : ℕ) →
      count_by (is_under component selector) closed
      ≡ ends_between (world_running start earlier) (world_running start (earlier ++ line ∷ [])) component selector
  pub values : map (λ (c : Closed). closed_after listed start earlier c.component c.selector) closed ≡ closed
  pub in_order : IsNonDecreasingBy (λ (c : Closed). opening_line start earlier c.component c.selector) closed

-- and these are those that lines after earlier ones closed, line by line
abbrev pub AreClosed : Listed → World → List (List ℕ) → List (List ℕ) → List Closed → Type 0
AreClosed listed start earlier [] closed = closed ≡ []
AreClosed listed start earlier (line ∷ lines) closed =
    (now : List Closed) × (later : List Closed) × (closed ≡ now ++ later) × AreClosedBy listed start earlier line now
    × AreClosed listed start (earlier ++ line ∷ []) lines later
