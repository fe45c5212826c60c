-- What is kept of needs, and what it says of the accounts so far.
use Rattle.std.specs.Prelude.{◌≡◌, ℕ, ◌<◌, false, List, [], length, slice_index_or}
use Rattle.std.specs.Option.{option_map_or}
use Rattle.own_model.specs.Account.{Account}
use Rattle.own_model.specs.Amounts.{Amounts}
use Rattle.own_model.specs.OwnState.{OwnState}
use Rattle.own_model.specs.StartList.{Entry}
use Rattle.own_model.specs.StartList.Kind.{Script}
use Rattle.own_model.specs.Transcript.{entry_at, state_at}
use Rattle.own_model.specs.World.{World}
use Rattle.budget_meter.specs.Metered.{HasObserved}
use Rattle.budget_meter.specs.Needs.{amounts_of}
use Rattle.budget_meter.specs.declared.account.AccountMeter.{AccountMeter}
use Rattle.budget_meter.specs.declared.budget.Budget.{Budget}
use Rattle.view_accounts.specs.Needs.{Needed, budget_at, limits, own_calls}
use Rattle.view_accounts.specs.SessionTable.{value_at}
use Rattle.view_accounts.specs.declared.session_needs.MeteredSession.{MeteredSession}
use Rattle.view_accounts.specs.declared.needs.AccountNeed.{AccountNeed}
use Rattle.view_accounts.specs.declared.session_table.SessionTable.{SessionTable}

-- the meter before any observation
abbrev pub no_meter : AccountMeter
no_meter = record {
  meter = record { start = record { ram = 0; caps = 0 }; least = record { ram = 0; caps = 0 }; choice = 0 };
  is_script = false;
  is_gone = false;
  account = record { ram_used = record { 0 = 0 }; ram_limit = record { 0 = 0 }; caps_used = record { 0 = 0 }; caps_limit = record { 0 = 0 } };
  pages = 0;
}

-- the meter of the component at a place
abbrev pub meter_at : List AccountMeter → ℕ → AccountMeter
meter_at meters place = slice_index_or meters place no_meter

-- the value of a meter
abbrev pub metered : AccountMeter → Needed
metered meter = record { need = amounts_of meter.meter.least; gone = meter.is_gone }

abbrev pub needed_of : List AccountMeter → ℕ → Needed
needed_of meters place = metered (meter_at meters place)

-- what a figure says
abbrev pub needed_in : AccountNeed → Needed
needed_in figure = record { need = amounts_of figure.need; gone = figure.is_gone }

-- of the session under a selector of a component, or nothing
abbrev pub needed_of_session : SessionTable MeteredSession → ℕ → ℕ → Budget
needed_of_session sessions component selector =
    option_map_or (λ session. session.need) (value_at sessions component selector) (record { ram = 0; caps = 0 })

abbrev pub needs_of_sessions : SessionTable MeteredSession → ℕ → ℕ → Amounts
needs_of_sessions sessions component selector = amounts_of (needed_of_session sessions component selector)

-- a meter is that of any script that begins with this account
abbrev pub IsFresh : Account → AccountMeter → Type 0
IsFresh account meter =
    (entry : Entry) (s : OwnState) → entry.kind ≡ Script → s.gone ≡ false → account ≡ s.account → s.heap.shape.growth ≡ 4 →
    HasObserved entry [] (limits account) s meter

-- the meters of scripts have observed these calls, each the script's own
pub record SeesNeeds (meters : List AccountMeter) (start : World) (earlier : List (List ℕ)) : Type 0 where
  pub count : length meters ≡ length start.entries
  pub each : (place : ℕ) → place < length start.entries → (entry_at start.entries place).kind ≡ Script →
      HasObserved (entry_at start.entries place) (own_calls start earlier place) (budget_at start place) (state_at start.states place)
      (meter_at meters place)
