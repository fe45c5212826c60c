-- The rows of an account list as records.
use Rattle.std.specs.Prelude.{ℕ, ◌++◌, ◌^◌, Bool, List, [], ◌∷◌, codes, map, nat_lt, if◌then◌else◌, Option, Some, None}
use Rattle.std.specs.List.{flat_map}
use Rattle.std.specs.Option.{option_map}
use Rattle.own_model.specs.Account.{Account}
use Rattle.own_model.specs.Amounts.{Amounts}
use Rattle.view_records.specs.Records.{CellData, Record, absent, null, text, number, if_number}
use Rattle.view_accounts.specs.Rows.{AccountView, AccountsView, ComponentView, SessionView}

-- a component that has exited is gone
abbrev pub gone_cell : Bool → CellData
gone_cell gone = if gone then text (codes "gone") else absent

abbrev pub account_record : AccountView → Record
account_record shown =
    (codes "kind", text (codes "account")) ∷ (codes "name", text shown.name)
    ∷ (codes "ram_used", number shown.account.ram_used) ∷ (codes "ram_limit", number shown.account.ram_limit)
    ∷ (codes "caps_used", number shown.account.caps_used) ∷ (codes "caps_limit", number shown.account.caps_limit)
    ∷ (codes "state", gone_cell shown.needed.gone)
    ∷ (codes "ram_need", number shown.needed.need.ram) ∷ (codes "caps_need", number shown.needed.need.caps)
    ∷ (codes "ram_peak", number shown.peak.ram) ∷ (codes "caps_peak", number shown.peak.caps) ∷ []

-- the reserve of the component of a name, if it is shown
abbrev pub reserve_records : List ℕ → Option Amounts → List Record
reserve_records name None = []
reserve_records name (Some reserve) =
    ((codes "kind", text (codes "reserve")) ∷ (codes "name", text name)
    ∷ (codes "ram", number reserve.ram) ∷ (codes "caps", number reserve.caps) ∷ []) ∷ []

abbrev pub component_records : ComponentView → List Record
component_records shown = account_record shown.account ∷ reserve_records shown.account.name shown.reserve

-- a session without an account is closed
abbrev pub state_cell : Option Account → CellData
state_cell (Some account) = absent
state_cell None = text (codes "closed")

abbrev pub session_record : SessionView → Record
session_record shown =
    (codes "kind", text (codes "session")) ∷ (codes "name", text shown.name) ∷ (codes "session", number shown.selector)
    ∷ (codes "ram_used", if_number (option_map (λ (a : Account). a.ram_used) shown.account))
    ∷ (codes "ram_limit", if_number (option_map (λ (a : Account). a.ram_limit) shown.account))
    ∷ (codes "caps_used", if_number (option_map (λ (a : Account). a.caps_used) shown.account))
    ∷ (codes "caps_limit", if_number (option_map (λ (a : Account). a.caps_limit) shown.account))
    ∷ (codes "state", state_cell shown.account)
    ∷ (codes "ram_need", number shown.needed.need.ram) ∷ (codes "caps_need", number shown.needed.need.caps)
    ∷ (codes "ram_peak", number shown.peak.ram) ∷ (codes "caps_peak", number shown.peak.caps)
    ∷ (codes "server", text shown.server) ∷ (codes "label", text shown.label) ∷ []

-- a sum, or null if it has more than 64 bits
abbrev pub sum_cell : ℕ → CellData
sum_cell sum = if nat_lt sum (2 ^ 64) then number sum else null

abbrev pub total_record : Amounts → Record
total_record total =
    (codes "kind", text (codes "total")) ∷ (codes "ram", sum_cell total.ram) ∷ (codes "caps", sum_cell total.caps) ∷ []

-- the machine's init, the components with their reserves, the open sessions, the sums of all limits, and the closed sessions
abbrev pub all_records : AccountsView → List Record
all_records shown =
    account_record shown.init ∷ flat_map component_records shown.components
    ++ flat_map (λ (its : ComponentView). map session_record its.sessions) shown.components
    ++ total_record shown.total ∷ map session_record shown.closed
