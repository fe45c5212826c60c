-- The rows of an account list, as values.
use Rattle.std.specs.Prelude.{ℕ, List, map, Option}
use Rattle.std.specs.Option.{option_map}
use Rattle.own_model.specs.Account.{Account}
use Rattle.own_model.specs.Amounts.{Amounts}
use Rattle.core_calls.specs.Quotas.{quotas_account, reserve_amounts}
use Rattle.view_accounts.specs.Kept.{peaked}
use Rattle.view_accounts.specs.Meters.{needed_in}
use Rattle.view_accounts.specs.Needs.{Needed}
use Rattle.view_accounts.specs.declared.account_rows.AccountRow.{AccountRow}
use Rattle.view_accounts.specs.declared.account_rows.AccountRows.{AccountRows}
use Rattle.view_accounts.specs.declared.account_rows.ComponentRows.{ComponentRows}
use Rattle.view_accounts.specs.declared.account_rows.SessionRow.{SessionRow}

-- an account: its name, use and limits, its need, and its peak
pub record AccountView : Type 0 where
  pub name : List ℕ
  pub account : Account
  pub needed : Needed
  pub peak : Amounts

-- a session: the place and the path of its client, its selector, use and limits if it is open, its need, its peak, its server, and
-- its label
pub record SessionView : Type 0 where
  pub component : ℕ
  pub name : List ℕ
  pub selector : ℕ
  pub account : Option Account
  pub needed : Needed
  pub peak : Amounts
  pub server : List ℕ
  pub label : List ℕ

-- a component: its account, its reserve if it is shown, and its open sessions
pub record ComponentView : Type 0 where
  pub account : AccountView
  pub reserve : Option Amounts
  pub sessions : List SessionView

-- the account list: the machine's init, the components, the sums of all limits, and the closed sessions
pub record AccountsView : Type 0 where
  pub init : AccountView
  pub components : List ComponentView
  pub total : Amounts
  pub closed : List SessionView

-- ---- as the program has them

abbrev pub account_view : AccountRow → AccountView
account_view row = record {
  name = row.name.items;
  account = quotas_account row.account;
  needed = needed_in row.needed;
  peak = peaked row.peak;
}

abbrev pub session_view : SessionRow → SessionView
session_view row = record {
  component = row.component;
  name = row.name.items;
  selector = row.selector;
  account = option_map quotas_account row.account;
  needed = needed_in row.needed;
  peak = peaked row.peak;
  server = row.server.items;
  label = row.label.items;
}

abbrev pub component_view : ComponentRows → ComponentView
component_view rows = record {
  account = account_view rows.account;
  reserve = option_map reserve_amounts rows.reserve;
  sessions = map session_view rows.sessions.items;
}

abbrev pub accounts_view : AccountRows → AccountsView
accounts_view rows = record {
  init = account_view rows.init;
  components = map component_view rows.components.items;
  total = record { ram = rows.total.ram; caps = rows.total.caps };
  closed = map session_view rows.closed.items;
}
