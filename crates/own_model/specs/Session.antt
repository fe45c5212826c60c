-- Sessions: what is donated for one, why it is refused, and what its requests do.
use Rattle.std.specs.Prelude.{ℕ, List, [], nat_lt, if◌then◌else◌, Option, Some, None, Result, Ok, Err}
use Rattle.std.specs.Option.{option_or, unwrap_or}
use Rattle.trade_base.specs.declared.refusal.Refusal.{Refusal}
use Rattle.trade_base.specs.declared.refusal.Refusal.TheVariants.{BadArgs, ServiceDenied, InsufficientRamQuota, InsufficientCapQuota}
use Rattle.own_model.specs.Account.{Account, shortage, charged, opened}
use Rattle.own_model.specs.Donation.{raised}
use Rattle.own_model.specs.Routes.{Level, ServerAt, label_with, provider}
pub use Rattle.own_model.specs.Services.{ServiceState, Session, IsKept, offer_of, state_at_first, Served, served_by}
use Rattle.own_model.specs.SessionArgs.{Arguments, arguments_of}
use Rattle.own_model.specs.Sliced.{sliced_size}

-- ---- donations

-- the bytes of the object that denotes a session: a sliced block of that size is charged to the session's account
abbrev pub session_object : ℕ
session_object = 256

-- what a session uses of its account from the start: the block, and a capability for that and one for the session itself
abbrev pub session_ram : ℕ
session_ram = sliced_size session_object

abbrev pub session_caps : ℕ
session_caps = 2

-- why a donation is too small for a session
abbrev pub too_small : ℕ → ℕ → Option Refusal
too_small ram caps =
    if nat_lt ram session_ram then Some InsufficientRamQuota
    else (if nat_lt caps session_caps then Some InsufficientCapQuota else None)

-- why a donation for a new session is refused: the client's account doesn't cover it, or else it is too small
abbrev pub donation_refusal : Account → ℕ → ℕ → Option Refusal
donation_refusal client ram caps = option_or (shortage client ram caps) (too_small ram caps)

-- the account of a new session
abbrev pub session_account : ℕ → ℕ → Account
session_account ram caps = charged (opened ram caps) session_ram session_caps

-- what arguments give: nothing if their text is not in the grammar
abbrev pub given_by : Option Arguments → Arguments
given_by arguments = unwrap_or arguments (record { ram = 0; caps = 0; label = [] })

abbrev pub given : List ℕ → Arguments
given text = given_by (arguments_of text)

-- ---- what is requested

-- a session that is requested: the server, the label, which is the client's and then what it gave, and the donation
pub record Wish : Type 0 where
  pub server : ServerAt
  pub label : List ℕ
  pub ram : ℕ
  pub caps : ℕ

-- what arguments ask for where the route leads to a server
abbrev pub routed_request : List ℕ → Arguments → Option ServerAt → Result Wish Refusal
routed_request client arguments None = Err ServiceDenied
routed_request client arguments (Some server) =
    Ok (record { server = server; label = label_with client arguments.label; ram = arguments.ram; caps = arguments.caps })

-- what a client of this label and with these routes asks for: the arguments are read first, and then the route is taken
abbrev pub resolved_request : List ℕ → List Level → List ℕ → Option Arguments → Result Wish Refusal
resolved_request client routes service None = Err BadArgs
resolved_request client routes service (Some arguments) = routed_request client arguments (provider routes service arguments.label)

abbrev pub wish : List ℕ → List Level → List ℕ → List ℕ → Result Wish Refusal
wish client routes service text = resolved_request client routes service (arguments_of text)

-- the session that is made of it
abbrev pub new_session : Wish → Session
new_session wish = record {
  label = wish.label;
  account = session_account wish.ram wish.caps;
  state = state_at_first wish.server.kind;
  server = wish.server.place;
}

-- a session with more of a donation
abbrev pub upgraded : Session → ℕ → ℕ → Session
upgraded session ram caps = record session { account = raised session.account ram caps }

-- ---- requests

-- what a request of a session does, by the bytes of the session's buffer, if it has one
abbrev pub served : Option (List ℕ) → Session → List ℕ → Served
served buffer session request = served_by session.state buffer session request

-- ---- as a server keeps it: the account is elsewhere

-- what a server keeps, with the session's label
pub record Labelled : Type 0 where
  pub label : List ℕ
  pub state : ServiceState

-- what it keeps of a session
abbrev pub kept_of : Session → Labelled
kept_of session = record { label = session.label; state = session.state }

-- the session with an account, of the server at a place
abbrev pub session_with : ℕ → Account → Labelled → Session
session_with server account kept = record { label = kept.label; account = account; state = kept.state; server = server }
