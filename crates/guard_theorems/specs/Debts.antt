-- Debts: requests that servers without guards would serve otherwise, since other clients' donations cover them.
use Rattle.std.specs.Prelude.{◌≡◌, ℕ, ◌-◌, ◌++◌, true, false, List, [], ◌∷◌, Option, Some, None}
use Rattle.std.specs.FinMap.{get}
use Rattle.own_model.specs.Account.{Account}
use Rattle.own_model.specs.Amounts.{Amounts, no_amounts, more_of}
use Rattle.own_model.specs.Call.{Call}
use Rattle.own_model.specs.Call.Call.{CallSession}
use Rattle.own_model.specs.FileText.{file_reply}
use Rattle.own_model.specs.FileText.FileReply.{Quotas}
use Rattle.own_model.specs.OwnState.{OwnState, session_named, buffer_of, bytes_of_buffer}
use Rattle.own_model.specs.Session.{Session, served, upgraded}
use Rattle.own_model.specs.StartList.{StartList}
use Rattle.own_model.specs.Transcript.{Heard, heard, state_at}
use Rattle.own_model.specs.Transcript.Heard.{Caller}
use Rattle.budget_theorems.specs.Need.{IsIn, limited}
use Rattle.budget_theorems.specs.Request.{donating}
use Rattle.budget_theorems.specs.RequestTheorems.{AnswersAlike, session_cell}
use Rattle.budget_theorems.specs.RequestTheorems.Reaches.{Asked}
use Rattle.guard_theorems.specs.Guarded.{GuardedWorld, limits_of, guarded_after_line, guarded_running, guarded_told}
use Rattle.guard_theorems.specs.Theorems.{AllUnused, guarded_start}

-- the slack of a session: what its server's account leaves less what its guard leaves, which is the server's own quantum and what
-- its other open sessions don't use
abbrev pub slack : Account → Account → Amounts
slack guard account = record {
  ram = account.ram_limit - account.ram_used - (guard.ram_limit - guard.ram_used);
  caps = account.caps_limit - account.caps_used - (guard.caps_limit - guard.caps_used);
}

-- the session with its limits raised by the slack
abbrev pub with_slack : Session → Account → Session
with_slack session account = upgraded session (slack session.account account).ram (slack session.account account).caps

-- a request is no debt: with the slack it has the same reply, except the limits that STAT prints, and leaves the same session,
-- except limits, and the same buffer
pub record IsNoDebt (buffer : Option (List ℕ)) (session : Session) (account : Account) (request : List ℕ) : Type 0 where
  pub answer : AnswersAlike (served buffer session request) (served buffer (with_slack session account) request)
  pub leaves :
      donating no_amounts (served buffer (with_slack session account) request).session
      ≡ donating no_amounts (served buffer session request).session

-- no other call is one
abbrev pub NoDebtOfSession : ℕ → Option Session → List ℕ → OwnState → (ℕ → Account) → Type 0
NoDebtOfSession selector None request s accounts = Unit {0}
NoDebtOfSession selector (Some session) request s accounts =
    IsNoDebt (bytes_of_buffer (buffer_of selector s.selectors)) session (accounts session.server) request

abbrev pub NoDebtOfCall : Call → OwnState → (ℕ → Account) → Type 0
NoDebtOfCall (CallSession selector request) s accounts =
    NoDebtOfSession selector (session_named (get s.selectors selector)) request s accounts
NoDebtOfCall call s accounts = Unit {0}

abbrev pub NoDebtOfLine : GuardedWorld → Heard → Type 0
NoDebtOfLine g (Caller made) = NoDebtOfCall made.call (state_at g.world.states made.component) g.accounts
NoDebtOfLine g what = Unit {0}

-- nor is any of these lines, of which each is answered with guards
abbrev pub NoDebts : GuardedWorld → List (List ℕ) → Type 0
NoDebts g [] = Unit {0}
NoDebts g (line ∷ lines) =
    let what = heard g.world.entries line in
    NoDebtOfLine g what × NoDebts (guarded_after_line true g what) lines

-- ---- without guards

-- two outputs are the same, except the limits that STAT prints
pub data OutputsAlike : List ℕ → List ℕ → Type 0 where
  Same : (text : List ℕ) → OutputsAlike text text
  Limits :
      (before after : List ℕ) (one other : Account) → limited no_amounts one ≡ limited no_amounts other →
      OutputsAlike (before ++ file_reply (Quotas one) ++ after) (before ++ file_reply (Quotas other) ++ after)

-- each line is answered so by two machines, with guards and without
abbrev pub AllAnsweredAlike : GuardedWorld → GuardedWorld → List (List ℕ) → Type 0
AllAnsweredAlike g h [] = Unit {0}
AllAnsweredAlike g h (line ∷ lines) =
    let what = heard g.world.entries line in
    OutputsAlike (guarded_told true g what) (guarded_told false h what)
    × AllAnsweredAlike (guarded_after_line true g what) (guarded_after_line false h what) lines

-- where no line is a debt, servers without guards answer each line as those with guards do, and leave the same machine
abbrev pub NoDebtsNoDifference : Type 0
NoDebtsNoDifference =
    (list : StartList) (accounts : ℕ → Account) (lines : List (List ℕ)) → AllUnused accounts → NoDebts (guarded_start list accounts) lines →
    AllAnsweredAlike (guarded_start list accounts) (guarded_start list accounts) lines
    × (guarded_running false (guarded_start list accounts) lines ≡ guarded_running true (guarded_start list accounts) lines)

-- a request all of whose tests come out alike with the slack is no debt
abbrev pub AlikeTestsNoDebt : Type 0
AlikeTestsNoDebt =
    (buffer : Option (List ℕ)) (session : Session) (account : Account) (request : List ℕ) →
    IsIn (session_cell (Asked buffer request ∷ []) (limits_of session.account) session)
    (more_of (limits_of session.account) (slack session.account account)) →
    IsNoDebt buffer session account request
