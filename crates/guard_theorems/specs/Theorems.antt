-- Theorems on guarded servers, as statements.
use Rattle.std.specs.Prelude.{◌≡◌, ℕ, true, List, Some, None}
use Rattle.std.specs.FinMap.{get}
use Rattle.own_model.specs.Account.{Account, shortage, credited, opened}
use Rattle.own_model.specs.Donation.{raised}
use Rattle.own_model.specs.OwnState.Object.{OpenSession}
use Rattle.own_model.specs.Session.{Session, session_ram, session_caps, too_small}
use Rattle.own_model.specs.StartList.{StartList, entries_of, start_states}
use Rattle.own_model.specs.Text.{lines_of}
use Rattle.own_model.specs.Transcript.{state_at, transcript}
use Rattle.own_model.specs.World.{IsUnused, start_world, world_running}
use Rattle.guard_theorems.specs.Guarded.{GuardedWorld, cover, guarded_running, guarded_transcript}

-- a start list that has just booted, with an account for each server
abbrev pub guarded_start : StartList → (ℕ → Account) → GuardedWorld
guarded_start list accounts = record { world = start_world list; accounts = accounts }

-- the accounts are any of which nothing is used
abbrev pub AllUnused : (ℕ → Account) → Type 0
AllUnused accounts = (place : ℕ) → IsUnused (accounts place)

-- servers with guards answer all lines as servers whose sessions have accounts of their own
abbrev pub GuardedTranscript : Type 0
GuardedTranscript =
    (list : StartList) (accounts : ℕ → Account) (input : List ℕ) → AllUnused accounts →
    guarded_transcript true (guarded_start list accounts) (lines_of input) ≡ transcript (entries_of list) (start_states list) input

-- and leave the same own states and the same accounts of inits
abbrev pub GuardedWorlds : Type 0
GuardedWorlds =
    (list : StartList) (accounts : ℕ → Account) (lines : List (List ℕ)) → AllUnused accounts →
    (guarded_running true (guarded_start list accounts) lines).world ≡ world_running (start_world list) lines

-- a session is open in a machine, of some component and under some selector
pub record IsOpenIn (g : GuardedWorld) (session : Session) : Type 0 where
  pub component : ℕ
  pub selector : ℕ
  pub there : get (state_at g.world.states component).selectors selector ≡ Some (OpenSession session)

-- the account of a server never decides a test: after any lines its guard covers no more than both, and what a new session is
-- charged is covered once its donation has come
abbrev pub AccountsNeverDecide : Type 0
AccountsNeverDecide =
    (list : StartList) (accounts : ℕ → Account) (lines : List (List ℕ)) → AllUnused accounts →
    let g = guarded_running true (guarded_start list accounts) lines in
    ((session : Session) → IsOpenIn g session → cover true session.account (g.accounts session.server) ≡ session.account)
    × ((server ram caps : ℕ) → too_small ram caps ≡ None →
    shortage (cover true (opened ram caps) (raised (g.accounts server) ram caps)) session_ram session_caps ≡ None)

-- and it covers each close: what the session used is credited, and the donation is free
abbrev pub ClosesAreCovered : Type 0
ClosesAreCovered =
    (list : StartList) (accounts : ℕ → Account) (lines : List (List ℕ)) → AllUnused accounts →
    let g = guarded_running true (guarded_start list accounts) lines in
    (session : Session) → IsOpenIn g session →
    let account = credited (g.accounts session.server) session.account.ram_used session.account.caps_used in
    shortage account session.account.ram_limit session.account.caps_limit ≡ None
