-- The whole machine as the model sees it: inits' accounts, and each component's own state.
use Rattle.std.specs.Prelude.{◌≡◌, ℕ, ◌+◌, ◌*◌, ◌<◌, ◌==◌, ◌&&◌, List, length, slice_set, sum_by, if◌then◌else◌}
use Rattle.std.specs.List.{AllByRecursion, zip}
use Rattle.own_model.specs.Account.{Account}
use Rattle.own_model.specs.Call.{Call}
use Rattle.own_model.specs.Donation.{raised}
use Rattle.own_model.specs.Limits.{ram_limits, caps_limits, inits_after, AreWithinLimits}
use Rattle.own_model.specs.OwnState.{OwnState}
use Rattle.own_model.specs.OwnStep.{Outcome}
use Rattle.own_model.specs.Running.{running_step, states_after_line, states_running, inits_after_line, inits_running}
use Rattle.own_model.specs.StartList.{Entry, Kind, StartEntry, StartList, own_budget, entries_of, start_states, init_at, inits_kept}
use Rattle.own_model.specs.StartList.Kind.{Script, Server, Init}
use Rattle.own_model.specs.Transcript.{Heard, entry_at, state_at}

-- the entries, inits' accounts by their numbers, and the own states in the order of the entries
pub record World : Type 0 where
  pub entries : List Entry
  pub inits : List Account
  pub states : List OwnState

-- a start list that has just booted
abbrev pub start_world : StartList → World
start_world list = record { entries = entries_of list; inits = inits_kept list; states = start_states list }

-- what a component's call gives: own step from the component's own state
abbrev pub outcome_at : World → ℕ → Call → Outcome
outcome_at world component call = running_step world.entries world.states (record { component = component; call = call })

-- the world with another own state for one component, and with what that loses of its limits in its init's account
abbrev pub with_state : World → ℕ → OwnState → World
with_state world component s = record world {
  inits = inits_after (entry_at world.entries component).home world.inits (state_at world.states component) s;
  states = slice_set world.states component s;
}

-- the world after a classified line
abbrev pub world_after_line : World → Heard → World
world_after_line world what = record world {
  inits = inits_after_line world.entries world.inits world.states what;
  states = states_after_line world.entries world.states what;
}

-- and after these lines
abbrev pub world_running : World → List (List ℕ) → World
world_running world lines = record world {
  inits = inits_running world.entries world.inits world.states lines;
  states = states_running world.entries world.states lines;
}

-- ---- accounts

-- the account of the machine's init
abbrev pub machine_init : World → Account
machine_init world = init_at world.inits 0

-- the account of a component of a kind: an init's own is among inits', every other one's in its own state
abbrev pub account_by : Kind → Account → Account → Account
account_by Script init own = own
account_by Server init own = own
account_by Init init own = init

-- that of the component at a place
abbrev pub account_at : World → ℕ → Account
account_at world place =
    account_by (entry_at world.entries place).kind (init_at world.inits (place + 1)) (state_at world.states place).account

-- ---- balance

-- all limits of RAM, inits' and the sessions' among them
abbrev pub all_ram : World → ℕ
all_ram world = sum_by (λ (init : Account). init.ram_limit) world.inits + sum_by ram_limits world.states

-- all limits of capabilities, the same
abbrev pub all_caps : World → ℕ
all_caps world = sum_by (λ (init : Account). init.caps_limit) world.inits + sum_by caps_limits world.states

-- nothing of an account is used
pub record IsUnused (a : Account) : Type 0 where
  pub ram : a.ram_used ≡ 0
  pub caps : a.caps_used ≡ 0

-- no account is overdrawn, inits use nothing, each component's init is there, and all limits add up to the machine's
pub record IsBalanced (pages caps : ℕ) (world : World) : Type 0 where
  pub within : AllByRecursion AreWithinLimits world.states
  pub unused : AllByRecursion IsUnused world.inits
  pub homes : AllByRecursion (λ (entry : Entry). entry.home < length world.inits) world.entries
  pub ram_adds_up : all_ram world ≡ pages * 4096
  pub caps_add_up : all_caps world ≡ caps

-- a component with its reserve and its open sessions has the budget that it started with, or nothing after its exit
pub record HasItsBudget (start : StartEntry) (s : OwnState) : Type 0 where
  pub ram : ram_limits s ≡ (if s.gone then 0 else (own_budget start).ram)
  pub caps : caps_limits s ≡ (if s.gone then 0 else (own_budget start).caps)

-- the budgets of those of an init's that have exited
abbrev pub ram_returned : ℕ → List StartEntry → List OwnState → ℕ
ram_returned home starts states =
    sum_by (λ p. if p.1.gone && p.0.entry.home == home then (own_budget p.0).ram else 0) (zip starts states)

abbrev pub caps_returned : ℕ → List StartEntry → List OwnState → ℕ
caps_returned home starts states =
    sum_by (λ p. if p.1.gone && p.0.entry.home == home then (own_budget p.0).caps else 0) (zip starts states)

-- what the account of the init of a number is for a start list: what the start left it, and the budgets of those of its own
-- list that have exited
abbrev pub init_for : StartList → List OwnState → ℕ → Account
init_for list states number =
    raised (init_at (inits_kept list) number) (ram_returned number list.starts states) (caps_returned number list.starts states)

-- a world is balanced for its start list: each component has its budget or has exited, and each init has all else of its own
pub record IsBalancedFor (list : StartList) (world : World) : Type 0 where
  pub balanced : IsBalanced list.pages list.caps world
  pub entries : world.entries ≡ entries_of list
  pub count : length world.states ≡ length list.starts
  pub budgets : AllByRecursion (λ p. HasItsBudget p.0 p.1) (zip list.starts world.states)
  pub inits : (number : ℕ) → number < length world.inits → init_at world.inits number ≡ init_for list world.states number
