-- The needs of accounts: the minimum budgets with which the tests that passed so far still pass.
use Rattle.std.specs.Prelude.{ℕ, ◌+◌, ◌-◌, ◌^◌, ◌&&◌, Bool, true, false, List, [], ◌∷◌, length, drop, min, codes, nat_eq, if◌then◌else◌, Option, Some, None}
use Rattle.std.specs.List.{starts_with}
use Rattle.own_model.specs.Account.{Account}
use Rattle.own_model.specs.Amounts.{Amounts, no_amounts}
use Rattle.own_model.specs.Call.{Call}
use Rattle.own_model.specs.Listed.{Binary, Listed, ListedEntry, reserve_of}
use Rattle.own_model.specs.Listed.Binary.{Script, Server, Init}
use Rattle.own_model.specs.Transcript.{calls_of, entry_at, own_part, state_at}
use Rattle.own_model.specs.World.{World, world_running}
use Rattle.budget_theorems.specs.Need.{Cell, cell}
use Rattle.run_lines.specs.Accounts.{listed_at}

-- the need of an account's start budget; its component may have exited
pub record Needed : Type 0 where
  pub need : Amounts
  pub gone : Bool

abbrev pub nothing_needed : Needed
nothing_needed = record { need = no_amounts; gone = false }

-- ---- of scripts

-- the calls of the component at a place, out of those of all
abbrev pub own_calls : World → List (List ℕ) → ℕ → List Call
own_calls start calls place = own_part place (calls_of start.entries calls)

abbrev pub limits : Account → Amounts
limits account = record { ram = account.ram_limit; caps = account.caps_limit }

-- what the component at a place started with
abbrev pub budget_at : World → ℕ → Amounts
budget_at start place = limits (state_at start.states place).account

-- the start of a cell
abbrev pub begins : Cell → Amounts
begins cell = record { ram = cell.ram_from; caps = cell.caps_from }

-- the minimum budget of the cell of its own run after calls of all, and whether it has exited
abbrev pub needed_by_calls : World → List (List ℕ) → ℕ → Needed
needed_by_calls start calls place = record {
  need =
      begins (cell (entry_at start.entries place) (own_calls start calls place) (budget_at start place) (state_at start.states place));
  gone = (state_at (world_running start calls).states place).gone;
}

-- ---- of inits

-- two together, up to what 64 bits hold
abbrev pub added : Amounts → Amounts → Amounts
added one other = record { ram = min (one.ram + other.ram) (2 ^ 64 - 1); caps = min (one.caps + other.caps) (2 ^ 64 - 1) }

abbrev pub is_script : Binary → Bool
is_script Script = true
is_script (Server service offer) = false
is_script Init = false

-- a path is below the path of an init: it begins with it, and a `/` follows. The machine's init has no path, and all are below it
abbrev pub lies_below : Option (List ℕ) → List ℕ → Bool
lies_below None path = true
lies_below (Some init) path = starts_with nat_eq path init && starts_with nat_eq (drop (length init) path) (codes "/")

abbrev pub counts_below : Option (List ℕ) → ListedEntry → Bool
counts_below init entry = is_script entry.binary && lies_below init entry.path

-- the need of the scripts below an init together, each with the reserve that its list gives it: of entries from a place on, after
-- a sum of those before
abbrev pub summed : Option (List ℕ) → (ℕ → Needed) → Amounts → ℕ → List ListedEntry → Amounts
summed init own sum place [] = sum
summed init own sum place (entry ∷ rest) =
    summed init own (if counts_below init entry then added sum (added (own place).need (reserve_of entry)) else sum) (place + 1) rest

abbrev pub needed_below : Option (List ℕ) → (ℕ → Needed) → Listed → Needed
needed_below init own listed = record { need = summed init own no_amounts 0 listed.entries; gone = false }

-- ---- of all

-- the need of a component's account, by what it runs
abbrev pub needed_running : Binary → (ℕ → Needed) → Listed → ℕ → Needed
needed_running Script own listed place = own place
needed_running (Server service offer) own listed place = nothing_needed
needed_running Init own listed place = needed_below (Some (listed_at listed place).path) own listed

-- the need of each account: the machine's init, each component, and each session
pub record Needs : Type 0 where
  pub init : Needed
  pub component : ℕ → Needed
  pub session : ℕ → ℕ → Needed

-- by the needs of scripts and sessions
abbrev pub needs_by : (ℕ → Needed) → (ℕ → ℕ → Amounts) → Listed → Needs
needs_by own of_session listed = record {
  init = needed_below None own listed;
  component = λ place. needed_running (listed_at listed place).binary own listed place;
  session = λ component selector. record { need = of_session component selector; gone = false };
}

-- after calls of all
abbrev pub needs_after : (ℕ → ℕ → Amounts) → Listed → World → List (List ℕ) → Needs
needs_after of_session listed start calls = needs_by (needed_by_calls start calls) of_session listed
