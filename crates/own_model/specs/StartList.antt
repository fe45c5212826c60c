-- The components of a machine, and how they start.
use Rattle.std.specs.Prelude.{ℕ, ◌+◌, ◌*◌, ◌<◌, false, List, [], ◌∷◌, ◌++◌, length, map, slice_index_or, slice_set}
use Rattle.std.specs.FinMap as map
use Rattle.own_model.specs.Account.{Account, opened, parted_with, Fits}
use Rattle.own_model.specs.Amounts.{Amounts, no_amounts}
use Rattle.own_model.specs.OwnHeap.{no_heap}
use Rattle.own_model.specs.OwnState.{OwnState}
use Rattle.own_model.specs.Routes.{Level}

-- a script makes calls, a server answers those of others, and an init starts components of its own
pub data Kind : Type 0 where
  Script : Kind
  Server : Kind
  Init : Kind

-- what a start list states about a component, except its budget: the name by which lines call it, the label under which it opens
-- sessions, its kind, the number of its init, and, list by list outward, where its
-- session requests are routed. The machine's init has the number 0, and
-- one that is itself started has the number after its place
pub record Entry : Type 0 where
  pub name : List ℕ
  pub label : List ℕ
  pub kind : Kind
  pub home : ℕ
  pub routes : List Level

-- an entry with the RAM (bytes) and the capabilities that its account starts with, and its reserve
pub record StartEntry : Type 0 where
  pub entry : Entry
  pub ram : ℕ
  pub caps : ℕ
  pub reserve : Amounts

-- its budget: what it starts with in account and reserve together
abbrev pub budget : StartEntry → Amounts
budget start = record { ram = start.ram + start.reserve.ram; caps = start.caps + start.reserve.caps }

-- a machine of so many pages and capabilities, and what its inits start, each init before its own
pub record StartList : Type 0 where
  pub pages : ℕ
  pub caps : ℕ
  pub starts : List StartEntry

abbrev pub entries_of : StartList → List Entry
entries_of list = map (λ start. start.entry) list.starts

-- ---- components, and inits

-- of amounts, those that a component of a kind has by itself: an init has none, for its account is one of inits
abbrev pub of_component : Kind → Amounts → Amounts
of_component Script amounts = amounts
of_component Server amounts = amounts
of_component Init amounts = no_amounts

-- and those that it has as an init
abbrev pub of_init : Kind → Amounts → Amounts
of_init Script amounts = no_amounts
of_init Server amounts = no_amounts
of_init Init amounts = amounts

-- what a component starts with in its account
abbrev pub account_at_start : StartEntry → Amounts
account_at_start start = of_component start.entry.kind (record { ram = start.ram; caps = start.caps })

-- what it starts with by itself, in account and reserve together
abbrev pub own_budget : StartEntry → Amounts
own_budget start = of_component start.entry.kind (budget start)

-- a component starts with that and nothing else
abbrev pub start_state : StartEntry → OwnState
start_state start = record {
  account = opened (account_at_start start).ram (account_at_start start).caps;
  reserve = of_component start.entry.kind start.reserve;
  selectors = map.empty;
  regions = map.empty;
  heap = no_heap;
  sliced = map.empty;
  gone = false;
}

abbrev pub start_states : StartList → List OwnState
start_states list = map start_state list.starts

-- the account of the machine's init before it starts anything: the whole machine
abbrev pub machine_account : StartList → Account
machine_account list = opened (list.pages * 4096) list.caps

-- an account of nothing, at the place of who is no init
abbrev pub no_account : Account
no_account = opened 0 0

-- the account of the init of a number
abbrev pub init_at : List Account → ℕ → Account
init_at inits number = slice_index_or inits number no_account

-- the account that an entry has as an init
abbrev pub init_account : StartEntry → Account
init_account start = opened (of_init start.entry.kind (budget start)).ram (of_init start.entry.kind (budget start)).caps

-- inits' accounts by their numbers, once an entry more has started: its init has parted with its budget, and what it has as an
-- init itself comes last
abbrev pub with_started : List Account → StartEntry → List Account
with_started inits start =
    slice_set inits start.entry.home (parted_with (init_at inits start.entry.home) (budget start).ram (budget start).caps)
    ++ init_account start ∷ []

-- what inits keep once these entries have started, each in turn
abbrev pub inits_keep : List Account → List StartEntry → List Account
inits_keep inits [] = inits
inits_keep inits (start ∷ starts) = inits_keep (with_started inits start) starts

-- an entry is covered by what its init still has
pub record IsCovered (inits : List Account) (start : StartEntry) : Type 0 where
  pub there : start.entry.home < length inits
  pub covers : Fits (init_at inits start.entry.home) (budget start).ram (budget start).caps

-- each entry in turn is
abbrev pub AllCovered : List Account → List StartEntry → Type 0
AllCovered inits [] = Unit {0}
AllCovered inits (start ∷ starts) = IsCovered inits start × AllCovered (with_started inits start) starts

-- the machine's init alone
abbrev pub inits_at_first : StartList → List Account
inits_at_first list = machine_account list ∷ []

-- a start list boots where each entry in turn is covered
abbrev pub Boots : StartList → Type 0
Boots list = AllCovered (inits_at_first list) list.starts

-- what all inits keep then
abbrev pub inits_kept : StartList → List Account
inits_kept list = inits_keep (inits_at_first list) list.starts
