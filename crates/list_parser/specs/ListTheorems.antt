-- What is true of each start list that is read.
use Rattle.std.specs.Prelude.{◌≡◌, ◌↔◌, ℕ, ◌+◌, ◌<◌, ◌≤◌, ◌==◌, zero, suc, Bool, true, false, List, ◌++◌, length, take, codes, sum_by, if◌then◌else◌, Some, None, IsSome, Ok}
use Rattle.std.specs.List.{slice_get}
use Rattle.std.specs.Option.{option_map, unwrap_or}
use Rattle.own_model.specs.Account.{Account, shortage}
use Rattle.own_model.specs.Listed.{Listed, ListedEntry, start_list_of}
use Rattle.own_model.specs.StartList.{Boots, StartEntry, StartList, budget, init_account, init_at, inits_at_first, inits_keep, inits_kept, machine_account}
use Rattle.list_parser.specs.Quota.{quota_fault}
use Rattle.list_parser.specs.Depth.{HaveParentInits}
use Rattle.list_parser.specs.StartText.{list_in}
use Rattle.list_parser.specs.declared.fault.BootFault.{BootFault}
use Rattle.list_parser.specs.declared.fault.BootFault.TheVariants.{QuotaExceeded}

-- an entry of the machine's own list has its name for its path and for its label. The path of an entry of an init's list is
-- the names of the init's path and its own, separated by `/`; its label is the same, separated by ` -> `
pub record HasJoinedNames (entries : List ListedEntry) (entry : ListedEntry) : Type 0 where
  pub outermost : entry.home ≡ 0 → (entry.path ≡ entry.name) × (entry.label ≡ entry.name)
  pub within : (place : ℕ) (init : ListedEntry) → entry.home ≡ place + 1 → slice_get entries place ≡ Some init →
      (entry.path ≡ init.path ++ codes "/" ++ entry.name) × (entry.label ≡ init.label ++ codes " -> " ++ entry.name)

-- a list is the machine's own, or that of an init which is itself in a list within one init less
abbrev pub is_within : ℕ → List ListedEntry → ℕ → Bool
is_within inits entries zero = true
is_within zero entries (suc place) = false
is_within (suc inits) entries (suc place) =
    unwrap_or (option_map (λ (init : ListedEntry). is_within inits entries init.home) (slice_get entries place)) false

-- names are joined; lists nest three inits deep at most; names of one list differ; each entry is of the machine's list or of
-- that of an init before it. Between an init and an entry of its list are only entries of lists from the init's on: each
-- init is directly before its own entries
pub record AreListed (entries : List ListedEntry) : Type 0 where
  pub joined : (place : ℕ) (entry : ListedEntry) → slice_get entries place ≡ Some entry → HasJoinedNames entries entry
  pub deep : (place : ℕ) (entry : ListedEntry) → slice_get entries place ≡ Some entry → is_within 3 entries entry.home ≡ true
  pub differ : (place other : ℕ) (entry another : ListedEntry) → slice_get entries place ≡ Some entry → slice_get entries other ≡ Some another →
      entry.home ≡ another.home → entry.name ≡ another.name → place ≡ other
  pub homes : HaveParentInits entries
  pub together : (init between place : ℕ) (entry other : ListedEntry) → slice_get entries place ≡ Some entry → entry.home ≡ init + 1 →
      init < between → between < place → slice_get entries between ≡ Some other → init + 1 ≤ other.home

-- this is true of each text that is a start list, and there are at most 32 entries
pub record IsListed (list : Listed) : Type 0 where
  pub entries : AreListed list.entries
  pub few : length list.entries ≤ 32

abbrev pub ListsAreListed : Type 0
ListsAreListed = (text : List ℕ) (list : Listed) → list_in text ≡ Ok list → IsListed list

-- ---- budgets

-- a start list that is read boots exactly if no entry is the first that is not covered
abbrev pub FaultsAreOfLacks : Type 0
FaultsAreOfLacks = (text : List ℕ) (list : Listed) → list_in text ≡ Ok list → (quota_fault list ≡ None) ↔ Boots (start_list_of list)

-- the first entry that isn't covered: those before it are, each in turn, and what its init then has doesn't cover it
pub record IsFirstLack (starts : StartList) (path : List ℕ) : Type 0 where
  pub place : ℕ
  pub start : StartEntry
  pub there : slice_get starts.starts place ≡ Some start
  pub its : start.entry.name ≡ path
  pub before : (earlier : ℕ) (one : StartEntry) → earlier < place → slice_get starts.starts earlier ≡ Some one →
      shortage (init_at (inits_keep (inits_at_first starts) (take earlier starts.starts)) one.entry.home) (budget one).ram (budget one).caps ≡ None
  pub lacks : IsSome (shortage (init_at (inits_keep (inits_at_first starts) (take place starts.starts)) start.entry.home) (budget start).ram (budget start).caps)

-- it is the one that the fault names
abbrev pub FaultsNameTheFirst : Type 0
FaultsNameTheFirst =
    (list : Listed) (fault : BootFault) → quota_fault list ≡ Some fault →
    (path : List ℕ) × (fault ≡ QuotaExceeded path) × IsFirstLack (start_list_of list) path

-- what the entries of an init's own list start with together, each in its account and its reserve: RAM, and capabilities
abbrev pub ram_given : ℕ → List StartEntry → ℕ
ram_given init starts = sum_by (λ (start : StartEntry). if start.entry.home == init then (budget start).ram else 0) starts

abbrev pub caps_given : ℕ → List StartEntry → ℕ
caps_given init starts = sum_by (λ (start : StartEntry). if start.entry.home == init then (budget start).caps else 0) starts

-- an init of a number has exactly what it keeps and what it gives its own entries
pub record GivesItsOwn (starts : StartList) (init : ℕ) (has : Account) : Type 0 where
  pub ram : (init_at (inits_kept starts) init).ram_limit + ram_given init starts.starts ≡ has.ram_limit
  pub caps : (init_at (inits_kept starts) init).caps_limit + caps_given init starts.starts ≡ has.caps_limit

-- this is true of the machine's init, and of each entry that is one, if a list boots
abbrev pub InitsGiveTheirOwn : Type 0
InitsGiveTheirOwn =
    (starts : StartList) → Boots starts →
    GivesItsOwn starts 0 (machine_account starts)
    × ((place : ℕ) (start : StartEntry) → slice_get starts.starts place ≡ Some start → GivesItsOwn starts (place + 1) (init_account start))
