-- The RAM and the capabilities that inits have left while a machine starts.
use Rattle.std.specs.Prelude.{ℕ, ◌+◌, List, [], ◌∷◌, is_some, if◌then◌else◌, Option, Some, None}
use Rattle.own_model.specs.Account.{Account, shortage}
use Rattle.own_model.specs.Amounts.{Amounts}
use Rattle.own_model.specs.Listed.{Listed, ListedEntry, reserve_of, start_of, start_list_of}
use Rattle.own_model.specs.StartList.{init_at, inits_at_first, with_started}
use Rattle.list_parts.specs.Steps.{steps_to}
use Rattle.list_parts.specs.declared.start_quota.EntryShortfall.{EntryShortfall}

-- what an entry asks for, in its account and its reserve together
abbrev pub budget_of : ListedEntry → Amounts
budget_of entry = record { ram = entry.ram + (reserve_of entry).ram; caps = entry.caps + (reserve_of entry).caps }

-- an entry that isn't covered by what its init has left
abbrev pub lack_of : Listed → ℕ → Account → ListedEntry → EntryShortfall
lack_of list number init entry = record {
  entry = number;
  steps = steps_to list.entries number;
  path = entry.path;
  ram = entry.ram;
  caps = entry.caps;
  reserve_ram = (reserve_of entry).ram;
  reserve_caps = (reserve_of entry).caps;
  ram_left = init.ram_limit;
  caps_left = init.caps_limit;
}

-- the first of the entries, counted from a number on, that isn't covered by what its init has left
abbrev pub lack_from : Listed → ℕ → List Account → List ListedEntry → Option EntryShortfall
lack_from list number inits [] = None
lack_from list number inits (entry ∷ entries) =
    if is_some (shortage (init_at inits entry.home) (budget_of entry).ram (budget_of entry).caps)
    then Some (lack_of list number (init_at inits entry.home) entry)
    else lack_from list (number + 1) (with_started inits (start_of list entry)) entries

abbrev pub first_shortfall : Listed → Option EntryShortfall
first_shortfall list = lack_from list 0 (inits_at_first (start_list_of list)) list.entries
