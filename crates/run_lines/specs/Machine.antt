-- The machine of a start list's text, and the fault of a text that has none.
use Rattle.std.specs.Prelude.{◌≡◌, ℕ, Bool, true, false, List, [], Option, Some, Result, Ok, Err}
use Rattle.own_model.specs.AccountList.{account_list_text}
use Rattle.own_model.specs.Listed.{Listed, start_list_of}
use Rattle.own_model.specs.StartList.{Boots}
use Rattle.own_model.specs.World.{World, start_world}
use Rattle.list_parser.specs.Quota.{quota_fault}
use Rattle.list_parser.specs.StartText.{list_in}
use Rattle.list_parser.specs.declared.fault.BootFault.{BootFault}

-- a text is read as this start list, and the list boots
pub record IsMachine (text : List ℕ) (list : Listed) : Type 0 where
  pub reads : list_in text ≡ Ok list
  pub boots : Boots (start_list_of list)

-- the world with which it starts
abbrev pub world_of : Listed → World
world_of list = start_world (start_list_of list)

-- the fault of a list that was read, or why none was
abbrev fault_of : Result Listed BootFault → Option BootFault
fault_of (Ok list) = quota_fault list
fault_of (Err fault) = Some fault

-- the fault of a text that boots no machine
abbrev pub boot_fault : List ℕ → Option BootFault
boot_fault text = fault_of (list_in text)

-- the account list, if it is asked for
abbrev pub accounts_for : Bool → Listed → World → List ℕ
accounts_for true list world = account_list_text list world
accounts_for false list world = []
