-- The machine of a start list.
use Rattle.std.proofs.Common.{◌≡◌, ◌≢◌, ℕ, List, Some, Ok, Err, refl, ap}
use Rattle.own_model.specs.Listed.{Listed}
use Rattle.own_model.specs.StartList.{StartList, entries_of}
use Rattle.own_model.specs.World.{World, start_world}
use Rattle.list_parser.specs.Quota.{quota_fault}
use Rattle.list_parser.specs.StartText.{list_in}
use Rattle.list_parser.specs.declared.fault.BootFault.{BootFault}
use Rattle.list_parser.specs.declared.fault.BootFault.TheVariants.{NoMemory}
use Rattle.run_lines.specs.Machine.{boot_fault}

-- each way in which a fault of a list is told
pub fault_of_text : (text : List ℕ) (fault : BootFault) → (fault ≢ NoMemory → list_in text ≡ Err fault) → fault ≢ NoMemory → boot_fault text ≡ Some fault
fault_of_text text fault told other = rw (told other) refl

pub fault_of_list : (text : List ℕ) (listed : Listed) (fault : BootFault) → list_in text ≡ Ok listed →
    (fault ≢ NoMemory → quota_fault listed ≡ Some fault) → fault ≢ NoMemory → boot_fault text ≡ Some fault
fault_of_list text listed fault reads told other = rw reads (told other)

-- the world of a start list has its entries
pub listed_at_start : (list : StartList) (world : World) → world ≡ start_world list → world.entries ≡ entries_of list
listed_at_start list world starts = ap (λ w. w.entries) starts

pub ruleset tasks = (fault_of_text, fault_of_list, listed_at_start)
