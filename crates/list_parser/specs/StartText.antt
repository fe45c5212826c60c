-- What a text says as a start list, or its fault.
use Rattle.std.specs.Prelude.{ℕ, List, codes, length, nat_lt, if◌then◌else◌, Option, Some, None, Result, Ok, Err}
use Rattle.std.specs.Option.{option_and_then}
use Rattle.std.specs.Str.{is_utf8}
use Rattle.serde_json.specs.Data.{Data}
use Rattle.serde_json.specs.Find.{get}
use Rattle.serde_json.specs.Read.{read}
use Rattle.own_model.specs.Listed.{Listed}
use Rattle.list_parser.specs.declared.fault.BootFault.{BootFault}
use Rattle.list_parser.specs.declared.fault.BootFault.TheVariants.{BadConfig, BadJson}
use Rattle.list_parser.specs.declared.fault.ConfigField.{ConfigField}
use Rattle.list_parser.specs.declared.fault.ConfigField.TheVariants as field
use Rattle.list_parser.specs.declared.list_fault.ExpectedValue.TheVariants as expect
use Rattle.list_parser.specs.declared.list_fault.FaultPart.TheVariants as part
use Rattle.list_parser.specs.declared.list_fault.ListFault.{ListFault}
use Rattle.list_parser.specs.declared.list_fault.ListMember.TheVariants.{Field}
use Rattle.list_parser.specs.Entries.{entries_read, own_of}
use Rattle.list_parser.specs.FaultPlace.{◌>>=◌, bad, fault_at, value_or}
use Rattle.list_parser.specs.Members.{is_object, whole_at}

-- the value, if it is an object
abbrev pub object_in : Data → Option Data
object_in d = if is_object d then Some d else None

-- the machine is an object; a value that is no object has no member
abbrev pub machine_of : Data → Result Data ListFault
machine_of d = value_or (bad field.Machine expect.Object) (option_and_then object_in (get (codes "machine") d))

-- the fault of the machine's size
abbrev pub bad_size : ConfigField → ListFault
bad_size of = fault_at (BadConfig of) part.Machine (Some (Field of)) expect.MachineSize

-- the list, or its fault with the place of the fault
abbrev pub placed_list : Data → Result Listed ListFault
placed_list d = do
  machine ← machine_of d
  pages ← value_or (bad_size field.Pages) (whole_at (codes "pages") 16 4096 machine)
  caps ← value_or (bad_size field.Caps) (whole_at (codes "caps") 16 4096 machine)
  own ← own_of 0 d
  so_far ← entries_read own.starts
  Ok (record { pages = pages; caps = caps; default_route = own.route; entries = so_far.entries })

-- the fault without its place
abbrev pub fault_of : {A : Type 0} → Result A ListFault → Result A BootFault
fault_of (Ok x) = Ok x
fault_of (Err fault) = Err fault.fault

abbrev pub list_of : Data → Result Listed BootFault
list_of d = fault_of (placed_list d)

-- the value that bytes are, if they are UTF-8 and JSON
abbrev pub json_in : List ℕ → Option Data
json_in bytes = if is_utf8 bytes then read bytes else None

-- a text of at most 65,536 bytes
abbrev pub list_in : List ℕ → Result Listed BootFault
list_in bytes =
    if nat_lt 65536 (length bytes) then Err (BadConfig field.Size)
    else (value_or BadJson (json_in bytes) >>= list_of)
