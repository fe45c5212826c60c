-- Faults of start lists with their places, and steps that may have one.
use Rattle.std.specs.Prelude.{ℕ, Bool, true, false, List, [], ◌∷◌, codes, if◌then◌else◌, Option, Some, None, Result, Ok, Err}
use Rattle.list_parser.specs.declared.fault.BootFault.{BootFault}
use Rattle.list_parser.specs.declared.fault.BootFault.TheVariants.{BadConfig}
use Rattle.list_parser.specs.declared.fault.ConfigField.{ConfigField}
use Rattle.list_parser.specs.declared.fault.ConfigField.TheVariants as field
use Rattle.list_parser.specs.declared.list_fault.ExpectedValue.{ExpectedValue}
use Rattle.list_parser.specs.declared.list_fault.FaultPart.{FaultPart}
use Rattle.list_parser.specs.declared.list_fault.FaultPart.TheVariants.{Whole}
use Rattle.list_parser.specs.declared.list_fault.Flaw.{Flaw}
use Rattle.list_parser.specs.declared.list_fault.ListFault.{ListFault}
use Rattle.list_parser.specs.declared.list_fault.ListMember.{ListMember}
use Rattle.list_parser.specs.declared.list_fault.ListMember.TheVariants.{Field}

-- the member that has a bad value
abbrev pub member_of : ConfigField → List ℕ
member_of field.Size = codes "size"
member_of field.Machine = codes "machine"
member_of field.Pages = codes "pages"
member_of field.Caps = codes "caps"
member_of field.DefaultRoute = codes "default-route"
member_of field.Start = codes "start"
member_of field.Name = codes "name"
member_of field.Binary = codes "binary"
member_of field.Quantum = codes "quantum"
member_of field.Provides = codes "provides"
member_of field.Route = codes "route"
member_of field.Reserve = codes "reserve"
member_of field.ReserveCaps = codes "reserve-caps"
member_of field.Config = codes "config"
member_of field.Kinds = codes "kinds"

-- ---- steps

-- the value, or else an error
abbrev pub value_or : {A E : Type 0} → E → Option A → Result A E
value_or error None = Err error
value_or error (Some x) = Ok x

-- the continuation of a value; an error remains
infixl 20 ◌>>=◌
abbrev pub ◌>>=◌ : {A B E : Type 0} → Result A E → (A → Result B E) → Result B E
◌>>=◌ (Ok x) f = f x
◌>>=◌ (Err error) f = Err error

-- a step for each element, one after another
abbrev pub all_after : {S A E : Type 0} → (S → A → Result S E) → S → List A → Result S E
all_after step so_far [] = Ok so_far
all_after step so_far (x ∷ xs) = step so_far x >>= (λ next. all_after step next xs)

-- ---- faults

-- a fault of a list or an entry, at a part of it
abbrev pub fault_at : BootFault → FaultPart → Option ListMember → ExpectedValue → ListFault
fault_at fault part member expected = record {
  fault = fault;
  place = record { entry = None; in_config = false; part = part; member = member; expected = expected };
}

-- a member of it
abbrev pub bad : ConfigField → ExpectedValue → ListFault
bad of expected = fault_at (BadConfig of) Whole (Some (Field of)) expected

-- a member of a rule or a kind, or the whole value
abbrev pub bad_member : ListMember → ExpectedValue → Flaw
bad_member member expected = record { member = Some member; expected = expected }

abbrev pub bad_whole : ExpectedValue → Flaw
bad_whole expected = record { member = None; expected = expected }

-- such an element of a list, which is a member
abbrev pub bad_element : ConfigField → FaultPart → Flaw → ListFault
bad_element of element flaw = fault_at (BadConfig of) element flaw.member flaw.expected

abbrev pub in_element : {A : Type 0} → ConfigField → FaultPart → Result A Flaw → Result A ListFault
in_element of element (Ok x) = Ok x
in_element of element (Err flaw) = Err (bad_element of element flaw)

-- the fault of an entry, by its number
abbrev pub of_entry : ℕ → ListFault → ListFault
of_entry number fault = record { fault = fault.fault; place = record fault.place { entry = Some number } }

abbrev pub at_entry : {A : Type 0} → ℕ → Result A ListFault → Result A ListFault
at_entry number (Ok x) = Ok x
at_entry number (Err fault) = Err (of_entry number fault)

-- the fault of what an entry starts
abbrev pub of_config : ListFault → ListFault
of_config fault = record { fault = fault.fault; place = record fault.place { in_config = true } }

abbrev pub in_config : {A : Type 0} → Result A ListFault → Result A ListFault
in_config (Ok x) = Ok x
in_config (Err fault) = Err (of_config fault)
