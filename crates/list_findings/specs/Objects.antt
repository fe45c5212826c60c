-- The objects of a start list that have members, each with the part of the list that it is.
use Rattle.std.specs.Prelude.{ℕ, List, [], ◌∷◌, ◌++◌, codes, flat_map, if◌then◌else◌, Option, Some}
use Rattle.std.specs.List.{enumerate_from}
use Rattle.std.specs.Option.{option_and_then, option_map}
use Rattle.serde_json.specs.Data.{Data}
use Rattle.serde_json.specs.Find.{get}
use Rattle.serde_json.specs.View.{view}
use Rattle.list_faults.specs.Values.{EntryValue, elements_in, found_in, runs}
use Rattle.list_findings.specs.declared.members.MemberOwner.{MemberOwner}
use Rattle.list_findings.specs.declared.members.MemberOwner.TheVariants as table
use Rattle.list_findings.specs.declared.object_parts.ObjectPart.{ObjectPart as SeenPart}
use Rattle.list_parts.specs.Steps.{rule_at}
use Rattle.list_parts.specs.declared.list_part.EntryStep.{EntryStep}
use Rattle.list_parts.specs.declared.list_part.ListPart.{ListPart}
use Rattle.list_parts.specs.declared.list_part.ListPart.TheVariants as parts
use Rattle.list_parts.specs.declared.list_part.RuleOwner.{RuleOwner}
use Rattle.list_parts.specs.declared.list_part.RuleOwner.TheVariants as owner

-- which members an object has, its part, and its value, which may be missing or no object
pub record ObjectPart : Type 0 where
  pub owner : MemberOwner
  pub part : ListPart
  pub value : Option Data

abbrev pub object_at : MemberOwner → ListPart → Option Data → ObjectPart
object_at owner part value = record { owner = owner; part = part; value = value }

-- the rules of an owner's list, with the steps to the owner's entry
abbrev pub rule_part : RuleOwner → List EntryStep → ℕ × Data → List ObjectPart
rule_part whose steps rule = object_at table.Rule (rule_at whose steps rule.0) (Some rule.1) ∷ []

abbrev pub rule_parts : RuleOwner → List EntryStep → Option Data → List ObjectPart
rule_parts whose steps d = flat_map (rule_part whose steps) (enumerate_from 0 (elements_in d))

-- the kinds of objects that a server declares
abbrev pub kind_part : ℕ → List EntryStep → ℕ × Data → List ObjectPart
kind_part number steps kind = object_at table.Kind (parts.Kind number steps kind.0) (Some kind.1) ∷ []

abbrev pub kind_parts : ℕ → List EntryStep → Option Data → List ObjectPart
kind_parts number steps d = flat_map (kind_part number steps) (enumerate_from 0 (elements_in d))

-- which object an entry is, by its binary
abbrev pub entry_owner : Data → MemberOwner
entry_owner entry =
    if runs (codes "init") entry then table.Init else (if runs (codes "server") entry then table.Server else table.Entry)

-- what an entry starts, except its entries, or its kinds
abbrev pub parts_within : ℕ → List EntryStep → Data → MemberOwner → List ObjectPart
parts_within number steps entry table.Init =
    object_at table.Config (parts.Config number steps) (get (codes "config") entry)
    ∷ rule_parts (owner.Inner number) steps (option_and_then (get (codes "default-route")) (get (codes "config") entry))
parts_within number steps entry table.Server = kind_parts number steps (get (codes "kinds") entry)
parts_within number steps entry other = []

-- an entry, by its number, its own route, and what it starts or declares
abbrev pub parts_of_entry : ℕ × EntryValue → List ObjectPart
parts_of_entry entry =
    object_at (entry_owner entry.1.value) (parts.Entry entry.0 entry.1.steps) (Some entry.1.value)
    ∷ (rule_parts (owner.Entry entry.0) entry.1.steps (get (codes "route") entry.1.value)
    ++ parts_within entry.0 entry.1.steps entry.1.value (entry_owner entry.1.value))

-- all objects of a list: the list, its machine, the rules of its default route, and then each entry
abbrev pub parts_in : Data → List ObjectPart
parts_in list =
    object_at table.List parts.List (Some list)
    ∷ object_at table.Machine parts.Machine (get (codes "machine") list)
    ∷ (rule_parts owner.Default [] (get (codes "default-route") list)
    ++ flat_map parts_of_entry (enumerate_from 0 (found_in list)))

-- ---- what the code's type denotes

abbrev pub seen_part : SeenPart → ObjectPart
seen_part part = object_at part.owner part.part (option_map (λ value. view value.now) part.value)
