-- The steps to an entry, from the machine's list on.
use Rattle.std.specs.Prelude.{ℕ, ◌==◌, ◌&&◌, Bool, zero, suc, List, [], ◌∷◌, ◌++◌, count_by, take, Option, Some, None}
use Rattle.std.specs.List.{slice_get}
use Rattle.own_model.specs.Listed.{ListedEntry, most_lists}
use Rattle.list_parts.specs.declared.list_part.EntryStep.{EntryStep}
use Rattle.list_parts.specs.declared.list_part.ListPart.{ListPart}
use Rattle.list_parts.specs.declared.list_part.ListPart.TheVariants as parts
use Rattle.list_parts.specs.declared.list_part.RuleOwner.{RuleOwner}
use Rattle.list_parts.specs.declared.list_part.RuleOwner.TheVariants as owner
use Rattle.list_parts.specs.declared.list_part.PartId.{PartId}
use Rattle.list_parts.specs.declared.list_part.PartId.TheVariants as about

-- the place of an entry in the list of an init: how many entries of that list are before it
abbrev pub place_in : List ListedEntry → ℕ → ℕ → ℕ
place_in entries init number = count_by (λ entry. entry.home == init) (take number entries)

abbrev pub step_to : List ListedEntry → ℕ → ListedEntry → EntryStep
step_to entries number entry = record { place = place_in entries entry.home number; name = Some entry.name }

-- the steps to a list: none to the machine's, and those to its entry for an init's
abbrev pub steps_above : (ℕ → List EntryStep) → ℕ → List EntryStep
steps_above steps zero = []
steps_above steps (suc number) = steps number

abbrev pub steps_at : (ℕ → List EntryStep) → List ListedEntry → ℕ → Option ListedEntry → List EntryStep
steps_at steps entries number None = []
steps_at steps entries number (Some entry) = steps_above steps entry.home ++ step_to entries number entry ∷ []

-- the steps through at most so many lists
abbrev pub steps_within : ℕ → List ListedEntry → ℕ → List EntryStep
steps_within zero entries number = []
steps_within (suc lists) entries number = steps_at (steps_within lists entries) entries number (slice_get entries number)

-- the steps to the entry of a number
abbrev pub steps_to : List ListedEntry → ℕ → List EntryStep
steps_to entries number = steps_within most_lists entries number

-- the rule at a place of an owner's list, with the steps to the owner's entry
abbrev pub rule_at : RuleOwner → List EntryStep → ℕ → ListPart
rule_at owner.Default steps rule = parts.DefaultRule rule
rule_at (owner.Entry number) steps rule = parts.Rule number steps rule
rule_at (owner.Inner number) steps rule = parts.InnerRule number steps rule

abbrev pub rule_part : List ListedEntry → RuleOwner → ℕ → ListPart
rule_part entries owner.Default rule = parts.DefaultRule rule
rule_part entries (owner.Entry number) rule = parts.Rule number (steps_to entries number) rule
rule_part entries (owner.Inner number) rule = parts.InnerRule number (steps_to entries number) rule

-- the part that a finding is about
abbrev pub part_of : List ListedEntry → PartId → ListPart
part_of entries (about.Entry number) = parts.Entry number (steps_to entries number)
part_of entries (about.Rule owner rule) = rule_part entries owner rule

-- the kind of a part, and the numbers by which it differs from others of the kind
abbrev pub part_key : ListPart → ℕ × ℕ × ℕ
part_key (parts.Text line column) = (0, line, column)
part_key parts.List = (1, 0, 0)
part_key parts.Machine = (2, 0, 0)
part_key (parts.Entry number steps) = (3, number, 0)
part_key (parts.Config number steps) = (4, number, 0)
part_key (parts.DefaultRule rule) = (5, 0, rule)
part_key (parts.Rule number steps rule) = (6, number, rule)
part_key (parts.InnerRule number steps rule) = (7, number, rule)
part_key (parts.Kind number steps kind) = (8, number, kind)

-- two parts of one list are the same
abbrev pub is_at : ListPart → ListPart → Bool
is_at a b = (part_key a).0 == (part_key b).0 && ((part_key a).1 == (part_key b).1 && (part_key a).2 == (part_key b).2)
