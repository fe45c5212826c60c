-- The texts of amounts, of budgets, and of parts of a start list.
use Rattle.std.specs.Prelude.{ℕ, ◌+◌, ◌%◌, ◌/◌, ◌==◌, ◌&&◌, nat_lt, List, [], ◌∷◌, ◌++◌, codes, decimal, if◌then◌else◌, Option, Some, None}
use Rattle.list_parts.specs.declared.budget_amount.BudgetAmount.{BudgetAmount}
use Rattle.list_parts.specs.declared.list_part.EntryStep.{EntryStep}
use Rattle.list_parts.specs.declared.list_part.ListPart.{ListPart}
use Rattle.list_parts.specs.declared.list_part.ListPart.TheVariants as parts
use Rattle.list_parts.specs.declared.start_quota.EntryShortfall.{EntryShortfall}

-- RAM in K if it is a whole number of these, else in bytes
abbrev pub amount_text : ℕ → List ℕ
amount_text bytes =
    if nat_lt 0 bytes && bytes % 1024 == 0 then decimal (bytes / 1024) ++ codes "K" else decimal bytes ++ codes " bytes"

-- RAM, and the number of capabilities
abbrev pub quota_text : ℕ → ℕ → List ℕ
quota_text ram caps = amount_text ram ++ codes ", " ++ decimal caps ++ codes " caps"

-- what is asked for an account, and for a reserve, after their members; without a reserve of 0
unfoldable pub both_text : List ℕ → List ℕ → ℕ → ℕ → List ℕ
both_text member reserve_member own kept =
    if kept == 0
    then member ++ codes ": " ++ decimal own
    else member ++ codes " and " ++ reserve_member ++ codes ": " ++ decimal own ++ codes " + " ++ decimal kept

abbrev pub asked_text : BudgetAmount → List ℕ
asked_text amount = both_text amount.member.now amount.reserve_member.now amount.own amount.kept

abbrev pub asked_ram : ℕ → ℕ → List ℕ
asked_ram own kept = both_text (codes "quantum") (codes "reserve") own kept

abbrev pub asked_caps : ℕ → ℕ → List ℕ
asked_caps own kept = both_text (codes "caps") (codes "reserve-caps") own kept

-- the place of an entry in its list, and its name
abbrev pub name_text : Option (List ℕ) → List ℕ
name_text None = []
name_text (Some name) = codes " \"" ++ name ++ codes "\""

unfoldable pub step_text : EntryStep → List ℕ
step_text step = codes "start[" ++ decimal step.place ++ codes "]" ++ name_text step.name

-- steps with a text before the first one, each of the others in the config of the one before
abbrev pub steps_after : List ℕ → List EntryStep → List ℕ
steps_after before [] = []
steps_after before (step ∷ steps) = before ++ (step_text step ++ steps_after (codes ": config: ") steps)

abbrev pub steps_text : List EntryStep → List ℕ
steps_text steps = steps_after [] steps

-- an element of a list that an entry has as a member
abbrev pub element_text : List EntryStep → List ℕ → ℕ → List ℕ
element_text steps member place = steps_text steps ++ member ++ codes "[" ++ decimal place ++ codes "]"

abbrev pub part_text : ListPart → List ℕ
part_text (parts.Text line column) = codes "line " ++ decimal line ++ codes ", column " ++ decimal column
part_text parts.List = codes "start list"
part_text parts.Machine = codes "machine"
part_text (parts.Entry number steps) = steps_text steps
part_text (parts.Config number steps) = steps_text steps ++ codes ": config"
part_text (parts.DefaultRule rule) = codes "default-route[" ++ decimal rule ++ codes "]"
part_text (parts.Rule number steps rule) = element_text steps (codes ": route") rule
part_text (parts.InnerRule number steps rule) = element_text steps (codes ": config: default-route") rule
part_text (parts.Kind number steps kind) = element_text steps (codes ": kinds") kind

-- what the entry at some steps asks for is more than its init has left
abbrev pub excess_text : List EntryStep → List ℕ → List ℕ → ℕ → List ℕ
excess_text steps asked unit left =
    steps_text steps
    ++ (codes ": " ++ (asked ++ (codes " " ++ (unit ++ (codes " are more than the " ++ (decimal left ++ codes " that init has left"))))))

-- of the RAM if that isn't covered, else of the capabilities
abbrev pub shortfall_text : EntryShortfall → List ℕ
shortfall_text lack =
    if nat_lt lack.ram_left (lack.ram + lack.reserve_ram)
    then excess_text lack.steps (asked_ram lack.ram lack.reserve_ram) (codes "bytes") lack.ram_left
    else excess_text lack.steps (asked_caps lack.caps lack.reserve_caps) (codes "capabilities") lack.caps_left
