-- What is written into the errors for a scenario's line.
use Rattle.std.specs.Prelude.{◌≡◌, ℕ, ◌&&◌, ⊤, Bool, true, false, not, List, [], ◌∷◌, codes, Option, Some, None, Result, Ok, Err}
use Rattle.std.specs.Io.KnownBytes.{Appends}
use Rattle.std.specs.List.{find}
use Rattle.std.specs.Option.{option_map}
use Rattle.own_model.specs.Listed.{Listed, ListedEntry}
use Rattle.list_parser.specs.Depth.{is_init}
use Rattle.line_friendly.specs.Forms.{is_one_edit}
use Rattle.run_lines.specs.declared.line_run_fault.LineRunFault.{LineRunFault}
use Rattle.view_diagnostics.specs.Diagnostics.{SubjectAt, diagnostic}
use Rattle.view_diagnostics.specs.declared.diagnostics.Severity.TheVariants.{Error}
use Rattle.view_diagnostics.specs.declared.place.FilePlace.TheVariants.{Byte}
use Rattle.run_scenario.specs.Judging.{Awaited}

-- ---- names

-- a component, but no init, whose path differs from a name by one edit
abbrev pub is_near : List ℕ → ListedEntry → Bool
is_near name entry = not (is_init entry) && is_one_edit entry.path name

-- the path of the first one of a list
abbrev pub near_name : Listed → List ℕ → Option (List ℕ)
near_name list name = option_map (λ entry. entry.path) (find (is_near name) list.entries)

-- ---- reports

-- an error in the line of this number, with some message
abbrev pub IsErrorIn : SubjectAt → ℕ → List ℕ → Type 0
IsErrorIn subject number text =
    (column : ℕ) × (pieces : List (List ℕ)) × (text ≡ diagnostic subject (Byte number column) Error pieces)

-- what is reported of a line: one error if it has one, and else nothing
abbrev pub IsReport : SubjectAt → ℕ → Bool → List ℕ → Type 0
IsReport subject number false text = text ≡ []
IsReport subject number true text = IsErrorIn subject number text

-- it is appended to what is written before
abbrev pub AppendsReport : SubjectAt → ℕ → Bool → Option (List ℕ) → Option (List ℕ) → Type 0
AppendsReport subject number has_error old new = (text : List ℕ) × IsReport subject number has_error text × Appends old new text

-- the same, unless there is a fault
abbrev pub Reports : SubjectAt → ℕ → Result Bool LineRunFault → Option (List ℕ) → Option (List ℕ) → Type 0
Reports subject number (Ok has_error) old new = AppendsReport subject number has_error old new
Reports subject number (Err fault) old new = ⊤

-- an expected log line that no call follows
abbrev pub left_over_at : SubjectAt → Option ℕ → List ℕ
left_over_at subject None = []
left_over_at subject (Some line) = diagnostic subject (Byte line 1) Error (codes "no call follows this log line" ∷ [])

abbrev pub left_over_report : SubjectAt → Awaited → List ℕ
left_over_report subject awaited = left_over_at subject awaited.first
