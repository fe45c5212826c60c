-- The lines that another run of the same scenario fills otherwise.
use Rattle.std.specs.Prelude.{ℕ, zero, suc, ◌&&◌, ◌==◌, Bool, List, [], ◌++◌, length, max, not, if◌then◌else◌, option_to_list, Option, Some, None}
use Rattle.std.specs.List.{slice_get}
use Rattle.std.specs.Option.{unwrap_or}
use Rattle.std.specs.Str.{bytes_eq}
use Rattle.budget_least.specs.ComponentLines.{ReadLine}

-- two lines are the same line of the scenario, make the same call, and are both left out or neither is
abbrev pub is_same : ReadLine → ReadLine → Bool
is_same one other =
    one.mark.number == other.mark.number && (if one.mark.left_out then other.mark.left_out else not other.mark.left_out) && bytes_eq one.text other.text

-- the number of the line at a place, if another line is there in the other run; or of that line, if there is none
abbrev pub changed_number : Option ReadLine → Option ReadLine → Option ℕ
changed_number None None = None
changed_number None (Some other) = Some other.mark.number
changed_number (Some line) None = Some line.mark.number
changed_number (Some line) (Some other) = if is_same line other then None else Some line.mark.number

-- the numbers of a component's lines that are other lines in the other run, place by place: before a place, and of all
abbrev pub changed_before : ℕ → List ReadLine → List ReadLine → List ℕ
changed_before zero lines others = []
changed_before (suc place) lines others =
    changed_before place lines others ++ option_to_list (changed_number (slice_get lines place) (slice_get others place))

abbrev pub changed_lines : List ReadLine → List ReadLine → List ℕ
changed_lines lines others = changed_before (max (length lines) (length others)) lines others

-- those of so many components, and of all
abbrev pub lines_at : List (List ReadLine) → ℕ → List ReadLine
lines_at lines component = unwrap_or (slice_get lines component) []

abbrev pub changed_below : ℕ → List (List ReadLine) → List (List ReadLine) → List ℕ
changed_below zero lines others = []
changed_below (suc component) lines others =
    changed_below component lines others ++ changed_lines (lines_at lines component) (lines_at others component)

abbrev pub changed_numbers : List (List ReadLine) → List (List ReadLine) → List ℕ
changed_numbers lines others = changed_below (length lines) lines others
