-- Where rounds begin and end.
use Rattle.std.specs.Prelude.{ℕ, ◌+◌, ◌-◌, Bool, false, List, [], ◌∷◌, ◌++◌, length, take, codes, nat_eq, nat_lt, if◌then◌else◌, Result, Ok, Err}
use Rattle.std.specs.Str.{bytes_eq}
use Rattle.line_friendly.specs.Friendly.{end_of, trimmed_line}
use Rattle.line_friendly.specs.Words.{next_word, skip_blanks}
use Rattle.line_names.specs.Filling.{is_directive}
use Rattle.line_names.specs.Sums.{and_then}
use Rattle.line_rounds.specs.declared.fault.RoundPlace.{RoundPlace}
use Rattle.line_rounds.specs.declared.fault.RoundsReason.{RoundsReason}
use Rattle.line_rounds.specs.declared.fault.RoundsReason.TheVariants.{EndAlone, EndTakesNothing, NoEnd, TooDeep}
use Rattle.line_rounds.specs.declared.fault.RoundsFault.{RoundsFault}
use Rattle.line_rounds.specs.declared.lines.RoundLineKind.{RoundLineKind}
use Rattle.line_rounds.specs.declared.lines.RoundLineKind.TheVariants.{Repeats, Ends, Plain}

-- ---- one line

-- the text of a line without the comment after it
unfoldable pub words_of : List ℕ → List ℕ
words_of line = trimmed_line (take (end_of line) line)

-- the kind of a line for rounds: its first token decides, if it begins with `@`
abbrev pub kind_by : List ℕ → RoundLineKind
kind_by word =
    if bytes_eq word (codes "@repeat") then Repeats else (if bytes_eq word (codes "@end") then Ends else Plain)

abbrev pub kind_of : List ℕ → RoundLineKind
kind_of line = if is_directive line then kind_by (next_word (words_of line)).word else Plain

-- the column of its first character
abbrev pub column_of : List ℕ → ℕ
column_of line = length line - length (trimmed_line line) + 1

abbrev pub place_of : ℕ → List ℕ → RoundPlace
place_of number line = record { line = number; column = column_of line }

-- a fault at the line of a number
abbrev pub fault_at : ℕ → List ℕ → RoundsReason → RoundsFault
fault_at number line reason = record { at = place_of number line; reason = reason }

-- ---- line after line

-- the maximum depth of rounds
abbrev pub deepest : ℕ
deepest = 4

-- the rounds that began and haven't ended after a line, the innermost last, each by its fault if it never ends
abbrev pub opens_after : ℕ → List ℕ → RoundLineKind → List RoundsFault → Result (List RoundsFault) RoundsFault
opens_after number line Plain opens = Ok opens
opens_after number line Repeats opens =
    if nat_lt (length opens) deepest then Ok (opens ++ fault_at number line NoEnd ∷ [])
    else Err (fault_at number line TooDeep)
opens_after number line Ends opens =
    if nat_eq (length (skip_blanks (next_word (words_of line)).rest)) 0
    then (if nat_eq (length opens) 0 then Err (fault_at number line EndAlone) else Ok (take (length opens - 1) opens))
    else Err (fault_at number line EndTakesNothing)

abbrev pub opens_from : ℕ → List RoundsFault → List (List ℕ) → Result (List RoundsFault) RoundsFault
opens_from number opens [] = Ok opens
opens_from number opens (line ∷ lines) =
    and_then (opens_after number line (kind_of line) opens) (λ more. opens_from (number + 1) more lines)

-- the number of lines before the `@end` of the rounds that began before them, within this number of other rounds
abbrev pub closes : RoundLineKind → ℕ → Bool
closes Ends within = nat_eq within 0
closes Repeats within = false
closes Plain within = false

abbrev pub within_after : RoundLineKind → ℕ → ℕ
within_after Repeats within = within + 1
within_after Ends within = within - 1
within_after Plain within = within

abbrev pub body_length : ℕ → List (List ℕ) → ℕ
body_length within [] = 0
body_length within (line ∷ lines) =
    if closes (kind_of line) within then 0 else 1 + body_length (within_after (kind_of line) within) lines
