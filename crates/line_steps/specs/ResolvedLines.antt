-- What a line of a scenario is, once the values of its names are known.
use Rattle.std.specs.Prelude.{ℕ, ◌+◌, ◌-◌, ◌&&◌, not, Bool, true, false, List, length, nat_le, if◌then◌else◌, Option, Some, None, Result, Ok, Err}
use Rattle.std.specs.Str.{bytes_eq}
use Rattle.own_model.specs.Text.{is_path}
use Rattle.own_model.specs.Transcript.{longest_line}
use Rattle.line_friendly.specs.Friendly.{FriendlyLine, said_of, trimmed_line}
use Rattle.line_friendly.specs.Friendly.FriendlyLine.{Nothing as NoContent, Log as LogContent, Call as CallContent}
use Rattle.line_friendly.specs.Words.{next_word}
use Rattle.line_friendly.specs.declared.fault.FriendlyFault.{FriendlyFault}
use Rattle.line_names.specs.DirectiveFault.{why_misplaced}
use Rattle.line_names.specs.Directives.{Directive, directive_of}
use Rattle.line_names.specs.Filling.{FilledLine, filled, source_column}
use Rattle.line_names.specs.NameTable.{NameTable}
use Rattle.line_names.specs.declared.directive_fault.DirectiveFault.{DirectiveFault}
use Rattle.line_names.specs.declared.fault.NameFault.{NameFault}

-- a line is too long to be read; or it is another component's, and is skipped; or it can't be filled with the values of names; or
-- it is a directive, or one that can't be followed, at this column; or it is filled, and has nothing, an expected log line, a call
-- with the engine's line and the expected reply, or a fault, whose column is the line's before it was filled
pub data ResolvedLine : Type 0 where
  TooLong : ResolvedLine
  Skipped : ResolvedLine
  BadName : NameFault → ResolvedLine
  Follow : Directive → ResolvedLine
  Misplaced : ℕ → DirectiveFault → ResolvedLine
  Nothing : ResolvedLine
  Log : List ℕ → ResolvedLine
  Call : FilledLine → List ℕ → Option (List ℕ) → ResolvedLine
  BadLine : FriendlyFault → ResolvedLine

-- ---- lines that are skipped

-- the first token of a line, after a byte order mark and blanks
abbrev pub first_token : List ℕ → List ℕ
first_token line = (next_word (trimmed_line line)).word

-- if the lines of one component alone are run, a line is skipped whose first token is another path. A path has no name to be
-- filled in, and begins no comment, no directive, no expected log line and no line in the engine form
abbrev pub is_other_path : List ℕ → List ℕ → Bool
is_other_path token name = not (bytes_eq token name) && is_path token

abbrev pub is_skipped : Option (List ℕ) → List ℕ → Bool
is_skipped None line = false
is_skipped (Some name) line = is_other_path (first_token line) name

-- ---- lines that are run

-- the column of a line's first character, from 1 on
abbrev pub start_column : List ℕ → ℕ
start_column line = length line - length (trimmed_line line) + 1

-- a directive is followed, unless there is a reason why it can't be
abbrev pub resolved_unless : ℕ → Directive → Option DirectiveFault → ResolvedLine
resolved_unless column directive None = Follow directive
resolved_unless column directive (Some why) = Misplaced column why

abbrev pub resolved_directive : List ℕ → Directive → ResolvedLine
resolved_directive line directive = resolved_unless (start_column line) directive (why_misplaced directive)

-- a line that was filled with the values of names, by what it says
abbrev pub resolved_content : NameTable → List ℕ → FilledLine → Result FriendlyLine FriendlyFault → ResolvedLine
resolved_content known line made (Ok NoContent) = Nothing
resolved_content known line made (Ok (LogContent text)) = Log text
resolved_content known line made (Ok (CallContent call reply)) = Call made call reply
resolved_content known line made (Err fault) = BadLine (record fault { column = source_column known line fault.column })

abbrev pub resolved_filled : NameTable → List ℕ → FilledLine → Option Directive → ResolvedLine
resolved_filled known line made (Some directive) = resolved_directive line directive
resolved_filled known line made None = resolved_content known line made (said_of made.line)

abbrev pub resolved_by : NameTable → List ℕ → Result FilledLine NameFault → ResolvedLine
resolved_by known line (Ok made) = resolved_filled known line made (directive_of made.line)
resolved_by known line (Err fault) = BadName fault

-- a line with the values of names, if all lines are run, or those of one component
abbrev pub resolved_line : Option (List ℕ) → NameTable → List ℕ → ResolvedLine
resolved_line only known line =
    if nat_le (length line) longest_line
    then (if is_skipped only line then Skipped else resolved_by known line (filled known line))
    else TooLong

-- ---- lines that can't be parsed

-- a line is too long, or a name, the directive or the call in it has a fault
abbrev pub is_unread : ResolvedLine → Bool
is_unread TooLong = true
is_unread (BadName fault) = true
is_unread (Misplaced column why) = true
is_unread (BadLine fault) = true
is_unread Skipped = false
is_unread (Follow directive) = false
is_unread Nothing = false
is_unread (Log text) = false
is_unread (Call made call reply) = false
