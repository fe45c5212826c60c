-- The values that contracts see for resolved lines.
use Rattle.std.specs.Prelude.{⊤, ℕ}
use Rattle.std.specs.Option.{option_copied}
use Rattle.line_grammar.specs.Read.{IsReadAs}
use Rattle.line_names.specs.Views.{directive_view, filled_view}
use Rattle.line_steps.specs.ResolvedLines.{ResolvedLine}
use Rattle.line_steps.specs.ResolvedLines.ResolvedLine.{TooLong, Skipped, BadName, Follow, Misplaced, Nothing, Log, Call, BadLine}
use Rattle.line_steps.specs.declared.resolved_line.ResolvedLine.{ResolvedLine as Resolved}
use Rattle.line_steps.specs.declared.resolved_line.ResolvedLine.TheVariants as line
use Rattle.line_steps.specs.declared.resolved_line.ScenarioCall.{ScenarioCall}
use Rattle.line_steps.specs.declared.unread_line.UnreadReason.{UnreadReason}
use Rattle.line_steps.specs.declared.unread_line.UnreadReason.TheVariants as unread

abbrev pub call_view : ScenarioCall → ResolvedLine
call_view call = Call (filled_view call.filled) call.line.now (option_copied call.reply)

abbrev pub resolved_view : Resolved → ResolvedLine
resolved_view line.TooLong = TooLong
resolved_view line.Skipped = Skipped
resolved_view (line.BadName fault) = BadName fault
resolved_view (line.Directive directive) = Follow (directive_view directive)
resolved_view (line.Misplaced column why) = Misplaced column why
resolved_view line.Nothing = Nothing
resolved_view (line.Log text) = Log text.now
resolved_view (line.Call call) = call_view call
resolved_view (line.BadLine fault) = BadLine fault

-- the call of a resolved line is the one that the engine parses of its line
abbrev pub HasParsedCall : Resolved → Type 0
HasParsedCall (line.Call call) = IsReadAs call.line.now call.call
HasParsedCall resolved = ⊤

-- the column at which a line can't be parsed, from 1 on: its fault's, or that of its first byte if it is too long
abbrev pub reason_column : UnreadReason → ℕ
reason_column unread.TooLong = 1
reason_column (unread.Fault fault) = fault.column
reason_column (unread.Name fault) = fault.column
reason_column (unread.Misplaced column why) = column
