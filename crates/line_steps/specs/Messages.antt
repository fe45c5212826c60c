-- The message of a line that can't be parsed.
use Rattle.std.specs.Prelude.{ℕ, List, codes}
use Rattle.line_friendly.specs.Messages.{line_message}
use Rattle.line_names.specs.Messages.{directive_message, name_message}
use Rattle.line_steps.specs.declared.unread_line.UnreadReason.{UnreadReason}
use Rattle.line_steps.specs.declared.unread_line.UnreadReason.TheVariants.{TooLong, Fault, Name, Misplaced}

-- about the text of the line at the fault's column
abbrev pub unread_message : UnreadReason → List ℕ → List ℕ
unread_message TooLong text = codes "line of more than 8192 bytes"
unread_message (Fault fault) text = line_message fault.reason text
unread_message (Name fault) text = name_message fault.reason text
unread_message (Misplaced column why) text = directive_message why
