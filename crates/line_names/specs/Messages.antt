-- The messages of the faults of names and of directives.
use Rattle.std.specs.Prelude.{ℕ, List, ◌++◌, codes}
use Rattle.line_names.specs.declared.directive_fault.DirectiveFault.{DirectiveFault}
use Rattle.line_names.specs.declared.directive_fault.DirectiveFault.TheVariants.{Repeat, End, Unknown}
use Rattle.line_names.specs.declared.fault.NameReason.{NameReason}
use Rattle.line_names.specs.declared.fault.NameReason.TheVariants.{UnknownName, OpenBrace, NoNumber, NoSum, SumTooLarge, TooLong, Twice, TooMany}

-- the words before the text of a name
abbrev pub first_words : NameReason → List ℕ
first_words UnknownName = codes "unknown name"
first_words OpenBrace = codes "expected a name in braces, found"
first_words NoNumber = codes "expected a number as the value of"
first_words NoSum = codes "expected a number after the + of"
first_words SumTooLarge = codes "sum of more than 64 bits at"
first_words TooLong = codes "line of more than 8192 bytes with the value of"
first_words Twice = codes "this expectation binds the name twice:"
first_words TooMany = codes "this expectation binds more than 16 names; the next is"

-- the message about a text of the line, in backquotes
abbrev pub name_message : NameReason → List ℕ → List ℕ
name_message reason text = first_words reason ++ (codes " `" ++ (text ++ codes "`"))

-- the message about a directive that can't be followed
abbrev pub directive_message : DirectiveFault → List ℕ
directive_message Repeat = codes "`@repeat` needs a scenario that is a file"
directive_message End = codes "`@end` needs a scenario that is a file"
directive_message Unknown = codes "unknown directive; expected `@set NAME VALUE`, `@repeat N [as NAME]` or `@end`"
