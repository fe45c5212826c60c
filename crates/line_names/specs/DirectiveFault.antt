-- Directives that can't be followed in a run line by line.
use Rattle.std.specs.Prelude.{Option, Some, None}
use Rattle.line_names.specs.Directives.{Directive}
use Rattle.line_names.specs.Directives.Directive.{Set, Repeat, End, Unknown}
use Rattle.line_names.specs.declared.directive_fault.DirectiveFault.{DirectiveFault}
use Rattle.line_names.specs.declared.directive_fault.DirectiveFault.TheVariants as fault

-- it is for a scenario of a file only, or is none
abbrev pub why_misplaced : Directive → Option DirectiveFault
why_misplaced (Set binding) = None
why_misplaced Repeat = Some fault.Repeat
why_misplaced End = Some fault.End
why_misplaced Unknown = Some fault.Unknown
