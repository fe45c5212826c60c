-- The message of a fault of rounds.
use Rattle.std.specs.Prelude.{ℕ, List, codes}
use Rattle.line_names.specs.Messages.{name_message}
use Rattle.line_rounds.specs.declared.fault.RoundsReason.{RoundsReason}
use Rattle.line_rounds.specs.declared.fault.RoundsReason.TheVariants.{EndAlone, EndTakesNothing, NoEnd, TooDeep, NoCount, TooMany, Name}

-- about a text of the line
abbrev pub rounds_message : RoundsReason → List ℕ → List ℕ
rounds_message EndAlone text = codes "`@end` without `@repeat`"
rounds_message EndTakesNothing text = codes "unexpected argument; expected `@end`"
rounds_message NoEnd text = codes "`@repeat` without `@end`"
rounds_message TooDeep text = codes "rounds nest more than 4 deep"
rounds_message NoCount text = codes "expected `@repeat N [as NAME]`"
rounds_message TooMany text = codes "more than 1000000 lines with all rounds"
rounds_message (Name reason) text = name_message reason text
