-- What a line says, by its bytes.
use Rattle.std.specs.Prelude.{List, Result, Ok, Err}
use Rattle.std.specs.Option.{option_copied}
use Rattle.line_friendly.specs.Friendly.{FriendlyLine}
use Rattle.line_friendly.specs.Friendly.FriendlyLine.{Nothing, Log, Call}
use Rattle.line_friendly.specs.declared.fault.FriendlyFault.{FriendlyFault}
use Rattle.line_friendly.specs.declared.reading.FriendlyLine.{FriendlyLine as Told}
use Rattle.line_friendly.specs.declared.reading.FriendlyLine.TheVariants as told

abbrev pub said_in : Told → FriendlyLine
said_in told.Nothing = Nothing
said_in (told.Log text) = Log text.now
said_in (told.Call line call reply) = Call line.now (option_copied reply)

abbrev pub says : Result Told FriendlyFault → Result FriendlyLine FriendlyFault
says (Ok said) = Ok (said_in said)
says (Err fault) = Err fault
