-- The errors with which CONFIG is not read.
use Rattle.std.specs.Prelude.{Bool, true, false, Result, Ok, Err}
use Rattle.cli_engine.specs.declared.config.ConfigFault.{ConfigFault}
use Rattle.cli_engine.specs.declared.config.ConfigFault.TheVariants.{Unreadable, NoMemory}

-- a read failed
abbrev pub is_unreadable : {T : Type 0} → Result T ConfigFault → Bool
is_unreadable (Ok text) = false
is_unreadable (Err Unreadable) = true
is_unreadable (Err NoMemory) = false
