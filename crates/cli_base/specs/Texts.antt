-- The text of a machine's start list.
use Rattle.std.specs.Prelude.{ℕ, List}
use Rattle.cli_base.specs.declared.machine.MachineText.{MachineText}
use Rattle.cli_base.specs.declared.machine.MachineText.TheVariants.{BuiltIn, Read}

-- its bytes
abbrev pub bytes_of : MachineText → List ℕ
bytes_of (BuiltIn text) = text.now
bytes_of (Read text) = text.items
