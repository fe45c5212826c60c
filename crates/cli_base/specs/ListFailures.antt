-- Why there is no start list.
use Rattle.std.specs.Prelude.{Bool, true, false}
use Rattle.list_parser.specs.declared.fault.BootFault.{BootFault}
use Rattle.list_parser.specs.declared.fault.BootFault.TheVariants.{NoMemory}
use Rattle.cli_base.specs.declared.host.ReadFailure as failure
use Rattle.cli_base.specs.declared.host.ReadFailure.TheVariants as read
use Rattle.cli_base.specs.declared.list_file.ListFailureKind.{ListFailureKind}
use Rattle.cli_base.specs.declared.list_file.ListFailureKind.TheVariants.{ReadFailure, Unfilled, Faulty, Unbooted}
use Rattle.cli_base.specs.declared.list_file.StartListFailure.{StartListFailure}

-- the host is out of memory
abbrev pub boot_lacks_memory : BootFault → Bool
boot_lacks_memory NoMemory = true
boot_lacks_memory fault = false

abbrev pub read_lacks_memory : failure.ReadFailure → Bool
read_lacks_memory read.NoMemory = true
read_lacks_memory why = false

abbrev pub kind_lacks_memory : ListFailureKind → Bool
kind_lacks_memory (ReadFailure why) = read_lacks_memory why
kind_lacks_memory (Unfilled name token) = false
kind_lacks_memory (Faulty placed) = boot_lacks_memory placed.fault
kind_lacks_memory (Unbooted fault) = boot_lacks_memory fault

abbrev pub lacks_memory : StartListFailure → Bool
lacks_memory failure = kind_lacks_memory failure.why
