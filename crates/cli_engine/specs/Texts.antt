-- The texts of failures.
use Rattle.std.specs.Prelude.{ℕ, ◌++◌, List, [], Option, Some, None, Ok, Err, codes}
use Rattle.std.specs.Fmt.{option_append, with_newline}
use Rattle.list_parser.specs.declared.fault.BootFault.{BootFault}
use Rattle.cli_engine.specs.declared.config.ConfigFault.{ConfigFault}
use Rattle.cli_engine.specs.declared.config.ConfigFault.TheVariants.{Unreadable, NoMemory}
use Rattle.cli_engine.specs.declared.host.ProgramEnd.{ProgramEnd}
use Rattle.cli_engine.specs.declared.host.ProgramEnd.TheVariants.{Refused, NoConfig, Ended}
use Rattle.cli_engine.specs.declared.program.TaskFailure.{TaskFailure}
use Rattle.cli_engine.specs.declared.program.TaskFailure.TheVariants as failure
use Rattle.run_lines.specs.Faults.{run_fault_text}

-- the text of the error with which CONFIG is not read
abbrev pub config_fault_text : ConfigFault → List ℕ
config_fault_text Unreadable = codes "Unreadable_config"
config_fault_text NoMemory = codes "No_memory"

-- the text of a failure with which a task was not done to its end; the text of a fault of the boot is a parameter
abbrev pub failure_text : (BootFault → Option (List ℕ)) → TaskFailure → Option (List ℕ)
failure_text name (failure.Boot fault) = option_append (Some (codes "boot: ")) (name fault)
failure_text name (failure.Run fault) = Some (codes "run: " ++ run_fault_text fault)

-- what is printed on standard error of the end of a task: its fault on a line, if there is one. The text about arguments that are
-- not accepted is clap's and isn't stated
abbrev pub end_text : (BootFault → Option (List ℕ)) → ProgramEnd → Option (List ℕ)
end_text name (Refused error) = None
end_text name (NoConfig fault) = with_newline (Some (codes "boot: " ++ config_fault_text fault))
end_text name (Ended (Ok summary)) = Some []
end_text name (Ended (Err failure)) = with_newline (failure_text name failure)
