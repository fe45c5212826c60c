-- The exit status of a run over files and the standard streams.
use Rattle.std.specs.Prelude.{ℕ, ◌&&◌, Bool, false, if◌then◌else◌, Result, Ok, Err}
use Rattle.list_parser.specs.declared.fault.BootFault.{BootFault}
use Rattle.run_lines.specs.Faults.{is_write_fault}
use Rattle.run_scenario.specs.ScenarioEnd.{status_of}
use Rattle.run_scenario.specs.declared.scenario_end.ScenarioEnd.{ScenarioEnd}
use Rattle.cli_base.specs.Statuses.{boot_status}

-- a write failed in the run
abbrev pub write_failed : Result ScenarioEnd BootFault → Bool
write_failed (Err fault) = false
write_failed (Ok ending) = is_write_fault ending.fault

-- the status of a run, or of a list that doesn't boot
abbrev pub run_status : Result ScenarioEnd BootFault → ℕ
run_status (Err fault) = boot_status fault
run_status (Ok ending) = status_of (Ok ending)

-- the same, except if a write failed because nobody reads what is written
abbrev pub end_status : Result ScenarioEnd BootFault → Bool → ℕ
end_status ended unread = if unread && write_failed ended then 141 else run_status ended
