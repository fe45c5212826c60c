-- The exit status of a run.
use Rattle.std.specs.Prelude.{ℕ, nat_lt, is_some, if◌then◌else◌, Result, Ok, Err}
use Rattle.list_parser.specs.declared.fault.BootFault.{BootFault}
use Rattle.run_scenario.specs.declared.scenario_end.ScenarioEnd.{ScenarioEnd}

-- a fault of the run takes precedence over errors of lines
abbrev pub status_of : Result ScenarioEnd BootFault → ℕ
status_of (Err fault) = 2
status_of (Ok ending) = if is_some ending.fault then 1 else (if nat_lt 0 ending.complaints then 3 else 0)
