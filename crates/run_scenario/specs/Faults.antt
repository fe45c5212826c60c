-- What uses memory of the host in a run, and the fault of devices that had failed before.
use Rattle.std.specs.Prelude.{◌||◌, Bool, true, false, if◌then◌else◌, Option, Some, None}
use Rattle.run_lines.specs.declared.line_run_fault.LineRunFault.{LineRunFault}
use Rattle.run_lines.specs.declared.line_run_fault.LineRunFault.TheVariants.{ReadFault, WriteFault}
use Rattle.line_steps.specs.ResolvedLines.{ResolvedLine}
use Rattle.line_steps.specs.ResolvedLines.ResolvedLine.{BadName, Follow, Log, Call, BadLine}
use Rattle.run_scenario.specs.LineSteps.{binds_names}
use Rattle.run_scenario.specs.declared.scenario_end.ScenarioEnd.{ScenarioEnd}

-- a line takes memory of the host if its fault is reported when it is filled or parsed, if it is an expected log line, and if it
-- may bind a name; a call takes memory if the observer does
abbrev pub takes_memory : Bool → ResolvedLine → Bool
takes_memory calls (BadName fault) = true
takes_memory calls (Follow directive) = true
takes_memory calls (Log text) = true
takes_memory calls (Call filled line reply) = calls || binds_names filled
takes_memory calls (BadLine fault) = true
takes_memory calls resolved = false

-- the fault of devices that had failed before: the outputs' first
abbrev pub fault_before : Bool → Bool → Option LineRunFault
fault_before read_failed write_failed =
    if write_failed then Some WriteFault else (if read_failed then Some ReadFault else None)

-- a run that stopped before its first line
abbrev pub unplayed : LineRunFault → ScenarioEnd
unplayed fault = record { lines = 0; complaints = 0; fault = Some fault }
