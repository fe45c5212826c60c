-- No component before the next is near.
use Rattle.std.proofs.Common.{◌≡◌, drop}
use Rattle.std.specs.List.{find}
use Rattle.run_scenario.specs.Reports.{is_near}
use Rattle.run_scenario.proofs.near_names.near_component.Given as goal

abbrev pub invariant-loop-component : goal.invariant-loop-component
invariant-loop-component l = find (is_near l.name) (drop l.component l.list.entries) ≡ find (is_near l.name) l.list.entries
