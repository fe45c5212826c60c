-- The status is that of the scripts so far.
use Rattle.std.proofs.Common.{◌≡◌, take}
use Rattle.line_rounds.specs.Views.{whole_view}
use Rattle.cli_runs.specs.CommandStatus.{compared_status, lines_status}
use Rattle.cli_runs.proofs.alone.compare_listed.Given as goal

abbrev pub invariant-loop-entry : goal.invariant-loop-entry
invariant-loop-entry g l =
    l.status ≡ compared_status (take l.entry-index l.entry-items) (lines_status l.list l.options.settings (whole_view l.lines))
