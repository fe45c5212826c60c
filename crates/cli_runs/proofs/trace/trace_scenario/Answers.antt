-- The run is that of a table.
use Rattle.cli_runs.proofs.CommandLemmas.{whole_run}
use Rattle.cli_runs.specs.CommandStatus.{IsTrace}
use Rattle.cli_runs.specs.declared.view.RunView.TheVariants.{Trace}
use Rattle.cli_runs.proofs.trace.trace_scenario.Goals as goal

pub returns : goal.returns
returns g c = (
  c.whole.result,
  whole_run c.args.asked.now.scenario.now c.args.settings (Trace c.args.asked.now.json) IsTrace c.whole.result tt c.whole.ensures,
  c.run_chosen.ensures,
)
