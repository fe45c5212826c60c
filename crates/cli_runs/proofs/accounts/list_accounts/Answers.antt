-- The run is that of an account list.
use Rattle.cli_runs.proofs.CommandLemmas.{whole_run}
use Rattle.cli_runs.specs.CommandStatus.{IsAccountView}
use Rattle.cli_runs.specs.declared.view.RunView.TheVariants.{Accounts}
use Rattle.cli_runs.proofs.accounts.list_accounts.Goals as goal

pub returns : goal.returns
returns g c = (
  c.whole.result,
  whole_run c.args.asked.now.scenario.now c.args.settings (Accounts c.args.asked.now.json) IsAccountView c.whole.result tt c.whole.ensures,
  c.run_chosen.ensures,
)
