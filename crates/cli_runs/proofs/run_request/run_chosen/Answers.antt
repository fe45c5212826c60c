-- The machine is that of the list that is chosen.
use Rattle.cli_base.proofs.UnfoldingLemmas.{machine_for}
use Rattle.cli_runs.proofs.CommandLemmas.{chosen_ran}
use Rattle.cli_runs.proofs.run_request.run_chosen.Goals as goal

pub returns-in-Ok-read : goal.returns-in-Ok-read
returns-in-Ok-read g c =
    let texts = g.H.Host.text_at c.args.host.now in
    chosen_ran texts c.args.named c.args.request c.in-Ok-read.machine c.run_named.result
    (machine_for texts c.args.request.settings c.args.named c.args.request.scenario.now c.in-Ok.list c.path.result c.in-Ok-read.machine
    c.in-Ok.ensures.chosen c.path.ensures c.in-Ok-read.ensures.found)
    c.run_named.ensures
