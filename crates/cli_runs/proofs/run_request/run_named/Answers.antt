-- The run of a name that is known, or isn't.
use Rattle.cli_runs.proofs.CommandLemmas.{named_ran}
use Rattle.cli_runs.proofs.run_request.run_named.Goals as goal

pub returns : goal.returns
returns g c =
    named_ran (g.H.Host.text_at c.args.host.now) c.args.machine.now c.args.request c.is_known-known.result c.list.result.now
    c.run_on-status.result c.named_status.result c.list.ensures c.is_known-known.ensures c.run_on-status.ensures c.named_status.ensures
