-- A file that can't be opened is refused; else the file's lines are run.
use Rattle.std.proofs.Common.{[], inl, inr}
use Rattle.cli_runs.proofs.StatusLemmas.{ends_by_file}
use Rattle.cli_runs.specs.RunStatus.{start_by}
use Rattle.cli_runs.proofs.run_request.run_long.Goals as goal

pub returns-in-Err : goal.returns-in-Err
returns-in-Err g c = inl (inr c.in-Err.ensures.failed)

pub returns : goal.returns
returns g c =
    let request = c.args.request in
    inr (inr (
      c.requires,
      ends_by_file c.args.machine.now request.viewing (start_by request.settings []) (g.H.Host.text_at c.args.host.now request.scenario.now) _
          c.run_source.result c.in-Ok.ensures.bytes c.run_source.ensures,
    ))
