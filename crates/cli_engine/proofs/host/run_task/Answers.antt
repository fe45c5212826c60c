-- What came of the task is what the run over the standard input tells.
use Rattle.std.proofs.Common.{subst}
use Rattle.cli_engine.specs.Ending.{HasResult}
use Rattle.cli_engine.proofs.TaskLemmas.{came_of}
use Rattle.cli_engine.proofs.host.run_task.Goals as goal

pub returns : goal.returns
returns g c = (
  _,
  subst (HasResult c.boot_and_run.result c.args.task c.args.text.now 1000000) c.new-reader.ensures.bytes
      (came_of _ _ _ _ _ _ _ c.boot_and_run.ensures.done c.boot_and_run.ensures.fails),
)
