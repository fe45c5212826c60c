-- The task is done on the list of the file that was read, or on the built-in one.
use Rattle.std.proofs.Common.{◌≡◌, true, false, is_some, ap, sym, ◌∙◌}
use Rattle.cli_engine.proofs.host.run_options.Goals as goal

pub returns-in-Ok : goal.returns-in-Ok
returns-in-Ok g c =
    let given : is_some c.args.options.now.path ≡ true = ap is_some (sym c.path.ensures ∙ c.in-Some.is) in
    rw given (c.task_of-task.result, c.task_of-task.ensures, (c.in-Ok.text.items, c.in-Ok.ensures.text, rw c.deref.ensures.value at c.run_task.ensures))

pub returns-in-Err : goal.returns-in-Err
returns-in-Err g c = (c.task_of-task.result, c.task_of-task.ensures, ap is_some (sym c.path.ensures ∙ c.in-Some.is))

pub returns-in-None : goal.returns-in-None
returns-in-None g c =
    let given : is_some c.args.options.now.path ≡ false = ap is_some (sym c.path.ensures ∙ c.in-None.is) in
    rw given (c.task_of-task.result, c.task_of-task.ensures, (c.as_bytes.result.now, c.as_bytes.ensures.value, c.run_task-in-None.ensures))
