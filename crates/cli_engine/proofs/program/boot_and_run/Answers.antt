-- A task is done, or was stopped, on the machine of the text that booted.
use Rattle.cli_engine.proofs.program.boot_and_run.Goals as goal

pub returns-clause-done : goal.returns-clause-done
returns-clause-done g c = c.do_task.ensures.done c.args.text.now (record { reads = c.in_ok-list.ensures.ok; boots = c.in_ok-core.ensures.covered })

pub returns-clause-fails : goal.returns-clause-fails
returns-clause-fails g c = c.do_task.ensures.fails c.args.text.now (record { reads = c.in_ok-list.ensures.ok; boots = c.in_ok-core.ensures.covered })
