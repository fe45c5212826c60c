-- A task is done, or was stopped, on the machine of a text.
use Rattle.cli_engine.proofs.TaskLemmas.{done_check, stopped_check, done_run, stopped_run}
use Rattle.cli_engine.proofs.program.do_task.Goals as goal

pub returns-in-Ok-clause-done : goal.returns-in-Ok-clause-done
returns-in-Ok-clause-done g c =
    λ text machine. done_check machine.reads machine.boots c.args.task _ _ _ _ c.in-Check.is c.in-Ok.ensures.none c.in-Ok.ensures.told

pub returns-in-Check-clause-fails : goal.returns-in-Check-clause-fails
returns-in-Check-clause-fails g c =
    λ text machine. stopped_check machine.reads machine.boots c.args.task c.in-Err.fault _ _ _ _ _ _ c.in-Check.is c.in-Err.ensures.fault c.in-Err.ensures.part

pub returns-in-Ok-answer_scenario-clause-done : goal.returns-in-Ok-answer_scenario-clause-done
returns-in-Ok-answer_scenario-clause-done g c =
    λ text machine. done_run machine.reads machine.boots c.requires.starts c.args.task c.in-Run.accounts c.in-Run.only _ _ _ _ c.in-Run.is
    c.in-Ok-answer_scenario.ensures.told

pub returns-clause-fails : goal.returns-clause-fails
returns-clause-fails g c =
    λ text machine. stopped_run machine.reads machine.boots c.requires.starts c.args.task c.in-Run.accounts c.in-Run.only c.in-Err-answer_scenario.fault _ _ _ _ _ _ c.in-Run.is
    c.in-Err-answer_scenario.ensures.stops
