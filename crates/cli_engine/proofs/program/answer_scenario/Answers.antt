-- The account list of the last states is told behind the transcript.
use Rattle.cli_engine.proofs.TaskLemmas.{told_with_list, stopped_in_list}
use Rattle.cli_engine.proofs.program.answer_scenario.Goals as goal

pub returns-in-Ok-write_accounts-clause-told : goal.returns-in-Ok-write_accounts-clause-told
returns-in-Ok-write_accounts-clause-told g c =
    told_with_list c.args.accounts c.if-accounts.true _ c.args.run.now.list.now c.args.core.now c.run_selected.new.core _ _ _ _ _ c.in-Ok.ensures.runs.done c.in-Ok-write_accounts.ensures.told

pub returns-in-Err-write_accounts-clause-stops : goal.returns-in-Err-write_accounts-clause-stops
returns-in-Err-write_accounts-clause-stops g c =
    stopped_in_list _ c.args.run.now.list.now c.args.core.now c.run_selected.new.core c.args.accounts c.in-Err-write_accounts.fault _ c.in-Ok.summary.lines _ _ _ _ _ _ c.if-accounts.true
    c.in-Err-write_accounts.ensures.fault c.in-Ok.ensures.runs.few c.in-Ok.ensures.runs.done c.in-Err-write_accounts.ensures.part
