-- The run, which writes nothing, the rows, and the sessions.
use Rattle.std.proofs.Common.{rules}
use Rattle.run_scenario.proofs.WriteLemmas.{reported_at}
use Rattle.view_accounts.specs.Accounting.{sessions_kept}
use Rattle.view_accounts.proofs.AccountViewLemmas.{accounts_played}
use Rattle.view_accounts.proofs.RunRowLemmas.{rows_played, sessions_played}
use Rattle.view_accounts.proofs.account_list.run_accounting.Goals as goal

pub returns-clause-played : goal.returns-clause-played
returns-clause-played g c = λ works.
    reported_at (accounts_played c.play-ending.result (rw c.requires.all at (c.play-ending.ensures.plays works))) (search rules)

pub returns-clause-shown : goal.returns-clause-shown
returns-clause-shown g c = λ works. (
  sessions_kept c.play-ending.new.runner.observer.now,
  (
    rows_played c.play-ending.new.runner.observer.now c.args.stage.run.list.now c.play-ending.result
        (rw c.requires.all at (c.play-ending.ensures.plays works)) c.rows_after-rows.result c.requires.listed c.rows_after-rows.ensures,
    sessions_played c.play-ending.new.runner.observer.now c.args.stage.run.list.now c.play-ending.result
        (rw c.requires.all at (c.play-ending.ensures.plays works)),
  ),
)
