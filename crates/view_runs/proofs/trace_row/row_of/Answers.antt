-- What the core shows is the row of the call.
use Rattle.view_runs.proofs.RowLemmas.{answered_row}
use Rattle.view_runs.proofs.trace_row.row_of.Goals as goal

pub returns : goal.returns
returns g c = λ start earlier answered.
    answered_row c.args.heard.now.number answered c.call_and_accounts.ensures.call c.call_and_accounts.ensures.account c.call_and_accounts.ensures.session c.shown_in.ensures
