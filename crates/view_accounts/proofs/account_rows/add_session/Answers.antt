-- The row of the session is added.
use Rattle.core_calls.specs.Quotas.{quotas_account}
use Rattle.view_accounts.specs.Kept.{noted_in}
use Rattle.view_accounts.specs.Rows.{session_view}
use Rattle.view_accounts.specs.RunRows.{entries_in}
use Rattle.view_accounts.proofs.RowLemmas.{added_open}
use Rattle.view_accounts.proofs.account_rows.add_session.Goals as goal

pub returns : goal.returns
returns g c =
    added_open session_view (entries_in c.args.list.now) c.args.named.component c.args.named.selector _ _ _ (quotas_account c.in-Some.account) (noted_in c.in-Some-session.session.now) _ _ _ _
    c.in_ok-push.ensures.items c.in_ok-row.ensures c.session-needed.ensures c.in-Some.ensures c.in-Some-session.ensures
