-- A write that fails in one part of the list loses the parts after it.
use Rattle.std.proofs.Common.{ap, codes, sym}
use Rattle.own_model.specs.AccountList.{account_line}
use Rattle.run_lines.proofs.AccountLemmas.{told_by}
use Rattle.run_devices.proofs.GatheredLemmas.{Tells-more, Tells-front, told_err, told_more}
use Rattle.run_lines.proofs.account_list.put_list.Goals as goal

pub returns-in_err-put_account-clause-told : goal.returns-in_err-put_account-clause-told
returns-in_err-put_account-clause-told g c =
    let first = told_by (ap (account_line (codes "init")) (sym c.init_account.ensures)) (c.in_err-put_account.ensures.told.1) in
    told_err _ _ _ c.from_residual.ensures.1 (_, Tells-front _ (Tells-front _ (Tells-front _ first)))

pub returns-in_err-put_components-clause-told : goal.returns-in_err-put_components-clause-told
returns-in_err-put_components-clause-told g c =
    let first = told_by (ap (account_line (codes "init")) (sym c.init_account.ensures)) c.in_ok-put_account.ensures.told in
    told_err _ _ _ c.from_residual-in_err-put_components.ensures.1
    (_, Tells-front _ (Tells-front _ (Tells-more first (c.in_err-put_components.ensures.told.1))))

pub returns-in_err-put_sessions-clause-told : goal.returns-in_err-put_sessions-clause-told
returns-in_err-put_sessions-clause-told g c =
    let first = told_by (ap (account_line (codes "init")) (sym c.init_account.ensures)) c.in_ok-put_account.ensures.told in
    told_err _ _ _ c.from_residual-in_err-put_sessions.ensures.1
    (_, Tells-front _ (Tells-more (Tells-more first c.in_ok-put_components.ensures.told) (c.in_err-put_sessions.ensures.told.1)))

pub returns-clause-told : goal.returns-clause-told
returns-clause-told g c =
    let first = told_by (ap (account_line (codes "init")) (sym c.init_account.ensures)) c.in_ok-put_account.ensures.told in
    told_more _ _ _ _ (Tells-more (Tells-more first c.in_ok-put_components.ensures.told) c.in_ok-put_sessions.ensures.told) c.put_total.ensures.told
