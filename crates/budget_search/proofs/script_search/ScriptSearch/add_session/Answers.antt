-- The session's account is counted.
use Rattle.budget_search.proofs.FaultLemmas.{passed_on}
use Rattle.budget_search.proofs.script_search.ScriptSearch.add_session.Goals as goal

pub returns-clause-counted : goal.returns-clause-counted
returns-clause-counted g c = λ before lines rest end are. (
  c.in_ok-account.account,
  (c.in_ok-account.ensures.account before, (c.add.new.self.accounts.items, (c.in_ok-add.ensures.counted c.in_ok-account.ensures.key lines, are))),
)

pub returns-in_err-account-clause-lacks : goal.returns-in_err-account-clause-lacks
returns-in_err-account-clause-lacks g c =
    passed_on _ _ c.from_residual.result c.from_residual.ensures.1 (λ other before of_lines. c.in_err-account.ensures.lacks other before of_lines)
