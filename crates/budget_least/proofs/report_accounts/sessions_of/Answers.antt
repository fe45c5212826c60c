-- The search is that of the component.
use Rattle.std.proofs.Common.{ap, subst, sym, ◌∙◌}
use Rattle.budget_search.specs.Alike.{given_in, own_entry}
use Rattle.budget_search.specs.NoBudgets.{LacksBudgets}
use Rattle.budget_search.proofs.FaultLemmas.{passed_on}
use Rattle.budget_search.proofs.SeenLemmas.{as_written}
use Rattle.budget_search.specs.SessionAccounts.{AreSessionAccounts}
use Rattle.budget_search.specs.OwnLines.{lines_from}
use Rattle.budget_least.proofs.AccountLemmas.{args_unset}
use Rattle.budget_least.proofs.report_accounts.sessions_of.Goals as goal

pub returns-in_err-sessions-in-Some-clause-fault : goal.returns-in_err-sessions-in-Some-clause-fault
returns-in_err-sessions-in-Some-clause-fault c =
    let is = c.in-Some.ensures in
    passed_on _ _ c.from_residual.result c.from_residual.ensures.1
    (λ other.
    subst (λ l. LacksBudgets l c.in_err-sessions-in-Some.field-0.0) is.list
    (c.in_err-sessions-in-Some.ensures.fault other ((λ i. (own_entry (is.list i) (is.component i)).kind) ∙ is.script)
    (is.given ∙ (λ i. given_in (sym is.list i) (sym is.component i)))))

pub returns-in_ok-sessions-in-Some-clause-sessions : goal.returns-in_ok-sessions-in-Some-clause-sessions
returns-in_ok-sessions-in-Some-clause-sessions c =
    let is = c.in-Some.ensures in
    let list = c.args.list.now in
    let component = c.args.component in
    let steps = c.args.steps.now in
    let found = c.in_ok-sessions-in-Some.sessions in
    let script = (λ i. (own_entry (is.list i) (is.component i)).kind) ∙ is.script in
    record {
      script = is.script;
      accounts =
          subst (λ l. AreSessionAccounts l component steps found.accounts.items) is.list
          (subst (λ n. AreSessionAccounts c.in-Some.search.list.now n steps found.accounts.items) is.component (c.in_ok-sessions-in-Some.ensures.accounts script));
      refused =
          c.in_ok-sessions-in-Some.ensures.refused script ∙ (λ i. (lines_from (is.list i) (is.component i) steps (is.given i)).refused)
          ∙ ap (λ lines. lines.refused) (as_written list component steps (args_unset steps c.requires.written) (given_in list component));
    }
