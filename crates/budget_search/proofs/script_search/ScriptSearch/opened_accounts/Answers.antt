-- The client has called nothing before.
use Rattle.std.proofs.Common.{rules, inl, inr, ◌∙◌}
use Rattle.std.proofs.lemmas.Result.{IfErr-weaker}
use Rattle.budget_search.specs.Alike.{most_in}
use Rattle.budget_search.proofs.AlikeLemmas.{ready_first}
use Rattle.budget_search.proofs.FaultLemmas.{passed_on}
use Rattle.budget_search.proofs.SessionLemmas.{each_ok}
use Rattle.budget_search.proofs.script_search.ScriptSearch.opened_accounts.Goals as goal

pub returns-clause-accounts : goal.returns-clause-accounts
returns-clause-accounts c =
    let list = c.args.self.now.list.now in
    let component = c.args.self.now.component in
    each_ok c.needs.result
    (λ found counted script funded.
    counted
    (ready_first c.args.ample.now list component (most_in list component) (search rules) funded script c.new-client.result.core
    (c.new-client.ensures.core ∙ c.in_ok-core.ensures.started) c.new-client.result.client c.new-client.ensures.client))
    c.needs.ensures.accounts

pub returns-in_err-core-clause-fault : goal.returns-in_err-core-clause-fault
returns-in_err-core-clause-fault c =
    passed_on _ _ c.from_residual-in_err-core.result c.from_residual-in_err-core.ensures.1 (λ other script funded of_lines. inl (c.in_err-core.ensures.fault other))

pub returns-clause-fault : goal.returns-clause-fault
returns-clause-fault c =
    let list = c.args.self.now.list.now in
    let component = c.args.self.now.component in
    IfErr-weaker c.needs.result _ _
    (λ fault lacks other script funded of_lines.
    inr (lacks other
    (ready_first c.args.ample.now list component (most_in list component) (search rules) funded script c.new-client.result.core
    (c.new-client.ensures.core ∙ c.in_ok-core.ensures.started) c.new-client.result.client c.new-client.ensures.client) of_lines))
    c.needs.ensures.fault
