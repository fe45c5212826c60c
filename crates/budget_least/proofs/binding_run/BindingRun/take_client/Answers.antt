-- The list stays, without the client.
use Rattle.std.proofs.lemmas.Result.{IfErr-weaker}
use Rattle.std.proofs.Common.{subst}
use Rattle.budget_search.specs.NoBudgets.{LacksBudgets}
use Rattle.budget_least.specs.BoundRuns.{BoundRun}
use Rattle.budget_least.proofs.binding_run.BindingRun.take_client.Goals as goal

pub returns-in-None-clause-fault : goal.returns-in-None-clause-fault
returns-in-None-clause-fault c =
    IfErr-weaker c.boot.result _ _ (λ fault lacks other. subst (λ (r : BoundRun). LacksBudgets r.list fault) c.take_known.ensures.taken (lacks other))
    c.boot.ensures.fault
