-- The client is taken out, makes the call, and is put back.
use Rattle.std.proofs.Common.{ap, ◌∙◌}
use Rattle.core_calls.specs.Call.{model_call}
use Rattle.line_names.specs.Views.{filled_view}
use Rattle.budget_search.proofs.FaultLemmas.{passed_on}
use Rattle.budget_search.specs.AmpleCalls.{Client}
use Rattle.budget_least.specs.BoundRuns.{answered_by}
use Rattle.budget_least.proofs.BoundRunLemmas.{answered_is, made_is}
use Rattle.budget_least.proofs.binding_run.BindingRun.answer_bound.Goals as goal

pub returns-clause-answered : goal.returns-clause-answered
returns-clause-answered c =
    let old = c.args.self.now in
    let filled = filled_view c.args.filled.now in (
      c.in_ok-client.client,
      (
        c.in_ok-client.ensures.client,
        answered_is c.args.component filled old c.take_client.new.self c.learn.new.self c.put_client.new.self c.make.new.client c.text.result.now
            c.in_ok-client.ensures.taken c.text.ensures c.in_ok-learn.ensures c.put_client.ensures
            ∙ ap (λ (client : Client). answered_by c.args.component filled client old)
            (made_is c.args.component c.args.place (model_call c.args.call) c.in_ok-client.client c.make.new.client old c.take_client.new.self c.budgets.result
            c.in_ok-client.ensures.taken c.budgets.ensures c.in_ok-make.ensures),
      ),
    )

pub returns-in_err-client-clause-fault : goal.returns-in_err-client-clause-fault
returns-in_err-client-clause-fault c =
    passed_on _ _ c.from_residual.result c.from_residual.ensures.1 (λ other. c.in_err-client.ensures.fault other)
