-- The client has as much in all.
use Rattle.core_calls.specs.Call.{model_call}
use Rattle.budget_search.proofs.WholeLemmas.{step_whole}
use Rattle.budget_search.proofs.session_client.SessionClient.step.Goals as goal

pub returns-then-self-count-clause-whole : goal.returns-then-self-count-clause-whole
returns-then-self-count-clause-whole g c =
    step_whole c.args.self.now.core c.step.new.self c.args.self.now.client (model_call c.args.call) c.step.ensures.stepped
