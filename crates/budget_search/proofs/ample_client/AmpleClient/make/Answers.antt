-- A request is made with enough.
use Rattle.std.proofs.Common.{ap}
use Rattle.own_model.specs.Call.Call.{CallSession}
use Rattle.core_calls.specs.Call.{model_call}
use Rattle.budget_search.proofs.AskLemmas.{request_made}
use Rattle.budget_search.proofs.ample_client.AmpleClient.make.Goals as goal

pub returns-in-CallSession : goal.returns-in-CallSession
returns-in-CallSession g c =
    request_made c.request.result (model_call c.args.call) (CallSession c.in-CallSession.selector c.in-CallSession.request.now) c.args.self.now c.request.new.self
    (ap model_call c.in-CallSession.is) c.request.ensures
