-- The requests for one service more.
use Rattle.std.proofs.Common.{ℕ, List, [], ◌∷◌, map, refl}
use Rattle.own_model.specs.Listed.{services_of}
use Rattle.list_reach.specs.ScriptDecisions.{Asking}
use Rattle.list_reach.proofs.ServiceLemmas.{one_more}
use Rattle.list_reach.proofs.script_decisions.add_services.Goals as goal

pub loop-number-preserved : goal.loop-number-preserved
loop-number-preserved c =
    let asking : List ℕ → Asking = λ service. record { client = c.args.client; entry = c.args.entry.now; service = service } in
    one_more (λ service. asking service ∷ []) (map asking) (services_of c.args.list.now.entries) c.loop-number.number
    c.service_name-service.result.now c.loop-number.asked.items _ _ (λ services. refl) c.service_name-service.ensures c.in_ok-push.ensures.items
    c.loop-number.invariant
