-- One service more.
use Rattle.std.proofs.Common.{ℕ, List, [], ◌∷◌, refl}
use Rattle.own_model.specs.Listed.{services_of}
use Rattle.list_reach.proofs.ServiceLemmas.{one_more}
use Rattle.list_findings.proofs.decision_views.add_services.Goals as goal

pub loop-number-preserved : goal.loop-number-preserved
loop-number-preserved c =
    one_more (λ service. service ∷ []) (λ (services : List (List ℕ)). services) (services_of c.args.list.now.entries) c.loop-number.number
    c.service_name-service.result.now c.loop-number.found.items _ _ (λ services. refl) c.service_name-service.ensures c.in_ok-add_text.ensures c.loop-number.invariant
