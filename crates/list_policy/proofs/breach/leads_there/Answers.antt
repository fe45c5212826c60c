-- By where the label leads.
use Rattle.std.proofs.Common.{◌∙◌, ℕ, List, Option, ap}
use Rattle.list_labels.specs.GivenLabels.{leads_to}
use Rattle.list_reach.specs.ClientReach.{is_child}
use Rattle.list_policy.specs.Demand.{service_at}
use Rattle.list_policy.proofs.breach.leads_there.Goals as goal

pub returns-in-Some : goal.returns-in-Some
unfolding leads_to
returns-in-Some c =
    ap (λ (o : Option ℕ). is_child c.args.server o)
    (c.in-Some.ensures
    ∙ (ap (λ (s : List ℕ). leads_to c.args.list.now c.args.client s c.as_bytes-2.result.now) (c.as_bytes.ensures.value ∙ c.service_at.ensures)
    ∙ ap (λ (t : List ℕ). leads_to c.args.list.now c.args.client (service_at c.args.list.now c.args.server) t) c.as_bytes-2.ensures.bytes))

pub returns-in-None : goal.returns-in-None
unfolding leads_to
returns-in-None c =
    ap (λ (o : Option ℕ). is_child c.args.server o)
    (c.in-None.ensures
    ∙ (ap (λ (s : List ℕ). leads_to c.args.list.now c.args.client s c.as_bytes-2.result.now) (c.as_bytes.ensures.value ∙ c.service_at.ensures)
    ∙ ap (λ (t : List ℕ). leads_to c.args.list.now c.args.client (service_at c.args.list.now c.args.server) t) c.as_bytes-2.ensures.bytes))
