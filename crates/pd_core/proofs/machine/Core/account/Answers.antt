-- The account is the one that the world has.
use Rattle.std.proofs.Common.{◌+◌, ap, subst, ◌∙◌}
use Rattle.own_model.specs.StartList.{init_at}
use Rattle.own_model.specs.Transcript.{state_at}
use Rattle.own_model.specs.World.{World, account_at}
use Rattle.pd_core.specs.Answer.{quotas_account, CountsLimits}
use Rattle.pd_core.specs.Core.{world_of}
use Rattle.pd_core.proofs.CoreWorldLemmas.{core_at}
use Rattle.pd_core.proofs.machine.Core.account.Goals as goal

pub component_quotas-requires : goal.component_quotas-requires
component_quotas-requires g c = core_at (g.R.Router.places c.self.inside.routes) c.self.inside.memory _ _ c.args.self.now c.args.component c.as_slice.ensures.value c.self.invariant.0 c.self.view_is c.requires

pub returns-clause-limits : goal.returns-clause-limits
returns-clause-limits g c =
    let places = g.R.Router.places c.self.inside.routes in
    subst (λ (w : World). CountsLimits (quotas_account c.component_quotas.result) (init_at w.inits (c.args.component + 1)) (state_at w.states c.args.component).account)
    (ap (world_of places c.self.inside.memory) c.as_slice.ensures.value ∙ c.self.view_is) (c.component_quotas.ensures.limits places)

pub returns-clause-value : goal.returns-clause-value
returns-clause-value g c =
    let places = g.R.Router.places c.self.inside.routes in
    c.component_quotas.ensures.value places
    ∙ ap (λ (w : World). account_at w c.args.component) (ap (world_of places c.self.inside.memory) c.as_slice.ensures.value ∙ c.self.view_is)
