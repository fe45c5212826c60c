-- The reserve is the one that the world has.
use Rattle.std.proofs.Common.{ap, ◌∙◌}
use Rattle.own_model.specs.Transcript.{state_at}
use Rattle.own_model.specs.World.{World}
use Rattle.pd_core.specs.Core.{world_of}
use Rattle.pd_core.proofs.CoreWorldLemmas.{core_at}
use Rattle.pd_core.proofs.machine.Core.reserve.Goals as goal

pub component_reserve-requires : goal.component_reserve-requires
component_reserve-requires g c = core_at (g.R.Router.places c.self.inside.routes) c.self.inside.memory _ _ c.args.self.now c.args.component c.as_slice.ensures.value c.self.invariant.0 c.self.view_is c.requires

pub returns : goal.returns
returns g c =
    c.component_reserve.ensures (g.R.Router.places c.self.inside.routes)
    ∙ ap (λ (w : World). (state_at w.states c.args.component).reserve) (ap (world_of (g.R.Router.places c.self.inside.routes) c.self.inside.memory) c.as_slice.ensures.value ∙ c.self.view_is)
