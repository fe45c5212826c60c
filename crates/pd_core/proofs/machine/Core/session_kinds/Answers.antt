-- The session is the one that the world has.
use Rattle.std.proofs.Common.{ap, ◌∙◌}
use Rattle.std.specs.FinMap.{get}
use Rattle.std.specs.Option.{option_and_then}
use Rattle.own_model.specs.OwnState.{session_named}
use Rattle.own_model.specs.Session.{Session as AnOpenSession, offer_of}
use Rattle.own_model.specs.Transcript.{state_at}
use Rattle.own_model.specs.World.{World}
use Rattle.object_kinds.specs.Offered.{offered_kinds}
use Rattle.pd_core.specs.Core.{world_of}
use Rattle.pd_core.proofs.CoreWorldLemmas.{core_at}
use Rattle.pd_core.proofs.machine.Core.session_kinds.Goals as goal

pub session_kinds-requires : goal.session_kinds-requires
session_kinds-requires g c = core_at (g.R.Router.places c.self.inside.routes) c.self.inside.memory _ _ c.args.self.now c.args.component c.as_slice.ensures.value c.self.invariant.0 c.self.view_is c.requires

pub returns : goal.returns
returns g c =
    c.session_kinds.ensures (g.R.Router.places c.self.inside.routes)
    ∙ ap (λ (w : World). option_and_then (λ (s : AnOpenSession). offered_kinds (offer_of s.state)) (session_named (get (state_at w.states c.args.component).selectors c.args.selector)))
    (ap (world_of (g.R.Router.places c.self.inside.routes) c.self.inside.memory) c.as_slice.ensures.value ∙ c.self.view_is)
