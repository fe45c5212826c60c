-- The account is the one that the world has.
use Rattle.std.proofs.Common.{ap, ◌∙◌}
use Rattle.std.specs.FinMap.{get}
use Rattle.std.specs.Option.{option_map}
use Rattle.own_model.specs.OwnState.{session_named}
use Rattle.own_model.specs.Session.{Session as AnOpenSession}
use Rattle.own_model.specs.Transcript.{state_at}
use Rattle.own_model.specs.World.{World}
use Rattle.pd_core.specs.Core.{world_of}
use Rattle.pd_core.proofs.CoreWorldLemmas.{core_at}
use Rattle.pd_core.proofs.machine.Core.session_account.Goals as goal

pub session_quotas-requires : goal.session_quotas-requires
session_quotas-requires g c = core_at (g.R.Router.places c.self.inside.routes) c.self.inside.memory _ _ c.args.self.now c.args.component c.as_slice.ensures.value c.self.invariant.0 c.self.view_is c.requires

pub returns : goal.returns
returns g c =
    c.session_quotas.ensures (g.R.Router.places c.self.inside.routes)
    ∙ ap (λ (w : World). option_map (λ (s : AnOpenSession). s.account) (session_named (get (state_at w.states c.args.component).selectors c.args.selector)))
    (ap (world_of (g.R.Router.places c.self.inside.routes) c.self.inside.memory) c.as_slice.ensures.value ∙ c.self.view_is)
