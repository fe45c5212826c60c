-- The server is the one that the world's session has.
use Rattle.std.proofs.Common.{◌≡◌, rules, ap, sym, ◌∙◌}
use Rattle.std.specs.FinMap.{get}
use Rattle.std.specs.Option.{option_map}
use Rattle.own_model.specs.OwnState.{server_named}
use Rattle.own_model.specs.Session.{Session as AnOpenSession}
use Rattle.own_model.specs.Transcript.{state_at}
use Rattle.own_model.specs.World.{World}
use Rattle.pd_core.specs.Core.{world_of, IsCoreAt}
use Rattle.pd_core.proofs.QuotaLemmas.{named_at_place, served_at_place, served_where}
use Rattle.pd_core.proofs.CoreWorldLemmas.{core_at}
use Rattle.pd_core.proofs.machine.Core.server_of.Given as given
use Rattle.pd_core.proofs.machine.Core.server_of.Goals.{After-as_slice-components}
use Rattle.pd_core.proofs.machine.Core.server_of.Goals as goal

-- what is lent is a sound core's, and the world is the one that it has
is_core : (g : given.Over) (c : After-as_slice-components g) → IsCoreAt c.args.component c.self.inside.memory c.as_slice-components.result.now
is_core g c = core_at (g.R.Router.places c.self.inside.routes) c.self.inside.memory _ _ c.args.self.now c.args.component c.as_slice-components.ensures.value c.self.invariant.0 c.self.view_is c.requires

is_world : (g : given.Over) (c : After-as_slice-components g) → world_of (g.R.Router.places c.self.inside.routes) c.self.inside.memory c.as_slice-components.result.now ≡ c.args.self.now
is_world g c = ap (world_of (g.R.Router.places c.self.inside.routes) c.self.inside.memory) c.as_slice-components.ensures.value ∙ c.self.view_is

pub bounds-components-component : goal.bounds-components-component
bounds-components-component g c = (is_core g (goal.at.bounds-components-component g c).After-as_slice-components).caller

pub offset_bounds-components-component : goal.offset_bounds-components-component
offset_bounds-components-component g c =
    let within = bounds-components-component g c in search rules

pub returns-in-Ok : goal.returns-in-Ok
returns-in-Ok g c =
    let lent = (goal.at.returns-in-Ok g c).After-as_slice-components in
    let at = is_core g lent in
    let named = sym c.session.ensures.named ∙ c.in-Ok.is in
    let served = served_where c.args.selector at.core at.caller c.index-components-component.is named in
    sym (ap (option_map (λ (s : AnOpenSession). s.server)) (served_at_place (g.R.Router.places c.self.inside.routes) _ _ _ _ c.args.selector _ at.caller c.index-components-component.is named served))
    ∙ ap (λ (w : World). server_named (get (state_at w.states c.args.component).selectors c.args.selector)) (is_world g lent)

pub returns-in-Err : goal.returns-in-Err
returns-in-Err g c =
    let lent = (goal.at.returns-in-Err g c).After-as_slice-components in
    sym (ap (option_map (λ (s : AnOpenSession). s.server))
    (named_at_place (g.R.Router.places c.self.inside.routes) _ _ _ _ c.args.selector _ (is_core g lent).caller c.index-components-component.is (sym c.session.ensures.named ∙ c.in-Err.is)))
    ∙ ap (λ (w : World). server_named (get (state_at w.states c.args.component).selectors c.args.selector)) (is_world g lent)
