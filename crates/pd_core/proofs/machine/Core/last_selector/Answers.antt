-- A component's own state names nothing past the selectors in use, and it is the one that the world has.
use Rattle.std.proofs.Common.{rules, ap, sym, ◌∙◌}
use Rattle.std.specs.FinMap.{get}
use Rattle.own_model.specs.Transcript.{state_at}
use Rattle.own_model.specs.World.{World}
use Rattle.pd_core.specs.Core.{world_of}
use Rattle.pd_core.proofs.CoreWorldLemmas.{place_within}
use Rattle.pd_core.proofs.QuotaLemmas.{none_at_place}
use Rattle.pd_core.proofs.machine.Core.last_selector.Goals as goal

pub bounds-components-component : goal.bounds-components-component
bounds-components-component g c =
    let same = ap (world_of (g.R.Router.places c.self.inside.routes) c.self.inside.memory) c.as_slice-components.ensures.value ∙ c.self.view_is in
    place_within (g.R.Router.places c.self.inside.routes) c.self.inside.memory c.as_slice-components.result.now c.args.self.now c.args.component same c.requires

pub offset_bounds-components-component : goal.offset_bounds-components-component
offset_bounds-components-component g c =
    let within = bounds-components-component g c in search rules

pub returns-clause-none : goal.returns-clause-none
returns-clause-none g c = λ q past.
    let routed = g.R.Router.places c.self.inside.routes in
    let memory = c.self.inside.memory in
    let components = c.as_slice-components.result.now in
    let i = c.args.component in
    let at = c.index-components-component in
    let same = ap (world_of routed memory) c.as_slice-components.ensures.value ∙ c.self.view_is in
    sym (ap (λ (w : World). get (state_at w.states i).selectors q) same)
    ∙ none_at_place routed memory components i at.result c.last_selector.result (place_within routed memory components c.args.self.now i same c.requires) at.is c.last_selector.ensures.all q past
