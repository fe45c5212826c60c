-- The world has an entry and an own state for each component.
use Rattle.std.proofs.Common.{◌≡◌, ◌+◌, length, sym, ap, ◌∙◌, arith}
use Rattle.std.proofs.lemmas.List.{length-map}
use Rattle.std.specs.Box.{boxed_slice_items}
use Rattle.own_model.specs.World.{World}
use Rattle.pd_core.specs.Component.{own}
use Rattle.pd_core.specs.Core.{init_in, inits_of, roles_of, sessions_in}
use Rattle.pd_core.specs.declared.component.Component.{Component}
use Rattle.pd_core.proofs.CoreWorldLemmas.{length-entries}
use Rattle.pd_core.proofs.machine.Core.count.Goals as goal

pub returns-clause-entries : goal.returns-clause-entries
returns-clause-entries g c =
    ap length c.as_slice.ensures.value
    ∙ sym (length-entries (g.R.Router.places c.self.inside.routes) (boxed_slice_items c.self.inside.components))
    ∙ ap (λ (w : World). length w.entries) c.self.view_is

pub returns-clause-states : goal.returns-clause-states
returns-clause-states g c =
    let items = boxed_slice_items c.self.inside.components in
    ap length c.as_slice.ensures.value
    ∙ sym (length-map items (own (sessions_in c.self.inside.memory (roles_of items)) c.self.inside.memory))
    ∙ ap (λ (w : World). length w.states) c.self.view_is

pub returns-clause-inits : goal.returns-clause-inits
returns-clause-inits g c =
    let items = boxed_slice_items c.self.inside.components in
    let memory = c.self.inside.memory in
    let all : length (inits_of memory items) ≡ length c.as_slice.result.now + 1 = omega (arith, length-map items (λ (d : Component). init_in memory d.role), ap length c.as_slice.ensures.value) in
    ap (λ (w : World). length w.inits) (sym c.self.view_is) ∙ all
