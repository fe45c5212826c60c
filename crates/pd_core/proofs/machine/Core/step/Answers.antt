-- What is carried out over the components is done to the core.
use Rattle.std.proofs.Common.{◌≡◌, List, length, subst, sym, ap, ◌∙◌}
use Rattle.std.proofs.lemmas.List.{with_items_is}
use Rattle.std.specs.Global.{Vec}
use Rattle.std.specs.Vec.{with_items}
use Rattle.std.specs.List.{flat_map}
use Rattle.own_model.specs.Reply.{reply_text, log_text}
use Rattle.own_model.specs.World.{IsBalanced, IsBalancedFor, outcome_at, with_state}
use Rattle.own_model.proofs.StepBalanceLemmas.{step_balanced, step_balanced_for}
use Rattle.core_calls.specs.Call.{model_call}
use Rattle.pd_core.specs.Core.{IsCore, world_of}
use Rattle.pd_core.specs.SessionCalls.{Agrees}
use Rattle.pd_core.specs.declared.component.Component.{Component}
use Rattle.pd_core.proofs.CoreWorldLemmas.{core_at, same_many}
use Rattle.pd_core.proofs.machine.Core.step.Goals as goal

-- components that are lent come back as they are then, where they are as many
written : (v : Vec Component) (lent after : List Component) → lent ≡ v.items → length after ≡ length lent → (with_items v after).items ≡ after
written v lent after is many = with_items_is v after (many ∙ ap length is ∙ sym v.ok.0)

pub carry_out-requires-clause-at : goal.carry_out-requires-clause-at
carry_out-requires-clause-at g c =
    core_at (g.R.Router.places c.self.inside.routes) c.self.inside.memory _ _ c.args.self.now c.args.component c.as_mut_slice.ensures.value c.self.invariant.0 c.self.view_is c.requires.component

pub invariant_of-self : goal.invariant_of-self
invariant_of-self g c =
    let lent = c.as_mut_slice in
    let done = c.carry_out in
    let places = g.R.Router.places c.self.inside.routes in
    let leads = g.R.Router.leads c.self.inside.routes in
    subst (λ items. IsCore done.new.memory items × Agrees places leads done.new.memory items)
    (sym (written c.self.inside.components.items lent.result.now done.new.components lent.ensures.value (same_many done.ensures.answers)))
    (done.ensures.core, done.ensures.leads places leads (subst (Agrees places leads c.self.inside.memory) (sym lent.ensures.value) c.self.invariant.1))

pub returns-clause-answered : goal.returns-clause-answered
returns-clause-answered g c =
    let places = g.R.Router.places c.self.inside.routes in
    c.carry_out.ensures.answers.answered
    ∙ ap (λ w. reply_text (outcome_at w c.args.component (model_call c.args.call)).reply) (ap (world_of places c.self.inside.memory) c.as_mut_slice.ensures.value ∙ c.self.view_is)

pub returns-clause-lines : goal.returns-clause-lines
returns-clause-lines g c =
    let places = g.R.Router.places c.self.inside.routes in
    c.carry_out.ensures.answers.lines
    ∙ ap (λ w. flat_map log_text (outcome_at w c.args.component (model_call c.args.call)).lines) (ap (world_of places c.self.inside.memory) c.as_mut_slice.ensures.value ∙ c.self.view_is)

pub returns-clause-stepped : goal.returns-clause-stepped
returns-clause-stepped g c =
    let lent = c.as_mut_slice in
    let done = c.carry_out in
    let i = c.args.component in
    let call = model_call c.args.call in
    let places = g.R.Router.places c.self.inside.routes in
    ap (world_of places done.new.memory) (written c.self.inside.components.items lent.result.now done.new.components lent.ensures.value (same_many done.ensures.answers))
    ∙ done.ensures.answers.stepped
    ∙ ap (λ w. with_state w i (outcome_at w i call).next) (ap (world_of places c.self.inside.memory) lent.ensures.value ∙ c.self.view_is)

pub returns-clause-balance : goal.returns-clause-balance
returns-clause-balance g c = λ pages caps balanced.
    subst (IsBalanced pages caps) (sym (returns-clause-stepped g c)) (step_balanced pages caps c.args.self.now c.args.component (model_call c.args.call) balanced)

pub returns-clause-balance_for : goal.returns-clause-balance_for
returns-clause-balance_for g c = λ list balanced.
    subst (IsBalancedFor list) (sym (returns-clause-stepped g c)) (step_balanced_for list c.args.self.now c.args.component (model_call c.args.call) balanced)
