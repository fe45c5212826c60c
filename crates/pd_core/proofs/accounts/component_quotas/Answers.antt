-- A component's own state is the one at its place of the world.
use Rattle.std.proofs.Common.{ap, subst, sym, ◌∙◌}
use Rattle.own_model.specs.World.{account_by}
use Rattle.pd_core.specs.Component.{kind_of, own, IsSoundRole}
use Rattle.pd_core.specs.Core.{init_in, roles_of, sessions_in}
use Rattle.pd_core.specs.declared.component.Component.{Component}
use Rattle.pd_core.proofs.CoreWorldLemmas.{role_read}
use Rattle.pd_core.proofs.QuotaLemmas.{account_at_place, limits_at_place}
use Rattle.pd_core.proofs.accounts.component_quotas.Goals as goal

pub quotas-requires : goal.quotas-requires
quotas-requires c =
    let at = c.index-components-place in
    subst (IsSoundRole c.args.memory.now) (role_read c.args.components.now c.args.place at.result c.requires.caller at.is) (c.requires.core.sound c.args.place)

pub returns-clause-limits : goal.returns-clause-limits
returns-clause-limits c = λ places.
    let memory = c.args.memory.now in
    let components = c.args.components.now in
    let sessions = sessions_in memory (roles_of components) in
    let at = c.index-components-place in
    limits_at_place places memory components c.args.place at.result _ c.requires.caller
    (c.quotas.ensures sessions ∙ ap (λ (d : Component). account_by (kind_of d.role) (init_in memory d.role) (own sessions memory d).account) at.is)

pub returns-clause-value : goal.returns-clause-value
returns-clause-value c = λ places.
    let memory = c.args.memory.now in
    let components = c.args.components.now in
    let sessions = sessions_in memory (roles_of components) in
    let at = c.index-components-place in
    c.quotas.ensures sessions ∙ ap (λ (d : Component). account_by (kind_of d.role) (init_in memory d.role) (own sessions memory d).account) at.is
    ∙ sym (account_at_place places memory components c.args.place at.result c.requires.caller)
