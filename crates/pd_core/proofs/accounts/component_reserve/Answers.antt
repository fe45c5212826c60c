-- A component's reserve is the one at its place of the world.
use Rattle.std.proofs.Common.{ap, subst, sym, ◌∙◌}
use Rattle.pd_core.specs.Component.{own, reserve_in}
use Rattle.pd_core.specs.Core.{roles_of, sessions_in}
use Rattle.pd_core.specs.declared.component.Component.{Component}
use Rattle.std.specs.Prelude.{IfSome}
use Rattle.dataspace_core.specs.Store.{IsOpenIn}
use Rattle.pd_core.proofs.CoreHeldLemmas.{reserve_open}
use Rattle.pd_core.proofs.CoreWorldLemmas.{role_read}
use Rattle.pd_core.proofs.QuotaLemmas.{reserve_at_place}
use Rattle.pd_core.proofs.accounts.component_reserve.Goals as goal

pub reserve-requires : goal.reserve-requires
reserve-requires c =
    let at = c.index-components-place in
    subst (λ r. IfSome (reserve_in r) (IsOpenIn c.args.memory.now)) (role_read c.args.components.now c.args.place at.result c.requires.caller at.is) (reserve_open c.requires.core c.args.place)

pub returns : goal.returns
returns c = λ places.
    let memory = c.args.memory.now in
    let components = c.args.components.now in
    let sessions = sessions_in memory (roles_of components) in
    let at = c.index-components-place in
    c.reserve.ensures sessions ∙ ap (λ (d : Component). (own sessions memory d).reserve) at.is
    ∙ sym (reserve_at_place places memory components c.args.place at.result c.requires.caller)
