-- What is told is the own state's.
use Rattle.std.proofs.Common.{Some, subst, sym, ap, ◌∙◌}
use Rattle.std.specs.Prelude.{IfSome}
use Rattle.own_model.specs.Call.Call.{Reserve}
use Rattle.dataspace_core.specs.Store.{IsOpenIn}
use Rattle.pd_core.specs.Component.{reserve_in, own}
use Rattle.pd_core.specs.Core.{roles_of, sessions_in}
use Rattle.std.specs.Option.{option_or}
use Rattle.trade_base.specs.declared.refusal.Refusal.TheVariants.{NotAScript}
use Rattle.pd_core.specs.Exit.{refusal_of}
use Rattle.pd_core.specs.declared.component.Component.{Component}
use Rattle.pd_core.proofs.CoreHeldLemmas.{reserve_open}
use Rattle.pd_core.proofs.ReserveCallLemmas.{told_goes}
use Rattle.pd_core.proofs.SessionRefusedLemmas.{no_script_goes}
use Rattle.pd_core.proofs.CoreWorldLemmas.{role_read}
use Rattle.pd_core.proofs.reserves.reserve.Goals as goal

pub returns-in_default : goal.returns-in_default
returns-in_default c = λ places.
    no_script_goes places c.args.components.now c.index-components-caller.result c.requires.core c.requires.caller Reserve c.refusal.result
    (λ script is. c.in_default.not-Script script (ap (λ (d : Component). d.role) c.index-components-caller.is ∙ is))
    (c.refusal.ensures ∙ ap (λ (d : Component). option_or (refusal_of d.role) (Some NotAScript)) c.index-components-caller.is)

pub reserve-requires : goal.reserve-requires
reserve-requires c =
    subst (λ r. IfSome (reserve_in r) (IsOpenIn c.args.memory.now)) (role_read c.args.components.now c.args.caller c.index-components-caller.result c.requires.caller c.index-components-caller.is) (reserve_open c.requires.core c.args.caller)

pub returns : goal.returns
returns c = λ places.
    told_goes places c.args.components.now c.index-components-caller.result c.requires.core c.requires.caller c.in-Script.field-0 (ap (λ (d : Component). d.role) (sym c.index-components-caller.is) ∙ c.in-Script.is) c.reserve.result
    (c.reserve.ensures (sessions_in c.args.memory.now (roles_of c.args.components.now))
    ∙ ap (λ (d : Component). (own (sessions_in c.args.memory.now (roles_of c.args.components.now)) c.args.memory.now d).reserve) c.index-components-caller.is)
