-- A call that stays with its component is the component's alone.
use Rattle.std.proofs.Common.{rules, arith, subst, ◌≡◌, ◌∙◌, ap, refl, false, Result}
use Rattle.std.proofs.lemmas.Grind.{common_steps}
use Rattle.own_model.specs.Call.{is_exit}
use Rattle.trade_base.specs.declared.refusal.Refusal.{Refusal}
use Rattle.own_model.specs.Reply.{reply_text}
use Rattle.pd_core.specs.declared.call_value.CallValue.{CallValue}
use Rattle.pd_core.specs.Answer.{reply_of, told_alone}
use Rattle.core_calls.specs.Call.{model_call}
use Rattle.pd_core.specs.Core.{roles_of, sessions_in}
use Rattle.pd_core.proofs.CorePlainLemmas.{plain_goes}
use Rattle.pd_core.proofs.CoreHeldLemmas.{names_open, reserve_apart}
use Rattle.pd_core.proofs.CoreWorldLemmas.{goes_as, role_at}
use Rattle.pd_core.specs.Component.{HasReserveApart, caps_in, IsSoundRole}
use Rattle.pd_core.specs.Own.{HasSessions}
use Rattle.pd_core.proofs.machine.carry_out.Goals.{in-Open, in-Upgrade, in-Close, in-Reserve, in-Request, in-Yield, in-Exit}
use Rattle.pd_core.proofs.machine.carry_out.Goals as goal

pub step-requires-clause-sound : goal.step-requires-clause-sound
step-requires-clause-sound g c =
    subst (IsSoundRole c.args.memory.now) (role_at c.args.components.now c.args.caller c.index-components-caller.result c.requires.at.caller) (c.requires.at.core.sound c.args.caller)

pub step-requires-clause-plain : goal.step-requires-clause-plain
step-requires-clause-plain g c = search rules

pub step-requires-clause-reserve : goal.step-requires-clause-reserve
step-requires-clause-reserve g c =
    subst HasReserveApart (role_at c.args.components.now c.args.caller c.index-components-caller.result c.requires.at.caller) (reserve_apart c.requires.at.core c.args.caller)

pub returns-in_default : goal.returns-in_default
returns-in_default g c =
    let memory = c.args.memory.now in
    let components = c.args.components.now in
    let i = c.args.caller in
    let d = c.index-components-caller.result in
    let step = c.step.new in
    let done = c.step.ensures in
    let places = g.R.Router.places c.args.routes.now in
    let call = model_call c.args.call in
    let roles = roles_of components in
    let ready = subst (λ r. HasSessions (sessions_in memory roles) (caps_in r)) (role_at components i d c.requires.at.caller) (names_open c.requires.at.core i) in
    let on : is_exit call ≡ false = (let is_not = c.in_default.not-Exit in grind (arith, common_steps, is_not)) in
    plain_goes memory components i d c.requires.at.caller c.requires.at.core step.memory step.self done.keeps done.stays places call step.reply on (done.outcome (places i) (sessions_in memory roles) ready)

-- the other calls do what they promise
pub returns-in-CallSession : goal.returns-in-CallSession
returns-in-CallSession g c = goes_as (ap model_call c.in-CallSession.is) refl (c.call.ensures (g.R.Router.places c.args.routes.now))

pub returns : goal.returns
returns g c =
    let places = g.R.Router.places c.args.routes.now in
    let told : (answered : Result CallValue Refusal) → c.match-call.outcome ≡ answered → c.tell.new.reply ≡ told_alone (reply_text (reply_of answered))
    = λ answered is. c.tell.ensures ∙ ap (λ o. told_alone (reply_text (reply_of o))) is in
    elim c.match-call.branch [
      | in-Open w ↦ rw (w.memory-is, w.components-is) (goes_as (ap model_call w.in-Open.is) (told _ w.outcome-is) w.open-outcome.ensures)
      | in-Upgrade w ↦ rw (w.memory-is, w.components-is) (goes_as (ap model_call w.in-Upgrade.is) (told _ w.outcome-is) (w.upgrade-outcome.ensures places))
      | in-Close w ↦ rw (w.memory-is, w.components-is) (goes_as (ap model_call w.in-Close.is) (told _ w.outcome-is) (w.close-outcome.ensures places))
      | in-Reserve w ↦ rw (w.memory-is, w.components-is) (goes_as (ap model_call w.in-Reserve.is) (told _ w.outcome-is) (w.reserve-outcome.ensures places))
      | in-Request w ↦ rw (w.memory-is, w.components-is) (goes_as (ap model_call w.in-Request.is) (told _ w.outcome-is) (w.shift-outcome.ensures places))
      | in-Yield w ↦ rw (w.memory-is, w.components-is) (goes_as (ap model_call w.in-Yield.is) (told _ w.outcome-is) (w.shift-outcome-in-Yield.ensures places))
      | in-Exit w ↦ rw (w.memory-is, w.components-is) (goes_as (ap model_call w.in-Exit.is) (told _ w.outcome-is) (w.exit-outcome.ensures places c.requires.routes.homes))
    ]
