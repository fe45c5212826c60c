-- A refused call changes nothing; else limits move.
use Rattle.std.proofs.Common.{◌≡◌, Some, subst, refl, sym, ap, ◌∙◌}
use Rattle.std.specs.Prelude.{IsErrAnd}
use Rattle.trade_base.specs.declared.refusal.Refusal.TheVariants.{BadArgs, NotAScript}
use Rattle.own_model.specs.Reply.{reply_text}
use Rattle.pd_core.specs.Answer.{told_alone, reply_of}
use Rattle.pd_core.specs.SessionCalls.{Goes}
use Rattle.pd_core.specs.ReserveDirection.{call_by}
use Rattle.std.specs.Option.{option_or}
use Rattle.pd_core.specs.Exit.{refusal_of}
use Rattle.pd_core.specs.declared.component.Component.{Component}
use Rattle.pd_core.proofs.CorePlainLemmas.{unlisted}
use Rattle.pd_core.proofs.ReserveCallLemmas.{way_siblings, way_unread, way_short, way_goes}
use Rattle.pd_core.proofs.SessionRefusedLemmas.{no_script_goes, passed_on, arguments_are}
use Rattle.pd_core.proofs.reserves.shift.Goals as goal

pub returns-in_default : goal.returns-in_default
returns-in_default c = λ places.
    no_script_goes places c.args.components.now c.index-components-caller.result c.requires.core c.requires.caller (call_by c.args.way c.args.text.now) c.refusal.result
    (λ script is. c.in_default.not-Script script (ap (λ (d : Component). d.role) c.index-components-caller.is ∙ is))
    (c.refusal.ensures ∙ ap (λ (d : Component). option_or (refusal_of d.role) (Some NotAScript)) c.index-components-caller.is)

pub returns-in_err-more : goal.returns-in_err-more
returns-in_err-more c = λ places.
    passed_on BadArgs c.from_residual.result (subst (λ e. IsErrAnd c.from_residual.result (λ y. y ≡ e)) c.in_err-more.ensures.refused c.from_residual.ensures.1)
    (way_unread places c.args.components.now c.index-components-caller.result c.requires.core c.requires.caller c.in-Script.script (ap (λ (d : Component). d.role) (sym c.index-components-caller.is) ∙ c.in-Script.is) c.args.way c.args.text.now c.in_err-more.ensures.none)

-- the accounts are those of the way
pub shift-requires : goal.shift-requires
shift-requires c =
    rw (c.ends.ensures.giver, c.ends.ensures.taker) (way_siblings (λ _. unlisted) c.args.components.now c.index-components-caller.result c.requires.core c.requires.caller c.in-Script.script (ap (λ (d : Component). d.role) (sym c.index-components-caller.is) ∙ c.in-Script.is) c.args.way)

pub returns-in_err-shift : goal.returns-in_err-shift
returns-in_err-shift c = λ places.
    let reads = arguments_are c.args.text.now c.ram.result.0 c.caps.result.0 c.in_ok-more.more.label c.in_ok-more.ensures.value c.ram.ensures c.caps.ensures refl in
    let refusal = c.in_err-shift.field-0.0 in
    let short = rw c.ends.ensures.giver at c.in_err-shift.ensures.refusal in
    subst (λ m. Goes places (call_by c.args.way c.args.text.now) c.args.caller (told_alone (reply_text (reply_of c.from_residual-in_err-shift.result))) c.args.memory.now c.args.components.now m c.args.components.now) (sym c.in_err-shift.ensures.err)
    (passed_on refusal c.from_residual-in_err-shift.result c.from_residual-in_err-shift.ensures.1
    (way_short places c.args.components.now c.index-components-caller.result c.requires.core c.requires.caller c.in-Script.script (ap (λ (d : Component). d.role) (sym c.index-components-caller.is) ∙ c.in-Script.is) c.args.way c.args.text.now reads refusal short))

pub returns : goal.returns
returns c = λ places.
    let reads = arguments_are c.args.text.now c.ram.result.0 c.caps.result.0 c.in_ok-more.more.label c.in_ok-more.ensures.value c.ram.ensures c.caps.ensures refl in
    let done = c.in_ok-shift.ensures in
    let enough = rw c.ends.ensures.giver at done.refusal in
    let moves = rw (c.ends.ensures.giver, c.ends.ensures.taker) at done.part in
    way_goes places c.args.components.now c.index-components-caller.result c.requires.core c.requires.caller c.in-Script.script (ap (λ (d : Component). d.role) (sym c.index-components-caller.is) ∙ c.in-Script.is) c.args.way c.args.text.now reads c.shift.ensures.ram_moved c.shift.ensures.caps_moved
    enough moves
