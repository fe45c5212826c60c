-- A refused call changes nothing; else a session is opened.
use Rattle.std.proofs.Common.{◌≡◌, ℕ, rules, arith, length, get_or, Some, Err, ap, refl, sym, ◌∙◌}
use Rattle.trade_base.specs.declared.refusal.Refusal.TheVariants.{ServiceDenied}
use Rattle.own_model.specs.Call.Call.{Open}
use Rattle.own_model.specs.Routes.{label_with}
use Rattle.own_model.specs.SessionArgs.{arguments_of}
use Rattle.pd_core.proofs.CoreRouterLemmas.{denied_wish}
use Rattle.pd_core.proofs.SessionRefusedLemmas.{no_script_goes, unasked_goes, unread_wish, passed_on, unchanged, arguments_are}
use Rattle.pd_core.proofs.ServerLemmas.{serving_as, as_it_is}
use Rattle.pd_core.proofs.SessionWorldLemmas.{host_within, read_role, read_server}
use Rattle.pd_core.proofs.SessionRoutedLemmas.{IsLed, led_two, led_refused, led_admits, led_selector, led_opened}
use Rattle.pd_core.proofs.session_calls.open.Given as given
use Rattle.pd_core.proofs.session_calls.open.Goals.{In-Some, After-caps}
use Rattle.pd_core.proofs.session_calls.open.Goals as goal

pub returns-in_default : goal.returns-in_default
returns-in_default g c =
    no_script_goes (g.R.Router.places c.args.routes.now) c.args.components.now c.index-components-caller.result c.requires.at.core c.requires.at.caller (Open c.args.service.now c.args.text.now) c.refusal.result c.in_default.not-Script c.refusal.ensures

pub returns-in_err-args : goal.returns-in_err-args
returns-in_err-args g c =
    let d = c.index-components-caller.result in
    let places = g.R.Router.places c.args.routes.now in
    passed_on c.in_err-args.field-0.0 c.from_residual.result c.from_residual.ensures.1
    (unasked_goes places c.args.components.now d c.requires.at.core c.requires.at.caller c.in-Script.script c.args.service.now c.args.text.now c.in_err-args.field-0.0 c.in-Script.is
    (unread_wish (get_or c.args.components.now c.args.caller d).name.items (places c.args.caller).routes c.args.service.now c.args.text.now c.in_err-args.ensures.none ∙ ap Err (sym c.in_err-args.ensures.refused)))

pub returns-in_default-provider : goal.returns-in_default-provider
returns-in_default-provider g c =
    let d = c.index-components-caller.result in
    let places = g.R.Router.places c.args.routes.now in
    unasked_goes places c.args.components.now d c.requires.at.core c.requires.at.caller c.in-Script.script c.args.service.now c.args.text.now ServiceDenied c.in-Script.is
    (denied_wish places (g.R.Router.leads c.args.routes.now) c.args.memory.now c.args.components.now c.args.caller c.args.service.now c.label.result.now c.requires.routes c.requires.at.caller
    (get_or c.args.components.now c.args.caller d).name.items c.args.text.now c.in_ok-args.args c.in_ok-args.ensures.value c.label.ensures (sym c.provider.ensures ∙ c.in_default-provider.is))

-- the request is routed to a server, by arguments as they are read
led : (g : given.Over) (c : In-Some g) (ram caps : ℕ) → arguments_of c.args.text.now ≡ Some (record { ram = ram; caps = caps; label = c.label.result.now }) →
    IsLed (g.R.Router.places c.args.routes.now) (g.R.Router.leads c.args.routes.now) c.args.memory.now c.args.components.now c.args.caller c.in-Some.entry c.index-components-caller.result c.in-Script.script c.args.service.now c.args.text.now
    (record { ram = ram; caps = caps; label = c.label.result.now })
led g c ram caps reads = record {
  core = c.requires.at.core;
  here = c.requires.at.caller;
  agrees = c.requires.routes;
  is_script = c.in-Script.is;
  reads = reads;
  led = sym c.provider.ensures ∙ c.in-Some.is;
}

reads_early : (g : given.Over) (c : In-Some g) → arguments_of c.args.text.now ≡ Some (record { ram = c.in_ok-args.args.ram; caps = c.in_ok-args.args.caps; label = c.label.result.now })
reads_early g c = arguments_are c.args.text.now c.in_ok-args.args.ram c.in_ok-args.args.caps c.label.result.now c.in_ok-args.ensures.value refl refl c.label.ensures

pub bounds-components-entry : goal.bounds-components-entry
bounds-components-entry g c =
    let at = goal.at.bounds-components-entry g c in
    let is_led = led g at.In-Some _ _ (reads_early g at.In-Some) in
    host_within c.args.components.now c.in-Some.entry (led_two is_led).serving

pub offset_bounds-components-entry : goal.offset_bounds-components-entry
offset_bounds-components-entry g c =
    let within = bounds-components-entry g c in search rules

-- what is read there is a server
pub unreachable-requires : goal.unreachable-requires
unreachable-requires g c =
    let at = goal.at.unreachable-requires g c in
    let is_led = led g at.In-Some _ _ (reads_early g at.In-Some) in
    read_server c.args.components.now (led_two is_led) (read_role c.args.components.now (led_two is_led) c.index-components-entry.result) c.in_default-role.not-Server

-- and as the server is given them
reads : (g : given.Over) (c : After-caps g) → arguments_of c.args.text.now ≡ Some (record { ram = c.ram.result.0; caps = c.caps.result.0; label = c.label.result.now })
reads g c = arguments_are c.args.text.now c.ram.result.0 c.caps.result.0 c.label.result.now c.in_ok-args.ensures.value c.ram.ensures c.caps.ensures c.label.ensures

pub open-requires : goal.open-requires
open-requires g c =
    let after = goal.at.open-requires g c in
    let is_led = led g after.In-Some _ _ (reads g after.After-caps) in
    record { admits = led_admits is_led c.index-components-entry.result c.in-Server.field-0 c.in-Server.host c.in-Server.is; label = omega (arith, ap length c.deref.ensures.0, c.label_of-label.ensures.len) }

pub returns-in_err-session : goal.returns-in_err-session
returns-in_err-session g c =
    let after = goal.at.returns-in_err-session g c in
    let is_led = led g after.In-Some _ _ (reads g after.After-caps) in
    let refusal = c.in_err-session.field-0.0 in
    let at = get_or c.args.components.now c.in-Some.entry c.index-components-entry.result in
    let key = c.in-Server.field-0 in
    unchanged c.in-Some.entry c.index-components-entry.result c.in_err-session.ensures.memory_err (ap (serving_as at key) c.in_err-session.ensures.err ∙ as_it_is at key c.in-Server.host c.in-Server.is)
    (passed_on refusal c.from_residual-in_err-session.result c.from_residual-in_err-session.ensures.1 (led_refused is_led refusal c.in_err-session.ensures.refusal))

pub keep_session-requires : goal.keep_session-requires
keep_session-requires g c =
    let after = goal.at.keep_session-requires g c in
    let is_led = led g after.In-Some _ _ (reads g after.After-caps) in
    let labelled = c.deref.ensures.0 ∙ c.label_of-label.ensures.label ∙ (λ j. label_with (c.as_slice.ensures.value j) ((c.label-2.ensures ∙ sym c.label.ensures) j)) in
    let done = c.open in
    record {
      room = led_selector is_led c.index-components-entry.result c.in-Server.field-0 c.in-Server.host c.in-Server.is done.new.memory done.new.self done.ensures.stays
          c.in_ok-session.ensures.refusal c.in_ok-session.session c.deref.result.now labelled c.in_ok-session.ensures.opens c.index-components-caller-2.result;
    }

pub returns : goal.returns
returns g c =
    let after = goal.at.returns g c in
    let is_led = led g after.In-Some _ _ (reads g after.After-caps) in
    let labelled = c.deref.ensures.0 ∙ c.label_of-label.ensures.label ∙ (λ j. label_with (c.as_slice.ensures.value j) ((c.label-2.ensures ∙ sym c.label.ensures) j)) in
    let done = c.open in
    let kept = c.keep_session in
    led_opened is_led c.index-components-entry.result c.in-Server.field-0 c.in-Server.host c.in-Server.is done.new.memory done.new.self done.ensures.stays
    c.in_ok-session.ensures.refusal c.in_ok-session.session c.deref.result.now labelled c.in_ok-session.ensures.opens c.index-components-caller-2.result
    kept.result kept.new.self kept.ensures.least kept.ensures.kept
