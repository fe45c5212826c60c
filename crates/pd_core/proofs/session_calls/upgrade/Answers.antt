-- A refused call changes nothing; else limits come to a session.
use Rattle.std.proofs.Common.{◌≡◌, rules, get_or, Some, refl, sym, ap, subst, ◌∙◌}
use Rattle.std.specs.Prelude.{IsErrAnd}
use Rattle.trade_base.specs.declared.refusal.Refusal.TheVariants.{BadArgs}
use Rattle.own_model.specs.Call.Call.{Upgrade}
use Rattle.own_model.specs.SessionArgs.{arguments_of}
use Rattle.pd_core.proofs.ServerLemmas.{serving_as, as_it_is, component_stays}
use Rattle.pd_core.proofs.SessionRefusedLemmas.{upgrade_asks, unnamed_goes, passed_on, unchanged, arguments_are}
use Rattle.pd_core.proofs.SessionWorldLemmas.{Names, named_two, named_cap, host_within, read_role, read_server, read_serves, unread_goes, short_goes, upgrade_goes}
use Rattle.pd_core.proofs.session_calls.upgrade.Goals.{In_ok-entry, After-caps}
use Rattle.pd_core.proofs.session_calls.upgrade.Goals as goal

pub returns-in_err-entry : goal.returns-in_err-entry
returns-in_err-entry c = λ places.
    passed_on c.in_err-entry.field-0.0 c.from_residual.result c.from_residual.ensures.1
    (unnamed_goes places c.args.components.now c.index-components-caller.result c.requires.core c.requires.caller (Upgrade c.args.selector c.args.text.now) c.args.selector (upgrade_asks c.args.selector c.args.text.now)
    c.in_err-entry.field-0.0 c.session.ensures.named c.in_err-entry.was)

-- the session that the selector names
named : (c : In_ok-entry) → Names c.args.memory.now c.args.components.now c.args.caller c.index-components-caller.result c.args.selector (c.in_ok-entry.entry, c.in_ok-entry.session)
named c = record { core = c.requires.core; here = c.requires.caller; is = sym c.session.ensures.named ∙ c.in_ok-entry.was }

pub returns-in_err-more : goal.returns-in_err-more
returns-in_err-more c = λ places.
    let names = named (goal.at.returns-in_err-more c).In_ok-entry in
    let d = c.index-components-caller.result in
    passed_on BadArgs c.from_residual-in_err-more.result (subst (λ e. IsErrAnd c.from_residual-in_err-more.result (λ y. y ≡ e)) c.in_err-more.ensures.refused c.from_residual-in_err-more.ensures.1)
    (unread_goes c.args.components.now (named_two names) d (get_or c.args.components.now c.in_ok-entry.entry d) (read_role c.args.components.now (named_two names) d) c.args.selector c.in_ok-entry.session (named_cap names) places c.args.text.now c.in_err-more.ensures.none)

pub bounds-components-entry : goal.bounds-components-entry
bounds-components-entry c = host_within c.args.components.now c.in_ok-entry.entry (named_two (named (goal.at.bounds-components-entry c).In_ok-entry)).serving

pub offset_bounds-components-entry : goal.offset_bounds-components-entry
offset_bounds-components-entry c =
    let within = bounds-components-entry c in search rules

-- what is read there is a server
pub unreachable-requires : goal.unreachable-requires
unreachable-requires c =
    let two = named_two (named (goal.at.unreachable-requires c).In_ok-entry) in
    read_server c.args.components.now two (read_role c.args.components.now two c.index-components-entry.result) c.in_default.not-Server

pub raise-requires : goal.raise-requires
raise-requires c =
    let names = named (goal.at.raise-requires c).In_ok-entry in
    let e = c.index-components-entry.result in
    read_serves names (get_or c.args.components.now c.in_ok-entry.entry e) (read_role c.args.components.now (named_two names) e) c.in-Server.is

-- the server takes the amounts that are read
reads : (c : After-caps) → arguments_of c.args.text.now ≡ Some (record { ram = c.ram.result.0; caps = c.caps.result.0; label = c.in_ok-more.more.label })
reads c = arguments_are c.args.text.now c.ram.result.0 c.caps.result.0 c.in_ok-more.more.label c.in_ok-more.ensures.value c.ram.ensures c.caps.ensures refl

pub returns-in_err-raise : goal.returns-in_err-raise
returns-in_err-raise c = λ places.
    let at = goal.at.returns-in_err-raise c in
    let two = named_two (named at.In_ok-entry) in
    let host = get_or c.args.components.now c.in_ok-entry.entry c.index-components-entry.result in
    unchanged c.in_ok-entry.entry c.index-components-entry.result c.in_err-raise.ensures.memory_err (ap (serving_as host c.in-Server.field-0) c.raise.ensures.same ∙ as_it_is host c.in-Server.field-0 c.in-Server.host c.in-Server.is)
    (passed_on c.in_err-raise.field-0.0 c.from_residual-in_err-raise.result c.from_residual-in_err-raise.ensures.1
    (short_goes c.args.components.now two c.index-components-caller.result (serving_as host c.in-Server.field-0 c.in-Server.host) (read_role c.args.components.now two c.index-components-entry.result ∙ c.in-Server.is) c.args.selector c.in_ok-entry.session (named_cap (named at.In_ok-entry))
    places c.args.text.now c.in_err-raise.field-0.0 (reads at.After-caps) c.in_err-raise.ensures.refusal))

pub returns : goal.returns
returns c = λ places.
    let at = goal.at.returns c in
    let two = named_two (named at.In_ok-entry) in
    let host = get_or c.args.components.now c.in_ok-entry.entry c.index-components-entry.result in
    let stays = component_stays host c.in-Server.field-0 c.raise.ensures.stays in
    upgrade_goes c.args.components.now two c.index-components-caller.result (serving_as host c.in-Server.field-0 c.in-Server.host) (read_role c.args.components.now two c.index-components-entry.result ∙ c.in-Server.is) c.args.selector c.in_ok-entry.session (named_cap (named at.In_ok-entry))
    c.raise.new.memory (serving_as host c.in-Server.field-0 c.raise.new.self) stays places c.index-components-entry.result (as_it_is host c.in-Server.field-0 c.in-Server.host c.in-Server.is) c.args.text.now (reads at.After-caps)
    c.in_ok-raise.ensures.refusal c.in_ok-raise.ensures.raises c.in_ok-raise.ensures.sessions
