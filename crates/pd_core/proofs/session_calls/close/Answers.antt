-- A refused call changes nothing; else a session goes.
use Rattle.std.proofs.Common.{rules, get_or, set, length-set, refl, sym, ◌∙◌, arith}
use Rattle.own_model.specs.Call.Call.{Close}
use Rattle.server_frame.proofs.RowLaws.{closes_at}
use Rattle.pd_core.proofs.SessionRefusedLemmas.{close_asks, unnamed_goes, passed_on, unchanged}
use Rattle.pd_core.proofs.SessionWorldLemmas.{Names, named_two, host_within, host_read, read_server, read_serves}
use Rattle.pd_core.proofs.SessionClosedLemmas.{HasClosed, closed_goes, lent_named, ended_goes}
use Rattle.pd_core.proofs.ServerLemmas.{serving_as, as_it_is, component_stays}
use Rattle.pd_core.proofs.session_calls.close.Goals.{In_ok-entry, After-close}
use Rattle.pd_core.proofs.session_calls.close.Goals as goal

pub returns-in_err-entry : goal.returns-in_err-entry
returns-in_err-entry c = λ places.
    let refusal = c.in_err-entry.field-0.0 in
    unchanged c.args.caller c.index-components-caller.result refl c.in_err-entry.ensures.err (passed_on refusal c.from_residual.result c.from_residual.ensures.1
    (unnamed_goes places c.args.components.now c.index-components-caller.result c.requires.core c.requires.caller (Close c.args.selector) c.args.selector (close_asks c.args.selector) refusal c.take_session.ensures.named c.in_err-entry.was))

-- the session that the selector names
named : (c : In_ok-entry) → Names c.args.memory.now c.args.components.now c.args.caller c.index-components-caller.result c.args.selector (c.in_ok-entry.entry, c.in_ok-entry.session)
named c = record { core = c.requires.core; here = c.requires.caller; is = sym c.take_session.ensures.named ∙ c.in_ok-entry.was }

pub bounds-components-entry : goal.bounds-components-entry
bounds-components-entry c =
    let within = host_within c.args.components.now c.in_ok-entry.entry (named_two (named (goal.at.bounds-components-entry c).In_ok-entry)).serving in
    omega (arith, within, length-set c.args.components.now c.args.caller c.take_session.new.self)

pub offset_bounds-components-entry : goal.offset_bounds-components-entry
offset_bounds-components-entry c =
    let within = bounds-components-entry c in search rules

-- what is read there is a server
pub unreachable-requires : goal.unreachable-requires
unreachable-requires c =
    let two = named_two (named (goal.at.unreachable-requires c).In_ok-entry) in
    read_server c.args.components.now two (host_read c.args.components.now two c.take_session.new.self c.index-components-entry.result) c.in_default.not-Server

pub close-requires : goal.close-requires
close-requires c =
    let names = named (goal.at.close-requires c).In_ok-entry in
    let e = c.index-components-entry.result in
    let client = c.take_session.new.self in
    read_serves names (get_or (set c.args.components.now c.args.caller client) c.in_ok-entry.entry e) (host_read c.args.components.now (named_two names) client e) c.in-Server.is

pub buffer-lent-requires : goal.buffer-lent-requires
buffer-lent-requires c =
    let names = named (goal.at.buffer-lent-requires c).In_ok-entry in
    let e = c.index-components-entry.result in
    let client = c.take_session.new.self in
    (read_serves names (get_or (set c.args.components.now c.args.caller client) c.in_ok-entry.entry e) (host_read c.args.components.now (named_two names) client e) c.in-Server.is).session

-- it is closed
closed : (c : After-close) →
    let at = get_or (set c.args.components.now c.args.caller c.take_session.new.self) c.in_ok-entry.entry c.index-components-entry.result in
    HasClosed c.args.memory.now c.args.components.now c.args.caller c.index-components-caller.result c.args.selector (c.in_ok-entry.entry, c.in_ok-entry.session) c.take_session.new.self
    (serving_as at c.in-Server.field-0 c.in-Server.host) c.index-components-entry.result c.buffer-lent.result c.close.new.memory (serving_as at c.in-Server.field-0 c.close.new.self)
closed c =
    let at = get_or (set c.args.components.now c.args.caller c.take_session.new.self) c.in_ok-entry.entry c.index-components-entry.result in
    record {
      named_by = record { core = c.requires.core; here = c.requires.caller; is = sym c.take_session.ensures.named ∙ c.in_ok-entry.was };
      client_is = c.in_ok-entry.ensures.gone;
      read = as_it_is at c.in-Server.field-0 c.in-Server.host c.in-Server.is;
      tells = c.buffer-lent.ensures;
      stays = component_stays at c.in-Server.field-0 c.close.ensures.stays;
      closes_as = closes_at c.close.ensures.closes;
      written = c.close.ensures.closes.sessions;
    }

pub returns-in_default-lent : goal.returns-in_default-lent
returns-in_default-lent c = closed_goes (closed (goal.at.returns-in_default-lent c).After-close) c.in_default-lent.is

-- its buffer goes after it
pub drop_buffer-requires : goal.drop_buffer-requires
drop_buffer-requires c = record { lent = lent_named (closed (goal.at.drop_buffer-requires c).After-close) c.in-Some.space c.in-Some.is c.index-components-caller-in-Some.result }

pub returns-in-Some : goal.returns-in-Some
returns-in-Some c = λ places.
    ended_goes (closed (goal.at.returns-in-Some c).After-close) c.in-Some.space c.in-Some.is c.index-components-caller-in-Some.result places c.drop_buffer.new.self c.drop_buffer.ensures
