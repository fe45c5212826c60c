-- A refused call changes nothing; else a session serves.
use Rattle.std.proofs.Common.{rules, get_or, refl, sym, subst, ◌∙◌}
use Rattle.own_model.specs.Call.Call.{CallSession}
use Rattle.pd_core.specs.SessionCalls.{Goes}
use Rattle.pd_core.proofs.ServerLemmas.{serving_as, as_it_is, component_stays}
use Rattle.pd_core.proofs.SessionRefusedLemmas.{call_asks, unnamed_goes}
use Rattle.pd_core.proofs.SessionWorldLemmas.{Names, named_two, host_within, read_role, read_server, read_serves}
use Rattle.pd_core.proofs.SessionServedLemmas.{HasServed, nothing_goes, has_left, is_lent, made_goes, given_named, given_goes}
use Rattle.pd_core.proofs.session_calls.call.Goals.{In-Ok, After-serve}
use Rattle.pd_core.proofs.session_calls.call.Goals as goal

pub returns-in-Err : goal.returns-in-Err
returns-in-Err c = λ places.
    let components = c.args.components.now in
    subst (λ told. Goes places (CallSession c.args.selector c.args.request.now) c.args.caller told c.args.memory.now components c.args.memory.now components) (sym c.write_refusal.ensures)
    (unnamed_goes places components c.index-components-caller.result c.requires.core c.requires.caller (CallSession c.args.selector c.args.request.now) c.args.selector (call_asks c.args.selector c.args.request.now)
    c.in-Err.refusal c.session.ensures.named c.in-Err.is)

-- the session that the selector names
named : (c : In-Ok) → Names c.args.memory.now c.args.components.now c.args.caller c.index-components-caller.result c.args.selector c.in-Ok.named
named c = record { core = c.requires.core; here = c.requires.caller; is = sym c.session.ensures.named ∙ c.in-Ok.is }

pub bounds-components-entry : goal.bounds-components-entry
bounds-components-entry c = host_within c.args.components.now c.in-Ok.named.0 (named_two (named (goal.at.bounds-components-entry c).In-Ok)).serving

pub offset_bounds-components-entry : goal.offset_bounds-components-entry
offset_bounds-components-entry c =
    let within = bounds-components-entry c in search rules

-- what is read there is a server
pub unreachable-requires : goal.unreachable-requires
unreachable-requires c =
    let two = named_two (named (goal.at.unreachable-requires c).In-Ok) in
    read_server c.args.components.now two (read_role c.args.components.now two c.index-components-entry.result) c.in_default.not-Server

pub serve-requires-clause-serves : goal.serve-requires-clause-serves
serve-requires-clause-serves c =
    let names = named (goal.at.serve-requires-clause-serves c).In-Ok in
    let e = c.index-components-entry.result in
    read_serves names (get_or c.args.components.now c.in-Ok.named.0 e) (read_role c.args.components.now (named_two names) e) c.in-Server.is

-- it has served
served : (c : After-serve) →
    let at = get_or c.args.components.now c.in-Ok.named.0 c.index-components-entry.result in
    HasServed c.args.memory.now c.args.components.now c.args.caller c.index-components-caller.result c.args.selector c.in-Ok.named (serving_as at c.in-Server.field-0 c.in-Server.host) c.index-components-entry.result
    c.args.request.now c.serve.result c.serve.new.reply c.serve.new.memory (serving_as at c.in-Server.field-0 c.serve.new.self)
served c =
    let at = get_or c.args.components.now c.in-Ok.named.0 c.index-components-entry.result in
    record {
      named_by = record { core = c.requires.core; here = c.requires.caller; is = sym c.session.ensures.named ∙ c.in-Ok.is };
      read = as_it_is at c.in-Server.field-0 c.in-Server.host c.in-Server.is;
      stays = component_stays at c.in-Server.field-0 c.serve.ensures.stays;
      served_as = c.serve.ensures.serves;
      text = c.serve.ensures.text;
      lines = c.serve.ensures.lines;
    }

pub returns-in-Nothing : goal.returns-in-Nothing
returns-in-Nothing c = nothing_goes (served (goal.at.returns-in-Nothing c).After-serve) c.in-Nothing.is

-- a buffer that it makes comes under a selector
pub keep_buffer-kept-requires : goal.keep_buffer-kept-requires
keep_buffer-kept-requires c =
    record { room = has_left (served (goal.at.keep_buffer-kept-requires c).After-serve) c.index-components-caller-in-Buffer.result c.in-Buffer.space c.in-Buffer.is }

pub add_selector-requires : goal.add_selector-requires
add_selector-requires c = is_lent (served (goal.at.add_selector-requires c).After-serve) c.index-components-caller-in-Buffer.result c.in-Buffer.space c.in-Buffer.is

pub returns-in-Buffer : goal.returns-in-Buffer
returns-in-Buffer c = λ places.
    let kept = c.keep_buffer-kept in
    made_goes (served (goal.at.returns-in-Buffer c).After-serve) c.index-components-caller-in-Buffer.result c.in-Buffer.space c.in-Buffer.is places
    _ refl kept.result kept.new.self kept.ensures.least kept.ensures.kept c.add_selector.new.self c.add_selector.ensures

-- one that it gives back goes, with its regions
pub drop_buffer-requires : goal.drop_buffer-requires
drop_buffer-requires c = record { lent = given_named (served (goal.at.drop_buffer-requires c).After-serve) c.index-components-caller-in-Gone.result c.in-Gone.space c.in-Gone.is }

pub returns-in-Gone : goal.returns-in-Gone
returns-in-Gone c = λ places.
    given_goes (served (goal.at.returns-in-Gone c).After-serve) c.index-components-caller-in-Gone.result c.in-Gone.space c.in-Gone.is places c.drop_buffer.new.self c.drop_buffer.ensures
