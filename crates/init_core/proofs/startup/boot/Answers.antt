-- Before the first entry nothing has started, and after the last it is the list's machine.
use Rattle.std.proofs.Common.{◌≡◌, ◌∷◌, ◌++◌, [], List, length, sym, ◌∙◌, ap, subst, arith}
use Rattle.trade_base.specs.declared.id.AccountId.{AccountId}
use Rattle.own_model.specs.Listed.{start_list_of}
use Rattle.own_model.specs.World.{IsBalancedFor}
use Rattle.own_model.proofs.StartLemmas.{start_balanced_for}
use Rattle.pd_core.specs.Fresh.{started_world}
use Rattle.pd_core.specs.SessionCalls.{Agrees}
use Rattle.init_core.specs.Rows.{RouteRow, server_by_rows, places_in}
use Rattle.pd_core.specs.Core.{Places}
use Rattle.init_core.proofs.RowLemmas.{places_listed}
use Rattle.init_core.proofs.BootedLemmas.{nothing_yet, boots, booted, agrees, all_fresh}
use Rattle.init_core.proofs.startup.boot.Goals as goal

pub loop-place-init : goal.loop-place-init
loop-place-init c =
    let first = c.in_ok-push.ensures.items ∙ ap (λ (keys : List AccountId). keys ++ c.root.result ∷ []) c.new-accounts.ensures.items in
    nothing_yet c.root.result c.pages.result c.caps.result _ c.pages.ensures.value c.caps.ensures.value c.in_ok-memory.ensures.fresh
    (omega (arith, c.in_ok-memory.ensures.places, c.count.ensures.value, c.sessions_of.ensures.half)) c.new-components.ensures.items c.root.ensures.key first

pub start-requires-clause-so_far : goal.start-requires-clause-so_far
start-requires-clause-so_far c = c.loop-place.invariant

pub loop-place-preserved : goal.loop-place-preserved
loop-place-preserved c = c.in_ok-start.ensures.started

pub from_parts-requires-clause-fresh : goal.from_parts-requires-clause-fresh
from_parts-requires-clause-fresh c =
    let all : c.loop-place.place ≡ length c.args.list.now.entries = omega (arith, c.loop-place.auto.place-end, c.loop-place-test.false, c.count-place-end.ensures.value) in
    all_fresh c.loop-place.invariant all

pub from_parts-requires-clause-leads : goal.from_parts-requires-clause-leads
from_parts-requires-clause-leads c =
    let all : c.loop-place.place ≡ length c.args.list.now.entries = omega (arith, c.loop-place.auto.place-end, c.loop-place-test.false, c.count-place-end.ensures.value) in
    subst (λ (rows : List RouteRow). Agrees (places_in rows) (server_by_rows rows) c.loop-place.memory c.loop-place.components.items) (sym c.in_ok-routes.ensures) (agrees c.loop-place.invariant all)

pub returns-clause-started : goal.returns-clause-started
returns-clause-started c =
    let all : c.loop-place.place ≡ length c.args.list.now.entries = omega (arith, c.loop-place.auto.place-end, c.loop-place-test.false, c.count-place-end.ensures.value) in
    c.from_parts.ensures.started ∙ ap (λ (rows : List RouteRow). started_world (places_in rows) c.loop-place.memory c.loop-place.components.items) c.in_ok-routes.ensures
    ∙ ap (λ (places : Places). started_world places c.loop-place.memory c.loop-place.components.items) (places_listed c.args.list.now) ∙ booted c.loop-place.invariant all

pub returns-clause-covered : goal.returns-clause-covered
returns-clause-covered c =
    let all : c.loop-place.place ≡ length c.args.list.now.entries = omega (arith, c.loop-place.auto.place-end, c.loop-place-test.false, c.count-place-end.ensures.value) in
    boots c.loop-place.invariant all

pub returns-clause-balanced : goal.returns-clause-balanced
returns-clause-balanced c =
    let list = start_list_of c.args.list.now in
    subst (IsBalancedFor list) (sym (returns-clause-started c)) (start_balanced_for list (returns-clause-covered c))
