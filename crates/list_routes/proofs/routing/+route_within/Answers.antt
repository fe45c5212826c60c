-- Each case by what the first list decides.
use Rattle.std.proofs.Common.{arith}
use Rattle.std.specs.List.{slice_get}
use Rattle.std.proofs.lemmas.Grind.{common_steps}
use Rattle.list_routes.proofs.RouteLemmas.{leads_inside, leads_nowhere, leads_outward, name_there}
use Rattle.list_routes.proofs.routing.+route_within.Goals as goal

pub returns-in-Inside : goal.returns-in-Inside
returns-in-Inside t c =
    leads_inside c.args.list.now c.args.lists c.args.service.now c.args.label.now c.home-home.result c.rules_for.result.now (omega arith)
    (slice_get c.args.list.now.entries c.args.client) c.in-Inside.child c.home-home.ensures.value c.rules_for.ensures (grind (arith, common_steps))

pub returns-then-home-eq0 : goal.returns-then-home-eq0
returns-then-home-eq0 t c =
    leads_nowhere c.args.list.now c.args.lists c.args.service.now c.args.label.now c.home-home.result c.rules_for.result.now (omega arith)
    (slice_get c.args.list.now.entries c.args.client) c.home-home.ensures.value c.rules_for.ensures (grind (arith, common_steps)) c.if-home-eq0.true

pub returns-else-home-eq0 : goal.returns-else-home-eq0
returns-else-home-eq0 t c =
    leads_outward c.args.list.now c.args.lists c.args.service.now c.args.label.now c.home-home.result c.rules_for.result.now (omega arith)
    (slice_get c.args.list.now.entries c.args.client) c.name.result.now c.as_slice.result.now c.route_within.result c.home-home.ensures.value c.rules_for.ensures
    (name_there c.args.list.now.entries c.args.client c.index-entries-client.result c.name.result.now c.requires.client (rw c.entries.ensures at c.index-entries-client.is) c.name.ensures.name)
    (grind (arith, common_steps)) (omega arith) (grind (arith, common_steps)) c.route_within.ensures
