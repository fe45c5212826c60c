-- A trail that isn't there yet.
use Rattle.std.proofs.Common.{◌∙◌, ap, subst, sym}
use Rattle.list_reach.specs.Deciding.{KeepsDecision, DecisionAt}
use Rattle.list_reach.proofs.TrailLemmas.{keeps_new}
use Rattle.list_reach.proofs.route_decisions.keep.Goals as goal

pub returns : goal.returns
returns c =
    let trail : DecisionAt = record { label = c.copy.result; rules = c.in_ok-rules.rules.items; child = c.child_of-child.result } in
    subst
    (λ trails. KeepsDecision c.args.wishes.list.now c.args.wishes.client c.args.wishes.service.now c.args.label.now c.args.trails.now.items trails)
    (sym c.in_ok-push.ensures.items)
    (keeps_new c.args.wishes.list.now c.args.wishes.client c.args.wishes.service.now c.args.label.now trail c.args.trails.now.items
    c.requires.given c.requires.trails c.copy.ensures c.in_ok-rules.ensures c.child_of-child.ensures)
