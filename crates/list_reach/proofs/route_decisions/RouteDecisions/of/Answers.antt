-- No witness is seen at first, and all are in the end.
use Rattle.std.proofs.Common.{◌≡◌, ◌+◌, List, arith, subst, sym}
use Rattle.list_classes.specs.declared.label_class.LabelClass.{LabelClass}
use Rattle.list_reach.specs.DecisionOrder.{AreSeen}
use Rattle.list_reach.proofs.TrailLemmas.{seen_none, trails_of}
use Rattle.list_reach.proofs.route_decisions.RouteDecisions.of.Goals as goal

pub loop-size-init : goal.loop-size-init
loop-size-init c =
    seen_none c.args.wishes.list.now c.args.wishes.client c.args.wishes.service.now c.in_ok-classes.classes.classes.items c.new-trails.result.items
    c.new-trails.ensures.items

pub keep_all_of-requires-clause-seen : goal.keep_all_of-requires-clause-seen
keep_all_of-requires-clause-seen c =
    subst
    (λ (cs : List LabelClass). AreSeen c.args.wishes.list.now c.args.wishes.client c.args.wishes.service.now cs c.loop-size.size 0 c.loop-size.trails.items)
    (sym c.as_slice.ensures) c.loop-size.invariant

pub loop-size-preserved : goal.loop-size-preserved
loop-size-preserved c =
    subst
    (λ (cs : List LabelClass). AreSeen c.args.wishes.list.now c.args.wishes.client c.args.wishes.service.now cs (c.loop-size.size + 1) 0 c.keep_all_of.new.trails.items)
    c.as_slice.ensures c.in_ok-keep_all_of.ensures

pub returns : goal.returns
returns c =
    let end : c.loop-size.size ≡ 65 = omega arith in
    trails_of c.args.wishes c.in_ok-classes.classes c.loop-size.trails.items c.in_ok-classes.ensures.whole c.in_ok-classes.ensures.one
    (subst
    (λ n. AreSeen c.args.wishes.list.now c.args.wishes.client c.args.wishes.service.now c.in_ok-classes.classes.classes.items n 0 c.loop-size.trails.items)
    end c.loop-size.invariant)
