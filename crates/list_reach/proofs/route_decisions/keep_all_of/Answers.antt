-- All places are seen.
use Rattle.std.proofs.Common.{◌≡◌, length, arith, subst}
use Rattle.list_reach.specs.DecisionOrder.{AreSeen}
use Rattle.list_reach.proofs.TrailLemmas.{seen_longer}
use Rattle.list_reach.proofs.route_decisions.keep_all_of.Goals as goal

pub returns : goal.returns
returns c =
    let end : c.loop-place.place ≡ length c.args.classes.now = omega arith in
    seen_longer c.args.wishes.list.now c.args.wishes.client c.args.wishes.service.now c.args.classes.now c.args.size c.loop-place.trails.items
    (subst
    (λ n. AreSeen c.args.wishes.list.now c.args.wishes.client c.args.wishes.service.now c.args.classes.now c.args.size n c.loop-place.trails.items)
    end c.loop-place.invariant)
