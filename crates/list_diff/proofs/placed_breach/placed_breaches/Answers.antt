-- One line more.
use Rattle.list_diff.specs.PlacedBreaches.{places}
use Rattle.list_diff.proofs.BreachLemmas.{next_placed}
use Rattle.list_diff.proofs.placed_breach.placed_breaches.Goals as goal

pub loop-place-preserved : goal.loop-place-preserved
loop-place-preserved c =
    next_placed c.args.list.now c.args.lines.now c.loop-place.place c.index-lines-place.result (places c.loop-place.found.items) (places c.add_breaches.new.found.items)
    c.loop-place.invariant c.loop-place-test.true c.index-lines-place.is c.in_ok-add_breaches.ensures
