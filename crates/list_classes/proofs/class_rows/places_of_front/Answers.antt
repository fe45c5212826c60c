-- All classes have been asked.
use Rattle.std.proofs.Common.{arith}
use Rattle.list_classes.proofs.RowLemmas.{fronts_all}
use Rattle.list_classes.proofs.class_rows.places_of_front.Goals as goal

pub returns : goal.returns
returns c =
    fronts_all c.args.classes.now c.args.front c.loop-place.place c.loop-place.places.items (omega (arith, c.loop-place-test.false))
    c.loop-place.invariant
