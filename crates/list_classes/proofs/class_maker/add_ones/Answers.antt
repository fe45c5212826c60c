-- All known labels are there.
use Rattle.std.proofs.Common.{arith}
use Rattle.list_classes.proofs.MakingLemmas.{single_all}
use Rattle.list_classes.proofs.class_maker.add_ones.Goals as goal

pub returns-clause-single : goal.returns-clause-single
returns-clause-single c =
    single_all c.args.parts.known.now c.loop-place.place c.loop-place.classes.items (omega (arith, c.loop-place-test.false))
    c.loop-place.invariant.single
