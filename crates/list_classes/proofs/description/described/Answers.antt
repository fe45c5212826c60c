-- The parts have exactly the classes inside.
use Rattle.list_classes.proofs.UnionLemmas.{described_by}
use Rattle.list_classes.proofs.description.described.Goals as goal

pub returns : goal.returns
returns c =
    described_by c.args.classes.now c.args.inside.now c.complete.new.parts.items c.as_slice.result.now c.shapes.result c.as_slice.ensures.value
    (c.in_ok-complete.ensures.parts c.in_ok-parts.ensures) c.in_ok-complete.ensures.all c.shapes.ensures
