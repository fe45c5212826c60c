use Rattle.list_classes.specs.Making.{AreMadeBefore}
use Rattle.list_classes.proofs.class_maker.add_row.Given as goal

abbrev pub invariant-loop-end : goal.invariant-loop-end
invariant-loop-end l = AreMadeBefore l.parts.fronts.now l.parts.ends.now l.parts.known.now l.front l.end l.classes.items
