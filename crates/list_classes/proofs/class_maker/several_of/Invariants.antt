use Rattle.list_classes.specs.Making.{AreMadeBefore}
use Rattle.list_classes.proofs.class_maker.several_of.Given as goal

abbrev pub invariant-loop-front : goal.invariant-loop-front
invariant-loop-front l = AreMadeBefore l.parts.fronts.now l.parts.ends.now l.parts.known.now l.front 0 l.classes.items
