-- Those found so far are exceptions among the classes so far.
use Rattle.std.proofs.Common.{take}
use Rattle.list_classes.specs.Parts.{AreExceptions, AreMarks}
use Rattle.list_classes.proofs.description.ClassSet.exceptions.Given as goal

abbrev pub invariant-loop-place : goal.invariant-loop-place
invariant-loop-place l = record {
  found : AreExceptions l.self.classes.now l.self.inside.now (take l.place-index l.within) l.found.items;
  marks : AreMarks l.self.classes.now l.found.items l.marks.items;
}
