-- Each one so far is a part.
use Rattle.std.specs.Prelude.{All}
use Rattle.list_classes.specs.Parts.{IsPart}
use Rattle.list_classes.proofs.description.ClassSet.search.Given as goal

abbrev pub invariant-loop-place : goal.invariant-loop-place
invariant-loop-place l = All (IsPart l.self.classes.now l.self.inside.now) l.parts.items

abbrev pub invariant-loop-place-2 : goal.invariant-loop-place-2
invariant-loop-place-2 l = All (IsPart l.self.classes.now l.self.inside.now) l.parts.items
