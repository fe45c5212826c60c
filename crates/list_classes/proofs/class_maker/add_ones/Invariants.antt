use Rattle.std.proofs.Common.{◌≡◌, ℕ, true}
use Rattle.list_classes.specs.Making.{AreMade, has_several}
use Rattle.list_classes.proofs.MakingLemmas.{SingleTo}
use Rattle.list_classes.proofs.class_maker.add_ones.Given as goal

abbrev pub invariant-loop-place : goal.invariant-loop-place
invariant-loop-place l = record {
  made : AreMade l.parts.fronts.now l.parts.ends.now l.parts.known.now l.classes.items;
  several : (front end : ℕ) → has_several l.initial.classes.items front end ≡ true → has_several l.classes.items front end ≡ true;
  single : SingleTo l.parts.known.now l.place l.classes.items;
}
