use Rattle.std.proofs.Common.{◌≡◌, ◌++◌, drop}
use Rattle.std.specs.Prelude.{map}
use Rattle.list_labels.specs.LabelRanges.{AskedLabel}
use Rattle.list_classes.proofs.asked_texts.add_conditions.Given as goal

abbrev pub invariant-loop-one : goal.invariant-loop-one
invariant-loop-one l = record {
  fronts :
      l.fronts.items ++ map (λ (asked : AskedLabel). asked.front) (drop l.one-index l.asked)
      ≡ l.initial.fronts.items ++ map (λ (asked : AskedLabel). asked.front) l.asked;
  ends :
      l.ends.items ++ map (λ (asked : AskedLabel). asked.end) (drop l.one-index l.asked)
      ≡ l.initial.ends.items ++ map (λ (asked : AskedLabel). asked.end) l.asked;
}
