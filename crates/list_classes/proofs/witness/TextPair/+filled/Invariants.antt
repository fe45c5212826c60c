-- No byte so far leads to a label.
use Rattle.std.proofs.Common.{◌≡◌, ◌+◌, ◌*◌, true, length}
use Rattle.list_classes.specs.Witnesses.{AreShorter, HasNone, head_with, tail_with}
use Rattle.list_classes.proofs.WitnessLemmas.{WithEach}
use Rattle.list_classes.proofs.witness.TextPair.+filled.Given as goal

abbrev pub decreases-filled : goal.decreases-filled
decreases-filled l = l.between * 3

abbrev pub decreases-filled_with : goal.decreases-filled_with
decreases-filled_with l = l.rest * 3 + 2

abbrev pub decreases-filled_after : goal.decreases-filled_after
decreases-filled_after l = l.rest * 3 + 1

abbrev pub decreases-filled_before : goal.decreases-filled_before
decreases-filled_before l = l.rest * 3 + 1

abbrev pub invariant-filled-loop-place : goal.invariant-filled-loop-place
invariant-filled-loop-place l = record {
  none : WithEach
      (λ byte. HasNone l.self (head_with l.side byte l.head) (tail_with l.side byte l.tail) (length l.head + (l.between + length l.tail))) l.place;
  closed : l.is_closed ≡ true → WithEach
      (λ byte. AreShorter l.self (head_with l.side byte l.head) (tail_with l.side byte l.tail) (length l.head + (l.between + length l.tail))) l.place;
}
