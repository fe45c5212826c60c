-- The findings that are left so far, and those of the others; then the expectations that are left.
use Rattle.std.proofs.Common.{◌≡◌, ◌++◌, length, map}
use Rattle.std.specs.Vec.Iter.{into_iter_items, into_iter_len}
use Rattle.list_findings.specs.Expectations.{judged, unmet}
use Rattle.list_findings.proofs.expectations.judge.Given as goal

abbrev pub invariant-loop-finding : goal.invariant-loop-finding
invariant-loop-finding l = record {
  all : l.left.items ++ judged l.expected.items (into_iter_items l.finding-iterator) ≡ judged l.fn.expected.items l.fn.found.items;
  exact : into_iter_len l.finding-iterator ≡ length (into_iter_items l.finding-iterator);
}

abbrev pub invariant-loop-expectation : goal.invariant-loop-expectation
invariant-loop-expectation l = record {
  all : l.left.items ++ map unmet (into_iter_items l.expectation-iterator) ≡ judged l.fn.expected.items l.fn.found.items;
  exact : into_iter_len l.expectation-iterator ≡ length (into_iter_items l.expectation-iterator);
}
