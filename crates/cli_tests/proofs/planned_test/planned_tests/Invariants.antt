-- The tests of the files so far, and those of the files that are left.
use Rattle.std.proofs.Common.{◌≡◌, [], length, List}
use Rattle.std.specs.Vec.Iter.{into_iter_items, into_iter_len}
use Rattle.cli_tests.specs.Plan.{AreAdded}
use Rattle.cli_tests.specs.declared.planned_test.PlannedTest.{PlannedTest}
use Rattle.cli_tests.proofs.planned_test.planned_tests.Given as goal

abbrev pub invariant-loop-file : goal.invariant-loop-file
invariant-loop-file g l = record {
  added : (tests : List PlannedTest) → AreAdded (g.H.Host.text_at l.host) l.asked l.tests.items (into_iter_items l.file-iterator) tests
      → AreAdded (g.H.Host.text_at l.host) l.asked [] l.fn.files.items tests;
  long : into_iter_len l.file-iterator ≡ length (into_iter_items l.file-iterator);
}
