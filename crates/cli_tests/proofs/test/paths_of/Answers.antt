-- The paths of no test, of one test more, and of all tests.
use Rattle.std.proofs.Common.{◌∙◌, [], ◌++◌, List, ap, append-nil, map, sym}
use Rattle.std.proofs.lemmas.List.{take_all}
use Rattle.cli_tests.specs.Outcome.{given_paths}
use Rattle.cli_tests.specs.Plan.{path_of}
use Rattle.cli_tests.specs.declared.planned_test.PlannedTest.{PlannedTest}
use Rattle.cli_tests.proofs.PlanLemmas.{path_more}
use Rattle.cli_tests.proofs.test.paths_of.Goals as goal

pub loop-test-init : goal.loop-test-init
loop-test-init c = c.in_ok-paths.ensures ∙ sym (append-nil (given_paths c.args.machine))

pub loop-test-preserved : goal.loop-test-preserved
loop-test-preserved c =
    path_more c.args.machine c.args.tests.now c.loop-test.test-index c.test-item.result c.loop-test.paths.items
    c.push.new.self.items c.path.result c.loop-test-test.true c.in_ok-push.ensures.items (c.path.ensures ∙ ap path_of c.test-item.is)
    c.loop-test.invariant

pub returns : goal.returns
returns c =
    c.loop-test.invariant
    ∙ ap (λ (tests : List PlannedTest). given_paths c.args.machine ++ map path_of tests)
    (take_all c.loop-test.test-index c.args.tests.now c.loop-test-test.false)
