-- The paths of the tests so far.
use Rattle.std.proofs.Common.{◌≡◌, ◌++◌, List, map, take, ℕ}
use Rattle.std.specs.Borrow.{Bor}
use Rattle.cli_tests.specs.Outcome.{given_paths}
use Rattle.cli_tests.specs.Plan.{path_of}
use Rattle.cli_tests.proofs.test.paths_of.Given as goal

abbrev pub invariant-loop-test : goal.invariant-loop-test
invariant-loop-test l =
    map (λ (path : Bor (List ℕ)). path.now) l.paths.items ≡ given_paths l.machine ++ map path_of (take l.test-index l.tests)
