use Rattle.std.proofs.Common.{◌≡◌, ◌++◌, drop, flat_map}
use Rattle.view_test_report.specs.Junit.{junit_case}
use Rattle.view_test_report.proofs.junit.add_cases.Given as goal

abbrev pub invariant-loop-trial : goal.invariant-loop-trial
invariant-loop-trial l = l.text.items ++ flat_map junit_case (drop l.trial-index l.trials) ≡ l.initial.text.items ++ flat_map junit_case l.trials
