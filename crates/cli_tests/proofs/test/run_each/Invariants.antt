-- Each test that was run has its result.
use Rattle.std.proofs.Common.{take}
use Rattle.cli_tests.specs.Outcome.{AreResults}
use Rattle.cli_tests.proofs.test.run_each.Given as goal

abbrev pub invariant-loop-place : goal.invariant-loop-place
invariant-loop-place g l = AreResults (g.H.Host.text_at l.host) l.conditions.asked.now l.conditions.settings (take l.place l.tests) l.trials.items
