-- The times so far are added up.
use Rattle.std.proofs.Common.{◌≡◌, min, take}
use Rattle.std.specs.List.{sum_by}
use Rattle.view_test_report.proofs.test_result.total_milliseconds.Given as goal

abbrev pub invariant-loop-trial : goal.invariant-loop-trial
invariant-loop-trial l = l.total ≡ min (sum_by (λ trial. trial.milliseconds) (take l.trial-index l.trials)) 18446744073709551615
