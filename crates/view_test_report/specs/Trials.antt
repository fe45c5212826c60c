-- Tests that were run.
use Rattle.std.specs.Prelude.{ℕ, List, filter, min, not}
use Rattle.std.specs.List.{sum_by}
use Rattle.view_test_report.specs.declared.test_result.TimedResult.{TimedResult}

-- the trials that failed
abbrev pub failed_among : List TimedResult → List TimedResult
failed_among trials = filter (λ trial. not trial.result.passed) trials

-- the sum of their times, at most the largest number of 64 bits
abbrev pub total_milliseconds : List TimedResult → ℕ
total_milliseconds trials = min (sum_by (λ trial. trial.milliseconds) trials) 18446744073709551615
