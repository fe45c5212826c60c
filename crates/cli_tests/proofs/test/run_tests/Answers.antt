-- A threshold that is no percentage, tests that are run, and a search that found none.
use Rattle.std.proofs.Common.{inl, inr}
use Rattle.cli_tests.specs.Outcome.{search_lacks_memory}
use Rattle.cli_tests.proofs.StatusLemmas.{search_ends, tests_end}
use Rattle.cli_tests.proofs.test.run_tests.Goals as goal

pub returns-in-Err : goal.returns-in-Err
returns-in-Err g c = inl (inr (c.in-Err.ensures.err, inl c.in-Err.ensures.refused))

pub returns-in-Ok-tests_at : goal.returns-in-Ok-tests_at
returns-in-Ok-tests_at g c =
    tests_end (g.H.Host.text_at c.args.host.now) c.args.asked.now c.args.settings c.run_selected.result c.in-Ok.threshold
    c.in-Ok-tests_at.tests.items c.as_slice.result.now c.as_slice.ensures.value c.in-Ok-tests_at.ensures.selected c.in-Ok-tests_at.ensures.some
    c.in-Ok.ensures.ok c.run_selected.ensures

pub returns : goal.returns
returns g c =
    search_ends (g.H.Host.text_at c.args.host.now) c.args.asked.now c.args.settings c.report.result
    (search_lacks_memory c.in-Err-tests_at.failure) c.report.ensures c.in-Err-tests_at.ensures.failed
