-- The status is that of the results, or of a write that failed.
use Rattle.std.proofs.Common.{inl}
use Rattle.cli_tests.proofs.StatusLemmas.{failed_write, results_end}
use Rattle.cli_tests.proofs.test.run_selected.Goals as goal

pub returns-in-Ok : goal.returns-in-Ok
returns-in-Ok g c =
    results_end (g.H.Host.text_at c.args.host.now) c.args.options.asked.now c.args.options.settings c.end.result c.args.options.threshold
    c.args.tests.now c.in-Ok.outcome c.in-Ok.ensures.each c.in-Ok.ensures.short c.end.ensures.written

pub returns-in-Err : goal.returns-in-Err
returns-in-Err g c = inl (inl (failed_write _ _ c.status_of.ensures.written.0 c.status_of.ensures.written.1 c.status_of.ensures.ends))
