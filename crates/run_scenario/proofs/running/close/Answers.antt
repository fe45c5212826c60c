-- A complaint that can't be told is the fault of a play that came to its end.
use Rattle.run_scenario.proofs.PlayLemmas.{closes_as}
use Rattle.run_scenario.proofs.running.close.Goals as goal

pub returns-in-None-clause-closes : goal.returns-in-None-clause-closes
returns-in-None-clause-closes g c =
    rw (c.in-None.is, c.err.ensures.value, c.count.ensures.result) (closes_as c.report_left_over.result (g.E.Sink.has_failed c.args.complaints.now) _ c.report_left_over.ensures.failing)
