-- The rows after the header.
use Rattle.std.proofs.Common.{rules}
use Rattle.view_runs.proofs.ViewLemmas.{trace_played}
use Rattle.run_scenario.proofs.WriteLemmas.{reported_at}
use Rattle.view_runs.proofs.tracing.trace_on.Goals as goal

pub returns-clause-played : goal.returns-clause-played
returns-clause-played g c = λ works.
    reported_at
    (trace_played g.F.RowFormat.front g.F.RowFormat.row_text g.F.RowFormat.takes c.play.result c.header-header.ensures (rw c.requires.all at (c.play.ensures.plays works))) (search rules)
