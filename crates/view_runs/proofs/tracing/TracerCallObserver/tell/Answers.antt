-- The row that is written is the row of the call.
use Rattle.std.proofs.Common.{ap, subst}
use Rattle.run_devices.specs.RunOutput.{OutputsUnless}
use Rattle.view_runs.proofs.tracing.TracerCallObserver.tell.Goals as goal

pub returns-clause-told : goal.returns-clause-told
returns-clause-told g c = λ start earlier sees answered.
    subst (OutputsUnless c.put_row.result (g.K.Sink.contents c.args.writer.now) c.args.gathered.now (g.K.Sink.contents c.put_row.new.writer) c.put_row.new.gathered)
    (ap g.F.RowFormat.row_text (c.row_of-row.ensures start earlier answered)) c.put_row.ensures.told
