-- The row is written as it is defined.
use Rattle.std.proofs.Common.{subst, ◌∙◌}
use Rattle.run_devices.specs.RunOutput.{Tells}
use Rattle.run_devices.proofs.GatheredLemmas.{told_err}
use Rattle.run_scenario.proofs.FailLemmas.{unwritten}
use Rattle.view_runs.specs.Rows.{row_view}
use Rattle.view_runs.proofs.RowLemmas.{row_written}
use Rattle.view_runs.proofs.csv_rows.CsvRowsRowFormat.put_row.Goals as goal

pub returns-in_err-put_cells-clause-told : goal.returns-in_err-put_cells-clause-told
returns-in_err-put_cells-clause-told g c =
    told_err _ _ _ c.from_residual.ensures.1 (
      c.in_err-put_cells.ensures.told.0,
      subst (Tells (g.K.Sink.contents c.args.writer.now) c.args.gathered.now (g.K.Sink.contents c.put_cells.new.writer) c.in_err-put_cells.ensures.told.0)
          (row_written (row_view c.args.row.now) _ c.put_cells.ensures.fits (c.as_slice.ensures.value ∙ c.figures_of-figures.ensures)) c.in_err-put_cells.ensures.told.1,
    )

pub returns-clause-told : goal.returns-clause-told
returns-clause-told g c =
    subst (Tells (g.K.Sink.contents c.args.writer.now) c.args.gathered.now (g.K.Sink.contents c.put_cells.new.writer) c.put_cells.new.gathered)
    (row_written (row_view c.args.row.now) _ c.put_cells.ensures.fits (c.as_slice.ensures.value ∙ c.figures_of-figures.ensures)) c.in_ok-put_cells.ensures.told

pub returns-in_err-put_cells-clause-failing : goal.returns-in_err-put_cells-clause-failing
returns-in_err-put_cells-clause-failing g c = unwritten _ _ _ c.from_residual.ensures.1 c.in_err-put_cells.ensures.failing
