-- The line is written as it is defined, unless there is no memory for it.
use Rattle.std.proofs.Common.{refl, subst, ◌∙◌}
use Rattle.run_devices.specs.RunOutput.{Tells}
use Rattle.run_devices.proofs.GatheredLemmas.{Tells-front, Tells-none, told_err}
use Rattle.run_scenario.proofs.FailLemmas.{roomless, unwritten}
use Rattle.view_runs.proofs.json_rows.JsonRowsRowFormat.put_row.Goals as goal

pub returns-in_err-line-clause-told : goal.returns-in_err-line-clause-told
returns-in_err-line-clause-told g c = told_err _ _ _ c.from_residual.ensures.1 (_, Tells-front _ (Tells-none _ _))

pub returns-in_err-line-clause-failing : goal.returns-in_err-line-clause-failing
returns-in_err-line-clause-failing g c = roomless _ _ _ c.from_residual.ensures.1 c.requires refl

pub returns-in_err-put-clause-told : goal.returns-in_err-put-clause-told
returns-in_err-put-clause-told g c =
    told_err _ _ _ c.from_residual-in_err-put.ensures.1 (
      c.in_err-put.ensures.told.0,
      subst (Tells (g.K.Sink.contents c.args.writer.now) c.args.gathered.now (g.K.Sink.contents c.put.new.sink) c.in_err-put.ensures.told.0) (c.as_slice.ensures.value ∙ c.in_ok-line.ensures) c.in_err-put.ensures.told.1,
    )

pub returns-in_err-put-clause-failing : goal.returns-in_err-put-clause-failing
returns-in_err-put-clause-failing g c = unwritten _ _ _ c.from_residual-in_err-put.ensures.1 c.in_err-put.ensures.failing

pub returns-clause-told : goal.returns-clause-told
returns-clause-told g c =
    subst (Tells (g.K.Sink.contents c.args.writer.now) c.args.gathered.now (g.K.Sink.contents c.put.new.sink) c.put.new.self) (c.as_slice.ensures.value ∙ c.in_ok-line.ensures) c.in_ok-put.ensures.told
