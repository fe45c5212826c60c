-- A write that fails in one part loses the parts after it.
use Rattle.std.proofs.Common.{append-nil, subst}
use Rattle.run_devices.specs.RunOutput.{OutputsUnless}
use Rattle.run_devices.proofs.GatheredLemmas.{Tells-more, Tells-front, told_err, told_more}
use Rattle.view_runs.proofs.transcript.write_numbered.Goals as goal

pub returns-in_err-put_number-clause-told : goal.returns-in_err-put_number-clause-told
returns-in_err-put_number-clause-told g c = told_err _ _ _ c.from_residual.ensures.1 (_, Tells-front _ (Tells-front _ c.in_err-put_number.ensures.told.1))

pub returns-in_err-put-clause-told : goal.returns-in_err-put-clause-told
returns-in_err-put-clause-told g c =
    told_err _ _ _ c.from_residual-in_err-put.ensures.1 (_, Tells-front _ (Tells-more c.in_ok-put_number.ensures.told c.in_err-put.ensures.told.1))

pub returns-in_err-put_answer-clause-told : goal.returns-in_err-put_answer-clause-told
returns-in_err-put_answer-clause-told g c =
    told_err _ _ _ c.from_residual-in_err-put_answer.ensures.1 (_, Tells-more (Tells-more c.in_ok-put_number.ensures.told c.in_ok-put.ensures.told) c.in_err-put_answer.ensures.told.1)

pub returns-clause-told : goal.returns-clause-told
returns-clause-told g c =
    subst (OutputsUnless c.flush.result (g.K.Sink.contents c.args.writer.now) c.args.gathered.now (g.K.Sink.contents c.flush.new.sink) c.flush.new.self)
    (append-nil _)
    (told_more _ _ _ _ (Tells-more (Tells-more c.in_ok-put_number.ensures.told c.in_ok-put.ensures.told) c.in_ok-put_answer.ensures.told) c.flush.ensures.told)
