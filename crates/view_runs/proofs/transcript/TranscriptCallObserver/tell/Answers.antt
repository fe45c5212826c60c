-- What is told is the answer, behind its number where that is asked for.
use Rattle.std.proofs.Common.{Some, None, ◌++◌, ap, refl, subst}
use Rattle.own_model.specs.World.{world_running}
use Rattle.run_devices.specs.RunOutput.{Tells}
use Rattle.run_lines.proofs.AnsweringLemmas.{told_answer}
use Rattle.run_devices.proofs.GatheredLemmas.{told_err}
use Rattle.view_runs.specs.Transcripts.{number_before}
use Rattle.run_scenario.proofs.FailLemmas.{unwritten}
use Rattle.view_runs.proofs.transcript.TranscriptCallObserver.tell.Goals as goal

pub returns-in_err-put_heard-clause-told : goal.returns-in_err-put_heard-clause-told
returns-in_err-put_heard-clause-told g c = λ start earlier sees told.
    told_err _ _ _ c.from_residual.ensures.1 (
      c.in_err-put_heard.ensures.told.0,
      subst (Tells (g.K.Sink.contents c.args.writer.now) c.args.gathered.now (g.K.Sink.contents c.put_heard.new.writer) c.in_err-put_heard.ensures.told.0)
          (ap (λ text. number_before c.args.self.now.numbers c.args.heard.now.number ++ text) (told_answer None (world_running start earlier) c.args.heard.now.line.now (Some c.args.heard.now.answer) (refl, told.answers)))
          c.in_err-put_heard.ensures.told.1,
    )

pub returns-clause-told : goal.returns-clause-told
returns-clause-told g c = λ start earlier sees told.
    subst (Tells (g.K.Sink.contents c.args.writer.now) c.args.gathered.now (g.K.Sink.contents c.put_heard.new.writer) c.put_heard.new.gathered)
    (ap (λ text. number_before c.args.self.now.numbers c.args.heard.now.number ++ text) (told_answer None (world_running start earlier) c.args.heard.now.line.now (Some c.args.heard.now.answer) (refl, told.answers)))
    c.in_ok-put_heard.ensures.told

pub returns-in_err-put_heard-clause-failing : goal.returns-in_err-put_heard-clause-failing
returns-in_err-put_heard-clause-failing g c = unwritten _ _ _ c.from_residual.ensures.1 c.in_err-put_heard.ensures.failing
