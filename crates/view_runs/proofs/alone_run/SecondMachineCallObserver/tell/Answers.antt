-- A line of the name is answered alone as in the whole run, and another's is skipped.
use Rattle.std.proofs.Common.{arith, length, refl, ap, subst}
use Rattle.run_devices.specs.RunOutput.{Tells}
use Rattle.run_devices.proofs.GatheredLemmas.{Tells-none, told_err}
use Rattle.view_runs.proofs.AloneLemmas.{answered_alike, sees_more, told_both_of, told_none_of}
use Rattle.run_scenario.proofs.FailLemmas.{unwritten}
use Rattle.view_runs.proofs.alone_run.SecondMachineCallObserver.tell.Goals as goal

pub returns-in_default-clause-told : goal.returns-in_default-clause-told
returns-in_default-clause-told g c = λ start earlier sees told.
    subst (λ text. Tells (g.K.Sink.contents c.args.writer.now) c.args.gathered.now (g.K.Sink.contents c.args.writer.now) c.args.gathered.now text)
    (told_none_of c.args.self.now.name.now start earlier c.args.heard.now.number c.args.heard.now.line.now c.in_default.ensures.answered)
    (Tells-none _ _)

pub returns-in_default-clause-seen : goal.returns-in_default-clause-seen
returns-in_default-clause-seen g c = λ start earlier sees told.
    sees_more c.answer_read.new.core c.args.self.now.lines c.args.self.now.difference c.args.heard.now.line.now 0 sees c.in_default.ensures.world (ap length c.in_default.ensures.answered) (λ _. omega arith) refl

pub returns-in_err-put_both-clause-told : goal.returns-in_err-put_both-clause-told
returns-in_err-put_both-clause-told g c = λ start earlier sees told.
    told_err _ _ _ c.from_residual.ensures.1 (
      c.in_err-put_both.ensures.told.0,
      subst (Tells (g.K.Sink.contents c.args.writer.now) c.args.gathered.now (g.K.Sink.contents c.put_both.new.writer) c.in_err-put_both.ensures.told.0)
          (told_both_of c.args.self.now.name.now start c.args.self.now.core earlier c.args.heard.now.number c.args.heard.now.line.now c.args.heard.now.answer c.in-Some.alone sees.leads told.answers c.in-Some.ensures.answered)
          c.in_err-put_both.ensures.told.1,
    )

pub returns-clause-told : goal.returns-clause-told
returns-clause-told g c = λ start earlier sees told.
    subst (Tells (g.K.Sink.contents c.args.writer.now) c.args.gathered.now (g.K.Sink.contents c.put_both.new.writer) c.put_both.new.gathered)
    (told_both_of c.args.self.now.name.now start c.args.self.now.core earlier c.args.heard.now.number c.args.heard.now.line.now c.args.heard.now.answer c.in-Some.alone sees.leads told.answers c.in-Some.ensures.answered)
    c.in_ok-put_both.ensures.told

pub returns-clause-seen : goal.returns-clause-seen
returns-clause-seen g c = λ start earlier sees told.
    let same = answered_alike c.args.self.now.name.now start earlier c.args.heard.now.line.now c.args.heard.now.answer c.in-Some.alone sees.leads told.answers c.in-Some.ensures.answered in
    sees_more c.answer_read.new.core c.saturating_add-self.result c.first_difference-self.result c.args.heard.now.line.now 1 sees c.in-Some.ensures.world (ap length c.in-Some.ensures.answered.0) (λ fits. omega (arith, fits, c.saturating_add-self.ensures))
    (c.first_difference-self.ensures (c.are_same-alike.ensures same.0 same.1 same.2))

pub returns-in_err-put_both-clause-failing : goal.returns-in_err-put_both-clause-failing
returns-in_err-put_both-clause-failing g c = unwritten _ _ _ c.from_residual.ensures.1 c.in_err-put_both.ensures.failing
