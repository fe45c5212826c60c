-- A call in want ends the run.
use Rattle.std.proofs.Common.{ap, sym, subst, ◌∙◌, ◌++◌, ◌∷◌, []}
use Rattle.std.specs.Prelude.{Some}
use Rattle.own_model.specs.Transcript.{entry_at, state_at}
use Rattle.core_calls.specs.Call.{model_call}
use Rattle.budget_search.specs.OwnLines.{shown_short}
use Rattle.budget_search.specs.Run.{HasLinesLeft}
use Rattle.budget_search.proofs.RunLemmas.{is_last, is_later, is_told}
use Rattle.budget_search.proofs.own_run.OwnRun.make.Goals as goal

pub returns-then-follow-clause-ends : goal.returns-then-follow-clause-ends
returns-then-follow-clause-ends g c = λ _ calls rest budget s left.
    let world = c.args.self.now.core.now in
    let component = c.args.self.now.component in
    c.follow.ensures.end c.if-follow.true (entry_at world.entries component) calls rest budget s (state_at world.states component) left.left
    (is_told world c.step.new.self component (model_call c.args.call) c.answer.result.text.now c.account-after.result (c.answer.ensures ∙ c.step.ensures.answered)
    c.step.ensures.stepped c.account-after.ensures.value left.script left.there)

pub returns-then-follow-clause-lines : goal.returns-then-follow-clause-lines
returns-then-follow-clause-lines g c = λ _ rest whole before.
    let world = c.args.self.now.core.now in
    let component = c.args.self.now.component in
    let so_far = c.args.self.now.trial.left_out.items in
    (λ k. record {
      left_out = so_far;
      refused = Some (record {
        line = c.refused_at.ensures.line k;
        shortage = (c.refused_at.ensures.shortage ∙ ap shown_short (c.answer-then-follow.ensures ∙ sym c.answer.ensures)) k;
      });
    })
    ∙ is_last world c.step.new.self component (model_call c.args.call) c.answer.result.text.now c.account-after.result (c.answer.ensures ∙ c.step.ensures.answered)
    c.step.ensures.stepped c.account-after.ensures.value c.args.self.now.heard so_far c.args.line rest whole before c.follow.new.self.meter
    (λ left. c.follow.ensures.end c.if-follow.true (entry_at world.entries component) (before.heard ++ model_call c.args.call ∷ []) [] before.budget before.s
    (state_at world.states component) left)

pub returns-clause-later : goal.returns-clause-later
returns-clause-later g c = λ _ rest whole before.
    let world = c.args.self.now.core.now in
    let component = c.args.self.now.component in
    subst (λ so_far. HasLinesLeft c.step.new.self component c.follow.new.self so_far rest whole) (sym (ap (λ lines. lines.left_out) c.keep_reply.ensures.lines))
    (is_later world c.step.new.self component (model_call c.args.call) c.answer.result.text.now c.account-after.result (c.answer.ensures ∙ c.step.ensures.answered)
    c.step.ensures.stepped c.account-after.ensures.value c.args.self.now.heard c.args.self.now.trial.left_out.items c.args.line rest whole before c.follow.new.self
    (λ calls more budget s left. c.follow.ensures.on c.if-follow.false (entry_at world.entries component) calls more budget s (state_at world.states component) left))
