-- A line that is left out, an exit, and a line whose call is made.
use Rattle.std.proofs.Common.{◌+◌, ◌&&◌, ap, false, refl, sym, true, ◌∙◌}
use Rattle.std.specs.Prelude.{not}
use Rattle.own_model.specs.Call.{is_exit}
use Rattle.core_calls.specs.Call.{model_call}
use Rattle.budget_search.specs.ReachedSessions.{followed, sessions_of, Reach}
use Rattle.budget_search.specs.Steps.{call_said}
use Rattle.budget_search.proofs.ReachLemmas.{ends_by, steps_by}
use Rattle.budget_search.proofs.opened_sessions.OpenedSessions.goes_on.Goals as goal

pub returns-then-step-clause-on : goal.returns-then-step-clause-on
returns-then-step-clause-on g c = λ _ steps end reach.
    steps_by c.args.step.now.is_left_out c.args.place (λ next. Reach steps (c.args.place + 1) next end) (followed c.args.client.now (sessions_of c.args.self.now)) end
    (call_said c.args.step.now.line.items) (model_call c.in-Some.call) (followed c.args.client.now (sessions_of c.leave_out.new.self)) (sym c.in-Some.ensures.call)
    (ap (λ b. not b && is_exit (model_call c.in-Some.call)) c.if-step.true) reach true c.if-step.true (ap (followed c.args.client.now) c.in_ok-leave_out.ensures.sessions)

pub returns-then-is_exit-clause-ends : goal.returns-then-is_exit-clause-ends
returns-then-is_exit-clause-ends g c = λ _ steps.
    let end = sessions_of c.args.self.now in
    ends_by c.args.step.now.is_left_out c.args.place (λ next. Reach steps (c.args.place + 1) next end) (followed c.args.client.now end) end
    (call_said c.args.step.now.line.items) (model_call c.in-Some.call) (sym c.in-Some.ensures.call)
    (ap (λ b. not b && is_exit (model_call c.in-Some.call)) c.if-step.false ∙ sym c.is_exit.ensures ∙ c.if-is_exit.true) refl

pub returns-clause-on : goal.returns-clause-on
returns-clause-on g c = λ _ steps end reach.
    steps_by c.args.step.now.is_left_out c.args.place (λ next. Reach steps (c.args.place + 1) next end) (followed c.args.client.now (sessions_of c.args.self.now)) end
    (call_said c.args.step.now.line.items) (model_call c.in-Some.call) (followed c.go_on.new.client (sessions_of c.go_on.new.self)) (sym c.in-Some.ensures.call)
    (ap (λ b. not b && is_exit (model_call c.in-Some.call)) c.if-step.false ∙ sym c.is_exit.ensures ∙ c.if-is_exit.false) reach false c.if-step.false c.in_ok-go_on.ensures.sessions
