-- A name is looked for; a call is answered with what its step told, and one of an init as nobody's.
use Rattle.std.proofs.Common.{Some, refl, ap, sym, ◌∙◌}
use Rattle.own_model.specs.Listed.{start_list_of}
use Rattle.own_model.specs.StartList.{entries_of}
use Rattle.core_calls.specs.Call.{model_call}
use Rattle.run_lines.proofs.AnsweringLemmas.{answered_call, answered_stranger, left_by_stranger, left_by_call}
use Rattle.run_lines.proofs.CallerLemmas.{init_is_nobody, other_is_called}
use Rattle.run_lines.proofs.line_dispatcher.LineDispatcher.answer_call.Goals as goal

pub returns-clause-answered : goal.returns-clause-answered
returns-clause-answered g c =
    let list = c.args.self.now.list.now in
    answered_call c.args.core.now c.args.name.now (model_call c.args.call) (entries_of (start_list_of list)) c.requires.listed c.in-Some.component
    (sym c.in-Some.ensures.listed) (other_is_called _ c.in-Some.component list (c.is_init.ensures ∙ ap (λ b. Some b) c.if-is_init.false))
    _ c.name.ensures.listed (c.text.ensures ∙ c.step.ensures.answered) (c.lines.ensures ∙ c.step.ensures.lines)

pub returns-clause-world : goal.returns-clause-world
returns-clause-world g c =
    let list = c.args.self.now.list.now in
    c.step.ensures.stepped
    ∙ left_by_call c.args.core.now c.args.name.now (model_call c.args.call) (entries_of (start_list_of list)) c.requires.listed
    c.in-Some.component (sym c.in-Some.ensures.listed) (other_is_called _ c.in-Some.component list (c.is_init.ensures ∙ ap (λ b. Some b) c.if-is_init.false))

pub returns-then-is_init-clause-world : goal.returns-then-is_init-clause-world
returns-then-is_init-clause-world g c =
    let list = c.args.self.now.list.now in
    left_by_stranger c.args.core.now c.args.name.now (model_call c.args.call) (entries_of (start_list_of list)) c.requires.listed
    _ (sym c.in-Some.ensures.listed) (init_is_nobody _ c.in-Some.component list (c.is_init.ensures ∙ ap (λ b. Some b) c.if-is_init.true))

pub returns-then-is_init-clause-answered : goal.returns-then-is_init-clause-answered
returns-then-is_init-clause-answered g c =
    let list = c.args.self.now.list.now in
    answered_stranger c.args.core.now c.args.name.now (model_call c.args.call) (entries_of (start_list_of list)) c.requires.listed
    _ (sym c.in-Some.ensures.listed) (init_is_nobody _ c.in-Some.component list (c.is_init.ensures ∙ ap (λ b. Some b) c.if-is_init.true))
    _ c.refused-then-is_init.ensures

pub returns-in_default-clause-world : goal.returns-in_default-clause-world
returns-in_default-clause-world g c =
    left_by_stranger c.args.core.now c.args.name.now (model_call c.args.call) (entries_of (start_list_of c.args.self.now.list.now)) c.requires.listed
    _ (sym c.in_default.ensures.listed) refl

pub returns-in_default-clause-answered : goal.returns-in_default-clause-answered
returns-in_default-clause-answered g c =
    answered_stranger c.args.core.now c.args.name.now (model_call c.args.call) (entries_of (start_list_of c.args.self.now.list.now)) c.requires.listed
    _ (sym c.in_default.ensures.listed) refl _ c.refused.ensures
