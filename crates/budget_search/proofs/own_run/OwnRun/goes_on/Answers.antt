-- A line that makes a call is that call, unless it exits.
use Rattle.std.proofs.Common.{ap, sym, [], ◌+◌, ◌∙◌, ◌++◌, subst}
use Rattle.own_model.specs.StartList.{init_at}
use Rattle.own_model.specs.Transcript.{entry_at, state_at}
use Rattle.core_calls.specs.Call.{model_call}
use Rattle.budget_meter.specs.Asked.{asked_by}
use Rattle.budget_meter.specs.NeededAmounts.{amount_tests}
use Rattle.budget_meter.specs.Needs.{amounts_of}
use Rattle.budget_search.specs.Run.{HasLeft, HasLinesLeft}
use Rattle.budget_search.specs.OwnLines.{lines_by, lines_with}
use Rattle.budget_search.specs.RunLines.{skipped_by, skipped_lines}
use Rattle.budget_search.specs.Steps.{call_of, mark_of}
use Rattle.budget_search.proofs.RunLemmas.{by_script, made_of}
use Rattle.budget_search.proofs.OwnLineLemmas.{lines_left_out, lines_of_call, lines_of_exit, more_left_out, none_left, same_lines, skipped_is}
use Rattle.budget_search.proofs.own_run.OwnRun.goes_on.Goals as goal

pub returns-clause-left : goal.returns-clause-left
returns-clause-left g c = λ is calls rest budget s before.
    c.in_ok-goes_on.ensures.left is calls rest budget s
    (subst (λ each. HasLeft c.args.self.now.core.now c.args.self.now.component c.args.self.now.heard calls each budget s)
    (made_of c.args.step.now c.in-Some.call rest c.if-step.false c.in-Some.ensures.call (sym c.is_exit.ensures ∙ c.if-is_exit.false)) before)

pub returns-clause-ends : goal.returns-clause-ends
returns-clause-ends g c = λ is calls rest budget s before.
    c.in_ok-goes_on.ensures.ends is calls rest budget s
    (subst (λ each. HasLeft c.args.self.now.core.now c.args.self.now.component c.args.self.now.heard calls each budget s)
    (made_of c.args.step.now c.in-Some.call rest c.if-step.false c.in-Some.ensures.call (sym c.is_exit.ensures ∙ c.if-is_exit.false)) before)

pub returns-clause-later : goal.returns-clause-later
returns-clause-later g c = λ is rest whole before.
    let now = c.args.self.now in
    let step = c.args.step.now in
    let entry = entry_at now.core.now.entries now.component in
    let budget = amounts_of now.trial.meter.start in
    let call = model_call c.in-Some.call in
    c.in_ok-goes_on.ensures.later is rest whole
    (same_lines now.core.now now.component now.heard now.trial.left_out.items (lines_with entry budget (mark_of step) (call_of step) rest) whole before
    (lines_by entry step.number call rest)
    (lines_of_call entry budget (mark_of step) rest (state_at now.core.now.states now.component) (call_of step) call c.in-Some.ensures.call c.if-step.false
    (sym c.is_exit.ensures ∙ c.if-is_exit.false)))

pub returns-clause-lines : goal.returns-clause-lines
returns-clause-lines g c = λ is rest whole before.
    let now = c.args.self.now in
    let step = c.args.step.now in
    let entry = entry_at now.core.now.entries now.component in
    let budget = amounts_of now.trial.meter.start in
    let call = model_call c.in-Some.call in
    c.in_ok-goes_on.ensures.lines is rest whole
    (same_lines now.core.now now.component now.heard now.trial.left_out.items (lines_with entry budget (mark_of step) (call_of step) rest) whole before
    (lines_by entry step.number call rest)
    (lines_of_call entry budget (mark_of step) rest (state_at now.core.now.states now.component) (call_of step) call c.in-Some.ensures.call c.if-step.false
    (sym c.is_exit.ensures ∙ c.if-is_exit.false)))

pub returns-then-step-clause-later : goal.returns-then-step-clause-later
returns-then-step-clause-later g c = λ _ rest whole before.
    let now = c.args.self.now in
    let step = c.args.step.now in
    let core = now.core.now in
    let entry = entry_at core.entries now.component in
    let s = state_at core.states now.component in
    let budget = amounts_of now.trial.meter.start in
    let call = model_call c.in-Some.call in
    let so_far = now.trial.left_out.items in
    let account = c.account-account.ensures.value ∙ by_script entry.kind (init_at core.inits (now.component + 1)) s.account (before.left []).script in
    let more = skipped_by budget s.account (mark_of step) (asked_by call) in
    let recorded =
    skipped_is budget s.account step.number step.is_left_out step.may_be_short c.call_amounts.result c.asked.result (asked_by call) c.call_amounts.ensures
    c.asked.ensures.short c.asked.ensures.other in
    subst (λ each. HasLinesLeft core now.component now.heard each rest whole)
    (sym
    (c.in_ok-leave_out.ensures.left_out
    ∙ ap (λ each. so_far ++ skipped_lines budget each step.number (amount_tests c.asked.result)) account
    ∙ ap (λ each. so_far ++ each) recorded))
    (more_left_out core now.component now.heard so_far (lines_with entry budget (mark_of step) (call_of step) rest) whole before more rest
    (lines_left_out entry budget (mark_of step) rest s (call_of step) call c.in-Some.ensures.call c.if-step.true))

pub returns-then-is_exit-clause-lines : goal.returns-then-is_exit-clause-lines
returns-then-is_exit-clause-lines g c = λ _ rest whole before.
    let now = c.args.self.now in
    let step = c.args.step.now in
    let core = now.core.now in
    let entry = entry_at core.entries now.component in
    let budget = amounts_of now.trial.meter.start in
    let so_far = now.trial.left_out.items in
    ap (λ refused. record { left_out = so_far; refused = refused }) c.requires.none
    ∙ none_left core now.component now.heard so_far (lines_with entry budget (mark_of step) (call_of step) rest) whole before
    (lines_of_exit entry budget (mark_of step) rest (state_at core.states now.component) (call_of step) (model_call c.in-Some.call) c.in-Some.ensures.call c.if-step.false
    (sym c.is_exit.ensures ∙ c.if-is_exit.true))
