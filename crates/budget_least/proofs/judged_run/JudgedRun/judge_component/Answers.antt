-- The call isn't made, or its reply is compared.
use Rattle.std.proofs.Common.{◌≡◌, ap, refl, subst, sym, ◌∙◌, true, false}
use Rattle.std.specs.Option.{option_copied}
use Rattle.std.specs.Prelude.{not}
use Rattle.own_model.specs.Listed.{Listed}
use Rattle.core_calls.specs.Call.{model_call}
use Rattle.line_names.specs.Views.{filled_view}
use Rattle.run_scenario.specs.LineSteps.{is_meant_line}
use Rattle.run_scenario.specs.UnknownNames.{names_unknown}
use Rattle.budget_search.specs.NoBudgets.{LacksBudgets}
use Rattle.budget_least.specs.BoundRuns.{BoundRun}
use Rattle.budget_least.specs.LineErrors.{is_error, is_unmade, judging_of, Judging}
use Rattle.budget_least.proofs.JudgedLemmas.{made, made_as, passed, unmade}
use Rattle.budget_least.proofs.judged_run.JudgedRun.judge_component.Goals as goal

pub returns-then-is_passed_over-clause-judged : goal.returns-then-is_passed_over-clause-judged
returns-then-is_passed_over-clause-judged g c =
    let call = c.args.call.now in
    let component = c.args.component in
    let old = judging_of c.args.self.now in
    let same : c.list.result.now ≡ old.run.list = c.list.ensures ∙ ap (λ (j : Judging). j.run.list) c.count-place.ensures.counted in
    let is = λ (list : Listed). is_unmade (names_unknown list call.line.now) list component (option_copied call.reply) (model_call c.args.said) in
    unmade (is old.run.list) (is_meant_line c.args.given.line.now) (names_unknown old.run.list call.line.now) false component (filled_view call.filled)
    (option_copied call.reply) (model_call c.args.said) old (judging_of c.count-place.new.self)
    (ap is (sym same) ∙ sym c.is_passed_over.ensures ∙ c.if-is_passed_over.true) c.count-place.ensures.counted refl

pub returns-in_err-client-clause-fault : goal.returns-in_err-client-clause-fault
returns-in_err-client-clause-fault g c =
    passed _ _ c.from_residual.result c.from_residual.ensures.1
    (λ other. subst (λ (j : Judging). LacksBudgets j.run.list c.in_err-client.field-0.0) c.count-place.ensures.counted (c.in_err-client.ensures.fault other))

pub returns-clause-judged : goal.returns-clause-judged
returns-clause-judged g c =
    let call = c.args.call.now in
    let component = c.args.component in
    let meant = is_meant_line c.args.given.line.now in
    let expected = option_copied call.reply in
    let said = model_call c.args.said in
    let old = judging_of c.args.self.now in
    let more = judging_of c.count-place.new.self in
    let counted : more.run.list ≡ old.run.list = ap (λ (j : Judging). j.run.list) c.count-place.ensures.counted in
    let same : c.list.result.now ≡ old.run.list = c.list.ensures ∙ counted in
    let taken : c.take_client.new.self.list ≡ old.run.list = ap (λ (r : BoundRun). r.list) c.in_ok-client.ensures.taken ∙ counted in
    let is = λ (list : Listed). is_unmade (names_unknown list call.line.now) list component expected said in
    let complained = c.in_ok-complained.complained in
    made (is old.run.list) meant (names_unknown old.run.list call.line.now) complained component (filled_view call.filled) expected said old
    (record { run = c.keep.new.self; counts = more.counts })
    (ap is (sym same) ∙ sym c.is_passed_over.ensures ∙ c.if-is_passed_over.false)
    (made_as meant (names_unknown old.run.list call.line.now) complained (not c.expects_refusal-binds.result) component c.count-place.result (filled_view call.filled) expected said
    old more c.take_client.new.self c.keep.new.self c.in_ok-client.client c.make.new.client c.budgets-budgets.result c.answer.result.text.now
    c.count-place.ensures.counted c.count-place.ensures.place c.in_ok-client.ensures.client c.in_ok-client.ensures.taken c.budgets-budgets.ensures c.in_ok-make.ensures
    c.answer.ensures (c.in_ok-complained.ensures.complained ∙ ap (λ (list : Listed). is_error meant (names_unknown list call.line.now) expected c.answer.result.text.now) taken)
    (ap not c.expects_refusal-binds.ensures) c.in_ok-keep.ensures)
