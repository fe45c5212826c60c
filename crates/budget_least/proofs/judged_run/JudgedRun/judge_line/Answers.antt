-- The line is judged at the position after it, on the list of the run.
use Rattle.std.proofs.Common.{Bool, ap, subst, ◌∙◌}
use Rattle.std.specs.Prelude.{if◌then◌else◌}
use Rattle.line_steps.specs.ResolvedViews.{resolved_view}
use Rattle.run_scenario.specs.LineSteps.{is_meant_line}
use Rattle.budget_least.specs.BoundRuns.{BoundRun}
use Rattle.budget_least.specs.LineErrors.{judged_of, judging_of, one_more, IsJudgeFault}
use Rattle.budget_least.proofs.JudgedLemmas.{judged_line, judged_list, passed}
use Rattle.budget_least.proofs.judged_run.JudgedRun.judge_line.Goals as goal

pub returns-in_err-complained-clause-fault : goal.returns-in_err-complained-clause-fault
returns-in_err-complained-clause-fault g c =
    passed _ _ c.from_residual.result c.from_residual.ensures.1
    (subst (λ (r : BoundRun). IsJudgeFault r.list c.in_err-complained.field-0.0) c.pass-number.ensures.passed c.in_err-complained.ensures.fault)

pub returns-clause-list : goal.returns-clause-list
returns-clause-list g c =
    ap (λ (r : BoundRun). r.list) c.in_ok-arrive.ensures
    ∙ judged_list (is_meant_line c.args.line.now) c.in_ok-complained.complained (resolved_view c.resolve-resolved.result)
    (record { run = c.pass-number.new.self; counts = c.args.self.now.counts.items }) (judging_of c.judge.new.self) c.in_ok-complained.ensures.judged
    ∙ ap (λ (r : BoundRun). r.list) c.pass-number.ensures.passed

pub returns-clause-judged : goal.returns-clause-judged
returns-clause-judged g c =
    let complained : Bool = c.in_ok-complained.complained in
    judged_line c.args.line.now complained (resolved_view c.resolve-resolved.result) c.known.result.now (judged_of c.args.self.now) c.pass-number.new.self c.arrive.new.self
    (judging_of c.judge.new.self) c.errors_with-self.result c.pass-number.ensures.passed c.known.ensures c.resolve-resolved.ensures.line c.in_ok-complained.ensures.judged
    (c.errors_with-self.ensures ∙ ap (λ errors. if complained then one_more errors else errors) c.in_ok-complained.ensures.errors) c.in_ok-arrive.ensures
