-- Line by line.
use Rattle.std.proofs.Common.{subst}
use Rattle.own_model.specs.Listed.{Listed}
use Rattle.budget_least.specs.LineErrors.{IsJudgeFault}
use Rattle.budget_least.proofs.JudgedLemmas.{passed}
use Rattle.budget_least.proofs.judged_run.JudgedRun.judge_all.Goals as goal

pub returns-in_err-judge_line-clause-fault : goal.returns-in_err-judge_line-clause-fault
returns-in_err-judge_line-clause-fault g c =
    passed _ _ c.from_residual.result c.from_residual.ensures.1
    (subst (λ (list : Listed). IsJudgeFault list c.in_err-judge_line.field-0.0) c.loop-line.invariant.list c.in_err-judge_line.ensures.fault)
