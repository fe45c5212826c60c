-- A run with the minimum, unless no run leaves a line out.
use Rattle.std.proofs.Common.{ap, sym, ◌∙◌}
use Rattle.std.specs.Option.{option_map}
use Rattle.budget_meter.specs.Needs.{amounts_of}
use Rattle.budget_search.specs.BudgetIntervals.{lowest_of}
use Rattle.budget_search.proofs.FaultLemmas.{passed_on}
use Rattle.budget_search.proofs.GapLemmas.{least_below, none_left_out}
use Rattle.budget_search.proofs.budget_intervals.BudgetIntervals.leave_out.Goals as goal

pub returns-then-not-leaves_out-clause-left_out : goal.returns-then-not-leaves_out-clause-left_out
returns-then-not-leaves_out-clause-left_out g c = λ lines are.
    c.requires.none
    ∙ sym (none_left_out lines (g.T.BudgetTrials.caps c.args.trials.now) (lowest_of c.args.self.now.rows.items) (c.leaves_out.ensures.none c.if-not-leaves_out.true lines are))

pub returns-in_err-trial-clause-fault : goal.returns-in_err-trial-clause-fault
returns-in_err-trial-clause-fault g c =
    passed_on _ _ c.from_residual.result c.from_residual.ensures.1
    (λ other top all each want runs. record {
      ram = _;
      within = least_below c.args.self.now.rows.items top (amounts_of c.in-Some.lowest) (ap (option_map amounts_of) (sym c.in-Some.is) ∙ c.least.ensures) all;
      its = c.in_err-trial.ensures.fault other each want runs;
    })
