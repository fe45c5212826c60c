-- Line by line.
use Rattle.std.proofs.Common.{ap, sym, ◌∙◌}
use Rattle.budget_theorems.specs.Need.{budgeted}
use Rattle.budget_search.specs.Alike.{own_entry, own_state}
use Rattle.budget_search.specs.Steps.{call_of}
use Rattle.budget_search.proofs.OwnLineLemmas.{leaves_none_out}
use Rattle.budget_search.proofs.own_trials.OwnTrialsBudgetTrials.leaves_out.Goals as goal

pub returns : goal.returns
returns c = record {
  none = λ is lines are budget.
      let list = c.args.self.now.list.now in
      let component = c.args.self.now.component in
      ap (λ each. (each budget).left_out) are.1
      ∙ leaves_none_out (own_entry list component) budget call_of c.args.self.now.steps.now (sym c.any_left_out.ensures ∙ is) (budgeted budget (own_state list component));
}
