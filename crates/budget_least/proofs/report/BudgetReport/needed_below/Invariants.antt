-- What the accounts so far need, with what those to come do, is what all need.
use Rattle.std.proofs.Common.{◌≡◌, drop}
use Rattle.std.specs.Option.{option_map}
use Rattle.own_model.specs.Amounts.{more_of}
use Rattle.budget_meter.specs.Needs.{amounts_of}
use Rattle.budget_least.specs.InitNeeds.{capped, needed_below}
use Rattle.budget_least.proofs.report.BudgetReport.needed_below.Given as goal

abbrev pub invariant-loop-account : goal.invariant-loop-account
invariant-loop-account l = record {
  sum : option_map capped (needed_below l.self.choice l.self.list.now l.init l.accounts)
      ≡ option_map (λ more. capped (more_of (amounts_of l.sum) more)) (needed_below l.self.choice l.self.list.now l.init (drop l.account-index l.accounts));
  capped : capped (amounts_of l.sum) ≡ amounts_of l.sum;
}
