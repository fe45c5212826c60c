-- The sum of those that were looked at, and behind it the others.
use Rattle.std.proofs.Common.{◌≡◌, drop}
use Rattle.std.specs.Option.{option_copied}
use Rattle.own_model.specs.Amounts.{no_amounts}
use Rattle.budget_meter.specs.Needs.{amounts_of}
use Rattle.view_accounts.specs.Meters.{needed_of}
use Rattle.view_accounts.specs.Needs.{summed}
use Rattle.view_accounts.proofs.needs.Needs.below.Given as goal

abbrev pub invariant-loop-place : goal.invariant-loop-place
invariant-loop-place l =
    summed (option_copied l.init) (needed_of l.self.meters.items) (amounts_of l.sum) l.place (drop l.place l.entries)
    ≡ summed (option_copied l.init) (needed_of l.self.meters.items) no_amounts 0 l.entries
