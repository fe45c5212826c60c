-- So many components have their meters.
use Rattle.std.proofs.Common.{◌≡◌, ◌<◌, ℕ, length}
use Rattle.own_model.specs.World.{account_at}
use Rattle.view_accounts.specs.Meters.{IsFresh, meter_at}
use Rattle.view_accounts.proofs.needs.Needs.new.Given as goal

abbrev pub invariant-loop-component : goal.invariant-loop-component
invariant-loop-component g l = record {
  count : length l.meters.items ≡ l.component;
  fresh : (place : ℕ) → place < l.component → IsFresh (account_at l.core place) (meter_at l.meters.items place);
}
