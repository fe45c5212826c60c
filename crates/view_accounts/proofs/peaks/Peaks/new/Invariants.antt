-- So many components have their peaks.
use Rattle.std.proofs.Common.{◌≡◌, ◌<◌, ℕ, length}
use Rattle.own_model.specs.World.{account_at}
use Rattle.view_accounts.specs.Kept.{in_use, peak_at}
use Rattle.view_accounts.proofs.peaks.Peaks.new.Given as goal

abbrev pub invariant-loop-component : goal.invariant-loop-component
invariant-loop-component g l = record {
  count : length l.components.items ≡ l.component;
  peaks : (place : ℕ) → place < l.component → peak_at l.components.items place ≡ in_use (account_at l.core place);
}
