-- The pairs so far, and those of the rest.
use Rattle.std.proofs.Common.{◌≡◌, ◌≤◌, ◌++◌, drop}
use Rattle.std.specs.List.{between, flat_map}
use Rattle.budget_least.specs.WrittenDonation.{kept_pair, kept_pairs, pairs_from}
use Rattle.budget_least.proofs.written_donation.add_others.Given as goal

abbrev pub invariant-loop-place : goal.invariant-loop-place
invariant-loop-place l = record {
  order : l.start ≤ l.place;
  text : l.told.items ++ flat_map kept_pair (pairs_from l.is_quoted (between l.start l.place l.args) (drop l.place l.args)) ≡ l.fn.told.items ++ kept_pairs l.args;
}
