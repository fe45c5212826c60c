-- The sums that are left.
use Rattle.std.proofs.Common.{◌≡◌, ◌+◌, ◌-◌, ◌≤◌, drop, length}
use Rattle.line_names.specs.Sums.{sums_from, total_from}
use Rattle.line_names.proofs.sums.total_of.Given as goal

abbrev pub invariant-sums : goal.invariant-sums
invariant-sums l = record {
  within : l.at ≤ length l.text;
  total : total_from 0 l.count l.text ≡ total_from 0 l.total (drop l.at l.text);
  size : sums_from 0 l.text ≡ l.at + sums_from 0 (drop l.at l.text);
}

abbrev pub decreases-sums : goal.decreases-sums
decreases-sums l = length l.text - l.at
