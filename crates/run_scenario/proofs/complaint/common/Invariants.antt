-- So many bytes are alike, and then as many as what follows has in common.
use Rattle.std.proofs.Common.{◌≡◌, ◌+◌, ◌-◌, ◌≤◌, length, drop}
use Rattle.run_scenario.specs.Complaints.{common}
use Rattle.run_scenario.proofs.complaint.common.Given as goal

abbrev pub invariant-loop-alike : goal.invariant-loop-alike
invariant-loop-alike l = record {
  within : l.alike ≤ length l.text;
  also : l.alike ≤ length l.other;
  alike : common l.text l.other ≡ l.alike + common (drop l.alike l.text) (drop l.alike l.other);
}

abbrev pub decreases-loop-alike : goal.decreases-loop-alike
decreases-loop-alike l = length l.text - l.alike
