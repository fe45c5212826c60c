-- The first fault stands in what is left.
use Rattle.std.proofs.Common.{◌≡◌, ◌+◌, ◌-◌, ◌≤◌, drop, length}
use Rattle.std.specs.Option.{option_map}
use Rattle.line_friendly.specs.QuotedBytes.{fault_from, fault_of}
use Rattle.line_friendly.proofs.quoted_bytes.fault_of.Given as goal

abbrev pub invariant-loop-at : goal.invariant-loop-at
invariant-loop-at l = record {
  within : l.at ≤ length l.text;
  place : fault_of l.text ≡ option_map (λ n. l.at + n) (fault_from 0 (drop l.at l.text));
}

abbrev pub decreases-loop-at : goal.decreases-loop-at
decreases-loop-at l = length l.text - l.at
