-- Lines without donations are added up to the number.
use Rattle.std.proofs.Common.{◌≡◌, ℕ, ◌+◌, ◌-◌, length}
use Rattle.budget_least.specs.WrittenScenario.{donation_at}
use Rattle.budget_least.proofs.written_scenario.set_donation.Given as goal

abbrev pub invariant-loop-donations : goal.invariant-loop-donations
invariant-loop-donations l = (other : ℕ) → donation_at l.donations.items other ≡ donation_at l.fn.donations.items other

abbrev pub decreases-loop-donations : goal.decreases-loop-donations
decreases-loop-donations l = l.number + 1 - length l.donations.items
