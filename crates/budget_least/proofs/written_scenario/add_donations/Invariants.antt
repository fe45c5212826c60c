-- The donations of the rest, and those so far.
use Rattle.std.proofs.Common.{◌≡◌, ℕ, drop}
use Rattle.std.specs.Option.{option_or}
use Rattle.budget_least.specs.WrittenScenario.{donation_at, donation_of}
use Rattle.budget_least.proofs.written_scenario.add_donations.Given as goal

abbrev pub invariant-loop-line : goal.invariant-loop-line
invariant-loop-line l = (number : ℕ) → option_or (donation_of (drop l.line-index l.lines) number) (donation_at l.donations.items number)
    ≡ option_or (donation_of l.lines number) (donation_at l.fn.donations.items number)
