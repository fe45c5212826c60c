-- The donations of the rest, and those so far.
use Rattle.std.proofs.Common.{◌≡◌, ℕ, drop}
use Rattle.std.specs.List.{flat_map}
use Rattle.std.specs.Option.{option_or}
use Rattle.budget_least.specs.WrittenScenario.{donation_at, donation_of}
use Rattle.budget_least.proofs.written_scenario.donations_of.Given as goal

abbrev pub invariant-loop-lines : goal.invariant-loop-lines
invariant-loop-lines l = (number : ℕ) → option_or (donation_of (flat_map (λ lines. lines.items) (drop l.lines-index l.steps)) number) (donation_at l.donations.items number)
    ≡ donation_of (flat_map (λ lines. lines.items) l.steps) number
