-- There are more lines, none of which opens a session.
use Rattle.std.proofs.Common.{◌≡◌, ℕ, length}
use Rattle.std.specs.List.{slice_get}
use Rattle.std.specs.Option.{unwrap_or}
use Rattle.budget_least.specs.declared.line_donations.LineDonation.TheVariants.{Unused}
use Rattle.budget_least.proofs.line_donations.LineDonations.add.Given as goal

abbrev pub invariant-loop : goal.invariant-loop
invariant-loop l = record {
  choice : l.self.choice ≡ l.initial.self.choice;
  count : length l.self.lines.items ≡ l.counter;
  kept : (number : ℕ) → unwrap_or (slice_get l.self.lines.items number) Unused ≡ unwrap_or (slice_get l.initial.self.lines.items number) Unused;
}
