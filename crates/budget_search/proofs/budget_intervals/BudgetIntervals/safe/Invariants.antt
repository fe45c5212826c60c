-- The safe budget of the intervals from a place on.
use Rattle.std.proofs.Common.{◌≡◌, ◌≤◌, drop, length}
use Rattle.std.specs.Option.{option_map}
use Rattle.budget_meter.specs.Needs.{amounts_of}
use Rattle.budget_search.specs.BudgetIntervals.{safe_of}
use Rattle.budget_search.proofs.budget_intervals.BudgetIntervals.safe.Given as goal

abbrev pub invariant-loop-place : goal.invariant-loop-place
invariant-loop-place l = record { within : l.place ≤ length l.rows; safe : option_map amounts_of l.safe ≡ safe_of (drop l.place l.rows) }

abbrev pub decreases-loop-place : goal.decreases-loop-place
decreases-loop-place l = l.place
