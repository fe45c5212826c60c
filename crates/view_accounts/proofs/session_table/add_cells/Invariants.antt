-- What is there stays.
use Rattle.std.proofs.Common.{◌≡◌, ◌-◌, ◌+◌, ℕ, length}
use Rattle.view_accounts.specs.SessionTable.{row_value}
use Rattle.view_accounts.proofs.session_table.add_cells.Given as goal

abbrev pub invariant-loop-row : goal.invariant-loop-row
invariant-loop-row g l = (q : ℕ) → row_value l.row.items q ≡ row_value l.fn.row.items q

abbrev pub decreases-loop-row : goal.decreases-loop-row
decreases-loop-row g l = l.place + 1 - length l.row.items
