-- What is there stays.
use Rattle.std.proofs.Common.{◌≡◌, ◌-◌, ◌+◌, ℕ, length}
use Rattle.view_accounts.specs.SessionTable.{row_of}
use Rattle.view_accounts.proofs.session_table.add_rows.Given as goal

abbrev pub invariant-loop-alloc : goal.invariant-loop-alloc
invariant-loop-alloc g l = (component : ℕ) → row_of l.rows.items component ≡ row_of l.fn.rows.items component

abbrev pub decreases-loop-alloc : goal.decreases-loop-alloc
decreases-loop-alloc g l = l.component + 1 - length l.rows.items
