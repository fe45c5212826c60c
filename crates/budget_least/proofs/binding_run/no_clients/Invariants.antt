-- So many components have no client.
use Rattle.std.proofs.Common.{◌≡◌, ◌≤◌}
use Rattle.std.specs.Prelude.{replicate, None}
use Rattle.budget_least.proofs.binding_run.no_clients.Given as goal

abbrev pub invariant-loop-count : goal.invariant-loop-count
invariant-loop-count l = record { all : l.clients.items ≡ replicate l.count None; within : l.count ≤ l.components }
