-- So many selectors name nothing.
use Rattle.std.proofs.Common.{◌≡◌, ◌≤◌}
use Rattle.std.specs.Prelude.{replicate, None}
use Rattle.budget_search.proofs.opened_sessions.unnamed.Given as goal

abbrev pub invariant-loop-count : goal.invariant-loop-count
invariant-loop-count l = record { all : l.owners.items ≡ replicate l.count None; within : l.count ≤ 4097 }
