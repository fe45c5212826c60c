use Rattle.std.proofs.Common.{◌≡◌, if◌then◌else◌}
use Rattle.list_policy.specs.Line.{line_at}
use Rattle.list_policy.specs.Pairs.{is_pair, total_below}
use Rattle.list_policy.proofs.pairs.server_total.Given as goal

abbrev pub invariant-loop-server : goal.invariant-loop-server
invariant-loop-server l =
    l.total ≡ total_below (λ server. if is_pair l.list (line_at l.line) l.kind l.client server then 1 else 0) l.server
