use Rattle.std.proofs.Common.{◌≡◌, if◌then◌else◌, length}
use Rattle.list_policy.specs.Line.{line_at}
use Rattle.list_policy.specs.Pairs.{is_pair, total_below}
use Rattle.list_policy.proofs.pairs.pair_total.Given as goal

abbrev pub invariant-loop-client : goal.invariant-loop-client
invariant-loop-client l =
    l.total
    ≡ total_below
    (λ client. total_below (λ server. if is_pair l.list (line_at l.line) l.kind client server then 1 else 0) (length l.list.entries)) l.client
