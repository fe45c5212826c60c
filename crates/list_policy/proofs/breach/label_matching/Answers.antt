-- By the shortest label of the range for the service by its name.
use Rattle.std.proofs.Common.{◌∙◌, ℕ, List, subst}
use Rattle.std.specs.Prelude.{IfOk, MatchOption}
use Rattle.list_reach.specs.RangeReach.{IsShortestInRange, NoneRoutedInRange}
use Rattle.list_policy.proofs.breach.label_matching.Goals as goal

pub returns : goal.returns
returns c =
    subst
    (λ (s : List ℕ). IfOk c.shortest_in_range.result (λ found. MatchOption found (NoneRoutedInRange c.args.range.now c.args.list.now c.args.client s c.args.server)
    (IsShortestInRange c.args.range.now c.args.list.now c.args.client s c.args.server)))
    (c.as_bytes.ensures.value ∙ c.service_at.ensures) c.shortest_in_range.ensures
