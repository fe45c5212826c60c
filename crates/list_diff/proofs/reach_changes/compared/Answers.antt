-- By where each list routes the requests.
use Rattle.list_reach.specs.RoutedLabels.{routed_on}
use Rattle.list_diff.specs.Routes.{routes}
use Rattle.list_reach.proofs.ComparisonLemmas.{compared_alike}
use Rattle.list_diff.proofs.reach_changes.compared.Goals as goal

pub returns : goal.returns
returns c =
    compared_alike (routed_on c.requests_of-was.result) (routed_on c.requests_of-now.result)
    (routes c.args.before.now c.args.client.now.path c.args.service.now) (routes c.args.after.now c.args.client.now.path c.args.service.now)
    c.of.result c.requests_of-was.ensures.routes c.requests_of-now.ensures.routes c.of.ensures
