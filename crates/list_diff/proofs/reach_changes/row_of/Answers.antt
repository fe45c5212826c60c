-- By the labels that are gained and lost, and the numbers of the server.
use Rattle.list_diff.specs.Routes.{routes}
use Rattle.list_reach.specs.RoutedLabels.{is_gained, is_lost}
use Rattle.list_diff.proofs.ReachLemmas.{moved_at}
use Rattle.list_diff.proofs.reach_changes.row_of.Goals as goal

pub returns : goal.returns
returns c =
    let before = c.args.before in
    let after = c.args.after in
    let pair = c.args.pair.now in
    let was = c.server_in-was.result in
    let now = c.server_in-now.result in
    let old = routes before.list.now pair.client.path pair.service in
    let new = routes after.list.now pair.client.path pair.service in
    record {
      gained = c.in_ok-gained.gained;
      lost = c.in_ok-lost.lost;
      gains = moved_at before after is_gained pair c.in_ok-gains.gains c.in_ok-gained.gained was now c.in_ok-gained.ensures.set
          c.server_in-was.ensures c.server_in-now.ensures (c.in_ok-gains.ensures old new c.requires);
      gained_routes = c.in_ok-gained.ensures.routes;
      loses = moved_at before after is_lost pair c.in_ok-losses.losses c.in_ok-lost.lost was now c.in_ok-lost.ensures.set
          c.server_in-was.ensures c.server_in-now.ensures (c.in_ok-losses.ensures old new c.requires);
      lost_routes = c.in_ok-lost.ensures.routes;
      is = c.row_with.ensures;
    }
