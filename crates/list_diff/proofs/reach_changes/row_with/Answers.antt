-- By whether a label is gained or lost.
use Rattle.std.proofs.Common.{rules}
use Rattle.list_diff.proofs.ReachLemmas.{row_hidden, row_shown}
use Rattle.list_diff.proofs.reach_changes.row_with.Goals as goal

pub returns-then-has_some : goal.returns-then-has_some
returns-then-has_some c =
    let change = c.change_of.ensures in
    row_shown c.args.before c.args.after c.args.pair.now c.args.gained c.args.lost c.change_of.result
    (search rules)
    (record {
      client = change.client;
      service = change.service;
      server = change.server;
      reach_was = change.was;
      reach_now = change.now;
      gained = change.gained;
      lost = change.lost;
    })

pub returns : goal.returns
returns c =
    row_hidden c.args.before c.args.after c.args.pair.now c.args.gained c.args.lost (search rules)
