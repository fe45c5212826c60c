-- A block given back leaves the sliced blocks.
use Rattle.session_nodes.proofs.NodeGiveLemmas.{gives_of, given_keeps, given_is}
use Rattle.session_nodes.proofs.session_heaps.SessionHeaps.give_node.Goals as goal

pub returns-clause-keeps : goal.returns-clause-keeps
returns-clause-keeps c =
    let f = c.requires.furnished in
    let e = c.free.ensures in
    given_keeps f c.args.address (gives_of f c.args.address c.free.result c.requires.there e.refusal e.small) e.sound e.payer e.others

pub returns-clause-given : goal.returns-clause-given
returns-clause-given c =
    let f = c.requires.furnished in
    let e = c.free.ensures in
    given_is f c.args.address (gives_of f c.args.address c.free.result c.requires.there e.refusal e.small) e.sound e.payer e.others
