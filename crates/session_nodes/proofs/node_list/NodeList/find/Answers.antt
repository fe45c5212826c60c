-- The tree leads to the one node that can have the name.
use Rattle.std.proofs.Common.{◌≡◌, ◌≢◌, ◌<◌, sym, subst, arith}
use Rattle.session_nodes.specs.Calls.{HasBytes}
use Rattle.session_nodes.specs.SoundHeaps.{Stock}
use Rattle.session_nodes.specs.SessionHeaps.{stock_of}
use Rattle.session_nodes.specs.Order.{node_at}
use Rattle.session_nodes.specs.Node.{StoredNode, value_of}
use Rattle.session_nodes.proofs.SeekLemmas.{eq_name, ne_name, none_long, none_found, none_other, found_listed, found_is}
use Rattle.session_nodes.proofs.node_list.NodeList.find.Goals as goal

pub seek-address-requires-clause-named : goal.seek-address-requires-clause-named
seek-address-requires-clause-named c = (_, c.requires.files.indexed.named)

pub load_node-node-requires-clause-there : goal.load_node-node-requires-clause-there
load_node-node-requires-clause-there c =
    let was : Stock = stock_of c.args.self.now.heaps c.args.memory.now c.args.map.now in
    let some : 0 < c.seek-address.result = omega (arith, c.if-address-eq0.false) in
    subst (λ m. HasBytes (stock_of c.args.self.now.heaps m c.args.map.now).nodes.payloads c.seek-address.result 0 96) (sym c.seek-address.ensures.memory)
    (c.requires.files.stand.each c.seek-address.result (found_listed c.args.self.now.first c.args.self.now.last c.args.self.now.root was.nodes was.contents c.requires.files c.args.name.now c.seek-address.result c.seek-address.ensures.found some)).there

pub returns-then-name-gt-LONGEST_NAME-clause-none : goal.returns-then-name-gt-LONGEST_NAME-clause-none
returns-then-name-gt-LONGEST_NAME-clause-none c =
    let was : Stock = stock_of c.args.self.now.heaps c.args.memory.now c.args.map.now in
    none_long c.args.self.now.first c.args.self.now.last c.args.self.now.root was.nodes was.contents c.requires.files c.args.name.now (omega arith)

pub returns-then-address-eq0-clause-none : goal.returns-then-address-eq0-clause-none
returns-then-address-eq0-clause-none c =
    let was : Stock = stock_of c.args.self.now.heaps c.args.memory.now c.args.map.now in
    none_found c.args.self.now.first c.args.self.now.last c.args.self.now.root was.nodes was.contents c.requires.files c.args.name.now c.seek-address.result c.seek-address.ensures.found c.if-address-eq0.true

pub returns-then-ne-clause-none : goal.returns-then-ne-clause-none
returns-then-ne-clause-none c =
    let was : Stock = stock_of c.args.self.now.heaps c.args.memory.now c.args.map.now in
    let value : value_of c.load_node-node.result ≡ node_at was.nodes c.seek-address.result =
    subst (λ m. value_of c.load_node-node.result ≡ node_at (stock_of c.args.self.now.heaps m c.args.map.now).nodes c.seek-address.result) c.seek-address.ensures.memory c.load_node-node.ensures.value in
    none_other c.args.self.now.first c.args.self.now.last c.args.self.now.root was.nodes was.contents c.requires.files c.args.name.now c.seek-address.result c.seek-address.ensures.found
    (subst (λ (n : StoredNode). n.name ≢ c.args.name.now) value (ne_name _ _ c.args.name.now _ c.as_slice.ensures.value c.ne.ensures c.if-ne.true))

pub returns-clause-some : goal.returns-clause-some
returns-clause-some c =
    let was : Stock = stock_of c.args.self.now.heaps c.args.memory.now c.args.map.now in
    let value : value_of c.load_node-node.result ≡ node_at was.nodes c.seek-address.result =
    subst (λ m. value_of c.load_node-node.result ≡ node_at (stock_of c.args.self.now.heaps m c.args.map.now).nodes c.seek-address.result) c.seek-address.ensures.memory c.load_node-node.ensures.value in
    found_is c.args.self.now.first c.args.self.now.last c.args.self.now.root was.nodes was.contents c.requires.files c.args.name.now c.seek-address.result c.seek-address.ensures.found (omega (arith, c.if-address-eq0.false))
    (value_of c.load_node-node.result) value (eq_name _ _ c.args.name.now _ c.as_slice.ensures.value c.ne.ensures c.if-ne.false)
