-- The node of the address is found, and remembered.
use Rattle.std.proofs.Common.{◌≡◌, ◌≢◌, sym, arith}
use Rattle.session_nodes.specs.SessionHeaps.{stock_of}
use Rattle.session_nodes.specs.SoundHeaps.{Stock}
use Rattle.session_nodes.proofs.AddressLemmas.{found_there, no_node, placed, remembers}
use Rattle.session_nodes.proofs.node_list.NodeList.at_place.Goals as goal

pub load_node-node-requires-clause-there : goal.load_node-node-requires-clause-there
load_node-node-requires-clause-there c =
    let a = c.args in
    let has : Stock = stock_of a.self.now.heaps a.memory.now a.map.now in
    let some : c.address_at-address.result ≢ 0 = λ (e : c.address_at-address.result ≡ 0). absurd (omega (arith, e)) in
    found_there a.self.now.first a.self.now.last a.self.now.root has.nodes has.contents c.requires.files a.place c.address_at-address.result c.address_at-address.ensures some

pub returns-then-address-eq0-clause-address : goal.returns-then-address-eq0-clause-address
returns-then-address-eq0-clause-address c =
    let a = c.args in
    let has : Stock = stock_of a.self.now.heaps a.memory.now a.map.now in
    sym (no_node a.self.now.first a.self.now.last a.self.now.root has.nodes has.contents c.requires.files a.place c.address_at-address.result c.address_at-address.ensures (omega arith))

pub returns-clause-address : goal.returns-clause-address
returns-clause-address c =
    let a = c.args in
    let has : Stock = stock_of a.self.now.heaps a.memory.now a.map.now in
    let some : c.address_at-address.result ≢ 0 = λ (e : c.address_at-address.result ≡ 0). absurd (omega (arith, e)) in
    sym (placed a.self.now.first a.self.now.last a.self.now.root has.nodes has.contents c.requires.files a.place c.address_at-address.result c.address_at-address.ensures some)

pub returns-clause-kept : goal.returns-clause-kept
returns-clause-kept c =
    let a = c.args in
    let has : Stock = stock_of a.self.now.heaps a.memory.now a.map.now in
    let some : c.address_at-address.result ≢ 0 = λ (e : c.address_at-address.result ≡ 0). absurd (omega (arith, e)) in
    remembers a.self.now.first a.self.now.last a.self.now.root has.nodes has.contents c.requires.files a.place c.address_at-address.result c.address_at-address.ensures some
