-- The file is written over where it gets no longer.
use Rattle.std.proofs.Common.{length, arith}
use Rattle.session_nodes.specs.SoundHeaps.{Stock}
use Rattle.session_nodes.specs.SessionHeaps.{stock_of}
use Rattle.session_nodes.specs.Node.{value_of}
use Rattle.session_nodes.specs.Source.{bytes_from}
use Rattle.session_nodes.proofs.SearchLemmas.{found_has}
use Rattle.file_service.proofs.ServeLemmas.{serves_told}
use Rattle.file_service.proofs.WriteLemmas.{nothing_told, over_served}
use Rattle.file_service.proofs.session.FileSession.overwrite.Goals as goal

pub lengthen-requires-clause-longer : goal.lengthen-requires-clause-longer
lengthen-requires-clause-longer c =
    let count_is = c.count-count.ensures c.args.self.now.nodes.heaps.contents c.args.memory.now c.args.map.now c.requires.source in
    omega (arith, count_is, c.requires.low)

pub put_content-requires-clause-there : goal.put_content-requires-clause-there
put_content-requires-clause-there c =
    let was : Stock = stock_of c.args.self.now.nodes.heaps c.args.memory.now c.args.map.now in
    let count_is = c.count-count.ensures c.args.self.now.nodes.heaps.contents c.args.memory.now c.args.map.now c.requires.source in
    found_has c.args.self.now.nodes.first c.args.self.now.nodes.last was.nodes was.contents _ _ c.args.found.address (value_of c.args.found.node) c.requires.found
    c.args.offset (length (bytes_from c.args.source c.args.memory.now)) (omega (arith, count_is)) (omega (arith, count_is, c.requires.low))

pub returns-then-count-gt0-clause-serves : goal.returns-then-count-gt0-clause-serves
returns-then-count-gt0-clause-serves c =
    let was : Stock = stock_of c.args.self.now.nodes.heaps c.args.memory.now c.args.map.now in
    let now : Stock = stock_of c.args.self.now.nodes.heaps c.put_content.new.memory c.args.map.now in
    let count_is = c.count-count.ensures c.args.self.now.nodes.heaps.contents c.args.memory.now c.args.map.now c.requires.source in
    rw count_is
    (over_served c.args.self.now was _ _ _ (value_of c.args.found.node) c.requires.found c.args.offset (bytes_from c.args.source c.args.memory.now) (omega (arith, count_is, c.requires.low)) (omega (arith, count_is)) c.requires.files.indexed now
    c.put_content.ensures.written)

pub returns-else-count-gt0-clause-serves : goal.returns-else-count-gt0-clause-serves
returns-else-count-gt0-clause-serves c =
    let was : Stock = stock_of c.args.self.now.nodes.heaps c.args.memory.now c.args.map.now in
    let count_is = c.count-count.ensures c.args.self.now.nodes.heaps.contents c.args.memory.now c.args.map.now c.requires.source in
    serves_told _ _ c.args.self.now was c.requires.files
    (rw count_is (nothing_told c.args.self.now was _ _ _ _ c.requires.found c.args.offset (bytes_from c.args.source c.args.memory.now) (omega (arith, count_is, c.requires.low)) (omega (arith, count_is))))
