-- Where no node has the name no file has it.
use Rattle.session_nodes.specs.SessionHeaps.{stock_of}
use Rattle.session_nodes.specs.SoundHeaps.{Stock}
use Rattle.file_service.proofs.FileFoundLemmas.{no_file}
use Rattle.file_service.proofs.session.FileSession.find.Goals as goal

pub returns-clause-none : goal.returns-clause-none
returns-clause-none c =
    let was : Stock = stock_of c.args.self.now.nodes.heaps c.args.memory.now c.args.map.now in
    no_file c.find.result c.args.self.now.nodes.first was.nodes was.contents c.args.name.now c.find.ensures.none
