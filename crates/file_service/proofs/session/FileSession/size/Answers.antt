-- The size is that of the node that is found.
use Rattle.std.proofs.Common.{◌≡◌, ◌∙◌, Some, ap, subst}
use Rattle.std.specs.Prelude.{IfSome}
use Rattle.std.specs.Result.{result_ok}
use Rattle.file_service.specs.Files.{file_at}
use Rattle.session_nodes.specs.Index.{previous_at}
use Rattle.session_nodes.specs.SoundHeaps.{Stock}
use Rattle.session_nodes.specs.SessionHeaps.{stock_of}
use Rattle.session_nodes.specs.Node.{value_of}
use Rattle.session_nodes.specs.NodeList.{Finds}
use Rattle.file_service.proofs.FileFoundLemmas.{found_named}
use Rattle.session_nodes.proofs.SearchLemmas.{found_long}
use Rattle.file_service.proofs.ServeLemmas.{size_found}
use Rattle.file_service.proofs.session.FileSession.size.Goals as goal

pub returns-clause-told : goal.returns-clause-told
returns-clause-told c =
    let was : Stock = stock_of c.args.self.now.nodes.heaps c.args.memory.now c.args.map.now in
    let some : c.find.result ≡ Some c.in_ok-found.found = c.ok_or.ensures.ok_part ∙ ap result_ok c.in_ok-found.was in
    let found : Finds c.args.self.now.nodes was c.args.name.now c.in_ok-found.found = subst (λ o. IfSome o (Finds c.args.self.now.nodes was c.args.name.now)) some c.find.ensures.some in
    let previous = (previous_at was.nodes c.in_ok-found.found.address) in
    let address = c.in_ok-found.found.address in
    let node = value_of c.in_ok-found.found.node in
    size_found c.args.name.now c.args.self.now was (file_at was.nodes was.contents address) c.in_ok-found.found.node.size
    (found_named c.args.self.now.nodes.first c.args.self.now.nodes.last was.nodes was.contents c.args.name.now previous address node found)
    (found_long c.args.self.now.nodes.first c.args.self.now.nodes.last was.nodes was.contents c.args.name.now previous address node found)
