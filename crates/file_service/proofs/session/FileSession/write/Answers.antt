-- The offset is looked at first, then whether the file gets longer.
use Rattle.std.proofs.Common.{◌∙◌, ap, subst, arith, refl}
use Rattle.std.specs.Prelude.{IfSome}
use Rattle.std.specs.Result.{result_ok}
use Rattle.own_model.specs.FileText.FileError.{Gap}
use Rattle.own_model.specs.FileText.FileReply.{Refused}
use Rattle.own_model.specs.FileText.FileRequest.{Write}
use Rattle.file_service.specs.Files.{file_at}
use Rattle.session_nodes.specs.Index.{previous_at}
use Rattle.session_nodes.specs.SoundHeaps.{Stock}
use Rattle.session_nodes.specs.SessionHeaps.{stock_of}
use Rattle.session_nodes.specs.Node.{value_of}
use Rattle.session_nodes.specs.NodeList.{Finds}
use Rattle.file_service.specs.Session.{served_in, Serves, counted_reply}
use Rattle.file_service.proofs.FileFoundLemmas.{found_named}
use Rattle.session_nodes.proofs.SearchLemmas.{found_long}
use Rattle.session_nodes.proofs.AfterLemmas.{furnished_after, keeps_after}
use Rattle.file_service.proofs.ServeLemmas.{serves_same, write_gap, found_after, files_after}
use Rattle.session_nodes.proofs.ResultLemmas.{keeps_same}
use Rattle.file_service.proofs.session.FileSession.write.Goals.{In_ok-found}
use Rattle.file_service.proofs.session.FileSession.write.Goals as goal

-- the file that is found
finds : (c : In_ok-found) → Finds c.args.self.now.nodes (stock_of c.args.self.now.nodes.heaps c.args.memory.now c.args.map.now) c.args.name.now c.in_ok-found.found
finds c =
    let was : Stock = stock_of c.args.self.now.nodes.heaps c.args.memory.now c.args.map.now in
    subst (λ o. IfSome o (Finds c.args.self.now.nodes was c.args.name.now)) (c.ok_or.ensures.ok_part ∙ ap result_ok c.in_ok-found.was) c.find.ensures.some

pub returns-then-offset-found-clause-serves : goal.returns-then-offset-found-clause-serves
returns-then-offset-found-clause-serves c =
    let was : Stock = stock_of c.args.self.now.nodes.heaps c.args.memory.now c.args.map.now in
    let found = finds (goal.at.returns-then-offset-found-clause-serves c).In_ok-found in
    let previous = previous_at was.nodes c.in_ok-found.found.address in
    let address = c.in_ok-found.found.address in
    let node = value_of c.in_ok-found.found.node in
    let long = found_long c.args.self.now.nodes.first c.args.self.now.nodes.last was.nodes was.contents c.args.name.now previous address node found in
    serves_same (served_in (Write c.args.name.now c.args.offset c.args.bytes.now) c.args.self.now was) (Refused Gap) c.args.self.now c.args.memory.now c.find.new.memory c.args.map.now
    c.requires.files c.find.ensures.memory
    (write_gap c.args.name.now c.args.self.now was c.args.offset c.args.bytes.now (file_at was.nodes was.contents address)
    (found_named c.args.self.now.nodes.first c.args.self.now.nodes.last was.nodes was.contents c.args.name.now previous address node found) (omega (arith, long)))

pub returns-in_err-found-clause-keeps : goal.returns-in_err-found-clause-keeps
returns-in_err-found-clause-keeps c = keeps_same c.requires.furnished refl refl c.find.ensures.memory refl

pub returns-then-offset-found-clause-keeps : goal.returns-then-offset-found-clause-keeps
returns-then-offset-found-clause-keeps c = keeps_same c.requires.furnished refl refl c.find.ensures.memory refl

pub overwrite-requires-clause-furnished : goal.overwrite-requires-clause-furnished
overwrite-requires-clause-furnished c = furnished_after c.find.ensures.memory c.requires.furnished

pub overwrite-requires-clause-files : goal.overwrite-requires-clause-files
overwrite-requires-clause-files c = files_after c.args.self.now c.args.map.now c.find.ensures.memory c.requires.files

pub overwrite-requires-clause-found : goal.overwrite-requires-clause-found
overwrite-requires-clause-found c =
    found_after c.args.self.now c.args.map.now c.args.name.now c.in_ok-found.found c.find.ensures.memory (finds (goal.at.overwrite-requires-clause-found c).In_ok-found)

pub returns-clause-keeps : goal.returns-clause-keeps
returns-clause-keeps c = keeps_after c.find.ensures.memory c.overwrite.ensures.keeps

pub returns-clause-serves : goal.returns-clause-serves
returns-clause-serves c =
    let was : Stock = stock_of c.args.self.now.nodes.heaps c.args.memory.now c.args.map.now in
    let now : Stock = stock_of c.overwrite.new.self.nodes.heaps c.overwrite.new.memory c.overwrite.new.map in
    let address = c.in_ok-found.found.address in
    let node = value_of c.in_ok-found.found.node in
    let called = (finds (goal.at.returns-clause-serves c).In_ok-found).named in
    subst (λ n. Serves (served_in (Write n c.args.offset c.args.bytes.now) c.args.self.now was) (counted_reply c.overwrite.result) c.args.self.now c.overwrite.new.self now) called
    (subst (λ m. Serves (served_in (Write node.name c.args.offset c.args.bytes.now) c.args.self.now (stock_of c.args.self.now.nodes.heaps m c.args.map.now)) (counted_reply c.overwrite.result) c.args.self.now c.overwrite.new.self now) c.find.ensures.memory
    c.overwrite.ensures.serves)
