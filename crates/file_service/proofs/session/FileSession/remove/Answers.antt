-- The node of the file that is found is removed.
use Rattle.std.proofs.Common.{◌∙◌, ap, subst, refl}
use Rattle.std.specs.Result.{result_ok}
use Rattle.own_model.specs.FileText.FileReply.{Done}
use Rattle.own_model.specs.FileText.FileRequest.{Drop}
use Rattle.session_nodes.specs.SoundHeaps.{Stock}
use Rattle.session_nodes.specs.SessionHeaps.{stock_of}
use Rattle.session_nodes.specs.NodeList.{Removes}
use Rattle.file_service.specs.Session.{served_in}
use Rattle.file_service.specs.declared.session.FileSession.{FileSession}
use Rattle.session_nodes.proofs.AfterLemmas.{furnished_after, keeps_after}
use Rattle.session_nodes.proofs.ResultLemmas.{keeps_same}
use Rattle.file_service.proofs.FileChangeLemmas.{account_removed, files_removed}
use Rattle.file_service.proofs.FileThereLemmas.{IsThere, file_in, is_there}
use Rattle.file_service.proofs.FileFoundLemmas.{file_name}
use Rattle.file_service.proofs.ServeLemmas.{serves_done, drop_done, found_after, files_after}
use Rattle.file_service.proofs.session.FileSession.remove.Goals.{In_ok-found}
use Rattle.file_service.proofs.session.FileSession.remove.Goals as goal

-- the file that is found
there : (c : In_ok-found) → IsThere c.args.self.now c.args.memory.now c.args.map.now c.args.name.now c.in_ok-found.found
there c = is_there c.args.self.now c.args.map.now c.args.name.now c.in_ok-found.found c.find.ensures.some (c.ok_or.ensures.ok_part ∙ ap result_ok c.in_ok-found.was) refl

pub returns-clause-serves : goal.returns-clause-serves
returns-clause-serves c =
    let was : Stock = stock_of c.args.self.now.nodes.heaps c.args.memory.now c.args.map.now in
    let now : Stock = stock_of c.remove.new.self.heaps c.remove.new.memory c.remove.new.map in
    let is = there (goal.at.returns-clause-serves c).In_ok-found in
    let list = c.args.self.now.nodes in
    let later : FileSession = record c.args.self.now { nodes = c.remove.new.self } in
    let removes : Removes list c.remove.new.self c.in_ok-found.found.address was now =
    subst (λ m. Removes list c.remove.new.self c.in_ok-found.found.address (stock_of list.heaps m c.args.map.now) now) c.find.ensures.memory c.remove.ensures.removed in
    serves_done (served_in (Drop c.args.name.now) c.args.self.now was) Done _ _ c.args.self.now later now
    (drop_done c.args.name.now c.args.self.now was (file_in c.args.self.now c.args.memory.now c.args.map.now c.in_ok-found.found) is.named
    (file_name list.first list.last was.nodes was.contents c.args.name.now _ _ _ is.found))
    (account_removed list c.remove.new.self was now c.args.name.now _ _ _ is.found removes)
    (files_removed list c.remove.new.self was now c.args.name.now _ _ _ is.found removes) removes.kept (record { label = refl; buffer = refl })

pub returns-in_err-found-clause-keeps : goal.returns-in_err-found-clause-keeps
returns-in_err-found-clause-keeps c = keeps_same c.requires.furnished refl refl c.find.ensures.memory refl

pub remove-requires-clause-furnished : goal.remove-requires-clause-furnished
remove-requires-clause-furnished c = furnished_after c.find.ensures.memory c.requires.furnished

pub remove-requires-clause-files : goal.remove-requires-clause-files
remove-requires-clause-files c = files_after c.args.self.now c.args.map.now c.find.ensures.memory c.requires.files

pub remove-requires-clause-found : goal.remove-requires-clause-found
remove-requires-clause-found c = found_after c.args.self.now c.args.map.now c.args.name.now c.in_ok-found.found c.find.ensures.memory (there (goal.at.remove-requires-clause-found c).In_ok-found).found

pub returns-clause-keeps : goal.returns-clause-keeps
returns-clause-keeps c = keeps_after c.find.ensures.memory c.remove.ensures.keeps
