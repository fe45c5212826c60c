-- The file that is found gets no content.
use Rattle.std.proofs.Common.{◌∙◌, ap, subst, refl}
use Rattle.std.specs.Result.{result_ok}
use Rattle.own_model.specs.FileText.FileReply.{Done}
use Rattle.own_model.specs.FileText.FileRequest.{Clear}
use Rattle.session_nodes.specs.SoundHeaps.{Stock}
use Rattle.session_nodes.specs.SessionHeaps.{stock_of}
use Rattle.session_nodes.specs.NodeList.{Replaces}
use Rattle.file_service.specs.declared.session.FileSession.{FileSession}
use Rattle.file_service.specs.Session.{served_in}
use Rattle.file_service.proofs.FileChangeLemmas.{account_replaced, files_replaced}
use Rattle.file_service.proofs.FileThereLemmas.{IsThere, file_in, is_there}
use Rattle.file_service.proofs.FileFoundLemmas.{file_name}
use Rattle.session_nodes.proofs.AfterLemmas.{furnished_after, keeps_after}
use Rattle.file_service.proofs.ServeLemmas.{serves_done, clear_done, found_after, files_after}
use Rattle.session_nodes.proofs.ResultLemmas.{keeps_same}
use Rattle.file_service.proofs.session.FileSession.clear.Goals.{In_ok-found}
use Rattle.file_service.proofs.session.FileSession.clear.Goals as goal

-- the file that is found
there : (c : In_ok-found) → IsThere c.args.self.now c.args.memory.now c.args.map.now c.args.name.now c.in_ok-found.found
there c = is_there c.args.self.now c.args.map.now c.args.name.now c.in_ok-found.found c.find.ensures.some (c.ok_or.ensures.ok_part ∙ ap result_ok c.in_ok-found.was) refl

pub returns-clause-serves : goal.returns-clause-serves
returns-clause-serves c =
    let was : Stock = stock_of c.args.self.now.nodes.heaps c.args.memory.now c.args.map.now in
    let now : Stock = stock_of c.replace.new.self.heaps c.replace.new.memory c.replace.new.map in
    let is = there (goal.at.returns-clause-serves c).In_ok-found in
    let list = c.args.self.now.nodes in
    let later : FileSession = record c.args.self.now { nodes = c.replace.new.self } in
    let replaces : Replaces list c.replace.new.self c.in_ok-found.found.address 0 0 was now =
    subst (λ m. Replaces list c.replace.new.self c.in_ok-found.found.address 0 0 (stock_of list.heaps m c.args.map.now) now) c.find.ensures.memory c.replace.ensures.replaced in
    serves_done (served_in (Clear c.args.name.now) c.args.self.now was) Done _ _ c.args.self.now later now
    (clear_done c.args.name.now c.args.self.now was (file_in c.args.self.now c.args.memory.now c.args.map.now c.in_ok-found.found) is.named
    (file_name list.first list.last was.nodes was.contents c.args.name.now _ _ _ is.found))
    (account_replaced list c.replace.new.self was now c.args.name.now _ _ _ is.found 0 0 replaces)
    (files_replaced list c.replace.new.self was now c.args.name.now _ _ _ is.found 0 0 replaces)
    replaces.kept (record { label = refl; buffer = refl })

pub returns-in_err-found-clause-keeps : goal.returns-in_err-found-clause-keeps
returns-in_err-found-clause-keeps c = keeps_same c.requires.furnished refl refl c.find.ensures.memory refl

pub replace-requires-clause-furnished : goal.replace-requires-clause-furnished
replace-requires-clause-furnished c = furnished_after c.find.ensures.memory c.requires.furnished

pub replace-requires-clause-found : goal.replace-requires-clause-found
replace-requires-clause-found c = found_after c.args.self.now c.args.map.now c.args.name.now c.in_ok-found.found c.find.ensures.memory (there (goal.at.replace-requires-clause-found c).In_ok-found).found

pub replace-requires-clause-files : goal.replace-requires-clause-files
replace-requires-clause-files c = files_after c.args.self.now c.args.map.now c.find.ensures.memory c.requires.files

pub returns-clause-keeps : goal.returns-clause-keeps
returns-clause-keeps c = keeps_after c.find.ensures.memory c.replace.ensures.keeps
