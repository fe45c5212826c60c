-- The name and the files are looked at first, then the heap.
use Rattle.std.proofs.Common.{◌≡◌, ◌∙◌, true, Some, None, Err, is_some, sym, ap, subst, rules, refl}
use Rattle.std.specs.Prelude.{IfSome, IfNone, IfOk, OnErr}
use Rattle.std.specs.Result.{result_err}
use Rattle.own_model.specs.FileService.{FileServed, node_size, file_named, error_of, told}
use Rattle.own_model.specs.FileText.FileReply.{Refused}
use Rattle.own_model.specs.FileText.FileError.{Exists}
use Rattle.own_model.specs.FileText.FileRequest.{Create}
use Rattle.own_model.specs.Growth.{heap_refusal, hole_for}
use Rattle.own_model.proofs.NatMapLemmas.{some_of, none_of}
use Rattle.session_nodes.specs.Index.{previous_at}
use Rattle.session_nodes.specs.SoundHeaps.{Stock}
use Rattle.session_nodes.specs.SessionHeaps.{stock_of}
use Rattle.session_nodes.specs.Node.{value_of}
use Rattle.session_nodes.specs.NodeList.{nodes_in, Creates, Finds, NoneHas}
use Rattle.session_nodes.specs.declared.node_list.NodeList.{NodeList}
use Rattle.file_service.specs.Session.{files_in, served_in, done_reply}
use Rattle.session_proto.specs.FileReply.{model_error}
use Rattle.session_nodes.proofs.AfterLemmas.{furnished_after, keeps_after}
use Rattle.session_nodes.proofs.ResultLemmas.{err_case, err_and, keeps_same, was_ok}
use Rattle.file_service.proofs.FileChangeLemmas.{created_is, files_created}
use Rattle.file_service.proofs.FileFoundLemmas.{found_named, name_fits, none_has}
use Rattle.file_service.proofs.ServeLemmas.{serves_same, create_exists, create_done, create_refused, serves_refused, files_after}
use Rattle.file_service.proofs.session.FileSession.create.Goals as goal

pub returns-then-is_some-clause-serves : goal.returns-then-is_some-clause-serves
returns-then-is_some-clause-serves c =
    let was : Stock = stock_of c.args.self.now.nodes.heaps c.args.memory.now c.args.map.now in
    let got = some_of c.find.result (sym c.if-is_some.ensures) in
    let found : Finds c.args.self.now.nodes was c.args.name.now got.0 = subst (λ o. IfSome o (Finds c.args.self.now.nodes was c.args.name.now)) got.1 c.find.ensures.some in
    let there : is_some (file_named c.args.name.now (files_in c.args.self.now was)) ≡ true =
    ap is_some (found_named c.args.self.now.nodes.first c.args.self.now.nodes.last was.nodes was.contents c.args.name.now (previous_at was.nodes got.0.address) got.0.address (value_of got.0.node) found) in
    serves_same (served_in (Create c.args.name.now) c.args.self.now was) (Refused Exists) c.args.self.now c.args.memory.now c.find.new.memory c.args.map.now
    c.requires.files c.find.ensures.memory (create_exists c.args.name.now c.args.self.now was (sym c.if-not-is_name.ensures) there)

pub create-requires-clause-furnished : goal.create-requires-clause-furnished
create-requires-clause-furnished c = furnished_after c.find.ensures.memory c.requires.furnished

pub create-requires-clause-files : goal.create-requires-clause-files
create-requires-clause-files c = files_after c.args.self.now c.args.map.now c.find.ensures.memory c.requires.files

pub create-requires-clause-name : goal.create-requires-clause-name
create-requires-clause-name c = name_fits c.args.name.now (sym c.if-not-is_name.ensures)

pub create-requires-clause-new : goal.create-requires-clause-new
create-requires-clause-new c =
    let was : Stock = stock_of c.args.self.now.nodes.heaps c.args.memory.now c.args.map.now in
    let none_found = none_of c.find.result (sym c.is_some.ensures ∙ c.if-is_some.false) in
    let none : file_named c.args.name.now (files_in c.args.self.now was) ≡ None =
    subst (λ o. IfNone o (file_named c.args.name.now (files_in c.args.self.now was) ≡ None)) none_found c.find.ensures.none in
    subst (λ m. let s = stock_of c.args.self.now.nodes.heaps m c.args.map.now in NoneHas s.nodes c.args.name.now (nodes_in c.args.self.now.nodes s)) (sym c.find.ensures.memory)
    (none_has was.nodes was.contents c.args.name.now (nodes_in c.args.self.now.nodes was) none)

pub returns-clause-serves : goal.returns-clause-serves
returns-clause-serves c =
    let was : Stock = stock_of c.args.self.now.nodes.heaps c.args.memory.now c.args.map.now in
    let now : Stock = stock_of c.create.new.self.heaps c.create.new.memory c.create.new.map in
    let list = c.args.self.now.nodes in
    let name = c.args.name.now in
    let ok = was_ok c.create.result c.map_err.result c.in_ok-_node._node _ c.map_err.ensures.cases c.map_err.ensures.variant c.in_ok-_node.was in
    let address = c.in_ok-_node._node in
    let creates : Creates list c.create.new.self node_size address name was now =
    subst (λ m. Creates list c.create.new.self node_size address name (stock_of list.heaps m c.args.map.now) now) c.find.ensures.memory
    (subst (λ r. IfOk r (λ a. Creates list c.create.new.self node_size a name (stock_of list.heaps c.find.new.memory c.args.map.now) now)) ok c.create.ensures.created) in
    let none_found = none_of c.find.result (sym c.is_some.ensures ∙ c.if-is_some.false) in
    let none : file_named name (files_in c.args.self.now was) ≡ None =
    subst (λ o. IfNone o (file_named name (files_in c.args.self.now was) ≡ None)) none_found c.find.ensures.none in
    let granted : heap_refusal node_size was.nodes.shape was.account ≡ None =
    subst (λ m. let s = stock_of list.heaps m c.args.map.now in heap_refusal node_size s.nodes.shape s.account ≡ None) c.find.ensures.memory
    (sym c.create.ensures.refusal ∙ ap result_err ok) in
    let is = create_done name c.args.self.now was (sym c.if-not-is_name.ensures) none granted ∙ created_is name (hole_for node_size was.nodes.shape) (files_in c.args.self.now was) was.account in
    record {
      reply_is = ap (λ (s : FileServed). s.reply) (sym is);
      leaves = record {
        account = creates.account ∙ ap (λ (s : FileServed). s.account) (sym is);
        files = files_created list c.create.new.self address name was now creates ∙ ap (λ (s : FileServed). s.files) (sym is);
        kept = creates.kept;
        own = record { label = refl; buffer = refl };
      };
    }

pub returns-in_err-_node-clause-serves : goal.returns-in_err-_node-clause-serves
returns-in_err-_node-clause-serves c =
    let was : Stock = stock_of c.args.self.now.nodes.heaps c.args.memory.now c.args.map.now in
    let refused = err_case c.create.result c.map_err.result c.in_err-_node.field-0.0 _ c.map_err.ensures.cases c.map_err.ensures.variant c.in_err-_node.was in
    let error : model_error c.in_err-_node.field-0.0 ≡ error_of refused.0 = err_and c.map_err.result c.in_err-_node.field-0.0 _ c.in_err-_node.was refused.1.1 in
    let tells : c.from_residual.result ≡ Err c.in_err-_node.field-0.0 = search rules in
    let none : file_named c.args.name.now (files_in c.args.self.now was) ≡ None =
    subst (λ o. IfNone o (file_named c.args.name.now (files_in c.args.self.now was) ≡ None)) (none_of c.find.result (sym c.is_some.ensures ∙ c.if-is_some.false)) c.find.ensures.none in
    let short : heap_refusal node_size was.nodes.shape was.account ≡ Some refused.0 =
    subst (λ m. let s = stock_of c.args.self.now.nodes.heaps m c.args.map.now in heap_refusal node_size s.nodes.shape s.account ≡ Some refused.0) c.find.ensures.memory
    (sym c.create.ensures.refusal ∙ ap result_err refused.1.0) in
    let same : c.create.new.self ≡ c.args.self.now.nodes = subst (λ r. OnErr r (c.create.new.self ≡ c.args.self.now.nodes)) refused.1.0 c.create.ensures.err in
    serves_refused (served_in (Create c.args.name.now) c.args.self.now was) _ c.args.self.now (record c.args.self.now { nodes = c.create.new.self }) c.args.memory.now c.create.new.memory c.args.map.now c.create.new.map c.requires.files
    (ap (λ (l : NodeList). record c.args.self.now { nodes = l }) same)
    (subst (λ r. OnErr r (c.create.new.memory ≡ c.find.new.memory)) refused.1.0 c.create.ensures.memory_err ∙ c.find.ensures.memory)
    (subst (λ r. OnErr r (c.create.new.map ≡ c.args.map.now)) refused.1.0 c.create.ensures.map_err)
    (create_refused c.args.name.now c.args.self.now was (sym c.if-not-is_name.ensures) none refused.0 short
    ∙ ap (λ e. told (Refused e) (files_in c.args.self.now was) was.account) (sym error)
    ∙ ap (λ r. told (done_reply r) (files_in c.args.self.now was) was.account) (sym tells))

pub returns-then-is_some-clause-keeps : goal.returns-then-is_some-clause-keeps
returns-then-is_some-clause-keeps c = keeps_same c.requires.furnished refl refl c.find.ensures.memory refl

pub returns-in_err-_node-clause-keeps : goal.returns-in_err-_node-clause-keeps
returns-in_err-_node-clause-keeps c = keeps_after c.find.ensures.memory c.create.ensures.keeps

pub returns-clause-keeps : goal.returns-clause-keeps
returns-clause-keeps c = keeps_after c.find.ensures.memory c.create.ensures.keeps
