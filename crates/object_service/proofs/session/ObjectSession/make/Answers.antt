-- The kind, the name and the objects are looked at first, then the heap.
use Rattle.std.proofs.Common.{◌≡◌, ◌∙◌, ◌<◌, true, Some, Err, is_some, sym, ap, subst, rules}
use Rattle.std.specs.Prelude.{IfSome, length}
use Rattle.std.specs.Result.{result_ok}
use Rattle.own_model.specs.FileText.FileError.{BadName, Exists}
use Rattle.own_model.specs.ObjectKinds.{kind_named}
use Rattle.own_model.specs.ObjectService.{object_named, told}
use Rattle.own_model.specs.ObjectText.ObjectError.{Shared}
use Rattle.own_model.specs.ObjectText.ObjectReply.{Refused}
use Rattle.own_model.specs.ObjectText.ObjectRequest.{Make}
use Rattle.own_model.proofs.NatMapLemmas.{some_of, none_of}
use Rattle.core_calls.specs.declared.object_error.ObjectError.TheVariants.{BadKind}
use Rattle.session_nodes.specs.Index.{previous_at}
use Rattle.session_nodes.specs.Node.{value_of}
use Rattle.session_nodes.specs.NodeList.{Finds}
use Rattle.session_nodes.specs.SessionHeaps.{stock_of}
use Rattle.session_nodes.specs.SoundHeaps.{Stock}
use Rattle.object_service.specs.Kinds.{kind_at}
use Rattle.object_service.specs.Session.{objects_in, created_in, done_reply, served_in, Serves}
use Rattle.object_service.proofs.FoundLemmas.{found_named, none_found}
use Rattle.object_service.proofs.KindLemmas.{kind_by, named_none, named_some}
use Rattle.object_service.proofs.ServeLemmas.{make_bad_kind, make_bad_name, make_created, make_exists, none_before, serves_same, serves_told}
use Rattle.object_service.proofs.session.ObjectSession.make.Goals.{In_ok-number}
use Rattle.object_service.proofs.session.ObjectSession.make.Goals as goal

-- the kind is offered
offered : (c : In_ok-number) → kind_named c.args.kind.now c.args.kinds.now ≡ Some (kind_at c.args.kinds.now c.in_ok-number.number)
offered c = named_some c.args.kinds.now c.args.kind.now c.in_ok-number.number (sym c.number_of.ensures.place ∙ c.ok_or.ensures.ok_part ∙ ap result_ok c.in_ok-number.was)

pub returns-then-is_some-clause-serves : goal.returns-then-is_some-clause-serves
returns-then-is_some-clause-serves c =
    let session = c.args.self.now in
    let list = session.nodes in
    let kinds = c.args.kinds.now in
    let name = c.args.name.now in
    let was : Stock = stock_of list.heaps c.args.memory.now c.args.map.now in
    let got = some_of c.find.result (sym c.if-is_some.ensures) in
    let found : Finds list was name got.0 = subst (λ o. IfSome o (Finds list was name)) got.1 c.find.ensures.some in
    let there : is_some (object_named name (objects_in kinds session was)) ≡ true =
    ap is_some (found_named kinds was.nodes name list.first list.last was.contents (previous_at was.nodes got.0.address) got.0.address (value_of got.0.node) found) in
    serves_same kinds (served_in kinds (Make c.args.kind.now name) session was) (Refused (Shared Exists)) session c.args.memory.now c.find.new.memory c.args.map.now c.requires.objects c.find.ensures.memory
    (make_exists kinds session was c.args.kind.now name _ (offered (goal.at.returns-then-is_some-clause-serves c).In_ok-number) (sym c.if-not-is_name.ensures) there)

pub returns-clause-serves : goal.returns-clause-serves
returns-clause-serves c =
    let session = c.args.self.now in
    let list = session.nodes in
    let kinds = c.args.kinds.now in
    let name = c.args.name.now in
    let number = c.in_ok-number.number in
    let was : Stock = stock_of list.heaps c.args.memory.now c.args.map.now in
    let now : Stock = stock_of c.create.new.self.nodes.heaps c.create.new.memory c.create.new.map in
    let none = none_found kinds was.nodes name c.find.result list.first c.find.ensures.none (none_of c.find.result (sym c.is_some.ensures ∙ c.if-is_some.false)) in
    let low : number < length kinds = subst (λ o. IfSome o (λ n. n < length kinds)) (c.ok_or.ensures.ok_part ∙ ap result_ok c.in_ok-number.was) c.number_of.ensures.low in
    let kind_is = kind_by kinds number _ low c.index-kinds-number.is in
    let is = make_created kinds session was c.args.kind.now name (kind_at kinds number) (offered (goal.at.returns-clause-serves c).In_ok-number) (sym c.if-not-is_name.ensures) none in
    let created = subst (λ k. let s = stock_of list.heaps c.find.new.memory c.args.map.now in Serves kinds (created_in k name (objects_in kinds session s) s.account) (done_reply c.create.result) session c.create.new.self now) (sym kind_is) (c.create.ensures.serves kinds kind_is) in
    let serves = subst (λ m. let s = stock_of list.heaps m c.args.map.now in Serves kinds (created_in (kind_at kinds number) name (objects_in kinds session s) s.account) (done_reply c.create.result) session c.create.new.self now) c.find.ensures.memory created in
    subst (λ served. Serves kinds served (done_reply c.create.result) session c.create.new.self now) (sym is) serves

pub returns-in_err-number-clause-serves : goal.returns-in_err-number-clause-serves
returns-in_err-number-clause-serves c =
    let session = c.args.self.now in
    let kinds = c.args.kinds.now in
    let was : Stock = stock_of session.nodes.heaps c.args.memory.now c.args.map.now in
    let none = named_none kinds c.args.kind.now (sym c.number_of.ensures.place ∙ none_before c.number_of.result c.ok_or.result _ c.ok_or.ensures.ok_part c.in_err-number.was) in
    let tells : c.from_residual.result ≡ Err BadKind = search rules in
    serves_told kinds (served_in kinds (Make c.args.kind.now c.args.name.now) session was) _ session was c.requires.objects
    (make_bad_kind kinds session was c.args.kind.now c.args.name.now none ∙ ap (λ r. told (done_reply r) (objects_in kinds session was) was.account) (sym tells))

pub returns-then-not-is_name-clause-serves : goal.returns-then-not-is_name-clause-serves
returns-then-not-is_name-clause-serves c =
    let session = c.args.self.now in
    let kinds = c.args.kinds.now in
    let was : Stock = stock_of session.nodes.heaps c.args.memory.now c.args.map.now in
    serves_told kinds (served_in kinds (Make c.args.kind.now c.args.name.now) session was) (Refused (Shared BadName)) session was c.requires.objects
    (make_bad_name kinds session was c.args.kind.now c.args.name.now _ (offered (goal.at.returns-then-not-is_name-clause-serves c).In_ok-number) (sym c.if-not-is_name.ensures))
