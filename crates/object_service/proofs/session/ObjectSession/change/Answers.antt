-- The new content is taken and given to the object, and then its units.
use Rattle.std.proofs.Common.{◌≡◌, ◌∙◌, ◌*◌, None, sym, ap, subst, refl}
use Rattle.std.specs.Prelude.{IfOk, ◌%◌}
use Rattle.std.specs.Option.{option_map}
use Rattle.std.specs.Result.{result_err}
use Rattle.own_model.specs.ObjectService.{contents_refusal}
use Rattle.own_model.specs.ObjectText.ObjectReply.{Done}
use Rattle.core_calls.specs.ObjectError.{model_object_error}
use Rattle.session_nodes.specs.Index.{previous_at}
use Rattle.session_nodes.specs.Node.{value_of}
use Rattle.session_nodes.specs.NodeList.{IsFound}
use Rattle.session_nodes.specs.SessionHeaps.{stock_of}
use Rattle.session_nodes.specs.SoundHeaps.{Stock}
use Rattle.session_nodes.specs.declared.node_list.NodeList.{NodeList}
use Rattle.session_nodes.proofs.AfterLemmas.{keeps_both}
use Rattle.object_service.specs.Calls.{TakesContent}
use Rattle.object_service.specs.Counts.{AreCounted}
use Rattle.object_service.specs.Objects.{object_at, unit_at, IsObject}
use Rattle.object_service.specs.Session.{objects_in, resized_in}
use Rattle.object_service.specs.declared.session.ObjectSession.{ObjectSession}
use Rattle.object_service.proofs.ChangeLemmas.{account_changed, listed_still, nodes_changed, numbers_changed, objects_changed, room_still}
use Rattle.object_service.proofs.FoundLemmas.{found_own, listed_found}
use Rattle.object_service.proofs.ServeLemmas.{resized_done, serves_done}
use Rattle.session_nodes.proofs.ResultLemmas.{sum_is}
use Rattle.object_service.proofs.TakenLemmas.{found_taken, nodes_taken, own_taken}
use Rattle.object_service.proofs.session.ObjectSession.change.Goals.{In_ok-content}
use Rattle.object_service.proofs.session.ObjectSession.change.Goals as goal

-- what is taken for the units
record IsTaken (c : In_ok-content) : Type 0 where
  size_is : c.in_ok-size.size ≡ c.args.units * unit_at (stock_of c.args.self.now.nodes.heaps c.args.memory.now c.args.map.now).nodes c.args.found.address
  takes : TakesContent c.in_ok-size.size c.in_ok-content.content (stock_of c.args.self.now.nodes.heaps c.args.memory.now c.args.map.now) (stock_of c.take_content.new.heaps c.take_content.new.memory c.take_content.new.map)
  granted : contents_refusal c.in_ok-size.size (stock_of c.args.self.now.nodes.heaps c.args.memory.now c.args.map.now).account ≡ None
  object : IsObject (stock_of c.args.self.now.nodes.heaps c.args.memory.now c.args.map.now).nodes c.args.found.address

taken : (c : In_ok-content) → IsTaken c
taken c =
    let list = c.args.self.now.nodes in
    let was : Stock = stock_of list.heaps c.args.memory.now c.args.map.now in
    let now : Stock = stock_of c.take_content.new.heaps c.take_content.new.memory c.take_content.new.map in
    let address = c.args.found.address in
    let product = sum_is c.checked_mul.result c.ok_or.result _ c.in_ok-size.size (c.args.units * (c.args.word % 65536)) c.checked_mul.ensures c.ok_or.ensures.ok_part c.in_ok-size.was in
    record {
      size_is = product ∙ ap (λ w. c.args.units * (w % 65536)) c.requires.word;
      takes = subst (λ r. IfOk r (λ content. TakesContent c.in_ok-size.size content was now)) c.in_ok-content.was c.take_content.ensures.taken;
      granted = sym c.take_content.ensures.refusal ∙ ap (λ r. option_map model_object_error (result_err r)) c.in_ok-content.was;
      object = c.requires.objects.objects address (listed_found list.first list.last was.nodes was.contents _ (previous_at was.nodes address) address (value_of c.args.found.node) c.requires.found);
    }

pub replace-requires-clause-files : goal.replace-requires-clause-files
replace-requires-clause-files c =
    let t = taken (goal.at.replace-requires-clause-files c).In_ok-content in
    nodes_taken c.args.self.now.nodes _ _ _ _ t.takes c.requires.objects.nodes

pub replace-requires-clause-own : goal.replace-requires-clause-own
replace-requires-clause-own c some =
    let t = taken (goal.at.replace-requires-clause-own c).In_ok-content in
    own_taken c.args.self.now.nodes _ _ _ _ t.takes c.requires.objects.nodes some

pub replace-requires-clause-found : goal.replace-requires-clause-found
replace-requires-clause-found c =
    let t = taken (goal.at.replace-requires-clause-found c).In_ok-content in
    let list = c.args.self.now.nodes in
    let address = c.args.found.address in
    let was : Stock = stock_of list.heaps c.args.memory.now c.args.map.now in
    let now : Stock = stock_of c.take_content.new.heaps c.take_content.new.memory c.take_content.new.map in
    subst (λ n. IsFound list.first list.last now.nodes now.contents c.args.found.node.name.items (previous_at n address) address (value_of c.args.found.node)) (sym t.takes.nodes)
    (found_taken list was now _ _ t.takes c.args.found.node.name.items (previous_at was.nodes address) address (value_of c.args.found.node) c.requires.found)

pub put_words-requires-clause-listed : goal.put_words-requires-clause-listed
put_words-requires-clause-listed c =
    let t = taken (goal.at.put_words-requires-clause-listed c).In_ok-content in
    let list : NodeList = record c.args.self.now.nodes { heaps = c.take_content.new.heaps } in
    listed_still list c.replace.new.self _ _ _ _ _ _ _ c.requires.found _ _ t.takes c.replace.ensures.replaced

pub put_words-requires-clause-room : goal.put_words-requires-clause-room
put_words-requires-clause-room c =
    let t = taken (goal.at.put_words-requires-clause-room c).In_ok-content in
    let list : NodeList = record c.args.self.now.nodes { heaps = c.take_content.new.heaps } in
    room_still list c.replace.new.self _ _ _ _ _ _ _ c.requires.found _ _ t.takes c.replace.ensures.replaced t.object

pub returns-clause-serves : goal.returns-clause-serves
returns-clause-serves c kinds =
    let t = taken (goal.at.returns-clause-serves c).In_ok-content in
    let list : NodeList = record c.args.self.now.nodes { heaps = c.take_content.new.heaps } in
    let address = c.args.found.address in
    let units = c.args.units in
    let was : Stock = stock_of c.args.self.now.nodes.heaps c.args.memory.now c.args.map.now in
    let made : Stock = stock_of c.take_content.new.heaps c.take_content.new.memory c.take_content.new.map in
    let mid : Stock = stock_of c.replace.new.self.heaps c.replace.new.memory c.replace.new.map in
    let now : Stock = stock_of c.replace.new.self.heaps c.put_words.new.memory c.replace.new.map in
    let later : ObjectSession = record c.args.self.now { nodes = c.replace.new.self } in
    let object = object_at kinds was.nodes address in
    let objects = objects_in kinds c.args.self.now was in
    let found = found_own list.first list.last was.nodes was.contents c.args.found.node.name.items (previous_at was.nodes address) address (value_of c.args.found.node) c.requires.found in
    let granted = ap (λ n. contents_refusal n was.account) (sym t.size_is) ∙ t.granted in
    let replaces = c.replace.ensures.replaced in
    let puts = c.put_words.ensures.put in
    serves_done kinds (resized_in units object objects was.account) Done _ _ c.args.self.now later now
    (resized_done units object objects was.account granted)
    (account_changed list c.replace.new.self was made mid now object.name _ address _ found c.in_ok-size.size c.in_ok-content.content c.args.word units t.takes replaces puts c.requires.word kinds t.object t.size_is)
    (objects_changed list c.replace.new.self was made mid now object.name _ address _ found c.in_ok-size.size c.in_ok-content.content c.args.word units t.takes replaces puts c.requires.word kinds)
    (record {
      nodes = puts.kept;
      objects = nodes_changed list c.replace.new.self was made mid now object.name _ address _ found c.in_ok-size.size c.in_ok-content.content c.args.word units t.takes replaces puts c.requires.word c.requires.objects.objects t.size_is;
      counted = subst (AreCounted c.args.self.now.counts) (sym (numbers_changed list c.replace.new.self was made mid now object.name _ address _ found c.in_ok-size.size c.in_ok-content.content c.args.word units t.takes replaces puts c.requires.word)) c.requires.objects.counted;
    })
    (record { label = refl; buffer = refl })

pub returns-clause-keeps : goal.returns-clause-keeps
returns-clause-keeps c = keeps_both _ _ _ _ _ _ _ _ _ _ _ c.take_content.ensures.keeps (keeps_both _ _ _ _ _ _ _ _ _ _ _ c.replace.ensures.keeps c.put_words.ensures.keeps)
