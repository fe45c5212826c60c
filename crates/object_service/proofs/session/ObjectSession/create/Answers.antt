-- The block is taken, its words are put, and the object is counted.
use Rattle.std.proofs.Common.{◌≡◌, ◌∙◌, ◌+◌, ◌*◌, ◌∷◌, [], None, Some, Err, length, sym, ap, subst, rules, refl, arith, length-append}
use Rattle.std.proofs.lemmas.List.{length-map}
use Rattle.std.specs.Prelude.{IfOk, OnErr}
use Rattle.std.specs.Result.{result_err}
use Rattle.own_model.specs.Growth.{heap_refusal}
use Rattle.own_model.specs.ObjectService.{told, made_in}
use Rattle.own_model.specs.ObjectText.ObjectReply.{Done, Refused}
use Rattle.core_calls.specs.ObjectError.{model_object_error}
use Rattle.session_nodes.specs.Frame.{is_listed}
use Rattle.session_nodes.specs.NodeList.{nodes_in, taken_in, Creates}
use Rattle.session_nodes.specs.SessionHeaps.{stock_of}
use Rattle.session_nodes.specs.SoundHeaps.{Stock}
use Rattle.session_nodes.specs.declared.node_list.NodeList.{NodeList}
use Rattle.session_nodes.proofs.AfterLemmas.{keeps_both}
use Rattle.session_nodes.proofs.LinkLemmas.{listed_last}
use Rattle.session_nodes.proofs.ResultLemmas.{err_case, err_and, was_ok}
use Rattle.object_service.specs.Calls.{refusal_error}
use Rattle.object_service.specs.Counts.{AreCounted}
use Rattle.object_service.specs.Objects.{number_at, numbers_of}
use Rattle.object_service.specs.Session.{objects_in, created_in, done_reply}
use Rattle.object_service.specs.declared.session.ObjectSession.{ObjectSession}
use Rattle.object_service.proofs.ChangeLemmas.{HasKind, objects_created, numbers_created, nodes_created}
use Rattle.object_service.proofs.KeptLemmas.{few_nodes}
use Rattle.object_service.proofs.ServeLemmas.{created_done, created_refused, serves_done, serves_refused}
use Rattle.object_service.proofs.WordLemmas.{room_of}
use Rattle.object_service.proofs.session.ObjectSession.create.Goals.{In_ok-address}
use Rattle.object_service.proofs.session.ObjectSession.create.Goals as goal

-- the block that is taken is one of the kind
record IsTaken (c : In_ok-address) : Type 0 where
  creates : Creates c.args.self.now.nodes c.create.new.self c.args.kind.now.block c.in_ok-address.address c.args.name.now
      (stock_of c.args.self.now.nodes.heaps c.args.memory.now c.args.map.now) (stock_of c.create.new.self.heaps c.create.new.memory c.create.new.map)
  granted : let was = stock_of c.args.self.now.nodes.heaps c.args.memory.now c.args.map.now in heap_refusal c.args.kind.now.block was.nodes.shape was.account ≡ None

taken : (c : In_ok-address) → IsTaken c
taken c =
    let was : Stock = stock_of c.args.self.now.nodes.heaps c.args.memory.now c.args.map.now in
    let mid : Stock = stock_of c.create.new.self.heaps c.create.new.memory c.create.new.map in
    let block : c.from-block.result ≡ c.args.kind.now.block = search rules in
    let ok = was_ok c.create.result c.map_err.result c.in_ok-address.address _ c.map_err.ensures.cases c.map_err.ensures.variant c.in_ok-address.was in
    let creates = subst (λ r. IfOk r (λ a. Creates c.args.self.now.nodes c.create.new.self c.from-block.result a c.args.name.now was mid)) ok c.create.ensures.created in
    record {
      creates = subst (λ n. Creates c.args.self.now.nodes c.create.new.self n c.in_ok-address.address c.args.name.now was mid) block creates;
      granted = ap (λ n. heap_refusal n was.nodes.shape was.account) (sym block) ∙ sym c.create.ensures.refusal ∙ ap result_err ok;
    }

pub returns-in_err-address-clause-serves : goal.returns-in_err-address-clause-serves
returns-in_err-address-clause-serves c kinds is =
    let was : Stock = stock_of c.args.self.now.nodes.heaps c.args.memory.now c.args.map.now in
    let kind = c.args.kind.now in
    let block : c.from-block.result ≡ kind.block = search rules in
    let refused = err_case c.create.result c.map_err.result c.in_err-address.field-0.0 _ c.map_err.ensures.cases c.map_err.ensures.variant c.in_err-address.was in
    let error : model_object_error c.in_err-address.field-0.0 ≡ refusal_error refused.0 = err_and c.map_err.result c.in_err-address.field-0.0 _ c.in_err-address.was refused.1.1 in
    let tells : c.from_residual.result ≡ Err c.in_err-address.field-0.0 = search rules in
    let short : heap_refusal kind.block was.nodes.shape was.account ≡ Some refused.0 =
    ap (λ n. heap_refusal n was.nodes.shape was.account) (sym block) ∙ sym c.create.ensures.refusal ∙ ap result_err refused.1.0 in
    let same : c.create.new.self ≡ c.args.self.now.nodes = subst (λ r. OnErr r (c.create.new.self ≡ c.args.self.now.nodes)) refused.1.0 c.create.ensures.err in
    let objects = objects_in kinds c.args.self.now was in
    serves_refused kinds (created_in kind c.args.name.now objects was.account) _ c.args.self.now (record c.args.self.now { nodes = c.create.new.self }) c.args.memory.now c.create.new.memory c.args.map.now c.create.new.map c.requires.objects
    (ap (λ (l : NodeList). record c.args.self.now { nodes = l }) same)
    (subst (λ r. OnErr r (c.create.new.memory ≡ c.args.memory.now)) refused.1.0 c.create.ensures.memory_err)
    (subst (λ r. OnErr r (c.create.new.map ≡ c.args.map.now)) refused.1.0 c.create.ensures.map_err)
    (created_refused kind c.args.name.now objects was.account c.requires.kind refused.0 short
    ∙ ap (λ e. told (Refused e) objects was.account) (sym error)
    ∙ ap (λ r. told (done_reply r) objects was.account) (sym tells))

pub put_words-requires-clause-listed : goal.put_words-requires-clause-listed
put_words-requires-clause-listed c =
    let t = taken (goal.at.put_words-requires-clause-listed c).In_ok-address in
    ap (λ bs. is_listed bs c.in_ok-address.address) t.creates.listed
    ∙ listed_last (nodes_in c.args.self.now.nodes (stock_of c.args.self.now.nodes.heaps c.args.memory.now c.args.map.now)) c.in_ok-address.address

pub put_words-requires-clause-room : goal.put_words-requires-clause-room
put_words-requires-clause-room c =
    let t = taken (goal.at.put_words-requires-clause-room c).In_ok-address in
    room_of (stock_of c.create.new.self.heaps c.create.new.memory c.create.new.map).nodes c.in_ok-address.address c.args.kind.now.block t.creates.room c.requires.kind.block_least

pub add-requires : goal.add-requires
add-requires c =
    let t = taken (goal.at.add-requires c).In_ok-address in
    let list = c.args.self.now.nodes in
    let was : Stock = stock_of list.heaps c.args.memory.now c.args.map.now in
    let mid : Stock = stock_of c.create.new.self.heaps c.create.new.memory c.create.new.map in
    let few = few_nodes c.create.new.self mid t.creates.kept in
    let more = ap length t.creates.listed in
    record {
      numbers = numbers_of list.first was.nodes;
      counted = c.requires.objects.counted;
      low = c.requires.low;
      few = omega (arith, few, more, length-append (nodes_in list was) (c.in_ok-address.address ∷ []), length-map (nodes_in list was) (number_at was.nodes));
    }

pub returns-clause-serves : goal.returns-clause-serves
returns-clause-serves c kinds is =
    let t = taken (goal.at.returns-clause-serves c).In_ok-address in
    let list = c.args.self.now.nodes in
    let later_list = c.create.new.self in
    let was : Stock = stock_of list.heaps c.args.memory.now c.args.map.now in
    let mid : Stock = stock_of later_list.heaps c.create.new.memory c.create.new.map in
    let now : Stock = stock_of later_list.heaps c.put_words.new.memory c.create.new.map in
    let kind = c.args.kind.now in
    let name = c.args.name.now in
    let number = c.args.number in
    let address = c.in_ok-address.address in
    let word = number * 65536 + c.from.result in
    let bytes : c.from.result ≡ kind.bytes = search rules in
    let later : ObjectSession = record c.args.self.now { nodes = later_list; counts = c.add.new.self } in
    let objects = objects_in kinds c.args.self.now was in
    let has : HasKind kinds kind number word = record { is = is; word_is = ap (λ b. number * 65536 + b) bytes; low = omega (arith, c.requires.kind.bytes) } in
    let puts = c.put_words.ensures.put in
    serves_done kinds (created_in kind name objects was.account) Done (made_in kind name (taken_in kind.block was) objects) (taken_in kind.block was).account c.args.self.now later now
    (created_done kind name objects was.account c.requires.kind t.granted)
    (puts.account ∙ t.creates.account)
    (objects_created list later_list kind.block address name was mid now word t.creates puts kinds kind number has)
    (record {
      nodes = puts.kept;
      objects = nodes_created list later_list kind.block address name was mid now word t.creates puts c.requires.objects.objects;
      counted = subst (AreCounted c.add.new.self) (sym (numbers_created list later_list kind.block address name was mid now word t.creates puts kinds kind number has))
          (c.add.ensures (numbers_of list.first was.nodes) c.requires.objects.counted);
    })
    (record { label = refl; buffer = refl })

pub returns-clause-keeps : goal.returns-clause-keeps
returns-clause-keeps c = keeps_both _ _ _ _ _ _ _ _ _ _ _ c.create.ensures.keeps c.put_words.ensures.keeps
