-- The node of the object that is found is removed, and the object is counted no more.
use Rattle.std.proofs.Common.{◌≡◌, ◌∙◌, ◌∷◌, ◌++◌, map, Err, sym, ap, subst, refl, rules, arith}
use Rattle.std.specs.Prelude.{◌/◌}
use Rattle.std.specs.Result.{result_ok}
use Rattle.own_model.specs.ObjectService.{told}
use Rattle.own_model.specs.ObjectText.ObjectReply.{Done}
use Rattle.core_calls.specs.declared.file_error.FileError.TheVariants.{NotFound}
use Rattle.core_calls.specs.declared.object_error.ObjectError.TheVariants.{Shared}
use Rattle.session_nodes.specs.Index.{previous_at}
use Rattle.session_nodes.specs.Node.{value_of}
use Rattle.session_nodes.specs.NodeList.{Finds, Removes}
use Rattle.session_nodes.specs.SessionHeaps.{stock_of}
use Rattle.session_nodes.specs.SoundHeaps.{Stock}
use Rattle.object_service.specs.declared.session.ObjectSession.{ObjectSession}
use Rattle.own_model.specs.ObjectText.ObjectRequest.{Drop}
use Rattle.object_service.specs.Counts.{AreCounted}
use Rattle.object_service.specs.Objects.{object_at, number_at, word_at}
use Rattle.object_service.specs.Session.{objects_in, served_in, done_reply}
use Rattle.object_service.proofs.ChangeLemmas.{account_removed, nodes_removed, numbers_removed, numbers_were, objects_removed}
use Rattle.object_service.proofs.FoundLemmas.{found_own, none_found}
use Rattle.object_service.proofs.ThereLemmas.{IsThere, is_there}
use Rattle.object_service.proofs.ServeLemmas.{drop_done, drop_none, none_before, serves_done, serves_same}
use Rattle.object_service.proofs.WordLemmas.{word_read}
use Rattle.object_service.proofs.session.ObjectSession.remove.Goals.{In_ok-found, After-remove}
use Rattle.object_service.proofs.session.ObjectSession.remove.Goals as goal

-- the object that is found
there : (c : In_ok-found) → IsThere c.args.self.now c.args.memory.now c.find.new.memory c.args.map.now c.args.name.now c.in_ok-found.found
there c = is_there c.args.self.now c.args.map.now c.args.name.now c.in_ok-found.found c.requires.objects c.find.ensures.some c.find.ensures.memory (c.ok_or.ensures.ok_part ∙ ap result_ok c.in_ok-found.was)

pub returns-in_err-found-clause-serves : goal.returns-in_err-found-clause-serves
returns-in_err-found-clause-serves c kinds =
    let session = c.args.self.now in
    let was : Stock = stock_of session.nodes.heaps c.args.memory.now c.args.map.now in
    let none = none_found kinds was.nodes c.args.name.now c.find.result session.nodes.first c.find.ensures.none (none_before c.find.result c.ok_or.result _ c.ok_or.ensures.ok_part c.in_err-found.was) in
    let tells : c.from_residual.result ≡ Err (Shared NotFound) = search rules in
    serves_same kinds (served_in kinds (Drop c.args.name.now) session was) _ session c.args.memory.now c.find.new.memory c.args.map.now c.requires.objects c.find.ensures.memory
    (drop_none kinds session was c.args.name.now none ∙ ap (λ r. told (done_reply r) (objects_in kinds session was) was.account) (sym tells))

pub load_block_word-word-requires-clause-there : goal.load_block_word-word-requires-clause-there
load_block_word-word-requires-clause-there c = (there (goal.at.load_block_word-word-requires-clause-there c).In_ok-found).has 104 (omega arith)

-- the node that is removed, and the number of its kind
record IsGone (c : After-remove) : Type 0 where
  removes : Removes c.args.self.now.nodes c.remove.new.self c.in_ok-found.found.address (stock_of c.args.self.now.nodes.heaps c.args.memory.now c.args.map.now) (stock_of c.remove.new.self.heaps c.remove.new.memory c.remove.new.map)
  number : c.load_block_word-word.result / 65536 ≡ number_at (stock_of c.args.self.now.nodes.heaps c.args.memory.now c.args.map.now).nodes c.in_ok-found.found.address
  counted : AreCounted c.args.self.now.counts (map (number_at (stock_of c.args.self.now.nodes.heaps c.args.memory.now c.args.map.now).nodes) removes.before
      ++ c.load_block_word-word.result / 65536 ∷ map (number_at (stock_of c.args.self.now.nodes.heaps c.args.memory.now c.args.map.now).nodes) removes.behind)

gone : (c : After-remove) → Finds c.args.self.now.nodes (stock_of c.args.self.now.nodes.heaps c.args.memory.now c.args.map.now) c.args.name.now c.in_ok-found.found → IsGone c
gone c found =
    let list = c.args.self.now.nodes in
    let address = c.in_ok-found.found.address in
    let was : Stock = stock_of list.heaps c.args.memory.now c.args.map.now in
    let mid : Stock = stock_of list.heaps c.find.new.memory c.args.map.now in
    let now : Stock = stock_of c.remove.new.self.heaps c.remove.new.memory c.remove.new.map in
    let removes : Removes list c.remove.new.self address was now = subst (λ m. Removes list c.remove.new.self address (stock_of list.heaps m c.args.map.now) now) c.find.ensures.memory c.remove.ensures.removed in
    let word = word_read mid.nodes address c.load_block_word-word.result c.load_block_word-word.ensures ∙ ap (λ m. word_at (stock_of list.heaps m c.args.map.now).nodes address) c.find.ensures.memory in
    let number : c.load_block_word-word.result / 65536 ≡ number_at was.nodes address = ap (λ w. w / 65536) word in
    let were = numbers_were list c.remove.new.self was now c.args.name.now _ address _ found removes in
    record {
      removes = removes;
      number = number;
      counted = subst (λ n. AreCounted c.args.self.now.counts (map (number_at was.nodes) removes.before ++ n ∷ map (number_at was.nodes) removes.behind)) (sym number) (subst (AreCounted c.args.self.now.counts) were c.requires.objects.counted);
    }

pub remove-requires-2 : goal.remove-requires-2
remove-requires-2 c =
    let g = gone (goal.at.remove-requires-2 c).After-remove (there (goal.at.remove-requires-2 c).In_ok-found).found in
    let was : Stock = stock_of c.args.self.now.nodes.heaps c.args.memory.now c.args.map.now in
    record { before = map (number_at was.nodes) g.removes.before; behind = map (number_at was.nodes) g.removes.behind; counted = g.counted }

pub returns-clause-serves : goal.returns-clause-serves
returns-clause-serves c kinds =
    let at = goal.at.returns-clause-serves c in
    let t = there at.In_ok-found in
    let g = gone at.After-remove t.found in
    let session = c.args.self.now in
    let list = session.nodes in
    let address = c.in_ok-found.found.address in
    let was : Stock = stock_of list.heaps c.args.memory.now c.args.map.now in
    let now : Stock = stock_of c.remove.new.self.heaps c.remove.new.memory c.remove.new.map in
    let later : ObjectSession = record session { nodes = c.remove.new.self; counts = c.remove-2.new.self } in
    let object = object_at kinds was.nodes address in
    let found = found_own list.first list.last was.nodes was.contents c.args.name.now (previous_at was.nodes address) address (value_of c.in_ok-found.found.node) t.found in
    let is_object = c.requires.objects.objects address t.listed in
    serves_done kinds (served_in kinds (Drop c.args.name.now) session was) Done _ _ session later now
    (drop_done kinds session was c.args.name.now object (t.named kinds))
    (account_removed list c.remove.new.self was now object.name _ address _ found g.removes kinds is_object)
    (objects_removed list c.remove.new.self was now object.name _ address _ found g.removes kinds)
    (record {
      nodes = g.removes.kept;
      objects = nodes_removed list c.remove.new.self was now object.name _ address _ found g.removes c.requires.objects.objects;
      counted = subst (AreCounted c.remove-2.new.self) (sym (numbers_removed list c.remove.new.self was now object.name _ address _ found g.removes))
          (c.remove-2.ensures (map (number_at was.nodes) g.removes.before) (map (number_at was.nodes) g.removes.behind) g.counted);
    })
    (record { label = refl; buffer = refl })
