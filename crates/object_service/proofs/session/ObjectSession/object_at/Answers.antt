-- The words of the block of the node at the place are the object's.
use Rattle.std.proofs.Common.{◌≡◌, ◌∙◌, ◌≤◌, ℕ, Some, sym, ap, subst, arith}
use Rattle.std.specs.Prelude.{IfSome, slice_get}
use Rattle.std.specs.Option.{option_map}
use Rattle.session_nodes.specs.Calls.{HasBytes}
use Rattle.session_nodes.specs.Node.{StoredNode, value_of}
use Rattle.session_nodes.specs.NodeList.{nodes_in}
use Rattle.session_nodes.specs.Order.{node_at}
use Rattle.session_nodes.specs.SessionHeaps.{stock_of}
use Rattle.session_nodes.specs.SoundHeaps.{Stock}
use Rattle.session_nodes.specs.declared.node_list.FoundNode.{FoundNode}
use Rattle.session_nodes.specs.declared.node_list.NodeList.{NodeList}
use Rattle.object_service.specs.Objects.{word_at, units_at}
use Rattle.session_nodes.proofs.RecentLemmas.{get_listed}
use Rattle.object_service.proofs.NameLemmas.{named_at}
use Rattle.object_service.proofs.WordLemmas.{block_has, word_read, units_read}
use Rattle.object_service.proofs.session.ObjectSession.object_at.Goals.{In_ok-found}
use Rattle.object_service.proofs.session.ObjectSession.object_at.Goals as goal

-- the node at the place, and its block in the memory after the search
record IsThere (c : In_ok-found) : Type 0 where
  at : Some c.in_ok-found.found.address ≡ slice_get (nodes_in c.args.self.now.nodes (stock_of c.args.self.now.nodes.heaps c.args.memory.now c.args.map.now)) c.args.place
  node : value_of c.in_ok-found.found.node ≡ node_at (stock_of c.args.self.now.nodes.heaps c.args.memory.now c.args.map.now).nodes c.in_ok-found.found.address
  stock_is : stock_of c.at_place.new.self.heaps c.at_place.new.memory c.args.map.now ≡ stock_of c.args.self.now.nodes.heaps c.args.memory.now c.args.map.now
  has : (n : ℕ) → n ≤ 112 → HasBytes (stock_of c.at_place.new.self.heaps c.at_place.new.memory c.args.map.now).nodes.payloads c.in_ok-found.found.address 0 n

there : (c : In_ok-found) → IsThere c
there c =
    let list = c.args.self.now.nodes in
    let was : Stock = stock_of list.heaps c.args.memory.now c.args.map.now in
    let blocks = nodes_in list was in
    let found = c.in_ok-found.found in
    let at : Some found.address ≡ slice_get blocks c.args.place = ap (option_map (λ (f : FoundNode). f.address)) (sym c.in_ok-found.was) ∙ c.at_place.ensures.address in
    let listed = get_listed blocks c.args.place found.address (sym at) in
    let heaps = ap (λ (l : NodeList). l.heaps) c.at_place.ensures.same in
    let stock_is : stock_of c.at_place.new.self.heaps c.at_place.new.memory c.args.map.now ≡ was = λ i. stock_of (heaps i) (c.at_place.ensures.memory i) c.args.map.now in
    record {
      at = at;
      node = subst (λ o. IfSome o (λ (f : FoundNode). value_of f.node ≡ node_at was.nodes f.address)) c.in_ok-found.was c.at_place.ensures.node;
      stock_is = stock_is;
      has = λ n low. subst (λ (s : Stock). HasBytes s.nodes.payloads found.address 0 n) (sym stock_is)
          (block_has list was found.address n c.requires.objects.nodes listed (c.requires.objects.objects found.address listed).room low);
    }

pub load_block_word-word-requires-clause-there : goal.load_block_word-word-requires-clause-there
load_block_word-word-requires-clause-there c = (there (goal.at.load_block_word-word-requires-clause-there c).In_ok-found).has 104 (omega arith)

pub load_block_word-units-requires-clause-there : goal.load_block_word-units-requires-clause-there
load_block_word-units-requires-clause-there c = (there (goal.at.load_block_word-units-requires-clause-there c).In_ok-found).has 112 (omega arith)

pub returns-clause-object : goal.returns-clause-object
returns-clause-object c kinds =
    let t = there (goal.at.returns-clause-object c).In_ok-found in
    let list = c.args.self.now.nodes in
    let was : Stock = stock_of list.heaps c.args.memory.now c.args.map.now in
    let now : Stock = stock_of c.at_place.new.self.heaps c.at_place.new.memory c.args.map.now in
    let address = c.in_ok-found.found.address in
    let word = word_read now.nodes address c.load_block_word-word.result c.load_block_word-word.ensures ∙ ap (λ (s : Stock). word_at s.nodes address) t.stock_is in
    let units = units_read now.nodes address c.load_block_word-units.result c.load_block_word-units.ensures ∙ ap (λ (s : Stock). units_at s.nodes address) t.stock_is in
    named_at kinds was.nodes (nodes_in list was) c.args.place address c.load_block_word-word.result c.load_block_word-units.result c.in_ok-found.found.node.name.items t.at (ap (λ (n : StoredNode). n.name) t.node) word units
