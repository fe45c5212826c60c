-- A block is taken for the node, which is appended.
use Rattle.std.proofs.Common.{◌∙◌, ◌-◌, ◌++◌, ◌∷◌, [], sym, ap, subst, arith}
use Rattle.std.specs.Prelude.{IfOk}
use Rattle.own_model.specs.OwnHeap.{OwnHeap, chunk_with, offset_of}
use Rattle.heap_core.proofs.WordsLemmas.{below_bytes}
use Rattle.sliced_heap.specs.Chain.{is_listed}
use Rattle.session_nodes.specs.Calls.{TakesNode}
use Rattle.session_nodes.specs.Node.{rank_of}
use Rattle.session_nodes.specs.Order.{AllStay}
use Rattle.session_nodes.specs.SoundHeaps.{Stock}
use Rattle.session_nodes.specs.SessionHeaps.{stock_of}
use Rattle.session_nodes.proofs.AfterLemmas.{keeps_both}
use Rattle.session_nodes.proofs.KeptLemmas.{blocks_are, stays_then}
use Rattle.session_nodes.proofs.NodeKeptLemmas.{indexed_kept, place_same}
use Rattle.session_nodes.proofs.PlaceLemmas.{furnished_has_places}
use Rattle.session_nodes.proofs.SeekLemmas.{none_ranked}
use Rattle.session_nodes.proofs.TakenLemmas.{Takes, takes_node}
use Rattle.session_nodes.proofs.UserLemmas.{room_kept}
use Rattle.session_nodes.proofs.node_list.NodeList.create.Goals.{In_ok-address}
use Rattle.session_nodes.proofs.node_list.NodeList.create.Goals as goal

-- what the block leaves
takes : (c : In_ok-address) → Takes c.args.bytes c.args.self.now.first c.args.self.now.last c.requires.files.blocks c.in_ok-address.address
    (stock_of c.args.self.now.heaps c.args.memory.now c.args.map.now) (stock_of c.take_node.new.self c.take_node.new.memory c.take_node.new.map)
takes c =
    let was : Stock = stock_of c.args.self.now.heaps c.args.memory.now c.args.map.now in
    let taken : Stock = stock_of c.take_node.new.self c.take_node.new.memory c.take_node.new.map in
    let t : TakesNode c.args.bytes c.in_ok-address.address was taken = subst (λ r. IfOk r (λ address. TakesNode c.args.bytes address was taken)) c.in_ok-address.was c.take_node.ensures.taken in
    takes_node c.args.bytes c.args.self.now.first c.args.self.now.last c.requires.least c.requires.files.blocks c.in_ok-address.address (omega arith) was c.requires.files.stand
    (furnished_has_places c.args.self.now.heaps.nodes c.args.self.now.heaps.contents c.args.memory.now c.args.map.now c.requires.furnished) t.free taken
    (furnished_has_places c.take_node.new.self.nodes c.take_node.new.self.contents c.take_node.new.memory c.take_node.new.map c.take_node.ensures.keeps.stays.furnished) t

pub append-requires-clause-fresh : goal.append-requires-clause-fresh
append-requires-clause-fresh c = (takes (goal.at.append-requires-clause-fresh c).In_ok-address).fresh

pub append-requires-clause-files : goal.append-requires-clause-files
append-requires-clause-files c =
    let was : Stock = stock_of c.args.self.now.heaps c.args.memory.now c.args.map.now in
    let taken : Stock = stock_of c.take_node.new.self c.take_node.new.memory c.take_node.new.map in
    let t = takes (goal.at.append-requires-clause-files c).In_ok-address in
    record {
      blocks = c.requires.files.blocks;
      stand = t.stand;
      indexed = indexed_kept c.args.self.now.first c.args.self.now.last c.args.self.now.root c.args.self.now.first c.args.self.now.last c.args.self.now.recent was.nodes taken.nodes was.contents taken.contents c.requires.files.blocks c.requires.files.stand
          t.stand (λ b l. place_same was.nodes taken.nodes b (t.same b l)) c.requires.files.indexed;
    }

pub append-requires-clause-new : goal.append-requires-clause-new
append-requires-clause-new c b listed =
    let was : Stock = stock_of c.args.self.now.heaps c.args.memory.now c.args.map.now in
    let taken : Stock = stock_of c.take_node.new.self c.take_node.new.memory c.take_node.new.map in
    let t = takes (goal.at.append-requires-clause-new c).In_ok-address in
    let now = blocks_are c.args.self.now.first c.args.self.now.last taken.nodes taken.contents c.requires.files.blocks t.stand in
    let before = blocks_are c.args.self.now.first c.args.self.now.last was.nodes was.contents c.requires.files.blocks c.requires.files.stand in
    let there = ap (λ xs. is_listed xs b) (sym now) ∙ listed in
    let other = none_ranked c.args.self.now.first c.args.self.now.last c.args.self.now.root was.nodes was.contents c.requires.files c.args.name.now c.requires.name
    (below_bytes c.args.name.now (λ i. omega (arith, c.type_inv.name i))) c.requires.new b (ap (λ xs. is_listed xs b) before ∙ there) in
    λ same. other (ap rank_of (sym (place_same was.nodes taken.nodes b (t.same b there)).name) ∙ same)

pub returns-clause-created : goal.returns-clause-created
returns-clause-created c =
    let was : Stock = stock_of c.args.self.now.heaps c.args.memory.now c.args.map.now in
    let taken : Stock = stock_of c.take_node.new.self c.take_node.new.memory c.take_node.new.map in
    let now : Stock = stock_of c.append.new.self.heaps c.append.new.memory c.take_node.new.map in
    let t = takes (goal.at.returns-clause-created c).In_ok-address in
    let e = c.append.ensures.appended in
    let middle = blocks_are c.args.self.now.first c.args.self.now.last taken.nodes taken.contents c.requires.files.blocks t.stand in
    let before = blocks_are c.args.self.now.first c.args.self.now.last was.nodes was.contents c.requires.files.blocks c.requires.files.stand in
    let first_stay : AllStay was.nodes taken.nodes was.contents taken.contents c.requires.files.blocks = t.stay in
    let next_stay : AllStay taken.nodes now.nodes taken.contents now.contents c.requires.files.blocks = subst (AllStay taken.nodes now.nodes taken.contents now.contents) middle e.stay in
    let stay : AllStay was.nodes now.nodes was.contents now.contents c.requires.files.blocks =
    λ b l. stays_then was.nodes taken.nodes now.nodes was.contents taken.contents now.contents b (first_stay b l) (next_stay b l) in
    record {
      kept = e.kept;
      listed = e.listed ∙ ap (λ xs. xs ++ c.in_ok-address.address ∷ []) (middle ∙ sym before);
      stay = subst (AllStay was.nodes now.nodes was.contents now.contents) (sym before) stay;
      name_is = e.name_is;
      empty = e.empty;
      room = room_kept taken.nodes now.nodes c.in_ok-address.address c.args.bytes e.user e.there t.fresh.there t.room;
      chunk = ap (λ (n : OwnHeap). chunk_with n (c.in_ok-address.address - 16)) e.rest ∙ t.chunk;
      offset = ap (λ (n : OwnHeap). offset_of n (c.in_ok-address.address - 16)) e.rest ∙ t.offset;
      shape = ap (λ (n : OwnHeap). n.shape) e.rest ∙ t.shape;
      account = e.account ∙ t.account;
    }

pub returns-clause-keeps : goal.returns-clause-keeps
returns-clause-keeps c = keeps_both _ _ _ _ _ _ _ _ _ _ _ c.take_node.ensures.keeps c.append.ensures.keeps
