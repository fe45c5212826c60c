-- The new node is stored, the last one is linked to it, and it is entered in the tree.
use Rattle.std.proofs.Common.{◌≡◌, ◌∙◌, ◌++◌, ◌∷◌, [], ℕ, List, sym, ap, subst, arith}
use Rattle.heap_core.proofs.WordsLemmas.{below_bytes}
use Rattle.own_model.specs.OwnState.{with_part, zeros}
use Rattle.trade_base.specs.Word.{word_bytes}
use Rattle.heap_core.specs.Words.{are_bytes}
use Rattle.session_nodes.specs.Calls.{payload_in}
use Rattle.session_nodes.specs.SoundHeaps.{Stock}
use Rattle.session_nodes.specs.SessionHeaps.{stock_of}
use Rattle.session_nodes.specs.Index.{AreListed, CanEnter, Enters}
use Rattle.own_model.specs.OwnHeap.{OwnHeap}
use Rattle.session_nodes.specs.Node.{StoredNode, bytes_of, rank_of}
use Rattle.session_nodes.specs.NodeList.{KeepsNode}
use Rattle.session_nodes.specs.Order.{node_at, AllStay, Stays}
use Rattle.session_nodes.specs.declared.node_list.NodeList.{NodeList}
use Rattle.session_nodes.proofs.AppendLemmas.{last_there, new_node, rest, stays}
use Rattle.session_nodes.proofs.EnterLemmas.{can_enter, are_appended, stand_linked}
use Rattle.session_nodes.proofs.TailLemmas.{tail_there}
use Rattle.session_nodes.proofs.TailNodeLemmas.{node_same, stand_tails}
use Rattle.session_nodes.proofs.TailNodeLemmas.{stays as tail_stays}
use Rattle.session_nodes.proofs.KeptLemmas.{blocks_are, stays_then}
use Rattle.session_nodes.proofs.LinkLemmas.{listed_last, listed_front}
use Rattle.session_nodes.proofs.AfterLemmas.{keeps_both}
use Rattle.session_nodes.proofs.node_list.NodeList.append.Goals as goal

pub link-requires-clause-there : goal.link-requires-clause-there
link-requires-clause-there c =
    let was : Stock = stock_of c.args.self.now.heaps c.args.memory.now c.args.map.now in
    let mid : Stock = stock_of c.args.self.now.heaps c.store_new.new.memory c.args.map.now in
    let node : StoredNode = record { next = 0; content = 0; size = 0; name = c.copied.result.items } in
    last_there c.args.self.now.first c.args.self.now.last was.nodes mid.nodes was.contents c.requires.files.blocks c.requires.files.stand c.args.address c.requires.fresh
    (with_part (payload_in was.nodes.payloads c.args.address) 0 (bytes_of node ++ (zeros 24 ++ word_bytes c.args.self.now.last))) (ap (λ (s : Stock). s.nodes) c.store_new.ensures.stored)

pub enter-self-requires-clause-unnamed : goal.enter-self-requires-clause-unnamed
enter-self-requires-clause-unnamed c =
    let was : Stock = stock_of c.args.self.now.heaps c.args.memory.now c.args.map.now in
    let mid : Stock = stock_of c.args.self.now.heaps c.store_new.new.memory c.args.map.now in
    let linked : Stock = stock_of c.link.new.self.heaps c.link.new.memory c.args.map.now in
    let node : StoredNode = record { next = 0; content = 0; size = 0; name = c.copied.result.items } in
    let bytes : List ℕ = with_part (payload_in was.nodes.payloads c.args.address) 0 (bytes_of node ++ (zeros 24 ++ word_bytes c.args.self.now.last)) in
    let back = c.store_new.ensures.back ∙ ap (λ (x : List ℕ). record { next = 0; content = 0; size = 0; name = x }) c.copied.ensures in
    let padded = c.store_new.ensures.padded (ap are_bytes c.copied.ensures ∙ below_bytes c.args.name.now (λ i. omega (arith, c.type_inv.name i))) in
    let root : c.link.new.self.root ≡ c.args.self.now.root = ap (λ (s : NodeList). s.root) c.link.ensures.same in (
      c.requires.files.blocks,
      subst (λ r. CanEnter r c.requires.files.blocks c.args.address (rank_of c.args.name.now) linked.nodes) (sym root)
          (can_enter c.args.self.now.first c.args.self.now.last c.args.self.now.root was.nodes mid.nodes linked.nodes was.contents c.requires.files c.args.address c.requires.fresh bytes (ap (λ (s : Stock). s.nodes) c.store_new.ensures.stored)
          c.args.name.now back padded c.link.new.self.first c.link.ensures.links c.requires.new),
    )

pub returns-clause-appended : goal.returns-clause-appended
returns-clause-appended c =
    let was : Stock = stock_of c.args.self.now.heaps c.args.memory.now c.args.map.now in
    let mid : Stock = stock_of c.args.self.now.heaps c.store_new.new.memory c.args.map.now in
    let linked : Stock = stock_of c.link.new.self.heaps c.link.new.memory c.args.map.now in
    let now : Stock = stock_of c.link.new.self.heaps c.enter-self.new.memory c.args.map.now in
    let node : StoredNode = record { next = 0; content = 0; size = 0; name = c.copied.result.items } in
    let bytes : List ℕ = with_part (payload_in was.nodes.payloads c.args.address) 0 (bytes_of node ++ (zeros 24 ++ word_bytes c.args.self.now.last)) in
    let back = c.store_new.ensures.back ∙ ap (λ (x : List ℕ). record { next = 0; content = 0; size = 0; name = x }) c.copied.ensures in
    let padded = c.store_new.ensures.padded (ap are_bytes c.copied.ensures ∙ below_bytes c.args.name.now (λ i. omega (arith, c.type_inv.name i))) in
    let contents : linked.contents ≡ was.contents = ap (λ (s : Stock). s.contents) c.link.ensures.rest ∙ ap (λ (s : Stock). s.contents) c.store_new.ensures.stored in
    let root : c.link.new.self.root ≡ c.args.self.now.root = ap (λ (s : NodeList). s.root) c.link.ensures.same in
    let recent : c.args.self.now.recent ≡ c.link.new.self.recent = sym (ap (λ (s : NodeList). s.recent) c.link.ensures.same) in
    let stored = ap (λ (s : Stock). s.nodes) c.store_new.ensures.stored in
    let enters = subst (λ r. Enters r c.args.address (rank_of c.args.name.now) c.enter-self.result linked.nodes now.nodes) root c.enter-self.ensures.enters in
    let blocks = c.requires.files.blocks in
    let listed = blocks_are c.args.self.now.first c.args.self.now.last was.nodes was.contents blocks c.requires.files.stand in
    let stand = stand_linked c.args.self.now.first c.args.self.now.last c.args.self.now.root was.nodes mid.nodes was.contents linked now c.requires.files c.args.address c.requires.fresh bytes stored
    c.args.name.now back padded c.store_new.ensures.previous c.link.new.self.first c.link.ensures.links contents c.requires.new c.enter-self.result enters c.enter-self.ensures.tree in
    let kept = are_appended c.args.self.now.first c.args.self.now.last c.args.self.now.root was.nodes mid.nodes was.contents linked now c.requires.files c.args.address c.requires.fresh bytes stored
    c.args.name.now back padded c.store_new.ensures.previous c.link.new.self.first c.link.ensures.links contents c.requires.new c.enter-self.result enters c.enter-self.ensures.tree in
    let tails = c.enter-self.ensures.tree.tails in
    let all : List ℕ = blocks ++ c.args.address ∷ [] in
    let its : KeepsNode mid.nodes linked.nodes c.args.address = new_node c.args.self.now.first c.args.self.now.last was.nodes mid.nodes linked.nodes was.contents blocks c.requires.files.stand c.args.address c.requires.fresh bytes stored c.args.name.now back padded.there c.link.new.self.first c.link.ensures.links in
    let same : node_at now.nodes c.args.address ≡ node_at linked.nodes c.args.address =
    node_same c.link.new.self.first c.args.address linked now tails all stand c.args.address (listed_last blocks c.args.address) in
    let rest_linked = rest c.args.self.now.first c.args.self.now.last was.nodes mid.nodes linked.nodes was.contents blocks c.requires.files.stand c.args.address c.requires.fresh bytes stored c.args.name.now back padded.there c.link.new.self.first c.link.ensures.links in
    let linked_stay : AllStay was.nodes linked.nodes was.contents was.contents blocks =
    stays c.args.self.now.first c.args.self.now.last was.nodes mid.nodes linked.nodes was.contents blocks c.requires.files.stand c.args.address c.requires.fresh bytes stored c.args.name.now back padded.there c.link.new.self.first c.link.ensures.links in
    let now_stay : AllStay linked.nodes now.nodes linked.contents linked.contents all = tail_stays c.link.new.self.first c.args.address linked now tails all stand in
    let now_contents : now.contents ≡ linked.contents = ap (λ (s : Stock). s.contents) tails.rest in
    let stay : AllStay was.nodes now.nodes was.contents now.contents blocks =
    subst (λ a. AllStay was.nodes now.nodes was.contents a blocks) (sym (now_contents ∙ contents))
    (λ b t. stays_then was.nodes linked.nodes now.nodes was.contents was.contents was.contents b (linked_stay b t) (subst (λ a. Stays linked.nodes now.nodes a a b) contents (now_stay b (listed_front blocks c.args.address b t)))) in
    record {
      kept = subst (λ r. AreListed c.link.new.self.first c.args.address c.enter-self.result r now.nodes now.contents) recent kept;
      listed = blocks_are c.link.new.self.first c.args.address now.nodes now.contents all (stand_tails c.link.new.self.first c.args.address linked now tails all stand) ∙ ap (λ xs. xs ++ c.args.address ∷ []) (sym listed);
      stay = subst (AllStay was.nodes now.nodes was.contents now.contents) (sym listed) stay;
      name_is = ap (λ (n : StoredNode). n.name) same ∙ its.name ∙ ap (λ (n : StoredNode). n.name) back;
      empty = ap (λ (n : StoredNode). n.size) same ∙ its.size ∙ ap (λ (n : StoredNode). n.size) back;
      there = tail_there linked.nodes now.nodes c.args.address (tails.fronts c.args.address) its.there;
      user = (tails.fronts c.args.address).user ∙ its.user ∙ c.store_new.ensures.user;
      rest = ap (λ (s : Stock). s.nodes) tails.rest ∙ ap (λ (n : OwnHeap). record n { payloads = now.nodes.payloads }) rest_linked;
      account = ap (λ (s : Stock). s.account) tails.rest ∙ ap (λ (s : Stock). s.account) c.link.ensures.rest ∙ ap (λ (s : Stock). s.account) c.store_new.ensures.stored;
    }

pub returns-clause-keeps : goal.returns-clause-keeps
returns-clause-keeps c =
    keeps_both _ _ _ _ _ _ _ _ _ _ _ c.store_new.ensures.keeps (keeps_both _ _ _ _ _ _ _ _ _ _ _ c.link.ensures.keeps c.enter-self.ensures.keeps)
