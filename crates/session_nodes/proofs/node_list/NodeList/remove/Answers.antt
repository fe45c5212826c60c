-- The node leaves the tree, the links lead past it, and then its block and its content are freed.
use Rattle.std.proofs.Common.{◌≡◌, ◌∙◌, ap, subst, arith}
use Rattle.std.specs.Prelude.{◌==◌, if◌then◌else◌}
use Rattle.own_model.specs.OwnHeap.{OwnHeap}
use Rattle.sliced_heap.specs.Chain.{is_listed}
use Rattle.session_nodes.specs.SoundHeaps.{Stock}
use Rattle.session_nodes.specs.SessionHeaps.{stock_of}
use Rattle.session_nodes.specs.Index.{remembered_without}
use Rattle.session_nodes.specs.Node.{value_of}
use Rattle.session_nodes.specs.NodeList.{LinksTo}
use Rattle.session_nodes.specs.declared.node_list.NodeList.{NodeList}
use Rattle.session_nodes.proofs.DropLemmas.{IsUnlisted, is_unlisted, previous_there, linked_there, given_there, removed_empty, removed_full}
use Rattle.session_nodes.proofs.KeptLemmas.{blocks_are}
use Rattle.session_nodes.proofs.SearchLemmas.{in_blocks}
use Rattle.session_nodes.proofs.AfterLemmas.{keeps_both}
use Rattle.session_nodes.proofs.node_list.NodeList.remove.Goals.{After-unlist-previous, After-link, After-give_node}
use Rattle.session_nodes.proofs.node_list.NodeList.remove.Goals as goal

-- the list as it was, without the node in its tree, and without it in its links
abbrev old : (c : After-unlist-previous) → Stock
old c = stock_of c.args.self.now.heaps c.args.memory.now c.args.map.now

abbrev was : (c : After-unlist-previous) → Stock
was c = stock_of c.unlist-previous.new.self.heaps c.unlist-previous.new.memory c.args.map.now

abbrev linked : (c : After-link) → Stock
linked c = stock_of c.link.new.self.heaps c.link.new.memory c.args.map.now

pub unlist-previous-requires-clause-listed : goal.unlist-previous-requires-clause-listed
unlist-previous-requires-clause-listed c =
    let old : Stock = stock_of c.args.self.now.heaps c.args.memory.now c.args.map.now in
    let blocks = blocks_are c.args.self.now.first c.args.self.now.last old.nodes old.contents _ c.requires.found.stand in
    record {
      there = ap (λ xs. is_listed xs c.args.found.address) blocks ∙ in_blocks c.args.self.now.first c.args.self.now.last old.nodes old.contents c.args.found.node.name.items _ c.args.found.address _ c.requires.found;
      node_is = c.requires.found.node_is;
    }

unlisted : (c : After-unlist-previous) →
    IsUnlisted c.args.self.now (old c) (was c) c.unlist-previous.new.self.root c.args.found.node.name.items c.unlist-previous.result c.args.found.address (value_of c.args.found.node)
unlisted c = is_unlisted _ c.unlist-previous.new.self _ _ _ _ _ _ c.requires.files c.requires.found c.unlist-previous.ensures.previous c.unlist-previous.ensures.tails c.unlist-previous.ensures.unlists

pub link-requires-clause-there : goal.link-requires-clause-there
link-requires-clause-there c holder = previous_there c.args.self.now.first c.args.self.now.last _ _ _ _ _ _ (unlisted (goal.at.link-requires-clause-there c).After-unlist-previous).found holder

-- the links lead past the node, and the tree stays
record IsPast (c : After-link) : Type 0 where
  links : LinksTo c.args.self.now.first c.unlist-previous.result c.args.found.node.next c.link.new.self.first
      (stock_of c.unlist-previous.new.self.heaps c.unlist-previous.new.memory c.args.map.now).nodes (stock_of c.link.new.self.heaps c.link.new.memory c.args.map.now).nodes
  root : c.link.new.self.root ≡ c.unlist-previous.new.self.root

past : (c : After-link) → IsPast c
past c =
    let nodes_was : OwnHeap = (stock_of c.unlist-previous.new.self.heaps c.unlist-previous.new.memory c.args.map.now).nodes in
    let nodes_linked : OwnHeap = (linked c).nodes in
    record {
      links = subst (λ f. LinksTo f c.unlist-previous.result c.args.found.node.next c.link.new.self.first nodes_was nodes_linked) (ap (λ (s : NodeList). s.first) c.unlist-previous.ensures.same) c.link.ensures.links;
      root = ap (λ (s : NodeList). s.root) c.link.ensures.same;
    }

pub give_node-requires-clause-there : goal.give_node-requires-clause-there
give_node-requires-clause-there c =
    let at = goal.at.give_node-requires-clause-there c in
    let is = past at.After-link in
    linked_there _ c.link.new.self _ _ (linked at.After-link) (linked at.After-link) _ _ _ _ _ (unlisted at.After-unlist-previous) is.links c.link.ensures.rest is.root

pub give_content-requires-clause-there : goal.give_content-requires-clause-there
give_content-requires-clause-there c =
    let at = goal.at.give_content-requires-clause-there c in
    let is = past at.After-link in
    given_there _ c.link.new.self _ _ (linked at.After-link) (stock_of c.give_node.new.self c.give_node.new.memory c.give_node.new.map) _ _ _ _ _
    (unlisted at.After-unlist-previous) is.links c.link.ensures.rest is.root c.give_node.ensures.given.is (omega arith)

-- the node at the end, and the one that is remembered
last_is : (c : After-give_node) → c.last_without-self.result ≡ (if c.args.self.now.last == c.args.found.address then c.unlist-previous.result else c.args.self.now.last)
last_is c =
    let last : c.link.new.self.last ≡ c.args.self.now.last = ap (λ (s : NodeList). s.last) c.link.ensures.same ∙ ap (λ (s : NodeList). s.last) c.unlist-previous.ensures.same in
    c.last_without-self.ensures ∙ ap (λ l. if l == c.args.found.address then c.unlist-previous.result else l) last

recent_is : (c : After-give_node) → c.recent_without-self.result ≡ remembered_without c.args.self.now.recent c.args.found.address c.args.found.node.next
recent_is c =
    let recent : c.link.new.self.recent ≡ c.args.self.now.recent = ap (λ (s : NodeList). s.recent) c.link.ensures.same ∙ ap (λ (s : NodeList). s.recent) c.unlist-previous.ensures.same in
    c.recent_without-self.ensures ∙ ap (λ r. remembered_without r c.args.found.address c.args.found.node.next) recent

pub returns-then-node-gt0-clause-removed : goal.returns-then-node-gt0-clause-removed
returns-then-node-gt0-clause-removed c =
    let at = goal.at.returns-then-node-gt0-clause-removed c in
    let is = past at.After-link in
    let later : NodeList = record c.link.new.self { heaps = c.give_content.new.self; last = c.last_without-self.result; recent = c.recent_without-self.result } in
    removed_full c.args.self.now later _ _ (linked at.After-link) (stock_of c.give_node.new.self c.give_node.new.memory c.give_node.new.map) _ _ _ _ _
    (unlisted at.After-unlist-previous) is.links c.link.ensures.rest is.root c.give_node.ensures.given.is (last_is at.After-give_node) (recent_is at.After-give_node) _ (omega arith) c.give_content.ensures.given

pub returns-else-node-gt0-clause-removed : goal.returns-else-node-gt0-clause-removed
returns-else-node-gt0-clause-removed c =
    let at = goal.at.returns-else-node-gt0-clause-removed c in
    let is = past at.After-link in
    let later : NodeList = record c.link.new.self { heaps = c.give_node.new.self; last = c.last_without-self.result; recent = c.recent_without-self.result } in
    removed_empty c.args.self.now later _ _ (linked at.After-link) _ _ _ _ _ _
    (unlisted at.After-unlist-previous) is.links c.link.ensures.rest is.root c.give_node.ensures.given.is (last_is at.After-give_node) (recent_is at.After-give_node) (omega arith)

pub returns-then-node-gt0-clause-keeps : goal.returns-then-node-gt0-clause-keeps
returns-then-node-gt0-clause-keeps c =
    keeps_both _ _ _ _ _ _ _ _ _ _ _ c.unlist-previous.ensures.keeps
    (keeps_both _ _ _ _ _ _ _ _ _ _ _ c.link.ensures.keeps (keeps_both _ _ _ _ _ _ _ _ _ _ _ c.give_node.ensures.keeps c.give_content.ensures.keeps))

pub returns-else-node-gt0-clause-keeps : goal.returns-else-node-gt0-clause-keeps
returns-else-node-gt0-clause-keeps c =
    keeps_both _ _ _ _ _ _ _ _ _ _ _ c.unlist-previous.ensures.keeps
    (keeps_both _ _ _ _ _ _ _ _ _ _ _ c.link.ensures.keeps c.give_node.ensures.keeps)
