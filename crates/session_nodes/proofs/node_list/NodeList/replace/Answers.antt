-- The node is stored with its new content, and then the old one is freed.
use Rattle.std.proofs.Common.{◌≡◌, ◌∙◌, ◌-◌, ◌<◌, ℕ, [], List, length, is_some, refl, sym, ap, subst, arith}
use Rattle.std.specs.FinMap.{get, remove}
use Rattle.std.specs.Option.{unwrap_or}
use Rattle.own_model.specs.Account.{credited}
use Rattle.own_model.specs.Nodes.{content_ram, content_caps}
use Rattle.own_model.specs.Sliced.{block_size, sliced_size}
use Rattle.own_model.specs.NatMap.{NatMap}
use Rattle.own_model.specs.OwnState.{with_part}
use Rattle.session_nodes.specs.Calls.{payload_in}
use Rattle.session_nodes.specs.Order.{node_at}
use Rattle.session_nodes.specs.Index.{previous_at}
use Rattle.session_nodes.specs.SoundHeaps.{Stock}
use Rattle.session_nodes.specs.SessionHeaps.{stock_of}
use Rattle.session_nodes.specs.Node.{StoredNode, value_of}
use Rattle.session_nodes.specs.NodeList.{Replaces}
use Rattle.session_nodes.specs.declared.node_list.NodeList.{NodeList}
use Rattle.session_nodes.proofs.NewContentLemmas.{two_words}
use Rattle.session_nodes.proofs.ReplaceLemmas.{kept_alone, listed_alone, sets_alone, kept_left, listed_left, sets_left, content_stays, credited_is}
use Rattle.session_nodes.proofs.DropLemmas.{credited_none}
use Rattle.session_nodes.proofs.SearchLemmas.{found_node}
use Rattle.session_nodes.proofs.AfterLemmas.{keeps_both}
use Rattle.session_nodes.proofs.node_list.NodeList.replace.Goals as goal

pub store_content-requires-clause-there : goal.store_content-requires-clause-there
store_content-requires-clause-there c =
    let was : Stock = stock_of c.args.self.now.heaps c.args.memory.now c.args.map.now in
    (found_node c.args.self.now.first c.args.self.now.last was.nodes was.contents c.args.found.node.name.items (previous_at was.nodes c.args.found.address) c.args.found.address (value_of c.args.found.node) c.requires.found).there

pub give_content-requires-clause-there : goal.give_content-requires-clause-there
give_content-requires-clause-there c =
    let was : Stock = stock_of c.args.self.now.heaps c.args.memory.now c.args.map.now in
    let mid : Stock = stock_of c.args.self.now.heaps c.store_content.new.memory c.args.map.now in
    let node_is : value_of c.args.found.node ≡ node_at was.nodes c.args.found.address = c.requires.found.node_is in
    let file = found_node c.args.self.now.first c.args.self.now.last was.nodes was.contents c.args.found.node.name.items (previous_at was.nodes c.args.found.address) c.args.found.address (value_of c.args.found.node) c.requires.found in
    let some : 0 < c.args.found.node.size = omega arith in
    let has = file.content (subst (λ (n : StoredNode). 0 < n.size) node_is some) in
    let contents : mid.contents ≡ was.contents = ap (λ (s : Stock). s.contents) c.store_content.ensures.stored in
    ap is_some (ap (λ (m : NatMap (List ℕ)). get m c.args.found.node.content) contents ∙ ap (get was.contents) (ap (λ (n : StoredNode). n.content) node_is) ∙ has.there)

pub returns-else-node-gt0-clause-replaced : goal.returns-else-node-gt0-clause-replaced
returns-else-node-gt0-clause-replaced c =
    let was : Stock = stock_of c.args.self.now.heaps c.args.memory.now c.args.map.now in
    let mid : Stock = stock_of c.args.self.now.heaps c.store_content.new.memory c.args.map.now in
    let back = c.store_content.ensures.back ∙ ap (λ (n : StoredNode). record n { content = c.args.content; size = c.args.size }) (sym c.requires.found.node_is) in
    let contents : mid.contents ≡ was.contents = ap (λ (s : Stock). s.contents) c.store_content.ensures.stored in
    let none : c.args.found.node.size ≡ 0 = omega arith in
    let old_none : (node_at was.nodes c.args.found.address).size ≡ 0 = ap (λ (n : StoredNode). n.size) (sym c.requires.found.node_is) ∙ none in
    let account : mid.account ≡ credited was.account (content_ram (node_at was.nodes c.args.found.address).size) (content_caps (node_at was.nodes c.args.found.address).size) =
    ap (λ (s : Stock). s.account) c.store_content.ensures.stored ∙ sym (ap (λ n. credited was.account (content_ram n) (content_caps n)) old_none ∙ credited_none was.account) in
    let with_contents : (after : NatMap (List ℕ)) → after ≡ was.contents → Replaces c.args.self.now c.args.self.now c.args.found.address c.args.content c.args.size was (record mid { contents = after }) =
    λ after same. subst (λ a. Replaces c.args.self.now c.args.self.now c.args.found.address c.args.content c.args.size was (record mid { contents = a })) (sym same) (record {
      kept = kept_alone c.args.self.now.first c.args.self.now.last was.nodes mid.nodes was.contents c.args.found.node.name.items (previous_at was.nodes c.args.found.address) c.args.found.address (value_of c.args.found.node) c.requires.found
          (with_part (payload_in was.nodes.payloads c.args.found.address) 8 (two_words c.args.content c.args.size)) (ap (λ (s : Stock). s.nodes) c.store_content.ensures.stored) c.args.content c.args.size
          back c.store_content.ensures.there c.requires.content c.requires.own c.args.self.now.root c.requires.files.indexed c.store_content.ensures.place;
      listed = listed_alone c.args.self.now.first c.args.self.now.last was.nodes mid.nodes was.contents c.args.found.node.name.items (previous_at was.nodes c.args.found.address) c.args.found.address (value_of c.args.found.node) c.requires.found
          (with_part (payload_in was.nodes.payloads c.args.found.address) 8 (two_words c.args.content c.args.size)) (ap (λ (s : Stock). s.nodes) c.store_content.ensures.stored) c.args.content c.args.size
          back c.store_content.ensures.there c.requires.content c.requires.own c.args.self.now.root c.requires.files.indexed c.store_content.ensures.place;
      sets = sets_alone c.args.self.now.first c.args.self.now.last was.nodes mid.nodes was.contents c.args.found.node.name.items (previous_at was.nodes c.args.found.address) c.args.found.address (value_of c.args.found.node) c.requires.found
          (with_part (payload_in was.nodes.payloads c.args.found.address) 8 (two_words c.args.content c.args.size)) (ap (λ (s : Stock). s.nodes) c.store_content.ensures.stored) c.args.content c.args.size
          back c.store_content.ensures.there c.requires.content c.requires.own c.args.self.now.root c.requires.files.indexed c.store_content.ensures.place;
      user = c.store_content.ensures.user;
      bytes = λ some. refl;
      account = account;
    }) in
    with_contents mid.contents contents

pub returns-then-node-gt0-clause-replaced : goal.returns-then-node-gt0-clause-replaced
returns-then-node-gt0-clause-replaced c =
    let was : Stock = stock_of c.args.self.now.heaps c.args.memory.now c.args.map.now in
    let mid : Stock = stock_of c.args.self.now.heaps c.store_content.new.memory c.args.map.now in
    let back = c.store_content.ensures.back ∙ ap (λ (n : StoredNode). record n { content = c.args.content; size = c.args.size }) (sym c.requires.found.node_is) in
    let now : Stock = stock_of c.give_content.new.self c.give_content.new.memory c.give_content.new.map in
    let some : 0 < c.args.found.node.size = omega arith in
    let nodes : now.nodes ≡ mid.nodes = ap (λ (s : Stock). s.nodes) c.give_content.ensures.given in
    let contents : now.contents ≡ remove was.contents c.args.found.node.content =
    ap (λ (s : Stock). s.contents) c.give_content.ensures.given ∙ ap (λ (s : Stock). remove s.contents c.args.found.node.content) c.store_content.ensures.stored in
    let node_is : value_of c.args.found.node ≡ node_at was.nodes c.args.found.address = c.requires.found.node_is in
    let held = found_node c.args.self.now.first c.args.self.now.last was.nodes was.contents c.args.found.node.name.items (previous_at was.nodes c.args.found.address) c.args.found.address (value_of c.args.found.node) c.requires.found in
    let has = held.content (subst (λ (n : StoredNode). 0 < n.size) node_is some) in
    let payload : payload_in was.contents c.args.found.node.content ≡ has.payload =
    ap (λ o. unwrap_or o []) (ap (get was.contents) (ap (λ (n : StoredNode). n.content) node_is) ∙ has.there) in
    let long : length has.payload ≡ sliced_size c.args.found.node.size - 32 = subst (λ n. length has.payload ≡ sliced_size n - 32) (ap (λ (n : StoredNode). n.size) (sym node_is)) has.long in
    let account : now.account ≡ credited was.account (content_ram (node_at was.nodes c.args.found.address).size) (content_caps (node_at was.nodes c.args.found.address).size) =
    ap (λ (s : Stock). s.account) c.give_content.ensures.given
    ∙ ap (λ (s : Stock). credited s.account (block_size (payload_in s.contents c.args.found.node.content)) 1) c.store_content.ensures.stored
    ∙ ap (λ p. credited was.account (block_size p) 1) payload
    ∙ credited_is was.account c.args.found.node.size has.payload some long
    ∙ ap (λ (n : StoredNode). credited was.account (content_ram n.size) (content_caps n.size)) node_is in
    let later : NodeList = record c.args.self.now { heaps = c.give_content.new.self } in
    let left : Replaces c.args.self.now later c.args.found.address c.args.content c.args.size was (record now { nodes = mid.nodes; contents = remove was.contents c.args.found.node.content }) = record {
      kept = kept_left c.args.self.now.first c.args.self.now.last was.nodes mid.nodes was.contents c.args.found.node.name.items (previous_at was.nodes c.args.found.address) c.args.found.address (value_of c.args.found.node) c.requires.found
          (with_part (payload_in was.nodes.payloads c.args.found.address) 8 (two_words c.args.content c.args.size)) (ap (λ (s : Stock). s.nodes) c.store_content.ensures.stored) c.args.content c.args.size
          back c.store_content.ensures.there c.requires.content c.requires.own c.args.self.now.root c.requires.files.indexed c.store_content.ensures.place some;
      listed = listed_left c.args.self.now.first c.args.self.now.last was.nodes mid.nodes was.contents c.args.found.node.name.items (previous_at was.nodes c.args.found.address) c.args.found.address (value_of c.args.found.node) c.requires.found
          (with_part (payload_in was.nodes.payloads c.args.found.address) 8 (two_words c.args.content c.args.size)) (ap (λ (s : Stock). s.nodes) c.store_content.ensures.stored) c.args.content c.args.size
          back c.store_content.ensures.there c.requires.content c.requires.own c.args.self.now.root c.requires.files.indexed c.store_content.ensures.place some;
      sets = sets_left c.args.self.now.first c.args.self.now.last was.nodes mid.nodes was.contents c.args.found.node.name.items (previous_at was.nodes c.args.found.address) c.args.found.address (value_of c.args.found.node) c.requires.found
          (with_part (payload_in was.nodes.payloads c.args.found.address) 8 (two_words c.args.content c.args.size)) (ap (λ (s : Stock). s.nodes) c.store_content.ensures.stored) c.args.content c.args.size
          back c.store_content.ensures.there c.requires.content c.requires.own c.args.self.now.root c.requires.files.indexed c.store_content.ensures.place some;
      user = c.store_content.ensures.user;
      bytes = content_stays c.args.self.now.first c.args.self.now.last was.nodes mid.nodes was.contents c.args.found.node.name.items (previous_at was.nodes c.args.found.address) c.args.found.address (value_of c.args.found.node) c.requires.found
          (with_part (payload_in was.nodes.payloads c.args.found.address) 8 (two_words c.args.content c.args.size)) (ap (λ (s : Stock). s.nodes) c.store_content.ensures.stored) c.args.content c.args.size
          back c.store_content.ensures.there c.requires.content c.requires.own c.args.self.now.root c.requires.files.indexed c.store_content.ensures.place some;
      account = account;
    } in
    subst (λ (s : Stock). Replaces c.args.self.now later c.args.found.address c.args.content c.args.size was s) (λ i. record now { nodes = sym nodes i; contents = sym contents i }) left

pub returns-then-node-gt0-clause-keeps : goal.returns-then-node-gt0-clause-keeps
returns-then-node-gt0-clause-keeps c = keeps_both _ _ _ _ _ _ _ _ _ _ _ c.store_content.ensures.keeps c.give_content.ensures.keeps
