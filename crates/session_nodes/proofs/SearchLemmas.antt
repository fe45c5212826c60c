-- A node that is found by its name, and how many bytes its content has.
use Rattle.std.proofs.Common.{rules, ◌≡◌, ◌≢◌, ℕ, ◌+◌, ◌-◌, ◌<◌, ◌≤◌, true, false, eqb, List, ◌∷◌, ◌++◌, length, map, take, refl, sym, ap, ◌∙◌, arith}
use Rattle.std.proofs.lemmas.Bool.Decides.{nat_tests}
use Rattle.std.proofs.lemmas.List.{length-take}
use Rattle.trade_base.proofs.PageLemmas.{IsLeastPageSize-page_of}
use Rattle.own_model.specs.NatMap.{NatMap}
use Rattle.own_model.specs.OwnHeap.{OwnHeap}
use Rattle.own_model.specs.Sliced.{sliced_size}
use Rattle.sliced_heap.specs.Chain.{is_listed}
use Rattle.session_nodes.specs.Calls.{payload_in, HasBytes}
use Rattle.session_nodes.specs.Order.{node_at, nodes_from, link_in, bytes_at, HasContent, HoldsNode}
use Rattle.session_nodes.specs.Node.{StoredNode}
use Rattle.session_nodes.specs.NodeList.{IsFound}
use Rattle.session_nodes.proofs.KeptLemmas.{blocks_are}
use Rattle.session_nodes.proofs.LinkLemmas.{listed_append, map_kept, once_apart, once_later, unlisted}

-- a content is as long as its node says, or longer
pub content_long : (size : ℕ) → size ≤ sliced_size size - 32
content_long size = let covers = (IsLeastPageSize-page_of (32 + size)).covers in omega (arith, covers)

-- the front of a content is as long as its node says
pub bytes_long : (contents : NatMap (List ℕ)) (node : StoredNode) → (0 < node.size → HasContent contents node) → length (bytes_at contents node) ≡ node.size
bytes_long contents node content = search (rules, content_long, length-take)

module _ (first last : ℕ) (nodes : OwnHeap) (contents : NatMap (List ℕ)) (name : List ℕ) (previous address : ℕ) (node : StoredNode)
    (found : IsFound first last nodes contents name previous address node) where
  pub in_blocks : is_listed (found.before ++ address ∷ found.behind) address ≡ true
  in_blocks = let l = listed_append found.before (address ∷ found.behind) address in grind (arith, nat_tests)

  -- no other node has its content
  pub not_old : (b : ℕ) → is_listed (found.before ++ address ∷ found.behind) b ≡ true → b ≢ address → 0 < (node_at nodes b).size → 0 < node.size → (node_at nodes b).content ≢ node.content
  not_old b t other some_b some e = search (rules, in_blocks)

  pub found_node : HoldsNode nodes contents address
  found_node = found.stand.each address in_blocks

  -- it has as many bytes as its node says
  pub found_long : length (bytes_at contents (node_at nodes address)) ≡ node.size
  found_long = bytes_long contents (node_at nodes address) found_node.content ∙ ap (λ (n : StoredNode). n.size) (sym found.node_is)

  -- its content, if it has one
  pub found_content : 0 < node.size → HasContent contents node
  found_content some = search (rules, found_node)

  -- which has at least the node's bytes
  pub found_has : (offset count : ℕ) → 0 < count → offset + count ≤ node.size → HasBytes contents node.content offset count
  found_has offset count some within = grind (arith, nat_tests, found_content, content_long)

  -- the node's bytes are the front of it
  pub found_bytes : bytes_at contents (node_at nodes address) ≡ take node.size (payload_in contents node.content)
  found_bytes = ap (bytes_at contents) (sym found.node_is)

  -- what each other node keeps, those before it and those behind it keep
  module _ {X : Type 0} (f g : ℕ → X) (keeps : (b : ℕ) → is_listed (nodes_from first nodes) b ≡ true → b ≢ address → g b ≡ f b) where
    kept_around : (b : ℕ) → is_listed (found.before ++ found.behind) b ≡ true → g b ≡ f b
    kept_around b t =
        let l = listed_append found.before (address ∷ found.behind) b in
        let w = listed_append found.before found.behind b in
        let fresh = once_apart found.before found.behind address (once_later 0 (found.before ++ address ∷ found.behind) found.stand.line.once) in
        let blocks = blocks_are first last nodes contents (found.before ++ address ∷ found.behind) found.stand in
        let listed : is_listed (nodes_from first nodes) b ≡ true = ap (λ xs. is_listed xs b) blocks ∙ grind (arith, nat_tests) in
        keeps b listed (unlisted (found.before ++ found.behind) address b fresh t)

    pub before_kept : map g found.before ≡ map f found.before
    before_kept = map_kept f g found.before (λ b t. kept_around b (let w = listed_append found.before found.behind b in grind (arith, nat_tests)))

    pub behind_kept : map g found.behind ≡ map f found.behind
    behind_kept = map_kept f g found.behind (λ b t. kept_around b (let w = listed_append found.before found.behind b in grind (arith, nat_tests)))

-- the link that a node holds
pub link_some : (first : ℕ) (nodes : OwnHeap) (a : ℕ) → a ≢ 0 → link_in first nodes a ≡ (node_at nodes a).next
link_some first nodes a some = let e : eqb a 0 ≡ false = grind (arith, nat_tests) in rw e refl
