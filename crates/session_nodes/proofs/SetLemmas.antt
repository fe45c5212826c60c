-- A node that gets another content: the others stay.
use Rattle.std.proofs.Common.{rules, ◌≡◌, ◌≢◌, ℕ, ◌-◌, ◌<◌, true, List, ◌∷◌, ◌++◌, length, sym, ap, subst, ◌∙◌, arith}
use Rattle.std.proofs.lemmas.Bool.{cases_eq}
use Rattle.std.specs.FinMap.{get, insert}
use Rattle.own_model.specs.NatMap.{NatMap}
use Rattle.own_model.specs.OwnHeap.{OwnHeap, chunk_with, offset_of}
use Rattle.sliced_heap.specs.Chain.{is_listed}
use Rattle.session_nodes.specs.Calls.{HasBytes}
use Rattle.session_nodes.specs.Order.{node_at, nodes_from, HasContent, HoldsNode, StandAt}
use Rattle.session_nodes.specs.Node.{StoredNode}
use Rattle.session_nodes.specs.NodeList.{IsFound, Sets}
use Rattle.session_nodes.proofs.AppendLemmas.{stored_node, stored_user, stored_there, stored_rest}
use Rattle.session_nodes.specs.Order.{OthersStay}
use Rattle.session_nodes.proofs.KeptLemmas.{stand_set, blocks_are, ChunksStay, OffsetsStay}
use Rattle.session_nodes.proofs.SearchLemmas.{in_blocks, not_old}

module _ (first last : ℕ) (nodes later : OwnHeap) (contents after : NatMap (List ℕ)) (name : List ℕ) (previous address : ℕ) (node : StoredNode)
    (found : IsFound first last nodes contents name previous address node)
    (payload : List ℕ) (stored : later ≡ record nodes { payloads = insert nodes.payloads address payload })
    (content size : ℕ) (back : node_at later address ≡ record node { content = content; size = size }) (there : HasBytes later.payloads address 0 96)
    (has : 0 < size → HasContent after (record node { content = content; size = size })) (own : 0 < size → (b : ℕ) → is_listed (nodes_from first nodes) b ≡ true → b ≢ address → 0 < (node_at nodes b).size → (node_at nodes b).content ≢ content)
    (gone : (a : ℕ) → (0 < node.size → a ≢ node.content) → get after a ≡ get contents a) where
  abbrev all : List ℕ
  all = found.before ++ address ∷ found.behind

  chunk_same : ChunksStay nodes later
  chunk_same a = ap (λ n. chunk_with n a) (stored_rest nodes later address payload stored)

  offset_same : OffsetsStay nodes later
  offset_same a = ap (λ n. offset_of n a) (stored_rest nodes later address payload stored)

  count_same : length later.shape.chunks ≡ length nodes.shape.chunks
  count_same = ap (λ (n : OwnHeap). length n.shape.chunks) (stored_rest nodes later address payload stored)

  in_all : is_listed all address ≡ true
  in_all = in_blocks first last nodes contents name previous address node found

  set_stays : OthersStay nodes later contents after all address
  set_stays b t other =
      let same = stored_node nodes later address payload stored b other in
      record {
        name = ap (λ (n : StoredNode). n.name) same;
        size = ap (λ (n : StoredNode). n.size) same;
        content = ap (λ (n : StoredNode). n.content) same;
        there = stored_there nodes later address payload stored b other (found.stand.each b t).there;
        chunk = chunk_same (b - 16);
        offset = offset_same (b - 16);
        user = stored_user nodes later address payload stored b other;
        bytes = λ some_b. gone (node_at nodes b).content (λ some. not_old first last nodes contents name previous address node found b t other some_b some);
      }

  set_links : (b : ℕ) → is_listed all b ≡ true → (node_at later b).next ≡ (node_at nodes b).next
  set_links b t = search (rules, stored_node, cases_eq)

  set_node : HoldsNode later after address
  set_node = search (rules, in_all, chunk_same, count_same)

  set_own : (b : ℕ) → is_listed all b ≡ true → b ≢ address → 0 < (node_at later address).size → 0 < (node_at nodes b).size → (node_at later address).content ≢ (node_at nodes b).content
  set_own b t other some some_b e =
      let listed : is_listed (nodes_from first nodes) b ≡ true = ap (λ xs. is_listed xs b) (blocks_are first last nodes contents all found.stand) ∙ t in
      own (subst (λ (n : StoredNode). 0 < n.size) back some) b listed other some_b (sym e ∙ ap (λ (n : StoredNode). n.content) back)

  pub stand_rewritten : StandAt first last later after all
  stand_rewritten = stand_set first last nodes later contents after all found.stand (omega (arith, count_same)) address in_all set_stays set_links set_node set_own

  pub sets : Sets nodes later contents after all address content size
  sets = record {
    others = set_stays;
    node_is = back ∙ ap (λ (n : StoredNode). record n { content = content; size = size }) found.node_is;
    chunk = chunk_same (address - 16);
    offset = offset_same (address - 16);
    shape = ap (λ (n : OwnHeap). n.shape) (stored_rest nodes later address payload stored);
  }
