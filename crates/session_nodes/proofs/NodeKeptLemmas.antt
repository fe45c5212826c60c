-- What a block's node keeps of the tree and of the link back, while its payload stays, or the bytes that stand for it are others.
use Rattle.std.proofs.Common.{◌≡◌, ℕ, ◌+◌, ◌^◌, ◌<◌, ◌≤◌, List, [], ◌++◌, true, length, take, drop, append_assoc, length-append, true≢false, Some, is_some, refl, sym, ap, subst, ◌∙◌, arith}
use Rattle.std.specs.FinMap.{get, insert}
use Rattle.std.specs.Prelude.{Option}
use Rattle.std.specs.Option.{unwrap_or}
use Rattle.trade_base.specs.Word.{word_bytes}
use Rattle.trade_base.proofs.WordLemmas.{length-word_bytes}
use Rattle.own_model.specs.NatMap.{NatMap}
use Rattle.own_model.specs.OwnHeap.{OwnHeap}
use Rattle.own_model.specs.OwnState.{with_part, zeros}
use Rattle.own_model.proofs.ByteLemmas.{length-with_part, length-zeros}
use Rattle.own_model.proofs.NatMapLemmas.{get-insert_same}
use Rattle.avl_tree.specs.Tree.{Leaf}
use Rattle.heap_core.specs.Words.{are_bytes}
use Rattle.sliced_heap.specs.Chain.{is_listed}
use Rattle.session_nodes.specs.Calls.{HasBytes, payload_in}
use Rattle.session_nodes.specs.Order.{node_at, StandAt}
use Rattle.session_nodes.specs.Index.{IsAmong, IsPadded, IsIndexed, IsNamed, KeepsPlace, LeadsBack, previous_at}
use Rattle.session_nodes.specs.Node.{StoredNode, IsNode, node_of, bytes_of, word_from}
use Rattle.session_nodes.specs.declared.recent.RecentNode.{RecentNode}
use Rattle.session_nodes.proofs.BackLemmas.{back_kept}
use Rattle.session_nodes.proofs.IndexLemmas.{named_kept}
use Rattle.session_nodes.proofs.KeptLemmas.{blocks_are}
use Rattle.session_nodes.proofs.NodeLemmas.{node_stored_back, front_stored, stored_front, length-bytes_of, word_mid}

-- a payload that stays
pub place_same : (nodes later : OwnHeap) (block : ℕ) → get later.payloads block ≡ get nodes.payloads block → KeepsPlace nodes later block
place_same nodes later block e = record {
  name = ap (λ o. (node_of (unwrap_or o [])).name) e;
  links = λ i. record {
    left = word_from (unwrap_or (e i) []) 64;
    right = word_from (unwrap_or (e i) []) 72;
    high = word_from (unwrap_or (e i) []) 80;
  };
  previous = ap (λ o. word_from (unwrap_or o []) 88) e;
  padded = λ is. record {
    there = record { there = ap is_some e ∙ is.there.there; within = subst (λ o. 0 + 96 ≤ length (unwrap_or o [])) (sym e) is.there.within };
    front = ap (λ o. take 64 (unwrap_or o [])) e ∙ is.front ∙ ap (λ o. bytes_of (node_of (unwrap_or o []))) (sym e);
    name = ap (λ o. are_bytes (node_of (unwrap_or o [])).name) e ∙ is.name;
  };
}

pub place_then : (nodes mid later : OwnHeap) (block : ℕ) → KeepsPlace nodes mid block → KeepsPlace mid later block → KeepsPlace nodes later block
place_then nodes mid later block first second = record {
  name = second.name ∙ first.name;
  links = second.links ∙ first.links;
  previous = second.previous ∙ first.previous;
  padded = λ is. second.padded (first.padded is);
}

-- the block of a new node, which is linked back to another one
module _ (nodes later : OwnHeap) (block : ℕ) (v : StoredNode) (previous : ℕ) (low : previous < 2 ^ 64) (has : HasBytes nodes.payloads block 0 96) (is : IsNode v)
    (stored : later.payloads ≡ insert nodes.payloads block (with_part (payload_in nodes.payloads block) 0 (bytes_of v ++ (zeros 24 ++ word_bytes previous)))) where
  abbrev more : List ℕ
  more = zeros 24 ++ word_bytes previous

  abbrev was : List ℕ
  was = payload_in nodes.payloads block

  new_there : get later.payloads block ≡ Some (with_part was 0 (bytes_of v ++ more))
  new_there = ap (λ m. get m block) stored ∙ get-insert_same nodes.payloads block (with_part was 0 (bytes_of v ++ more)) block refl

  new_payload : payload_in later.payloads block ≡ with_part was 0 (bytes_of v ++ more)
  new_payload = ap (λ o. unwrap_or o []) new_there

  more_long : length more ≡ 32
  more_long = length-append (zeros 24) (word_bytes previous) ∙ (λ i. length-zeros 24 i + length-word_bytes previous i)

  fits : 64 + length more ≤ length was
  fits = omega (arith, more_long, has.within)

  pub new_node : node_at later block ≡ v
  new_node = ap node_of new_payload ∙ node_stored_back v is was more fits

  pub new_has : HasBytes later.payloads block 0 96
  new_has = record { there = ap is_some new_there; within = omega (arith, ap length new_payload, length-with_part was 0 (bytes_of v ++ more), has.within) }

  pub new_padded : are_bytes v.name ≡ true → IsPadded later block
  new_padded are = record {
    there = new_has;
    front = ap (take 64) new_payload ∙ front_stored v is was more fits ∙ ap bytes_of (sym new_node);
    name = ap (λ (n : StoredNode). are_bytes n.name) new_node ∙ are;
  }

  pub new_previous : previous_at later block ≡ previous
  new_previous =
      let rest = drop (64 + length more) was in
      let head : length (bytes_of v ++ zeros 24) ≡ 88 = length-append (bytes_of v) (zeros 24) ∙ (λ i. length-bytes_of v is.name i + length-zeros 24 i) in
      let whole : payload_in later.payloads block ≡ (bytes_of v ++ zeros 24) ++ (word_bytes previous ++ rest) =
      new_payload ∙ stored_front v is was more fits ∙ ap (λ l. bytes_of v ++ l) (append_assoc (zeros 24) (word_bytes previous) rest) ∙ sym (append_assoc (bytes_of v) (zeros 24) (word_bytes previous ++ rest)) in
      ap (λ l. word_from l 88) whole ∙ word_mid (bytes_of v ++ zeros 24) rest previous 88 head low

-- ---- all files

-- where all blocks keep their places, the tree and the links back stay
pub indexed_kept : (first last root first_later last_later : ℕ) (recent : Option RecentNode) (nodes later : OwnHeap) (contents after : NatMap (List ℕ)) (blocks : List ℕ) →
    StandAt first last nodes contents blocks → StandAt first_later last_later later after blocks → ((b : ℕ) → is_listed blocks b ≡ true → KeepsPlace nodes later b) →
    IsIndexed first root recent nodes → IsIndexed first_later root recent later
indexed_kept first last root first_later last_later recent nodes later contents after blocks stand now keeps is =
    let was = blocks_are first last nodes contents blocks stand in
    let are = blocks_are first_later last_later later after blocks now in
    record {
      named = subst (IsNamed root later) (sym are) (named_kept root nodes later blocks (λ b t. record { name = (keeps b t).name; padded = (keeps b t).padded }) (λ b t. (keeps b t).links) (subst (IsNamed root nodes) was is.named));
      back = subst (LeadsBack (previous_at later) 0) (sym are) (back_kept (previous_at nodes) (previous_at later) 0 blocks (λ b t. (keeps b t).previous) (subst (LeadsBack (previous_at nodes) 0) was is.back));
      remembered = subst (IsAmong recent) (was ∙ sym are) is.remembered;
    }

-- and so do those that a tree's functions and the links back are told of
pub indexed_by : (first last root : ℕ) (recent : Option RecentNode) (nodes : OwnHeap) (contents : NatMap (List ℕ)) (blocks : List ℕ) → StandAt first last nodes contents blocks → IsNamed root nodes blocks →
    LeadsBack (previous_at nodes) 0 blocks → IsAmong recent blocks → IsIndexed first root recent nodes
indexed_by first last root recent nodes contents blocks stand named back remembered =
    let are = blocks_are first last nodes contents blocks stand in
    record { named = subst (IsNamed root nodes) (sym are) named; back = subst (LeadsBack (previous_at nodes) 0) (sym are) back; remembered = subst (IsAmong recent) (sym are) remembered }

pub named_of : (first last root : ℕ) {recent : Option RecentNode} (nodes : OwnHeap) (contents : NatMap (List ℕ)) (blocks : List ℕ) → StandAt first last nodes contents blocks → IsIndexed first root recent nodes → IsNamed root nodes blocks
named_of first last root nodes contents blocks stand is = subst (IsNamed root nodes) (blocks_are first last nodes contents blocks stand) is.named

pub back_of : (first last root : ℕ) {recent : Option RecentNode} (nodes : OwnHeap) (contents : NatMap (List ℕ)) (blocks : List ℕ) → StandAt first last nodes contents blocks → IsIndexed first root recent nodes → LeadsBack (previous_at nodes) 0 blocks
back_of first last root nodes contents blocks stand is = subst (LeadsBack (previous_at nodes) 0) (blocks_are first last nodes contents blocks stand) is.back

-- no node makes no tree
pub named_none : (nodes : OwnHeap) → IsNamed 0 nodes []
named_none nodes = record {
  tree = Leaf;
  most = 0;
  stands = record { at = refl; holds = tt; balanced = tt; low = omega arith; apart = λ q. omega arith };
  ordered = omega arith;
  count = refl;
  all = λ b. refl;
  padded = λ b t. absurd (true≢false (sym t));
  small = λ b t. absurd (true≢false (sym t));
}
