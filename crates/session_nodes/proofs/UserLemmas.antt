-- The bytes of a block after those of its node, where bytes of the node are put.
use Rattle.std.proofs.Common.{◌≡◌, ℕ, ◌≢◌, ◌+◌, ◌-◌, ◌<◌, ◌≤◌, true, List, [], drop, length, take, Some, is_some, refl, sym, ap, subst, ◌∙◌, inl, inr, arith}
use Rattle.std.proofs.lemmas.Bool.{cases_eq}
use Rattle.std.proofs.lemmas.List.{length-drop}
use Rattle.std.specs.FinMap.{get}
use Rattle.std.specs.Option.{unwrap_or}
use Rattle.trade_base.specs.Bytes.{with_bytes}
use Rattle.trade_base.specs.Word.{word_of}
use Rattle.trade_base.proofs.ElsewhereLemmas.{drop_after, range_before}
use Rattle.own_model.specs.OwnHeap.{OwnHeap, chunk_with, offset_of}
use Rattle.own_model.specs.OwnState.{with_part}
use Rattle.own_model.proofs.ByteLemmas.{length-with_part, with_part-within}
use Rattle.own_model.proofs.NatMapLemmas.{get-insert_same}
use Rattle.session_nodes.specs.Calls.{HasBytes, payload_in, node_stored}
use Rattle.heap_core.specs.Words.{are_bytes}
use Rattle.sliced_heap.specs.Chain.{is_listed}
use Rattle.session_nodes.specs.Index.{AreListed, KeepsPlace}
use Rattle.session_nodes.specs.Node.{StoredNode, bytes_of, word_from}
use Rattle.session_nodes.specs.NodeList.{nodes_in, HasNodes, PutsUser}
use Rattle.session_nodes.specs.Order.{node_at, user_at, HasContent, HoldsNode, OthersStay, StandAt}
use Rattle.session_nodes.specs.SoundHeaps.{Stock}
use Rattle.session_nodes.specs.declared.node_list.NodeList.{NodeList}
use Rattle.session_nodes.proofs.AppendLemmas.{stored_node, stored_payload, stored_there, stored_user}
use Rattle.session_nodes.proofs.KeptLemmas.{blocks_are, stand_set}
use Rattle.session_nodes.proofs.NodeKeptLemmas.{indexed_kept, place_same}
use Rattle.session_nodes.proofs.TailLemmas.{front_node}

-- they stay
pub user_stored : (old new : Stock) (block offset : ℕ) (bytes : List ℕ) → offset + length bytes ≤ 96 → HasBytes old.nodes.payloads block 0 96 → new ≡ node_stored block offset bytes old →
    user_at new.nodes block ≡ user_at old.nodes block
user_stored old new block offset bytes fits has stored =
    let p = payload_in old.nodes.payloads block in
    let here : get new.nodes.payloads block ≡ Some (with_part p offset bytes) =
    ap (λ (s : Stock). get s.nodes.payloads block) stored ∙ get-insert_same old.nodes.payloads block (with_part p offset bytes) block refl in
    ap (λ o. drop 96 (unwrap_or o [])) here ∙ ap (drop 96) (with_part-within p offset bytes (omega (arith, fits, has.within)))
    ∙ drop_after p offset bytes 96 fits (omega (arith, fits, has.within))

-- so a block has as many bytes as it had
pub room_kept : (nodes later : OwnHeap) (block count : ℕ) → user_at later block ≡ user_at nodes block → HasBytes later.payloads block 0 96 → HasBytes nodes.payloads block 0 96 → HasBytes nodes.payloads block 0 count →
    HasBytes later.payloads block 0 count
room_kept nodes later block count same has was room =
    let a = length-drop 96 (payload_in later.payloads block) in
    let b = length-drop 96 (payload_in nodes.payloads block) in
    record { there = has.there; within = omega (arith, a, b, ap length same, has.within, was.within, room.within) }

-- ---- bytes put after those of a node

module _ (old new : Stock) (block offset : ℕ) (bytes : List ℕ) (far : 96 ≤ offset) (has : HasBytes old.nodes.payloads block 0 (offset + length bytes)) (stored : new ≡ node_stored block offset bytes old) where
  abbrev p : List ℕ
  p = payload_in old.nodes.payloads block

  here : get new.nodes.payloads block ≡ Some (with_part p offset bytes)
  here = ap (λ (s : Stock). get s.nodes.payloads block) stored ∙ get-insert_same old.nodes.payloads block (with_part p offset bytes) block refl

  pub payload_put : payload_in new.nodes.payloads block ≡ with_bytes p offset bytes
  payload_put = ap (λ o. unwrap_or o []) here ∙ with_part-within p offset bytes (omega (arith, has.within))

  long : length (payload_in new.nodes.payloads block) ≡ length p
  long = ap (λ o. length (unwrap_or o [])) here ∙ length-with_part p offset bytes

  pub there_put : (n : ℕ) → HasBytes old.nodes.payloads block 0 n → HasBytes new.nodes.payloads block 0 n
  there_put n was = record { there = ap is_some here; within = omega (arith, long, was.within) }

  front : take 64 (payload_in new.nodes.payloads block) ≡ take 64 p
  front = ap (take 64) payload_put ∙ range_before p offset bytes 0 64 (omega (arith, far)) (omega (arith, has.within))

  word : (o : ℕ) → o + 8 ≤ 96 → word_from (payload_in new.nodes.payloads block) o ≡ word_from p o
  word o low = ap (λ l. word_from l o) payload_put ∙ ap word_of (range_before p offset bytes o (o + 8) (omega (arith, far, low)) (omega (arith, has.within)))

  -- the node is the same
  pub node_put : node_at new.nodes block ≡ node_at old.nodes block
  node_put = front_node p (payload_in new.nodes.payloads block) (omega (arith, far, has.within)) (omega (arith, far, has.within, long)) front

  -- and has its place
  pub place_put : KeepsPlace old.nodes new.nodes block
  place_put = record {
    name = ap (λ (n : StoredNode). n.name) node_put;
    links = λ i. record { left = word 64 (omega arith) i; right = word 72 (omega arith) i; high = word 80 (omega arith) i };
    previous = word 88 (omega arith);
    padded = λ is. record {
      there = there_put 96 is.there;
      front = front ∙ is.front ∙ ap bytes_of (sym node_put);
      name = ap (λ (n : StoredNode). are_bytes n.name) node_put ∙ is.name;
    };
  }

  nodes_are : new.nodes ≡ record old.nodes { payloads = new.nodes.payloads }
  nodes_are = ap (λ (s : Stock). s.nodes) stored ∙ ap (λ m. record old.nodes { payloads = m }) (sym (ap (λ (s : Stock). s.nodes.payloads) stored))

  module _ (list : NodeList) (listed : is_listed (nodes_in list old) block ≡ true) (nodes : HasNodes list old) where
    abbrev blocks : List ℕ
    blocks = nodes.blocks

    was : nodes_in list old ≡ blocks
    was = blocks_are list.first list.last old.nodes old.contents blocks nodes.stand

    in_blocks : is_listed blocks block ≡ true
    in_blocks = ap (λ bs. is_listed bs block) (sym was) ∙ listed

    contents_same : new.contents ≡ old.contents
    contents_same = ap (λ (s : Stock). s.contents) stored

    nodes_stored : new.nodes ≡ (node_stored block offset bytes old).nodes
    nodes_stored = ap (λ (s : Stock). s.nodes) stored

    stay : OthersStay old.nodes new.nodes old.contents old.contents blocks block
    stay b t other =
        let same = stored_node old.nodes new.nodes block (with_part p offset bytes) nodes_stored b other in
        record {
          name = ap (λ (n : StoredNode). n.name) same;
          size = ap (λ (n : StoredNode). n.size) same;
          content = ap (λ (n : StoredNode). n.content) same;
          there = stored_there old.nodes new.nodes block (with_part p offset bytes) nodes_stored b other (nodes.stand.each b t).there;
          chunk = ap (λ n. chunk_with n (b - 16)) nodes_are;
          offset = ap (λ n. offset_of n (b - 16)) nodes_are;
          user = stored_user old.nodes new.nodes block (with_part p offset bytes) nodes_stored b other;
          bytes = λ some. refl;
        }

    next_same : (b : ℕ) → is_listed blocks b ≡ true → (node_at new.nodes b).next ≡ (node_at old.nodes b).next
    next_same b t = elim (cases_eq b block) [
      | inl at ↦ subst (λ x. (node_at new.nodes x).next ≡ (node_at old.nodes x).next) (sym at) (ap (λ (n : StoredNode). n.next) node_put)
      | inr other ↦ ap (λ (n : StoredNode). n.next) (stored_node old.nodes new.nodes block (with_part p offset bytes) nodes_stored b other)
    ]

    places : (b : ℕ) → is_listed blocks b ≡ true → KeepsPlace old.nodes new.nodes b
    places b t = elim (cases_eq b block) [
      | inl at ↦ subst (KeepsPlace old.nodes new.nodes) (sym at) place_put
      | inr other ↦ place_same old.nodes new.nodes b (stored_payload old.nodes new.nodes block (with_part p offset bytes) nodes_stored b other)
    ]

    holds : HoldsNode new.nodes old.contents block
    holds =
        let held = nodes.stand.each block in_blocks in
        record {
          there = there_put 96 held.there;
          place = subst (λ n. chunk_with n (block - 16) < length n.shape.chunks) (sym nodes_are) held.place;
          content = subst (λ n. 0 < n.size → HasContent old.contents n) (sym node_put) held.content;
        }

    own : (b : ℕ) → is_listed blocks b ≡ true → b ≢ block → 0 < (node_at new.nodes block).size → 0 < (node_at old.nodes b).size → (node_at new.nodes block).content ≢ (node_at old.nodes b).content
    own b t other some some_b same =
        other (nodes.stand.apart b block t in_blocks some_b (subst (λ (n : StoredNode). 0 < n.size) node_put some) (sym same ∙ ap (λ (n : StoredNode). n.content) node_put))

    stand : StandAt list.first list.last new.nodes old.contents blocks
    stand = stand_set list.first list.last old.nodes new.nodes old.contents old.contents blocks nodes.stand (omega (arith, ap (λ (n : OwnHeap). length n.shape.chunks) nodes_are)) block in_blocks stay next_same holds own

    pub puts_user : PutsUser list block offset bytes old new
    puts_user = record {
      kept = subst (λ c. AreListed list.first list.last list.root list.recent new.nodes c) (sym contents_same) (record {
        blocks = blocks;
        stand = stand;
        indexed = indexed_kept list.first list.last list.root list.first list.last list.recent old.nodes new.nodes old.contents old.contents blocks nodes.stand stand places nodes.indexed;
      });
      listed = blocks_are list.first list.last new.nodes old.contents blocks stand ∙ sym was;
      others = subst (λ c. OthersStay old.nodes new.nodes old.contents c (nodes_in list old) block) (sym contents_same) (subst (λ bs. OthersStay old.nodes new.nodes old.contents old.contents bs block) (sym was) stay);
      node_is = node_put;
      is = stored;
    }
