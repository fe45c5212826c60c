-- A node is linked to another one: of its block the first word has changed.
use Rattle.std.proofs.Common.{◌≡◌, ℕ, ◌+◌, ◌^◌, ◌<◌, ◌≤◌, List, [], ◌++◌, length, take, drop, Some, is_some, refl, sym, ap, ◌∙◌, arith}
use Rattle.std.proofs.Math.Seq.{drop-append_seam, take-append-add}
use Rattle.std.proofs.lemmas.List.{drop-take}
use Rattle.std.specs.Prelude.{min, slice_range}
use Rattle.std.specs.FinMap.{get, insert}
use Rattle.std.specs.Option.{unwrap_or}
use Rattle.trade_base.specs.Bytes.{with_bytes}
use Rattle.trade_base.specs.Word.{word_of, word_bytes}
use Rattle.trade_base.proofs.ElsewhereLemmas.{range_after}
use Rattle.trade_base.proofs.WordLemmas.{length-word_bytes}
use Rattle.own_model.specs.OwnHeap.{OwnHeap}
use Rattle.own_model.specs.OwnState.{with_part}
use Rattle.own_model.proofs.ByteLemmas.{length-with_part, with_part-within}
use Rattle.own_model.proofs.NatMapLemmas.{get-insert_same}
use Rattle.heap_core.specs.Words.{are_bytes}
use Rattle.session_nodes.specs.Calls.{HasBytes, payload_in}
use Rattle.session_nodes.specs.Order.{node_at}
use Rattle.session_nodes.specs.Index.{KeepsPlace}
use Rattle.session_nodes.specs.Node.{StoredNode, node_of, bytes_of, name_bytes, word_from, longest_name}
use Rattle.session_nodes.proofs.NodeLemmas.{word_mid}

-- a node's link is the first word of its block
pub next_is : (nodes : OwnHeap) (block : ℕ) → (node_at nodes block).next ≡ word_from (payload_in nodes.payloads block) 0
unfolding node_of
next_is nodes block = refl

-- the front of a block with another first word
front_with : (p w : List ℕ) → length w ≡ 8 → take 64 (with_bytes p 0 w) ≡ w ++ drop 8 (take 64 p)
unfolding with_bytes
front_with p w size =
    let whole : 64 ≡ length w + 56 = omega (arith, size) in
    let from : 0 + length w ≡ 8 = omega (arith, size) in
    ap (λ n. take n (w ++ drop (0 + length w) p)) whole ∙ take-append-add w (drop (0 + length w) p) 56
    ∙ ap (λ n. w ++ take 56 (drop n p)) from ∙ ap (λ l. w ++ l) (sym (drop-take 8 56 p))

-- behind the first word a node's bytes don't tell its link
behind_first : (v : StoredNode) (next : ℕ) → word_bytes next ++ drop 8 (bytes_of v) ≡ bytes_of (record v { next = next })
unfolding bytes_of
behind_first v next =
    let rest = word_bytes v.content ++ (word_bytes v.size ++ name_bytes v.name) in
    ap (λ r. word_bytes next ++ r) (ap (λ n. drop n (word_bytes v.next ++ rest)) (sym (length-word_bytes v.next)) ∙ drop-append_seam (word_bytes v.next) rest)

module _ (nodes later : OwnHeap) (block next : ℕ) (low : next < 2 ^ 64) (has : HasBytes nodes.payloads block 0 96)
    (stored : later.payloads ≡ insert nodes.payloads block (with_part (payload_in nodes.payloads block) 0 (word_bytes next))) where
  abbrev p : List ℕ
  p = payload_in nodes.payloads block

  now : get later.payloads block ≡ Some (with_part p 0 (word_bytes next))
  now = ap (λ m. get m block) stored ∙ get-insert_same nodes.payloads block (with_part p 0 (word_bytes next)) block refl

  payload : payload_in later.payloads block ≡ with_bytes p 0 (word_bytes next)
  payload =
      let size = length-word_bytes next in
      ap (λ o. unwrap_or o []) now ∙ with_part-within p 0 (word_bytes next) (omega (arith, size, has.within))

  behind : (from to : ℕ) → 8 ≤ from → slice_range (payload_in later.payloads block) from to ≡ slice_range p from to
  behind from to far =
      let size = length-word_bytes next in
      ap (λ l. slice_range l from to) payload ∙ range_after p 0 (word_bytes next) from to (omega (arith, size, far)) (omega (arith, size, has.within))

  word_behind : (o : ℕ) → 8 ≤ o → word_from (payload_in later.payloads block) o ≡ word_from p o
  word_behind o far = ap word_of (behind o (o + 8) far)

  first : word_from (payload_in later.payloads block) 0 ≡ next
  unfolding with_bytes
  first = ap (λ l. word_from l 0) payload ∙ word_mid [] (drop (0 + length (word_bytes next)) p) next 0 refl low

  -- the node has another link
  pub node_next : node_at later block ≡ record (node_at nodes block) { next = next }
  unfolding node_of
  node_next = λ i. record {
    next = first i;
    content = word_behind 8 (omega arith) i;
    size = word_behind 16 (omega arith) i;
    name = (ap (λ n. slice_range (payload_in later.payloads block) 32 (32 + min n longest_name)) (word_behind 24 (omega arith)) ∙ behind 32 (32 + min (word_from p 24) longest_name) (omega arith)) i;
  }

  pub there_next : HasBytes later.payloads block 0 96
  there_next =
      let long = ap (λ o. length (unwrap_or o [])) now in
      record { there = ap is_some now; within = omega (arith, long, length-with_part p 0 (word_bytes next), has.within) }

  -- and keeps all else
  pub place_next : KeepsPlace nodes later block
  place_next = record {
    name = ap (λ (n : StoredNode). n.name) node_next;
    links = λ i. record { left = word_behind 64 (omega arith) i; right = word_behind 72 (omega arith) i; high = word_behind 80 (omega arith) i };
    previous = word_behind 88 (omega arith);
    padded = λ was. record {
      there = there_next;
      front = ap (take 64) payload ∙ front_with p (word_bytes next) (length-word_bytes next) ∙ ap (λ l. word_bytes next ++ drop 8 l) was.front ∙ behind_first (node_at nodes block) next ∙ ap bytes_of (sym node_next);
      name = ap are_bytes (ap (λ (n : StoredNode). n.name) node_next) ∙ was.name;
    };
  }
