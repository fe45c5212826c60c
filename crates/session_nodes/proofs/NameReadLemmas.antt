-- What is read of a node in the tree.
use Rattle.std.proofs.Common.{◌≡◌, ℕ, ◌+◌, ◌-◌, ◌*◌, ◌^◌, ◌<◌, ◌≤◌, ◌++◌, length, take, drop, sym, ap, subst, ◌∙◌, append_assoc, length-append, arith}
use Rattle.std.proofs.Math.Seq.{drop-append_seam}
use Rattle.std.proofs.lemmas.List.{drop-drop}
use Rattle.trade_base.specs.Word.{word_of, word_bytes}
use Rattle.trade_base.proofs.WordLemmas.{length-word_bytes}
use Rattle.region_map.specs.Regions.{Regions}
use Rattle.dataspace_core.specs.Store.{Store, space_at}
use Rattle.heap_core.specs.declared.heap.Heap.{Heap}
use Rattle.sliced_heap.specs.declared.heap.SlicedHeap.{SlicedHeap}
use Rattle.session_nodes.specs.Calls.{payload_in}
use Rattle.session_nodes.specs.Order.{node_at}
use Rattle.session_nodes.specs.Found.{FindsNode}
use Rattle.session_nodes.specs.SoundHeaps.{stock}
use Rattle.session_nodes.specs.Index.{IsNameNode, KeepsNames}
use Rattle.session_nodes.specs.NameLaws.{names_same}
use Rattle.session_nodes.specs.Node.{StoredNode, bytes_of, name_bytes, rank_by, rank_of, word_from}
use Rattle.session_nodes.proofs.NodeFoundLemmas.{node_read}
use Rattle.session_nodes.proofs.NodeLemmas.{slice_front}
use Rattle.session_nodes.proofs.RankLemmas.{name_bytes-are, rank_same, word_low}

-- a word of the bytes that stand for a name stands in those that stand for the node
pub name_word : (v : StoredNode) (j : ℕ) → word_from (bytes_of v) (24 + 8 * j) ≡ word_from (name_bytes v.name) (8 * j)
unfolding bytes_of
name_word v j =
    let a = word_bytes v.next in
    let b = word_bytes v.content in
    let c = word_bytes v.size in
    let n = name_bytes v.name in
    let whole : a ++ (b ++ (c ++ n)) ≡ (a ++ (b ++ c)) ++ n = sym (append_assoc a (b ++ c) n ∙ ap (λ l. a ++ l) (append_assoc b c n)) in
    let front : length (a ++ (b ++ c)) ≡ 24 = length-append a (b ++ c) ∙ omega (arith, length-append b c, length-word_bytes v.next, length-word_bytes v.content, length-word_bytes v.size) in
    let size : 24 + 8 * j + 8 - (24 + 8 * j) ≡ 8 * j + 8 - 8 * j = omega arith in
    let tail : drop 24 (a ++ (b ++ (c ++ n))) ≡ n = ap (λ l. drop 24 l) whole ∙ ap (λ k. drop k ((a ++ (b ++ c)) ++ n)) (sym front) ∙ drop-append_seam (a ++ (b ++ c)) n in
    let from : drop (24 + 8 * j) (a ++ (b ++ (c ++ n))) ≡ drop (8 * j) n = sym (drop-drop (8 * j) 24 (a ++ (b ++ (c ++ n)))) ∙ ap (drop (8 * j)) tail in
    ap word_of (λ i. take (size i) (from i))

module _ {heap : Heap} {sliced : SlicedHeap} {store : Store} {regions : Regions} {block : ℕ} (is : IsNameNode heap sliced store regions block) (ds at : ℕ)
    (finds : (into count : ℕ) → 1 ≤ count → into + count ≤ 96 → FindsNode heap store regions ds (at + into) block into count) where
  -- a word of the block
  pub word_read : (o : ℕ) → o + 8 ≤ 96 → word_from (space_at store ds).bytes (at + o) ≡ word_from (payload_in (stock heap sliced store regions).nodes.payloads block) o
  word_read o within = ap word_of (node_read is.furnished block is.padded.there o 8 (omega arith) within ds (at + o) (finds o 8 (omega arith) within).held)

  -- one of the name's
  pub name_read : (j : ℕ) → j < 5 → word_from (space_at store ds).bytes (at + 24 + 8 * j) ≡ word_from (name_bytes (node_at (stock heap sliced store regions).nodes block).name) (8 * j)
  name_read j few =
      let payload = payload_in (stock heap sliced store regions).nodes.payloads block in
      let node = node_at (stock heap sliced store regions).nodes block in
      let sum : at + 24 + 8 * j ≡ at + (24 + 8 * j) = omega arith in
      ap (word_from (space_at store ds).bytes) sum
      ∙ word_read (24 + 8 * j) (omega (arith, few))
      ∙ ap word_of (sym (slice_front payload (24 + 8 * j) 8 (omega (arith, is.padded.there.within)) (omega (arith, few))))
      ∙ ap (λ l. word_from l (24 + 8 * j)) is.padded.front
      ∙ name_word node j

  pub rank_read : rank_by (λ i. word_from (space_at store ds).bytes (at + 24 + 8 * i)) ≡ rank_of (node_at (stock heap sliced store regions).nodes block).name
  unfolding rank_of
  rank_read = rank_same (λ i. word_from (space_at store ds).bytes (at + 24 + 8 * i)) (λ i. word_from (name_bytes (node_at (stock heap sliced store regions).nodes block).name) (8 * i)) name_read

  pub name_low : (j : ℕ) → j < 5 → word_from (space_at store ds).bytes (at + 24 + 8 * j) < 2 ^ 64
  name_low j few = subst (λ n. n < 2 ^ 64) (sym (name_read j few)) (word_low _ (name_bytes-are _ is.padded.name) (8 * j))

-- a memory that is as it was keeps the names
pub names_after : (heap : Heap) (sliced : SlicedHeap) (regions : Regions) {store new : Store} → new ≡ store → KeepsNames heap sliced regions store new
names_after heap sliced regions {store} {new} same = subst (KeepsNames heap sliced regions store) (sym same) (names_same heap sliced regions store)
