-- A new heap has no block.
use Rattle.std.proofs.Common.{rules, ◌≡◌, ℕ, ◌*◌, [], length, sym, ap, ◌∙◌, arith, Some}
use Rattle.std.proofs.lemmas.Option.{none-some}
use Rattle.std.specs.Prelude.{Option, None}
use Rattle.std.specs.FinMap.{get, len-empty, empty, from_entries, get-from_entries}
use Rattle.own_model.specs.Heap as model
use Rattle.own_model.specs.NatMap.{picked, joined}
use Rattle.own_model.specs.OwnHeap.{no_heap}
use Rattle.own_model.specs.Region.{Region}
use Rattle.own_model.proofs.NatMapJoinedLemmas.{get-joined}
use Rattle.own_model.proofs.NatMapLemmas.{none_if, same, get-empty, get-picked_none}
use Rattle.avl_alloc.specs.Layout as avl
use Rattle.avl_alloc.specs.Layout.{heap_of, sizes_of}
use Rattle.dataspace_core.specs.Share.{Share}
use Rattle.heap_core.specs.declared.heap.Heap.{Heap}
use Rattle.heap_core.specs.Heap.{large_tag, large_regions, HasNoBlocks, IsLaid, heap_in, words_in, payloads_of, bytes_shown}
use Rattle.heap_core.proofs.BlockLemmas.{length-heap_of}
use Rattle.sliced_heap.proofs.ShareLemmas.{large_there, large_kept}

-- a share without a heap's regions has no large block
pub no_large : (share : Share) → HasNoBlocks share → (q : ℕ) → get (large_regions share) q ≡ None
no_large share none q = none_if _ (λ r large. let above = none q large_tag r (large_there share q r large) (large_kept share q r large) in omega (arith, above))

module _ (heap : Heap) (share : Share) (none : HasNoBlocks share) (blocks : (words : ℕ → ℕ) → heap_of heap.fit words ≡ []) (chunks : heap.chunks.items ≡ []) (large : heap.large.items ≡ []) (growth : heap.growth ≡ 4) where
  no_chunks : length heap.chunks.items ≡ 0
  no_chunks = ap length chunks

  no_sizes : length (sizes_of heap.fit) ≡ 0
  no_sizes = sym (length-heap_of heap.fit (words_in heap share.part)) ∙ ap length (blocks (words_in heap share.part))

  empty_large : large_regions share ≡ empty
  empty_large = same _ _ (λ q. no_large share none q ∙ sym (get-empty q))

  pub new_laid : ((words : ℕ → ℕ) → avl.IsSound heap.fit words) → IsLaid heap share
  new_laid sound = search (rules, no_sizes, no_chunks, no_large, empty_large, len-empty, none-some)

  no_regions : {X : Type 0} (f : Region → Option X) (q : ℕ) → get (picked f (large_regions share)) q ≡ None
  no_regions f q = get-picked_none f (large_regions share) q (no_large share none q)

  no_payloads : (blocks_of : model.Heap) → joined (from_entries (payloads_of share.part heap.chunks.items blocks_of)) (bytes_shown share.part.spaces (large_regions share)) ≡ empty
  no_payloads blocks_of = search (rules, same, get-joined, get-from_entries, no_regions, get-empty)

  no_bytes : picked (λ region. Some (region.pages * 4096)) (large_regions share) ≡ empty
  no_bytes = same _ _ (λ q. no_regions (λ region. Some (region.pages * 4096)) q ∙ sym (get-empty q))

  pub new_value : heap_in heap share ≡ no_heap
  unfolding heap_in
  new_value = search (rules, no_bytes, no_payloads)
