-- The best hole is taken, and its payload cleared.
use Rattle.std.proofs.Common.{rules, ◌≡◌, ℕ, ◌+◌, ◌-◌, ◌<◌, true, eqb, List, [], length, set, refl, sym, ap, subst, ◌∙◌, arith, Some}
use Rattle.std.proofs.lemmas.Bool.Decides.{nat_tests}
use Rattle.std.proofs.lemmas.List.{get_or-map, get_or-set_same}
use Rattle.std.specs.Prelude.{Option, None, slice_range}
use Rattle.std.specs.Option.{option_map}
use Rattle.own_model.specs.BestFit.{Spot, block_size, used_at, chunk_of, taken_in}
use Rattle.own_model.specs.Growth.{hole_for}
use Rattle.own_model.specs.Heap as model
use Rattle.own_model.specs.Heap.{AreBlocks}
use Rattle.own_model.specs.HeapStep.{size_taken}
use Rattle.own_model.specs.OwnHeap.{OwnHeap, payload_start}
use Rattle.own_model.proofs.HeapBlockLemmas.{used-taken}
use Rattle.own_model.proofs.HeapBestFitLemmas.{best_is_hole, IsHoleOf}
use Rattle.std.specs.List.{AllByRecursion}
use Rattle.avl_alloc.specs.declared.best_fit.BlockAddr.{BlockAddr}
use Rattle.avl_alloc.specs.Found.{block_addr}
use Rattle.avl_alloc.proofs.LayoutLemmas.{sound_blocks}
use Rattle.region_map.specs.Regions.{Regions}
use Rattle.dataspace_core.specs.Store.{Store, bytes_of}
use Rattle.dataspace_core.specs.Share.{KeepsShares, share_in}
use Rattle.heap_core.specs.declared.heap.Heap.{Heap}
use Rattle.heap_core.specs.Calls.{TakesHole, TakesSmall, part_at}
use Rattle.heap_core.specs.Heap.{IsSound, chunk_at, heap_at, heap_in, keys_in, payer_of, shape_in, starts_in, words_in}
use Rattle.heap_core.specs.Taken.{IsUsed, Clears}
use Rattle.heap_core.specs.Words.{around}
use Rattle.heap_core.proofs.ChangeLemmas.{keeps_shares, keeps_spaces, same_account}
use Rattle.dataspace_core.proofs.PutLemmas.{put_again}
use Rattle.heap_core.proofs.PayloadLemmas.{no_chunk}
use Rattle.own_model.proofs.ListLemmas.{all_within}
use Rattle.heap_core.proofs.WordsLemmas.{length_keys}

-- where a hole is told, one is the best
pub told_hole : (o : Option Spot) (block : BlockAddr) → Some block ≡ option_map block_addr o → (hole : Spot) × (o ≡ Some hole) × (block ≡ block_addr hole)
told_hole None block h = cc
told_hole (Some hole) block h = (hole, refl, cc)

module _ (heap later : Heap) (n : ℕ) (hole : Spot) (old mid : Store) (regions : Regions) (sound : IsSound heap old regions) (best : hole_for n (shape_in heap (part_at heap old)) ≡ Some hole) (takes : TakesHole heap later n hole old mid regions) where
  -- the blocks before
  abbrev H : model.Heap
  H = (shape_in heap (part_at heap old)).chunks

  abbrev pub size : ℕ
  size = size_taken (block_size n) hole.size

  -- what stood in the payload
  abbrev before : List ℕ
  before = slice_range (bytes_of (part_at heap mid) (chunk_at heap hole.chunk).ds.0) (hole.offset + 16) (hole.offset + size)

  H_blocks : AllByRecursion AreBlocks H
  unfolding share_in
  H_blocks = sound_blocks heap.fit (words_in heap (part_at heap old)) sound.laid.fit

  is_hole : IsHoleOf H hole
  is_hole = (best_is_hole (block_size n) H hole H_blocks best).0

  in_later : hole.chunk < length later.chunks.items
  in_later = subst (λ m. hole.chunk < m) (ap length (sym takes.keys) ∙ length_keys later.chunks.items) takes.chunk_there

  in_heap : hole.chunk < length heap.chunks.items
  in_heap = subst (λ m. hole.chunk < m) (length_keys heap.chunks.items) takes.chunk_there

  -- the blocks then
  blocks_then : (shape_in later (part_at later mid)).chunks ≡ set H hole.chunk (taken_in (block_size n) hole.offset (chunk_of H hole.chunk))
  unfolding heap_in share_in
  blocks_then = ap (λ (h : OwnHeap). h.shape.chunks) takes.value

  starts_then : starts_in later ≡ starts_in heap
  unfolding heap_in share_in
  starts_then = ap (λ (h : OwnHeap). h.starts) takes.value

  pub is_used : IsUsed later mid (block_addr hole) size
  is_used = record {
    chunk = in_later;
    used = ap (λ h. used_at hole.offset (chunk_of h hole.chunk)) blocks_then
        ∙ ap (used_at hole.offset) (get_or-set_same H hole.chunk _ [] is_hole.within)
        ∙ used-taken (block_size n) hole.size hole.offset hole.offset (chunk_of H hole.chunk) (all_within AreBlocks H hole.chunk [] H_blocks is_hole.within) is_hole.there
        ∙ (let t : eqb hole.offset hole.offset ≡ true = grind (arith, nat_tests) in rw t refl);
  }

  module _ (new : Store) (address : ℕ) (at : address ≡ (chunk_at later hole.chunk).start + hole.offset + 16) (clears : Clears later address (size - 16) mid new regions)
      (kept : around (keys_in heap) mid ≡ around (keys_in heap) old) (then : around (keys_in later) new ≡ around (keys_in later) mid) where
    all_kept : around (keys_in heap) new ≡ around (keys_in heap) old
    all_kept = subst (λ ks. around ks new ≡ around ks mid) takes.keys then ∙ kept

    start_is : address ≡ payload_start (heap_at heap old regions) hole
    unfolding heap_in share_in
    start_is = search (rules, get_or-map, no_chunk, in_later, starts_then)

    pub takes_small : TakesSmall heap later n hole address old new regions regions
    takes_small = search (rules, start_is, put_again, same_account, all_kept, keeps_spaces)

    pub small_others : KeepsShares (payer_of heap) old new regions.heap regions.tags regions.heap regions.tags
    small_others = keeps_shares heap heap.fit old new regions sound all_kept
