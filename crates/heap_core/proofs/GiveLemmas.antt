-- A used block of a chunk is given back: its payload is gone, and all else stays.
use Rattle.std.proofs.lemmas.Bool.Decides.{nat_tests}
use Rattle.std.proofs.Common.{rules, ◌≡◌, ℕ, ◌+◌, ◌-◌, ◌<◌, ◌≤◌, true, cond, eqb, eqb-true, List, length, get_or, refl, sym, ap, subst, ◌∙◌, true≢false, arith, Some}
use Rattle.std.proofs.lemmas.Option.{none-some}
use Rattle.std.proofs.lemmas.List.{get_or-map, length-map}
use Rattle.std.specs.Prelude.{Option, None, IfNone, OnSome, is_some}
use Rattle.std.specs.Ordering.{nat_cmp}
use Rattle.std.specs.FinMap.{get, remove, from_entries, get-from_entries}
use Rattle.own_model.specs.BestFit.{chunk_of, given, given_in, used_at}
use Rattle.own_model.specs.Entries.{value_of}
use Rattle.own_model.specs.Growth.{shape_given}
use Rattle.own_model.specs.Heap as model
use Rattle.own_model.specs.Heap.{Block, AreBlocks, bytes_in}
use Rattle.own_model.specs.HeapStep.{without_block}
use Rattle.own_model.specs.NatMap.{NatMap, joined}
use Rattle.own_model.specs.OwnHeap.{OwnHeap, chunk_with, offset_of, start_of}
use Rattle.own_model.specs.Region.{Region}
use Rattle.own_model.proofs.HeapBlockLemmas.{AreBlocks-given}
use Rattle.own_model.proofs.HeapChunkLemmas.{Lies, chunk_from_is}
use Rattle.own_model.proofs.NatMapJoinedLemmas.{get-joined}
use Rattle.own_model.proofs.NatMapLemmas.{same, get-picked_none, get-remove, picked_alike}
use Rattle.avl_alloc.specs.declared.best_fit.BestFit.{BestFit}
use Rattle.avl_alloc.specs.Layout as avl
use Rattle.avl_alloc.specs.Layout.{heap_of, sizes_of, ChangesHoles, weigh_holes, whole}
use Rattle.region_map.specs.Regions.{Regions}
use Rattle.dataspace_core.specs.Store.{Store, part}
use Rattle.dataspace_core.specs.Share.{Share, share_in}
use Rattle.heap_core.specs.declared.words.Chunk.{Chunk}
use Rattle.heap_core.specs.declared.heap.Heap.{Heap}
use Rattle.trade_base.specs.declared.refusal.Refusal.TheVariants.{PageFault}
use Rattle.avl_alloc.specs.declared.best_fit.BlockAddr.{BlockAddr}
use Rattle.heap_core.specs.Blocks.{Gives}
use Rattle.heap_core.specs.Lookup.{LiesInChunk}
use Rattle.heap_core.specs.Calls.{GivesSmall, Keeps, Unchanged, free_refusal}
use Rattle.heap_core.specs.Heap.{IsSound, bytes_shown, chunk_at, heap_in, keys_in, large_regions, payer_of, payloads_of, share_at, starts_in, words_in}
use Rattle.heap_core.specs.Words.{around, keys_of, words_of}
use Rattle.heap_core.proofs.ChangeLemmas.{later, large_apart, keeps_shares, keeps_spaces, still_sound, same_account, share_now, words_now}
use Rattle.heap_core.proofs.FoundLemmas.{blocks_at, none_else, no_large_at, one_chunk, used_inside}
use Rattle.heap_core.proofs.ChunkLemmas.{words_are}
use Rattle.heap_core.proofs.LookupLemmas.{no_free, is_free}
use Rattle.heap_core.proofs.MemoryLemmas.{memory_same}
use Rattle.heap_core.proofs.FrameLemmas.{entries_same}
use Rattle.heap_core.proofs.HoleLemmas.{AreTold, are_told}
use Rattle.heap_core.proofs.PayloadLemmas.{no_chunk, entries_of, value_of-payloads, told-given, payloads-less, payloads-same}
use Rattle.heap_core.proofs.StandLemmas.{blocks, chunk_blocks, chunk_total, count_blocks}

-- one less in the first of two maps, where the second has none there
joined-remove_first : {X : Type 0} (m n : NatMap X) (k : ℕ) → get n k ≡ None → joined (remove m k) n ≡ remove (joined m n) k
joined-remove_first m n k free = search (rules, same, get-joined, get-remove, eqb-true)

-- ---- where a block of a chunk stands, as the model has it

-- a chunk of the list starts where it does
pub start_is : (heap : Heap) (k : ℕ) → k < length heap.chunks.items → get_or (starts_in heap) k 0 ≡ (chunk_at heap k).start
start_is heap k in_heap = get_or-map (λ (x : Chunk). x.start) heap.chunks.items k no_chunk 0 in_heap

module _ (heap : Heap) (store : Store) (regions : Regions) (sound : IsSound heap store regions) (c offset : ℕ) (there : c < length heap.chunks.items) (inside : offset < avl.bytes_of heap.fit c) where
  abbrev place : Share
  place = share_at (payer_of heap) store regions

  abbrev at_start : ℕ
  at_start = (chunk_at heap c).start + offset

  lies_chunk : (k : ℕ) → k < length heap.chunks.items → Lies (starts_in heap) (blocks heap place sound.laid) k at_start → k ≡ c
  lies_chunk k in_heap lies = grind (arith, nat_tests, start_is, chunk_total, one_chunk)

  is_in_chunk : chunk_with (heap_in heap place) at_start ≡ c
  unfolding heap_in
  is_in_chunk =
      let count = count_blocks heap place sound.laid in
      let starts = length-map heap.chunks.items (λ (x : Chunk). x.start) in
      let start = start_is heap c there in
      let total = chunk_total heap place sound.laid c there in
      let e = chunk_from_is 0 (starts_in heap) (blocks heap place sound.laid) c at_start (starts ∙ sym count) (subst (λ m. c < m) (sym count) there)
      (record { low = omega (arith, start); high = omega (arith, start, total, inside) })
      (λ j less lies. let s = lies_chunk j (omega (arith, less, there)) lies in omega (arith, s, less)) in
      omega (arith, e)

  is_at_offset : offset_of (heap_in heap place) at_start ≡ offset
  unfolding heap_in
  is_at_offset = ap (λ k. at_start - start_of (heap_in heap place) k) is_in_chunk ∙ (let s = start_is heap c there in omega (arith, s))

  -- a block is given back by its payload's address
  pub without_it : (hv : OwnHeap) → hv ≡ heap_in heap place → without_block (at_start + 16) hv ≡ record hv { shape = shape_given c offset hv.shape; payloads = remove hv.payloads (at_start + 16) }
  without_it hv is = grind (arith, nat_tests, is_in_chunk, is_at_offset)

-- ---- the block goes

module _ (heap : Heap) (fit : BestFit) (c offset n : ℕ) (old new : Store) (regions : Regions) (sound : IsSound heap old regions) (kept : around (keys_in heap) new ≡ around (keys_in heap) old)
    (there : c < length heap.chunks.items) (used : used_at offset (blocks_at heap old regions sound c) ≡ Some n)
    (is : heap_of fit (words_of (keys_in heap) new) ≡ given c offset (blocks heap (share_at (payer_of heap) old regions) sound.laid))
    (fit_sound : avl.IsSound fit (words_of (keys_in heap) new)) (sizes : sizes_of fit ≡ sizes_of heap.fit)
    (changes : ChangesHoles (words_of (keys_in heap) old) (words_of (keys_in heap) new) (heap_of fit (words_of (keys_in heap) new))) where
  abbrev account : ℕ
  account = payer_of heap

  abbrev S : Share
  S = share_at account old regions

  -- the blocks before, and after
  abbrev B : model.Heap
  B = blocks heap S sound.laid

  abbrev G : model.Heap
  G = heap_of fit (words_of (keys_in heap) new)

  G_sizes : length (sizes_of fit) ≡ length heap.chunks.items
  G_sizes = ap length sizes ∙ sound.laid.count

  after : AreTold G fit (length heap.chunks.items)
  after = are_told fit (words_of (keys_in heap) new) _ fit_sound G_sizes

  G_totals : (k : ℕ) → k < length heap.chunks.items → bytes_in (chunk_of G k) ≡ avl.bytes_of heap.fit k
  G_totals k in_heap = after.total k in_heap ∙ ap (λ xs. get_or xs k 0) sizes

  abbrev pub address : ℕ
  address = (chunk_at heap c).start + offset + 16

  abbrev given_blocks : List Block
  given_blocks = given_in offset (chunk_of B c)

  one_less : (q : ℕ) → value_of q (entries_of S.part (chunk_at heap c) given_blocks) ≡ cond (eqb q address) None (value_of q (entries_of S.part (chunk_at heap c) (chunk_of B c)))
  one_less q = grind (arith, nat_tests, chunk_blocks, value_of-payloads, AreBlocks-given, told-given)

  inside : address < (chunk_at heap c).start + avl.bytes_of heap.fit c
  inside = let u = used_inside heap old regions sound c offset n there used in let least = u.0 in let to = u.1 in omega (arith, least, to)

  each_entry : (q : ℕ) → value_of q (payloads_of (part account new) heap.chunks.items G) ≡ cond (eqb q address) None (value_of q (payloads_of S.part heap.chunks.items B))
  unfolding share_in
  each_entry q =
      payloads-same (part account old) (part account new) q heap.chunks.items G (λ k in_heap. entries_same heap fit old new regions sound kept G after.no_hole changes after.each G_totals k in_heap q)
      ∙ ap (λ g. value_of q (payloads_of (part account old) heap.chunks.items g)) is
      ∙ payloads-less S.part address heap.chunks.items B c given_blocks q there (subst (λ m. c < m) (sym (count_blocks heap S sound.laid)) there) (one_less q)
      (λ k apart. none_else heap old regions sound k c address there (omega arith) inside apart)

  small_now : from_entries {R = nat_cmp} (payloads_of (part account new) heap.chunks.items G) ≡ remove (from_entries {R = nat_cmp} (payloads_of S.part heap.chunks.items B)) address
  small_now = grind (arith, nat_tests, same, get-from_entries, each_entry, get-remove)

  shown_now : bytes_shown (part account new).spaces (large_regions S) ≡ bytes_shown (part account old).spaces (large_regions S)
  shown_now = picked_alike (λ (r : Region). get (part account new).spaces r.of) (λ (r : Region). get (part account old).spaces r.of) (large_regions S) (λ q r h. (keeps_spaces heap fit old new regions sound kept).others r.of (large_apart heap fit old new regions sound kept q r h))

  chunks_now : heap_of fit (words_in (later heap fit old new regions sound kept) (part account new)) ≡ G
  chunks_now = ap (heap_of fit) (words_now heap fit old new regions sound kept)

  no_large : get (bytes_shown (part account old).spaces (large_regions S)) address ≡ None
  no_large = get-picked_none (λ (r : Region). get (part account old).spaces r.of) (large_regions S) address (no_large_at heap old regions sound c address there (omega arith) inside)

  payloads : joined (from_entries {R = nat_cmp} (payloads_of (part account new) heap.chunks.items (heap_of fit (words_in (later heap fit old new regions sound kept) (part account new))))) (bytes_shown (part account new).spaces (large_regions S))
      ≡ remove (joined (from_entries {R = nat_cmp} (payloads_of S.part heap.chunks.items B)) (bytes_shown (part account old).spaces (large_regions S))) address
  payloads = simp (chunks_now, small_now, shown_now, joined-remove_first, no_large)

  given_value : heap_in (later heap fit old new regions sound kept) (share_at account new regions)
      ≡ record (heap_in heap S) { shape = shape_given c offset (heap_in heap S).shape; payloads = remove (heap_in heap S).payloads address }
  unfolding heap_in share_in
  given_value = search (rules, later, share_now, chunks_now, payloads)

  pub gives_small : GivesSmall heap (later heap fit old new regions sound kept) address old new regions regions
  gives_small = search (rules, given_value, without_it, inside, same_account, keeps_spaces)

-- ---- what best fit has done

-- the blocks of a chunk, in the words of the memory
blocks_are : (heap : Heap) (store : Store) (regions : Regions) (sound : IsSound heap store regions) (c : ℕ) → chunk_of (heap_of heap.fit (words_of (keys_in heap) store)) c ≡ blocks_at heap store regions sound c
unfolding share_in
blocks_are heap store regions sound c = ap (λ (w : ℕ → ℕ). chunk_of (heap_of heap.fit w) c) (sym (words_are heap store regions sound))

all_blocks_are : (heap : Heap) (store : Store) (regions : Regions) (sound : IsSound heap store regions) → heap_of heap.fit (words_of (keys_in heap) store) ≡ blocks heap (share_at (payer_of heap) store regions) sound.laid
unfolding share_in
all_blocks_are heap store regions sound = ap (heap_of heap.fit) (sym (words_are heap store regions sound))

-- what best fit did and left, in the words of the heap's chunks
pub gave_there : (heap : Heap) (fit : BestFit) (addr : BlockAddr) (result : Option ℕ) (old new : Store) (chunks : List Chunk) → chunks ≡ heap.chunks.items → Gives addr result heap.fit fit (words_of (keys_of chunks) old) (words_of (keys_of chunks) new) → Gives addr result heap.fit fit (words_of (keys_in heap) old) (words_of (keys_in heap) new)
gave_there heap fit addr result old new chunks e h = subst (λ (xs : List Chunk). Gives addr result heap.fit fit (words_of (keys_of xs) old) (words_of (keys_of xs) new)) e h

pub kept_there : (heap : Heap) (old new : Store) (chunks : List Chunk) → chunks ≡ heap.chunks.items → around (keys_of chunks) new ≡ around (keys_of chunks) old → around (keys_in heap) new ≡ around (keys_in heap) old
kept_there heap old new chunks e h = subst (λ (xs : List Chunk). around (keys_of xs) new ≡ around (keys_of xs) old) e h

pub words_there : (heap : Heap) (old new : Store) (chunks : List Chunk) → chunks ≡ heap.chunks.items → words_of (keys_of chunks) new ≡ words_of (keys_of chunks) old → words_of (keys_in heap) new ≡ words_of (keys_in heap) old
words_there heap old new chunks e h = subst (λ (xs : List Chunk). words_of (keys_of xs) new ≡ words_of (keys_of xs) old) e h

pub blocks_there : (heap : Heap) (store : Store) (regions : Regions) (sound : IsSound heap store regions) (c : ℕ) (chunks : List Chunk) → chunks ≡ heap.chunks.items → chunk_of (heap_of heap.fit (words_of (keys_of chunks) store)) c ≡ blocks_at heap store regions sound c
blocks_there heap store regions sound c chunks e = ap (λ (xs : List Chunk). chunk_of (heap_of heap.fit (words_of (keys_of xs) store)) c) e ∙ blocks_are heap store regions sound c

-- what a test of an option tells
tested_some : {X : Type 0} (o : Option X) → is_some o ≡ true → (x : X) × (o ≡ Some x)
tested_some None h = absurd (true≢false (sym h))
tested_some (Some x) h = (x, refl)

module _ (heap : Heap) (fit : BestFit) (addr : BlockAddr) (result : Option ℕ) (old new : Store) (regions : Regions) (sound : IsSound heap old regions) (chunks : List Chunk) (are : chunks ≡ heap.chunks.items)
    (around_kept : around (keys_of chunks) new ≡ around (keys_of chunks) old) (gives : Gives addr result heap.fit fit (words_of (keys_of chunks) old) (words_of (keys_of chunks) new)) where
  kept : around (keys_in heap) new ≡ around (keys_in heap) old
  kept = kept_there heap old new chunks are around_kept

  gave : Gives addr result heap.fit fit (words_of (keys_in heap) old) (words_of (keys_in heap) new)
  gave = gave_there heap fit addr result old new chunks are gives

  -- the heap is sound and the others' shares stay, whatever best fit answers
  pub give_keeps : Keeps heap (record heap { fit = fit }) old new regions regions
  give_keeps = record {
    sound = still_sound heap fit old new regions sound kept gave.sound gave.sizes;
    others = keeps_shares heap fit old new regions sound kept;
    payer = refl;
  }

  module _ (address o : ℕ) (lies : LiesInChunk heap address addr.chunk o) (behind : 16 ≤ o) (at : addr.offset ≡ o - 16) where
    result_is : result ≡ used_at addr.offset (blocks_at heap old regions sound addr.chunk)
    result_is = gave.block ∙ ap (used_at addr.offset) (blocks_are heap old regions sound addr.chunk)

    -- no block was there
    pub gave_none : result ≡ None → free_refusal (heap_in heap (share_at (payer_of heap) old regions)) address ≡ Some PageFault
    gave_none none = no_free heap old regions sound address addr.chunk o lies (λ y n used is.
        let same : y ≡ addr.offset = omega (arith, is, at, behind) in
        none-some n (sym none ∙ result_is ∙ ap (λ z. used_at z (blocks_at heap old regions sound addr.chunk)) (sym same) ∙ used))

    -- so nothing has changed
    gave_same : result ≡ None → new ≡ old
    gave_same none = memory_same heap old new regions sound kept (subst (λ (r : Option ℕ). IfNone r (words_of (keys_in heap) new ≡ words_of (keys_in heap) old)) none gave.refused)

    pub gave_unchanged : result ≡ None → Unchanged (λ P. P) heap (record heap { fit = fit }) old new regions regions
    gave_unchanged none = search (rules, gave_same, gave)

    module _ (some : is_some result ≡ true) where
      size : (n : ℕ) × (result ≡ Some n)
      size = tested_some result some

      used_there : used_at addr.offset (blocks_at heap old regions sound addr.chunk) ≡ Some size.0
      used_there = sym result_is ∙ size.1

      -- the block that was there is gone
      pub gave_free : free_refusal (heap_in heap (share_at (payer_of heap) old regions)) address ≡ None
      gave_free = is_free heap old regions sound address addr.chunk o lies addr.offset size.0 used_there (omega (arith, at, behind))

      pub gave_small : GivesSmall heap (record heap { fit = fit }) address old new regions regions
      gave_small =
          let place = lies.at in
          let is : (chunk_at heap addr.chunk).start + addr.offset + 16 ≡ address = omega (arith, place, at, behind) in
          subst (λ a. GivesSmall heap (record heap { fit = fit }) a old new regions regions) is
          (gives_small heap fit addr.chunk addr.offset size.0 old new regions sound kept lies.there used_there
          (subst (λ (r : Option ℕ). OnSome r (heap_of fit (words_of (keys_in heap) new) ≡ given addr.chunk addr.offset (heap_of heap.fit (words_of (keys_in heap) old)))) size.1 gave.heap
          ∙ ap (given addr.chunk addr.offset) (all_blocks_are heap old regions sound))
          gave.sound gave.sizes gave.others)
