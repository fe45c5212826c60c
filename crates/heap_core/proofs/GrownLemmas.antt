-- A heap has grown by a chunk: it is sound, and else as it was.
use Rattle.std.proofs.Common.{rules, ◌≡◌, ◌≢◌, ℕ, ◌+◌, ◌-◌, ◌/◌, ◌^◌, ◌<◌, ◌≤◌, ◌==◌, ◌++◌, true, false, cond, List, [], ◌∷◌, length, get_or, map, refl, sym, ap, subst, ◌∙◌, ⊎_elim, unwrap_or, arith, Some, is_some}
use Rattle.std.proofs.Math.ListN.{get_or-append}
use Rattle.std.proofs.Math.Seq.{get_or-append_seam}
use Rattle.std.proofs.lemmas.Bool.{cases_eq, cases_lt}
use Rattle.std.proofs.lemmas.Bool.Decides.{nat_tests}
use Rattle.std.proofs.lemmas.List.{length-append, map-append}
use Rattle.std.proofs.lemmas.Option.{none-some, same_Some}
use Rattle.std.specs.Prelude.{Option, None}
use Rattle.std.specs.Option.{option_map, option_and_then}
use Rattle.std.specs.Cmp.{nat_cmp_total}
use Rattle.std.specs.Ordering.{nat_cmp}
use Rattle.std.specs.FinMap.{get, insert, remove, empty, len, from_entries, get-from_entries}
use Rattle.arrayvec.specs.ArrayVec.{ArrayVec}
use Rattle.trade_base.specs.Page.{page_of}
use Rattle.own_model.specs.Heap as model
use Rattle.own_model.specs.Heap.{Hole, AreBlocks, bytes_in}
use Rattle.own_model.specs.HeapStep.{with_chunk}
use Rattle.own_model.specs.HeapWindow.{heap_gap, largest_machine}
use Rattle.own_model.specs.NatMap.{NatMap, joined}
use Rattle.own_model.specs.OwnState.{zeros}
use Rattle.own_model.specs.Region.{Region}
use Rattle.own_model.proofs.ByteLemmas.{length-zeros}
use Rattle.own_model.proofs.NatMapLemmas.{same, picked_alike, get-insert_same, get-insert_other, get-remove_same, get-remove_other}
use Rattle.avl_alloc.specs.declared.best_fit.BestFit.{BestFit}
use Rattle.avl_alloc.specs.Layout as avl
use Rattle.avl_alloc.specs.Layout.{heap_of, sizes_of, ChangesHoles, weigh_holes, whole}
use Rattle.avl_alloc.specs.Words.{place_at}
use Rattle.avl_alloc.proofs.HoleLemmas.{within_below}
use Rattle.avl_alloc.proofs.WeightLemmas.{weigh_all-append}
use Rattle.region_map.specs.Regions.{Regions, heap_attached}
use Rattle.dataspace_core.specs.Store.{Store, Space, part, bytes_of, bytes_paid_by, PartBecomes, part_with_space, with_space}
use Rattle.dataspace_core.specs.Share.{Share, KeepsShares, share_in}
use Rattle.dataspace_core.proofs.PartLaws.{open_in_part}
use Rattle.dataspace_core.proofs.ShareLaws.{nothing_shown, share_alike, some_alike, in_share}
use Rattle.dataspace_core.proofs.WindowLaws.{length_some, share_then, shares_then, window_then, window_after, open_then, unshown, others_there, new_in_part, count_then, charge_then}
use Rattle.heap_core.specs.declared.heap.Heap.{Heap}
use Rattle.heap_core.specs.declared.words.Chunk.{Chunk}
use Rattle.heap_core.specs.Blocks.{Adds}
use Rattle.heap_core.specs.Calls.{Grows, Keeps}
use Rattle.heap_core.specs.Heap.{IsLaid, IsSound, IsChunkAt, bytes_shown, chunk_at, heap_in, is_large_tag, keys_in, large_regions, payer_of, payloads_of, share_at, starts_in, words_in, HasLargeBlocks}
use Rattle.heap_core.specs.Words.{Around, is_among, are_bytes, around, bytes_in_store, keys_of, words_of, word_in, spaces_but, blank_if}
use Rattle.heap_core.proofs.AddLemmas.{among_more, are_then, blocks_then, key_other, keys_more, other_space, paid_then, word_then, word_low, word_out}
use Rattle.heap_core.proofs.AroundLemmas.{get-part, bytes_of-part, part_lengths, account_kept, around_becomes, words_of-part}
use Rattle.heap_core.proofs.ChangeLemmas.{chunk_now, keeps_spaces, large_apart}
use Rattle.heap_core.proofs.ChunkLemmas.{are_sound, key_is, stand_in, words_are}
use Rattle.heap_core.proofs.FrameLemmas.{entries_same}
use Rattle.heap_core.proofs.HoleLemmas.{AreTold, are_told}
use Rattle.heap_core.proofs.PayloadLemmas.{no_chunk, payloads-hole, payloads-same}
use Rattle.heap_core.proofs.RoomLemmas.{len_alike}
use Rattle.sliced_heap.proofs.ShareLemmas.{large_there, numbered-insert_other}
use Rattle.heap_core.proofs.StandLemmas.{payloads_alike}
use Rattle.heap_core.proofs.TakeLargeLemmas.{gap_place}
use Rattle.heap_core.proofs.WordsLemmas.{AreChunks, all_bytes, chunks_sound, sound_chunks, each_bytes, length_keys}

module _ (heap : Heap) (vec : ArrayVec Chunk) (fit : BestFit) (next ds asked start : ℕ) (old mid new : Store) (regions : Regions) (sound : IsSound heap old regions) (fresh : get old.spaces ds ≡ None)
    (ok : mid ≡ with_space old ds (payer_of heap) asked) (becomes : PartBecomes (payer_of heap) (part_with_space (part (payer_of heap) old) ds asked) old mid) (room : length heap.chunks.items < 64)
    (some : 1 ≤ asked) (free : get regions.heap start ≡ None) (gap : heap_gap regions.pages regions.heap (page_of asked / 4096) ≡ Some start) (lowest : heap_gap largest_machine regions.heap (page_of asked / 4096) ≡ Some start)
    (items : vec.items ≡ heap.chunks.items ++ record { ds = record { 0 = ds }; start = start } ∷ [])
    (adds : Adds (page_of asked) heap.fit fit (words_of (keys_in heap ++ ds ∷ []) mid) (words_of (keys_in heap ++ ds ∷ []) new))
    (kept : around (keys_in heap ++ ds ∷ []) new ≡ around (keys_in heap ++ ds ∷ []) mid) (next_some : 1 ≤ next) (next_most : next ≤ 64) where
  abbrev account : ℕ
  account = payer_of heap

  abbrev S : Share
  S = share_at account old regions

  abbrev ks : List ℕ
  ks = keys_in heap ++ ds ∷ []

  abbrev n : ℕ
  n = length (keys_in heap)

  n_is : n ≡ length heap.chunks.items
  n_is = length_keys heap.chunks.items

  abbrev size : ℕ
  size = page_of asked

  abbrev region : Region
  region = record { of = ds; pages = size / 4096 }

  abbrev after : Regions
  after = heap_attached regions ds (size / 4096) n start

  abbrev pub later : Heap
  later = record heap { fit = fit; chunks = vec; growth = next }

  other_key : (i : ℕ) → i < n → get_or (keys_in heap) i 0 ≢ ds
  other_key = key_other heap old mid regions ds asked sound fresh ok becomes room

  paid : (i : ℕ) → i < length ks → is_some (get (part account mid).spaces (get_or ks i 0)) ≡ true
  paid = paid_then heap old mid regions ds asked sound fresh ok becomes room

  -- ---- the chunks before, without the new dataspace

  -- the memory without it, but with what best fit changed of the others
  abbrev back : Store
  back = record old { spaces = remove new.spaces ds }

  back_space : (k : ℕ) → k ≢ ds → get back.spaces k ≡ get new.spaces k
  back_space k other = get-remove_other new.spaces ds k other

  back_bytes : (k : ℕ) → k ≢ ds → bytes_in_store back k ≡ bytes_in_store new k
  back_bytes k other = ap (λ (o : Option Space). (unwrap_or o (record { payer = 0; bytes = [] })).bytes) (back_space k other)

  new_chunks : AreChunks ks (bytes_in_store new)
  new_chunks = sound_chunks ks (bytes_in_store new) (ap (λ (a : Around). a.sound) kept ∙ chunks_sound ks (bytes_in_store mid) (are_then heap old mid regions ds asked sound fresh ok becomes room))

  low_key : (i : ℕ) → i < n → get_or ks i 0 ≡ get_or (keys_in heap) i 0
  low_key i there = get_or-append (keys_in heap) (ds ∷ []) 0 i there

  length_ks : length ks ≡ n + 1
  length_ks = length-append (keys_in heap) (ds ∷ [])

  back_each : (i : ℕ) → i < n → are_bytes (bytes_in_store back (get_or (keys_in heap) i 0)) ≡ true
  back_each i there =
      ap are_bytes (back_bytes _ (other_key i there) ∙ ap (bytes_in_store new) (sym (low_key i there)))
      ∙ each_bytes ks (bytes_in_store new) i new_chunks.each (let l = length_ks in omega (arith, l, there))

  back_sound : (around (keys_in heap) back).sound ≡ (around (keys_in heap) old).sound
  back_sound = grind (arith, nat_tests, are_sound, AreChunks, all_bytes, back_each, chunks_sound)

  back_spaces : (k : ℕ) → spaces_but (keys_in heap) back k ≡ spaces_but (keys_in heap) old k
  unfolding spaces_but
  back_spaces k = ⊎_elim
      (λ (here : k ≡ ds). ap (option_map (blank_if (is_among (keys_in heap) k))) (get-remove_same new.spaces ds k here ∙ sym (ap (get old.spaces) here ∙ fresh)))
      (λ (other : k ≢ ds).
      let among = among_more (keys_in heap) ds k other in
      ap (option_map (blank_if (is_among (keys_in heap) k))) (back_space k other)
      ∙ subst (λ b. option_map (blank_if b) (get new.spaces k) ≡ option_map (blank_if b) (get mid.spaces k)) among (ap (λ (a : Around). a.spaces k) kept)
      ∙ ap (option_map (blank_if (is_among (keys_in heap) k))) (other_space heap old mid regions ds asked sound fresh ok becomes room k other))
      (cases_eq k ds)

  back_kept : around (keys_in heap) back ≡ around (keys_in heap) old
  back_kept = λ i. record { keys = keys_in heap; sound = back_sound i; store = record old { spaces = empty }; spaces = λ k. back_spaces k i }

  -- the account has of every other dataspace what it has there
  part_back : (k : ℕ) → k ≢ ds → get (part account new).spaces k ≡ get (part account back).spaces k
  part_back k other = get-part account new k ∙ ap (option_and_then (bytes_paid_by account)) (sym (back_space k other)) ∙ sym (get-part account back k)

  -- ---- what changes around

  now_lengths : (k : ℕ) → option_map length (get (part account new).spaces k) ≡ option_map length (get (part account mid).spaces k)
  now_lengths = part_lengths ks account mid new kept paid

  now_becomes : PartBecomes account (part account new) mid new
  now_becomes = around_becomes ks account mid new kept paid

  now_account : (part account new).account ≡ (part account mid).account
  now_account = account_kept ks account mid new kept paid

  mid_others : (k : ℕ) → k ≢ ds → get (part account mid).spaces k ≡ get (part account old).spaces k
  mid_others = others_there account ds asked n start old mid regions.pages regions.heap_most regions.heap regions.tags sound.opens sound.window fresh becomes free

  abbrev larger : Share
  larger = record { part = part account new; heap = insert S.heap start region; tags = insert S.tags start n }

  now : share_at account new after ≡ larger
  now =
      share_alike (part account mid) (part account new) after.heap after.tags (λ s r h. some_alike _ _ (now_lengths r.of))
      ∙ (λ i. let s : Share = share_then account ds asked n start old mid regions.pages regions.heap_most regions.heap regions.tags sound.opens sound.window fresh becomes free i in
      record { part = part account new; heap = s.heap; tags = s.tags })

  grown_others : KeepsShares account old new regions.heap regions.tags after.heap after.tags
  grown_others =
      let first = shares_then account ds asked n start old mid regions.pages regions.heap_most regions.heap regions.tags sound.opens sound.window fresh becomes free in
      record {
        shares = λ other apart. ap (λ p. share_in p after.heap after.tags) (now_becomes.others other apart) ∙ first.shares other apart;
        root = now_becomes.root ∙ first.root;
        parents = now_becomes.parents ∙ first.parents;
        room = now_becomes.room ∙ first.room;
      }

  -- ---- its chunks

  keys_are : keys_in later ≡ ks
  keys_are = ap keys_of items ∙ keys_more heap.chunks.items _

  now_paid : (i : ℕ) → i < length ks → is_some (get (part account new).spaces (get_or ks i 0)) ≡ true
  now_paid i there = some_alike _ _ (now_lengths (get_or ks i 0)) ∙ paid i there

  words_now : words_in later (part account new) ≡ words_of ks new
  words_now = ap (λ k. word_in k (bytes_of (part account new))) keys_are ∙ words_of-part ks account new now_paid

  length_now : length vec.items ≡ n + 1
  length_now = ap length items ∙ length-append heap.chunks.items _ ∙ ap (λ m. m + 1) (sym n_is)

  low_chunk : (k : ℕ) → k < n → chunk_at later k ≡ chunk_at heap k
  low_chunk k there = ap (λ cs. get_or cs k no_chunk) items ∙ get_or-append heap.chunks.items _ no_chunk k (let e = n_is in omega (arith, e, there))

  last_chunk : chunk_at later n ≡ record { ds = record { 0 = ds }; start = start }
  last_chunk = ap (λ cs. get_or cs n no_chunk) items ∙ ap (λ m. get_or (heap.chunks.items ++ record { ds = record { 0 = ds }; start = start } ∷ []) m no_chunk) n_is ∙ get_or-append_seam heap.chunks.items _ [] no_chunk

  low_size : (k : ℕ) → k < n → avl.bytes_of fit k ≡ avl.bytes_of heap.fit k
  low_size k there = ap (λ xs. get_or xs k 0) adds.sizes ∙ get_or-append (sizes_of heap.fit) (size ∷ []) 0 k (let c = sound.laid.count in let e = n_is in omega (arith, c, e, there))

  last_size : avl.bytes_of fit n ≡ size
  last_size = ap (λ xs. get_or xs n 0) adds.sizes ∙ ap (λ m. get_or (sizes_of heap.fit ++ size ∷ []) m 0) (n_is ∙ sym sound.laid.count) ∙ get_or-append_seam (sizes_of heap.fit) size [] 0

  free_here : get S.heap start ≡ None
  unfolding share_in
  free_here = nothing_shown (part account old).spaces regions.heap start free

  elsewhere : (s : ℕ) (r : Region) → get S.heap s ≡ Some r → s ≢ start
  elsewhere s r h e = none-some r (sym free_here ∙ ap (get S.heap) (sym e) ∙ h)

  chunk_other : (k : ℕ) → k < n → (chunk_at heap k).ds.0 ≢ ds
  chunk_other k there e = other_key k there (key_is heap old regions sound k there ∙ e)

  low_stands : (k : ℕ) → k < n → IsChunkAt larger (chunk_at heap k) k (avl.bytes_of heap.fit k)
  low_stands k there =
      let in_heap : k < length heap.chunks.items = let e = n_is in omega (arith, e, there) in
      let was = sound.laid.chunks k in_heap in
      let here = chunk_now heap heap.fit old back regions sound back_kept k in_heap in
      record {
        bytes = here.bytes;
        pages = was.pages;
        there = part_back _ (chunk_other k there) ∙ here.there;
        numbers = here.numbers;
        long = here.long;
        some = was.some;
        whole = was.whole;
        region = get-insert_other S.heap start region _ (elsewhere _ _ was.region) ∙ was.region;
        tag = get-insert_other S.tags start n _ (elsewhere _ _ was.region) ∙ was.tag;
      }

  last_stands : IsChunkAt larger (record { ds = record { 0 = ds }; start = start }) n size
  last_stands =
      let there = length_some (get (part account new).spaces ds) (length (zeros size)) (now_lengths ds ∙ ap (option_map length) (new_in_part account ds asked old mid becomes)) in
      let seam = get_or-append_seam (keys_in heap) ds [] 0 in
      let bytes = ap (λ (o : Option (List ℕ)). unwrap_or o []) (sym there.1) ∙ ap (bytes_of (part account new)) (sym seam) ∙ bytes_of-part account (get_or ks n 0) new (now_paid n (let l = length_ks in omega (arith, l))) in
      record {
        bytes = there.0;
        pages = size / 4096;
        there = there.1;
        numbers = ap are_bytes bytes ∙ each_bytes ks (bytes_in_store new) n new_chunks.each (let l = length_ks in omega (arith, l));
        long = there.2 ∙ length-zeros size;
        some = omega (arith, some);
        whole = omega arith;
        region = get-insert_same S.heap start region start refl;
        tag = get-insert_same S.tags start n start refl;
      }

  stands : (k : ℕ) → k < length vec.items → IsChunkAt larger (chunk_at later k) k (avl.bytes_of fit k)
  stands k there = search (rules, low_chunk, low_size, low_stands, length_now, last_chunk, last_size, last_stands, cases_lt)

  all : (s k : ℕ) (r : Region) → get larger.heap s ≡ Some r → get larger.tags s ≡ Some k → k < 64 → (k < length vec.items) × ((chunk_at later k).start ≡ s)
  all s k r h tag low = ⊎_elim
      (λ (here : s ≡ start).
      let number : n ≡ k = same_Some n k (sym (get-insert_same S.tags start n s here) ∙ tag) in
      let l = length_now in
      (omega (arith, number, l), ap (λ m. (chunk_at later m).start) (sym number) ∙ ap (λ (c : Chunk). c.start) last_chunk ∙ sym here))
      (λ (other : s ≢ start).
      let was = sound.laid.all s k r (sym (get-insert_other S.heap start region s other) ∙ h) (sym (get-insert_other S.tags start n s other) ∙ tag) low in
      let in_heap = was.0 in
      let l = length_now in
      let e = n_is in
      (omega (arith, in_heap, l, e), ap (λ (c : Chunk). c.start) (low_chunk k (omega (arith, in_heap, e))) ∙ was.1))
      (cases_eq s start)

  -- ---- its large blocks

  large_same : large_regions larger ≡ large_regions S
  large_same = numbered-insert_other is_large_tag S.heap S.tags start n region (let few : (n == 64) ≡ false = let e = n_is in grind (arith, nat_tests, e, room) in few) free_here

  large_space : (s : ℕ) (r : Region) → get (large_regions S) s ≡ Some r → get (part account new).spaces r.of ≡ get (part account old).spaces r.of
  large_space s r h =
      part_back r.of (unshown account ds asked n start old mid regions.pages regions.heap_most regions.heap regions.tags sound.opens sound.window fresh becomes free s r (in_share (part account old) regions.heap regions.tags s r (large_there S s r h)).0)
      ∙ (keeps_spaces heap heap.fit old back regions sound back_kept).others r.of (large_apart heap heap.fit old back regions sound back_kept s r h)

  S_space : (k : ℕ) → get S.part.spaces k ≡ get (part account old).spaces k
  unfolding share_in
  S_space k = refl

  large_stands : HasLargeBlocks larger
  large_stands s r h =
      let there = ap (λ (m : NatMap Region). get m s) (sym large_same) ∙ h in
      let was = sound.laid.large_stands s r there in
      record { bytes = was.bytes; there = large_space s r there ∙ sym (S_space r.of) ∙ was.there; whole = was.whole; least = was.least }

  grown_laid : IsLaid later larger
  grown_laid = record {
    fit = subst (avl.IsSound fit) (sym words_now) adds.sound;
    count = ap length adds.sizes ∙ length-append (sizes_of heap.fit) (size ∷ []) ∙ ap (λ m. m + 1) (sound.laid.count ∙ sym n_is) ∙ sym length_now;
    few = let l = length_now in let e = n_is in omega (arith, l, e, room);
    chunks = stands;
    all = all;
    large = λ s. sound.laid.large s ∙ ap (λ (m : NatMap Region). cond (is_some (get m s)) 1 0) (sym large_same);
    large_count = sound.laid.large_count ∙ ap len (sym large_same);
    large_stands = large_stands;
    growth_some = next_some;
    growth_most = next_most;
  }

  grown_sound : IsSound later new after
  grown_sound = record {
    opens = open_in_part account new (ap is_some (now_account ∙ charge_then account ds asked n start old mid regions.pages regions.heap_most regions.heap regions.tags sound.opens sound.window fresh becomes free));
    window = window_after account (part account new) mid new now_becomes regions.pages regions.heap_most after.heap now_account
        (open_then account ds asked n start old mid regions.pages regions.heap_most regions.heap regions.tags sound.opens sound.window fresh becomes free) now_lengths
        (window_then account ds asked n start old mid regions.pages regions.heap_most regions.heap regions.tags sound.opens sound.window fresh becomes free some (gap_place regions (size / 4096) start gap));
    laid = subst (IsLaid later) (sym now) grown_laid;
  }

  pub grown_keeps : Keeps heap later old new regions after
  grown_keeps = record { sound = grown_sound; others = grown_others; payer = refl }

  -- ---- its value

  abbrev H : model.Heap
  H = heap_of heap.fit (words_of (keys_in heap) old)

  H_is : heap_of heap.fit (words_in heap (part account old)) ≡ H
  H_is = ap (heap_of heap.fit) (words_are heap old regions sound)

  before : AreTold H heap.fit (length heap.chunks.items)
  before = are_told heap.fit (words_of (keys_in heap) old) _ (stand_in heap old regions sound).sound sound.laid.count

  H_now : heap_of fit (words_of ks new) ≡ H ++ (Hole size ∷ []) ∷ []
  H_now = adds.heap ∙ ap (λ h. h ++ (Hole size ∷ []) ∷ []) (blocks_then heap old mid regions ds asked sound fresh ok becomes room).1

  -- no word of the chunks before has changed but those of holes
  back_changes : ChangesHoles (words_of (keys_in heap) old) (words_of (keys_in heap) back) H
  back_changes q clear = ⊎_elim
      (λ (low : q / 2 ^ 32 - 1 < n).
      let e = n_is in
      let c = before.count in
      let past : whole q (place_at (0 + length H) 0) size ≡ 0 = within_below (place_at (0 + length H) 0) (place_at (0 + length H) 0 + size) q (omega (arith, low, e, c)) in
      let sum = weigh_all-append avl.none (whole q) 0 H ((Hole size ∷ []) ∷ []) in
      let none_now : weigh_holes (whole q) (heap_of fit (words_of ks new)) ≡ 0 = ap (weigh_holes (whole q)) H_now ∙ omega (arith, sum, past, clear) in
      sym (word_low (keys_in heap) ds (bytes_in_store back) (bytes_in_store new) q low (sym (back_bytes _ (other_key _ low))))
      ∙ adds.others q none_now
      ∙ word_then heap old mid regions ds asked sound fresh ok becomes room q low)
      (λ (out : n ≤ q / 2 ^ 32 - 1). word_out (keys_in heap) (bytes_in_store old) (bytes_in_store back) q out)
      (cases_lt (q / 2 ^ 32 - 1) n)

  -- the payloads of the chunks stay
  small_same : from_entries {R = nat_cmp} (payloads_of (part account new) vec.items (H ++ (Hole size ∷ []) ∷ [])) ≡ from_entries {R = nat_cmp} (payloads_of (part account old) heap.chunks.items H)
  small_same =
      ap (λ cs. from_entries {R = nat_cmp} (payloads_of (part account new) cs (H ++ (Hole size ∷ []) ∷ []))) items
      ∙ ap (from_entries {R = nat_cmp}) (payloads-hole (part account new) heap.chunks.items H (record { ds = record { 0 = ds }; start = start }) size (sym before.count))
      ∙ ap (from_entries {R = nat_cmp}) (payloads_alike (part account back) (part account new) heap.chunks.items H (λ k there. ap (λ (o : Option (List ℕ)). unwrap_or o []) (part_back _ (chunk_other k (let e = n_is in omega (arith, e, there))))))
      ∙ same _ _ (λ q.
      get-from_entries nat_cmp_total _ q
      ∙ payloads-same (part account old) (part account back) q heap.chunks.items H (λ k there. entries_same heap heap.fit old back regions sound back_kept H before.no_hole back_changes before.each before.total k there q)
      ∙ sym (get-from_entries nat_cmp_total _ q))

  shown_same : bytes_shown (part account new).spaces (large_regions larger) ≡ bytes_shown (part account old).spaces (large_regions S)
  shown_same = ap (bytes_shown (part account new).spaces) large_same ∙ picked_alike (λ (r : Region). get (part account new).spaces r.of) (λ (r : Region). get (part account old).spaces r.of) (large_regions S) large_space

  chunks_now : heap_of fit (words_in later (part account new)) ≡ H ++ (Hole size ∷ []) ∷ []
  chunks_now = ap (heap_of fit) words_now ∙ H_now

  payloads_now : joined (from_entries {R = nat_cmp} (payloads_of (part account new) vec.items (heap_of fit (words_in later (part account new))))) (bytes_shown (part account new).spaces (large_regions larger))
      ≡ joined (from_entries {R = nat_cmp} (payloads_of (part account old) heap.chunks.items (heap_of heap.fit (words_in heap (part account old))))) (bytes_shown (part account old).spaces (large_regions S))
  payloads_now = simp (chunks_now, small_same, shown_same, H_is)

  starts_now : starts_in later ≡ starts_in heap ++ start ∷ []
  starts_now = ap (map (λ (c : Chunk). c.start)) items ∙ map-append (λ (c : Chunk). c.start) heap.chunks.items _

  grown_value : heap_in later (share_at account new after) ≡ with_chunk (record { bytes = size; next = next }) start (heap_in heap S)
  unfolding heap_in share_in
  grown_value = search (rules, now, chunks_now, H_is, starts_now, large_same, payloads_now)

  pub grows : Grows heap later (record { bytes = size; next = next }) old new regions after
  grows = record {
    ds = ds;
    start = start;
    attaches = record {
      gap = gap;
      lowest = lowest;
      attached = refl;
      charge = now_account ∙ charge_then account ds asked n start old mid regions.pages regions.heap_most regions.heap regions.tags sound.opens sound.window fresh becomes free;
    };
    value = grown_value;
    keys = keys_are;
    spaces = record {
      fresh = fresh;
      others = λ k other none_among. part_back k other ∙ (keeps_spaces heap heap.fit old back regions sound back_kept).others k none_among;
      lengths = λ k other. now_lengths k ∙ ap (option_map length) (mid_others k other);
      count = len_alike (part account new).spaces (part account mid).spaces now_lengths ∙ count_then account ds asked n start old mid regions.pages regions.heap_most regions.heap regions.tags sound.opens sound.window fresh becomes free;
    };
  }
