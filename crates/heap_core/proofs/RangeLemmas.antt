-- A range of a payload: where it stands, what is read there, and what a poke there leaves.
use Rattle.std.proofs.Common.{◌≡◌, ◌≢◌, ℕ, ◌+◌, ◌-◌, ◌*◌, ◌<◌, ◌≤◌, true, List, length, get_or, refl, sym, ap, subst, ◌∙◌, ⊎_elim, ◌⊎◌, inl, inr, arith, rules, Some}
use Rattle.std.proofs.lemmas.Bool.{cases_eq, cases_lt}
use Rattle.std.proofs.lemmas.Bool.Decides.{nat_tests}
use Rattle.std.proofs.lemmas.Option.{none-some, same_Some}
use Rattle.std.specs.Prelude.{None, slice_range}
use Rattle.std.specs.Option.{option_map, option_or}
use Rattle.std.specs.Cmp.{nat_cmp_total}
use Rattle.std.specs.Ordering.{nat_cmp}
use Rattle.std.specs.FinMap.{get, insert, from_entries, get-from_entries}
use Rattle.trade_base.proofs.BytesLemmas.{length-slice_range}
use Rattle.own_model.specs.BestFit.{used_at, chunk_of}
use Rattle.own_model.specs.Entries.{value_of}
use Rattle.own_model.specs.Heap as model
use Rattle.own_model.specs.Heap.{Block, AreBlocks, bytes_in}
use Rattle.own_model.specs.HeapStep.{with_poked}
use Rattle.own_model.specs.OwnState.{with_part}
use Rattle.own_model.specs.Region.{Region}
use Rattle.own_model.proofs.HeapBlockLemmas.{used_within}
use Rattle.own_model.proofs.HeapStepLemmas.{not_both}
use Rattle.own_model.proofs.NatMapJoinedLemmas.{get-joined, joined-insert_second}
use Rattle.own_model.proofs.NatMapLemmas.{same, and_then_alike, and_then_from, get-picked, get-picked_at, get-insert_same, get-insert_other, value_at}
use Rattle.avl_alloc.specs.Layout as avl
use Rattle.avl_alloc.specs.Layout.{heap_of}
use Rattle.region_map.specs.Regions.{Regions}
use Rattle.dataspace_core.specs.Store.{Store, Space, Part, part, bytes_of, PartBecomes, part_with_bytes, with_bytes_at, LengthsStay}
use Rattle.dataspace_core.specs.Share.{Share, share_in, IsWindowOf}
use Rattle.dataspace_core.proofs.PartLaws.{becomes_paid, open_after, paid_in_part, part_open}
use Rattle.dataspace_core.proofs.PartLemmas.{becomes-with_bytes_at}
use Rattle.dataspace_core.proofs.PokedLaws.{poked_there, poked_other, poked_length}
use Rattle.dataspace_core.proofs.ShareLaws.{share_alike, some_alike, in_share}
use Rattle.dataspace_core.proofs.WindowLaws.{in_memory, window_after}
use Rattle.heap_core.specs.declared.heap.Heap.{Heap}
use Rattle.heap_core.specs.Calls.{HoldsRange}
use Rattle.heap_core.specs.Heap.{IsLaid, IsSound, chunk_at, heap_at, heap_in, keys_in, large_regions, large_tag, payer_of, payloads_of, share_at, words_in, bytes_shown}
use Rattle.heap_core.specs.Theorems.{Pokes, PayloadsArePoked, PayloadsAreRead, block_region}
use Rattle.heap_core.specs.Words.{are_bytes, words_of}
use Rattle.heap_core.proofs.FoundLemmas.{from_chunk}
use Rattle.heap_core.proofs.ChunkLemmas.{key_is, words_are}
use Rattle.heap_core.proofs.HeapLaws.{poke_sound, poke_value}
use Rattle.heap_core.proofs.PayloadLemmas.{told, value_of-payloads}
use Rattle.heap_core.proofs.PokedLemmas.{put_part}
use Rattle.sliced_heap.proofs.ShareLemmas.{large_there, told_region, large_region}
use Rattle.heap_core.proofs.StandLemmas.{chunk_blocks, chunk_bytes, chunk_total}
use Rattle.heap_core.proofs.StayLemmas.{laid_stays, small, value_then}
use Rattle.heap_core.proofs.WordsLemmas.{length_keys, range_in}

-- ---- reads

pub payload_read : PayloadsAreRead
payload_read heap store regions ds offset address count held = grind (arith, nat_tests, range_in)

-- ---- where a payload stands

-- and one that a chunk tells is that of a used block
told_block : (start : ℕ) (bytes : List ℕ) (blocks : List Block) (q : ℕ) (v : List ℕ) → told start 0 bytes blocks q ≡ Some v →
    (n : ℕ) × (start + 16 ≤ q) × (used_at (q - 16 - start) blocks ≡ Some n) × (v ≡ slice_range bytes (q - start) (q - start - 16 + n))
told_block start bytes blocks q v h = search (rules, none-some, same_Some, cases_lt)

module _ (heap : Heap) (share : Share) (laid : IsLaid heap share) (q : ℕ) (v : List ℕ) where
  abbrev H : model.Heap
  H = heap_of heap.fit (words_in heap share.part)

  -- a payload of a chunk is that of a used block
  record InChunk : Type 0 where
    k : ℕ
    y : ℕ
    n : ℕ
    there : k < length heap.chunks.items
    used : used_at y (chunk_of H k) ≡ Some n
    at : q ≡ (chunk_at heap k).start + y + 16
    least : 48 ≤ n
    inside : y + n ≤ avl.bytes_of heap.fit k
    is : v ≡ slice_range (laid.chunks k there).bytes (y + 16) (y + n)
    long : length v ≡ n - 16

  in_chunk : value_of q (payloads_of share.part heap.chunks.items H) ≡ Some v → InChunk
  in_chunk h =
      let one = from_chunk share.part heap.chunks.items H q v h in
      let k = one.0 in
      let there = one.1 in
      let start = (chunk_at heap k).start in
      let blocks = chunk_blocks heap share laid k there in
      let block = told_block start (bytes_of share.part (chunk_at heap k).ds.0) (chunk_of H k) q v (sym (value_of-payloads start 0 (bytes_of share.part (chunk_at heap k).ds.0) (chunk_of H k) q blocks) ∙ one.2) in
      let n = block.0 in
      let high = block.1 in
      let y = q - 16 - start in
      let used : used_at y (chunk_of H k) ≡ Some n = block.2 in
      let within = used_within y n (chunk_of H k) blocks used in
      let least = within.0.least in
      let to = within.1 in
      let total = chunk_total heap share laid k there in
      let inside : y + n ≤ avl.bytes_of heap.fit k = omega (arith, to, total) in
      let bytes_are = chunk_bytes heap share laid k there in
      let bounds : slice_range (bytes_of share.part (chunk_at heap k).ds.0) (q - start) (q - start - 16 + n) ≡ slice_range (laid.chunks k there).bytes (y + 16) (y + n) =
      let a : q - start ≡ y + 16 = omega (arith, high) in
      let b : q - start - 16 + n ≡ y + n = omega (arith, high) in
      λ i. slice_range (bytes_are i) (a i) (b i) in
      let long = (laid.chunks k there).long in
      record {
        k = k;
        y = y;
        n = n;
        there = there;
        used = used;
        at = omega (arith, high);
        least = omega (arith, least);
        inside = inside;
        is = block.3 ∙ bounds;
        long = ap length (block.3 ∙ bounds) ∙ ap (λ m. length (slice_range (laid.chunks k there).bytes (y + 16) m)) (let e : y + n ≡ y + 16 + (n - 16) = omega (arith, least) in e)
            ∙ length-slice_range (laid.chunks k there).bytes (y + 16) (n - 16) (omega (arith, inside, long, least));
      }

  -- one that no chunk has is a large block
  record InLarge : Type 0 where
    r : Region
    region : get (large_regions share) q ≡ Some r
    has : get share.part.spaces r.of ≡ Some v
    none : get (from_entries {R = nat_cmp} (payloads_of share.part heap.chunks.items H)) q ≡ None

  either : get (heap_in heap share).payloads q ≡ Some v → InChunk ⊎ InLarge
  unfolding heap_in
  either h =
      let small = from_entries {R = nat_cmp} (payloads_of share.part heap.chunks.items H) in
      let shown = bytes_shown share.part.spaces (large_regions share) in
      let told_is = get-from_entries nat_cmp_total (payloads_of share.part heap.chunks.items H) q in
      let both = sym (get-joined small shown q) ∙ h in
      elim (get small q) as (λ o. get small q ≡ o → option_or o (get shown q) ≡ Some v → InChunk ⊎ InLarge) [
        | Some w ↦ λ e f. inl (in_chunk (sym told_is ∙ e ∙ f))
        | None ↦ λ e f.
            let from = and_then_from (λ (r : Region). get share.part.spaces r.of) (get (large_regions share) q) v (sym (get-picked (λ (r : Region). get share.part.spaces r.of) (large_regions share) q) ∙ f) in
            inr (record { r = from.0; region = from.1; has = from.2; none = e })
      ] refl both

-- ---- a range that is held

module _ (heap : Heap) (store : Store) (regions : Regions) (sound : IsSound heap store regions) (ds offset address count : ℕ) (held : HoldsRange heap store regions ds offset address count) where
  abbrev R : Share
  R = share_at (payer_of heap) store regions

  -- a region of the share is one of the map
  mapped : (s : ℕ) (r : Region) → get R.heap s ≡ Some r → get regions.heap s ≡ Some r
  mapped s r h = (in_share (part (payer_of heap) store) regions.heap regions.tags s r h).0

  -- the dataspace's region shows all of it
  held_whole : length held.bytes ≡ held.pages * 4096
  held_whole =
      let shown = sound.window.shown_whole held.start (record { of = ds; pages = held.pages }) (mapped held.start _ held.region) in
      let mine = in_memory (payer_of heap) ds held.bytes store held.there in
      ap length (sym mine.3 ∙ ap (λ (s : Space). s.bytes) (same_Some mine.0 shown.space (sym mine.1 ∙ shown.there))) ∙ shown.whole

  -- and is the only one that has the start of the payload
  one_region : (s : ℕ) (r : Region) → get R.heap s ≡ Some r → s ≤ held.at → held.at < s + r.pages * 4096 → 0 < length held.payload → (held.start ≡ s) × (r ≡ record { of = ds; pages = held.pages })
  one_region s r h low high some =
      let whole = held_whole in
      let within = held.within in
      let stands = held.stands in
      ⊎_elim
      (λ (e : held.start ≡ s). (e, same_Some r _ (sym h ∙ ap (get R.heap) (sym e) ∙ held.region)))
      (λ (other : held.start ≢ s).
      absurd (not_both held.start held.pages s r.pages held.at (sound.window.lie.apart held.start s _ r (mapped held.start _ held.region) (mapped s r h) other)
      (omega (arith, stands)) (omega (arith, stands, within, whole, some)) low high))
      (cases_eq held.start s)

-- ---- pokes

module _ (heap : Heap) (ds offset address : ℕ) (bytes : List ℕ) (old new : Store) (regions : Regions) (sound : IsSound heap old regions) (are : are_bytes bytes ≡ true)
    (held : HoldsRange heap old regions ds offset address (length bytes)) (becomes : PartBecomes (payer_of heap) (part_with_bytes (part (payer_of heap) old) ds offset bytes) old new) where
  abbrev account : ℕ
  account = payer_of heap

  abbrev S : Share
  S = share_at account old regions

  abbrev T : Share
  T = share_at account new regions

  fits : offset + length bytes ≤ length held.bytes
  fits = let into = held.into in let low = held.low in let high = held.high in let within = held.within in omega (arith, into, low, high, within)

  lengths : (k : ℕ) → option_map length (get (part_with_bytes (part account old) ds offset bytes).spaces k) ≡ option_map length (get (part account old).spaces k)
  lengths = poked_length (part account old) ds offset bytes held.bytes held.there fits

  lengths_now : LengthsStay account old new
  lengths_now k = ap (λ (p : Part). option_map length (get p.spaces k)) becomes.own ∙ lengths k

  stand : (s : ℕ) → block_region T s ≡ block_region S s
  stand s = ap (λ (x : Share). block_region x s) (share_alike (part account old) (part account new) regions.heap regions.tags (λ s r h. some_alike _ _ (lengths_now r.of)))

  window : IsWindowOf new regions.pages regions.heap_most regions.heap
  window = window_after account (part_with_bytes (part account old) ds offset bytes) old new becomes regions.pages regions.heap_most regions.heap refl sound.opens lengths sound.window

  -- what is poked is sound where it is laid, and has the value
  pokes_by : IsLaid heap T → heap_at heap new regions ≡ with_poked held.at held.payload (address - held.at) bytes (heap_at heap old regions) → Pokes heap held.at held.payload (address - held.at) bytes old new regions
  pokes_by laid value = search (rules, open_after, part_open, window, stand)

  -- in a chunk
  module _ (c : InChunk heap S sound.laid held.at held.payload) where
    region : (held.start ≡ (chunk_at heap c.k).start) × ((chunk_at heap c.k).ds.0 ≡ ds)
    region =
        let stands = sound.laid.chunks c.k c.there in
        let at = c.at in
        let least = c.least in
        let inside = c.inside in
        let whole = stands.whole in
        let long = c.long in
        let one = one_region heap old regions sound ds offset address (length bytes) held (chunk_at heap c.k).start _ stands.region (omega (arith, at)) (omega (arith, at, least, inside, whole)) (omega (arith, long, least)) in
        (one.0, ap (λ (r : Region). r.of) one.1)

    before_is : held.before ≡ c.y + 16
    before_is = let same = region.0 in let at = c.at in let stands = held.stands in omega (arith, same, at, stands)

    behind : c.y + 16 ≤ offset
    behind = let b = before_is in let into = held.into in omega (arith, b, into)

    within : offset + length bytes ≤ c.y + c.n
    within = let b = before_is in let into = held.into in let low = held.low in let high = held.high in let long = c.long in let least = c.least in omega (arith, b, into, low, high, long, least)

    used : used_at c.y (chunk_of (heap_of heap.fit (words_of (keys_in heap) old)) c.k) ≡ Some c.n
    unfolding share_in
    used = subst (λ w. used_at c.y (chunk_of (heap_of heap.fit w) c.k) ≡ Some c.n) (words_are heap old regions sound) c.used

    key : get_or (keys_in heap) c.k 0 ≡ ds
    key = key_is heap old regions sound c.k (subst (λ m. c.k < m) (sym (length_keys heap.chunks.items)) c.there) ∙ region.1

    abbrev later : Store
    later = with_bytes_at old (get_or (keys_in heap) c.k 0) offset bytes

    same_part : part account later ≡ part account new
    same_part = grind (arith, nat_tests, paid_in_part, value_at, key, becomes_paid, becomes-with_bytes_at)

    same_share : T ≡ share_at account later regions
    same_share = ap (λ p. share_in p regions.heap regions.tags) (sym same_part)

    payload_is : slice_range (bytes_of (part account old) (chunk_at heap c.k).ds.0) (c.y + 16) (c.y + c.n) ≡ held.payload
    unfolding share_in
    payload_is = ap (λ b. slice_range b (c.y + 16) (c.y + c.n)) (chunk_bytes heap S sound.laid c.k c.there) ∙ sym c.is

    pokes_chunk : Pokes heap held.at held.payload (address - held.at) bytes old new regions
    pokes_chunk =
        let into : offset - (c.y + 16) ≡ address - held.at = let b = before_is in let i = held.into in omega (arith, b, i) in
        let at = sym c.at in
        pokes_by
        (subst (IsLaid heap) (sym same_share) (poke_sound heap old regions sound c.k c.y c.n offset bytes c.there used behind within are).laid)
        (ap (heap_in heap) same_share ∙ poke_value heap old regions sound c.k c.y c.n offset bytes c.there used behind within are
        ∙ (λ i. with_poked (at i) (payload_is i) (into i) bytes (heap_in heap S)))

  -- in a large block
  module _ (l : InLarge heap S sound.laid held.at held.payload) where
    at_region : (held.start ≡ held.at) × (l.r.of ≡ ds)
    at_region =
        let stands = sound.laid.large_stands held.at l.r l.region in
        let long = ap length (same_Some held.payload stands.bytes (sym l.has ∙ stands.there)) ∙ stands.whole in
        let least = stands.least in
        let one = one_region heap old regions sound ds offset address (length bytes) held held.at l.r (large_there S held.at l.r l.region) (omega arith) (omega (arith, least)) (omega (arith, long, least)) in
        (one.0, ap (λ (r : Region). r.of) one.1)

    same_payload : held.bytes ≡ held.payload
    unfolding share_in
    same_payload = same_Some held.bytes held.payload (sym held.there ∙ ap (get (part account old).spaces) (sym at_region.1) ∙ l.has)

    offset_is : offset ≡ address - held.at
    offset_is = let same = at_region.0 in let stands = held.stands in let into = held.into in omega (arith, same, stands, into)

    abbrev written : List ℕ
    written = with_part held.payload (address - held.at) bytes

    -- its dataspace has the bytes, and no other has changed
    own : (k : ℕ) → k ≡ ds → get T.part.spaces k ≡ Some written
    unfolding share_in
    own k same = grind (arith, nat_tests, same, poked_there, fits, same_payload, offset_is, put_part)

    others : (k : ℕ) → k ≢ ds → get T.part.spaces k ≡ get S.part.spaces k
    unfolding share_in
    others k apart = ap (λ (p : Part). get p.spaces k) becomes.own ∙ poked_other (part account old) ds offset bytes held.bytes held.there fits k apart

    -- no other region shows it
    once : (s : ℕ) (r : Region) → get S.heap s ≡ Some r → r.of ≡ ds → s ≡ held.at
    once s r h e = sound.window.once s held.at r l.r (mapped heap old regions sound ds offset address (length bytes) held s r h) (mapped heap old regions sound ds offset address (length bytes) held held.at l.r (large_there S held.at l.r l.region)) (e ∙ sym at_region.1)

    chunks : (s k : ℕ) (r : Region) → block_region S s ≡ Some (r, k) → k < large_tag → get T.part.spaces r.of ≡ get S.part.spaces r.of
    chunks s k r h low = grind (arith, nat_tests, told_region, others, same_Some, once, large_region, region)

    large_lengths : (s : ℕ) (r : Region) → get (large_regions S) s ≡ Some r → option_map length (get T.part.spaces r.of) ≡ option_map length (get S.part.spaces r.of)
    unfolding share_in
    large_lengths s r h = lengths_now r.of

    shown : bytes_shown T.part.spaces (large_regions S) ≡ insert (bytes_shown S.part.spaces (large_regions S)) held.at written
    shown = same _ _ (λ q. ⊎_elim
        (λ (here : q ≡ held.at).
        ap (get (bytes_shown T.part.spaces (large_regions S))) here
        ∙ get-picked_at (λ (r : Region). get T.part.spaces r.of) (large_regions S) held.at l.r l.region
        ∙ own l.r.of at_region.1
        ∙ sym (get-insert_same (bytes_shown S.part.spaces (large_regions S)) held.at written q here))
        (λ (other : q ≢ held.at).
        get-picked (λ (r : Region). get T.part.spaces r.of) (large_regions S) q
        ∙ and_then_alike (λ (r : Region). get T.part.spaces r.of) (λ (r : Region). get S.part.spaces r.of) (get (large_regions S) q)
        (λ r h. others r.of (λ e. other (once q r (large_there S q r h) e)))
        ∙ sym (get-picked (λ (r : Region). get S.part.spaces r.of) (large_regions S) q)
        ∙ sym (get-insert_other (bytes_shown S.part.spaces (large_regions S)) held.at written q other))
        (cases_eq q held.at))

    pokes_large : Pokes heap held.at held.payload (address - held.at) bytes old new regions
    unfolding heap_in
    pokes_large = pokes_by
        (laid_stays heap S T sound.laid stand chunks large_lengths)
        (value_then heap S T sound.laid stand chunks large_lengths _ shown
        ∙ ap (λ m. record (heap_in heap S) { payloads = m }) (joined-insert_second (small heap S T sound.laid stand chunks large_lengths) (bytes_shown S.part.spaces (large_regions S)) held.at written l.none))

pub payload_poked : PayloadsArePoked
payload_poked heap ds offset address bytes old new regions sound are held becomes = ⊎_elim
    (pokes_chunk heap ds offset address bytes old new regions sound are held becomes)
    (pokes_large heap ds offset address bytes old new regions sound are held becomes)
    (either heap (share_at (payer_of heap) old regions) sound.laid held.at held.payload held.starts)
