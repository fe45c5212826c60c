-- Laws for callers: what other calls leave of a heap, what a range of a payload is, and where blocks stand.
use Rattle.std.proofs.Common.{◌≡◌, ◌≢◌, ◌+◌, ◌-◌, ◌≤◌, ℕ, List, [], ◌++◌, take, drop, length, inl, Some, IsSome, is_some, refl, sym, ap, ◌∙◌, ⊎_elim, true≢false, unwrap_or, arith, rules}
use Rattle.std.proofs.lemmas.Bool.{cases_eq}
use Rattle.std.proofs.lemmas.List.{length-drop, length-take-le, take-append-drop, drop-drop}
use Rattle.std.proofs.Math.Seq.{drop-append_seam}
use Rattle.std.proofs.lemmas.Option.{none-some, same_Some}
use Rattle.std.specs.Prelude.{Option, None, slice_range}
use Rattle.std.specs.Option.{option_map, option_and_then}
use Rattle.std.specs.FinMap.{get}
use Rattle.trade_base.specs.Bytes.{with_bytes}
use Rattle.trade_base.proofs.BytesLemmas.{with_bytes-right}
use Rattle.own_model.specs.NatMap.{NatMap}
use Rattle.own_model.specs.OwnState.{with_part}
use Rattle.own_model.specs.Sliced.{sliced_header as header}
use Rattle.own_model.specs.Sliced.{ranges_of_blocks}
use Rattle.own_model.specs.HeapWindow.{heap_low, heap_high}
use Rattle.own_model.proofs.HeapRangeLemmas.{range_of, get-ranges}
use Rattle.own_model.proofs.RegionLemmas.{AreAlike, first_gap_alike}
use Rattle.sliced_heap.proofs.BlockLemmas.{is_whole, payload_at, payload_there, whole_pages}
use Rattle.own_model.proofs.ByteLemmas.{with_part-within}
use Rattle.own_model.specs.Region.{Region}
use Rattle.own_model.proofs.NatMapLemmas.{same, none_in_empty, value_at, IsSome-insert}
use Rattle.region_map.specs.Regions.{Regions}
use Rattle.dataspace_core.specs.Store.{Store, Space, Part, part, account_in, PartBecomes, part_with_bytes, ram_limits_in}
use Rattle.dataspace_core.specs.Share.{Share, IsShown, share_in}
use Rattle.dataspace_core.proofs.PartLaws.{paid_in_part, open_after, part_open, open_in_part}
use Rattle.dataspace_core.proofs.PartLemmas.{space_at-some}
use Rattle.sliced_heap.specs.declared.heap.SlicedHeap.{SlicedHeap}
use Rattle.sliced_heap.specs.Sliced.{word_at, block_regions, payload_of}
use Rattle.sliced_heap.specs.Heap.{payer_of, share_at, blocks_at, MapsMemory, IsSound, HoldsRange}
use Rattle.sliced_heap.specs.Theorems.{KeepsHeapWindow, Pokes, PayloadsArePoked, PayloadsAreRead, EmptyMapsHaveNoBlocks, MapsStay, MapsStayForPayers, HeapsStay, HeapsStayAmong, HeapsStayElsewhere, HeapsStayBeside, HeapStays, BlocksAreRegions, GapsAreBetweenBlocks}
use Rattle.sliced_heap.proofs.LinkedLemmas.{still_linked, alike_linked, alike_payloads, payload_put}
use Rattle.dataspace_core.proofs.PokedLaws.{poked_there, poked_other, poked_length}
use Rattle.sliced_heap.proofs.HeaderLemmas.{poked_word}
use Rattle.sliced_heap.proofs.ShareLemmas.{is_block, shown_block}
use Rattle.dataspace_core.proofs.WindowLaws.{in_part, in_no_other, shown_of_part, shown_after, account_after, own_account}

-- ---- the map

-- a map in which each region still shows its dataspace is still one of the memory
module _ (old new : Store) (regions after : Regions) (maps : MapsMemory old regions) (kept : KeepsHeapWindow regions after) where
  was : (s : ℕ) (r : Region) → get after.heap s ≡ Some r → get regions.heap s ≡ Some r
  was s r h = ap (λ (m : NatMap Region). get m s) (sym kept.heap) ∙ h

  still_maps : ram_limits_in new ≡ ram_limits_in old → ((s : ℕ) (r : Region) → get regions.heap s ≡ Some r → IsShown old.spaces r → IsShown new.spaces r) → MapsMemory new after
  still_maps limits shown = search (rules, was)

-- a dataspace that is as long as another that was there
as_long : (o : Option Space) (x : Space) → option_map (λ (s : Space). length s.bytes) o ≡ Some (length x.bytes) → (y : Space) × (o ≡ Some y) × (length y.bytes ≡ length x.bytes)
as_long None x h = absurd (none-some _ h)
as_long (Some y) x h = (y, refl, same_Some _ _ h)

pub map_stays : MapsStay
map_stays old new regions after maps kept limits lengths = still_maps old new regions after maps kept limits (λ s r h shown.
    let now = as_long (get new.spaces r.of) shown.space (lengths s r h ∙ ap (option_map (λ (x : Space). length x.bytes)) shown.there) in
    record { space = now.0; there = now.1; some = shown.some; whole = now.2 ∙ shown.whole })

pub map_stays_for_payer : MapsStayForPayers
map_stays_for_payer account p a old new regions after maps kept becomes opens is limit lengths =
    still_maps old new regions after maps kept (account_after account p old new becomes a is limit opens).1
    (λ s r h. shown_after account p old new becomes r (λ bytes has. lengths s r h ∙ ap (option_map length) has))

pub empty_map : EmptyMapsHaveNoBlocks
empty_map store regions none pages most = (
  record {
    pages = pages;
    most = most;
    shown = λ s r h. absurd (none_in_empty regions.heap none s r h);
    once = λ s t r q h g e. absurd (none_in_empty regions.heap none s r h);
  },
  λ account s. elim (get (block_regions (share_at account store regions)) s) as (λ o. get (block_regions (share_at account store regions)) s ≡ o → o ≡ None) [
    | None ↦ λ e. refl
    | Some r ↦ λ e. absurd (none_in_empty regions.heap none s r (shown_block account store regions s r e).there)
  ] refl,
)

-- ---- other calls

module _ (heap : SlicedHeap) (p : Part) (old new : Store) (regions after : Regions) (sound : IsSound heap old regions) (kept : KeepsHeapWindow regions after) (maps : MapsMemory new after)
    (becomes : PartBecomes (payer_of heap) p old new)
    (there : (s : ℕ) (r : Region) → get (block_regions (share_at (payer_of heap) old regions)) s ≡ Some r → IsSome (get p.spaces r.of)) where
  -- the shares
  abbrev S : Share
  S = share_at (payer_of heap) old regions

  abbrev T : Share
  T = share_at (payer_of heap) new after

  -- a block is one still
  still_block : (s : ℕ) (r : Region) → get (block_regions S) s ≡ Some r → get (block_regions T) s ≡ Some r
  still_block s r h =
      let block = shown_block (payer_of heap) old regions s r h in
      let has = value_at p.spaces r.of (there s r h) in
      is_block (payer_of heap) new after s r has.0 (ap (λ (m : NatMap Region). get m s) kept.heap ∙ block.there) (ap (λ (m : NatMap ℕ). get m s) kept.tags ∙ block.tag) (ap (λ (q : Part). get q.spaces r.of) becomes.own ∙ has.1)

  -- and was one before, since nobody else's dataspace has become the account's
  was_block : (s : ℕ) (r : Region) → get (block_regions T) s ≡ Some r → get (block_regions S) s ≡ Some r
  was_block s r h =
      let block = shown_block (payer_of heap) new after s r h in
      let there = ap (λ (m : NatMap Region). get m s) (sym kept.heap) ∙ block.there in
      let shown = sound.maps.shown s r there in
      let its = in_part old r.of shown.space shown.there in
      ⊎_elim
      (λ (own : shown.space.payer ≡ payer_of heap).
      is_block (payer_of heap) old regions s r shown.space.bytes there (ap (λ (m : NatMap ℕ). get m s) (sym kept.tags) ∙ block.tag) (ap (λ a. get (part a old).spaces r.of) (sym own) ∙ its))
      (λ (other : shown.space.payer ≢ payer_of heap).
      let now = ap (λ (q : Part). get q.spaces r.of) (becomes.others shown.space.payer other) ∙ its in
      absurd (true≢false (sym block.paid ∙ ap is_some (in_no_other shown.space.payer (payer_of heap) r.of shown.space.bytes new now (λ e. other (sym e))))))
      (cases_eq shown.space.payer (payer_of heap))

  -- there are as many
  same_blocks : block_regions T ≡ block_regions S
  same_blocks = same _ _ (λ s. elim (get (block_regions S) s) as (λ o. get (block_regions S) s ≡ o → get (block_regions T) s ≡ o) [
    | Some r ↦ λ e. still_block s r e
    | None ↦ λ e. elim (get (block_regions T) s) as (λ o. get (block_regions T) s ≡ o → o ≡ None) [
      | None ↦ λ w. refl
      | Some r ↦ λ w. absurd (none-some r (sym e ∙ was_block s r w))
    ] refl
  ] refl)

pub heap_stays_among : HeapsStayAmong
unfolding share_in
heap_stays_among heap old new regions after sound maps opens same_one bytes = search (rules, alike_linked, alike_payloads)

pub heap_stays : HeapsStay
heap_stays heap p old new regions after sound kept maps becomes there bytes =
    heap_stays_among heap old new regions after sound maps (open_after becomes there)
    (same_blocks heap p old new regions after sound kept maps becomes (λ s r h. ap is_some (bytes s r h) ∙ (shown_block (payer_of heap) old regions s r h).paid))
    (λ s r h. ap (λ (q : Part). get q.spaces r.of) becomes.own ∙ bytes s r h)

-- a heap whose share is the same is as it was
same_share : (heap : SlicedHeap) (old new : Store) (regions after : Regions) → IsSound heap old regions → MapsMemory new after → share_at (payer_of heap) new after ≡ share_at (payer_of heap) old regions → HeapStays heap old new regions after
unfolding share_in
same_share heap old new regions after sound maps same_one = search (rules, heap_stays_among, open_in_part, part_open)

pub heap_stays_elsewhere : HeapsStayElsewhere
heap_stays_elsewhere heap old new regions sound same_part limits paid =
    same_share heap old new regions regions sound
    (still_maps old new regions regions sound.maps (record { heap = refl; tags = refl; most = refl; pages = refl }) limits (λ s r h shown.
    let has = value_at (part (payer_of heap) old).spaces r.of (paid s r h) in
    let its = paid_in_part (payer_of heap) r.of has.0 old has.1 in
    let length_is = ap length (sym its.bytes_are ∙ ap (λ (x : Space). x.bytes) (space_at-some old r.of shown.space shown.there)) in
    shown_of_part (payer_of heap) new r has.0 (ap (λ (q : Part). get q.spaces r.of) same_part ∙ has.1) shown.some (length_is ∙ shown.whole)))
    (ap (λ q. share_in q regions.heap regions.tags) same_part)

pub heap_stays_beside : HeapsStayBeside
heap_stays_beside heap other old new regions after sound apart keeps maps = same_share heap old new regions after sound maps (keeps.shares (payer_of heap) (λ e. apart (sym e)))

-- ---- payloads

-- a range of bytes behind others
range_behind : (bytes : List ℕ) (before from count : ℕ) → slice_range bytes (before + from) (before + from + count) ≡ slice_range (drop before bytes) from (from + count)
range_behind bytes before from count =
    let n : before + from + count - (before + from) ≡ from + count - from = omega arith in
    ap (λ k. take k (drop (before + from) bytes)) n ∙ ap (take (from + count - from)) (sym (drop-drop from before bytes))

-- bytes that are put over others behind some
put_behind : (bytes part : List ℕ) (before offset : ℕ) → before ≤ length bytes → drop before (with_bytes bytes (before + offset) part) ≡ with_bytes (drop before bytes) offset part
put_behind bytes part before offset low =
    let long : length (take before bytes) ≡ before = length-take-le before bytes low in
    ap (λ b. drop before (with_bytes b (before + offset) part)) (sym (take-append-drop before bytes))
    ∙ ap (drop before) (with_bytes-right (take before bytes) (drop before bytes) before offset part long)
    ∙ ap (λ n. drop n (take before bytes ++ with_bytes (drop before bytes) offset part)) (sym long)
    ∙ drop-append_seam (take before bytes) (with_bytes (drop before bytes) offset part)

pub payload_read : PayloadsAreRead
payload_read S ds offset address count held =
    let behind = held.behind in
    let at : offset ≡ header + (offset - header) = omega (arith, behind) in
    ap (λ n. slice_range held.bytes n (n + count)) at
    ∙ range_behind held.bytes header (offset - header) count
    ∙ ap (λ (o : Option (List ℕ)). slice_range (unwrap_or o []) (offset - header) (offset - header + count)) (sym held.payload)

module _ (heap : SlicedHeap) (ds offset address : ℕ) (bytes : List ℕ) (old new : Store) (regions : Regions) (sound : IsSound heap old regions)
    (held : HoldsRange (share_at (payer_of heap) old regions) ds offset address (length bytes)) (becomes : PartBecomes (payer_of heap) (part_with_bytes (part (payer_of heap) old) ds offset bytes) old new) where
  -- the account, its part, and what the part becomes
  abbrev account : ℕ
  account = payer_of heap

  abbrev before : Part
  before = part account old

  abbrev poked : Part
  poked = part_with_bytes before ds offset bytes

  there : get before.spaces ds ≡ Some held.bytes
  unfolding share_in
  there = held.there

  -- behind its header it has the bytes put over the payload
  payload_is : drop header (with_bytes held.bytes offset bytes) ≡ with_part (drop header held.bytes) (offset - header) bytes
  payload_is =
      let behind = held.behind in
      let within = held.within in
      let long = length-drop header held.bytes in
      let at : offset ≡ header + (offset - header) = omega (arith, behind) in
      ap (λ n. drop header (with_bytes held.bytes n bytes)) at
      ∙ put_behind held.bytes bytes header (offset - header) (omega (arith, behind, within))
      ∙ sym (with_part-within (drop header held.bytes) (offset - header) bytes (omega (arith, long, behind, within)))

  -- the map shows as much
  poked_maps : MapsMemory new regions
  poked_maps = map_stays_for_payer account poked (account_in old account) old new regions regions sound.maps (record { heap = refl; tags = refl; most = refl; pages = refl })
      becomes sound.opens (own_account account old sound.opens) refl (λ s r h. poked_length before ds offset bytes held.bytes there held.within r.of)

  -- the regions of blocks are the same
  poked_regions : block_regions (share_at account new regions) ≡ block_regions (share_at account old regions)
  poked_regions = same_blocks heap poked old new regions regions sound (record { heap = refl; tags = refl; most = refl; pages = refl }) poked_maps becomes
      (λ s r h. IsSome-insert before.spaces ds _ r.of (shown_block account old regions s r h).paid)

  pokes : Pokes heap (held.start + header) (with_part (drop header held.bytes) (offset - header) bytes) old new regions
  unfolding share_in
  pokes = record {
    sound = record {
      opens = open_after becomes (part_open account old sound.opens);
      maps = poked_maps;
      linked = still_linked (share_at account old regions) (share_at account new regions) heap.first sound.linked poked_regions
          (λ other b low t. ap (λ (q : Part). word_at q other b) becomes.own ∙ poked_word before ds offset bytes held.bytes there held.within other b (inl (let behind = held.behind in omega (arith, behind, low))))
          (λ b t. ap (λ (q : Part). option_map length (get q.spaces b)) becomes.own ∙ poked_length before ds offset bytes held.bytes there held.within b);
    };
    blocks = payload_put (share_at account old regions) (share_at account new regions) heap.first ds held.start held.pages (with_part (drop header held.bytes) (offset - header) bytes) sound.linked poked_regions held.region
        (ap (λ (q : Part). option_map (drop header) (get q.spaces ds)) becomes.own ∙ ap (option_map (drop header)) (poked_there before ds offset bytes held.bytes there held.within) ∙ ap Some payload_is)
        (λ k apart. ap (λ (q : Part). get q.spaces k) becomes.own ∙ poked_other before ds offset bytes held.bytes there held.within k apart);
    stands = poked_regions;
  }

pub payload_poked : PayloadsArePoked
payload_poked heap ds offset address bytes old new regions sound held becomes = pokes heap ds offset address bytes old new regions sound held becomes

-- ---- where blocks stand

-- the range of a block
range_of_block : (heap : SlicedHeap) (store : Store) (regions : Regions) (sound : IsSound heap store regions) (s : ℕ) (o : Option Region) → get (block_regions (share_at (payer_of heap) store regions)) s ≡ o →
    option_and_then (λ payload. Some (range_of payload)) (get (blocks_at (payer_of heap) store regions) (s + header)) ≡ option_map (λ (r : Region). record { of = 0; pages = r.pages }) o
range_of_block heap store regions sound s None e =
    ap (option_and_then (λ payload. Some (range_of payload)))
    (payload_at (share_at (payer_of heap) store regions) heap.first sound.linked s ∙ ap (option_and_then (payload_of (share_at (payer_of heap) store regions).part.spaces)) e)
range_of_block heap store regions sound s (Some r) e =
    let w = is_whole (share_at (payer_of heap) store regions) heap.first sound.linked s r e in
    let long = length-drop header w.bytes in
    let some = w.some in
    let whole = w.whole in
    ap (option_and_then (λ payload. Some (range_of payload))) (payload_there (share_at (payer_of heap) store regions) heap.first sound.linked s r w.bytes e w.there)
    ∙ ap (λ n. let q : Region = record { of = 0; pages = n } in Some q) (whole_pages (drop header w.bytes) r.pages (omega (arith, long, some, whole)))

pub blocks_are_regions : BlocksAreRegions
blocks_are_regions heap store regions sound s =
    get-ranges (blocks_at (payer_of heap) store regions) s ∙ range_of_block heap store regions sound s (get (block_regions (share_at (payer_of heap) store regions)) s) refl

-- where all heap regions are blocks they have the blocks' pages
same_pages : (heap : SlicedHeap) (store : Store) (regions : Regions) → ((s : ℕ) (r : Region) → get regions.heap s ≡ Some r → get (block_regions (share_at (payer_of heap) store regions)) s ≡ Some r) →
    (s : ℕ) (o : Option Region) → get regions.heap s ≡ o → option_map (λ (r : Region). r.pages) (option_map (λ (r : Region). record { of = 0; pages = r.pages }) (get (block_regions (share_at (payer_of heap) store regions)) s)) ≡ option_map (λ (r : Region). r.pages) (get regions.heap s)
same_pages heap store regions all s (Some r) e = ap (λ (p : Option Region). option_map (λ (r : Region). r.pages) (option_map (λ (r : Region). record { of = 0; pages = r.pages }) p)) (all s r e) ∙ ap (option_map (λ (r : Region). r.pages)) (sym e)
same_pages heap store regions all s None e = elim (get (block_regions (share_at (payer_of heap) store regions)) s) as (λ p. get (block_regions (share_at (payer_of heap) store regions)) s ≡ p → option_map (λ (r : Region). r.pages) (option_map (λ (r : Region). record { of = 0; pages = r.pages }) p) ≡ option_map (λ (r : Region). r.pages) (get regions.heap s)) [
  | None ↦ λ w. ap (option_map (λ (r : Region). r.pages)) (sym e)
  | Some r ↦ λ w. absurd (none-some r (sym e ∙ (shown_block (payer_of heap) store regions s r w).there))
] refl

pub gaps_between_blocks : GapsAreBetweenBlocks
gaps_between_blocks heap store regions sound all machine pages =
    let ranges = ranges_of_blocks (blocks_at (payer_of heap) store regions) in
    let alike : AreAlike ranges regions.heap = record { pages = λ s. ap (option_map (λ (r : Region). r.pages)) (blocks_are_regions heap store regions sound s) ∙ same_pages heap store regions all s (get regions.heap s) refl } in
    first_gap_alike ranges regions.heap alike heap_low (heap_high machine) pages
