-- A script's peeks and pokes where a range lies in a payload of its heap.
use Rattle.std.proofs.Common.{◌≡◌, ℕ, ◌+◌, ◌-◌, ◌*◌, ◌≤◌, ◌<◌, true, List, [], length, Some, is_some, refl, sym, ap, ◌∙◌, arith, slice_range, inl, inr}
use Rattle.std.proofs.lemmas.Bool.{cases_eq}
use Rattle.std.proofs.lemmas.Option.{same_Some}
use Rattle.std.specs.Prelude.{None}
use Rattle.std.specs.Option.{option_map, option_and_then}
use Rattle.std.specs.FinMap.{get}
use Rattle.own_model.proofs.NatMapLemmas.{mapped_from}
use Rattle.own_model.specs.Call.Call.{Peek, Poke}
use Rattle.own_model.specs.HeapWindow.{heap_high, largest_machine}
use Rattle.own_model.specs.OwnStep.{count_refusal, script_step}
use Rattle.own_model.specs.Place.{found}
use Rattle.own_model.specs.Place.Place.{InBlock}
use Rattle.own_model.specs.Region.{Region, resolved}
use Rattle.own_model.specs.Reply.Reply.{Bytes, Done}
use Rattle.own_model.specs.Sliced.{block_found}
use Rattle.own_model.proofs.StepBytesLemmas.{found_block, peeks_block, pokes_block}
use Rattle.own_model.proofs.HeapStepLemmas.{not_both, payload_some, payload_within_range, heap_lies}
use Rattle.cap_space.specs.Space.{Space}
use Rattle.region_map.specs.Regions.{Regions}
use Rattle.dataspace_core.specs.Store.{Store, Part, part, account_of, part_with_bytes, PartBecomes}
use Rattle.dataspace_core.proofs.WindowLaws.{in_memory}
use Rattle.sliced_heap.specs.Heap.{share_at, blocks_at}
use Rattle.heap_core.specs.declared.heap.Heap.{Heap}
use Rattle.heap_core.specs.Calls.{HoldsRange}
use Rattle.heap_core.specs.Heap.{payer_of as heap_payer, heap_at, large_tag}
use Rattle.heap_core.specs.Theorems.{Pokes, block_region}
use Rattle.heap_core.specs.Words.{are_bytes}
use Rattle.dataspace_core.proofs.ShareLaws.{in_share}
use Rattle.pd_core.specs.Own.{Sessions, selector_of, own_of}
use Rattle.sliced_heap.proofs.ShareLemmas.{region_of_block}
use Rattle.pd_core.proofs.BytesLemmas.{renamed_is}
use Rattle.pd_core.proofs.HeapCallLemmas.{Owns, Ends, Alone, own_in, shares_with_parts, put_spare}
use Rattle.pd_core.proofs.ScriptOwnLemmas.{all_sessions}
use Rattle.heap_core.proofs.RangeLemmas.{payload_poked, payload_read}
use Rattle.heap_core.proofs.BlockRangeLemmas.{blocks_are_regions as heap_blocks_are_regions}
use Rattle.sliced_heap.proofs.WindowLemmas.{IsPut, is_put, blocks_in_place, tagged}
use Rattle.sliced_heap.proofs.ShareLemmas.{kept_tag, low_tag}

module _ {store : Store} {space : Space} {regions : Regions} {heap : Heap} (o : Owns (heap_payer heap) store space regions heap) (ds offset address count : ℕ)
    (held : HoldsRange heap store regions ds offset address count) where
  -- the account, its part, and its own heap
  abbrev a : ℕ
  a = heap_payer heap

  abbrev p : Part
  p = part a store

  -- the region of the payload's dataspace
  abbrev region : Region
  region = record { of = ds; pages = held.pages }

  there : get regions.heap held.start ≡ Some region
  there = (in_share p regions.heap regions.tags held.start region held.region).0

  -- the bytes are all that it shows
  whole : length held.bytes ≡ held.pages * 4096
  whole =
      let shown = o.sound.window.shown_whole held.start region there in
      let mine = in_memory a ds held.bytes store held.there in
      let same = same_Some mine.0 shown.space (sym mine.1 ∙ shown.there) in
      ap length (sym mine.3) ∙ ap (λ s. length s.bytes) same ∙ shown.whole

  -- the payload has a byte, and lies in a range of the own heap, which is a region of the heap
  record HasRange : Type 0 where
    start : ℕ
    k : ℕ
    r : Region
    standing : get regions.heap start ≡ Some r
    tag : get regions.tags start ≡ Some k
    low : k ≤ large_tag
    from : start ≤ held.at
    to : held.at < start + r.pages * 4096
    some : 0 < length held.payload

  has_range : HasRange
  unfolding own_of
  has_range =
      let s = own_in all_sessions a store space regions heap in
      let h = (o.own.lawful all_sessions (λ q server session there. refl)).sound in
      let high = heap_high largest_machine in
      let within = payload_within_range high s.heap h.heap_parts (heap_lies s h) held.at held.payload held.starts in
      let long = payload_some high s.heap h.heap_parts (heap_lies s h) held.at held.payload held.starts in
      let block = mapped_from (λ (e : Region × ℕ). record { of = 0; pages = e.0.pages }) (block_region (share_at a store regions) within.0) within.1.range
      (sym (heap_blocks_are_regions heap store regions o.sound within.0) ∙ within.1.there) in
      let shared = region_of_block (share_at a store regions) within.0 block.0 block.1 in
      let low = low_tag (get (share_at a store regions).heap within.0) (get (share_at a store regions).tags within.0) (ap is_some block.1) in
      let tag : get regions.tags within.0 ≡ Some low.1.0 = kept_tag a store regions within.0 block.0.0 shared.0 ∙ low.1.1 in
      record {
        start = within.0;
        k = low.1.0;
        r = block.0.0;
        standing = (in_share p regions.heap regions.tags within.0 block.0.0 shared.0).0;
        tag = tag;
        low = low.1.2;
        from = within.1.from;
        to = omega (arith, within.1.to, long, ap (λ (r : Region). r.pages) block.2);
        some = long;
      }

  -- so the region of its dataspace is the heap's
  held_tag : (k : ℕ) × (get regions.tags held.start ≡ Some k) × (k ≤ large_tag)
  held_tag = let range = has_range in elim (cases_eq range.start held.start) [
    | inl same ↦ (range.k, ap (get regions.tags) (sym same) ∙ range.tag, range.low)
    | inr other ↦
        let apart = o.sound.window.lie.apart range.start held.start range.r region range.standing there other in
        absurd (not_both range.start range.r.pages held.start held.pages held.at apart range.from range.to
        (omega (arith, held.stands)) (omega (arith, held.stands, held.within, whole, range.some)))
  ]

  -- the part has the bytes
  pub block_has : get p.spaces ds ≡ Some held.bytes
  block_has = held.there

  -- in which the range lies
  pub block_fits : offset + count ≤ length held.bytes
  block_fits = omega (arith, held.into, held.low, held.high, held.within)

  module _ (no_region : resolved regions.user address count ≡ None) (no_sliced : block_found (blocks_at a store regions) address count ≡ None) where
    -- the own state finds the range in the payload
    own_found : (sessions : Sessions) → found (own_in sessions a store space regions heap) address count ≡ Some (InBlock held.at (address - held.at))
    unfolding own_of
    own_found sessions =
        let renamed = renamed_is p space regions (heap_at heap store regions) (blocks_at a store regions) o.own address count sessions in
        found_block (own_in sessions a store space regions heap) address count (Some (held.at, address - held.at))
        (renamed ∙ ap (λ x. option_and_then (λ (x : ℕ × ℕ). option_map (λ other. (other, x.1)) (selector_of space.caps x.0)) x) no_region) no_sliced held.found

    -- so a peek tells its bytes
    pub block_peeked : (sessions : Sessions) → count_refusal count ≡ None →
        record { reply = Bytes (slice_range held.bytes offset (offset + count)); lines = []; next = own_in sessions a store space regions heap } ≡ script_step (Peek address count) (own_in sessions a store space regions heap)
    unfolding own_of
    block_peeked sessions few =
        let s = own_in sessions a store space regions heap in
        ap (λ l. record { reply = Bytes l; lines = []; next = s }) (payload_read heap store regions ds offset address count held)
        ∙ sym (peeks_block s address count held.at (address - held.at) held.payload few (own_found sessions) held.starts)

module _ {store : Store} {space : Space} {regions : Regions} {heap : Heap} (o : Owns (heap_payer heap) store space regions heap) (ds offset address : ℕ) (bytes : List ℕ)
    (held : HoldsRange heap store regions ds offset address (length bytes)) (no_region : resolved regions.user address (length bytes) ≡ None) (no_sliced : block_found (blocks_at (heap_payer heap) store regions) address (length bytes) ≡ None)
    (few : count_refusal (length bytes) ≡ None) (are : are_bytes bytes ≡ true) {store' : Store} (becomes : PartBecomes (heap_payer heap) (part_with_bytes (part (heap_payer heap) store) ds offset bytes) store store') where
  -- the heap is as it was but for that payload
  pokes : Pokes heap held.at held.payload (address - held.at) bytes store store' regions
  pokes = payload_poked heap ds offset address bytes store store' regions o.sound are held becomes

  -- the dataspaces are as many, and others than the payload's stay
  abbrev put : IsPut (heap_payer heap) ds store store'
  put = is_put (heap_payer heap) ds offset bytes held.bytes held.there (block_fits o ds offset address (length bytes) held) becomes

  -- nothing else of the script changes
  poked_alone : Alone (heap_payer heap) store space regions heap store' regions heap
  poked_alone = record {
    sound = pokes.sound;
    payer = refl;
    shares = shares_with_parts regions.heap regions.tags becomes;
    rest = refl;
    stands = blocks_in_place (heap_payer heap) store store' regions (λ s r there. put.alike r.of);
    kept = λ k some none. put.others k (λ e.
        let tag = held_tag o ds offset address (length bytes) held in
        none held.start tag.0 (record { of = ds; pages = held.pages }) (there o ds offset address (length bytes) held) tag.1 tag.2 (sym e));
    tags = λ s r there. let was = tagged (heap_payer heap) store regions s r there (o.all s r there) in record { paid = put.alike r.of ∙ was.paid; tag = was.tag };
    unnamed = o.own.blocks.unnamed;
    ram_limit = ap (λ q. (account_of q).ram_limit) becomes.own;
    caps_limit = ap (λ q. (account_of q).caps_limit) becomes.own;
    spare = put_spare (heap_payer heap) ds offset _ bytes held.bytes held.there becomes o.own.paid.spare;
  }

  -- so the poke is the model's
  pub block_poked_ends : Ends (heap_payer heap) (Poke address bytes) Done store space regions heap store' regions heap
  unfolding own_of
  block_poked_ends = record {
    alone = poked_alone;
    steps = λ sessions.
        let s = own_in sessions (heap_payer heap) store space regions heap in
        pokes_block s address held.at (address - held.at) bytes held.payload few (own_found o ds offset address (length bytes) held no_region no_sliced sessions) held.starts
        ∙ (λ i. record { reply = Done; lines = []; next = record s { account = account_of (sym becomes.own i); heap = sym pokes.value i } });
  }
