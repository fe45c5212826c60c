-- What a source has stays while what is lent does.
use Rattle.std.proofs.Common.{rules, ◌≡◌, ℕ, ◌+◌, ◌≤◌, length, Some, refl, sym, ap, subst, ◌∙◌}
use Rattle.std.specs.Prelude.{Option, None, IfSome, slice_range}
use Rattle.std.specs.FinMap.{get, empty}
use Rattle.own_model.specs.NatMap.{NatMap}
use Rattle.own_model.specs.Region.{Region}
use Rattle.own_model.proofs.NatMapLemmas.{get-insert_same}
use Rattle.region_map.specs.Regions.{Regions}
use Rattle.dataspace_core.specs.Share.{Share}
use Rattle.dataspace_core.specs.Store.{Store, Exists, space_at}
use Rattle.dataspace_core.proofs.PartLaws.{paid_in_part}
use Rattle.heap_core.specs.declared.heap.Heap.{Heap}
use Rattle.sliced_heap.proofs.ShareLemmas.{shown_block}
use Rattle.sliced_heap.specs.declared.heap.SlicedHeap.{SlicedHeap}
use Rattle.sliced_heap.specs.Heap.{payer_of, share_at}
use Rattle.sliced_heap.specs.Sliced.{sliced_tag}
use Rattle.server_frame.specs.SessionBuffer.{bytes_lent}
use Rattle.server_frame.specs.Session.{IsSessionHeap, holding_of}
use Rattle.session_nodes.specs.Found.{IsElsewhere, IsThere}
use Rattle.session_nodes.specs.SoundHeaps.{HasSoundHeaps, KeepsSession, lent_regions}
use Rattle.session_nodes.specs.SessionBuffer.{IsBufferAt, HasBuffer, KeepsBuffer, buffer_key}
use Rattle.session_nodes.specs.Source.{HasRange, HasSource, bytes_from}
use Rattle.session_nodes.specs.declared.session_buffer.SessionBuffer.{SessionBuffer}
use Rattle.session_nodes.specs.declared.write_source.WriteSource.{WriteSource}
use Rattle.session_nodes.specs.declared.write_source.WriteSource.TheVariants.{Bytes, Buffer}
use Rattle.session_nodes.proofs.BeginLemmas.{session_share}
use Rattle.session_nodes.proofs.BufferLemmas.{lent_exists, lent_had, apart}

module _ {heap later : Heap} {sliced now : SlicedHeap} {store new : Store} {regions after : Regions} (f : HasSoundHeaps heap sliced store regions) (keeps : KeepsSession sliced later now store new regions after) where
  lent_same : lent_regions (holding_of now new after) ≡ lent_regions (holding_of sliced store regions)
  lent_same = ap (λ x. lent_regions (share_at x new after)) keeps.stays.payer ∙ keeps.lent.stands

  -- what stands stays
  pub stands_kept : (lent : SessionBuffer) → IsBufferAt lent (holding_of sliced store regions) → IsBufferAt lent (holding_of now new after)
  stands_kept lent stands = record {
    possible = session_share now new after keeps.stays.furnished.session;
    pages = stands.pages;
    region = lent_same ∙ stands.region;
  }

  -- and has the same bytes
  pub lent_bytes : (lent : SessionBuffer) → IsBufferAt lent (holding_of sliced store regions) → (space_at new lent.space.0).bytes ≡ (space_at store lent.space.0).bytes
  lent_bytes lent stands =
      let region : Region = record { of = lent.space.0; pages = stands.pages } in
      let there = ap (λ (m : NatMap Region). get m lent.start) stands.region ∙ get-insert_same empty lent.start region lent.start refl in
      (paid_in_part (payer_of sliced) lent.space.0 _ new (keeps.lent.bytes lent.start region there ∙ lent_had f lent stands)).bytes_are

  -- so a session lends what it lent
  pub buffer_kept : (b : Option SessionBuffer) → HasBuffer b (holding_of sliced store regions) → HasBuffer b (holding_of now new after)
  buffer_kept None none = lent_same ∙ none
  buffer_kept (Some lent) stands = stands_kept lent stands

  pub buffer_same : (b : Option SessionBuffer) → HasBuffer b (holding_of sliced store regions) → bytes_lent new (buffer_key b) ≡ bytes_lent store (buffer_key b)
  buffer_same None none = refl
  buffer_same (Some lent) stands = ap Some (lent_bytes lent stands)

  pub source_kept : (source : WriteSource) → HasSource source sliced store regions → HasSource source now new after
  source_kept (Bytes bytes) has = has
  source_kept (Buffer lent place count) has = record {
    stands = stands_kept lent has.stands;
    within = subst (λ l. place + count ≤ length l) (sym (lent_bytes lent has.stands)) has.within;
  }

  pub bytes_kept : (source : WriteSource) → HasSource source sliced store regions → bytes_from source new ≡ bytes_from source store
  bytes_kept (Bytes bytes) has = refl
  bytes_kept (Buffer lent place count) has = ap (λ l. slice_range l place (place + count)) (lent_bytes lent has.stands)

module _ {heap : Heap} {sliced : SlicedHeap} {store : Store} {regions : Regions} (f : HasSoundHeaps heap sliced store regions) (lent : SessionBuffer) (place count : ℕ) (has : HasRange lent place count sliced store regions) where
  -- the range is there
  pub range_there : IsThere store lent.space.0 place count
  range_there = record { exists = lent_exists f lent has.stands; within = has.within }

  -- and in no content's dataspace
  pub lent_elsewhere : (address : ℕ) → IsElsewhere sliced store regions lent.space.0 address
  lent_elsewhere address start region at block same =
      let is = shown_block (payer_of sliced) store regions start region block in
      apart f lent has.stands start sliced_tag region is.there is.tag refl (sym same)

-- the dataspace of what is lent is there
pub buffer_exists : {heap : Heap} {sliced : SlicedHeap} {store : Store} {regions : Regions} → HasSoundHeaps heap sliced store regions → (b : Option SessionBuffer) → HasBuffer b (holding_of sliced store regions) →
    IfSome b (λ lent. Exists store lent.space.0)
buffer_exists f None none = search rules
buffer_exists f (Some lent) stands = lent_exists f lent stands

-- what is lent between requests stands there
pub has_buffer : (b : Option SessionBuffer) (sliced : SlicedHeap) (store : Store) (regions : Regions) → IsSessionHeap sliced store regions → KeepsBuffer b (holding_of sliced store regions) → HasBuffer b (holding_of sliced store regions)
has_buffer None sliced store regions session kept = kept (session_share sliced store regions session)
has_buffer (Some lent) sliced store regions session kept = kept

-- a buffer that is there is kept between requests
pub keeps_buffer : (b : Option SessionBuffer) (share : Share) → HasBuffer b share → KeepsBuffer b share
keeps_buffer None share none = λ _. none
keeps_buffer (Some lent) share stands = stands
