-- A content is filled with bytes of a dataspace that isn't its own, as with the front of another content.
use Rattle.std.proofs.Common.{◌≡◌, ◌≢◌, ℕ, ◌+◌, ◌-◌, ◌≤◌, List, length, take, sym, ap, subst, ◌∙◌, arith}
use Rattle.std.specs.Prelude.{slice_range}
use Rattle.trade_base.proofs.BytesLemmas.{length-slice_range}
use Rattle.region_map.specs.Regions.{Regions}
use Rattle.dataspace_core.specs.Store.{Store, part, space_at, part_with_bytes, PartBecomes}
use Rattle.heap_core.specs.declared.heap.Heap.{Heap}
use Rattle.sliced_heap.proofs.ShareLemmas.{shown_block}
use Rattle.sliced_heap.specs.declared.heap.SlicedHeap.{SlicedHeap}
use Rattle.sliced_heap.specs.Heap.{payer_of}
use Rattle.sliced_heap.specs.Sliced.{sliced_of}
use Rattle.server_frame.specs.Session.{holding_of}
use Rattle.session_nodes.specs.Calls.{HasBytes, payload_in, content_written}
use Rattle.session_nodes.specs.Found.{FindsContent, IsElsewhere, IsThere}
use Rattle.session_nodes.specs.SoundHeaps.{HasSoundHeaps, KeepsSession, stock}
use Rattle.session_nodes.proofs.ContentLemmas.{poke_changes, poke_account, poke_lent, pokes}
use Rattle.session_nodes.proofs.FoundLemmas.{content_put, content_read, found_becomes}
use Rattle.session_nodes.proofs.FurnishedLemmas.{contents_kept, nodes_stay_in}

module _ {heap : Heap} {sliced : SlicedHeap} {store : Store} {regions : Regions} (f : HasSoundHeaps heap sliced store regions) (address offset : ℕ) (bytes : List ℕ) (ds at : ℕ)
    (has : HasBytes (sliced_of (holding_of sliced store regions)) address offset (length bytes)) (some : 1 ≤ length bytes) (found : FindsContent sliced store regions ds at address offset (length bytes))
    {new : Store} (written : PartBecomes (space_at store ds).payer (part_with_bytes (part (space_at store ds).payer store) ds at bytes) store new) where
  becomes : PartBecomes (payer_of sliced) (part_with_bytes (part (payer_of sliced) store) ds at bytes) store new
  becomes = found_becomes f address offset (length bytes) ds at has some found bytes new written

  -- bytes that are put where a content's are found are put over the content's
  pub put_written : stock heap sliced new regions ≡ content_written address offset bytes (stock heap sliced store regions)
  put_written =
      nodes_stay_in f (poke_changes f ds at (address + offset) bytes found.held becomes) _ _
      (poke_account f ds at (address + offset) bytes found.held becomes)
      ((pokes f ds at (address + offset) bytes found.held becomes).blocks ∙ content_put f address offset (length bytes) ds at has some found bytes)

  pub put_keeps : KeepsSession sliced heap sliced store new regions regions
  put_keeps = contents_kept f (poke_changes f ds at (address + offset) bytes found.held becomes) (poke_lent f ds at (address + offset) bytes found.held becomes)

module _ {heap : Heap} {sliced : SlicedHeap} {store : Store} {regions : Regions} (f : HasSoundHeaps heap sliced store regions) where
  -- bytes of another dataspace
  module _ (address offset source place count ds at : ℕ) (has : HasBytes (sliced_of (holding_of sliced store regions)) address offset count) (some : 1 ≤ count)
      (there : IsThere store source place count) (found : FindsContent sliced store regions ds at address offset count) {new : Store}
      (copied : let bytes = slice_range (space_at store source).bytes place (place + count) in
      PartBecomes (space_at store ds).payer (part_with_bytes (part (space_at store ds).payer store) ds at bytes) store new) where
    abbrev bytes : List ℕ
    bytes = slice_range (space_at store source).bytes place (place + count)

    long : count ≡ length bytes
    long = sym (length-slice_range (space_at store source).bytes place count there.within)

    has_put : HasBytes (sliced_of (holding_of sliced store regions)) address offset (length bytes)
    has_put = subst (HasBytes (sliced_of (holding_of sliced store regions)) address offset) long has

    found_put : FindsContent sliced store regions ds at address offset (length bytes)
    found_put = subst (FindsContent sliced store regions ds at address offset) long found

    pub filled_written : stock heap sliced new regions ≡ content_written address offset bytes (stock heap sliced store regions)
    filled_written = put_written f address offset bytes ds at has_put (subst (λ n. 1 ≤ n) long some) found_put copied

    pub filled_keeps : KeepsSession sliced heap sliced store new regions regions
    filled_keeps = put_keeps f address offset bytes ds at has_put (subst (λ n. 1 ≤ n) long some) found_put copied

  -- the dataspace of a content is none of another's
  pub other_content : (from to ds at count : ℕ) → from ≢ to → FindsContent sliced store regions ds at from 0 count → IsElsewhere sliced store regions ds to
  other_content from to ds at count apart found start region starts block same =
      let mine = shown_block (payer_of sliced) store regions found.held.start _ found.held.region in
      let its = shown_block (payer_of sliced) store regions start region block in
      let one = f.sound.window.once found.held.start start _ region mine.there its.there same in
      apart (omega (arith, one, found.at, starts))

  -- a content isn't found in a dataspace that is elsewhere
  pub elsewhere_apart : (address offset count source ds at : ℕ) → IsElsewhere sliced store regions source address → FindsContent sliced store regions ds at address offset count → source ≢ ds
  elsewhere_apart address offset count source ds at elsewhere found = elsewhere found.held.start _ found.at found.held.region

  -- what is found of a content's front is its front
  pub front_found : (address count ds at : ℕ) → HasBytes (sliced_of (holding_of sliced store regions)) address 0 count → 1 ≤ count → FindsContent sliced store regions ds at address 0 count →
      slice_range (space_at store ds).bytes at (at + count) ≡ take count (payload_in (sliced_of (holding_of sliced store regions)) address)
  front_found address count ds at has some found =
      let n : (0 + count) - 0 ≡ count = omega arith in
      content_read f address 0 count ds at has some found ∙ ap (λ k. take k (payload_in (sliced_of (holding_of sliced store regions)) address)) n
