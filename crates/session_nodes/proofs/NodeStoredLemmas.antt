-- What a session has after a node is stored.
use Rattle.std.proofs.Common.{rules, ◌≡◌, ℕ, ◌+◌, ◌-◌, ◌≤◌, true, List, length, Some, sym, subst, ◌∙◌, arith}
use Rattle.std.specs.FinMap.{get}
use Rattle.own_model.specs.HeapStep.{with_poked}
use Rattle.own_model.specs.OwnState.{with_part}
use Rattle.own_model.proofs.ByteLemmas.{length-with_part}
use Rattle.own_model.proofs.NatMapLemmas.{get-insert_same}
use Rattle.region_map.specs.Regions.{Regions}
use Rattle.dataspace_core.specs.Store.{Store, part, account_in, part_with_bytes, PartBecomes}
use Rattle.heap_core.specs.declared.heap.Heap.{Heap}
use Rattle.heap_core.specs.Calls.{HoldsRange}
use Rattle.heap_core.specs.Heap.{payer_of as heap_payer, heap_in}
use Rattle.heap_core.specs.Words.{are_bytes}
use Rattle.sliced_heap.specs.declared.heap.SlicedHeap.{SlicedHeap}
use Rattle.sliced_heap.specs.Heap.{payer_of}
use Rattle.server_frame.specs.Session.{holding_of}
use Rattle.session_nodes.specs.Calls.{HasBytes, payload_in, node_stored}
use Rattle.session_nodes.specs.SoundHeaps.{HasSoundHeaps, KeepsSession, stock}
use Rattle.session_nodes.proofs.FurnishedLemmas.{ChangesNodes, nodes_are, nodes_kept, contents_stay}
use Rattle.session_nodes.proofs.NodeFoundLemmas.{same_at, same_payload}
use Rattle.session_nodes.proofs.NodeStoreLemmas.{pokes, poked_account, poked_changes}

module _ {heap : Heap} {sliced : SlicedHeap} {store : Store} {regions : Regions} (f : HasSoundHeaps heap sliced store regions) (address : ℕ)
    {size : ℕ} (has : HasBytes (heap_in heap (holding_of sliced store regions)).payloads address 0 size) (into ds offset : ℕ) (bytes : List ℕ) (some : 1 ≤ length bytes) (few : into + length bytes ≤ size)
    (held : HoldsRange heap store regions ds offset (address + into) (length bytes)) (are : are_bytes bytes ≡ true) {new : Store}
    (becomes : PartBecomes (heap_payer heap) (part_with_bytes (part (heap_payer heap) store) ds offset bytes) store new) where
  changes : ChangesNodes (payer_of sliced) heap store regions heap new regions
  changes = subst (λ x. ChangesNodes x heap store regions heap new regions) f.payer (poked_changes heap store regions f.sound ds offset (address + into) bytes held are becomes)

  pub stored_keeps : KeepsSession sliced heap sliced store new regions regions
  stored_keeps = nodes_kept f changes

  pub stored_is : stock heap sliced new regions ≡ node_stored address into bytes (stock heap sliced store regions)
  stored_is =
      let at = same_at f address has into (length bytes) some few ds offset held in
      let payload = same_payload f address has into (length bytes) some few ds offset held in
      let far : address + into - held.at ≡ into = omega (arith, at) in
      contents_stay f changes _ _
      (subst (λ x. account_in new x ≡ account_in store x) f.payer (poked_account heap store regions f.sound ds offset (address + into) bytes held are becomes))
      ((pokes heap store regions f.sound ds offset (address + into) bytes held are becomes).value
      ∙ (λ i. with_poked (at i) (payload i) (far i) bytes (sym (nodes_are heap sliced store regions f.payer) i)))

  -- the payload that stands there then
  payload_now : get (heap_in heap (holding_of sliced new regions)).payloads address ≡ Some (with_part (payload_in (heap_in heap (holding_of sliced store regions)).payloads address) into bytes)
  payload_now = search (rules, stored_is, get-insert_same)

  pub stored_there : HasBytes (heap_in heap (holding_of sliced new regions)).payloads address 0 size
  stored_there = search (rules, payload_now, length-with_part)
