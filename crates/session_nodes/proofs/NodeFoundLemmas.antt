-- Where a node's bytes are found.
use Rattle.std.proofs.Common.{rules, ◌≡◌, ℕ, ◌+◌, ◌-◌, ◌≤◌, List, length, Some, sym, ap, ◌∙◌, arith}
use Rattle.std.proofs.lemmas.Option.{same_Some}
use Rattle.std.specs.Prelude.{slice_range}
use Rattle.std.specs.FinMap.{get}
use Rattle.own_model.specs.OwnHeap.{OwnHeap}
use Rattle.region_map.specs.Regions.{Regions}
use Rattle.dataspace_core.specs.Store.{Store, space_at}
use Rattle.dataspace_core.proofs.PartLaws.{IsPaidBy, paid_in_part}
use Rattle.heap_core.specs.declared.heap.Heap.{Heap}
use Rattle.heap_core.specs.Calls.{HoldsRange}
use Rattle.heap_core.specs.Heap.{payer_of as heap_payer, heap_in, heap_at}
use Rattle.heap_core.proofs.RangeLemmas.{payload_read}
use Rattle.sliced_heap.specs.declared.heap.SlicedHeap.{SlicedHeap}
use Rattle.server_frame.specs.Session.{holding_of}
use Rattle.session_nodes.specs.Calls.{HasBytes, payload_in}
use Rattle.session_nodes.specs.Found.{FindsNode}
use Rattle.session_nodes.specs.SoundHeaps.{HasSoundHeaps}
use Rattle.session_nodes.proofs.FoundLemmas.{there_is}
use Rattle.session_nodes.proofs.FurnishedLemmas.{nodes_are}
use Rattle.session_nodes.proofs.NodePlaceLemmas.{one_payload}

module _ {heap : Heap} {sliced : SlicedHeap} {store : Store} {regions : Regions} (f : HasSoundHeaps heap sliced store regions) (address : ℕ)
    {size : ℕ} (has : HasBytes (heap_in heap (holding_of sliced store regions)).payloads address 0 size) (into count : ℕ) (some : 1 ≤ count) (few : into + count ≤ size) where
  abbrev payload : List ℕ
  payload = payload_in (heap_in heap (holding_of sliced store regions)).payloads address

  -- the node's payload is one of the heap's
  pub payload_there : get (heap_at heap store regions).payloads address ≡ Some payload
  payload_there = search (rules, nodes_are, there_is)

  module _ (ds offset : ℕ) (held : HoldsRange heap store regions ds offset (address + into) count) where
    -- what is found is that payload
    pub same_at : held.at ≡ address
    same_at =
        let low = held.low in
        let high = held.high in
        let within = has.within in
        let none = ap (λ (h : OwnHeap). h.large) (sym (nodes_are heap sliced store regions f.payer)) ∙ f.nodes.no_large in
        one_payload heap store regions f.sound none (address + into) held.at address held.payload payload held.starts payload_there
        (record { from = low; to = omega (arith, high) }) (record { from = omega arith; to = omega (arith, within, few, some) })

    pub same_payload : held.payload ≡ payload
    same_payload = same_Some held.payload payload (sym held.starts ∙ ap (get (heap_at heap store regions).payloads) same_at ∙ payload_there)

    pub node_paid : IsPaidBy (heap_payer heap) ds held.bytes store
    node_paid = paid_in_part (heap_payer heap) ds held.bytes store held.there

    pub finds_node : FindsNode heap store regions ds offset address into count
    finds_node =
        let into = held.into in
        let low = held.low in
        let high = held.high in
        let within = held.within in
        let long = ap length node_paid.bytes_are in
        record { held = held; at = same_at; there = record { exists = node_paid.exists; within = omega (arith, into, low, high, within, long) } }

    -- its bytes are the payload's
    pub node_read : slice_range (space_at store ds).bytes offset (offset + count) ≡ slice_range payload into (into + count)
    node_read =
        let far : address + into - held.at ≡ into = omega (arith, same_at) in
        ap (λ (l : List ℕ). slice_range l offset (offset + count)) node_paid.bytes_are
        ∙ payload_read heap store regions ds offset (address + into) count held
        ∙ (λ i. slice_range (same_payload i) (far i) (far i + count))

  -- where a payload's bytes are held, the node's are found
  pub finds_held : (ds base : ℕ) →
      ((bytes : List ℕ) (from n : ℕ) → get (heap_at heap store regions).payloads address ≡ Some bytes → 1 ≤ n → from + n ≤ length bytes → HoldsRange heap store regions ds (base + from) (address + from) n) →
      FindsNode heap store regions ds (base + into) address into count
  finds_held ds base held = finds_node ds (base + into) (held payload into count payload_there some (omega (arith, has.within, few)))
