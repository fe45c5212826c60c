-- A node's block is given back.
use Rattle.std.proofs.Common.{arith, rules, ◌≡◌, ℕ, length, IsSome, sym, ap, subst, ◌∙◌}
use Rattle.std.proofs.lemmas.Bool.Decides.{nat_tests}
use Rattle.std.specs.Prelude.{None, Result, OnOk}
use Rattle.std.specs.Result.{result_err}
use Rattle.std.specs.FinMap.{get}
use Rattle.server_frame.proofs.HoldingLemmas.{on_ok}
use Rattle.trade_base.specs.declared.refusal.Refusal.{Refusal}
use Rattle.own_model.specs.HeapStep.{without_block}
use Rattle.own_model.specs.NatMap.{NatMap}
use Rattle.own_model.specs.OwnHeap.{OwnHeap}
use Rattle.own_model.proofs.NatMapLemmas.{get-empty}
use Rattle.region_map.specs.Regions.{Regions}
use Rattle.dataspace_core.specs.Share.{KeepsShares}
use Rattle.dataspace_core.specs.Store.{Store}
use Rattle.heap_core.specs.declared.heap.Heap.{Heap}
use Rattle.heap_core.specs.Calls.{GivesSmall, free_refusal}
use Rattle.heap_core.specs.Heap.{payer_of as heap_payer, heap_in, heap_at, IsSound as IsSoundHeap}
use Rattle.sliced_heap.specs.declared.heap.SlicedHeap.{SlicedHeap}
use Rattle.sliced_heap.specs.Heap.{payer_of}
use Rattle.server_frame.specs.Session.{holding_of}
use Rattle.session_nodes.specs.Calls.{GivesNode}
use Rattle.session_nodes.specs.SoundHeaps.{HasSoundHeaps, KeepsSession, stock}
use Rattle.session_nodes.proofs.FurnishedLemmas.{ChangesNodes, nodes_are, nodes_kept, contents_stay}
use Rattle.session_nodes.proofs.NodeCallLemmas.{in_place, account_stays, chunks_given}
use Rattle.session_nodes.proofs.NodePlaceLemmas.{given_at}
use Rattle.session_nodes.proofs.ResultLemmas.{free_ok}

module _ {heap : Heap} {sliced : SlicedHeap} {store : Store} {regions : Regions} (f : HasSoundHeaps heap sliced store regions) (address : ℕ) where
  -- no large block starts there
  no_large : get (heap_at heap store regions).large address ≡ None
  no_large = ap (λ (h : OwnHeap). get h.large address) (sym (nodes_are heap sliced store regions f.payer)) ∙ ap (λ (m : NatMap ℕ). get m address) f.nodes.no_large ∙ get-empty address

  -- so the block is one of a chunk
  pub gives_of : {later : Heap} {new : Store} {after : Regions} {X : Type 0} (r : Result X Refusal) → IsSome (get (heap_in heap (holding_of sliced store regions)).payloads address) →
      result_err r ≡ free_refusal (heap_at heap store regions) address →
      OnOk r (get (heap_at heap store regions).large address ≡ None → GivesSmall heap later address store new regions after) → GivesSmall heap later address store new regions after
  gives_of r there refusal small = search (rules, on_ok, free_ok, nodes_are, no_large)

  module _ {later : Heap} {new : Store} {after : Regions} (gives : GivesSmall heap later address store new regions after) (sound : IsSoundHeap later new after)
      (payer : heap_payer later ≡ heap_payer heap) (others : KeepsShares (heap_payer heap) store new regions.heap regions.tags after.heap after.tags) where
    changes : ChangesNodes (payer_of sliced) heap store regions later new after
    changes =
        let sound' : IsSoundHeap later new regions = subst (IsSoundHeap later new) gives.map sound in
        let value : heap_at later new regions ≡ without_block address (heap_at heap store regions) = ap (heap_at later new) (sym gives.map) ∙ gives.value in
        subst (λ m. ChangesNodes (payer_of sliced) heap store regions later new m) (sym gives.map)
        (subst (λ x. ChangesNodes x heap store regions later new regions) f.payer
        (in_place heap later store new regions f.sound payer gives.account sound'
        (subst (λ (m : Regions). KeepsShares (heap_payer heap) store new regions.heap regions.tags m.heap m.tags) gives.map others) gives.spaces
        (ap (λ (h : OwnHeap). h.large) value) (ap (λ (h : OwnHeap). length h.shape.chunks) value ∙ chunks_given address (heap_at heap store regions))))

    pub given_keeps : KeepsSession sliced later sliced store new regions after
    given_keeps = nodes_kept f changes

    stock_is : stock later sliced new after ≡ record (stock heap sliced store regions) { nodes = without_block address (heap_in heap (holding_of sliced store regions)) }
    stock_is = grind (arith, nat_tests, contents_stay, changes, account_stays, nodes_are)

    pub given_is : GivesNode address (stock heap sliced store regions) (stock later sliced new after)
    given_is = search (rules, stock_is, nodes_are, given_at)
