-- A session's buffer is separate: neither what its heaps have nor what is true of them depends on the buffer's bytes.
use Rattle.std.proofs.Common.{◌≡◌, ◌≢◌, ℕ, ◌==◌, true, false, true≢false, eqb-true, List, length, drop, Some, is_some, refl, sym, ap, ◌∙◌, arith, inl, inr}
use Rattle.std.proofs.lemmas.Bool.{cases_eq}
use Rattle.std.proofs.lemmas.Bool.Decides.{nat_tests}
use Rattle.std.proofs.lemmas.Option.{same_Some}
use Rattle.std.specs.Prelude.{Option, None}
use Rattle.std.specs.Option.{option_map}
use Rattle.std.specs.FinMap.{get, empty, len}
use Rattle.own_model.specs.NatMap.{NatMap}
use Rattle.own_model.specs.Moved.{moved_up}
use Rattle.own_model.specs.OwnHeap.{OwnHeap}
use Rattle.own_model.specs.Region.{Region}
use Rattle.own_model.specs.Sliced.{sliced_header}
use Rattle.own_model.proofs.NatMapLemmas.{picked_alike, get-insert_same, get-insert_other, some_of}
use Rattle.own_model.proofs.Totals.{len-insert_at}
use Rattle.region_map.specs.Regions.{of_no_heap}
use Rattle.server_frame.specs.SessionBuffer.{share_with}
use Rattle.dataspace_core.specs.Share.{Share}
use Rattle.heap_core.specs.Heap.{heap_in}
use Rattle.heap_core.proofs.StayLemmas.{laid_same, value_same}
use Rattle.sliced_heap.specs.Window.{block_region}
use Rattle.sliced_heap.proofs.LinkedLemmas.{alike_linked}
use Rattle.sliced_heap.proofs.ShareLemmas.{in_numbered, told_region, sliced_number}
use Rattle.sliced_heap.specs.Heap.{IsNoBlock}
use Rattle.sliced_heap.specs.Sliced.{sliced_of, sliced_tag, is_sliced_tag, block_regions, payload_of}
use Rattle.session_nodes.specs.SoundHeaps.{IsShare, HoldsNodes, is_lent_tag}
use Rattle.session_nodes.specs.SessionBuffer.{IsBufferAt}
use Rattle.session_nodes.specs.SessionHeaps.{AreKept}
use Rattle.session_nodes.specs.declared.session_heaps.SessionHeaps.{SessionHeaps}
use Rattle.session_nodes.specs.declared.session_buffer.SessionBuffer.{SessionBuffer}

-- what passes for the number of a lent dataspace is that number
pub lent_number : (o : Option ℕ) → is_lent_tag o ≡ true → o ≡ Some of_no_heap
lent_number None e = absurd (true≢false (sym e))
lent_number (Some k) e = ap Some (eqb-true k of_no_heap e)

module _ (heaps : SessionHeaps) (lent : SessionBuffer) (account : ℕ) (share : Share) (is : AreKept heaps account share) (stands : IsBufferAt lent share) where
  abbrev region : Region
  region = record { of = lent.space.0; pages = stands.pages }

  in_lent : (is_lent_tag (get share.tags lent.start) ≡ true) × (get share.heap lent.start ≡ Some region)
  in_lent = in_numbered is_lent_tag share.heap share.tags lent.start region (ap (λ (m : NatMap Region). get m lent.start) stands.region ∙ get-insert_same empty lent.start region lent.start refl)

  holds : HoldsNodes heaps.nodes share
  holds = is.nodes stands.possible

  pub there : (bytes : List ℕ) × (get share.part.spaces lent.space.0 ≡ Some bytes)
  there = some_of (get share.part.spaces lent.space.0) (stands.possible.paid lent.start region in_lent.1)

  -- no region of another number shows the buffer
  apart : (s k : ℕ) (r : Region) → get share.heap s ≡ Some r → get share.tags s ≡ Some k → (k == of_no_heap) ≡ false → r.of ≢ lent.space.0
  apart s k r at tag other e =
      let here = stands.possible.once s lent.start r region at in_lent.1 e in
      let same_tag = same_Some k of_no_heap (sym tag ∙ ap (get share.tags) here ∙ lent_number _ in_lent.0) in
      grind (arith, nat_tests)

  pub no_block : IsNoBlock share lent.space.0
  no_block s r block = let at = in_numbered is_sliced_tag share.heap share.tags s r block in apart s sliced_tag r at.1 (sliced_number _ at.0) refl

  -- with other bytes in it
  module _ (bytes : List ℕ) where
    abbrev pub T : Share
    T = share_with lent.space.0 bytes share

    stands_still : (s : ℕ) → block_region T s ≡ block_region share s
    stands_still s = refl

    chunks_same : (s k : ℕ) (r : Region) → block_region share s ≡ Some (r, k) → get T.part.spaces r.of ≡ get share.part.spaces r.of
    chunks_same s k r block =
        let at = told_region share s k r block in
        let low = at.few in
        get-insert_other share.part.spaces lent.space.0 bytes r.of (apart s k r at.there at.tag (grind (arith, nat_tests)))

    pub nodes_same : heap_in heaps.nodes T ≡ heap_in heaps.nodes share
    nodes_same = value_same heaps.nodes share T holds.laid stands_still chunks_same

    pub contents_same : sliced_of T ≡ sliced_of share
    unfolding sliced_of
    contents_same =
        ap (moved_up sliced_header) (picked_alike (payload_of T.part.spaces) (payload_of share.part.spaces) (block_regions share)
        (λ s r block. ap (option_map (drop sliced_header)) (get-insert_other share.part.spaces lent.space.0 bytes r.of (no_block s r block))))

    possible : IsShare T
    possible = record {
      paid = λ s r at. elim (cases_eq r.of lent.space.0) [
        | inl here ↦ ap is_some (get-insert_same share.part.spaces lent.space.0 bytes r.of here)
        | inr other ↦ ap is_some (get-insert_other share.part.spaces lent.space.0 bytes r.of other) ∙ stands.possible.paid s r at
      ];
      once = stands.possible.once;
    }

    pub buffer_still : IsBufferAt lent T
    buffer_still = record { possible = possible; pages = stands.pages; region = stands.region }

    pub kept_still : AreKept heaps account T
    kept_still = record {
      payer = is.payer;
      same_payer = is.same_payer;
      linked = alike_linked share T heaps.contents.first is.linked refl (λ s r block. get-insert_other share.part.spaces lent.space.0 bytes r.of (no_block s r block));
      nodes = λ _. record {
        laid = laid_same heaps.nodes share T holds.laid stands_still chunks_same;
        no_large = ap (λ (h : OwnHeap). h.large) nodes_same ∙ holds.no_large;
        all = let few = len-insert_at share.part.spaces lent.space.0 bytes there.0 there.1 in
            let chunks = ap (λ (h : OwnHeap). length h.shape.chunks) nodes_same in
            let contents = ap len contents_same in
            let all = holds.all in
            omega (arith, few, chunks, contents, all);
      };
    }
