-- A node's block is taken, in a hole or in a new chunk.
use Rattle.std.proofs.lemmas.Bool.Decides.{nat_tests}
use Rattle.std.proofs.Common.{◌≡◌, ℕ, ◌/◌, ◌≤◌, length, sym, ap, subst, ◌∙◌, arith}
use Rattle.std.specs.Prelude.{Result, Ok, Err, IfOk, OnErr}
use Rattle.own_model.specs.Account.{charged}
use Rattle.own_model.specs.BestFit.{Spot}
use Rattle.own_model.specs.Growth.{Growth, growth_of, heap_refusal, new_hole}
use Rattle.own_model.specs.HeapStep.{with_block, with_chunk}
use Rattle.own_model.specs.OwnHeap.{OwnHeap}
use Rattle.region_map.specs.Regions.{Regions, heap_attached}
use Rattle.dataspace_core.specs.Share.{KeepsShares}
use Rattle.dataspace_core.specs.Store.{Store, part, account_in}
use Rattle.heap_core.specs.declared.heap.Heap.{Heap}
use Rattle.heap_core.specs.Calls.{TakesSmall, TakesGrown, Attaches, growth_at}
use Rattle.heap_core.specs.Heap.{payer_of as heap_payer, heap_in, heap_at, keys_in, shape_in, large_tag, IsSound as IsSoundHeap}
use Rattle.heap_core.proofs.WordsLemmas.{length_keys}
use Rattle.sliced_heap.specs.declared.heap.SlicedHeap.{SlicedHeap}
use Rattle.sliced_heap.specs.Heap.{payer_of}
use Rattle.server_frame.specs.Session.{holding_of}
use Rattle.session_nodes.specs.Calls.{TakesInHole, TakesInChunk}
use Rattle.session_nodes.specs.SoundHeaps.{HasSoundHeaps, KeepsSession, stock}
use Rattle.session_nodes.proofs.FurnishedLemmas.{ChangesNodes, nodes_are, nodes_kept, contents_stay}
use Rattle.session_nodes.proofs.NodeCallLemmas.{in_place, attached, account_stays, grown_account, shape_is, chunks_taken, chunks_grown}

-- what is so of a call that is accepted, or was refused
pub taken_by : {P : Spot → ℕ → Type 0} {Q R : ℕ → Type 0} {E : Type 0} (r : Result ℕ E) → ((hole : Spot) → IfOk r (P hole)) → IfOk r Q → ((a : ℕ) → ((hole : Spot) → P hole a) → Q a → R a) → IfOk r R
taken_by (Ok a) p q f = f a p q
taken_by (Err e) p q f = q

pub kept_by : {P : Spot → ℕ → Type 0} {Q : ℕ → Type 0} {A B C R E : Type 0} (r : Result ℕ E) → ((hole : Spot) → IfOk r (P hole)) → IfOk r Q → OnErr r A → OnErr r B → OnErr r C →
    ((a : ℕ) → ((hole : Spot) → P hole a) → Q a → R) → (A → B → C → R) → R
kept_by (Ok x) p q a b c f g = f x p q
kept_by (Err e) p q a b c f g = g a b c

module _ (asked : ℕ) {heap : Heap} {sliced : SlicedHeap} {store : Store} {regions : Regions} (f : HasSoundHeaps heap sliced store regions) where
  -- the shape of the nodes, as the heap's own account has it
  pub shape_there : (heap_in heap (holding_of sliced store regions)).shape ≡ shape_in heap (part (heap_payer heap) store)
  shape_there = ap (λ (h : OwnHeap). h.shape) (nodes_are heap sliced store regions f.payer) ∙ shape_is heap store regions

  pub refusal_is : heap_refusal asked (shape_in heap (part (heap_payer heap) store)) (account_in store (heap_payer heap))
      ≡ heap_refusal asked (heap_in heap (holding_of sliced store regions)).shape (account_in store (payer_of sliced))
  refusal_is = λ i. heap_refusal asked (sym shape_there i) (account_in store (f.payer i))

  module _ {later : Heap} {new : Store} {after : Regions} (sound : IsSoundHeap later new after) (payer : heap_payer later ≡ heap_payer heap)
      (others : KeepsShares (heap_payer heap) store new regions.heap regions.tags after.heap after.tags) where
    -- ---- in a hole

    module _ (hole : Spot) (address : ℕ) (takes : TakesSmall heap later asked hole address store new regions after) where
      changes_small : ChangesNodes (payer_of sliced) heap store regions later new after
      changes_small =
          let value : heap_at later new regions ≡ with_block asked hole (heap_at heap store regions) = ap (heap_at later new) (sym takes.map) ∙ takes.value in
          subst (λ m. ChangesNodes (payer_of sliced) heap store regions later new m) (sym takes.map)
          (subst (λ x. ChangesNodes x heap store regions later new regions) f.payer
          (in_place heap later store new regions f.sound payer takes.account (subst (IsSoundHeap later new) takes.map sound)
          (subst (λ (m : Regions). KeepsShares (heap_payer heap) store new regions.heap regions.tags m.heap m.tags) takes.map others) takes.spaces
          (ap (λ (h : OwnHeap). h.large) value) (ap (λ (h : OwnHeap). length h.shape.chunks) value ∙ chunks_taken asked hole (heap_at heap store regions))))

      pub small_keeps : KeepsSession sliced later sliced store new regions after
      small_keeps = nodes_kept f changes_small

      pub taken_in_hole : TakesInHole asked hole address (stock heap sliced store regions) (stock later sliced new after)
      taken_in_hole = grind (arith, nat_tests, nodes_are, contents_stay, changes_small, account_stays)

    -- ---- in a new chunk

    module _ (address : ℕ) (takes : TakesGrown heap later asked address store new regions after) where
      abbrev growth : Growth
      growth = growth_at asked heap store

      few_chunks : length (keys_in heap) ≤ large_tag
      few_chunks = omega (arith, length_keys heap.chunks.items, f.sound.laid.few)

      changes_grown : ChangesNodes (payer_of sliced) heap store regions later new after
      changes_grown =
          let map = takes.attaches.attached in
          let grown : Regions = heap_attached regions takes.ds (growth.bytes / 4096) (length (keys_in heap)) takes.start in
          let value : heap_at later new grown ≡ with_block asked (new_hole growth (heap_at heap store regions).shape) (with_chunk growth takes.start (heap_at heap store regions)) = ap (heap_at later new) (sym map) ∙ takes.value in
          subst (λ m. ChangesNodes (payer_of sliced) heap store regions later new m) (sym map)
          (subst (λ x. ChangesNodes x heap store regions later new grown) f.payer
          (attached heap later store new regions f.sound payer takes.ds growth.bytes (length (keys_in heap)) takes.start few_chunks (subst (IsSoundHeap later new) map sound)
          (subst (λ (m : Regions). KeepsShares (heap_payer heap) store new regions.heap regions.tags m.heap m.tags) map others)
          (subst (Attaches heap takes.ds growth.bytes (length (keys_in heap)) takes.start store new regions) map takes.attaches) takes.spaces
          (ap (λ (h : OwnHeap). h.large) value)
          (ap (λ (h : OwnHeap). length h.shape.chunks) value ∙ chunks_grown asked (new_hole growth (heap_at heap store regions).shape) growth takes.start (heap_at heap store regions))))

      pub grown_keeps : KeepsSession sliced later sliced store new regions after
      grown_keeps = nodes_kept f changes_grown

      same_growth : growth ≡ growth_of asked (heap_in heap (holding_of sliced store regions)).shape (account_in store (payer_of sliced))
      same_growth = λ i. growth_of asked (sym shape_there i) (account_in store (f.payer i))

      charge : account_in new (payer_of sliced) ≡ charged (account_in store (payer_of sliced)) (growth_of asked (heap_in heap (holding_of sliced store regions)).shape (account_in store (payer_of sliced))).bytes 1
      charge =
          let map = takes.attaches.attached in
          subst (λ x. account_in new x ≡ charged (account_in store x) growth.bytes 1) f.payer
          (grown_account heap later store new regions f.sound payer takes.ds growth.bytes (length (keys_in heap)) takes.start few_chunks (subst (IsSoundHeap later new) map sound)
          (subst (λ (m : Regions). KeepsShares (heap_payer heap) store new regions.heap regions.tags m.heap m.tags) map others)
          (subst (Attaches heap takes.ds growth.bytes (length (keys_in heap)) takes.start store new regions) map takes.attaches) takes.spaces)
          ∙ ap (λ (g : Growth). charged (account_in store (payer_of sliced)) g.bytes 1) same_growth

      pub taken_in_chunk : TakesInChunk asked address (stock heap sliced store regions) (stock later sliced new after)
      taken_in_chunk = record {
        start = takes.start;
        at = takes.at;
        is = contents_stay f changes_grown _ _ charge
            (takes.value ∙ (λ i. let h = sym (nodes_are heap sliced store regions f.payer) i in
            with_block asked (new_hole (same_growth i) h.shape) (with_chunk (same_growth i) takes.start h)));
      }
