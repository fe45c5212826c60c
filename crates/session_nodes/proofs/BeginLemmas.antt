-- How a session's heap of nodes begins: an account that has nothing but sliced blocks has no chunk.
use Rattle.std.proofs.Common.{◌≡◌, ◌≢◌, ℕ, ◌+◌, ◌-◌, ◌≤◌, cond, List, length, Some, is_some, IsSome, refl, sym, ap, ◌∙◌, arith, inl, inr}
use Rattle.std.proofs.lemmas.Bool.{cases_eq, cases_lt}
use Rattle.std.proofs.lemmas.Bool.Decides.{nat_tests}
use Rattle.std.proofs.lemmas.Option.{none-some, same_Some}
use Rattle.std.specs.Prelude.{Option, None}
use Rattle.std.specs.FinMap.{get, insert, remove, len, len-empty, empty}
use Rattle.std.specs.Option.{option_map, unwrap_or}
use Rattle.std.specs.Ordering.{nat_cmp}
use Rattle.own_model.proofs.NatMapMovedLemmas.{get-moved_up, get-moved_up_below}
use Rattle.own_model.specs.NatMap.{NatMap}
use Rattle.own_model.specs.OwnHeap.{OwnHeap, no_heap}
use Rattle.own_model.specs.Region.{Region}
use Rattle.own_model.specs.Sliced.{sliced_header}
use Rattle.own_model.proofs.NatMapLemmas.{same, none_if, by_insertions, get-empty, get-insert_same, get-insert_other, get-remove_other, get-picked, and_then_from, value_at}
use Rattle.own_model.proofs.Totals.{len-insert_new, len-remove_at}
use Rattle.region_map.specs.Regions.{Regions, of_no_heap}
use Rattle.dataspace_core.specs.Share.{Share, share_in}
use Rattle.dataspace_core.specs.Store.{Store, part}
use Rattle.heap_core.specs.declared.heap.Heap.{Heap}
use Rattle.heap_core.specs.Heap.{heap_in, HasNoBlocks, IsLaid}
use Rattle.sliced_heap.specs.declared.heap.SlicedHeap.{SlicedHeap}
use Rattle.sliced_heap.specs.Heap.{payer_of}
use Rattle.sliced_heap.specs.Sliced.{sliced_tag, is_sliced_tag, sliced_of, block_regions, payload_of}
use Rattle.sliced_heap.proofs.ShareLemmas.{get-sliced_regions, in_numbered}
use Rattle.dataspace_core.proofs.ShareLaws.{in_share}
use Rattle.server_frame.specs.Session.{IsSessionHeap, HasBlocksAlone, holding_of}
use Rattle.session_nodes.specs.SoundHeaps.{IsShare, KeepsNodes, is_lent_tag, lent_regions}
use Rattle.session_nodes.specs.SeparateBuffer.{lent_number}

-- a session's share of a map is one that a map can have
pub session_share : (sliced : SlicedHeap) (store : Store) (regions : Regions) → IsSessionHeap sliced store regions → IsShare (holding_of sliced store regions)
unfolding share_in
session_share sliced store regions session = record {
  paid = λ s r there. (in_share (part (payer_of sliced) store) regions.heap regions.tags s r there).1;
  once = λ s t r q one two e. session.sound.maps.once s t r q (in_share (part (payer_of sliced) store) regions.heap regions.tags s r one).0 (in_share (part (payer_of sliced) store) regions.heap regions.tags t q two).0 e;
}

-- ---- a heap without a chunk

-- a map whose keys lead to different places of another has no more
Injects : NatMap (List ℕ) → Type 0
Injects m = (n : NatMap (List ℕ)) (g : ℕ → ℕ) → ((k : ℕ) (x : List ℕ) → get m k ≡ Some x → IsSome (get n (g k))) →
    ((k l : ℕ) (x y : List ℕ) → get m k ≡ Some x → get m l ≡ Some y → g k ≡ g l → k ≡ l) → len m ≤ len n

injects_none : Injects empty
unfolding Injects
injects_none n g there once = let none = len-empty nat_cmp (List ℕ) in omega (arith, none)

injects_more : (m : NatMap (List ℕ)) (k : ℕ) (x : List ℕ) → get m k ≡ None → Injects m → Injects (insert m k x)
unfolding Injects
injects_more m k x free rest n g there once =
    let here = get-insert_same m k x k refl in
    let at = value_at n (g k) (there k x here) in
    let was : (l : ℕ) (y : List ℕ) → get m l ≡ Some y → (l ≢ k) × (get (insert m k x) l ≡ Some y) = λ l y h. let e : l ≢ k = λ w. none-some y (sym free ∙ ap (get m) (sym w) ∙ h) in (e, get-insert_other m k x l e ∙ h) in
    let fewer = rest (remove n (g k)) g
    (λ l y h. let a = was l y h in let apart : g l ≢ g k = λ e. a.0 (once l k y x a.1 here e) in ap is_some (get-remove_other n (g k) (g l) apart) ∙ there l y a.1)
    (λ l j y z one two e. once l j y z (was l y one).1 (was j z two).1 e) in
    omega (arith, fewer, len-insert_new m k x free, len-remove_at n (g k) at.0 at.1)

injects : (m : NatMap (List ℕ)) → Injects m
injects m = by_insertions Injects injects_none injects_more m

-- where a sliced block's payload starts, its region stands before it
record IsOfRegion (share : Share) (address : ℕ) : Type 0 where
  region : Region
  behind : sliced_header ≤ address
  there : get share.heap (address - sliced_header) ≡ Some region
  tag : get share.tags (address - sliced_header) ≡ Some sliced_tag

-- a test that lets something through
tag_passes : (tag : Option ℕ) (o : Option Region) (r : Region) → cond (is_sliced_tag tag) o None ≡ Some r → (o ≡ Some r) × (tag ≡ Some sliced_tag)
tag_passes None o r h = absurd (none-some r h)
tag_passes (Some k) o r h = grind (arith, nat_tests, cases_eq, none-some)

of_region : (share : Share) (address : ℕ) (x : List ℕ) → get (sliced_of share) address ≡ Some x → IsOfRegion share address
unfolding sliced_of
of_region share address x h = elim (cases_lt address sliced_header) [
  | inl low ↦ absurd (none-some x (sym (get-moved_up_below sliced_header _ address low) ∙ h))
  | inr high ↦
      let at : address ≡ (address - sliced_header) + sliced_header = omega arith in
      let from = and_then_from (payload_of share.part.spaces) (get (block_regions share) (address - sliced_header)) x
      (sym (get-moved_up sliced_header _ (address - sliced_header) ∙ get-picked (payload_of share.part.spaces) (block_regions share) (address - sliced_header)) ∙ ap (get (sliced_of share)) (sym at) ∙ h) in
      let passes = tag_passes (get share.tags (address - sliced_header)) (get share.heap (address - sliced_header)) from.0 (sym (get-sliced_regions share.heap share.tags (address - sliced_header)) ∙ from.1) in
      record { region = from.0; behind = high; there = passes.0; tag = passes.1 }
]

-- an account that has nothing but sliced blocks has regions of those alone
alone_sliced : (share : Share) → IsShare share → HasBlocksAlone share → (start k : ℕ) (region : Region) → get share.heap start ≡ Some region → get share.tags start ≡ Some k → k ≡ sliced_tag
unfolding Injects
alone_sliced share is alone start k region there tag = elim (cases_eq k sliced_tag) [
  | inl same ↦ same
  | inr other ↦
      let of : ℕ → ℕ = λ address. unwrap_or (option_map (λ (r : Region). r.of) (get share.heap (address - sliced_header))) 0 in
      let of_is : (address : ℕ) (r : Region) → get share.heap (address - sliced_header) ≡ Some r → of address ≡ r.of = λ address r h. ap (λ (o : Option Region). unwrap_or (option_map (λ (q : Region). q.of) o) 0) h in
      let at = value_at share.part.spaces region.of (is.paid start region there) in
      let fewer = injects (sliced_of share) (remove share.part.spaces region.of) of
      (λ a x h.
      let r = of_region share a x h in
      let apart : r.region.of ≢ region.of = λ e. let same = is.once (a - sliced_header) start r.region region r.there there e in other (same_Some k sliced_tag (sym tag ∙ ap (get share.tags) (sym same) ∙ r.tag)) in
      ap (λ n. is_some (get (remove share.part.spaces region.of) n)) (of_is a r.region r.there) ∙ ap is_some (get-remove_other share.part.spaces region.of r.region.of apart) ∙ is.paid (a - sliced_header) r.region r.there)
      (λ a b x y one two e.
      let r = of_region share a x one in
      let q = of_region share b y two in
      let same = is.once (a - sliced_header) (b - sliced_header) r.region q.region r.there q.there (sym (of_is a r.region r.there) ∙ e ∙ of_is b q.region q.there) in
      omega (arith, same, r.behind, q.behind)) in
      absurd (omega (arith, fewer, alone, len-remove_at share.part.spaces region.of at.0 at.1))
]

-- so it has no chunk
pub alone_no_blocks : (share : Share) → IsShare share → HasBlocksAlone share → HasNoBlocks share
alone_no_blocks share is alone start k region there tag = omega (arith, alone_sliced share is alone start k region there tag)

-- and nothing is lent
pub alone_not_lent : (share : Share) → IsShare share → HasBlocksAlone share → lent_regions share ≡ empty
alone_not_lent share is alone = same _ _ (λ s. none_if _ (not_there s) ∙ sym (get-empty s)) where
  not_there : (s : ℕ) (r : Region) → get (lent_regions share) s ≡ Some r → ⊥
  not_there s r e = let at = in_numbered is_lent_tag share.heap share.tags s r e in omega (arith, alone_sliced share is alone s of_no_heap r at.1 (lent_number _ at.0))

pub new_keeps : (heap : Heap) → ((share : Share) → HasNoBlocks share → IsLaid heap share) → ((share : Share) → HasNoBlocks share → heap_in heap share ≡ no_heap) → (share : Share) → HasBlocksAlone share → KeepsNodes heap share
new_keeps heap laid value share alone is =
    let none = alone_no_blocks share is alone in record {
      laid = laid share none;
      no_large = ap (λ (h : OwnHeap). h.large) (value share none);
      all = omega (arith, alone, ap (λ (h : OwnHeap). length h.shape.chunks) (value share none), ap len (alone_not_lent share is alone) ∙ len-empty nat_cmp Region);
    }

-- its shape is that of no chunks, whatever share is looked at
pub new_shape : (heap : Heap) → ((share : Share) → HasNoBlocks share → heap_in heap share ≡ no_heap) → (share : Share) → (heap_in heap share).shape ≡ no_heap.shape
unfolding heap_in
new_shape heap value share =
    let bare : Share = record share { heap = empty; tags = empty } in
    ap (λ (h : OwnHeap). h.shape) (value bare (λ start k region there tag. absurd (none-some region (sym (get-empty start) ∙ there))))
