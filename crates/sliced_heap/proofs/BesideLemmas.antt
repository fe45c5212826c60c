-- The heap and the sliced heap of one account on one map: what each leaves of the other.
use Rattle.std.proofs.Common.{◌≡◌, ℕ, ◌≤◌, true, false, cond, eqb-true, ◌==◌, List, Some, is_some, IsSome, refl, sym, ap, ◌∙◌, true≢false, inl, inr}
use Rattle.std.proofs.lemmas.Bool.{cases_eq}
use Rattle.std.proofs.lemmas.Option.{none-some}
use Rattle.std.specs.Prelude.{◌⊎◌, Option, None}
use Rattle.std.specs.Option.{option_map, option_and_then, option_or}
use Rattle.std.specs.FinMap.{get, insert, remove}
use Rattle.own_model.specs.HeapWindow.{heap_low, heap_high, heap_gap, largest_machine}
use Rattle.own_model.specs.NatMap.{NatMap, joined}
use Rattle.own_model.specs.Region.{Region, IsPlace}
use Rattle.own_model.specs.Sound.{LieApart}
use Rattle.own_model.proofs.NatMapJoinedLemmas.{get-joined}
use Rattle.own_model.proofs.NatMapLemmas.{same, get-picked, get-insert_same, get-insert_other, get-remove_same, get-remove_other, before_remove}
use Rattle.own_model.proofs.RegionApartLemmas.{LieApart-insert, LieApart-fewer}
use Rattle.own_model.proofs.HeapGapLemmas.{first_gap_stands}
use Rattle.own_model.proofs.RegionLemmas.{AreAlike, place, free_place}
use Rattle.region_map.specs.Regions.{Regions}
use Rattle.dataspace_core.specs.Store.{Store, Part}
use Rattle.dataspace_core.specs.Share.{Share, share_in, shown, tags_of}
use Rattle.dataspace_core.proofs.ShareLaws.{get-tags_of}
use Rattle.sliced_heap.specs.Window.{MapsMemory, IsMapOf, sliced_tag, is_sliced_tag, block_regions, low_region, block_region}
use Rattle.sliced_heap.proofs.ShareLemmas.{get-sliced_regions}

-- ---- a map

-- a map of a memory whose regions lie apart in its window is one that a heap works on
pub map_of : {store : Store} {regions : Regions} → MapsMemory store regions → regions.pages ≤ largest_machine → LieApart heap_low (heap_high regions.pages) regions.heap → IsMapOf store regions
map_of maps few lie = record { size = maps.pages; few = few; lie = lie; most_is = maps.most; shown_whole = maps.shown; once = maps.once }

-- and one that a heap works on is a map of the memory
pub maps_memory : {store : Store} {regions : Regions} → IsMapOf store regions → MapsMemory store regions
maps_memory map = record { pages = map.size; most = map.most_is; shown = map.shown_whole; once = map.once }

-- ---- a share that shows the whole map

-- what shows each region that may be there shows it as it is
shown_all : (spaces : NatMap (List ℕ)) (o : Option Region) → ((r : Region) → o ≡ Some r → IsSome (get spaces r.of)) → option_and_then (shown spaces) o ≡ o
shown_all spaces None held = refl
shown_all spaces (Some r) held = ap (λ b. cond b (Some r) None) (held r refl)

-- where an account has the dataspace of each heap region, its share has all of them
pub whole_share : (p : Part) (heap : NatMap Region) (tags : NatMap ℕ) → ((s : ℕ) (r : Region) → get heap s ≡ Some r → IsSome (get p.spaces r.of)) → (share_in p heap tags).heap ≡ heap
unfolding share_in
whole_share p heap tags held = same _ _ (λ s. get-picked (shown p.spaces) heap s ∙ shown_all p.spaces (get heap s) (held s))

-- and the numbers that are kept with them
pub whole_tags : (p : Part) (heap : NatMap Region) (tags : NatMap ℕ) → ((s : ℕ) (r : Region) → get heap s ≡ Some r → IsSome (get p.spaces r.of)) → (share_in p heap tags).tags ≡ tags_of heap tags
unfolding share_in
whole_tags p heap tags held = ap (λ m. tags_of m tags) (whole_share p heap tags held)

-- ---- chunks and large blocks

-- chunks and large blocks of shares with equal regions and numbers stand where they stood
pub stands_alike : (share share' : Share) → share'.heap ≡ share.heap → share'.tags ≡ share.tags → (s : ℕ) → block_region share' s ≡ block_region share s
stands_alike share share' heap tags s = λ i. low_region (get (tags i) s) (get (heap i) s)

-- a sliced block's number is none of theirs
pub no_number : (tag : Option ℕ) (o : Option Region) (r : Region) → cond (is_sliced_tag tag) o None ≡ Some r → low_region tag o ≡ None
no_number None o r h = refl
no_number (Some k) o r h = elim (k == sliced_tag) as (λ b. (k == sliced_tag) ≡ b → cond b o None ≡ Some r → low_region (Some k) o ≡ None) [
  | true ↦ λ e _. ap (λ n. low_region (Some n) o) (eqb-true k sliced_tag e)
  | false ↦ λ e none. absurd (none-some r none)
] refl h

-- so no chunk and no large block stands where a sliced block does
pub sliced_no_block : (share : Share) (s : ℕ) (r : Region) → get (block_regions share) s ≡ Some r → block_region share s ≡ None
sliced_no_block share s r h = no_number (get share.tags s) (get share.heap s) r (sym (get-sliced_regions share.heap share.tags s) ∙ h)

-- ---- a sliced block more or less

-- the chunk or large block that a map of regions with their numbers has at a place
abbrev pub standing : NatMap Region → NatMap ℕ → ℕ → Option (Region × ℕ)
standing heap tags s = low_region (get (tags_of heap tags) s) (get heap s)

-- a share that shows the whole map has them all
pub whole_standing : (p : Part) (heap : NatMap Region) (tags : NatMap ℕ) → ((s : ℕ) (r : Region) → get heap s ≡ Some r → IsSome (get p.spaces r.of)) → (s : ℕ) →
    block_region (share_in p heap tags) s ≡ standing heap tags s
whole_standing p heap tags held s = λ i. low_region (get (whole_tags p heap tags held i) s) (get (whole_share p heap tags held i) s)

-- where no region is, none stands
pub none_standing : (heap : NatMap Region) (tags : NatMap ℕ) (s : ℕ) → get heap s ≡ None → standing heap tags s ≡ None
none_standing heap tags s free = ap (λ o. low_region o (get heap s)) (get-tags_of heap tags s ∙ ap (λ o. cond (is_some o) (get tags s) None) free)

-- nor does one where a region keeps a sliced block's number
pub sliced_standing : (heap : NatMap Region) (tags : NatMap ℕ) (s : ℕ) (r : Region) → get heap s ≡ Some r → get tags s ≡ Some sliced_tag → standing heap tags s ≡ None
sliced_standing heap tags s r there tag = ap (λ o. low_region o (get heap s)) (get-tags_of heap tags s ∙ ap (λ o. cond (is_some o) (get tags s) None) there ∙ tag)

-- what stands elsewhere depends on what is there alone
pub elsewhere_standing : (heap heap' : NatMap Region) (tags tags' : NatMap ℕ) (s : ℕ) → get heap' s ≡ get heap s → get tags' s ≡ get tags s → standing heap' tags' s ≡ standing heap tags s
elsewhere_standing heap heap' tags tags' s there tag =
    ap (λ o. low_region o (get heap' s)) (get-tags_of heap' tags' s)
    ∙ (λ i. low_region (cond (is_some (there i)) (tag i) None) (there i))
    ∙ sym (ap (λ o. low_region o (get heap s)) (get-tags_of heap tags s))

module _ (heap : NatMap Region) (tags : NatMap ℕ) (start : ℕ) (region : Region) where
  -- a sliced block more leaves what stands
  pub stands_beside_more : get heap start ≡ None → (s : ℕ) → standing (insert heap start region) (insert tags start sliced_tag) s ≡ standing heap tags s
  stands_beside_more free s = elim (cases_eq s start) [
    | inl at ↦
        sliced_standing _ _ s region (get-insert_same heap start region s at) (get-insert_same tags start sliced_tag s at)
        ∙ sym (none_standing heap tags s (ap (get heap) at ∙ free))
    | inr apart ↦ elsewhere_standing heap (insert heap start region) tags (insert tags start sliced_tag) s (get-insert_other heap start region s apart) (get-insert_other tags start sliced_tag s apart)
  ]

  -- and so does one less
  pub stands_beside_less : get heap start ≡ Some region → get tags start ≡ Some sliced_tag → (s : ℕ) → standing (remove heap start) (remove tags start) s ≡ standing heap tags s
  stands_beside_less there tag s = elim (cases_eq s start) [
    | inl at ↦
        none_standing _ _ s (get-remove_same heap start s at)
        ∙ sym (sliced_standing heap tags s region (ap (get heap) at ∙ there) (ap (get tags) at ∙ tag))
    | inr apart ↦ elsewhere_standing heap (remove heap start) tags (remove tags start) s (get-remove_other heap start s apart) (get-remove_other tags start s apart)
  ]

-- ---- the gaps

-- what is one of two is either, and has as many pages
either_pages : (o : Option Region) (p : Option (Region × ℕ)) (q : Option Region) → ((r : Region) → o ≡ Some r → q ≡ Some r) → ((e : Region × ℕ) → p ≡ Some e → q ≡ Some e.0) →
    ((r : Region) → q ≡ Some r → (o ≡ Some r) ⊎ IsSome p) →
    option_map (λ (r : Region). r.pages) (option_or (option_map (λ (r : Region). record { of = 0; pages = r.pages }) o) (option_map (λ (e : Region × ℕ). record { of = 0; pages = e.0.pages }) p))
    ≡ option_map (λ (r : Region). r.pages) q
either_pages (Some r) p q first second all = ap (option_map (λ (x : Region). x.pages)) (sym (first r refl))
either_pages None (Some e) q first second all = ap (option_map (λ (x : Region). x.pages)) (sym (second e refl))
either_pages None None None first second all = refl
either_pages None None (Some r) first second all = elim (all r refl) [
  | inl h ↦ absurd (none-some r h)
  | inr h ↦ absurd (true≢false (sym h))
]

module _ (blocks : NatMap Region) (share : Share) (heap ranges others : NatMap Region)
    (first : (s : ℕ) → get ranges s ≡ option_map (λ (r : Region). record { of = 0; pages = r.pages }) (get blocks s))
    (second : (s : ℕ) → get others s ≡ option_map (λ (e : Region × ℕ). record { of = 0; pages = e.0.pages }) (block_region share s)) where
  -- where sliced blocks, chunks and large blocks are all that a map has, their ranges have its starts and pages
  pub ranges_alike : ((s : ℕ) (r : Region) → get blocks s ≡ Some r → get heap s ≡ Some r) → ((s : ℕ) (e : Region × ℕ) → block_region share s ≡ Some e → get heap s ≡ Some e.0) →
      ((s : ℕ) (r : Region) → get heap s ≡ Some r → (get blocks s ≡ Some r) ⊎ IsSome (block_region share s)) → AreAlike (joined ranges others) heap
  ranges_alike sliced blocked all = record {
    pages = λ s.
        ap (option_map (λ (r : Region). r.pages)) (get-joined ranges others s ∙ (λ i. option_or (first s i) (second s i)))
        ∙ either_pages (get blocks s) (block_region share s) (get heap s) (sliced s) (blocked s) (all s);
  }

-- ---- a region more or less in the window

-- a first gap is a place
pub gap_is_place : (machine : ℕ) (heap : NatMap Region) (pages start : ℕ) → heap_gap machine heap pages ≡ Some start → IsPlace heap_low (heap_high machine) heap pages start
gap_is_place machine heap pages start gap = place heap_low (heap_high machine) heap pages start (first_gap_stands heap_low (heap_high machine) heap pages start gap)

-- nothing starts there
pub gap_is_free : (machine : ℕ) (heap : NatMap Region) (pages start : ℕ) → 1 ≤ pages → LieApart heap_low (heap_high machine) heap → heap_gap machine heap pages ≡ Some start → get heap start ≡ None
gap_is_free machine heap pages start some lie gap = free_place heap_low (heap_high machine) heap pages start some lie.some (gap_is_place machine heap pages start gap)

-- regions lie apart with one more there
pub lie_with : (machine : ℕ) (heap : NatMap Region) (ds pages start : ℕ) → 1 ≤ pages → LieApart heap_low (heap_high machine) heap → heap_gap machine heap pages ≡ Some start →
    LieApart heap_low (heap_high machine) (insert heap start (record { of = ds; pages = pages }))
lie_with machine heap ds pages start some lie gap = LieApart-insert heap_low (heap_high machine) heap start (record { of = ds; pages = pages }) some (gap_is_place machine heap pages start gap) lie

-- and with one less
pub lie_without : (machine : ℕ) (heap : NatMap Region) (start : ℕ) → LieApart heap_low (heap_high machine) heap → LieApart heap_low (heap_high machine) (remove heap start)
lie_without machine heap start lie = LieApart-fewer heap_low (heap_high machine) heap (remove heap start) (λ s r h. before_remove heap start s r h) lie
