-- What a heap window shows of an account's blocks, of either heap, when regions come and go.
use Rattle.std.proofs.Common.{◌≡◌, ◌≢◌, ◌⊎◌, ℕ, ◌+◌, ◌≤◌, ◌==◌, false, cond, List, length, Some, is_some, IsSome, refl, sym, ap, subst, ◌∙◌, arith, inl, inr}
use Rattle.std.proofs.lemmas.Bool.{cases_eq}
use Rattle.std.proofs.lemmas.Bool.Decides.{nat_tests}
use Rattle.std.proofs.lemmas.Option.{same_Some}
use Rattle.std.specs.Prelude.{Option, None}
use Rattle.std.specs.Option.{option_and_then}
use Rattle.std.specs.FinMap.{get}
use Rattle.own_model.specs.NatMap.{NatMap}
use Rattle.own_model.specs.Region.{Region}
use Rattle.own_model.proofs.NatMapLemmas.{same, natmaps, get-picked, some_of}
use Rattle.region_map.specs.Regions.{Regions, heap_attached, heap_detached}
use Rattle.dataspace_core.specs.Store.{Store, Part, part, part_with_bytes, PartBecomes, OtherSpacesStay}
use Rattle.dataspace_core.specs.Share.{Share, share_in, shown}
use Rattle.dataspace_core.proofs.PokedLaws.{poked_length, poked_other}
use Rattle.dataspace_core.proofs.ShareLaws.{get-tags_of, each_shown, some_alike}
use Rattle.sliced_heap.specs.Window.{share_at, sliced_tag, is_sliced_tag, block_regions, large_tag, block_region}
use Rattle.sliced_heap.proofs.ShareLemmas.{get-sliced_regions, kept_tag, shown_block, share_has, low_tag, block_here}
use Rattle.dataspace_core.proofs.ShareLaws.{in_share}

-- ---- the sliced blocks of a map

-- where a number isn't a block's, or no region is, there is no block; else it is the region that the account shows
abbrev pub shown_block_at : NatMap (List ℕ) → Option ℕ → Option Region → Option Region
shown_block_at spaces tag region = cond (is_sliced_tag tag) (option_and_then (shown spaces) region) None

-- a test within a test of the same
within_test : (o : Option Region) (tag : Option ℕ) → cond (is_sliced_tag (cond (is_some o) tag None)) o None ≡ cond (is_sliced_tag tag) o None
within_test None None = refl
within_test None (Some n) = grind (arith, nat_tests)
within_test (Some r) tag = refl

-- the block that starts at an address
pub block_is : (account : ℕ) (store : Store) (regions : Regions) (s : ℕ) → get (block_regions (share_at account store regions)) s ≡ shown_block_at (part account store).spaces (get regions.tags s) (get regions.heap s)
unfolding share_in
block_is account store regions s =
    let p = (part account store).spaces in
    let here = get-picked (shown p) regions.heap s in
    get-sliced_regions _ _ s
    ∙ ap (λ t. cond (is_sliced_tag t) (get (share_at account store regions).heap s) None) (get-tags_of _ regions.tags s)
    ∙ within_test (get (share_at account store regions).heap s) (get regions.tags s)
    ∙ ap (λ o. cond (is_sliced_tag (get regions.tags s)) o None) here

-- ---- a write

-- an account's dataspaces are as many as before, and others than one stay
pub record IsPut (account ds : ℕ) (old new : Store) : Type 0 where
  pub alike : (k : ℕ) → is_some (get (part account new).spaces k) ≡ is_some (get (part account old).spaces k)
  pub others : OtherSpacesStay account ds old new

-- so they are where bytes were put over those of that one
pub is_put : (account ds offset : ℕ) (put bytes : List ℕ) {old new : Store} → get (part account old).spaces ds ≡ Some bytes → offset + length put ≤ length bytes →
    PartBecomes account (part_with_bytes (part account old) ds offset put) old new → IsPut account ds old new
is_put account ds offset put bytes {old} there fits becomes = record {
  alike = λ k. ap (λ (x : Part). is_some (get x.spaces k)) becomes.own ∙ some_alike _ _ (poked_length (part account old) ds offset put bytes there fits k);
  others = λ k apart. ap (λ (x : Part). get x.spaces k) becomes.own ∙ poked_other (part account old) ds offset put bytes there fits k apart;
}

-- ---- regions that come and go

-- two parts have the dataspace of each region of a map, or neither has
abbrev pub ShowAlike : Part → Part → NatMap Region → Type 0
ShowAlike p q heap = (s : ℕ) (r : Region) → get heap s ≡ Some r → is_some (get q.spaces r.of) ≡ is_some (get p.spaces r.of)

module _ (account : ℕ) (old new : Store) (regions : Regions) where
  -- blocks stay where each place has the block that it had
  blocks_alike : (after : Regions) → ((s : ℕ) → shown_block_at (part account new).spaces (get after.tags s) (get after.heap s) ≡ shown_block_at (part account old).spaces (get regions.tags s) (get regions.heap s)) →
      block_regions (share_at account new after) ≡ block_regions (share_at account old regions)
  blocks_alike after each = same _ _ (λ s. block_is account new after s ∙ each s ∙ sym (block_is account old regions s))

  still : (s : ℕ) → ((r : Region) → get regions.heap s ≡ Some r → is_some (get (part account new).spaces r.of) ≡ is_some (get (part account old).spaces r.of)) →
      shown_block_at (part account new).spaces (get regions.tags s) (get regions.heap s) ≡ shown_block_at (part account old).spaces (get regions.tags s) (get regions.heap s)
  still s alike = ap (λ o. cond (is_sliced_tag (get regions.tags s)) o None) (each_shown (part account old).spaces (part account new).spaces (get regions.heap s) alike)

  -- on a map that stays, the blocks stay while dataspaces do
  pub blocks_in_place : ShowAlike (part account old) (part account new) regions.heap → block_regions (share_at account new regions) ≡ block_regions (share_at account old regions)
  blocks_in_place alike = blocks_alike regions (λ s. still s (alike s))

  module _ (start : ℕ) where
    -- with a region more that no sliced block has, they stay
    pub blocks_attached : (ds pages tag : ℕ) → (tag == sliced_tag) ≡ false → get regions.heap start ≡ None → ShowAlike (part account old) (part account new) regions.heap →
        block_regions (share_at account new (heap_attached regions ds pages tag start)) ≡ block_regions (share_at account old regions)
    blocks_attached ds pages tag other free alike = blocks_alike (heap_attached regions ds pages tag start) (λ s. grind (arith, natmaps, still s (alike s)))

    -- so do they without a region that no sliced block has
    pub blocks_detached : (tag : ℕ) → get regions.tags start ≡ Some tag → (tag == sliced_tag) ≡ false →
        ((s : ℕ) (r : Region) → s ≢ start → get regions.heap s ≡ Some r → is_some (get (part account new).spaces r.of) ≡ is_some (get (part account old).spaces r.of)) →
        block_regions (share_at account new (heap_detached regions start)) ≡ block_regions (share_at account old regions)
    blocks_detached tag kept other alike = blocks_alike (heap_detached regions start) (λ s. grind (arith, natmaps, cases_eq s start, still s, alike s))

-- ---- which heap has a region

-- a heap region shows a dataspace of these, and keeps the number of a block of either heap
pub record IsTagged (spaces : NatMap (List ℕ)) (tags : NatMap ℕ) (start : ℕ) (region : Region) : Type 0 where
  pub paid : IsSome (get spaces region.of)
  pub tag : (get tags start ≡ Some sliced_tag) ⊎ ((k : ℕ) × (get tags start ≡ Some k) × (k ≤ large_tag))

-- a region that a share has is one of either heap's blocks
abbrev pub IsOfEither : Share → ℕ → Region → Type 0
IsOfEither share start region = (get (block_regions share) start ≡ Some region) ⊎ IsSome (block_region share start)

module _ (account : ℕ) (store : Store) (regions : Regions) (start : ℕ) (region : Region) (there : get regions.heap start ≡ Some region) where
  -- so a region with a number is of the heap that has this number
  pub of_either : IsTagged (part account store).spaces regions.tags start region → IsOfEither (share_at account store regions) start region
  of_either is =
      let here = share_has account store regions start region there is.paid in
      let tag = kept_tag account store regions start region here in
      elim is.tag [
        | inl sliced ↦ inl (block_is account store regions start
            ∙ ap (λ o. shown_block_at (part account store).spaces o (get regions.heap start)) sliced
            ∙ ap (option_and_then (shown (part account store).spaces)) there ∙ ap (λ b. cond b (Some region) None) is.paid)
        | inr low ↦ inr (ap is_some (block_here (share_at account store regions) start low.0 region here (sym tag ∙ low.1) low.2))
      ]

  -- and a region of either heap has such a number
  pub tagged : IsOfEither (share_at account store regions) start region → IsTagged (part account store).spaces regions.tags start region
  tagged either = elim either [
    | inl block ↦ let is = shown_block account store regions start region block in record { paid = is.paid; tag = inl is.tag }
    | inr some ↦
        let low = low_tag (get (share_at account store regions).heap start) (get (share_at account store regions).tags start) some in
        let its = some_of (get (share_at account store regions).heap start) low.0 in
        let has = in_share (part account store) regions.heap regions.tags start its.0 its.1 in
        let same : its.0 ≡ region = same_Some its.0 region (sym has.0 ∙ there) in record {
          paid = subst (λ (r : Region). IsSome (get (part account store).spaces r.of)) same has.1;
          tag = inr (low.1.0, kept_tag account store regions start its.0 its.1 ∙ low.1.1, low.1.2);
        }
  ]
