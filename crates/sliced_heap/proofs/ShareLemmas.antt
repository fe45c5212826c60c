-- What a share shows of a map: its regions, the numbers kept with them, and whose blocks they are.
use Rattle.std.proofs.Common.{◌≡◌, ℕ, ◌≤◌, ◌==◌, Bool, true, false, cond, eqb-true, List, Some, IsSome, is_some, refl, sym, ap, ◌∙◌, true≢false, arith}
use Rattle.std.proofs.lemmas.Bool.Decides.{nat_tests}
use Rattle.std.proofs.lemmas.Option.{none-some, same_Some}
use Rattle.std.specs.Prelude.{Option, None, nat_le}
use Rattle.std.specs.Option.{option_map, option_and_then}
use Rattle.std.specs.FinMap.{get, insert, remove, get-retain_keys, nat_cmp-IsAntisymmetric}
use Rattle.own_model.specs.NatMap.{NatMap}
use Rattle.own_model.specs.Region.{Region}
use Rattle.own_model.proofs.NatMapLemmas.{same, natmaps, get-picked, and_then_from, some_of}
use Rattle.region_map.specs.Regions.{Regions}
use Rattle.dataspace_core.specs.Store.{Store, part}
use Rattle.dataspace_core.specs.Share.{Share, share_in, shown}
use Rattle.dataspace_core.proofs.ShareLaws.{get-tags_of, under_test, in_share}
use Rattle.sliced_heap.specs.Window.{share_at, numbered, sliced_tag, is_sliced_tag, sliced_regions, block_regions, large_tag, is_large_tag, large_regions, low_region, block_region}

-- ---- the regions of a share

-- the number that a share keeps with a region is the map's
pub kept_tag : (account : ℕ) (store : Store) (regions : Regions) (start : ℕ) (r : Region) → get (share_at account store regions).heap start ≡ Some r → get regions.tags start ≡ get (share_at account store regions).tags start
unfolding share_in
kept_tag account store regions start r there = sym (get-tags_of _ regions.tags start ∙ ap (λ b. cond b (get regions.tags start) None) (ap is_some there))

-- ---- the regions whose numbers pass a test

pub get-numbered : (passes : Option ℕ → Bool) (heap : NatMap Region) (tags : NatMap ℕ) (q : ℕ) → get (numbered passes heap tags) q ≡ cond (passes (get tags q)) (get heap q) None
get-numbered passes heap tags q = get-retain_keys heap (λ start. passes (get tags start)) q (λ x e. ap (λ k. passes (get tags k)) (sym (nat_cmp-IsAntisymmetric q x e)))

module _ (passes : Option ℕ → Bool) (heap : NatMap Region) (tags : NatMap ℕ) where
  -- such a region is there, and its number passes
  pub in_numbered : (s : ℕ) (r : Region) → get (numbered passes heap tags) s ≡ Some r → (passes (get tags s) ≡ true) × (get heap s ≡ Some r)
  in_numbered s r h = under_test _ _ r (sym (get-numbered passes heap tags s) ∙ h)

  -- there is none where no region is
  pub numbered_free : (s : ℕ) → get heap s ≡ None → get (numbered passes heap tags) s ≡ None
  numbered_free s free = get-numbered passes heap tags s ∙ grind (arith, natmaps)

  module _ (s : ℕ) where
    -- with a region more whose number passes
    pub numbered-insert : (tag : ℕ) (r : Region) → passes (Some tag) ≡ true → numbered passes (insert heap s r) (insert tags s tag) ≡ insert (numbered passes heap tags) s r
    numbered-insert tag r pass = same _ _ (λ q. get-numbered passes (insert heap s r) (insert tags s tag) q ∙ grind (arith, natmaps, get-numbered passes heap tags q))

    -- with one more whose number doesn't
    pub numbered-insert_other : (tag : ℕ) (r : Region) → passes (Some tag) ≡ false → get heap s ≡ None → numbered passes (insert heap s r) (insert tags s tag) ≡ numbered passes heap tags
    numbered-insert_other tag r pass free = same _ _ (λ q. get-numbered passes (insert heap s r) (insert tags s tag) q ∙ grind (arith, natmaps, get-numbered passes heap tags q))

    -- with one less
    pub numbered-remove : numbered passes (remove heap s) (remove tags s) ≡ remove (numbered passes heap tags) s
    numbered-remove = same _ _ (λ q. get-numbered passes (remove heap s) (remove tags s) q ∙ grind (arith, natmaps, get-numbered passes heap tags q))

-- ---- sliced blocks

-- the one number that passes
pub sliced_number : (o : Option ℕ) → is_sliced_tag o ≡ true → o ≡ Some sliced_tag
sliced_number None h = absurd (true≢false (sym h))
sliced_number (Some n) h = ap Some (eqb-true n sliced_tag h)

pub get-sliced_regions : (heap : NatMap Region) (tags : NatMap ℕ) (q : ℕ) → get (sliced_regions heap tags) q ≡ cond (is_sliced_tag (get tags q)) (get heap q) None
get-sliced_regions heap tags q = get-numbered is_sliced_tag heap tags q

module _ (account : ℕ) (store : Store) (regions : Regions) (start : ℕ) (r : Region) where
  -- a region of the map is in the share of who pays for its dataspace
  pub share_has : get regions.heap start ≡ Some r → IsSome (get (part account store).spaces r.of) → get (share_at account store regions).heap start ≡ Some r
  unfolding share_in
  share_has there paid =
      get-picked (shown (part account store).spaces) regions.heap start ∙ ap (option_and_then (shown (part account store).spaces)) there ∙ ap (λ b. cond b (Some r) None) paid

  -- with the number of a sliced block it is one
  pub is_block : (bytes : List ℕ) → get regions.heap start ≡ Some r → get regions.tags start ≡ Some sliced_tag → get (part account store).spaces r.of ≡ Some bytes → get (block_regions (share_at account store regions)) start ≡ Some r
  is_block bytes there tag has =
      let shared = share_has there (ap is_some has) in
      get-sliced_regions _ _ start ∙ ap (λ o. cond (is_sliced_tag o) (get (share_at account store regions).heap start) None) (sym (kept_tag account store regions start r shared) ∙ tag) ∙ shared

  -- a block of either kind is a region of the map with its number, of a dataspace of the account
  pub record IsShownAs (number : ℕ) : Type 0 where
    pub shared : get (share_at account store regions).heap start ≡ Some r
    pub there : get regions.heap start ≡ Some r
    pub tag : get regions.tags start ≡ Some number
    pub paid : IsSome (get (part account store).spaces r.of)

  shown_as : (number : ℕ) → get (share_at account store regions).tags start ≡ Some number → get (share_at account store regions).heap start ≡ Some r → IsShownAs number
  shown_as number tag shared =
      let map = in_share (part account store) regions.heap regions.tags start r shared in
      record { shared = shared; there = map.0; tag = kept_tag account store regions start r shared ∙ tag; paid = map.1 }

  pub shown_block : get (block_regions (share_at account store regions)) start ≡ Some r → IsShownAs sliced_tag
  shown_block h = let is = in_numbered is_sliced_tag _ _ start r h in shown_as sliced_tag (sliced_number _ is.0) is.1

-- ---- large blocks

large_number : (o : Option ℕ) → is_large_tag o ≡ true → o ≡ Some large_tag
large_number None h = absurd (true≢false (sym h))
large_number (Some n) h = ap Some (eqb-true n large_tag h)

pub get-large : (share : Share) (q : ℕ) → get (large_regions share) q ≡ cond (is_large_tag (get share.tags q)) (get share.heap q) None
get-large share q = get-numbered is_large_tag share.heap share.tags q

module _ (share : Share) (s : ℕ) (r : Region) (large : get (large_regions share) s ≡ Some r) where
  -- it is a region of the share, with its number
  pub large_there : get share.heap s ≡ Some r
  large_there = (in_numbered is_large_tag share.heap share.tags s r large).1

  pub large_kept : get share.tags s ≡ Some large_tag
  large_kept = large_number _ (in_numbered is_large_tag share.heap share.tags s r large).0

pub shown_large : (account : ℕ) (store : Store) (regions : Regions) (start : ℕ) (r : Region) → get (large_regions (share_at account store regions)) start ≡ Some r → IsShownAs account store regions start r large_tag
shown_large account store regions start r large = let share = share_at account store regions in shown_as account store regions start r large_tag (large_kept share start r large) (large_there share start r large)

-- ---- chunks and large blocks

-- what is paired was there
from_pair : (n : ℕ) (o : Option Region) (e : Region × ℕ) → option_map (λ region. (region, n)) o ≡ Some e → (o ≡ Some e.0) × (n ≡ e.1)
from_pair n None e h = absurd (none-some e h)
from_pair n (Some r) e h = let same : (r, n) ≡ e = same_Some (r, n) e h in (ap (λ (x : Region × ℕ). Some x.0) same, ap (λ (x : Region × ℕ). x.1) same)

-- a region with its number
told_low : (o : Option Region) (tag : Option ℕ) (e : Region × ℕ) → low_region tag o ≡ Some e → (o ≡ Some e.0) × (tag ≡ Some e.1) × (e.1 ≤ large_tag)
told_low o tag e h =
    let from = and_then_from _ tag e h in
    let low = under_test (nat_le from.0 large_tag) _ e from.2 in
    let is = from_pair from.0 o e low.1 in
    (is.0, from.1 ∙ ap Some is.1, let few : from.0 ≤ large_tag = let t = low.0 in grind (arith, nat_tests) in omega (arith, few, is.1))

pub low_tag : (o : Option Region) (tag : Option ℕ) → IsSome (low_region tag o) → IsSome o × ((k : ℕ) × (tag ≡ Some k) × (k ≤ large_tag))
low_tag o tag some = let e = some_of (low_region tag o) some in let told = told_low o tag e.0 e.1 in (ap is_some told.0, (e.0.1, told.1, told.2))

-- is one of the share
pub record IsBlockRegion (share : Share) (s k : ℕ) (r : Region) : Type 0 where
  pub there : get share.heap s ≡ Some r
  pub tag : get share.tags s ≡ Some k
  pub few : k ≤ large_tag

pub told_region : (share : Share) (s k : ℕ) (r : Region) → block_region share s ≡ Some (r, k) → IsBlockRegion share s k r
told_region share s k r h = let told = told_low (get share.heap s) (get share.tags s) (r, k) h in record { there = told.0; tag = told.1; few = told.2 }

pub region_of_block : (share : Share) (s : ℕ) (e : Region × ℕ) → block_region share s ≡ Some e → (get share.heap s ≡ Some e.0) × (get share.tags s ≡ Some e.1)
region_of_block share s e h = let told = told_region share s e.1 e.0 h in (told.there, told.tag)

-- and one of the share with such a number is one
pub block_here : (share : Share) (s k : ℕ) (r : Region) → get share.heap s ≡ Some r → get share.tags s ≡ Some k → k ≤ large_tag → block_region share s ≡ Some (r, k)
block_here share s k r there tag few = let t : nat_le k large_tag ≡ true = grind (arith, nat_tests) in rw (tag, t, there) refl

-- the large blocks among them
abbrev pub large_among : Option (Region × ℕ) → Option Region
large_among None = None
large_among (Some e) = cond (e.1 == large_tag) (Some e.0) None

large_test : (o : Option ℕ) (p : Option Region) → cond (is_large_tag o) p None ≡ large_among (low_region o p)
large_test None p = refl
large_test (Some n) None = grind (arith, nat_tests)
large_test (Some n) (Some r) = grind (arith, nat_tests)

pub large_block : (share : Share) (s : ℕ) → get (large_regions share) s ≡ large_among (block_region share s)
large_block share s = get-large share s ∙ large_test (get share.tags s) (get share.heap s)

pub large_region : (share : Share) (s : ℕ) (r : Region) → get (large_regions share) s ≡ Some r → block_region share s ≡ Some (r, large_tag)
large_region share s r h = block_here share s large_tag r (large_there share s r h) (large_kept share s r h) (omega arith)
