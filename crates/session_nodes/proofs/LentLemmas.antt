-- What is neither heap's stays while the map's regions of no heap do.
use Rattle.std.proofs.Common.{rules, ◌≡◌, ℕ, ◌==◌, Bool, true, false, cond, true≢false, List, Some, is_some, refl, sym, ap, ◌∙◌, arith}
use Rattle.std.proofs.lemmas.Bool.{false_from_ne_true}
use Rattle.std.proofs.lemmas.Bool.Decides.{nat_tests}
use Rattle.std.specs.Prelude.{Option, None}
use Rattle.std.specs.Option.{option_and_then}
use Rattle.std.specs.FinMap.{get, remove}
use Rattle.own_model.specs.NatMap.{NatMap}
use Rattle.own_model.specs.Region.{Region}
use Rattle.own_model.proofs.NatMapLemmas.{same, natmaps, get-picked}
use Rattle.region_map.specs.Regions.{Regions, of_no_heap, heap_attached, heap_detached}
use Rattle.dataspace_core.specs.Share.{share_in, shown}
use Rattle.dataspace_core.specs.Store.{Store, part}
use Rattle.dataspace_core.proofs.ShareLaws.{get-tags_of, each_shown, in_share}
use Rattle.heap_core.specs.Calls.{KeepsElsewhere}
use Rattle.sliced_heap.specs.Window.{share_at, numbered}
use Rattle.sliced_heap.proofs.ShareLemmas.{IsShownAs, get-numbered, in_numbered, kept_tag, numbered-insert_other}
use Rattle.session_nodes.specs.SoundHeaps.{is_lent_tag, lent_regions, KeepsLent}
use Rattle.session_nodes.specs.SeparateBuffer.{lent_number}

-- the regions of no heap in a map
abbrev pub lent_in : Regions → NatMap Region
lent_in regions = numbered is_lent_tag regions.heap regions.tags

-- ---- those of an account

-- a test within a test of the same
within_test : (o : Option Region) (tag : Option ℕ) → cond (is_lent_tag (cond (is_some o) tag None)) o None ≡ cond (is_lent_tag tag) o None
within_test None None = refl
within_test None (Some n) = grind (arith, nat_tests)
within_test (Some r) tag = refl

-- what is shown under a test is what is under it and shown
shown_under : (spaces : NatMap (List ℕ)) (b : Bool) (o : Option Region) → cond b (option_and_then (shown spaces) o) None ≡ option_and_then (shown spaces) (cond b o None)
shown_under spaces true o = refl
shown_under spaces false o = refl

-- the region of no heap that an account shows at an address
pub lent_is : (account : ℕ) (store : Store) (regions : Regions) (s : ℕ) → get (lent_regions (share_at account store regions)) s ≡ option_and_then (shown (part account store).spaces) (get (lent_in regions) s)
unfolding share_in
lent_is account store regions s =
    let p = (part account store).spaces in
    get-numbered is_lent_tag _ _ s
    ∙ ap (λ t. cond (is_lent_tag t) (get (share_at account store regions).heap s) None) (get-tags_of _ regions.tags s)
    ∙ within_test (get (share_at account store regions).heap s) (get regions.tags s)
    ∙ ap (λ o. cond (is_lent_tag (get regions.tags s)) o None) (get-picked (shown p) regions.heap s)
    ∙ shown_under p (is_lent_tag (get regions.tags s)) (get regions.heap s)
    ∙ ap (option_and_then (shown p)) (sym (get-numbered is_lent_tag regions.heap regions.tags s))

-- it is a region of the map with its number, of a dataspace of the account
pub shown_lent : (account : ℕ) (store : Store) (regions : Regions) (s : ℕ) (r : Region) → get (lent_regions (share_at account store regions)) s ≡ Some r → IsShownAs account store regions s r of_no_heap
shown_lent account store regions s r h =
    let share = share_at account store regions in
    let is = in_numbered is_lent_tag share.heap share.tags s r h in
    let map = in_share (part account store) regions.heap regions.tags s r is.1 in
    record { shared = is.1; there = map.0; tag = kept_tag account store regions s r is.1 ∙ lent_number _ is.0; paid = map.1 }

-- ---- what stays

-- on a map that has the same ones, while their dataspaces do
pub lent_places : (account : ℕ) (old new : Store) (regions after : Regions) → lent_in after ≡ lent_in regions →
    ((s : ℕ) (r : Region) → get regions.heap s ≡ Some r → get regions.tags s ≡ Some of_no_heap → is_some (get (part account new).spaces r.of) ≡ is_some (get (part account old).spaces r.of)) →
    lent_regions (share_at account new after) ≡ lent_regions (share_at account old regions)
lent_places account old new regions after map alike = same _ _ (λ s.
    lent_is account new after s
    ∙ ap (λ (m : NatMap Region). option_and_then (shown (part account new).spaces) (get m s)) map
    ∙ each_shown (part account old).spaces (part account new).spaces (get (lent_in regions) s)
    (λ r there. let is = in_numbered is_lent_tag regions.heap regions.tags s r there in alike s r is.1 (lent_number _ is.0))
    ∙ sym (lent_is account old regions s))

-- and with what they hold
pub lent_stays : (account : ℕ) (old new : Store) (regions after : Regions) → lent_in after ≡ lent_in regions →
    ((s : ℕ) (r : Region) → get regions.heap s ≡ Some r → get regions.tags s ≡ Some of_no_heap → get (part account new).spaces r.of ≡ get (part account old).spaces r.of) →
    KeepsLent account old new regions after
lent_stays account old new regions after map bytes = record {
  stands = lent_places account old new regions after map (λ s r there tag. ap is_some (bytes s r there tag));
  bytes = λ s r lent. let is = shown_lent account old regions s r lent in bytes s r is.there is.tag;
}

-- a region more that a heap has leaves them
pub lent_attached : (regions : Regions) (ds pages tag start : ℕ) → (tag == of_no_heap) ≡ false → get regions.heap start ≡ None → lent_in (heap_attached regions ds pages tag start) ≡ lent_in regions
lent_attached regions ds pages tag start other free = numbered-insert_other is_lent_tag regions.heap regions.tags start tag (record { of = ds; pages = pages }) other free

-- so does one less that a heap had
pub lent_detached : (regions : Regions) (start tag : ℕ) → get regions.tags start ≡ Some tag → (tag == of_no_heap) ≡ false → lent_in (heap_detached regions start) ≡ lent_in regions
lent_detached regions start tag kept other =
    same _ _ (λ s. get-numbered is_lent_tag (remove regions.heap start) (remove regions.tags start) s ∙ grind (arith, natmaps, get-numbered is_lent_tag regions.heap regions.tags s))

-- and so does what leaves all regions but those of a heap
pub lent_elsewhere : (regions after : Regions) → KeepsElsewhere regions after → lent_in after ≡ lent_in regions
lent_elsewhere regions after kept = same _ _ (λ s. get-numbered is_lent_tag after.heap after.tags s ∙ still s _ refl ∙ sym (get-numbered is_lent_tag regions.heap regions.tags s)) where
  not_lent : (s : ℕ) → is_lent_tag (get regions.tags s) ≡ false → is_lent_tag (get after.tags s) ≡ false
  not_lent s other = search (rules, false_from_ne_true, true≢false, lent_number)

  still : (s : ℕ) (b : Bool) → is_lent_tag (get regions.tags s) ≡ b → cond (is_lent_tag (get after.tags s)) (get after.heap s) None ≡ cond (is_lent_tag (get regions.tags s)) (get regions.heap s) None
  still s true is = let stays = kept.stays s of_no_heap (lent_number _ is) (omega arith) in λ i. cond (is_lent_tag (stays.1 i)) (stays.0 i) None
  still s false other = grind (arith, nat_tests, not_lent)
