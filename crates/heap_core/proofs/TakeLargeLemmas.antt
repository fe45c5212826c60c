-- A large block is taken: a new dataspace is attached, and entered.
use Rattle.std.proofs.Common.{rules, ◌≡◌, ℕ, ◌+◌, ◌*◌, ◌/◌, ◌<◌, ◌≤◌, ◌++◌, false, [], ◌∷◌, length, sym, subst, ◌∙◌, true≢false, ◌⊎◌, arith, Some}
use Rattle.std.proofs.lemmas.Bool.{cases_lt}
use Rattle.std.proofs.lemmas.Bool.Decides.{nat_tests}
use Rattle.std.specs.Prelude.{None}
use Rattle.std.specs.FinMap.{get, insert}
use Rattle.arrayvec.specs.ArrayVec.{ArrayVec}
use Rattle.trade_base.specs.Page.{page_of}
use Rattle.own_model.specs.HeapWindow.{heap_low, heap_high, heap_gap, largest_machine, pages_of_all}
use Rattle.own_model.specs.OwnState.{zeros}
use Rattle.own_model.specs.Region.{Region, overlap, IsPlace}
use Rattle.own_model.proofs.ByteLemmas.{length-zeros}
use Rattle.own_model.proofs.RegionLemmas.{first_gap_least}
use Rattle.avl_alloc.specs.Layout as avl
use Rattle.region_map.specs.Regions.{Regions, heap_attached}
use Rattle.dataspace_core.specs.Store.{Store, part, PartBecomes, part_with_space, OtherSpacesStay}
use Rattle.dataspace_core.specs.Share.{Share, share_in}
use Rattle.dataspace_core.proofs.ShareLaws.{nothing_shown, in_share}
use Rattle.dataspace_core.proofs.WindowLaws.{share_then, shares_then, window_then, open_then, unshown, others_there, new_there, count_then, charge_then}
use Rattle.heap_core.specs.declared.heap.Heap.{Heap}
use Rattle.heap_core.specs.Heap.{payer_of, share_at, large_tag, large_regions, chunk_at, IsLaid, IsSound}
use Rattle.heap_core.specs.Calls.{TakesLarge, Keeps}
use Rattle.heap_core.proofs.LargeLemmas.{large_laid, large_value}
use Rattle.heap_core.proofs.RoomLemmas.{few_large}
use Rattle.sliced_heap.proofs.ShareLemmas.{large_there}

-- two ranges of pages that don't overlap
pub parted_ranges : (a p b q : ℕ) → overlap a p b q ≡ false → 1 ≤ q → (b < a) ⊎ (a + p * 4096 ≤ b)
parted_ranges a p b q h some = search (rules, true≢false, cases_lt)

-- a gap is a place
pub gap_place : (regions : Regions) (pages start : ℕ) → heap_gap regions.pages regions.heap pages ≡ Some start → IsPlace heap_low (heap_high regions.pages) regions.heap pages start
gap_place regions pages start gap = grind (arith, nat_tests, first_gap_least)

-- a place at which pages find a gap lies outside of a heap's chunks
pub outside_chunks : (heap : Heap) (store : Store) (regions : Regions) (pages start : ℕ) → IsLaid heap (share_at (payer_of heap) store regions) → heap_gap regions.pages regions.heap pages ≡ Some start → 1 ≤ pages →
    (k : ℕ) → k < length heap.chunks.items → (start < (chunk_at heap k).start) ⊎ ((chunk_at heap k).start + avl.bytes_of heap.fit k ≤ start)
outside_chunks heap store regions pages start laid gap some k there =
    let stands = laid.chunks k there in
    let was = (in_share (part (payer_of heap) store) regions.heap regions.tags (chunk_at heap k).start _ stands.region).0 in
    subst (λ n. (start < (chunk_at heap k).start) ⊎ ((chunk_at heap k).start + n ≤ start)) (sym stands.whole)
    (parted_ranges (chunk_at heap k).start stands.pages start pages ((gap_place regions pages start gap).free _ _ was) some)

-- there is room for one large block more
pub room_for_large : (heap : Heap) (store : Store) (regions : Regions) (more : ℕ) → IsSound heap store regions → pages_of_all regions.heap + more ≤ regions.pages → 16 ≤ more → length heap.large.items < 256
room_for_large heap store regions more sound fits least =
    let S = share_at (payer_of heap) store regions in
    let few = few_large (large_regions S) regions.heap (record { there = λ q x h. (in_share (part (payer_of heap) store) regions.heap regions.tags q x (large_there S q x h)).0 }) (λ s r h. (sound.laid.large_stands s r h).least) in
    let count = sound.laid.large_count in
    let machine = sound.window.few in
    omega (arith, few, count, machine, fits, least)

module _ (heap : Heap) (vec : ArrayVec ℕ) (n ds pages start : ℕ) (old new : Store) (regions : Regions) (sound : IsSound heap old regions) (large : 65536 ≤ n)
    (fresh : get old.spaces ds ≡ None) (becomes : PartBecomes (payer_of heap) (part_with_space (part (payer_of heap) old) ds n) old new) (free : get regions.heap start ≡ None)
    (of_pages : pages ≡ page_of n / 4096) (gap : heap_gap regions.pages regions.heap pages ≡ Some start) (lowest : heap_gap largest_machine regions.heap pages ≡ Some start)
    (is : vec.items ≡ heap.large.items ++ start ∷ []) where
  abbrev account : ℕ
  account = payer_of heap

  abbrev S : Share
  S = share_at account old regions

  abbrev after : Regions
  after = heap_attached regions ds (page_of n / 4096) large_tag start

  abbrev later : Heap
  later = record heap { large = vec }

  now : share_at account new after ≡ record { part = part account new; heap = insert S.heap start (record { of = ds; pages = page_of n / 4096 }); tags = insert S.tags start large_tag }
  now = share_then account ds n large_tag start old new regions.pages regions.heap_most regions.heap regions.tags sound.opens sound.window fresh becomes free

  free_here : get S.heap start ≡ None
  unfolding share_in
  free_here = nothing_shown (part account old).spaces regions.heap start free

  there : get (part account new).spaces ds ≡ Some (zeros (page_of n))
  there = new_there account ds n large_tag start old new regions.pages regions.heap_most regions.heap regions.tags sound.opens sound.window fresh becomes free

  others : OtherSpacesStay account ds old new
  others = others_there account ds n large_tag start old new regions.pages regions.heap_most regions.heap regions.tags sound.opens sound.window fresh becomes free

  keeps : (s : ℕ) (r : Region) → get S.heap s ≡ Some r → get (part account new).spaces r.of ≡ get S.part.spaces r.of
  unfolding share_in
  keeps s r h = others r.of (unshown account ds n large_tag start old new regions.pages regions.heap_most regions.heap regions.tags sound.opens sound.window fresh becomes free s r (in_share (part account old) regions.heap regions.tags s r h).0)

  least : 16 ≤ page_of n / 4096
  least = omega (arith, large)

  whole : length (zeros (page_of n)) ≡ page_of n / 4096 * 4096
  whole = length-zeros (page_of n) ∙ omega arith

  apart : (k : ℕ) → k < length heap.chunks.items → (start < (chunk_at heap k).start) ⊎ ((chunk_at heap k).start + avl.bytes_of heap.fit k ≤ start)
  apart = outside_chunks heap old regions pages start sound.laid gap (omega (arith, of_pages, least))

  takes_sound : IsSound later new after
  takes_sound = record {
    opens = open_then account ds n large_tag start old new regions.pages regions.heap_most regions.heap regions.tags sound.opens sound.window fresh becomes free;
    window = window_then account ds n large_tag start old new regions.pages regions.heap_most regions.heap regions.tags sound.opens sound.window fresh becomes free (omega (arith, large)) (gap_place regions (page_of n / 4096) start (subst (λ p. heap_gap regions.pages regions.heap p ≡ Some start) of_pages gap));
    laid = subst (IsLaid later) (sym now)
        (large_laid heap S (part account new) start (record { of = ds; pages = page_of n / 4096 }) (zeros (page_of n)) vec sound.laid free_here is there whole least keeps apart);
  }

  pub takes_keeps : Keeps heap later old new regions after
  takes_keeps = search (rules, takes_sound, others, shares_then)

  pub takes_large : TakesLarge heap later n start old new regions after
  takes_large = grind (arith, nat_tests, charge_then, now, large_value, free_here, there, whole, least, keeps, apart, others, count_then)
