-- What calls of a session's heap of nodes change: nothing but bytes of chunks, or a chunk more.
use Rattle.std.proofs.Common.{◌≡◌, ℕ, ◌+◌, ◌/◌, ◌≤◌, ◌==◌, false, length, refl, sym, ap, ◌∙◌, arith, length-append}
use Rattle.std.proofs.lemmas.Bool.Decides.{nat_tests}
use Rattle.std.proofs.lemmas.List.{length-set}
use Rattle.std.specs.Prelude.{Option, None}
use Rattle.std.specs.Option.{unwrap_or}
use Rattle.std.specs.FinMap.{get}
use Rattle.own_model.specs.Account.{Account, opened, charged}
use Rattle.own_model.specs.BestFit.{Spot}
use Rattle.own_model.specs.Growth.{Growth}
use Rattle.own_model.specs.HeapStep.{with_block, with_chunk, without_block}
use Rattle.own_model.specs.OwnHeap.{OwnHeap}
use Rattle.own_model.proofs.NatMapLemmas.{get-insert_same}
use Rattle.region_map.specs.Regions.{Regions, heap_attached, of_no_heap}
use Rattle.dataspace_core.specs.Share.{share_in, KeepsShares}
use Rattle.dataspace_core.specs.Store.{Store, Part, part, account_in}
use Rattle.dataspace_core.proofs.PartLaws.{account_of-part, account_by}
use Rattle.heap_core.proofs.BesideLemmas.{rest_in_place, count_in_place, rest_attached, alike_in_place, alike_attached}
use Rattle.heap_core.specs.declared.heap.Heap.{Heap}
use Rattle.heap_core.specs.Calls.{KeepsSpaces, AddsSpace, Attaches}
use Rattle.heap_core.specs.Heap.{payer_of as heap_payer, heap_in, heap_at, shape_in, large_tag, IsSound as IsSoundHeap}
use Rattle.sliced_heap.proofs.BesideLemmas.{gap_is_free}
use Rattle.session_nodes.proofs.FurnishedLemmas.{ChangesNodes}
use Rattle.session_nodes.proofs.LentLemmas.{lent_places, lent_attached}

-- the shape of a heap, as its account's part has it
pub shape_is : (heap : Heap) (store : Store) (regions : Regions) → (heap_at heap store regions).shape ≡ shape_in heap (part (heap_payer heap) store)
unfolding heap_in share_in
shape_is heap store regions = refl

module _ (heap later : Heap) (store new : Store) (regions : Regions) (sound : IsSoundHeap heap store regions) (payer : heap_payer later ≡ heap_payer heap) where
  -- the account, and its part before and after
  abbrev a : ℕ
  a = heap_payer heap

  abbrev p : Part
  p = part (heap_payer heap) store

  abbrev p' : Part
  p' = part (heap_payer heap) new

  -- ---- nothing but bytes

  module _ (account : p'.account ≡ p.account) where
    pub account_stays : account_in new (heap_payer heap) ≡ account_in store (heap_payer heap)
    account_stays = sym (account_of-part (heap_payer heap) new) ∙ ap (λ (y : Option Account). unwrap_or y (opened 0 0)) account ∙ account_of-part (heap_payer heap) store

    pub in_place : IsSoundHeap later new regions → KeepsShares (heap_payer heap) store new regions.heap regions.tags regions.heap regions.tags → KeepsSpaces heap store new →
        (heap_at later new regions).large ≡ (heap_at heap store regions).large → length (heap_at later new regions).shape.chunks ≡ length (heap_at heap store regions).shape.chunks →
        ChangesNodes (heap_payer heap) heap store regions later new regions
    in_place sound' shares spaces no_large chunks =
        let left = rest_in_place heap store new regions sound spaces in
        let count = count_in_place heap store new regions sound spaces in
        record {
          sound = sound';
          payer = payer;
          shares = shares;
          rest = refl;
          stands = left.stands;
          kept = left.kept;
          lent = lent_places (heap_payer heap) store new regions regions refl (λ s r there tag. alike_in_place heap store new regions sound spaces r.of);
          uses = omega (arith, ap (λ (x : Account). x.caps_used) account_stays, count);
          no_large = no_large;
          count = omega (arith, chunks, count);
        }

  -- ---- a chunk more

  module _ (ds bytes tag start : ℕ) (low : tag ≤ large_tag) (sound' : IsSoundHeap later new (heap_attached regions ds (bytes / 4096) tag start))
      (shares : KeepsShares (heap_payer heap) store new regions.heap regions.tags (heap_attached regions ds (bytes / 4096) tag start).heap (heap_attached regions ds (bytes / 4096) tag start).tags)
      (attaches : Attaches heap ds bytes tag start store new regions (heap_attached regions ds (bytes / 4096) tag start)) (spaces : AddsSpace heap ds store new) where
    abbrev after : Regions
    after = heap_attached regions ds (bytes / 4096) tag start

    -- nothing stood there
    free : get regions.heap start ≡ None
    free =
        let there = get-insert_same regions.heap start (record { of = ds; pages = bytes / 4096 }) start refl in
        gap_is_free regions.pages regions.heap (bytes / 4096) start (sound'.window.lie.some start _ there) sound.window.lie attaches.gap

    -- the number is a chunk's
    other : (tag == of_no_heap) ≡ false
    other = grind (arith, nat_tests, low)

    pub grown_account : account_in new (heap_payer heap) ≡ charged (account_in store (heap_payer heap)) bytes 1
    grown_account = account_by (heap_payer heap) new _ attaches.charge

    pub attached : (heap_at later new after).large ≡ (heap_at heap store regions).large → length (heap_at later new after).shape.chunks ≡ length (heap_at heap store regions).shape.chunks + 1 →
        ChangesNodes (heap_payer heap) heap store regions later new after
    attached no_large chunks =
        let left = rest_attached heap store new regions sound ds bytes tag start low sound'.window attaches.gap spaces in
        record {
          sound = sound';
          payer = payer;
          shares = shares;
          rest = refl;
          stands = left.stands;
          kept = left.kept;
          lent = lent_places (heap_payer heap) store new regions after (lent_attached regions ds (bytes / 4096) tag start other free)
              (λ s r there tag'. alike_attached heap store new regions sound ds bytes tag start low sound'.window attaches.gap spaces s r there);
          uses = omega (arith, spaces.count, ap (λ (x : Account). x.caps_used) grown_account);
          no_large = no_large;
          count = omega (arith, spaces.count, chunks);
        }

-- ---- how many chunks there are

pub chunks_taken : (n : ℕ) (hole : Spot) (heap : OwnHeap) → length (with_block n hole heap).shape.chunks ≡ length heap.shape.chunks
chunks_taken n hole heap = length-set heap.shape.chunks hole.chunk _

pub chunks_given : (address : ℕ) (heap : OwnHeap) → length (without_block address heap).shape.chunks ≡ length heap.shape.chunks
chunks_given address heap = length-set heap.shape.chunks _ _

pub chunks_grown : (n : ℕ) (hole : Spot) (growth : Growth) (start : ℕ) (heap : OwnHeap) → length (with_block n hole (with_chunk growth start heap)).shape.chunks ≡ length heap.shape.chunks + 1
chunks_grown n hole growth start heap = chunks_taken n hole (with_chunk growth start heap) ∙ length-append heap.shape.chunks _
