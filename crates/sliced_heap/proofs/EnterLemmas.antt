-- A dataspace is entered as the first block.
use Rattle.std.proofs.Common.{◌≡◌, ◌≢◌, ◌<◌, ◌+◌, ◌^◌, ℕ, true, false, List, [], ◌∷◌, drop, length, Some, is_some, refl, sym, ap, ◌∙◌, true≢false, unwrap_or, arith, rules}
use Rattle.std.proofs.lemmas.Bool.{cases_eq}
use Rattle.std.proofs.lemmas.Bool.Decides.{nat_tests}
use Rattle.std.specs.Prelude.{Option, None}
use Rattle.std.specs.Option.{option_map}
use Rattle.std.specs.FinMap.{get, insert}
use Rattle.own_model.specs.NatMap.{NatMap}
use Rattle.own_model.specs.Region.{Region}
use Rattle.own_model.specs.Sliced.{sliced_header as header}
use Rattle.own_model.specs.HeapWindow.{heap_gap, largest_machine}
use Rattle.own_model.proofs.NatMapLemmas.{after_insert, each_after_insert}
use Rattle.own_model.proofs.RegionLemmas.{first_gap_least}
use Rattle.region_map.specs.Regions.{Regions, heap_attached}
use Rattle.dataspace_core.specs.Store.{Store, part, account_in, IsOpenIn, PartBecomes}
use Rattle.dataspace_core.specs.Share.{Share, IsShown, share_in}
use Rattle.dataspace_core.proofs.ShareLaws.{share_attached, share_attached_other, nothing_shown, some_alike, HasOneMore}
use Rattle.dataspace_core.proofs.PartLaws.{open_in_part}
use Rattle.sliced_heap.specs.declared.heap.SlicedHeap.{SlicedHeap}
use Rattle.sliced_heap.specs.Chain.{link_to, is_listed}
use Rattle.sliced_heap.specs.Sliced.{sliced_tag, is_sliced_tag, block_regions, HasHeader, IsLinked, HeadersChange, PutFirst}
use Rattle.sliced_heap.specs.Heap.{payer_of, share_at, blocks_at, MapsMemory, IsSound, KeepsOthers, CanEnter, Enters}
use Rattle.sliced_heap.proofs.ShareLemmas.{shown_block, numbered_free, numbered-insert}
use Rattle.sliced_heap.proofs.LinkedLemmas.{no_block_unlisted, first_is_listed, stands_header, put_linked, put_payloads}
use Rattle.dataspace_core.proofs.WindowLaws.{in_no_other, shown_of_part, own_account, length_some}
use Rattle.sliced_heap.proofs.HeapLaws.{map_stays_for_payer}

-- the start of a gap and a header beyond it fit 64 bits
pub gap_small : (regions : NatMap Region) (pages start : ℕ) → heap_gap largest_machine regions pages ≡ Some start → start + 32 < 2 ^ 64
gap_small regions pages start gap = search (rules, first_gap_least)

module _ (heap : SlicedHeap) (ds pages : ℕ) (old : Store) (regions : Regions) (sound : IsSound heap old regions) (can : CanEnter (payer_of heap) ds pages old regions) where
  -- the account, its first block, and its share
  abbrev account : ℕ
  account = payer_of heap

  abbrev first : ℕ
  first = heap.first

  abbrev S : Share
  S = share_at account old regions

  abbrev linked : IsLinked S first
  linked = sound.linked

  -- no block is of it
  pub none_yet : is_listed linked.blocks ds ≡ false
  none_yet = no_block_unlisted (share_at account old regions) first linked ds (λ s r h. can.unshown s r (shown_block account old regions s r h).there)

  -- the first block has room for a header, and is another
  pub first_header : (b : ℕ) → first ≡ link_to b → HasHeader (part account old) b
  unfolding share_in
  first_header b is = stands_header (share_at account old regions) b (linked.stands b (first_is_listed _ _ first b linked.blocks linked.chain is))

  pub first_apart : first ≢ link_to ds
  first_apart is = true≢false (sym (first_is_listed _ _ first ds linked.blocks linked.chain is) ∙ none_yet)

  -- the blocks whose headers change
  abbrev pub touched : List ℕ
  touched = ds ∷ linked.blocks

  pub ds_touched : is_listed touched ds ≡ true
  ds_touched = grind (arith, nat_tests)

  pub first_touched : (b : ℕ) → first ≡ link_to b → is_listed touched b ≡ true
  first_touched b is = let t = first_is_listed _ _ first b linked.blocks linked.chain is in grind (arith, nat_tests)

  module _ (new : Store) (start : ℕ) (gap : heap_gap regions.pages regions.heap pages ≡ Some start) (lowest : heap_gap largest_machine regions.heap pages ≡ Some start) (free : get regions.heap start ≡ None)
      (becomes : PartBecomes account (part account new) old new) (headers : HeadersChange touched (part account old) (part account new)) (put : PutFirst first ds start (part account old) (part account new)) where
    -- the map then
    abbrev pub after : Regions
    after = heap_attached regions ds pages sliced_tag start

    -- the new region
    abbrev region : Region
    region = record { of = ds; pages = pages }

    -- the same dataspaces are there
    keys : HasOneMore (part account old) (part account new) ds
    keys k = search (rules, some_alike, nat_tests, cases_eq)

    -- the share then
    share_then : share_at account new after ≡ record { part = part account new; heap = insert (share_at account old regions).heap start region; tags = insert (share_at account old regions).tags start sliced_tag }
    unfolding share_in
    share_then = share_attached regions.heap regions.tags start region sliced_tag free (part account old) (part account new) keys can.unshown

    free_in_share : get (share_at account old regions).heap start ≡ None
    unfolding share_in
    free_in_share = nothing_shown (part account old).spaces regions.heap start free

    -- its blocks' regions are one more
    blocks_then : block_regions (share_at account new after) ≡ insert (block_regions (share_at account old regions)) start region
    blocks_then = ap block_regions share_then ∙ numbered-insert is_sliced_tag _ _ start sliced_tag region refl

    block_free : get (block_regions (share_at account old regions)) start ≡ None
    block_free = numbered_free is_sliced_tag _ _ start free_in_share

    -- the shares of others stay
    pub enter_others : KeepsOthers account old new regions after
    enter_others = search (rules, share_attached_other, in_no_other)

    -- the account stays as it is
    same_account : (part account new).account ≡ Some (account_in old account)
    same_account = headers.account ∙ own_account account old sound.opens

    pub enter_open : IsOpenIn new account
    enter_open = open_in_part account new (ap is_some same_account)

    -- the map as it was is still one of the memory
    same_maps : MapsMemory new regions
    same_maps = map_stays_for_payer account (part account new) (account_in old account) old new regions regions sound.maps (record { heap = refl; tags = refl; most = refl; pages = refl })
        becomes sound.opens same_account refl (λ s r h. headers.lengths r.of)

    -- no two regions show one dataspace, the new one among them
    once_then : (s t : ℕ) (r q : Region) → get after.heap s ≡ Some r → get after.heap t ≡ Some q → r.of ≡ q.of → s ≡ t
    once_then s t r q h g e = search (rules, after_insert)

    -- and with it the map is one of the memory
    pub enter_maps : MapsMemory new after
    enter_maps =
        let now = length_some (get (part account new).spaces ds) (length can.bytes) (headers.lengths ds ∙ ap (option_map length) can.there) in
        record {
          pages = same_maps.pages;
          most = same_maps.most;
          shown = each_after_insert regions.heap start region (λ s r. IsShown new.spaces r) same_maps.shown (shown_of_part account new region now.0 now.1 can.some (now.2 ∙ can.whole));
          once = once_then;
        }

    -- the blocks are linked, the new one first
    pub enter_linked : IsLinked (share_at account new after) (link_to ds)
    unfolding share_in
    enter_linked = put_linked (share_at account old regions) (share_at account new after) first ds start pages can.bytes linked none_yet block_free can.there can.some can.whole blocks_then touched headers put

    -- and its payload is one more
    pub enters : Enters account ds pages (start + header) old new regions after
    unfolding share_in
    enters = record {
      start = start;
      at = refl;
      gap = gap;
      lowest = lowest;
      attached = refl;
      charge = headers.account;
      stands = blocks_then;
      blocks = put_payloads (share_at account old regions) (share_at account new after) first ds start pages can.bytes linked none_yet block_free can.there can.some can.whole blocks_then touched headers put
          ∙ ap (λ b. insert (blocks_at account old regions) (start + header) (drop header b)) (sym (ap (λ (o : Option (List ℕ)). unwrap_or o []) can.there));
      dataspaces = λ k other none. headers.others k (let t = no_block_unlisted (share_at account old regions) first linked k none in grind (arith, nat_tests));
      count = headers.count;
    }
