-- A block is given back.
use Rattle.std.proofs.Common.{◌≡◌, ◌≢◌, ◌+◌, ◌==◌, ℕ, true, cond, List, drop, length, Some, is_some, refl, sym, ap, ◌∙◌, unwrap_or, arith, rules}
use Rattle.std.proofs.lemmas.List.{length-drop}
use Rattle.std.proofs.lemmas.Option.{none-some}
use Rattle.std.specs.Prelude.{Option}
use Rattle.std.specs.Option.{option_map}
use Rattle.std.specs.FinMap.{get, remove, len}
use Rattle.own_model.specs.Account.{Account, credited, opened}
use Rattle.own_model.specs.Region.{Region}
use Rattle.own_model.specs.Sliced.{sliced_header as header, block_size}
use Rattle.own_model.proofs.NatMapLemmas.{get-remove_same, get-remove_other, before_remove}
use Rattle.own_model.proofs.Totals.{len-remove_at}
use Rattle.region_map.specs.Regions.{Regions, heap_detached}
use Rattle.dataspace_core.specs.Store.{Store, Part, part, account_in, account_of, space_at, IsOpenIn, PartBecomes, part_without_space, ram_limits_in}
use Rattle.dataspace_core.specs.Share.{Share, share_in}
use Rattle.dataspace_core.proofs.PartLaws.{IsPaidBy, paid_in_part, becomes_then, becomes_paid}
use Rattle.dataspace_core.proofs.ShareLaws.{share_detached, share_detached_other}
use Rattle.sliced_heap.specs.declared.heap.SlicedHeap.{SlicedHeap}
use Rattle.sliced_heap.specs.Chain.{link_to, is_listed}
use Rattle.sliced_heap.specs.Sliced.{is_sliced_tag, block_regions, next_in, previous_in, start_in, HasHeader, HeadersChange, TakenOut}
use Rattle.sliced_heap.specs.Heap.{payer_of, share_at, MapsMemory, IsSound, KeepsOthers, IsBlockAt, GivesBlock}
use Rattle.sliced_heap.proofs.ChainLemmas.{ahead_apart, back_apart}
use Rattle.sliced_heap.proofs.LinkedLemmas.{no_block_unlisted, stands_header, out_linked, out_payloads}
use Rattle.sliced_heap.proofs.BlockLemmas.{IsWhole, is_whole, payload_there, whole_pages}
use Rattle.sliced_heap.proofs.ShareLemmas.{shown_block, numbered-remove}
use Rattle.dataspace_core.proofs.ShareLaws.{some_alike}
use Rattle.dataspace_core.proofs.WindowLaws.{in_no_other, shown_after, account_after, own_account, length_some}

module _ (heap : SlicedHeap) (old : Store) (regions : Regions) (start ds : ℕ) (sound : IsSound heap old regions) (block : IsBlockAt (share_at (payer_of heap) old regions) start ds) where
  -- the account, and its share
  abbrev account : ℕ
  account = payer_of heap

  abbrev S : Share
  S = share_at account old regions

  -- the region that goes
  abbrev region : Region
  region = record { of = ds; pages = block.pages }

  -- the block is listed, and stands at its start
  pub listed : is_listed sound.linked.blocks ds ≡ true
  listed = (sound.linked.all start _ block.region).0

  at : start_in S.part ds ≡ start
  at = (sound.linked.all start _ block.region).1

  -- a listed block has room for a header
  pub listed_header : (b : ℕ) → is_listed sound.linked.blocks b ≡ true → HasHeader (part account old) b
  unfolding share_in
  listed_header b t = stands_header S b (sound.linked.stands b t)

  -- the block after it is listed, and the one before it
  pub next_listed : (b : ℕ) → next_in (part account old) ds ≡ link_to b → is_listed sound.linked.blocks b ≡ true
  unfolding share_in
  next_listed b leads = search (rules, ahead_apart, listed)

  pub previous_listed : (b : ℕ) → previous_in (part account old) ds ≡ link_to b → is_listed sound.linked.blocks b ≡ true
  unfolding share_in
  previous_listed b leads = search (rules, back_apart, listed)

  -- its dataspace, and its region in the map
  pub whole : IsWhole S heap.first sound.linked start region
  whole = is_whole S heap.first sound.linked start _ block.region

  has : get (part account old).spaces ds ≡ Some whole.bytes
  unfolding share_in
  has = whole.there

  in_map : get regions.heap start ≡ Some region
  in_map = (shown_block account old regions start region block.region).there

  pub region_there : is_some (get regions.heap start) ≡ true
  region_there = ap is_some in_map

  module _ (mid : Store) (linked : PartBecomes account (part account mid) old mid) (headers : HeadersChange sound.linked.blocks (part account old) (part account mid)) where
    -- its dataspace is there still, as long as it was
    pub mid_bytes : (bytes : List ℕ) × (get (part account mid).spaces ds ≡ Some bytes) × (length bytes ≡ length whole.bytes)
    mid_bytes = length_some (get (part account mid).spaces ds) (length whole.bytes) (headers.lengths ds ∙ ap (option_map length) has)

    mid_there : get (part account mid).spaces ds ≡ Some mid_bytes.0
    mid_there = mid_bytes.1

    pub mid_paid : IsPaidBy account ds mid_bytes.0 mid
    mid_paid = paid_in_part account ds mid_bytes.0 mid mid_there

    module _ (new : Store) (free : PartBecomes (space_at mid ds).payer (part_without_space (part (space_at mid ds).payer mid) ds) mid new) (out : TakenOut ds (part account old) (part account mid)) where
      -- the map then
      abbrev after : Regions
      after = heap_detached regions start

      abbrev T : Share
      T = share_at account new after

      freed : PartBecomes account (part_without_space (part account mid) ds) mid new
      freed = becomes_paid (λ p. part_without_space p ds) mid_paid free

      both : PartBecomes account (part_without_space (part account mid) ds) old new
      both = becomes_then linked freed

      -- the account's other dataspaces are those with the links changed
      pub others : (k : ℕ) → k ≢ ds → get (part account new).spaces k ≡ get (part account mid).spaces k
      others k apart = ap (λ (p : Part). get p.spaces k) freed.own ∙ get-remove_other (part account mid).spaces ds k apart

      -- the share then
      share_then : T ≡ record { part = part account new; heap = remove S.heap start; tags = remove S.tags start }
      unfolding share_in
      share_then = share_detached regions.heap regions.tags start region in_map (part account old) (part account new)
          (λ k apart. ap is_some (others k apart) ∙ some_alike _ _ (headers.lengths k))
          (λ s r h e. sound.maps.once s start r region h in_map e)

      left : block_regions T ≡ remove (block_regions S) start
      left = ap block_regions share_then ∙ numbered-remove is_sliced_tag _ _ start

      pub give_others : KeepsOthers account old new regions after
      give_others = record {
        shares = λ other apart.
            ap (λ p. share_in p after.heap after.tags) (both.others other apart)
            ∙ share_detached_other regions.heap regions.tags start region in_map (part other old) (in_no_other account other ds whole.bytes old has apart);
        root = both.root;
        parents = both.parents;
        room = both.room;
        rest = refl;
      }

      -- what the account is credited with
      size_is : block_size (drop header whole.bytes) ≡ length whole.bytes
      size_is =
          let long = length-drop header whole.bytes in
          let n = whole.some in
          let w = whole.whole in
          omega (arith, long, n, w)

      same_account : account_of (part account mid) ≡ account_in old account
      same_account = ap (λ (o : Option Account). unwrap_or o (opened 0 0)) (headers.account ∙ own_account account old sound.opens)

      charge : (part account new).account ≡ Some (credited (account_in old account) (block_size (drop header whole.bytes)) 1)
      charge = search (rules, freed, mid_there, mid_bytes, size_is, whole, same_account)

      -- the account stays open, and the map is one of the memory
      limits : (IsOpenIn new account) × (ram_limits_in new ≡ ram_limits_in old)
      limits = account_after account (part_without_space (part account mid) ds) old new both _ refl (ap (λ (a : Account). a.ram_limit) same_account) sound.opens

      -- a region that is left is of another dataspace
      left_apart : (s : ℕ) (r : Region) → get after.heap s ≡ Some r → r.of ≢ ds
      left_apart s r h e =
          let here = sound.maps.once s start r region (before_remove regions.heap start s r h) in_map e in
          none-some r (sym (get-remove_same regions.heap start s here) ∙ h)

      give_maps : MapsMemory new after
      give_maps = record {
        pages = sound.maps.pages ∙ sym limits.1;
        most = sound.maps.most;
        shown = λ s r h.
            shown_after account (part_without_space (part account mid) ds) old new both r
            (λ bytes there. ap (option_map length) (get-remove_other (part account mid).spaces ds r.of (left_apart s r h)) ∙ headers.lengths r.of ∙ ap (option_map length) there)
            (sound.maps.shown s r (before_remove regions.heap start s r h));
        once = λ s t r q h g. sound.maps.once s t r q (before_remove regions.heap start s r h) (before_remove regions.heap start t q g);
      }

      -- so the heap is sound
      pub give_sound : (first : ℕ) → first ≡ cond (0 == previous_in (part account old) ds) (next_in (part account old) ds) heap.first → IsSound (record heap { first = first }) new after
      unfolding share_in
      give_sound first is = record {
        opens = limits.0;
        maps = give_maps;
        linked = rw is (out_linked S T heap.first ds start (part account mid) sound.linked listed at left sound.linked.blocks headers out others);
      }

      pub gives : GivesBlock account (start + header) old new regions after
      unfolding share_in
      gives = record {
        ds = ds;
        start = start;
        at = refl;
        payload = drop header whole.bytes;
        was = payload_there S heap.first sound.linked start region whole.bytes block.region whole.there;
        region = in_map ∙ ap (λ n. Some (record { of = ds; pages = n })) (sym (whole_pages (drop header whole.bytes) block.pages (size_is ∙ whole.whole)));
        detached = refl;
        charge = charge;
        blocks = out_payloads S T heap.first ds start (part account mid) sound.linked listed at left sound.linked.blocks headers out others;
        left = left;
        dataspaces = λ k none.
            let apart : k ≢ ds = λ e. none start region block.region (sym e) in
            others k apart ∙ headers.others k (no_block_unlisted S heap.first sound.linked k none);
        count = ap (λ (p : Part). len p.spaces + 1) freed.own ∙ len-remove_at (part account mid).spaces ds mid_bytes.0 mid_there ∙ headers.count;
      }
