-- What calls of a session's sliced heap leave of the heap of nodes: blocks that come and go, and bytes that change.
use Rattle.std.proofs.Common.{◌≡◌, ℕ, ◌+◌, ◌-◌, ◌/◌, ◌≤◌, true, false, cond, nat_le, List, length, drop, Some, is_some, refl, sym, ap, subst, ◌∙◌, arith, inl, inr}
use Rattle.std.proofs.lemmas.Bool.{cases_eq}
use Rattle.std.proofs.lemmas.Bool.Decides.{nat_tests}
use Rattle.std.proofs.lemmas.Option.{none-some}
use Rattle.std.specs.Prelude.{Option, None}
use Rattle.std.specs.Option.{option_map, option_and_then}
use Rattle.std.specs.FinMap.{get, insert, remove, len}
use Rattle.trade_base.specs.Bytes.{with_bytes}
use Rattle.own_model.specs.Account.{Account, charged, credited}
use Rattle.own_model.specs.NatMap.{NatMap}
use Rattle.own_model.specs.OwnState.{zeros, with_part}
use Rattle.own_model.specs.Region.{Region}
use Rattle.own_model.specs.Sliced.{sliced_header, sliced_size, block_size, block_pages}
use Rattle.own_model.proofs.HeapRangeLemmas.{new_page}
use Rattle.own_model.proofs.NatMapLemmas.{get-picked, get-insert_same, get-insert_other, get-remove_same, get-remove_other}
use Rattle.own_model.proofs.Totals.{len-insert_new, len-insert_at, len-remove_at}
use Rattle.region_map.specs.Regions.{Regions, of_no_heap, heap_attached, heap_detached}
use Rattle.dataspace_core.specs.Store.{Store, Part, part, account_in, account_of, bytes_of, part_with_bytes, PartBecomes}
use Rattle.dataspace_core.specs.Share.{Share, share_in, shown, IsShownByNone}
use Rattle.dataspace_core.proofs.WindowLaws.{unshown_free}
use Rattle.dataspace_core.proofs.PartLaws.{account_by, account_of-part}
use Rattle.dataspace_core.proofs.ShareLaws.{get-tags_of, in_share}
use Rattle.heap_core.specs.declared.heap.Heap.{Heap}
use Rattle.heap_core.specs.Heap.{large_tag}
use Rattle.heap_core.specs.Theorems.{block_region}
use Rattle.sliced_heap.proofs.ShareLemmas.{told_region, shown_block, kept_tag}
use Rattle.sliced_heap.specs.declared.heap.SlicedHeap.{SlicedHeap}
use Rattle.sliced_heap.specs.Heap.{payer_of, share_at, blocks_at, IsNoBlock, IsSound as IsSoundSliced, KeepsOthers, TakesBlock, GivesBlock, HoldsRange}
use Rattle.sliced_heap.specs.Theorems.{Pokes}
use Rattle.sliced_heap.specs.Sliced.{sliced_tag, block_regions, payload_of}
use Rattle.sliced_heap.proofs.BlockLemmas.{payload_at, is_of}
use Rattle.sliced_heap.proofs.HeapLaws.{payload_poked}
use Rattle.session_nodes.specs.SoundHeaps.{HasSoundHeaps, KeepsLent}
use Rattle.session_nodes.proofs.LentLemmas.{lent_in, lent_stays, lent_attached, lent_detached}
use Rattle.sliced_heap.specs.Window.{low_region}
use Rattle.sliced_heap.proofs.BesideLemmas.{gap_is_free, lie_with, lie_without}
use Rattle.session_nodes.proofs.FurnishedLemmas.{ChangesContents}
use Rattle.sliced_heap.proofs.WindowLemmas.{IsPut, is_put}

-- ---- chunks of an account on a map that several accounts use

-- the chunk or large block of a region with a number, where these dataspaces are shown
abbrev numbered_in : NatMap (List ℕ) → Option ℕ → Option Region → Option (Region × ℕ)
numbered_in spaces tag region = low_region tag (option_and_then (shown spaces) region)

-- nothing has a number where no region is
none_numbered : (tag : Option ℕ) → low_region tag None ≡ None
none_numbered None = refl
none_numbered (Some k) = elim (nat_le k large_tag) as (λ b. ◌≡◌ {A = Option (Region × ℕ)} (cond b None None) None) [ true ↦ refl | false ↦ refl ]

-- a number is kept with what is shown alone
within_share : (tag : Option ℕ) (o : Option Region) → low_region (cond (is_some o) tag None) o ≡ low_region tag o
within_share tag None = sym (none_numbered tag)
within_share tag (Some r) = refl

-- the chunk or large block that starts at an address
region_is : (account : ℕ) (store : Store) (regions : Regions) (s : ℕ) →
    block_region (share_at account store regions) s ≡ numbered_in (part account store).spaces (get regions.tags s) (get regions.heap s)
unfolding share_in
region_is account store regions s = grind (arith, nat_tests, get-picked, get-tags_of, within_share)

-- it is the same where its dataspace is there or not as before
numbered_alike : (p q : NatMap (List ℕ)) (tag : Option ℕ) (o : Option Region) →
    ((r : Region) (k : ℕ) → o ≡ Some r → tag ≡ Some k → k ≤ large_tag → is_some (get q r.of) ≡ is_some (get p r.of)) → numbered_in q tag o ≡ numbered_in p tag o
numbered_alike p q None o alike = refl
numbered_alike p q (Some k) None alike = refl
numbered_alike p q (Some k) (Some r) alike =
    elim (nat_le k large_tag) as (λ b. nat_le k large_tag ≡ b → ◌≡◌ {A = Option (Region × ℕ)}
    (cond b (option_map (λ (region : Region). (region, k)) (shown q r)) None) (cond b (option_map (λ (region : Region). (region, k)) (shown p r)) None)) [
      | true ↦ λ low. ap (λ b. option_map (λ (region : Region). (region, k)) (cond b (Some r) None)) (alike r k refl refl (grind (arith, nat_tests)))
      | false ↦ λ high. refl
    ] refl

-- a number above a chunk's is none of a block's
high_number : (spaces : NatMap (List ℕ)) (tag : ℕ) (o : Option Region) → nat_le tag large_tag ≡ false → numbered_in spaces (Some tag) o ≡ None
high_number spaces tag o high = rw high refl

module _ {heap : Heap} {sliced : SlicedHeap} {store : Store} {regions : Regions} (f : HasSoundHeaps heap sliced store regions) where
  -- the account, its share, and its part
  abbrev a : ℕ
  a = payer_of sliced

  abbrev S : Share
  S = share_at (payer_of sliced) store regions

  abbrev p : Part
  p = part (payer_of sliced) store

  -- a dataspace that a region with another number shows is no sliced block's
  other_no_sliced : (s k : ℕ) (r : Region) → get regions.heap s ≡ Some r → get regions.tags s ≡ Some k → k ≤ of_no_heap → IsNoBlock S r.of
  other_no_sliced s k r there tag low t q block e = let one = shown_block (payer_of sliced) store regions t q block in grind (arith, nat_tests, one, f.sound.window.once t s q r one.there there e)

  -- the dataspaces of regions that are no sliced blocks stay
  abbrev NonBlocksStay : Store → Type 0
  NonBlocksStay new = (s k : ℕ) (r : Region) → get regions.heap s ≡ Some r → get regions.tags s ≡ Some k → k ≤ of_no_heap → get (part (payer_of sliced) new).spaces r.of ≡ get p.spaces r.of

  -- the regions of the heap's blocks stay
  abbrev BlocksStay : Store → Regions → Type 0
  BlocksStay new after = (s : ℕ) → block_region (share_at (payer_of sliced) new after) s ≡ block_region S s

  -- a chunk's region is the map's
  pub chunk_in_map : (s k : ℕ) (r : Region) → block_region S s ≡ Some (r, k) → (get regions.heap s ≡ Some r) × (get regions.tags s ≡ Some k) × (k ≤ large_tag)
  chunk_in_map s k r is =
      let told = told_region S s k r is in
      ((in_share p regions.heap regions.tags s r told.there).0, kept_tag (payer_of sliced) store regions s r told.there ∙ told.tag, told.few)

  account_was : account_in store (payer_of sliced) ≡ account_of p
  account_was = sym (account_of-part (payer_of sliced) store)

  -- ---- regions of no chunk's number

  -- the account's chunks hold what they held
  abbrev pub SameChunks : Store → Type 0
  SameChunks new = (s k : ℕ) (r : Region) → get regions.heap s ≡ Some r → get regions.tags s ≡ Some k → k ≤ large_tag → get (part (payer_of sliced) new).spaces r.of ≡ get p.spaces r.of

  alike_chunks : (new : Store) → SameChunks new → (s : ℕ) → numbered_in (part (payer_of sliced) new).spaces (get regions.tags s) (get regions.heap s) ≡ numbered_in p.spaces (get regions.tags s) (get regions.heap s)
  alike_chunks new same s = numbered_alike p.spaces (part (payer_of sliced) new).spaces (get regions.tags s) (get regions.heap s) (λ r k there tag low. ap is_some (same s k r there tag low))

  -- so they stand where they stood on the same map, with a region more of another number, and with one less
  pub stands_still : (new : Store) → SameChunks new → (s : ℕ) → block_region (share_at (payer_of sliced) new regions) s ≡ block_region S s
  stands_still new same s = region_is (payer_of sliced) new regions s ∙ alike_chunks new same s ∙ sym (region_is (payer_of sliced) store regions s)

  pub stands_more : (new : Store) (ds pages tag start : ℕ) → nat_le tag large_tag ≡ false → get regions.heap start ≡ None → SameChunks new →
      (s : ℕ) → block_region (share_at (payer_of sliced) new (heap_attached regions ds pages tag start)) s ≡ block_region S s
  stands_more new ds pages tag start high free same s =
      let more : Region = record { of = ds; pages = pages } in
      region_is (payer_of sliced) new (heap_attached regions ds pages tag start) s
      ∙ elim (cases_eq s start) [
        | inl here ↦
            ap (λ t. numbered_in (part (payer_of sliced) new).spaces t (get (insert regions.heap start more) s)) (get-insert_same regions.tags start tag s here)
            ∙ high_number (part (payer_of sliced) new).spaces tag (get (insert regions.heap start more) s) high
            ∙ sym (none_numbered (get regions.tags s))
            ∙ ap (numbered_in p.spaces (get regions.tags s)) (sym (ap (get regions.heap) here ∙ free))
        | inr apart ↦
            (λ i. numbered_in (part (payer_of sliced) new).spaces (get-insert_other regions.tags start tag s apart i) (get-insert_other regions.heap start more s apart i))
            ∙ alike_chunks new same s
      ]
      ∙ sym (region_is (payer_of sliced) store regions s)

  pub stands_less : (new : Store) (start tag : ℕ) → get regions.tags start ≡ Some tag → nat_le tag large_tag ≡ false → SameChunks new →
      (s : ℕ) → block_region (share_at (payer_of sliced) new (heap_detached regions start)) s ≡ block_region S s
  stands_less new start tag kept high same s =
      region_is (payer_of sliced) new (heap_detached regions start) s
      ∙ elim (cases_eq s start) [
        | inl here ↦
            (λ i. numbered_in (part (payer_of sliced) new).spaces (get-remove_same regions.tags start s here i) (get (remove regions.heap start) s))
            ∙ sym (high_number p.spaces tag (get regions.heap s) high)
            ∙ ap (λ t. numbered_in p.spaces t (get regions.heap s)) (sym (ap (get regions.tags) here ∙ kept))
        | inr apart ↦
            (λ i. numbered_in (part (payer_of sliced) new).spaces (get-remove_other regions.tags start s apart i) (get-remove_other regions.heap start s apart i))
            ∙ alike_chunks new same s
      ]
      ∙ sym (region_is (payer_of sliced) store regions s)

  -- ---- a block more

  module _ {now : SlicedHeap} {new : Store} {after : Regions} (sound : IsSoundSliced now new after) (payer : payer_of now ≡ payer_of sliced) (others : KeepsOthers (payer_of sliced) store new regions after)
      (n address : ℕ) (takes : TakesBlock (payer_of sliced) n address store new regions after) where
    abbrev more : Region
    more = record { of = takes.ds; pages = sliced_size n / 4096 }

    more_heap : after.heap ≡ insert regions.heap takes.start more
    more_heap = ap (λ (r : Regions). r.heap) takes.attached

    -- nothing stood there
    more_free : get regions.heap takes.start ≡ None
    more_free = gap_is_free regions.pages regions.heap (sliced_size n / 4096) takes.start (new_page n) f.sound.window.lie takes.gap

    -- no region shows the new dataspace
    more_unshown : IsShownByNone regions.heap takes.ds
    more_unshown = unshown_free store regions.heap takes.ds f.sound.window.shown_whole takes.fresh

    more_same : NonBlocksStay new
    more_same s k r there tag low = takes.dataspaces r.of (more_unshown s r there) (other_no_sliced s k r there tag low)

    more_stands : BlocksStay new after
    more_stands s =
        subst (λ m. block_region (share_at (payer_of sliced) new m) s ≡ block_region S s) (sym takes.attached)
        (stands_more new takes.ds (sliced_size n / 4096) sliced_tag takes.start refl more_free (λ t k r there tag low. more_same t k r there tag (omega (arith, low))) s)

    -- no payload started there
    pub more_no_payload : get (blocks_at (payer_of sliced) store regions) address ≡ None
    more_no_payload =
        let none : get (block_regions S) takes.start ≡ None = elim (get (block_regions S) takes.start) as (λ o. get (block_regions S) takes.start ≡ o → o ≡ None) [
          | None ↦ λ e. refl
          | Some r ↦ λ e. absurd (none-some r (sym more_free ∙ (shown_block (payer_of sliced) store regions takes.start r e).there))
        ] refl in
        ap (get (blocks_at (payer_of sliced) store regions)) takes.at
        ∙ payload_at S sliced.first f.session.sound.linked takes.start ∙ ap (option_and_then (payload_of S.part.spaces)) none

    pub more_charge : account_in new (payer_of sliced) ≡ charged (account_in store (payer_of sliced)) (sliced_size n) 1
    more_charge = account_by (payer_of sliced) new _ takes.charge

    pub more_lent : KeepsLent (payer_of sliced) store new regions after
    more_lent = lent_stays (payer_of sliced) store new regions after
        (ap lent_in takes.attached ∙ lent_attached regions takes.ds (sliced_size n / 4096) sliced_tag takes.start refl more_free)
        (λ s r there tag. more_same s of_no_heap r there tag (omega arith))

    pub more_changes : ChangesContents f now new after
    more_changes = record {
      sound = sound;
      payer = payer;
      others = others;
      lie = rw more_heap (lie_with regions.pages regions.heap takes.ds (sliced_size n / 4096) takes.start (new_page n) f.sound.window.lie takes.gap);
      stands = more_stands;
      kept = λ s k r is. let at = chunk_in_map s k r is in more_same s k r at.0 at.1 (omega (arith, at.2));
      uses = omega (arith, takes.count, ap (λ (x : Account). x.caps_used) more_charge);
      count = omega (arith, takes.count, ap len takes.blocks, len-insert_new (blocks_at (payer_of sliced) store regions) address (zeros (sliced_size n - sliced_header)) more_no_payload, ap len more_lent.stands);
    }

  -- ---- a block less

  module _ {now : SlicedHeap} {new : Store} {after : Regions} (sound : IsSoundSliced now new after) (payer : payer_of now ≡ payer_of sliced) (others : KeepsOthers (payer_of sliced) store new regions after)
      (address : ℕ) (gives : GivesBlock (payer_of sliced) address store new regions after) where
    abbrev less : Region
    less = record { of = gives.ds; pages = block_pages gives.payload }

    less_heap : after.heap ≡ remove regions.heap gives.start
    less_heap = ap (λ (r : Regions). r.heap) gives.detached

    -- it kept a sliced block's number
    less_tag : get regions.tags gives.start ≡ Some sliced_tag
    less_tag =
        let block = is_of S sliced.first f.session.sound.linked address gives.payload gives.was in
        let same : block.start ≡ gives.start = omega (arith, block.at, gives.at) in
        ap (get regions.tags) (sym same) ∙ (shown_block (payer_of sliced) store regions block.start block.region block.there).tag

    less_same : NonBlocksStay new
    less_same s k r there tag low = gives.dataspaces r.of (other_no_sliced s k r there tag low)

    less_stands : BlocksStay new after
    less_stands s =
        subst (λ m. block_region (share_at (payer_of sliced) new m) s ≡ block_region S s) (sym gives.detached)
        (stands_less new gives.start sliced_tag less_tag refl (λ t k r there tag low. less_same t k r there tag (omega (arith, low))) s)

    pub less_credit : account_in new (payer_of sliced) ≡ credited (account_in store (payer_of sliced)) (block_size gives.payload) 1
    less_credit = account_by (payer_of sliced) new _ gives.charge

    pub less_lent : KeepsLent (payer_of sliced) store new regions after
    less_lent = lent_stays (payer_of sliced) store new regions after (ap lent_in gives.detached ∙ lent_detached regions gives.start sliced_tag less_tag refl)
        (λ s r there tag. less_same s of_no_heap r there tag (omega arith))

    pub less_changes : ChangesContents f now new after
    less_changes = record {
      sound = sound;
      payer = payer;
      others = others;
      lie = rw less_heap (lie_without regions.pages regions.heap gives.start f.sound.window.lie);
      stands = less_stands;
      kept = λ s k r is. let at = chunk_in_map s k r is in less_same s k r at.0 at.1 (omega (arith, at.2));
      uses = omega (arith, gives.count, f.session.pays, ap (λ (x : Account). x.caps_used) less_credit);
      count = omega (arith, gives.count, ap len gives.blocks, len-remove_at (blocks_at (payer_of sliced) store regions) address gives.payload gives.was, ap len less_lent.stands);
    }

  -- ---- other bytes

  module _ (ds offset address : ℕ) (bytes : List ℕ) {new : Store} (held : HoldsRange S ds offset address (length bytes)) (becomes : PartBecomes (payer_of sliced) (part_with_bytes p ds offset bytes) store new) where
    pub pokes : Pokes sliced (held.start + sliced_header) (with_part (drop sliced_header held.bytes) (offset - sliced_header) bytes) store new regions
    pokes = payload_poked sliced ds offset address bytes store new regions f.session.sound held becomes

    there_now : get p.spaces ds ≡ Some held.bytes
    unfolding share_in
    there_now = held.there

    put : IsPut (payer_of sliced) ds store new
    put = is_put (payer_of sliced) ds offset bytes held.bytes there_now held.within becomes

    poke_same : NonBlocksStay new
    poke_same s k r there tag low = put.others r.of (λ e. other_no_sliced s k r there tag low held.start _ held.region (sym e))

    pub poke_account : account_in new (payer_of sliced) ≡ account_in store (payer_of sliced)
    poke_account = sym (account_of-part (payer_of sliced) new) ∙ ap account_of becomes.own ∙ account_of-part (payer_of sliced) store

    pub poke_lent : KeepsLent (payer_of sliced) store new regions regions
    poke_lent = lent_stays (payer_of sliced) store new regions regions refl (λ s r there tag. poke_same s of_no_heap r there tag (omega arith))

    pub poke_changes : ChangesContents f sliced new regions
    poke_changes = record {
      sound = pokes.sound;
      payer = refl;
      others = record {
        shares = λ other apart. ap (λ q. share_in q regions.heap regions.tags) (becomes.others other apart);
        root = becomes.root;
        parents = becomes.parents;
        room = becomes.room;
        rest = refl;
      };
      lie = f.sound.window.lie;
      stands = stands_still new (λ s k r there tag low. poke_same s k r there tag (omega (arith, low)));
      kept = λ s k r is. let at = chunk_in_map s k r is in poke_same s k r at.0 at.1 (omega (arith, at.2));
      uses = omega (arith, ap (λ (q : Part). len q.spaces) becomes.own, ap (λ (x : Account). x.caps_used) poke_account, len-insert_at p.spaces ds (with_bytes (bytes_of p ds) offset bytes) held.bytes there_now);
      count = omega (arith, ap (λ (q : Part). len q.spaces) becomes.own, len-insert_at p.spaces ds (with_bytes (bytes_of p ds) offset bytes) held.bytes there_now, ap len pokes.blocks, len-insert_at (blocks_at (payer_of sliced) store regions) (held.start + sliced_header) (with_part (drop sliced_header held.bytes) (offset - sliced_header) bytes) (drop sliced_header held.bytes) held.payload, ap len poke_lent.stands);
    }
