-- What a call of one of a session's two heaps leaves of the other, and so of what the session has.
use Rattle.std.proofs.lemmas.Bool.Decides.{nat_tests}
use Rattle.std.proofs.Common.{rules, ◌≡◌, ℕ, ◌+◌, List, length, Some, IsSome, refl, sym, ap, subst, ◌∙◌, arith}
use Rattle.std.specs.FinMap.{get, len}
use Rattle.own_model.specs.Account.{Account}
use Rattle.own_model.specs.HeapWindow.{heap_low, heap_high}
use Rattle.own_model.specs.NatMap.{NatMap}
use Rattle.own_model.specs.OwnHeap.{OwnHeap}
use Rattle.own_model.specs.Region.{Region}
use Rattle.own_model.specs.Sound.{LieApart}
use Rattle.region_map.specs.Regions.{Regions, of_no_heap}
use Rattle.dataspace_core.specs.Share.{Share, share_in, KeepsShares}
use Rattle.dataspace_core.specs.Store.{Store, part, account_in, IsOpenIn}
use Rattle.heap_core.specs.declared.heap.Heap.{Heap}
use Rattle.heap_core.specs.Heap.{payer_of as heap_payer, heap_in, heap_at, IsLaid, IsSound as IsSoundHeap}
use Rattle.heap_core.specs.Theorems.{block_region, HeapStays as OwnHeapStays}
use Rattle.heap_core.proofs.StayLemmas.{heap_stays}
use Rattle.sliced_heap.specs.declared.heap.SlicedHeap.{SlicedHeap}
use Rattle.sliced_heap.specs.Heap.{payer_of, share_at, blocks_at, IsSound as IsSoundSliced, KeepsOthers}
use Rattle.sliced_heap.specs.Theorems.{HeapStays}
use Rattle.sliced_heap.specs.Sliced.{sliced_of, block_regions}
use Rattle.sliced_heap.proofs.HeapLaws.{heap_stays_among}
use Rattle.sliced_heap.proofs.ShareLemmas.{shown_block}
use Rattle.server_frame.specs.Session.{holding, holding_of}
use Rattle.session_nodes.specs.SoundHeaps.{HasSoundHeaps, KeepsLent, KeepsSoundHeaps, KeepsSession, lent_regions, stock}
use Rattle.session_nodes.proofs.LentLemmas.{shown_lent}
use Rattle.sliced_heap.proofs.BesideLemmas.{map_of, maps_memory}
use Rattle.sliced_heap.specs.Window.{IsNoHeapBlock}

-- ---- an account's limits and use are nothing to a heap

-- a heap has the same
pub value_held : (heap : Heap) (share : Share) → heap_in heap (holding share) ≡ heap_in heap share
unfolding heap_in
value_held heap share = refl

pub contents_held : (share : Share) → sliced_of (holding share) ≡ sliced_of share
unfolding sliced_of
contents_held share = refl

-- and stands where it stood
pub laid_held : (heap : Heap) (share : Share) → IsLaid heap share → IsLaid heap (holding share)
laid_held heap share laid = record {
  fit = laid.fit;
  count = laid.count;
  few = laid.few;
  chunks = λ k there. let c = laid.chunks k there in
      record { bytes = c.bytes; pages = c.pages; there = c.there; numbers = c.numbers; long = c.long; some = c.some; whole = c.whole; region = c.region; tag = c.tag };
  all = laid.all;
  large = laid.large;
  large_count = laid.large_count;
  large_stands = λ start region there. let l = laid.large_stands start region there in
      record { bytes = l.bytes; there = l.there; whole = l.whole; least = l.least };
  growth_some = laid.growth_some;
  growth_most = laid.growth_most;
}

pub laid_back : (heap : Heap) (share : Share) → IsLaid heap (holding share) → IsLaid heap share
laid_back heap share laid = record {
  fit = laid.fit;
  count = laid.count;
  few = laid.few;
  chunks = λ k there. let c = laid.chunks k there in
      record { bytes = c.bytes; pages = c.pages; there = c.there; numbers = c.numbers; long = c.long; some = c.some; whole = c.whole; region = c.region; tag = c.tag };
  all = laid.all;
  large = laid.large;
  large_count = laid.large_count;
  large_stands = λ start region there. let l = laid.large_stands start region there in
      record { bytes = l.bytes; there = l.there; whole = l.whole; least = l.least };
  growth_some = laid.growth_some;
  growth_most = laid.growth_most;
}

-- the heap of nodes, as its own account has it
pub nodes_are : (heap : Heap) (sliced : SlicedHeap) (store : Store) (regions : Regions) → heap_payer heap ≡ payer_of sliced →
    heap_in heap (holding_of sliced store regions) ≡ heap_at heap store regions
nodes_are heap sliced store regions payer = search (rules, value_held)

-- ---- a call of the heap of nodes

-- what a call of a heap of an account leaves, and what it changes of numbers
pub record ChangesNodes (account : ℕ) (heap : Heap) (store : Store) (regions : Regions) (later : Heap) (new : Store) (after : Regions) : Type 0 where
  pub sound : IsSoundHeap later new after
  pub payer : heap_payer later ≡ account
  pub shares : KeepsShares account store new regions.heap regions.tags after.heap after.tags
  pub rest : after ≡ record regions { heap = after.heap; tags = after.tags }
  pub stands : block_regions (share_at account new after) ≡ block_regions (share_at account store regions)
  pub kept : (k : ℕ) → IsSome (get (part account store).spaces k) → IsNoHeapBlock regions k → get (part account new).spaces k ≡ get (part account store).spaces k
  pub uses : (account_in new account).caps_used + len (part account store).spaces ≡ (account_in store account).caps_used + len (part account new).spaces
  pub lent : lent_regions (share_at account new after) ≡ lent_regions (share_at account store regions)
  pub no_large : (heap_at later new after).large ≡ (heap_at heap store regions).large
  pub count : len (part account new).spaces + length (heap_at heap store regions).shape.chunks ≡ len (part account store).spaces + length (heap_at later new after).shape.chunks

module _ {heap : Heap} {sliced : SlicedHeap} {store : Store} {regions : Regions} (f : HasSoundHeaps heap sliced store regions) where
  -- the account
  abbrev pub a : ℕ
  a = payer_of sliced

  -- a sliced block's dataspace is none of the heap's
  pub sliced_no_chunk : (s : ℕ) (r : Region) → get (block_regions (share_at (payer_of sliced) store regions)) s ≡ Some r → IsNoHeapBlock regions r.of
  sliced_no_chunk s r block t k q there tag low e = let one = shown_block (payer_of sliced) store regions s r block in grind (arith, nat_tests, one, f.sound.window.once t s q r there one.there e)

  -- nor is what is lent
  pub lent_no_chunk : (s : ℕ) (r : Region) → get regions.heap s ≡ Some r → get regions.tags s ≡ Some of_no_heap → IsNoHeapBlock regions r.of
  lent_no_chunk s r there lent t k q other tag low e = grind (arith, nat_tests, f.sound.window.once t s q r other there e)

  module _ {later : Heap} {new : Store} {after : Regions} (c : ChangesNodes (payer_of sliced) heap store regions later new after) where
    opens_still : IsOpenIn new (payer_of sliced)
    opens_still = subst (IsOpenIn new) c.payer c.sound.opens

    -- the sliced blocks stay
    pub sliced_stays : HeapStays sliced store new regions after
    sliced_stays =
        heap_stays_among sliced store new regions after f.session.sound (maps_memory c.sound.window) opens_still c.stands
        (λ s r block. c.kept r.of (shown_block (payer_of sliced) store regions s r block).paid (sliced_no_chunk s r block))

    -- and so does what is lent
    pub lent_kept : KeepsLent (payer_of sliced) store new regions after
    lent_kept = record {
      stands = c.lent;
      bytes = λ s r lent. let is = shown_lent (payer_of sliced) store regions s r lent in c.kept r.of is.paid (lent_no_chunk s r is.there is.tag);
    }

    nodes_stay_furnished : KeepsSoundHeaps sliced later sliced store new regions after
    unfolding share_in
    nodes_stay_furnished = record {
      furnished = record {
        session = record { sound = sliced_stays.sound; pays = omega (arith, c.uses, f.session.pays) };
        payer = c.payer;
        sound = c.sound;
        nodes = record {
          laid = laid_held later (share_at (payer_of sliced) new after) (subst (λ x. IsLaid later (share_at x new after)) c.payer c.sound.laid);
          no_large = ap (λ (h : OwnHeap). h.large) (nodes_are later sliced new after c.payer) ∙ c.no_large ∙ sym (ap (λ (h : OwnHeap). h.large) (nodes_are heap sliced store regions f.payer)) ∙ f.nodes.no_large;
          all = let was = f.nodes.all in
              let before = ap (λ (h : OwnHeap). length h.shape.chunks) (nodes_are heap sliced store regions f.payer) in
              let now = ap (λ (h : OwnHeap). length h.shape.chunks) (nodes_are later sliced new after c.payer) in
              let blocks = ap len sliced_stays.blocks in
              let old_blocks = ap len (contents_held (share_at (payer_of sliced) store regions)) in
              let new_blocks = ap len (contents_held (share_at (payer_of sliced) new after)) in
              let lent = ap len c.lent in
              omega (arith, c.count, was, before, now, blocks, old_blocks, new_blocks, lent);
        };
      };
      payer = refl;
      others = record { shares = c.shares.shares; root = c.shares.root; parents = c.shares.parents; room = c.shares.room; rest = c.rest };
    }

    pub nodes_kept : KeepsSession sliced later sliced store new regions after
    nodes_kept = record { stays = nodes_stay_furnished; lent = lent_kept }

    -- the contents stay
    pub contents_stay : (account : Account) (nodes : OwnHeap) → account_in new (payer_of sliced) ≡ account → heap_at later new after ≡ nodes →
        stock later sliced new after ≡ record (stock heap sliced store regions) { account = account; nodes = nodes }
    contents_stay account nodes is value = search (rules, nodes_are, contents_held, sliced_stays)

  -- ---- a call of the sliced heap, or of what is lent

  -- what such a call leaves, and what it changes of numbers
  pub record ChangesContents (now : SlicedHeap) (new : Store) (after : Regions) : Type 0 where
    pub sound : IsSoundSliced now new after
    pub payer : payer_of now ≡ payer_of sliced
    pub others : KeepsOthers (payer_of sliced) store new regions after
    pub lie : LieApart heap_low (heap_high regions.pages) after.heap
    pub stands : (s : ℕ) → block_region (share_at (payer_of sliced) new after) s ≡ block_region (share_at (payer_of sliced) store regions) s
    pub kept : (s k : ℕ) (r : Region) → block_region (share_at (payer_of sliced) store regions) s ≡ Some (r, k) →
        get (part (payer_of sliced) new).spaces r.of ≡ get (part (payer_of sliced) store).spaces r.of
    pub uses : (account_in new (payer_of sliced)).caps_used + len (part (payer_of sliced) store).spaces
        ≡ (account_in store (payer_of sliced)).caps_used + len (part (payer_of sliced) new).spaces
    pub count : len (part (payer_of sliced) new).spaces + len (blocks_at (payer_of sliced) store regions) + len (lent_regions (share_at (payer_of sliced) store regions))
        ≡ len (part (payer_of sliced) store).spaces + len (blocks_at (payer_of sliced) new after) + len (lent_regions (share_at (payer_of sliced) new after))

  module _ {now : SlicedHeap} {new : Store} {after : Regions} (c : ChangesContents now new after) where
    pages_stay : after.pages ≡ regions.pages
    pages_stay = ap (λ (r : Regions). r.pages) c.others.rest

    -- the heap of nodes stays
    pub heap_stays_on : OwnHeapStays heap store new regions after
    heap_stays_on =
        heap_stays heap store new regions after f.sound
        (map_of c.sound.maps (rw pages_stay f.sound.window.few) (rw pages_stay c.lie))
        (subst (IsOpenIn new) (c.payer ∙ sym f.payer) c.sound.opens)
        (subst (λ x. (s : ℕ) → block_region (share_at x new after) s ≡ block_region (share_at x store regions) s) (sym f.payer) c.stands)
        (subst (λ x. (s k : ℕ) (r : Region) → block_region (share_at x store regions) s ≡ Some (r, k) → get (part x new).spaces r.of ≡ get (part x store).spaces r.of) (sym f.payer) c.kept)

    -- it has the same
    pub nodes_stay : heap_in heap (holding_of now new after) ≡ heap_in heap (holding_of sliced store regions)
    nodes_stay = search (rules, nodes_are, heap_stays_on)

    -- the contents are those of the account
    contents_now : sliced_of (holding_of now new after) ≡ blocks_at (payer_of sliced) new after
    contents_now = contents_held (share_at (payer_of now) new after) ∙ ap (λ x. blocks_at x new after) c.payer

    pub contents_stay_furnished : KeepsSoundHeaps sliced heap now store new regions after
    unfolding share_in
    contents_stay_furnished = record {
      furnished = record {
        session = record {
          sound = c.sound;
          pays = subst (λ x. (account_in new x).caps_used ≡ len (part x new).spaces + 1) (sym c.payer) (omega (arith, c.uses, f.session.pays));
        };
        payer = f.payer ∙ sym c.payer;
        sound = heap_stays_on.sound;
        nodes = record {
          laid = laid_held heap (share_at (payer_of now) new after) (subst (λ x. IsLaid heap (share_at x new after)) (f.payer ∙ sym c.payer) heap_stays_on.sound.laid);
          no_large = ap (λ (h : OwnHeap). h.large) nodes_stay ∙ f.nodes.no_large;
          all = let was = f.nodes.all in
              let chunks = ap (λ (h : OwnHeap). length h.shape.chunks) nodes_stay in
              let old_blocks = ap len (contents_held (share_at (payer_of sliced) store regions)) in
              let new_blocks = ap len contents_now in
              let spaces = ap (λ x. len (part x new).spaces) c.payer in
              let lent = ap (λ x. len (lent_regions (share_at x new after))) c.payer in
              omega (arith, c.count, was, chunks, old_blocks, new_blocks, spaces, lent);
        };
      };
      payer = c.payer;
      others = c.others;
    }

    pub contents_kept : KeepsLent (payer_of sliced) store new regions after → KeepsSession sliced heap now store new regions after
    contents_kept lent = record { stays = contents_stay_furnished; lent = lent }

    -- what the session has
    pub nodes_stay_in : (account : Account) (contents : NatMap (List ℕ)) → account_in new (payer_of sliced) ≡ account → blocks_at (payer_of sliced) new after ≡ contents →
        stock heap now new after ≡ record (stock heap sliced store regions) { account = account; contents = contents }
    nodes_stay_in account contents is value = search (rules, nodes_stay, contents_now)
