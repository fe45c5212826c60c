-- What a call of its heap leaves of a script: its sliced blocks, and what its selectors name.
use Rattle.std.proofs.Common.{◌≡◌, ◌≢◌, ℕ, ◌+◌, ◌≤◌, List, [], Some, IsSome, sym, ap, subst, ◌∙◌, arith}
use Rattle.std.proofs.lemmas.Option.{same_Some}
use Rattle.std.specs.FinMap.{get, len}
use Rattle.trade_base.specs.Bytes.{with_bytes}
use Rattle.trade_base.specs.declared.id.DsId.{DsId}
use Rattle.own_model.specs.Call.{Call}
use Rattle.own_model.specs.NatMap.{NatMap, total}
use Rattle.own_model.specs.OwnState.{OwnState}
use Rattle.own_model.specs.OwnStep.{script_step}
use Rattle.own_model.specs.Region.{Region}
use Rattle.own_model.specs.Reply.{Reply}
use Rattle.own_model.proofs.Totals.{len-insert_at}
use Rattle.cap_space.specs.Space.{Space}
use Rattle.cap_space.specs.declared.cap.Cap.TheVariants.{Dataspace}
use Rattle.region_map.specs.Regions.{Regions}
use Rattle.dataspace_core.specs.Store.{Store, Part, part, account_of, bytes_of, part_with_bytes, IsOpenIn, PartBecomes}
use Rattle.dataspace_core.specs.Share.{Share, share_in, KeepsShares}
use Rattle.sliced_heap.specs.Heap.{share_at, blocks_at}
use Rattle.sliced_heap.specs.Theorems.{HeapStays}
use Rattle.sliced_heap.specs.Sliced.{sliced_tag, block_regions}
use Rattle.sliced_heap.proofs.HeapLaws.{heap_stays_among}
use Rattle.sliced_heap.proofs.ShareLemmas.{shown_block}
use Rattle.heap_core.specs.declared.heap.Heap.{Heap}
use Rattle.heap_core.specs.Heap.{payer_of as heap_payer, heap_at, IsSound as IsSoundHeap}
use Rattle.pd_core.specs.Own.{Sessions, own_of, own_at, lent_in}
use Rattle.pd_core.specs.Sound.{IsScript, IsSoundScript, OthersStay, rpc_weight}
use Rattle.pd_core.specs.declared.script.Script.{Script}
use Rattle.sliced_heap.proofs.BesideLemmas.{maps_memory}
use Rattle.pd_core.specs.Does.{Does}
use Rattle.pd_core.proofs.SlicedLemmas.{ChangesHeaps, finishes_heaps}
use Rattle.sliced_heap.proofs.WindowLemmas.{IsTagged, IsOfEither, of_either}
use Rattle.sliced_heap.specs.Window.{IsNoHeapBlock}

-- ---- a script in parts

-- an account's part of a memory, with these tables and this heap, is a script's
pub record Owns (account : ℕ) (store : Store) (space : Space) (regions : Regions) (heap : Heap) : Type 0 where
  pub own : IsScript (lent_in store) (part account store) space regions (heap_at heap store regions) (blocks_at account store regions)
  pub sound : IsSoundHeap heap store regions
  pub all : (start : ℕ) (region : Region) → get regions.heap start ≡ Some region → IsOfEither (share_at account store regions) start region

-- its own state
abbrev pub own_in : Sessions → ℕ → Store → Space → Regions → Heap → OwnState
own_in sessions account store space regions heap =
    own_of (lent_in store) sessions (part account store) space.caps regions.user (heap_at heap store regions) (blocks_at account store regions)

-- a call changes the heap, its dataspaces, the account's use, and nothing else
pub record Alone (account : ℕ) (store : Store) (space : Space) (regions : Regions) (heap : Heap) (store' : Store) (after : Regions) (heap' : Heap) : Type 0 where
  pub sound : IsSoundHeap heap' store' after
  pub payer : heap_payer heap' ≡ heap_payer heap
  pub shares : KeepsShares account store store' regions.heap regions.tags after.heap after.tags
  pub rest : after ≡ record regions { heap = after.heap; tags = after.tags }
  pub stands : block_regions (share_at account store' after) ≡ block_regions (share_at account store regions)
  pub kept : (k : ℕ) → IsSome (get (part account store).spaces k) → IsNoHeapBlock regions k → get (part account store').spaces k ≡ get (part account store).spaces k
  pub tags : (start : ℕ) (region : Region) → get after.heap start ≡ Some region → IsTagged (part account store').spaces after.tags start region
  pub unnamed : (start selector : ℕ) (region : Region) (ds : DsId) → get after.heap start ≡ Some region → get space.caps selector ≡ Some (Dataspace ds) → ds.0 ≢ region.of
  pub ram_limit : (account_of (part account store')).ram_limit ≡ (account_of (part account store)).ram_limit
  pub caps_limit : (account_of (part account store')).caps_limit ≡ (account_of (part account store)).caps_limit
  pub spare : len (part account store').spaces + total rpc_weight space.caps ≤ (account_of (part account store')).caps_used

-- accounts whose shares stay keep their parts
pub parts_with_shares : {account : ℕ} {store store' : Store} {heap after : NatMap Region} {tags numbers : NatMap ℕ} → KeepsShares account store store' heap tags after numbers → OthersStay account store store'
unfolding share_in
parts_with_shares keeps other apart = ap (λ (s : Share). s.part) (keeps.shares other apart)

-- and parts that stay make shares that stay where the regions do
pub shares_with_parts : {account : ℕ} {store store' : Store} {after : Part} (heap : NatMap Region) (tags : NatMap ℕ) → PartBecomes account after store store' → KeepsShares account store store' heap tags heap tags
shares_with_parts heap tags becomes = record { shares = λ other apart. ap (λ q. share_in q heap tags) (becomes.others other apart); root = becomes.root; parents = becomes.parents; room = becomes.room }

-- bytes that are put over those of a dataspace take up no place of the account
pub put_spare : (account ds offset rpcs : ℕ) (put bytes : List ℕ) {store store' : Store} → get (part account store).spaces ds ≡ Some bytes → PartBecomes account (part_with_bytes (part account store) ds offset put) store store' →
    len (part account store).spaces + rpcs ≤ (account_of (part account store)).caps_used → len (part account store').spaces + rpcs ≤ (account_of (part account store')).caps_used
put_spare account ds offset rpcs put bytes {store} there becomes spare =
    let many = len-insert_at (part account store).spaces ds (with_bytes (bytes_of (part account store) ds) offset put) bytes there in
    omega (arith, spare, ap (λ (q : Part). len q.spaces) becomes.own, ap (λ q. (account_of q).caps_used) becomes.own, many)

-- and does that to the own state which the model's call does
pub record Ends (account : ℕ) (call : Call) (reply : Reply) (store : Store) (space : Space) (regions : Regions) (heap : Heap) (store' : Store) (after : Regions) (heap' : Heap) : Type 0 where
  pub alone : Alone account store space regions heap store' after heap'
  pub steps : (sessions : Sessions) → script_step call (own_in sessions account store space regions heap) ≡ record {
    reply = reply;
    lines = [];
    next = record (own_in sessions account store space regions heap) { account = account_of (part account store'); heap = heap_at heap' store' after };
  }

module _ (store : Store) (script : Script) (sound : IsSoundScript store script) where
  -- a script is one in parts, of the account that its heap takes blocks for
  pub parts : Owns (heap_payer script.heap) store script.caps script.regions script.heap
  parts = subst (λ a. Owns a store script.caps script.regions script.heap) (sym sound.heaps.heap_pays) (record {
    own = sound.own;
    sound = sound.heaps.heap;
    all = sound.heaps.all;
  })

  -- a sliced block's dataspace is none of the heap's
  sliced_no_block : (s : ℕ) (r : Region) → get (block_regions (share_at script.account.0 store script.regions)) s ≡ Some r → IsNoHeapBlock script.regions r.of
  sliced_no_block s r block t k q there tag low e =
      let one = shown_block script.account.0 store script.regions s r block in
      let at = sound.heaps.heap.window.once t s q r there one.there e in
      absurd (omega (arith, low, same_Some k sliced_tag (sym tag ∙ ap (get script.regions.tags) at ∙ one.tag)))

  module _ {store' : Store} {after : Regions} {heap' : Heap} (alone : Alone script.account.0 store script.caps script.regions script.heap store' after heap') where
    -- the sliced blocks stay
    stays : HeapStays script.sliced store store' script.regions after
    stays =
        let pays = sound.heaps.sliced_pays in
        heap_stays_among script.sliced store store' script.regions after sound.heaps.sliced (maps_memory alone.sound.window)
        (subst (IsOpenIn store') (alone.payer ∙ sound.heaps.heap_pays ∙ sym pays) alone.sound.opens)
        (subst (λ x. block_regions (share_at x store' after) ≡ block_regions (share_at x store script.regions)) (sym pays) alone.stands)
        (subst (λ x. (s : ℕ) (r : Region) → get (block_regions (share_at x store script.regions)) s ≡ Some r → get (part x store').spaces r.of ≡ get (part x store).spaces r.of) (sym pays)
        (λ s r block. alone.kept r.of (shown_block script.account.0 store script.regions s r block).paid (sliced_no_block s r block)))

    blocks_stay : blocks_at script.account.0 store' after ≡ blocks_at script.account.0 store script.regions
    blocks_stay = subst (λ x. blocks_at x store' after ≡ blocks_at x store script.regions) sound.heaps.sliced_pays stays.blocks

    -- so the heaps change, and nothing else of the script
    changes : ChangesHeaps store script store' after heap' script.sliced
    changes = record {
      has = record {
        heap = alone.sound;
        sliced = stays.sound;
        heap_pays = alone.payer ∙ sound.heaps.heap_pays;
        sliced_pays = sound.heaps.sliced_pays;
        all = λ s r there. of_either script.account.0 store' after s r there (alone.tags s r there);
      };
      blocks = record { held = λ s r there. (alone.tags s r there).paid; unnamed = alone.unnamed };
      still = λ q ds names. alone.kept ds.0 (sound.own.named.there q ds names) (λ t k r there tag low e. sound.own.blocks.unnamed t q r ds there names (sym e));
      rest = alone.rest;
      ram_limit = alone.ram_limit;
      caps_limit = alone.caps_limit;
      spare = alone.spare;
      others = parts_with_shares alone.shares;
      root = alone.shares.root;
      parents = alone.shares.parents;
      room = alone.shares.room;
    }

  -- what a call does in parts finishes
  pub finishes_parts : {call : Call} {reply : Reply} {store' : Store} {after : Regions} {heap' : Heap} →
      Ends (heap_payer script.heap) call reply store script.caps script.regions script.heap store' after heap' →
      Does call reply store script store' (record script { regions = after; heap = heap' })
  unfolding own_of
  finishes_parts {call} {reply} {store'} {after} {heap'} ends =
      let e : Ends script.account.0 call reply store script.caps script.regions script.heap store' after heap'
      = subst (λ a. Ends a call reply store script.caps script.regions script.heap store' after heap') sound.heaps.heap_pays ends in
      finishes_heaps store script sound (changes e.alone) (λ sessions.
      e.steps sessions ∙ (λ i. record {
        reply = reply;
        lines = [];
        next = record (own_at sessions store script) {
          account = account_of (part script.account.0 store');
          heap = heap_at heap' store' after;
          sliced = sym (blocks_stay e.alone) i;
        };
      }))
