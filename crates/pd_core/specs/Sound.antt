-- What is true of a script between calls, and what a call keeps.
use Rattle.std.specs.Prelude.{◌≡◌, ◌≢◌, ◌⊎◌, ℕ, ◌+◌, ◌*◌, ◌≤◌, List, length, Option, Some, None, IsSome}
use Rattle.std.specs.FinMap.{get, len}
use Rattle.std.specs.Option.{option_map}
use Rattle.trade_base.specs.declared.id.DsId.{DsId}
use Rattle.trade_base.specs.declared.id.SessionId.{SessionId}
use Rattle.own_model.specs.NatMap.{NatMap, total}
use Rattle.own_model.specs.OwnHeap.{OwnHeap, no_heap}
use Rattle.own_model.specs.Region.{Region, most_regions}
use Rattle.own_model.specs.Account.{WithinLimits}
use Rattle.own_model.specs.OwnState.{OwnState}
use Rattle.own_model.specs.Sound.{IsSound}
use Rattle.own_model.specs.Use.{UsesWhatItHolds, heap_count}
use Rattle.cap_space.specs.Space.{Space}
use Rattle.cap_space.specs.declared.cap.Cap.{Cap}
use Rattle.cap_space.specs.declared.cap.Cap.TheVariants.{Dataspace, RpcObject, Session, Buffer}
use Rattle.region_map.specs.Regions.{Regions}
use Rattle.dataspace_core.specs.Share.{Share, IsWindowOf}
use Rattle.dataspace_core.specs.Store.{Store, Part, part, part_with_bytes, account_of, space_at, root_in, parents_in, room_in, ram_limits_in, Exists, IsOpenIn, PartBecomes}
use Rattle.heap_core.specs.declared.heap.Heap.{Heap}
use Rattle.heap_core.specs.Heap.{payer_of as heap_payer, heap_in, HasNoBlocks as HasNoHeapBlocks, IsSound as IsSoundHeap}
use Rattle.heap_core.specs.Theorems.{block_region}
use Rattle.sliced_heap.specs.declared.heap.SlicedHeap.{SlicedHeap}
use Rattle.sliced_heap.specs.Sliced.{block_regions}
use Rattle.sliced_heap.specs.Heap.{payer_of as sliced_payer, share_at, MapsMemory, HasNoBlocks as HasNoSliced, IsSound as IsSoundSliced}
use Rattle.pd_core.specs.Own.{Sessions, HasSessions, Lent, lent_in, key_at, selector_of, own_of, part_at, own_heap_at, sliced_at}
use Rattle.pd_core.specs.declared.script.Script.{Script}

-- what counts the RPC objects
abbrev pub rpc_weight : Cap → ℕ
rpc_weight (Dataspace ds) = 0
rpc_weight RpcObject = 1
rpc_weight (Session server session) = 0
rpc_weight (Buffer space session) = 0

-- what counts the selectors that sessions' accounts pay for: the sessions' and their buffers'
abbrev pub session_weight : Cap → ℕ
session_weight (Dataspace ds) = 0
session_weight RpcObject = 0
session_weight (Session server session) = 1
session_weight (Buffer space session) = 1

-- the session that what a selector has is a capability of, by its server's entry and its key there
abbrev pub session_at : Option Cap → Option (ℕ × SessionId)
session_at (Some (Dataspace ds)) = None
session_at (Some RpcObject) = None
session_at (Some (Session server session)) = Some (server, session)
session_at (Some (Buffer space session)) = None
session_at None = None

-- the weight of a buffer in a count
abbrev pub lent_weight : Option ℕ → ℕ
lent_weight None = 0
lent_weight (Some key) = 1

-- the buffer that what a selector has is a capability of, by the selector of the session that lends it and by its dataspace's
-- key
abbrev pub buffer_at : Option Cap → Option (ℕ × ℕ)
buffer_at (Some (Dataspace ds)) = None
buffer_at (Some RpcObject) = None
buffer_at (Some (Session server session)) = None
buffer_at (Some (Buffer space session)) = Some (session.0, space.0)
buffer_at None = None

-- the buffer of the session under a selector, if it has one, as a capability of it
abbrev pub lent_from : ℕ → Option ℕ → Option (ℕ × ℕ)
lent_from q lent = option_map (λ key. (q, key)) lent

-- a dataspace has one selector at most, be it its own or lent
abbrev pub IsOne : NatMap Cap → Type 0
IsOne caps = (s t key : ℕ) → key_at (get caps s) ≡ Some key → key_at (get caps t) ≡ Some key → s ≡ t

-- each dataspace that a selector names and that is no buffer is one that the account pays for; each has one selector
pub record IsNamed (part : Part) (caps : NatMap Cap) : Type 0 where
  pub there : (selector : ℕ) (ds : DsId) → get caps selector ≡ Some (Dataspace ds) → IsSome (get part.spaces ds.0)
  pub one : IsOne caps

-- the account is open. It uses a capability for each selector except those of sessions and of buffers, each sliced block,
-- each chunk and each large block. It also uses one for each dataspace and each RPC object; blocks and chunks are dataspaces
-- without a selector. There is a place for as many selectors as it can pay for in addition to those
pub record IsPaid (part : Part) (space : Space) (heap : OwnHeap) (sliced : NatMap (List ℕ)) : Type 0 where
  pub is_open : IsSome part.account
  pub named : len space.caps + len sliced + heap_count heap ≤ (account_of part).caps_used + total session_weight space.caps
  pub spare : len part.spaces + total rpc_weight space.caps ≤ (account_of part).caps_used
  pub placed : (account_of part).caps_limit + total session_weight space.caps ≤ space.places

-- each region is of a dataspace that a selector names
abbrev pub AreNamed : NatMap Cap → NatMap Region → Type 0
AreNamed caps user =
    (start : ℕ) (region : Region) → get user start ≡ Some region → IsSome (selector_of caps region.of)

-- each heap region shows a dataspace that the account pays for, and that no selector names
pub record AreBlocks (part : Part) (caps : NatMap Cap) (heap : NatMap Region) : Type 0 where
  pub held : (start : ℕ) (region : Region) → get heap start ≡ Some region → IsSome (get part.spaces region.of)
  pub unnamed : (start selector : ℕ) (region : Region) (ds : DsId) →
      get heap start ≡ Some region → get caps selector ≡ Some (Dataspace ds) → ds.0 ≢ region.of

-- what calls of the model keep: an own state is sound, uses what it holds, and uses no more than its limits
pub record IsLawful (s : OwnState) : Type 0 where
  pub sound : IsSound s
  pub uses : UsesWhatItHolds s
  pub within : WithinLimits s.account

-- what is true of a script with this part, these capabilities, these regions, this heap and these sliced blocks, for any
-- sessions. The machine has at least the account's RAM
pub record IsScript (lent : Lent) (part : Part) (space : Space) (regions : Regions) (heap : OwnHeap) (sliced : NatMap (List ℕ)) : Type 0 where
  pub named : IsNamed part space.caps
  pub paid : IsPaid part space heap sliced
  pub ram : (account_of part).ram_limit ≤ regions.pages * 4096
  pub attached : AreNamed space.caps regions.user
  pub most : regions.most ≡ most_regions
  pub blocks : AreBlocks part space.caps regions.heap
  pub lawful : (sessions : Sessions) → HasSessions sessions space.caps → IsLawful (own_of lent sessions part space.caps regions.user heap sliced)

-- a sliced heap is sound on each map of a memory that holds no sliced block of its account yet
abbrev pub IsNewSliced : SlicedHeap → Type 0
IsNewSliced heap =
    (store : Store) (regions : Regions) → IsOpenIn store (sliced_payer heap) → MapsMemory store regions →
    HasNoSliced (share_at (sliced_payer heap) store regions) → IsSoundSliced heap store regions

-- a heap is sound on each map of a memory that holds no block of its account yet, and has none there
pub record IsNewHeap (heap : Heap) : Type 0 where
  pub sound : (store : Store) (regions : Regions) → IsOpenIn store (heap_payer heap) →
      IsWindowOf store regions.pages regions.heap_most regions.heap →
      HasNoHeapBlocks (share_at (heap_payer heap) store regions) → IsSoundHeap heap store regions
  pub empty : (share : Share) → HasNoHeapBlocks share → heap_in heap share ≡ no_heap

-- a script's heaps take their blocks for the script's account, and all that is in the heap window of its map is their blocks
pub record HasHeaps (store : Store) (script : Script) : Type 0 where
  pub heap : IsSoundHeap script.heap store script.regions
  pub sliced : IsSoundSliced script.sliced store script.regions
  pub heap_pays : heap_payer script.heap ≡ script.account.0
  pub sliced_pays : sliced_payer script.sliced ≡ script.account.0
  pub all : (start : ℕ) (region : Region) → get script.regions.heap start ≡ Some region →
      (get (block_regions (share_at script.account.0 store script.regions)) start ≡ Some region)
      ⊎ IsSome (block_region (share_at script.account.0 store script.regions) start)

-- a dataspace is there, and another account than this pays for it
pub record IsOthers (account : ℕ) (store : Store) (key : ℕ) : Type 0 where
  pub there : Exists store key
  pub apart : (space_at store key).payer ≢ account

-- so is the dataspace of each buffer that a selector names
abbrev pub AreOthers : ℕ → Store → NatMap Cap → Type 0
AreOthers account store caps =
    (selector q key : ℕ) → buffer_at (get caps selector) ≡ Some (q, key) → IsOthers account store key

-- what is true of a script between calls
pub record IsSoundScript (store : Store) (script : Script) : Type 0 where
  pub own : IsScript (lent_in store) (part_at store script) script.caps script.regions (own_heap_at store script) (sliced_at store script)
  pub lent : AreOthers script.account.0 store script.caps.caps
  pub heaps : HasHeaps store script

-- the part of each account except this one is unchanged
abbrev pub OthersStay : ℕ → Store → Store → Type 0
OthersStay account old new = (other : ℕ) → other ≢ account → part other new ≡ part other old

-- bytes overwrite those of the buffer that a selector names, within it: the part of the account that pays for it has them,
-- and every other part is unchanged
pub record WritesLent (caps : NatMap Cap) (old new : Store) : Type 0 where
  pub selector : ℕ
  pub session : ℕ
  pub key : ℕ
  pub names : buffer_at (get caps selector) ≡ Some (session, key)
  pub offset : ℕ
  pub bytes : List ℕ
  pub within : offset + length bytes ≤ length (space_at old key).bytes
  pub becomes : let payer = (space_at old key).payer in
      PartBecomes payer (part_with_bytes (part payer old) key offset bytes) old new

-- a call for an account leaves what is not the account's, or it writes into a session's buffer
abbrev pub SparesOthers : ℕ → NatMap Cap → Store → Store → Type 0
SparesOthers account caps old new = OthersStay account old new ⊎ WritesLent caps old new

-- the script is sound after a call. These stay: its account, its reserve, its limits, its places for capabilities, its
-- sessions and their buffers. So do the root's key, each account's parent, the places for accounts and the sum of all limits
-- of RAM
pub record Keeps (old : Store) (before : Script) (new : Store) (after : Script) : Type 0 where
  pub sound : IsSoundScript new after
  pub account : after.account ≡ before.account
  pub reserve : after.reserve ≡ before.reserve
  pub ram_limit : (account_of (part_at new after)).ram_limit ≡ (account_of (part_at old before)).ram_limit
  pub caps_limit : (account_of (part_at new after)).caps_limit ≡ (account_of (part_at old before)).caps_limit
  pub places : after.caps.places ≡ before.caps.places
  pub sessions : (selector : ℕ) → session_at (get after.caps.caps selector) ≡ session_at (get before.caps.caps selector)
  pub buffers : (selector : ℕ) → buffer_at (get after.caps.caps selector) ≡ buffer_at (get before.caps.caps selector)
  pub session_count : total session_weight after.caps.caps ≡ total session_weight before.caps.caps
  pub root : root_in new ≡ root_in old
  pub parents : parents_in new ≡ parents_in old
  pub room : room_in new ≡ room_in old
  pub limits : ram_limits_in new ≡ ram_limits_in old
