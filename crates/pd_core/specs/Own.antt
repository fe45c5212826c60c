-- A script's own state, read out of its account's part of the memory, its capabilities, its regions and its heaps.
use Rattle.std.specs.Prelude.{◌≡◌, ◌⊎◌, ℕ, ◌==◌, ◌||◌, Bool, false, List, [], Option, Some, None, IsSome, Result, Ok, Err, is_some, if◌then◌else◌}
use Rattle.std.specs.List.{find}
use Rattle.std.specs.Option.{option_map, option_or}
use Rattle.std.specs.FinMap.{get, entries}
use Rattle.trade_base.specs.declared.id.DsId.{DsId}
use Rattle.trade_base.specs.declared.id.SessionId.{SessionId}
use Rattle.trade_base.specs.declared.refusal.Refusal.{Refusal}
use Rattle.trade_base.specs.declared.refusal.Refusal.TheVariants.{InvalidCap, PageFault}
use Rattle.own_model.specs.NatMap.{NatMap, picked}
use Rattle.own_model.specs.OwnHeap.{OwnHeap}
use Rattle.own_model.specs.OwnState.{OwnState, Object, pages_in}
use Rattle.own_model.specs.OwnState.Object.{Dataspace as ADataspace, RpcObject as AnRpcObject, OpenSession, Buffer as ABuffer}
use Rattle.own_model.specs.OwnStep.{count_refusal}
use Rattle.own_model.specs.Region.{Region, resolved}
use Rattle.own_model.specs.Reserve.{no_reserve}
use Rattle.own_model.specs.Session.{Session as AnOpenSession}
use Rattle.own_model.specs.Sliced.{block_found}
use Rattle.cap_space.specs.declared.cap.Cap.{Cap}
use Rattle.cap_space.specs.declared.cap.Cap.TheVariants.{Dataspace, RpcObject, Session, Buffer}
use Rattle.dataspace_core.specs.Store.{Store, Part, part, account_of, bytes_of, space_at}
use Rattle.heap_core.specs.Calls.{HoldsRange as HoldsRangeInBlock}
use Rattle.heap_core.specs.Heap.{heap_at}
use Rattle.sliced_heap.specs.Heap.{share_at, blocks_at, HoldsRange}
use Rattle.pd_core.specs.declared.script.Script.{Script}

-- ---- sessions

-- the open sessions, each by its server's entry and its key there
abbrev pub Sessions : Type 0
Sessions = ℕ → ℕ → Option AnOpenSession

-- none
abbrev pub no_sessions : Sessions
no_sessions server session = None

-- each session that a selector names is open
abbrev pub HasSessions : Sessions → NatMap Cap → Type 0
HasSessions sessions caps =
    (selector server : ℕ) (session : SessionId) → get caps selector ≡ Some (Session server session) → IsSome (sessions server session.0)

-- ---- buffers of sessions

-- the bytes of dataspaces by their keys, by which sessions' buffers are read
abbrev pub Lent : Type 0
Lent = ℕ → List ℕ

-- as a memory has them
abbrev pub lent_in : Store → Lent
lent_in store key = (space_at store key).bytes

-- nothing
abbrev pub no_lent : Lent
no_lent key = []

-- ---- the own state

-- what a capability is to a component: a buffer has the bytes of the dataspace that its session lends
abbrev pub object_of : Lent → Sessions → Part → Cap → Option Object
object_of lent sessions part (Dataspace ds) = option_map ADataspace (get part.spaces ds.0)
object_of lent sessions part RpcObject = Some AnRpcObject
object_of lent sessions part (Session server session) = option_map OpenSession (sessions server session.0)
object_of lent sessions part (Buffer space session) = Some (ABuffer session.0 (lent space.0))

-- the key of the dataspace that what a selector has is a capability of, its own or one that a session lends
abbrev pub key_at : Option Cap → Option ℕ
key_at (Some (Dataspace ds)) = Some ds.0
key_at (Some RpcObject) = None
key_at (Some (Session server session)) = None
key_at (Some (Buffer space session)) = Some space.0
key_at None = None

-- a capability is of the dataspace under this key
abbrev pub is_of : ℕ → Cap → Bool
is_of key (Dataspace ds) = ds.0 == key
is_of key RpcObject = false
is_of key (Session server session) = false
is_of key (Buffer space session) = space.0 == key

-- the selector that names the dataspace under a key
unfoldable pub selector_of : NatMap Cap → ℕ → Option ℕ
selector_of caps key = option_map (λ e. e.0) (find (λ e. is_of key e.1) (entries caps))

-- the regions, each under the selector that names its dataspace
unfoldable pub regions_of : NatMap Cap → NatMap Region → NatMap Region
regions_of caps user = picked (λ region. option_map (λ other. record region { of = other }) (selector_of caps region.of)) user

-- the own state of a component that has this part, these capabilities, these regions, this heap and these sliced blocks
unfoldable pub own_of : Lent → Sessions → Part → NatMap Cap → NatMap Region → OwnHeap → NatMap (List ℕ) → OwnState
own_of lent sessions part caps user heap sliced = record {
  account = account_of part;
  reserve = no_reserve;
  selectors = picked (object_of lent sessions part) caps;
  regions = regions_of caps user;
  heap = heap;
  sliced = sliced;
  gone = false;
}

-- a script's part of the memory
abbrev pub part_at : Store → Script → Part
part_at store script = part script.account.0 store

-- its heap
abbrev pub own_heap_at : Store → Script → OwnHeap
own_heap_at store script = heap_at script.heap store script.regions

-- its sliced blocks
abbrev pub sliced_at : Store → Script → NatMap (List ℕ)
sliced_at store script = blocks_at script.account.0 store script.regions

-- its own state
abbrev pub own_at : Sessions → Store → Script → OwnState
own_at sessions store script =
    own_of (lent_in store) sessions (part_at store script) script.caps.caps script.regions.user (own_heap_at store script) (sliced_at store script)

-- ---- what a script looks up

-- the dataspace of the capability of a selector, its own or a session's buffer, with its pages
abbrev pub sized_at : Lent → Part → Option Cap → Result (DsId × ℕ) Refusal
sized_at lent part (Some (Dataspace ds)) = Ok (ds, pages_in (bytes_of part ds.0))
sized_at lent part (Some RpcObject) = Err InvalidCap
sized_at lent part (Some (Session server session)) = Err InvalidCap
sized_at lent part (Some (Buffer space session)) = Ok (space, pages_in (lent space.0))
sized_at lent part None = Err InvalidCap

-- why so many bytes from an address on aren't found
abbrev pub range_refusal : NatMap Region → NatMap (List ℕ) → OwnHeap → ℕ → ℕ → Option Refusal
range_refusal user sliced heap address count =
    option_or (count_refusal count)
    (if is_some (resolved user address count) || is_some (block_found sliced address count) || is_some (block_found heap.payloads address count) then None
    else Some PageFault)

-- a range of bytes from an address on is in one user region, at this offset of its dataspace
abbrev pub IsFoundInRegion : Script → ℕ → ℕ → ℕ → ℕ → Type 0
IsFoundInRegion script address count ds offset = resolved script.regions.user address count ≡ Some (ds, offset)

-- or else in the payload of one sliced block, which is the dataspace
pub record IsFoundInSliced (store : Store) (script : Script) (address count ds offset : ℕ) : Type 0 where
  pub no_region : resolved script.regions.user address count ≡ None
  pub holds : HoldsRange (share_at script.account.0 store script.regions) ds offset address count

-- or else in one payload of the heap
pub record IsFoundInBlock (store : Store) (script : Script) (address count ds offset : ℕ) : Type 0 where
  pub no_region : resolved script.regions.user address count ≡ None
  pub no_sliced : block_found (sliced_at store script) address count ≡ None
  pub holds : HoldsRangeInBlock script.heap store script.regions ds offset address count

-- a range of bytes from an address on is found at this offset of a dataspace
abbrev pub IsFound : Store → Script → ℕ → ℕ → ℕ → ℕ → Type 0
IsFound store script address count ds offset =
    IsFoundInRegion script address count ds offset
    ⊎ (IsFoundInSliced store script address count ds offset ⊎ IsFoundInBlock store script address count ds offset)
