-- What a component has: its own state.
use Rattle.std.specs.Prelude.{◌≡◌, ℕ, ◌+◌, ◌/◌, ◌<◌, ◌==◌, List, [], length, Bool, false, nat_le, if◌then◌else◌, Option, Some, None, IsSome}
use Rattle.std.specs.List.{find}
use Rattle.std.specs.Option.{option_map, unwrap_or}
use Rattle.std.specs.FinMap.{get, keys, entries}
use Rattle.trade_base.specs.Bytes.{with_bytes}
use Rattle.own_model.specs.NatMap.{NatMap, joined, least_gap}
use Rattle.own_model.specs.Account.{Account}
use Rattle.own_model.specs.Amounts.{Amounts}
use Rattle.own_model.specs.OwnHeap.{OwnHeap, ranges_of_heap}
use Rattle.own_model.specs.Region.{Region}
use Rattle.own_model.specs.Session.{Session}
use Rattle.own_model.specs.Sliced.{ranges_of_blocks}
unfoldable pub use Rattle.own_model.specs.Zeros.{zeros}

-- what a selector names: a dataspace, by its bytes, an RPC object, which is a capability alone, a session, or the buffer that
-- the client shares with the session under a selector, by the buffer's bytes
pub data Object : Type 0 where
  Dataspace : List ℕ → Object
  RpcObject : Object
  OpenSession : Session → Object
  Buffer : ℕ → List ℕ → Object

-- a component's account, its reserve, of which nothing is used, what its selectors name, its regions by their start
-- addresses, each of a selector, its heap, its sliced blocks by the addresses of their payloads, each by its payload's
-- bytes, and whether it has exited. A server has its account alone
pub record OwnState : Type 0 where
  pub account : Account
  pub reserve : Amounts
  pub selectors : NatMap Object
  pub regions : NatMap Region
  pub heap : OwnHeap
  pub sliced : NatMap (List ℕ)
  pub gone : Bool

-- Q holds of each session that a selector names
abbrev pub EachSession : (Session → Type 0) → OwnState → Type 0
EachSession Q s = (selector : ℕ) (session : Session) → get s.selectors selector ≡ Some (OpenSession session) → Q session

-- what is in the heap window: sliced blocks, chunks and large blocks, as ranges of pages by their starts
abbrev pub heap_ranges : OwnState → NatMap Region
heap_ranges s = joined (ranges_of_blocks s.sliced) (ranges_of_heap s.heap)

-- how many pages these bytes fill
abbrev pub pages_in : List ℕ → ℕ
pages_in bytes = length bytes / 4096

-- bytes with a part put over them at an offset, if it fits within them
unfoldable pub with_part : List ℕ → ℕ → List ℕ → List ℕ
with_part bytes offset part =
    if nat_le (offset + length part) (length bytes) then with_bytes bytes offset part else bytes

-- the bytes of what a selector names, if that has bytes, which regions can show
abbrev pub named_bytes : Option Object → Option (List ℕ)
named_bytes (Some (Dataspace bytes)) = Some bytes
named_bytes (Some RpcObject) = None
named_bytes (Some (OpenSession session)) = None
named_bytes (Some (Buffer session bytes)) = Some bytes
named_bytes None = None

-- the same, and no bytes where it has none
abbrev pub bytes_named : Option Object → List ℕ
bytes_named object = unwrap_or (named_bytes object) []

-- what a selector names, with a part put over its bytes at an offset
abbrev pub object_with : Object → ℕ → List ℕ → Object
object_with (Dataspace bytes) offset part = Dataspace (with_part bytes offset part)
object_with RpcObject offset part = RpcObject
object_with (OpenSession session) offset part = OpenSession session
object_with (Buffer session bytes) offset part = Buffer session (with_part bytes offset part)

-- the session that a selector names, if it names one
abbrev pub session_named : Option Object → Option Session
session_named (Some (OpenSession session)) = Some session
session_named (Some (Dataspace bytes)) = None
session_named (Some RpcObject) = None
session_named (Some (Buffer session bytes)) = None
session_named None = None

-- the place of the server of the session that a selector names, if it names one
abbrev pub server_named : Option Object → Option ℕ
server_named object = option_map (λ (session : Session). session.server) (session_named object)

-- ---- buffers

-- what a selector names is the buffer of the session under another
abbrev pub is_buffer_of : ℕ → Option Object → Bool
is_buffer_of q (Some (Buffer session bytes)) = session == q
is_buffer_of q (Some (Dataspace bytes)) = false
is_buffer_of q (Some RpcObject) = false
is_buffer_of q (Some (OpenSession session)) = false
is_buffer_of q None = false

-- a buffer as its client has it: the selector that names it, and its bytes
pub record NamedBuffer : Type 0 where
  pub selector : ℕ
  pub bytes : List ℕ

abbrev pub named_buffer : ℕ × Object → NamedBuffer
named_buffer e = record { selector = e.0; bytes = bytes_named (Some e.1) }

-- the buffer of the session under a selector, if one is named: the first one
unfoldable pub buffer_of : ℕ → NatMap Object → Option NamedBuffer
buffer_of q selectors = option_map named_buffer (find (λ e. is_buffer_of q (Some e.1)) (entries selectors))

-- its bytes
abbrev pub bytes_of_buffer : Option NamedBuffer → Option (List ℕ)
bytes_of_buffer buffer = option_map (λ b. b.bytes) buffer

-- ---- new selectors

-- a selector is the least positive number that is not in use
pub record IsLeastUnused {X : Type 0} (selectors : NatMap X) (selector : ℕ) : Type 0 where
  pub positive : 0 < selector
  pub free : get selectors selector ≡ None
  pub least : (other : ℕ) → 0 < other → other < selector → IsSome (get selectors other)

-- the new selector, as it is computed: the least number from 1 on that none of the rising keys is
unfoldable pub new_selector : {X : Type 0} → NatMap X → ℕ
new_selector selectors = least_gap 1 (keys selectors)
