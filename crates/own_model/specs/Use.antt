-- What an account's use is made of.
use Rattle.std.specs.Prelude.{◌≡◌, ℕ, ◌+◌, List, length, sum_by, Option, Some}
use Rattle.std.specs.FinMap.{get, len}
use Rattle.own_model.specs.BufferService.{buffer_ram, buffer_caps}
use Rattle.own_model.specs.Heap.{bytes_in}
use Rattle.own_model.specs.NatMap.{total}
use Rattle.own_model.specs.OwnHeap.{OwnHeap}
use Rattle.own_model.specs.OwnState.{OwnState, Object, buffer_of, bytes_of_buffer}
use Rattle.own_model.specs.Services.{Session, state_ram, state_caps}
use Rattle.own_model.specs.Session.{session_ram, session_caps}
use Rattle.own_model.specs.Sliced.{block_size}
use Rattle.own_model.specs.OwnState.Object.{Dataspace, RpcObject, OpenSession, Buffer}

-- the bytes of what a selector names, for which the account pays: a session pays for its buffer
abbrev pub object_size : Object → ℕ
object_size (Dataspace bytes) = length bytes
object_size RpcObject = 0
object_size (OpenSession session) = 0
object_size (Buffer session bytes) = 0

-- the capabilities of what a selector names: a session pays for itself and for its buffer
abbrev pub object_caps : Object → ℕ
object_caps (Dataspace bytes) = 1
object_caps RpcObject = 1
object_caps (OpenSession session) = 0
object_caps (Buffer session bytes) = 0

-- a session's account uses what a session is charged for: itself, what its server keeps, and its buffer
pub record UsesItsCharge (session : Session) (buffer : Option (List ℕ)) : Type 0 where
  pub ram : session.account.ram_used ≡ session_ram + state_ram session.state + buffer_ram buffer
  pub caps : session.account.caps_used ≡ session_caps + state_caps session.state + buffer_caps buffer

-- each session of a component does
abbrev pub UseTheirCharges : OwnState → Type 0
UseTheirCharges s =
    (selector : ℕ) (session : Session) → get s.selectors selector ≡ Some (OpenSession session) →
    UsesItsCharge session (bytes_of_buffer (buffer_of selector s.selectors))

-- the bytes of a heap's chunks and large blocks, and how many of them there are
abbrev pub heap_size : OwnHeap → ℕ
heap_size heap = sum_by bytes_in heap.shape.chunks + total (λ bytes. bytes) heap.large

abbrev pub heap_count : OwnHeap → ℕ
heap_count heap = length heap.shape.chunks + len heap.large

-- the account uses the bytes of what its selectors name, of its sliced blocks, and of its heap's chunks and large blocks,
-- and a capability for each but the sessions and their buffers, and no more
pub record UsesWhatItHolds (s : OwnState) : Type 0 where
  pub ram : s.account.ram_used ≡ total object_size s.selectors + total block_size s.sliced + heap_size s.heap
  pub caps : s.account.caps_used ≡ total object_caps s.selectors + len s.sliced + heap_count s.heap
