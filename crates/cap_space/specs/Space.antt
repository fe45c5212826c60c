-- What a contract sees of a capability space.
use Rattle.std.specs.Prelude.{ℕ, ◌==◌, Bool, true, false, Option, Some, None}
use Rattle.std.proofs.Common.{refl}
use Rattle.std.specs.Coded.{Coded, code_by, coded×, coded_ℕ}
use Rattle.std.specs.FinMap as map
use Rattle.std.specs.FinMap.{insert, remove, empty}
use Rattle.own_model.specs.NatMap.{NatMap}
use Rattle.cap_space.specs.contracts.cap.Cap as cap
use Rattle.cap_space.specs.declared.cap.Cap.{Cap}
use Rattle.cap_space.specs.declared.cap.Cap.TheVariants.{Dataspace, RpcObject, Session, Buffer}
use Rattle.trade_base.specs.declared.id.DsId.{DsId}
use Rattle.trade_base.specs.declared.id.SessionId.{SessionId}

-- the capabilities by their selectors, and how many find a place in all
pub record Space : Type 0 where
  pub caps : NatMap Cap
  pub places : ℕ

-- a space is stored as the pair of its fields
abbrev pub coded_space : Coded Space
coded_space =
    code_by
    (NatMap Cap × ℕ)
    (coded× (map.code coded_ℕ cap.the_row.coded) coded_ℕ)
    (λ s. (s.caps, s.places))
    (λ p. record { caps = p.0; places = p.1 })
    (λ _. refl)

-- the dataspace that what a selector has is a capability of
abbrev pub dataspace_of : Option Cap → Option DsId
dataspace_of (Some (Dataspace ds)) = Some ds
dataspace_of (Some RpcObject) = None
dataspace_of (Some (Session server session)) = None
dataspace_of (Some (Buffer space session)) = None
dataspace_of None = None

-- it is an RPC object
abbrev pub is_rpc_object : Option Cap → Bool
is_rpc_object (Some RpcObject) = true
is_rpc_object (Some (Dataspace ds)) = false
is_rpc_object (Some (Session server session)) = false
is_rpc_object (Some (Buffer space session)) = false
is_rpc_object None = false

-- the session that what a selector has is a capability of, by its server's entry and its key there
abbrev pub session_of : Option Cap → Option (ℕ × SessionId)
session_of (Some (Session server session)) = Some (server, session)
session_of (Some (Dataspace ds)) = None
session_of (Some RpcObject) = None
session_of (Some (Buffer space session)) = None
session_of None = None

-- it is the buffer that has this dataspace
abbrev pub is_buffer : ℕ → Option Cap → Bool
is_buffer space (Some (Buffer of session)) = of.0 == space
is_buffer space (Some (Dataspace ds)) = false
is_buffer space (Some RpcObject) = false
is_buffer space (Some (Session server session)) = false
is_buffer space None = false

-- an empty space of so many places
abbrev pub fresh_space : ℕ → Space
fresh_space places = record { caps = empty; places = places }

-- the space with a capability under a selector
abbrev pub with_cap : Space → ℕ → Cap → Space
with_cap space selector cap = record space { caps = insert space.caps selector cap }

-- the space with nothing under a selector
abbrev pub without_cap : Space → ℕ → Space
without_cap space selector = record space { caps = remove space.caps selector }
