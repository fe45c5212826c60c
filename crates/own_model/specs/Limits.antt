-- The limits of a component, of its reserve and of its open sessions together.
use Rattle.std.specs.Prelude.{ℕ, ◌+◌, ◌-◌, List, slice_set}
use Rattle.own_model.specs.Account.{Account, WithinLimits}
use Rattle.own_model.specs.Donation.{raised}
use Rattle.own_model.specs.NatMap.{total}
use Rattle.own_model.specs.OwnState.{OwnState, Object, EachSession}
use Rattle.own_model.specs.OwnState.Object.{Dataspace, RpcObject, OpenSession, Buffer}
use Rattle.own_model.specs.StartList.{init_at}

-- the limits of the account that an object has, if it is a session
abbrev pub ram_with : Object → ℕ
ram_with (Dataspace bytes) = 0
ram_with RpcObject = 0
ram_with (OpenSession session) = session.account.ram_limit
ram_with (Buffer session bytes) = 0

abbrev pub caps_with : Object → ℕ
caps_with (Dataspace bytes) = 0
caps_with RpcObject = 0
caps_with (OpenSession session) = session.account.caps_limit
caps_with (Buffer session bytes) = 0

-- all limits of RAM that a component has, its reserve and its sessions' among them
abbrev pub ram_limits : OwnState → ℕ
ram_limits s = s.account.ram_limit + s.reserve.ram + total ram_with s.selectors

-- all limits of capabilities, the same
abbrev pub caps_limits : OwnState → ℕ
caps_limits s = s.account.caps_limit + s.reserve.caps + total caps_with s.selectors

-- an init's account after a component that it started changes from one own state to another: what that loses of limits, it gains
abbrev pub init_after : Account → OwnState → OwnState → Account
init_after init s next = raised init (ram_limits s - ram_limits next) (caps_limits s - caps_limits next)

-- the accounts of all inits after that, where the component's init has this number
abbrev pub inits_after : ℕ → List Account → OwnState → OwnState → List Account
inits_after home inits s next = slice_set inits home (init_after (init_at inits home) s next)

-- neither the component's account is overdrawn nor that of a session
pub record AreWithinLimits (s : OwnState) : Type 0 where
  pub own : WithinLimits s.account
  pub sessions : EachSession (λ session. WithinLimits session.account) s
