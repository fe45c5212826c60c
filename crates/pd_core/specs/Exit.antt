-- How a component exits: what its sessions' closes leave, one after another.
use Rattle.std.specs.Prelude.{◌≡◌, ◌≤◌, ℕ, List, slice_set, Option, Some, None, IsSome, Result, Ok, Err}
use Rattle.std.specs.FinMap.{get}
use Rattle.trade_base.specs.declared.refusal.Refusal.{Refusal}
use Rattle.trade_base.specs.declared.refusal.Refusal.TheVariants.{Gone as IsGone, NotAScript}
use Rattle.own_model.specs.Limits.{ram_limits, caps_limits}
use Rattle.own_model.specs.OwnState.{OwnState, session_named}
use Rattle.own_model.specs.Transcript.{state_at}
use Rattle.own_model.specs.World.{World}
use Rattle.pd_core.specs.Component.{caps_in}
use Rattle.dataspace_core.specs.Store.{Store, ClosesPart, caps_limits_in}
use Rattle.pd_core.specs.Core.{Places, world_of, IsCore}
use Rattle.pd_core.specs.SessionCalls.{ParentsStay, RoutesStay}
use Rattle.pd_core.specs.declared.component.Component.{Component}
use Rattle.pd_core.specs.declared.component.Role.{Role}
use Rattle.pd_core.specs.declared.component.Role.TheVariants.{Script, Server, Init, Gone}

-- the refusal of a role's calls, if they are refused
abbrev pub refusal_of : Role → Option Refusal
refusal_of (Script script) = None
refusal_of (Server account host) = Some NotAScript
refusal_of (Init account) = Some NotAScript
refusal_of Gone = Some IsGone

abbrev pub IsScriptRole : Role → Type 0
IsScriptRole role = refusal_of role ≡ None

-- an account closes and then another, both below the same one
pub record ClosesBoth (account reserve parent : ℕ) (old new : Store) : Type 0 where
  pub between : Store
  pub first : ClosesPart account parent old between
  pub caps : caps_limits_in between ≡ caps_limits_in old
  pub last : ClosesPart reserve parent between new

-- the number of selectors for which a role has places, or the refusal
abbrev pub places_or_refusal : Role → Result ℕ Refusal
places_or_refusal (Script script) = Ok script.caps.places
places_or_refusal (Server account host) = Err NotAScript
places_or_refusal (Init account) = Err NotAScript
places_or_refusal Gone = Err IsGone

-- each selector in use is one of 1 to so many
abbrev pub HasSelectorsTo : ℕ → Role → Type 0
HasSelectorsTo count role = (selector : ℕ) → IsSome (get (caps_in role) selector) → (1 ≤ selector) × (selector ≤ count)

-- from one own state to another: the sessions of the selectors 1 to n are closed, and the account has their limits
pub record HasClosed (count : ℕ) (old new : OwnState) : Type 0 where
  pub ram : ram_limits new ≡ ram_limits old
  pub caps : caps_limits new ≡ caps_limits old
  pub here : new.gone ≡ old.gone
  pub none : (selector : ℕ) → 1 ≤ selector → selector ≤ count → session_named (get new.selectors selector) ≡ None
  pub no_more : (selector : ℕ) → session_named (get old.selectors selector) ≡ None → session_named (get new.selectors selector) ≡ None

-- the same of the component at a place of a world; all else is unchanged
pub record HasClosedAt (i count : ℕ) (old new : World) : Type 0 where
  pub closed : HasClosed count (state_at old.states i) (state_at new.states i)
  pub others : new ≡ record old { states = slice_set old.states i (state_at new.states i) }

-- the first sessions of the component at a place are closed and the core is sound afterwards. Each account is still below
-- its init's, and routes are unchanged
pub record ClosesTo (i count : ℕ) (old : Store) (before : List Component) (new : Store) (after : List Component) : Type 0 where
  pub closed : (places : Places) → HasClosedAt i count (world_of places old before) (world_of places new after)
  pub core : IsCore new after
  pub homes : ParentsStay old before new after
  pub leads : RoutesStay old before new after
