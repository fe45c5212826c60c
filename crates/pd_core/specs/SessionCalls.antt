-- A call of a session in the core: what it requires of the components, and what it does to the world.
use Rattle.std.specs.Prelude.{◌≡◌, true, false, ℕ, zero, suc, ◌<◌, ◌≤◌, List, length, map, get_or, Option, Some, None, IsSomeAnd, Result, Err}
use Rattle.std.specs.FinMap.{get, len}
use Rattle.std.specs.List.{All, flat_map}
use Rattle.std.specs.Option.{ok_or, option_map}
use Rattle.trade_base.specs.declared.id.DsId.{DsId}
use Rattle.trade_base.specs.declared.id.Selector.{Selector}
use Rattle.trade_base.specs.declared.id.SessionId.{SessionId}
use Rattle.trade_base.specs.declared.refusal.Refusal.{Refusal}
use Rattle.trade_base.specs.declared.refusal.Refusal.TheVariants.{Gone, InvalidSession, NotAScript}
use Rattle.own_model.specs.Call.{Call}
use Rattle.own_model.specs.Reply.{reply_text, log_text}
use Rattle.own_model.specs.Offer.{Offer}
use Rattle.own_model.specs.Routes.{ServerAt, provider}
use Rattle.own_model.specs.World.{outcome_at, with_state}
use Rattle.cap_space.specs.Space.{with_cap, without_cap, is_buffer}
use Rattle.own_model.specs.NatMap.{NatMap}
use Rattle.cap_space.specs.declared.cap.Cap.{Cap}
use Rattle.cap_space.specs.declared.cap.Cap.TheVariants.{Session as ASession, Buffer as ABuffer}
use Rattle.region_map.specs.Regions.{all_detached}
use Rattle.dataspace_core.specs.Store.{Store, root_in, IsChildIn}
use Rattle.core_calls.specs.ReplyText.{Told}
use Rattle.pd_core.specs.Answer.{told_alone, reply_of}
use Rattle.pd_core.specs.declared.call_value.CallValue.{CallValue}
use Rattle.pd_core.specs.Component.{Pays, script_in, offer_of, caps_in}
use Rattle.pd_core.specs.Core.{Places, Roles, roles_of, world_of, IsCore}
use Rattle.pd_core.specs.Sound.{session_at}
use Rattle.pd_core.specs.declared.component.Role.{Role}
use Rattle.pd_core.specs.declared.component.Role.TheVariants.{Script, Server, Init as InitRole, Gone as GoneRole}
use Rattle.pd_core.specs.declared.script.Script.{Script as AnyScript}
use Rattle.pd_core.specs.declared.component.Component.{Component}

-- the place of the component that serves a request of the component at a place, for a service by its name, with a given
-- label
abbrev pub Leads : Type 0
Leads = ℕ → List ℕ → List ℕ → Option ℕ

-- what the component at a place offers
abbrev pub offer_at : List Component → ℕ → Option Offer
offer_at components place = get_or (map offer_of components) place None

-- the server there
abbrev pub server_at : List Component → ℕ → Option ServerAt
server_at components place = option_map (λ kind. record { kind = kind; place = place }) (offer_at components place)

-- an account is below that of the role of an init
abbrev pub IsBelowInit : Store → Role → ℕ → Type 0
IsBelowInit store (Script script) account = ⊥
IsBelowInit store (Server key host) account = ⊥
IsBelowInit store (InitRole key) account = IsChildIn store account key.0
IsBelowInit store GoneRole account = ⊥

-- an account is below that of the init of a number: the root's, or that of the init at the place before the number
abbrev pub IsBelowParentInit : Store → Roles → ℕ → ℕ → Type 0
IsBelowParentInit store roles zero account = IsChildIn store account (root_in store)
IsBelowParentInit store roles (suc place) account = IsBelowInit store (roles place) account

-- each component's account is below that of its init
abbrev pub AreBelowParents : Places → Store → List Component → Type 0
AreBelowParents places store components =
    (i account : ℕ) → Pays (roles_of components i) account → IsBelowParentInit store (roles_of components) (places i).home account

-- a request of a component is routed to the server of its routes, or is denied as they deny it; a label has room for the
-- name of each component; and each component's account is below its init's
pub record Agrees (places : Places) (leads : Leads) (store : Store) (components : List Component) : Type 0 where
  pub names : All (λ c. length c.name.items ≤ 140) components
  pub each : (i : ℕ) (service label : List ℕ) → i < length components →
      option_map (server_at components) (leads i service label) ≡ option_map Some (provider (places i).routes service label)
  pub homes : AreBelowParents places store components

-- the session that a selector of a script names, by its server's entry and its key there, or why there is none
abbrev pub named_in : Role → ℕ → Result (ℕ × SessionId) Refusal
named_in (Script script) selector = ok_or (session_at (get script.caps.caps selector)) InvalidSession
named_in (Server account host) selector = Err NotAScript
named_in (InitRole account) selector = Err NotAScript
named_in GoneRole selector = Err Gone

-- a role with another script in place of its own, if it has one
abbrev pub with_script : (AnyScript → AnyScript) → Role → Role
with_script change (Script script) = Script (change script)
with_script change (Server account host) = Server account host
with_script change (InitRole account) = InitRole account
with_script change GoneRole = GoneRole

-- a role without a selector's capability
abbrev pub without_selector : Role → ℕ → Role
without_selector role selector = with_script (λ script. record script { caps = without_cap script.caps selector }) role

-- there is a selector for one capability more
abbrev pub HasSelectorLeft : Role → Type 0
HasSelectorLeft role = IsSomeAnd (script_in role) (λ script. len script.caps.caps < script.caps.places)

-- a role with a session under a selector
abbrev pub with_session : Role → ℕ → ℕ → SessionId → Role
with_session role selector server session =
    with_script (λ script. record script { caps = with_cap script.caps selector (ASession server session) }) role

-- a role with a buffer under a selector
abbrev pub with_buffer : Role → ℕ → DsId → Selector → Role
with_buffer role selector space session =
    with_script (λ script. record script { caps = with_cap script.caps selector (ABuffer space session) }) role

-- a role without a selector's capability and without the regions of a dataspace
abbrev pub without_buffer : Role → ℕ → ℕ → Role
without_buffer role selector space =
    with_script (λ script. record script { caps = without_cap script.caps selector; regions = all_detached script.regions space }) role

-- a selector names the buffer in a dataspace
pub record IsLentTo (space : ℕ) (caps : NatMap Cap) : Type 0 where
  pub selector : ℕ
  pub named : is_buffer space (get caps selector) ≡ true

-- a script's does
abbrev pub NamesBuffer : ℕ → Role → Type 0
NamesBuffer space role = IsSomeAnd (script_in role) (λ script. IsLentTo space script.caps.caps)

-- the buffer in a dataspace is removed from its least selector, and its regions are removed
pub record DropsBuffer (space : ℕ) (old new : Component) : Type 0 where
  pub selector : ℕ
  pub named : is_buffer space (get (caps_in old.role) selector) ≡ true
  pub least : (other : ℕ) → other < selector → is_buffer space (get (caps_in old.role) other) ≡ false
  pub gone : new ≡ record old { role = without_buffer old.role selector space }

-- a call of the component at a place is answered as the model's, and leaves the world that the model's leaves
pub record Answers (places : Places) (call : Call) (i : ℕ) (reply : Told) (old : Store) (before : List Component) (new : Store) (after : List Component) : Type 0 where
  pub answered : reply.text ≡ reply_text (outcome_at (world_of places old before) i call).reply
  pub lines : reply.lines ≡ flat_map log_text (outcome_at (world_of places old before) i call).lines
  pub stepped : world_of places new after ≡ with_state (world_of places old before) i (outcome_at (world_of places old before) i call).next

-- a relation of components on a memory and those on a later memory
abbrev pub CoreRelation : Type 1
CoreRelation = Store → List Component → Store → List Component → Type 0

-- each component's account is still below that of its init
abbrev pub ParentsStay : CoreRelation
ParentsStay old before new after = (places : Places) → AreBelowParents places old before → AreBelowParents places new after

-- requests are routed as before
abbrev pub RoutesStay : CoreRelation
RoutesStay old before new after = (places : Places) (leads : Leads) → Agrees places leads old before → Agrees places leads new after

-- the call is answered so, the core is sound afterwards, each account is still below its init's, and routes are unchanged
pub record Goes (places : Places) (call : Call) (i : ℕ) (reply : Told) (old : Store) (before : List Component) (new : Store) (after : List Component) : Type 0 where
  pub answers : Answers places call i reply old before new after
  pub core : IsCore new after
  pub homes : ParentsStay old before new after
  pub leads : RoutesStay old before new after

-- the same of a call with this result and no log lines
abbrev pub GoesWith : Places → Call → ℕ → Result CallValue Refusal → Store → List Component → Store → List Component → Type 0
GoesWith places call i result old before new after = Goes places call i (told_alone (reply_text (reply_of result))) old before new after
