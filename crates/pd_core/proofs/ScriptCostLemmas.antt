-- What a script's selectors cost in capabilities: each session's account has one for itself and one for what it lends.
use Rattle.std.proofs.Common.{◌≡◌, ℕ, ◌+◌, ◌≤◌, Some, unwrap_or, ap, subst, arith}
use Rattle.std.specs.FinMap.{get}
use Rattle.std.specs.Option.{option_map}
use Rattle.own_model.specs.Account.{Account}
use Rattle.own_model.specs.Limits.{caps_limits, caps_with}
use Rattle.own_model.specs.NatMap.{total}
use Rattle.own_model.specs.OwnState.Object.{OpenSession}
use Rattle.own_model.specs.Session.{Labelled}
use Rattle.own_model.proofs.Totals.{total_le, total-picked}
use Rattle.cap_space.specs.declared.cap.Cap.{Cap}
use Rattle.cap_space.specs.declared.cap.Cap.TheVariants.{Dataspace, RpcObject, Session, Buffer}
use Rattle.dataspace_core.specs.Store.{Store, part, account_of}
use Rattle.server_frame.specs.Frame.{Row}
use Rattle.std.specs.Prelude.{IfSome}
use Rattle.pd_core.specs.Component.{amounts_in, places_in, own_in, lent_by, NamesItsSessions}
use Rattle.pd_core.specs.Core.{Roles, rows_at, sessions_in, IsSoundCore}
use Rattle.pd_core.specs.Own.{object_of, own_of, part_at, lent_in}
use Rattle.pd_core.specs.Sessions.{row_session}
use Rattle.pd_core.specs.Sound.{session_at, session_weight, IsSoundScript}
use Rattle.pd_core.specs.Component.{IsSoundRole}
use Rattle.pd_core.specs.declared.component.Role.TheVariants.{Script as AScript}
use Rattle.pd_core.specs.declared.script.Script.{Script}
use Rattle.pd_core.proofs.CoreHeldLemmas.{row_paid}
use Rattle.pd_core.proofs.LentPlaceLemmas.{alone_weight, lending_weight, lent_once, counted_by_sessions}

module _ {store : Store} {roles : Roles} (core : IsSoundCore store roles) where
  -- a session has two capabilities
  pub row_covers : (at id : ℕ) (row : Row Labelled) → get (rows_at store roles at) id ≡ Some row → 2 ≤ row.account.caps_limit
  row_covers at id row is =
      let paid = row_paid core at id row is in
      subst (λ (a : Account). 2 ≤ a.caps_limit) paid.account (core.room.paid row.key row.client paid.child (core.clients at id row is))

  module _ (i : ℕ) (script : Script) (is_script : roles i ≡ AScript script) where
    named : NamesItsSessions (rows_at store roles) (AScript script)
    named = subst (NamesItsSessions (rows_at store roles)) is_script (core.named i)

    sound : IsSoundScript store script
    sound = subst (IsSoundRole store) is_script (core.sound i)

    -- what a capability stands for has two capabilities where it is a session
    abbrev pub cost : Cap → ℕ
    cost cap = unwrap_or (option_map caps_with (object_of (lent_in store) (sessions_in store roles) (part_at store script) cap)) 0

    -- which are one for itself and one for what it lends
    abbrev pub weight : Cap → ℕ
    weight cap = alone_weight cap + lending_weight (rows_at store roles) cap

    pub cost_covers : (k : ℕ) (cap : Cap) → get script.caps.caps k ≡ Some cap → weight cap ≤ cost cap
    cost_covers k (Dataspace ds) is = omega arith
    cost_covers k RpcObject is = omega arith
    cost_covers k (Buffer space session) is = omega arith
    cost_covers k (Session at other) is =
        let one = named.its k at other (ap session_at is) in
        let least = row_covers at other.0 one.row one.there in
        let found = ap (λ o. unwrap_or (option_map caps_with (option_map OpenSession (option_map (row_session at) o))) 0) one.there in
        omega (arith, least, found, lent_once (lent_by (rows_at store roles) (Some (at, other))))

    -- so there is a place for each selector that the account could pay for with all that is in reserve
    pub placed_with_reserve : (account_of (part_at store script)).caps_limit + (amounts_in (part script.reserve.0 store)).caps + total session_weight script.caps.caps ≤ script.caps.places
    unfolding own_of
    placed_with_reserve =
        let all = subst (λ r. IfSome (places_in r) (λ p. caps_limits (own_in (sessions_in store roles) store r) ≤ p)) is_script (core.placed i) in
        let selectors = total-picked caps_with (object_of (lent_in store) (sessions_in store roles) (part_at store script)) script.caps.caps in
        let counted = counted_by_sessions (rows_at store roles) (AScript script) named sound.own.named.one in
        let rest = total_le weight cost script.caps.caps cost_covers in
        omega (arith, all, selectors, counted, rest)
