-- Theorems on reserves, as statements.
use Rattle.std.specs.Prelude.{◌≡◌, ◌+◌, false, [], if◌then◌else◌, List, ℕ}
use Rattle.own_model.specs.Account.{WithinLimits}
use Rattle.own_model.specs.Call.{Call, is_of_session, moves_reserve}
use Rattle.own_model.specs.Call.Call.{Request, Yield}
use Rattle.own_model.specs.OwnState.{OwnState}
use Rattle.own_model.specs.OwnStep.{own_step, script_step, exits}
use Rattle.own_model.specs.Reply.Reply.{Done}
use Rattle.own_model.specs.Reserve.{no_reserve}
use Rattle.own_model.specs.StartList.{Entry}

-- no call but a request or a yield changes the reserve, and an exit that is done leaves none
abbrev pub OthersKeepReserve : Type 0
OthersKeepReserve =
    (entry : Entry) (call : Call) (s : OwnState) → moves_reserve call ≡ false →
    (own_step entry call s).next.reserve ≡ (if exits entry call s then no_reserve else s.reserve)

-- requests and yields only move limits between the account and the reserve, as all calls do that are of no session: together
-- these have what they had, or nothing after an exit that is done
abbrev pub LimitsAreMoved : Type 0
LimitsAreMoved =
    (entry : Entry) (call : Call) (s : OwnState) → is_of_session call ≡ false →
    ((own_step entry call s).next.account.ram_limit + (own_step entry call s).next.reserve.ram
    ≡ (if exits entry call s then 0 else s.account.ram_limit + s.reserve.ram))
    × ((own_step entry call s).next.account.caps_limit + (own_step entry call s).next.reserve.caps
    ≡ (if exits entry call s then 0 else s.account.caps_limit + s.reserve.caps))

-- what was yielded can be requested again, and then all is as it was
abbrev pub YieldsAreRequested : Type 0
YieldsAreRequested =
    (s : OwnState) (text : List ℕ) → (script_step (Yield text) s).reply ≡ Done →
    script_step (Request text) (script_step (Yield text) s).next ≡ record { reply = Done; lines = []; next = s }

-- and the other way round, of an account that isn't overdrawn
abbrev pub RequestsAreYielded : Type 0
RequestsAreYielded =
    (s : OwnState) (text : List ℕ) → WithinLimits s.account → (script_step (Request text) s).reply ≡ Done →
    script_step (Yield text) (script_step (Request text) s).next ≡ record { reply = Done; lines = []; next = s }
