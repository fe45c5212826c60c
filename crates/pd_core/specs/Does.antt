-- What a script's call does, as the model states it, for any open sessions.
use Rattle.std.specs.Prelude.{◌≡◌, ℕ, List, []}
use Rattle.own_model.specs.Call.{Call}
use Rattle.own_model.specs.Call.Call.{Poke}
use Rattle.own_model.specs.OwnStep.{Outcome, script_step}
use Rattle.own_model.specs.Reply.{Reply}
use Rattle.dataspace_core.specs.Store.{Store}
use Rattle.core_calls.specs.ReplyText.{Told}
use Rattle.core_calls.specs.declared.call.Call.{Call as Called}
use Rattle.pd_core.specs.declared.script.Script.{Script}
use Rattle.pd_core.specs.Answer.{told, told_of}
use Rattle.core_calls.specs.Call.{IsPlain, IsWellFormed}
use Rattle.pd_core.specs.Own.{Sessions, HasSessions, own_at}
use Rattle.pd_core.specs.Sound.{IsSoundScript, OthersStay, SparesOthers, Keeps}

-- a call is answered and leaves the own state of the script as the model's call does, keeps the rest of the script, and leaves
-- this of what isn't the script's
pub record DoesBeside (Beside : Type 0) (call : Call) (reply : Reply) (old : Store) (before : Script) (new : Store) (after : Script) : Type 0 where
  pub outcome : (sessions : Sessions) → HasSessions sessions before.caps.caps →
      ◌≡◌ {A = Outcome} (record { reply = reply; lines = []; next = own_at sessions new after }) (script_step call (own_at sessions old before))
  pub keeps : Keeps old before new after
  pub others : Beside

-- it leaves all of that
abbrev pub Does : Call → Reply → Store → Script → Store → Script → Type 0
Does call reply old before new after = DoesBeside (OthersStay before.account.0 old new) call reply old before new after

-- a poke may write into a session's buffer
abbrev pub DoesPoke : ℕ → List ℕ → Reply → Store → Script → Store → Type 0
DoesPoke address bytes reply old script new =
    DoesBeside (SparesOthers script.account.0 script.caps.caps old new) (Poke address bytes) reply old script new script

-- the same outcome with the text of the reply
abbrev pub DoesWithText : Call → Told → Store → Script → Store → Script → Type 0
DoesWithText call reply old before new after =
    (sessions : Sessions) → HasSessions sessions before.caps.caps →
    told reply (own_at sessions new after) ≡ told_of (script_step call (own_at sessions old before))

-- a script can be asked for this call, which is none of a session, none of the reserve and no exit
pub record CanDo (call : Called) (store : Store) (script : Script) : Type 0 where
  pub sound : IsSoundScript store script
  pub well_formed : IsWellFormed call
  pub plain : IsPlain call
