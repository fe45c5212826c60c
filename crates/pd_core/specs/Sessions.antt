-- The sessions of servers, as their clients see them.
use Rattle.std.specs.Prelude.{◌≡◌, ℕ, ◌+◌, ◌≤◌, List, Option, Some, None}
use Rattle.std.specs.FinMap.{get}
use Rattle.trade_base.specs.declared.id.SessionId.{SessionId}
use Rattle.own_model.specs.Call.{Call}
use Rattle.own_model.specs.NatMap.{NatMap, total}
use Rattle.own_model.specs.OwnState.{new_selector}
use Rattle.own_model.specs.OwnStep.{entry_step}
use Rattle.own_model.specs.Reply.{Reply, LogLine}
use Rattle.own_model.specs.StartList.{Entry}
use Rattle.own_model.specs.StartList.Kind.{Script as AScript}
use Rattle.own_model.specs.Session.{Session as AnOpenSession, Labelled, session_with}
use Rattle.cap_space.specs.declared.cap.Cap.{Cap}
use Rattle.cap_space.specs.declared.cap.Cap.TheVariants.{Session as ASession}
use Rattle.dataspace_core.specs.Store.{Store, account_in}
use Rattle.server_frame.specs.Frame.{Row}
use Rattle.pd_core.specs.Own.{Sessions, HasSessions, own_at}
use Rattle.pd_core.specs.Sound.{session_weight, lent_weight, buffer_at, lent_from}
use Rattle.pd_core.specs.declared.script.Script.{Script}

-- a session of the server at a place as its client sees it
abbrev pub row_session : ℕ → Row Labelled → AnOpenSession
row_session server row = session_with server row.account row.value

-- all sessions except one are the same
abbrev pub AgreeBut : Sessions → Sessions → ℕ → ℕ → Type 0
AgreeBut before after server key =
    (other_server other : ℕ) → ((other_server ≡ server) → (other ≡ key) → ⊥) → after other_server other ≡ before other_server other

-- a selector has the buffer of the session under another, and nothing if that has no buffer
pub record IsLentAt (caps : NatMap Cap) (q k : ℕ) (lent : Option ℕ) : Type 0 where
  pub has : buffer_at (get caps k) ≡ lent_from q lent
  pub free : lent ≡ None → get caps k ≡ None

-- if the session has no buffer, it is the new selector; no other selector has a buffer of the session
pub record HoldsLent (caps : NatMap Cap) (q k : ℕ) (lent : Option ℕ) : Type 0 where
  pub at : IsLentAt caps q k lent
  pub new : lent ≡ None → k ≡ new_selector caps
  pub only : (j key : ℕ) → buffer_at (get caps j) ≡ Some (q, key) → (j ≡ k) × (lent ≡ Some key)

-- a selector of a script, and no other, names a session of the server under this entry, whose client is the script's account, and
-- one has what it lends; it has two capabilities; and there is a place for each selector that the account could pay for with
-- its limits
pub record NamesSession (script : Script) (store : Store) (rows : NatMap (Row Labelled)) (selector server : ℕ) (session : SessionId) : Type 0 where
  pub row : Row Labelled
  pub there : get rows session.0 ≡ Some row
  pub client : row.client ≡ script.account.0
  pub named : get script.caps.caps selector ≡ Some (ASession server session)
  pub once : (q : ℕ) (other : SessionId) → get script.caps.caps q ≡ Some (ASession server other) → other.0 ≡ session.0 → q ≡ selector
  pub under : ℕ
  pub lent : HoldsLent script.caps.caps selector under row.buffer
  pub least : 2 ≤ row.account.caps_limit
  pub placed : (account_in store script.account.0).caps_limit + row.account.caps_limit + total session_weight script.caps.caps ≤ script.caps.places + 1 + lent_weight row.buffer

-- a call of a session as the model has it: its outcome, if all sessions except that one are the same before and after
abbrev pub DoesSession : Call → Reply → List LogLine → ℕ → ℕ → Option AnOpenSession → Option AnOpenSession → Store → Script → Store → Script → Type 0
DoesSession call reply lines server key was is old before new after =
    (entry : Entry) (S S' : Sessions) → HasSessions S before.caps.caps → entry.kind ≡ AScript → AgreeBut S S' server key → S server key ≡ was → S' server key ≡ is →
    entry_step entry call (own_at S old before) ≡ record { reply = reply; lines = lines; next = own_at S' new after }
