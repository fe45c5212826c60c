-- The state of a meter of a session whose requests it observes, and of its runs up to the first shortfall.
use Rattle.std.specs.Prelude.{◌≡◌, ◌<◌, ◌^◌, ℕ, false, Bool, List, [], ◌∷◌, ◌++◌, Option, None}
use Rattle.own_model.specs.Amounts.{Amounts}
use Rattle.own_model.specs.OwnState.{NamedBuffer, bytes_of_buffer}
use Rattle.own_model.specs.OwnStep.{completed}
use Rattle.own_model.specs.Session.{Session, Served, served}
use Rattle.core_calls.specs.Quotas.{quotas_account}
use Rattle.core_calls.specs.declared.quotas.Quotas.{Quotas}
use Rattle.budget_theorems.specs.Request.{donating}
use Rattle.budget_theorems.specs.RequestTheorems.{Reaches, session_needs, session_run, session_is_short}
use Rattle.budget_theorems.specs.RequestTheorems.Reaches.{Asked}
use Rattle.budget_meter.specs.Needs.{amounts_of, shown_by, shown_in}
use Rattle.budget_meter.specs.SessionRuns.{Sent, reaching_to_want, run_in_want, opens_none, opening_need, opened_needs, opened_in_want}
use Rattle.budget_meter.specs.KeptState.{KeepsState, heap_shape}
use Rattle.budget_meter.specs.declared.meter.Meter.{Meter}
use Rattle.budget_meter.specs.declared.session.SessionMeter.{SessionMeter}

-- of a session: its account, how far the heap of its files or objects grows, and these, by name and size
pub record IsAt (meter : SessionMeter) (session : Session) : Type 0 where
  pub account : quotas_account meter.account ≡ session.account
  pub few : meter.account.ram_limit.0 < 2 ^ 64
  pub growth : meter.pages ≡ (heap_shape session.state).growth
  pub kept : KeepsState meter.sizes meter.objects session.state

-- a request of a session with this buffer was served, with this reply, and left this account
pub record IsServedBy (reply : List ℕ) (left : Quotas) (buffer : Option NamedBuffer) (o : Served) : Type 0 where
  pub selector : ℕ
  pub told : reply ≡ completed buffer o.buffer selector o.reply
  pub leaves : quotas_account left ≡ o.session.account

-- the meter has observed all this of a session that was opened with a donation: it states the begin of the donation's cell,
-- with the opening's test among those that passed, and the greatest choice
pub record HasReached (all : List Reaches) (donation : Amounts) (session : Session) (meter : SessionMeter) : Type 0 where
  pub start : amounts_of meter.meter.start ≡ donation
  pub opens : opens_none donation ≡ false
  pub shown : shown_in meter.meter ≡ shown_by donation (opening_need donation ∷ session_needs donation all (donating donation session))
  pub at : IsAt meter (session_run all (donating donation session))

-- from all that it has observed, it observes one request more
abbrev pub Observes : SessionMeter → SessionMeter → List ℕ → List ℕ → Quotas → Type 0
Observes old new request reply left =
    (all : List Reaches) (donation : Amounts) (session : Session) (buffer : Option NamedBuffer) → HasReached all donation session old →
    IsServedBy reply left buffer (served (bytes_of_buffer buffer) (session_run all (donating donation session)) request) →
    HasReached (all ++ Asked (bytes_of_buffer buffer) request ∷ []) donation session new

-- ---- runs

-- this is left of what is sent to a session in a run from a donation, with this buffer and this session; its meter observed
-- no shortfall
pub record IsLeft (sent rest : List Sent) (donation : Amounts) (session : Session) (buffer : Option (List ℕ)) (now : Session) (meter : SessionMeter) : Type 0 where
  pub heard : List Reaches
  pub has : HasReached heard donation session meter
  pub here : session_run heard (donating donation session) ≡ now
  pub part : reaching_to_want sent None (donating donation session) ≡ heard ++ reaching_to_want rest buffer now
  pub want : run_in_want sent session donation ≡ session_is_short (reaching_to_want rest buffer now) now

-- the run of a session with its opening, from a donation up to its first shortfall: whether it has one, the begin of its
-- cell, and the greatest choice
pub record Shows (sent : List Sent) (session : Session) (donation : Amounts) (wanting : Bool) (meter : Meter) : Type 0 where
  pub start : amounts_of meter.start ≡ donation
  pub shown : shown_in meter ≡ shown_by donation (opened_needs sent session donation)
  pub want : wanting ≡ opened_in_want sent session donation
