-- What a run answers, and whether it is short of quota.
use Rattle.std.specs.Prelude.{◌≡◌, ℕ, ◌||◌, Bool, true, false, List, [], ◌∷◌}
use Rattle.std.specs.Str.{bytes_eq}
use Rattle.trade_base.specs.Refusal.{refusal_name}
use Rattle.trade_base.specs.declared.refusal.Refusal.TheVariants.{OutOfRam, OutOfCaps}
use Rattle.own_model.specs.Call.{Call}
use Rattle.own_model.specs.Call.Call.{Request, CallSession}
use Rattle.own_model.specs.OwnState.{OwnState}
use Rattle.own_model.specs.OwnStep.{own_step}
use Rattle.own_model.specs.Reply.{Reply, LogLine, reply_text}
use Rattle.own_model.specs.Reply.Reply.{Quotas, Refused}
use Rattle.own_model.specs.StartList.{Entry}
use Rattle.own_model.specs.Amounts.{no_amounts}
use Rattle.budget_theorems.specs.Need.{limited}

-- a reply, except the limits that it contains
abbrev pub but_limits : Reply → Reply
but_limits (Quotas account) = Quotas (limited no_amounts account)
but_limits reply = reply

-- what a call is answered, and the lines that it finished
pub record Answer : Type 0 where
  pub reply : Reply
  pub lines : List LogLine

-- what the calls of a run are answered, except the limits that are printed
abbrev pub answers : Entry → List Call → OwnState → List Answer
answers entry [] s = []
answers entry (call ∷ calls) s =
    record { reply = but_limits (own_step entry call s).reply; lines = (own_step entry call s).lines }
    ∷ answers entry calls (own_step entry call s).next

-- a refusal is for lack of RAM or of capabilities
abbrev pub is_short : Reply → Bool
is_short (Refused OutOfRam) = true
is_short (Refused OutOfCaps) = true
is_short reply = false

-- a call is short of quota: its caller's account refuses it. A request is refused by the reserve
abbrev pub wants : Call → Reply → Bool
wants (Request text) reply = false
wants call reply = is_short reply

-- some call of a run is short of quota
abbrev pub run_is_short : Entry → List Call → OwnState → Bool
run_is_short entry [] s = false
run_is_short entry (call ∷ calls) s = wants call (own_step entry call s).reply || run_is_short entry calls (own_step entry call s).next

-- ---- by the texts of replies

abbrev pub shows_shortage : List ℕ → Bool
shows_shortage text = bytes_eq text (refusal_name OutOfRam) || bytes_eq text (refusal_name OutOfCaps)

-- a call is short of quota by what it is answered: a request is refused by the reserve, and of a session its server replies
abbrev pub shows_shortfall : Call → List ℕ → Bool
shows_shortfall (Request text) told = false
shows_shortfall (CallSession selector request) told = false
shows_shortfall call told = shows_shortage told

abbrev pub RepliesShowShortfalls : Type 0
RepliesShowShortfalls =
    (entry : Entry) (call : Call) (s : OwnState) →
    wants call (own_step entry call s).reply ≡ shows_shortfall call (reply_text (own_step entry call s).reply)
