-- An answer as the model sees it.
use Rattle.std.specs.Prelude.{◌≡◌, ◌+◌, ℕ, List, [], Result, Ok, Err}
use Rattle.std.specs.List.{flat_map}
use Rattle.trade_base.specs.declared.refusal.Refusal.{Refusal}
use Rattle.own_model.specs.Account.{Account}
use Rattle.own_model.specs.OwnState.{OwnState}
use Rattle.own_model.specs.OwnStep.{Outcome}
use Rattle.own_model.specs.Reply.{Reply as Modelled, reply_text, log_text}
use Rattle.own_model.specs.Reply.Reply.{Selected as ModelledSelected, Attached as ModelledAttached, Done as ModelledDone, Quotas as ModelledQuotas, Reserved as ModelledReserved, Refused as ModelledRefused}
pub use Rattle.core_calls.specs.Quotas.{quotas_account, reserve_amounts}
use Rattle.core_calls.specs.ReplyText.{Told as Written}
pub use Rattle.core_calls.specs.ReplyText.{told_alone}
use Rattle.pd_core.specs.declared.call_value.CallValue.{CallValue}
use Rattle.pd_core.specs.declared.call_value.CallValue.TheVariants.{Selected, Attached, Done, Quotas, Reserved}

-- the model's value of the result of a call
abbrev pub model_answer : CallValue → Modelled
model_answer (Selected selector) = ModelledSelected selector.0
model_answer (Attached address) = ModelledAttached address
model_answer Done = ModelledDone
model_answer (Quotas quotas) = ModelledQuotas (quotas_account quotas)
model_answer (Reserved reserve) = ModelledReserved (reserve_amounts reserve)

-- the model's value of a result or a refusal
abbrev pub reply_of : Result CallValue Refusal → Modelled
reply_of (Ok answer) = model_answer answer
reply_of (Err refusal) = ModelledRefused refusal

-- the outcome of a call with this result and this own state: no call finishes a log line yet
abbrev pub outcome_of : Result CallValue Refusal → OwnState → Outcome
outcome_of result next = record { reply = reply_of result; lines = []; next = next }

-- a printed outcome: the text of the reply, that of the log lines, and the own state
pub record Told : Type 0 where
  pub text : List ℕ
  pub lines : List ℕ
  pub next : OwnState

-- the reply and the log lines of an outcome as their texts
abbrev pub told_of : Outcome → Told
told_of outcome = record { text = reply_text outcome.reply; lines = flat_map log_text outcome.lines; next = outcome.next }

-- a call that writes this reply and leaves this own state
abbrev pub told : Written → OwnState → Told
told reply next = record { text = reply.text; lines = reply.lines; next = next }

-- the limits of a component's account are those of its account among inits' and of its own state's together: an init's own
-- state has none, and a component that is no init has none among inits'
pub record CountsLimits (told init own : Account) : Type 0 where
  pub ram : told.ram_limit ≡ init.ram_limit + own.ram_limit
  pub caps : told.caps_limit ≡ init.caps_limit + own.caps_limit
