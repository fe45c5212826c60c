-- What a run of a script's own calls shows of its lines.
use Rattle.std.specs.Prelude.{ℕ, List, [], ◌∷◌, if◌then◌else◌, Option, Some, None}
use Rattle.std.specs.Str.{bytes_eq}
use Rattle.trade_base.specs.Refusal.{refusal_name}
use Rattle.trade_base.specs.declared.refusal.Refusal.TheVariants.{OutOfRam}
use Rattle.own_model.specs.Amounts.{Amounts}
use Rattle.own_model.specs.Call.{Call}
use Rattle.own_model.specs.Call.Call.{Exit}
use Rattle.own_model.specs.Listed.{Listed}
use Rattle.own_model.specs.OwnState.{OwnState}
use Rattle.own_model.specs.OwnStep.{Outcome, own_step}
use Rattle.own_model.specs.Reply.{Reply}
use Rattle.own_model.specs.Reply.Reply.{Refused}
use Rattle.own_model.specs.StartList.{Entry}
use Rattle.budget_theorems.specs.Need.{budgeted}
use Rattle.budget_theorems.specs.Shortfall.{wants}
use Rattle.budget_meter.specs.Asked.{asked_by}
use Rattle.budget_search.specs.Alike.{own_entry, own_state}
use Rattle.budget_search.specs.RunLines.{RunLines, ended_by, no_lines, preceded, skipped_by}
use Rattle.budget_search.specs.Steps.{Mark, call_of, call_written, mark_of}
use Rattle.budget_search.specs.declared.component_line.ComponentLine.{ComponentLine}
use Rattle.budget_search.specs.declared.trial.Shortage.{Shortage}
use Rattle.budget_search.specs.declared.trial.Shortage.TheVariants.{Ram, Caps}

-- ---- one call

-- the quota of which an account is short, by the reply to a call that is short of quota
abbrev pub quota_short : Reply → Shortage
quota_short (Refused OutOfRam) = Ram
quota_short reply = Caps

-- the same by the text of that reply
abbrev pub shown_short : List ℕ → Shortage
shown_short text = if bytes_eq text (refusal_name OutOfRam) then Ram else Caps

-- a call is made, with this outcome: if it is short of quota its line ends the run, and otherwise the rest of the run follows
abbrev pub lines_or : ℕ → Call → Outcome → (OwnState → RunLines) → RunLines
lines_or number call outcome rest =
    if wants call outcome.reply then ended_by (Some (record { line = number; shortage = quota_short outcome.reply })) else rest outcome.next

-- with its outcome in a state
abbrev pub lines_by : Entry → ℕ → Call → (OwnState → RunLines) → OwnState → RunLines
lines_by entry number call rest s = lines_or number call (own_step entry call s) rest

-- the same, unless the call is an exit, which ends the run
abbrev pub lines_on : Entry → ℕ → Call → (OwnState → RunLines) → OwnState → RunLines
lines_on entry number Exit rest s = no_lines
lines_on entry number call rest s = lines_by entry number call rest s

-- ---- lines

-- what a run from a budget shows from one line on: a line that is left out makes no call
abbrev pub lines_with : Entry → Amounts → Mark → Option Call → (OwnState → RunLines) → OwnState → RunLines
lines_with entry budget mark None rest s = rest s
lines_with entry budget mark (Some call) rest s =
    if mark.left_out then preceded (skipped_by budget s.account mark (asked_by call)) (rest s) else lines_on entry mark.number call rest s

-- from a state on, where a component's lines make these calls
abbrev pub lines_as : (ComponentLine → Option Call) → Entry → Amounts → List ComponentLine → OwnState → RunLines
lines_as call entry budget [] s = no_lines
lines_as call entry budget (step ∷ steps) s =
    lines_with entry budget (mark_of step) (call step) (λ next. lines_as call entry budget steps next) s

-- where they make their calls with the arguments that were set
abbrev pub own_lines : Entry → Amounts → List ComponentLine → OwnState → RunLines
own_lines entry budget steps s = lines_as call_of entry budget steps s

-- and in the run from a budget
abbrev pub lines_from : Listed → ℕ → List ComponentLine → Amounts → RunLines
lines_from list component steps budget =
    own_lines (own_entry list component) budget steps (budgeted budget (own_state list component))

-- where they make them as they are written
abbrev pub lines_as_written : Listed → ℕ → List ComponentLine → Amounts → RunLines
lines_as_written list component steps budget =
    lines_as call_written (own_entry list component) budget steps (budgeted budget (own_state list component))
