-- The same answers from a running list of own states, one an entry: what a loop over the lines keeps.
use Rattle.std.specs.Prelude.{ℕ, ◌++◌, List, [], ◌∷◌, slice_set, codes}
use Rattle.trade_base.specs.declared.refusal.Refusal.TheVariants.{BadLine, UnknownComponent}
use Rattle.own_model.specs.Account.{Account}
use Rattle.own_model.specs.Limits.{inits_after}
use Rattle.own_model.specs.OwnState.{OwnState}
use Rattle.own_model.specs.OwnStep.{Outcome, own_step}
use Rattle.own_model.specs.Reply.Reply.{Refused}
use Rattle.own_model.specs.StartList.{Entry}
use Rattle.own_model.specs.Transcript.{Made, Heard, heard, entry_at, state_at, reply_line, outcome_text}
use Rattle.own_model.specs.Transcript.Heard.{NoCall, Stranger, Caller}

-- what a call gives from the running states: own step from its caller's state
abbrev pub running_step : List Entry → List OwnState → Made → Outcome
running_step entries states made = own_step (entry_at entries made.component) made.call (state_at states made.component)

-- a call changes its caller's state and no other
abbrev pub states_after_call : List Entry → List OwnState → Made → List OwnState
states_after_call entries states made = slice_set states made.component (running_step entries states made).next

-- the running states after a classified line
abbrev pub states_after_line : List Entry → List OwnState → Heard → List OwnState
states_after_line entries states NoCall = states
states_after_line entries states (Stranger name) = states
states_after_line entries states (Caller made) = states_after_call entries states made

-- the output for a classified line, from the running states
abbrev pub told_now : List Entry → List OwnState → Heard → List ℕ
told_now entries states NoCall = reply_line (codes "?") (Refused BadLine)
told_now entries states (Stranger name) = reply_line name (Refused UnknownComponent)
told_now entries states (Caller made) =
    outcome_text (entry_at entries made.component).name (running_step entries states made)

-- the running states after these lines
abbrev pub states_running : List Entry → List OwnState → List (List ℕ) → List OwnState
states_running entries states [] = states
states_running entries states (line ∷ lines) =
    states_running entries (states_after_line entries states (heard entries line)) lines

-- the output for these lines, each from the states that those before it left
abbrev pub running_transcript : List Entry → List OwnState → List (List ℕ) → List ℕ
running_transcript entries states [] = []
running_transcript entries states (line ∷ lines) =
    told_now entries states (heard entries line)
    ++ running_transcript entries (states_after_line entries states (heard entries line)) lines

-- inits' accounts after a classified line: a call may return limits of its caller's to its init
abbrev pub inits_after_line : List Entry → List Account → List OwnState → Heard → List Account
inits_after_line entries inits states NoCall = inits
inits_after_line entries inits states (Stranger name) = inits
inits_after_line entries inits states (Caller made) =
    inits_after (entry_at entries made.component).home inits (state_at states made.component) (running_step entries states made).next

-- inits' accounts after these lines
abbrev pub inits_running : List Entry → List Account → List OwnState → List (List ℕ) → List Account
inits_running entries inits states [] = inits
inits_running entries inits states (line ∷ lines) =
    inits_running entries (inits_after_line entries inits states (heard entries line))
    (states_after_line entries states (heard entries line)) lines
