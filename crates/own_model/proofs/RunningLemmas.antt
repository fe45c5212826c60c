-- The running states are own runs, so what is told from them is what is told from the history.
use Rattle.std.proofs.Common.{rules, ◌≡◌, ℕ, ◌≤◌, ◌++◌, ◌==◌, Bool, true, false, List, [], ◌∷◌, length, refl, cond, subst, arith, append_assoc, slice_set}
use Rattle.std.proofs.lemmas.List.{get_or-set_same, get_or-set_other, get_or_past, length-set, set_past, append-nil}
use Rattle.std.proofs.lemmas.Bool.{cases_lt}
use Rattle.std.proofs.lemmas.Bool.Decides.{nat_tests}
use Rattle.own_model.proofs.RunLemmas.{own_run-append, own_part-append}
use Rattle.own_model.proofs.StepExitLemmas.{gone_left}
use Rattle.own_model.specs.Theorems.{InitsOverLast}
use Rattle.own_model.specs.Call.{Call}
use Rattle.own_model.specs.OwnState.{OwnState}
use Rattle.own_model.specs.OwnStep.{own_run, own_step}
use Rattle.own_model.specs.Running.{running_step, states_after_call, states_after_line, told_now, states_running, inits_after_line, running_transcript}
use Rattle.own_model.specs.StartList.{Entry}
use Rattle.own_model.specs.Text.{lines_of}
use Rattle.own_model.specs.Transcript.{Made, Heard, own_part, nothing, entry_at, state_at, state_after, heard, calls_in, calls_of, told, transcript_after, transcript}
use Rattle.own_model.specs.Transcript.Heard.{NoCall, Stranger, Caller}
use Rattle.own_model.specs.World.{World, world_running, world_after_line}

-- no call changes the state of who has nothing
nothing_stays : (entry : Entry) (call : Call) → (own_step entry call nothing).next ≡ nothing
nothing_stays entry call = gone_left entry call nothing refl

-- a running state reads as own run of the component's own part
pub record Tracks (entries : List Entry) (starts states : List OwnState) (earlier : List Made) : Type 0 where
  -- each component has what its own run leaves
  pub at : (component : ℕ) → state_at states component ≡ state_after entries starts earlier component

-- at the start nothing has run
pub Tracks-none : (entries : List Entry) (starts : List OwnState) → Tracks entries starts starts []
Tracks-none entries starts = record { at = λ component. refl }

-- own state after one call more of all: its own call is a step, another's nothing
state_after-push : (entries : List Entry) (starts : List OwnState) (earlier : List Made) (made : Made) (component : ℕ) →
    state_after entries starts (earlier ++ made ∷ []) component
    ≡ own_run (entry_at entries component) (own_part component (made ∷ [])) (state_after entries starts earlier component)
state_after-push entries starts earlier made component = simp (own_part-append, own_run-append)

-- what stands at a changed place, also past the end if the change is none there
at_changed : (states : List OwnState) (i : ℕ) (s : OwnState) → (length states ≤ i → s ≡ nothing) → state_at (slice_set states i s) i ≡ s
at_changed states i s past = search (rules, cases_lt, get_or-set_same, set_past, get_or_past)

-- who has no place in the list has nothing, and keeps it
past_stays : (entries : List Entry) (states : List OwnState) (made : Made) → length states ≤ made.component → (running_step entries states made).next ≡ nothing
past_stays entries states made past = rw (get_or_past states made.component nothing past) (nothing_stays (entry_at entries made.component) made.call)

-- what a component reads of the states after a call, by whether it is the caller
tracks_by : (entries : List Entry) (states : List OwnState) (made : Made) (component : ℕ) (own : Bool) →
    (made.component == component) ≡ own →
    state_at (states_after_call entries states made) component
    ≡ own_run (entry_at entries component) (cond own (made.call ∷ []) []) (state_at states component)
tracks_by entries states made component true e = grind (arith, nat_tests, at_changed, past_stays)
tracks_by entries states made component false e = grind (arith, nat_tests, get_or-set_other)

-- what a component reads of the states after a call is its run of that call, if it is its own
tracks_call : (entries : List Entry) (states : List OwnState) (made : Made) (component : ℕ) →
    state_at (states_after_call entries states made) component
    ≡ own_run (entry_at entries component) (own_part component (made ∷ [])) (state_at states component)
tracks_call entries states made component = tracks_by entries states made component (made.component == component) refl

-- after a call the states are own runs still
pub Tracks-call : (entries : List Entry) (starts states : List OwnState) (earlier : List Made) (made : Made) →
    Tracks entries starts states earlier → Tracks entries starts (states_after_call entries states made) (earlier ++ made ∷ [])
Tracks-call entries starts states earlier made h = search (rules, tracks_call, state_after-push)

-- after what was heard they are too
pub Tracks-heard : (entries : List Entry) (starts states : List OwnState) (earlier : List Made) (what : Heard) →
    Tracks entries starts states earlier → Tracks entries starts (states_after_line entries states what) (earlier ++ calls_in what)
Tracks-heard entries starts states earlier NoCall h = rw (append-nil earlier) h
Tracks-heard entries starts states earlier (Stranger name) h = rw (append-nil earlier) h
Tracks-heard entries starts states earlier (Caller made) h = Tracks-call entries starts states earlier made h

-- what is told of a line is the same from both
told_same : (entries : List Entry) (starts states : List OwnState) (earlier : List Made) (what : Heard) →
    Tracks entries starts states earlier → told entries starts earlier what ≡ told_now entries states what
told_same entries starts states earlier NoCall h = refl
told_same entries starts states earlier (Stranger name) h = refl
told_same entries starts states earlier (Caller made) h = rw (h.at made.component) refl

-- what is told of the lines that follow is the same from both
pub transcript_after-running : (entries : List Entry) (starts states : List OwnState) (earlier : List Made) (lines : List (List ℕ)) →
    Tracks entries starts states earlier → transcript_after entries starts earlier lines ≡ running_transcript entries states lines
transcript_after-running entries starts states earlier [] h = refl
transcript_after-running entries starts states earlier (line ∷ lines) h =
    let here : told entries starts earlier (heard entries line) ≡ told_now entries states (heard entries line)
    = told_same entries starts states earlier (heard entries line) h in
    let after : transcript_after entries starts (earlier ++ calls_in (heard entries line)) lines
    ≡ running_transcript entries (states_after_line entries states (heard entries line)) lines
    = transcript_after-running entries starts (states_after_line entries states (heard entries line))
    (earlier ++ calls_in (heard entries line)) lines
    (Tracks-heard entries starts states earlier (heard entries line) h) in
    cc

-- the running states after the lines that follow are own runs
pub Tracks-running : (entries : List Entry) (starts states : List OwnState) (earlier : List Made) (lines : List (List ℕ)) →
    Tracks entries starts states earlier → Tracks entries starts (states_running entries states lines) (earlier ++ calls_of entries lines)
Tracks-running entries starts states earlier [] h = rw (append-nil earlier) h
Tracks-running entries starts states earlier (line ∷ lines) h =
    subst (Tracks entries starts (states_running entries (states_after_line entries states (heard entries line)) lines))
    (append_assoc earlier (calls_in (heard entries line)) (calls_of entries lines))
    (Tracks-running entries starts (states_after_line entries states (heard entries line)) (earlier ++ calls_in (heard entries line)) lines
    (Tracks-heard entries starts states earlier (heard entries line) h))

-- the states after lines and one line more
pub states_running-push : (entries : List Entry) (states : List OwnState) (lines : List (List ℕ)) (line : List ℕ) →
    states_running entries states (lines ++ line ∷ []) ≡ states_after_line entries (states_running entries states lines) (heard entries line)
states_running-push entries states [] line = refl
states_running-push entries states (first ∷ lines) line = grind (arith, nat_tests, states_running-push entries (states_after_line entries states (heard entries first)) lines line)

-- inits' accounts after lines and one line more
pub inits_running-push : InitsOverLast
inits_running-push entries inits states [] line = refl
inits_running-push entries inits states (first ∷ lines) line =
    inits_running-push entries (inits_after_line entries inits states (heard entries first)) (states_after_line entries states (heard entries first)) lines line

-- so the world after lines and one line more
pub world_running-push : (world : World) (lines : List (List ℕ)) (line : List ℕ) →
    world_running world (lines ++ line ∷ []) ≡ world_after_line (world_running world lines) (heard world.entries line)
world_running-push world lines line = grind (arith, nat_tests, states_running-push, inits_running-push)

-- what is told of lines and one line more
pub running_transcript-push : (entries : List Entry) (states : List OwnState) (lines : List (List ℕ)) (line : List ℕ) →
    running_transcript entries states (lines ++ line ∷ [])
    ≡ running_transcript entries states lines ++ told_now entries (states_running entries states lines) (heard entries line)
running_transcript-push entries states [] line = append-nil (told_now entries states (heard entries line))
running_transcript-push entries states (first ∷ lines) line = grind (arith, nat_tests, append_assoc, running_transcript-push entries (states_after_line entries states (heard entries first)) lines line)

-- the law of both forms
pub transcript-running : (entries : List Entry) (starts : List OwnState) (input : List ℕ) →
    transcript entries starts input ≡ running_transcript entries starts (lines_of input)
transcript-running entries starts input = search (rules, transcript_after-running, Tracks-none)

-- each running state is own run
pub states_running-at : (entries : List Entry) (starts : List OwnState) (lines : List (List ℕ)) (component : ℕ) →
    state_at (states_running entries starts lines) component ≡ state_after entries starts (calls_of entries lines) component
states_running-at entries starts lines component =
    (Tracks-running entries starts starts [] lines (Tracks-none entries starts)).at component

-- there are as many states after what was heard
heard-length : (entries : List Entry) (states : List OwnState) (what : Heard) → length (states_after_line entries states what) ≡ length states
heard-length entries states NoCall = refl
heard-length entries states (Stranger name) = refl
heard-length entries states (Caller made) = length-set states made.component (running_step entries states made).next

-- there are as many states after lines
pub length-states_running : (entries : List Entry) (states : List OwnState) (lines : List (List ℕ)) → length (states_running entries states lines) ≡ length states
length-states_running entries states [] = refl
length-states_running entries states (line ∷ lines) = grind (arith, nat_tests, heard-length, length-states_running entries (states_after_line entries states (heard entries line)) lines)

-- the laws by which a loop over lines is proved
pub ruleset running = (running_transcript-push, states_running-push, inits_running-push, length-states_running, transcript-running, states_running-at)
