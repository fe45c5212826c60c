-- Theorems on runs and answers, as statements.
use Rattle.std.specs.Prelude.{true, false, if◌then◌else◌, ◌≡◌, ◌≢◌, ◌<◌, ◌≤◌, ℕ, ◌+◌, ◌^◌, ◌++◌, List, [], ◌∷◌, length, Some, None, ◌*◌}
use Rattle.std.specs.FinMap.{get, len}
use Rattle.std.specs.List.{AllByRecursion}
use Rattle.trade_base.specs.declared.refusal.Refusal.{Refusal}
use Rattle.trade_base.specs.declared.refusal.Refusal.TheVariants.{Gone, InvalidCap, OutOfCaps, TooManyRegions}
use Rattle.own_model.specs.Account.{Account, WithinLimits}
use Rattle.own_model.specs.Call.{Call, is_of_session, moves_reserve}
use Rattle.own_model.specs.Call.Call.{Free, Attach, AttachAt, Peek, Poke, Capalloc, Exit}
use Rattle.own_model.specs.Donation.{raised}
use Rattle.own_model.specs.Limits.{ram_limits, caps_limits, init_after, AreWithinLimits}
use Rattle.own_model.specs.OwnState.{OwnState, IsLeastUnused, named_bytes, new_selector}
use Rattle.own_model.specs.OwnState.Object.{Dataspace}
use Rattle.own_model.specs.OwnStep.{own_run, own_step, exits, exited, script_step, refused, exited_state}
use Rattle.own_model.specs.Region.{Region, most_regions, resolved}
use Rattle.own_model.specs.Reply.{address_text, hex_text}
use Rattle.own_model.specs.Reply.Reply.{Bytes, Done, Refused}
use Rattle.own_model.specs.Running.{running_transcript, states_running, told_now, states_after_line, inits_running, inits_after_line}
use Rattle.own_model.specs.StartList.{Entry, StartEntry, StartList, Boots, start_state}
use Rattle.own_model.specs.StartList.Kind.{Script, Server}
use Rattle.own_model.specs.Text.{lines_of, address_of, bytes_of_hex}
use Rattle.own_model.specs.Transcript.{Made, heard, own_part, state_at, state_after, answer, transcript, calls_of, longest_line}
use Rattle.own_model.specs.Transcript.Heard.{NoCall}
use Rattle.own_model.specs.Sound.{IsSound}
use Rattle.own_model.specs.Table.{FailsFor, first_failed, whole_line, refusal_in}
use Rattle.own_model.specs.Use.{UsesWhatItHolds}
use Rattle.own_model.specs.World.{World, IsBalanced, IsBalancedFor, with_state, world_running, outcome_at, start_world}

-- a run over two lists of calls is the run over the first and then the second
abbrev pub RunOverAppend : Type 0
RunOverAppend =
    (entry : Entry) (xs ys : List Call) (s : OwnState) → own_run entry (xs ++ ys) s ≡ own_run entry ys (own_run entry xs s)

-- a component's part of two lists of calls is its part of the first and then of the second
abbrev pub PartOverAppend : Type 0
PartOverAppend =
    (component : ℕ) (xs ys : List Made) → own_part component (xs ++ ys) ≡ own_part component xs ++ own_part component ys

-- the output computed from the history of calls is the output computed from the running states
abbrev pub TranscriptIsRunning : Type 0
TranscriptIsRunning =
    (entries : List Entry) (starts : List OwnState) (input : List ℕ) →
    transcript entries starts input ≡ running_transcript entries starts (lines_of input)

-- each running state is its component's own run on its own part of the calls
abbrev pub StatesAreOwnRuns : Type 0
StatesAreOwnRuns =
    (entries : List Entry) (starts : List OwnState) (lines : List (List ℕ)) (component : ℕ) →
    state_at (states_running entries starts lines) component ≡ state_after entries starts (calls_of entries lines) component

-- the running states after a first line and the lines that follow it
abbrev pub StatesOverFirst : Type 0
StatesOverFirst =
    (entries : List Entry) (states : List OwnState) (line : List ℕ) (lines : List (List ℕ)) →
    states_running entries states (line ∷ lines)
    ≡ states_running entries (states_after_line entries states (heard entries line)) lines

-- the running states after lines and a last line
abbrev pub StatesOverLast : Type 0
StatesOverLast =
    (entries : List Entry) (states : List OwnState) (lines : List (List ℕ)) (line : List ℕ) →
    states_running entries states (lines ++ line ∷ [])
    ≡ states_after_line entries (states_running entries states lines) (heard entries line)

-- inits' accounts after a first line and the lines that follow it
abbrev pub InitsOverFirst : Type 0
InitsOverFirst =
    (entries : List Entry) (inits : List Account) (states : List OwnState) (line : List ℕ) (lines : List (List ℕ)) →
    inits_running entries inits states (line ∷ lines)
    ≡ inits_running entries (inits_after_line entries inits states (heard entries line))
    (states_after_line entries states (heard entries line)) lines

-- inits' accounts after lines and a last line
abbrev pub InitsOverLast : Type 0
InitsOverLast =
    (entries : List Entry) (inits : List Account) (states : List OwnState) (lines : List (List ℕ)) (line : List ℕ) →
    inits_running entries inits states (lines ++ line ∷ [])
    ≡ inits_after_line entries (inits_running entries inits states lines) (states_running entries states lines) (heard entries line)

-- lines leave as many running states
abbrev pub StatesKeepLength : Type 0
StatesKeepLength =
    (entries : List Entry) (states : List OwnState) (lines : List (List ℕ)) →
    length (states_running entries states lines) ≡ length states

-- the output for a first line and the lines that follow it
abbrev pub OutputOverFirst : Type 0
OutputOverFirst =
    (entries : List Entry) (states : List OwnState) (line : List ℕ) (lines : List (List ℕ)) →
    running_transcript entries states (line ∷ lines)
    ≡ told_now entries states (heard entries line)
    ++ running_transcript entries (states_after_line entries states (heard entries line)) lines

-- the output for lines and a last line
abbrev pub OutputOverLast : Type 0
OutputOverLast =
    (entries : List Entry) (states : List OwnState) (lines : List (List ℕ)) (line : List ℕ) →
    running_transcript entries states (lines ++ line ∷ [])
    ≡ running_transcript entries states lines ++ told_now entries (states_running entries states lines) (heard entries line)

-- calls of all with equal parts for a component leave it equal own states
abbrev pub EqualPartsEqualStates : Type 0
EqualPartsEqualStates =
    (entries : List Entry) (starts : List OwnState) (xs ys : List Made) (component : ℕ) →
    own_part component xs ≡ own_part component ys →
    state_after entries starts xs component ≡ state_after entries starts ys component

-- a component's call is answered alike after calls of all with equal parts for it
abbrev pub EqualPartsEqualAnswers : Type 0
EqualPartsEqualAnswers =
    (entries : List Entry) (starts : List OwnState) (xs ys : List Made) (made : Made) →
    own_part made.component xs ≡ own_part made.component ys →
    answer entries starts xs made ≡ answer entries starts ys made

-- a line longer than the longest is no call
abbrev pub LongLinesAreNoCalls : Type 0
LongLinesAreNoCalls = (entries : List Entry) (line : List ℕ) → longest_line < length line → heard entries line ≡ NoCall

-- every call leaves a server's own state
abbrev pub ServersStay : Type 0
ServersStay = (entry : Entry) (calls : List Call) (s : OwnState) → entry.kind ≡ Server → own_run entry calls s ≡ s

-- a call leaves the limits of its caller, of the caller's reserve and of its open sessions together, and an exit that is done
-- leaves none
abbrev pub StepKeepsLimits : Type 0
StepKeepsLimits =
    (entry : Entry) (call : Call) (s : OwnState) →
    (ram_limits (own_step entry call s).next ≡ (if exits entry call s then 0 else ram_limits s))
    × (caps_limits (own_step entry call s).next ≡ (if exits entry call s then 0 else caps_limits s))

-- and so for the limits of its caller's account alone, except for calls of sessions, requests and yields
abbrev pub OthersKeepOwnLimits : Type 0
OthersKeepOwnLimits =
    (entry : Entry) (call : Call) (s : OwnState) → is_of_session call ≡ false → moves_reserve call ≡ false →
    ((own_step entry call s).next.account.ram_limit ≡ (if exits entry call s then 0 else s.account.ram_limit))
    × ((own_step entry call s).next.account.caps_limit ≡ (if exits entry call s then 0 else s.account.caps_limit))

-- an exit that is done returns all limits of its caller, of the caller's reserve and of its open sessions to the caller's
-- init, and no other call any
abbrev pub ExitsReturnLimits : Type 0
ExitsReturnLimits =
    (entry : Entry) (call : Call) (init : Account) (s : OwnState) →
    init_after init s (own_step entry call s).next
    ≡ (if exits entry call s then raised init (ram_limits s) (caps_limits s) else init)

-- an exit of a script that has not exited is done, and leaves nothing
abbrev pub ExitsAreDone : Type 0
ExitsAreDone = (entry : Entry) (s : OwnState) → entry.kind ≡ Script → s.gone ≡ false → own_step entry Exit s ≡ exited

-- a script that has exited is answered Gone, whatever it calls
abbrev pub ExitedAreRefused : Type 0
ExitedAreRefused =
    (entry : Entry) (call : Call) (s : OwnState) → entry.kind ≡ Script → s.gone ≡ true → own_step entry call s ≡ refused s Gone

-- and a component that has exited stays as it is
abbrev pub ExitedStay : Type 0
ExitedStay = (entry : Entry) (calls : List Call) (s : OwnState) → s.gone ≡ true → own_run entry calls s ≡ s

-- so after an exit that is done nothing is left, whatever is called, and each call is answered Gone
abbrev pub ExitsEndAll : Type 0
ExitsEndAll =
    (entry : Entry) (calls : List Call) (call : Call) (s : OwnState) → exits entry Exit s ≡ true →
    (own_run entry (Exit ∷ calls) s ≡ exited_state) × (own_step entry call exited_state ≡ refused exited_state Gone)

-- a call ends its caller only as an exit that is done
abbrev pub ExitsAlone : Type 0
ExitsAlone =
    (entry : Entry) (call : Call) (s : OwnState) →
    (own_step entry call s).next.gone ≡ (if exits entry call s then true else s.gone)

-- an RPC object is refused to an account within its limits for lack of capabilities alone
abbrev pub CapallocLacksCapsAlone : Type 0
CapallocLacksCapsAlone =
    (s : OwnState) (refusal : Refusal) → WithinLimits s.account → (script_step Capalloc s).reply ≡ Refused refusal → refusal ≡ OutOfCaps

-- no call overdraws its caller's account
abbrev pub StepKeepsWithinLimits : Type 0
StepKeepsWithinLimits =
    (entry : Entry) (call : Call) (s : OwnState) → WithinLimits s.account → WithinLimits (own_step entry call s).next.account

-- nor the account of one of the caller's sessions
abbrev pub StepKeepsAllWithin : Type 0
StepKeepsAllWithin =
    (entry : Entry) (call : Call) (s : OwnState) → AreWithinLimits s → AreWithinLimits (own_step entry call s).next

-- no calls overdraw an account
abbrev pub RunKeepsWithinLimits : Type 0
RunKeepsWithinLimits =
    (entry : Entry) (calls : List Call) (s : OwnState) → WithinLimits s.account → WithinLimits (own_run entry calls s).account

-- who starts uses what it holds: nothing
abbrev pub StartsWithoutUse : Type 0
StartsWithoutUse = (start : StartEntry) → UsesWhatItHolds (start_state start)

-- calls keep what is used equal to what is held
abbrev pub RunKeepsUse : Type 0
RunKeepsUse = (entry : Entry) (calls : List Call) (s : OwnState) → UsesWhatItHolds s → UsesWhatItHolds (own_run entry calls s)

-- who starts is sound: it has no dataspaces and no regions
abbrev pub StartsSound : Type 0
StartsSound = (start : StartEntry) → IsSound (start_state start)

-- a call keeps bytes whole, and regions named and apart
abbrev pub StepKeepsSound : Type 0
StepKeepsSound = (entry : Entry) (call : Call) (s : OwnState) → IsSound s → IsSound (own_step entry call s).next

-- and so do calls
abbrev pub RunKeepsSound : Type 0
RunKeepsSound = (entry : Entry) (calls : List Call) (s : OwnState) → IsSound s → IsSound (own_run entry calls s)

-- a dataspace that is freed leaves none of its regions
abbrev pub FreedHasNoRegions : Type 0
FreedHasNoRegions =
    (s : OwnState) (selector : ℕ) (bytes : List ℕ) → get s.selectors selector ≡ Some (Dataspace bytes) →
    (start : ℕ) (region : Region) → get (script_step (Free selector) s).next.regions start ≡ Some region → region.of ≢ selector

-- where there are as many regions as there can be, nothing more is attached, at whatever address
abbrev pub FullMapsRefuse : Type 0
FullMapsRefuse =
    (s : OwnState) (selector address : ℕ) (bytes : List ℕ) → named_bytes (get s.selectors selector) ≡ Some bytes → len s.regions ≡ most_regions →
    (script_step (Attach selector) s ≡ refused s TooManyRegions) × (script_step (AttachAt selector address) s ≡ refused s TooManyRegions)

-- a selector that names no bytes is refused first
abbrev pub UnnamedIsRefused : Type 0
UnnamedIsRefused =
    (s : OwnState) (selector address : ℕ) → named_bytes (get s.selectors selector) ≡ None →
    (script_step (Attach selector) s ≡ refused s InvalidCap) × (script_step (AttachAt selector address) s ≡ refused s InvalidCap)

-- a peek at the same address returns what was poked
abbrev pub PokesAreRead : Type 0
PokesAreRead =
    (s : OwnState) (address : ℕ) (bytes : List ℕ) → IsSound s → (script_step (Poke address bytes) s).reply ≡ Done →
    (script_step (Peek address (length bytes)) (script_step (Poke address bytes) s).next).reply ≡ Bytes bytes

-- the range of addresses that a region holds lies within the bytes that its selector names
abbrev pub FoundRangesFit : Type 0
FoundRangesFit =
    (s : OwnState) (address count selector offset : ℕ) → IsSound s → resolved s.regions address count ≡ Some (selector, offset) →
    (bytes : List ℕ) × (named_bytes (get s.selectors selector) ≡ Some bytes) × (offset + count ≤ length bytes)

-- a component's call leaves a balanced world balanced
abbrev pub StepKeepsBalance : Type 0
StepKeepsBalance =
    (pages caps : ℕ) (world : World) (component : ℕ) (call : Call) →
    IsBalanced pages caps world → IsBalanced pages caps (with_state world component (outcome_at world component call).next)

-- lines leave a balanced world balanced
abbrev pub LinesKeepBalance : Type 0
LinesKeepBalance =
    (pages caps : ℕ) (world : World) (lines : List (List ℕ)) →
    IsBalanced pages caps world → IsBalanced pages caps (world_running world lines)

-- in a balanced world the limits of a component, of its reserve and of its open sessions together fit the machine
abbrev pub LimitsFitTheMachine : Type 0
LimitsFitTheMachine =
    (pages caps : ℕ) (world : World) (component : ℕ) → IsBalanced pages caps world →
    (ram_limits (state_at world.states component) ≤ pages * 4096) × (caps_limits (state_at world.states component) ≤ caps)

-- a start list that boots starts balanced
abbrev pub BootsBalanced : Type 0
BootsBalanced = (list : StartList) → Boots list → IsBalancedFor list (start_world list)

-- a component's call leaves the world of a start list balanced for it
abbrev pub StepKeepsBalanceFor : Type 0
StepKeepsBalanceFor =
    (list : StartList) (world : World) (component : ℕ) (call : Call) →
    IsBalancedFor list world → IsBalancedFor list (with_state world component (outcome_at world component call).next)

-- and so do lines
abbrev pub LinesKeepBalanceFor : Type 0
LinesKeepBalanceFor =
    (list : StartList) (world : World) (lines : List (List ℕ)) → IsBalancedFor list world → IsBalancedFor list (world_running world lines)

-- a call of an account within its limits, and of a sound state, is refused for the first reason on the call's line, and
-- for nothing else
abbrev pub RefusedInOrder : Type 0
RefusedInOrder =
    (entry : Entry) (call : Call) (s : OwnState) → WithinLimits s.account → IsSound s →
    refusal_in (own_step entry call s).reply ≡ first_failed (whole_line entry call s)

-- and each refusal has its own reason: a test of the line that fails, for that refusal
abbrev pub RefusalsHaveReason : Type 0
RefusalsHaveReason =
    (entry : Entry) (call : Call) (s : OwnState) (refusal : Refusal) → WithinLimits s.account → IsSound s →
    (own_step entry call s).reply ≡ Refused refusal → FailsFor refusal (whole_line entry call s)

-- a refused call answers with its refusal, finishes no lines and leaves the state
abbrev pub RefusedLeaves : Type 0
RefusedLeaves =
    (entry : Entry) (call : Call) (s : OwnState) (refusal : Refusal) → (own_step entry call s).reply ≡ Refused refusal →
    own_step entry call s ≡ refused s refusal

-- the selector of what is new is the least positive number that is not in use
abbrev pub NewSelectorIsLeastUnused : Type 0
NewSelectorIsLeastUnused = (s : OwnState) → IsLeastUnused s.selectors (new_selector s.selectors)

-- an address that is printed and read again is the same
abbrev pub AddressesAreReadBack : Type 0
AddressesAreReadBack = (address : ℕ) → address < 2 ^ 64 → address_of (address_text address) ≡ Some address

-- and so are bytes as hex
abbrev pub HexIsReadBack : Type 0
HexIsReadBack = (bytes : List ℕ) → AllByRecursion (λ b. b < 256) bytes → bytes_of_hex (hex_text bytes) ≡ Some bytes
