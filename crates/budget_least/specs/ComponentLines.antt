-- How the lines of a scenario become the lines of components, and which of them are left out.
use Rattle.std.specs.Prelude.{◌≡◌, ℕ, ◌||◌, ◌&&◌, ◌==◌, Bool, true, false, not, List, [], ◌∷◌, ◌++◌, codes, is_some, length, map, nat_le, replicate, if◌then◌else◌, Option, Some, None, Vec}
use Rattle.std.specs.List.{AllByRecursion, list_any, position, slice_get, slice_split}
use Rattle.std.specs.Option.{unwrap_or}
use Rattle.std.specs.Str.{bytes_eq}
use Rattle.own_model.specs.Call.{Call, Spoken, parsed_call}
use Rattle.own_model.specs.Call.Call.{Open}
use Rattle.own_model.specs.Listed.{Listed, route_of}
use Rattle.own_model.specs.Session.{given}
use Rattle.own_model.specs.Transcript.{longest_line}
use Rattle.line_friendly.specs.Expected.{is_refusal, meets}
use Rattle.line_names.specs.Filling.{FilledLine}
use Rattle.line_steps.specs.ResolvedLines.{ResolvedLine, is_unread, resolved_line}
use Rattle.line_steps.specs.ResolvedLines.ResolvedLine.{Follow, Call as CallLine}
use Rattle.line_steps.specs.RunPosition.{RunPosition, arrived, passed, position_following}
use Rattle.list_parser.specs.Budgets.{changed_at}
use Rattle.budget_search.specs.Shortages.{shortage_reply}
use Rattle.budget_search.specs.Steps.{Mark, mark_of}
use Rattle.budget_search.specs.declared.component_line.ComponentLine.{ComponentLine}
use Rattle.budget_search.specs.declared.trial.Shortage.{Shortage}
use Rattle.budget_search.specs.declared.trial.Shortage.TheVariants.{Ram, Caps, SessionRam, SessionCaps, DonatedRam, DonatedCaps}
use Rattle.budget_least.specs.BoundRuns.{BoundRun, IsAnsweredIf}
use Rattle.budget_least.specs.declared.binding_run.BindingBudgets.{BindingBudgets}
use Rattle.budget_least.specs.declared.lines_by_component.LinesByComponent.{LinesByComponent}

-- ---- lines of components

-- a line of a component: its mark, and its text as the engine parses it
pub record ReadLine : Type 0 where
  pub mark : Mark
  pub text : List ℕ

abbrev pub line_of : ComponentLine → ReadLine
line_of line = record { mark = mark_of line; text = line.line.items }

-- the lines of each component, in the order of the run
abbrev pub lines_of : List ComponentLine → List ReadLine
lines_of steps = map line_of steps

abbrev pub lines_in : LinesByComponent → List (List ReadLine)
lines_in lines = map (λ steps. lines_of steps.items) lines.steps.items

-- no line has other arguments than the scenario writes
pub record IsAsWritten (step : ComponentLine) : Type 0 where
  pub args : step.args ≡ None
  pub donation : step.donation ≡ None

abbrev pub AreWritten : List ComponentLine → Type 0
AreWritten steps = AllByRecursion IsAsWritten steps

abbrev pub AreAllWritten : {Z : Type 0} → List (Vec ComponentLine Z) → Type 0
AreAllWritten steps = AllByRecursion (λ lines. AreWritten lines.items) steps

-- the numbers of lines that aren't measured
abbrev pub numbers_in : LinesByComponent → List ℕ
numbers_in lines = map (λ line. line.number) lines.unmeasured.items

-- a line is left out if its refusal is expected: by the token `refused`, or by the text of a refusal. So a line that expects any
-- reply counts
abbrev pub expects_refusal : Option (List ℕ) → Bool
expects_refusal None = false
expects_refusal (Some expected) = bytes_eq expected (codes "refused") || is_refusal expected

-- the reply to a shortage is as expected
unfoldable pub shows : List ℕ → Shortage → Bool
shows expected shortage = meets (shortage_reply shortage) expected

-- the refusal that a line expects may be a shortage of quota: the reply to one is as expected
abbrev pub expects_shortage : Option (List ℕ) → Bool
expects_shortage None = false
expects_shortage (Some expected) = list_any (λ shortage. shows expected shortage) (Ram ∷ Caps ∷ SessionRam ∷ SessionCaps ∷ DonatedRam ∷ DonatedCaps ∷ [])

-- the routes of a list don't deny a call of a component
abbrev pub is_routed : Listed → ℕ → Call → Bool
is_routed list component (Open service text) = is_some (route_of list component service (given text).label)
is_routed list component call = true

-- the mark of a component's line with this number and expected reply
abbrev pub mark_for : Listed → ℕ → ℕ → Option (List ℕ) → Call → Mark
mark_for list component number reply call = record {
  number = number;
  left_out = expects_refusal reply;
  may_be_short = expects_shortage reply && is_routed list component call;
}

-- one more line of a component
abbrev pub with_line : ℕ → ReadLine → List (List ReadLine) → List (List ReadLine)
with_line component line lines = changed_at (λ steps. steps ++ line ∷ []) lines component

-- ---- a reading

-- the run of a scenario that is read, the lines of components so far, and the numbers of lines that aren't measured
pub record Reading : Type 0 where
  pub run : BoundRun
  pub lines : List (List ReadLine)
  pub unmeasured : List ℕ

abbrev pub reading : BoundRun → LinesByComponent → Reading
reading run lines = record { run = run; lines = lines_in lines; unmeasured = numbers_in lines }

-- before the first line: replies bind names only if a dollar sign, 36, is in the text
abbrev pub first_reading : Listed → List ℕ → RunPosition → BindingBudgets → Reading
first_reading list text start budgets = record {
  run = record {
    list = list;
    budgets = budgets;
    binds = is_some (position (λ b. b == 36) text);
    position = start;
    clients = replicate (length list.entries) None;
  };
  lines = replicate (length list.entries) [];
  unmeasured = [];
}

-- the call that the engine parses of a line
abbrev pub said_in : List ℕ → Option Spoken
said_in line = if nat_le (length line) longest_line then parsed_call line else None

-- a call is one more line of the component whose path it has, and is answered unless it is left out
abbrev pub IsAddedTo : ℕ → FilledLine → List ℕ → Option (List ℕ) → Call → ℕ → Reading → Reading → Type 0
IsAddedTo number filled line reply call component old new =
    (new.lines ≡ with_line component (record { mark = mark_for old.run.list component number reply call; text = line }) old.lines)
    × ((new.unmeasured ≡ old.unmeasured)
    × IsAnsweredIf (old.run.binds && not (expects_refusal reply)) component (length (unwrap_or (slice_get old.lines component) [])) call filled
    old.run new.run)

-- a call of no component is no line of one
abbrev pub IsAddedBy : ℕ → FilledLine → List ℕ → Option (List ℕ) → Spoken → Option ℕ → Reading → Reading → Type 0
IsAddedBy number filled line reply said None old new = new ≡ old
IsAddedBy number filled line reply said (Some component) old new =
    IsAddedTo number filled line reply said.call component old new

abbrev pub IsAdded : ℕ → FilledLine → List ℕ → Option (List ℕ) → Option Spoken → Reading → Reading → Type 0
IsAdded number filled line reply None old new = new ≡ old
IsAdded number filled line reply (Some said) old new =
    IsAddedBy number filled line reply said (position (λ entry. bytes_eq entry.path said.name) old.run.list.entries) old new

-- a reading at another position
abbrev pub at_position : RunPosition → Reading → Reading
at_position position reading = record reading { run = record reading.run { position = position } }

-- a line that can't be parsed isn't measured
abbrev pub leaving : Bool → ℕ → Reading → Reading
leaving true number reading = record reading { unmeasured = reading.unmeasured ++ number ∷ [] }
leaving false number reading = reading

-- a resolved line of this number is read: a directive is followed, and a call is added
abbrev pub IsTaken : ℕ → ResolvedLine → Reading → Reading → Type 0
IsTaken number (Follow directive) old new = new ≡ at_position (position_following old.run.position directive) old
IsTaken number (CallLine filled line reply) old new = IsAdded number filled line reply (said_in line) old new
IsTaken number resolved old new = new ≡ leaving (is_unread resolved) number old

-- a line of the text is read at the position of the run, and rounds may begin or end there
abbrev pub IsRead : List ℕ → Reading → Reading → Type 0
IsRead line old new =
    (taken : Reading)
    × (IsTaken old.run.position.number (resolved_line None old.run.position.known line)
    (at_position (passed old.run.position) old) taken
    × (new ≡ at_position (arrived taken.run.position) taken))

-- lines are read, one after another
abbrev pub AreRead : List (List ℕ) → Reading → Reading → Type 0
AreRead [] old new = new ≡ old
AreRead (line ∷ lines) old new = (next : Reading) × (IsRead line old next × AreRead lines next new)

-- these are the lines of components in the lines of a text
abbrev pub HasRead : Listed → List ℕ → RunPosition → BindingBudgets → LinesByComponent → Type 0
HasRead list text start budgets lines =
    (run : BoundRun) × AreRead (slice_split (λ b. b == 10) text) (first_reading list text start budgets) (reading run lines)
