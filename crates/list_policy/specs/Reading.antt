-- What the text of a policy says, line by line: a line feed is 10, a quote 34, a `#` 35 and a comma 44.
use Rattle.std.specs.Prelude.{◌≡◌, ℕ, ◌+◌, ◌==◌, ◌&&◌, not, Bool, true, false, List, [], ◌∷◌, ◌++◌, codes, length, map, if◌then◌else◌, Option, Some, None, is_some, Result, Ok, Err}
use Rattle.std.specs.Option.{unwrap_or}
use Rattle.own_model.specs.Listed.{Listed}
use Rattle.list_reach.specs.Paths.{pieces, trimmed}
use Rattle.list_policy.specs.Components.{FaultAt, fault_at, faults_in, flaw_in, found_in}
use Rattle.list_policy.specs.Cuts.{blanks, front, plus, rest, text_at}
use Rattle.list_policy.specs.Demand.{are_separate}
use Rattle.list_policy.specs.Line.{LineAt, line_at}
use Rattle.list_policy.specs.Statement.{FlawAt, HasBadLabel, IsNotApart, PathAt, SaysNothing, StatementAt, statement_of}
use Rattle.list_policy.specs.declared.components.NamedKind.{NamedKind}
use Rattle.list_policy.specs.declared.components.NamedKind.TheVariants.{Scripts, Servers, Any}
use Rattle.list_policy.specs.declared.components.PolicyPlace.{PolicyPlace}
use Rattle.list_policy.specs.declared.demand.Demand.{Demand}
use Rattle.list_policy.specs.declared.demand.Demand.TheVariants.{Deny, Allow, Only, Isolate, AtMost}
use Rattle.list_policy.specs.declared.policy_text.Policy.{Policy}

-- a line up to its label or its comment
abbrev pub head_of : List ℕ → List ℕ
head_of line = trimmed (front 35 (front 34 line))

-- the text after the first quote, unless a comment has begun before
abbrev pub quoted_of : List ℕ → Option (List ℕ)
quoted_of line = if is_some (rest 35 (front 34 line)) then None else rest 34 line

-- the place of paths in a line that begins at a place
abbrev pub path_place : PolicyPlace → PathAt → PolicyPlace
path_place place path = record { line = place.line; column = plus place.column path.at }

-- the kind of the components that a line names before its arrow, or if it has none
abbrev pub from_kind : Demand → NamedKind
from_kind (Deny range) = Scripts
from_kind (Allow range) = Scripts
from_kind (Only range) = Scripts
from_kind Isolate = Any
from_kind (AtMost limit) = Any

abbrev pub isolates : Demand → Bool
isolates (Deny range) = false
isolates (Allow range) = false
isolates (Only range) = false
isolates Isolate = true
isolates (AtMost limit) = false

-- a line, or what is wrong with it
abbrev pub LineSaid : Type 0
LineSaid = Result LineAt (List FaultAt)

abbrev pub one_flaw : PolicyPlace → FlawAt → LineSaid
one_flaw place flaw = Err (flaw_in place flaw ∷ [])

-- components that are to be isolated have to be separate
abbrev pub apart_or : Listed → PolicyPlace → LineAt → LineSaid
apart_or list place line = if isolates line.demand && not (are_separate list line.from) then one_flaw place IsNotApart else Ok line

-- what remains to be said of a line, unless some paths have faults
abbrev pub unless_faulty : List FaultAt → LineSaid → LineSaid
unless_faulty [] line = line
unless_faulty (fault ∷ faults) line = Err (fault ∷ faults)

-- the numbers of the servers after an arrow, and the faults of their paths
abbrev pub targets_in : Listed → Option PathAt → List ℕ
targets_in list None = []
targets_in list (Some to) = found_in list Servers (pieces 44 to.text)

abbrev pub target_faults : Listed → PolicyPlace → Option PathAt → List FaultAt
target_faults list place None = []
target_faults list place (Some to) = faults_in list Servers (path_place place to) (pieces 44 to.text)

-- the faults of all paths of a statement
abbrev pub path_faults : Listed → PolicyPlace → StatementAt → List FaultAt
path_faults list place statement =
    faults_in list (from_kind statement.demand) (path_place place statement.from) (pieces 44 statement.from.text)
    ++ target_faults list place statement.to

-- the line of a statement, with the numbers of all that its paths denote
abbrev pub line_of : Listed → PolicyPlace → StatementAt → LineSaid
line_of list place statement =
    unless_faulty (path_faults list place statement)
    (apart_or list place
    (record {
      number = place.line;
      column = place.column;
      demand = statement.demand;
      from = found_in list (from_kind statement.demand) (pieces 44 statement.from.text);
      to = targets_in list statement.to;
    }))

-- a label that is none has a place of its own
abbrev pub line_by : Listed → PolicyPlace → PolicyPlace → Result StatementAt FlawAt → LineSaid
line_by list place label (Ok statement) = line_of list place statement
line_by list place label (Err HasBadLabel) = one_flaw label HasBadLabel
line_by list place label (Err flaw) = one_flaw place flaw

-- the line of a head and of the text after its quote
abbrev pub line_from : Listed → PolicyPlace → PolicyPlace → List ℕ → Option (List ℕ) → LineSaid
line_from list place label head quoted = line_by list place label (statement_of head quoted)

-- the bytes before a label: before its quote, or else before the word `with`
abbrev pub before_label : List ℕ → Option (List ℕ) → ℕ
before_label line (Some quoted) = length (front 34 line)
before_label line None = plus (unwrap_or (text_at (codes " with ") line) 0) 1

abbrev pub place_of_label : ℕ → List ℕ → Option (List ℕ) → PolicyPlace
place_of_label number line quoted = record { line = number; column = plus (before_label line quoted) 1 }

-- where a line begins
abbrev pub start_of : ℕ → List ℕ → PolicyPlace
start_of number line = record { line = number; column = plus (blanks line) 1 }

-- what a line says, if it isn't empty
abbrev pub said : Listed → ℕ → List ℕ → Option LineSaid
said list number line =
    if length (head_of line) == 0 && not (is_some (quoted_of line)) then None
    else Some (line_from list (start_of number line) (place_of_label number line (quoted_of line)) (head_of line) (quoted_of line))

abbrev pub lines_in_line : Option LineSaid → List LineAt
lines_in_line None = []
lines_in_line (Some (Ok line)) = line ∷ []
lines_in_line (Some (Err faults)) = []

abbrev pub faults_in_line : Option LineSaid → List FaultAt
faults_in_line None = []
faults_in_line (Some (Ok line)) = []
faults_in_line (Some (Err faults)) = faults

-- the lines of texts, the first of a number
abbrev pub lines_from : Listed → ℕ → List (List ℕ) → List LineAt
lines_from list number [] = []
lines_from list number (text ∷ texts) = lines_in_line (said list number text) ++ lines_from list (number + 1) texts

-- their faults
abbrev pub faults_from : Listed → ℕ → List (List ℕ) → List FaultAt
faults_from list number [] = []
faults_from list number (text ∷ texts) = faults_in_line (said list number text) ++ faults_from list (number + 1) texts

-- ---- a whole text

-- the lines of a text
abbrev pub lines_of : Listed → List ℕ → List LineAt
lines_of list text = lines_from list 1 (pieces 10 text)

-- faults of lines; if there is neither a line nor a fault, the text has one itself
abbrev pub unless_silent : List LineAt → List FaultAt → List FaultAt
unless_silent [] [] = flaw_in (record { line = 0; column = 0 }) SaysNothing ∷ []
unless_silent [] (fault ∷ faults) = fault ∷ faults
unless_silent (line ∷ lines) faults = faults

-- the faults of a text: those of its lines, or that it has no demand
abbrev pub faults_of : Listed → List ℕ → List FaultAt
faults_of list text = unless_silent (lines_of list text) (faults_from list 1 (pieces 10 text))

-- a policy has the lines of a text and its faults, in order
pub record Reads (list : Listed) (text : List ℕ) (policy : Policy) : Type 0 where
  pub lines : map line_at policy.lines.items ≡ lines_of list text
  pub faults : map fault_at policy.faults.items ≡ faults_of list text
