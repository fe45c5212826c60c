-- What a line of a policy states: a space is 32, a quote 34, a `#` 35, a comma 44 and a `>` 62.
use Rattle.std.specs.Prelude.{ℕ, ◌-◌, ◌==◌, ◌&&◌, List, length, take, drop, codes, if◌then◌else◌, is_some, Option, Some, None, Result, Ok, Err}
use Rattle.std.specs.Option.{option_and_then, option_map}
use Rattle.std.specs.Str.{bytes_eq}
use Rattle.trade_base.specs.Amount.{amount_of, number_of}
use Rattle.list_labels.specs.Asked.{is_given}
use Rattle.list_reach.specs.Paths.{PathFault, fault_of, trimmed}
use Rattle.list_policy.specs.Cuts.{before_end, front, rest, text_at}
use Rattle.list_policy.specs.declared.demand.BudgetLimit.{BudgetLimit}
use Rattle.list_policy.specs.declared.demand.LabelRange.{LabelRange}
use Rattle.list_policy.specs.declared.demand.LabelRange.TheVariants.{All as AllLabels, Exactly, Prefix, Suffix}
use Rattle.list_policy.specs.declared.demand.Demand.{Demand}
use Rattle.list_policy.specs.declared.demand.Demand.TheVariants.{Deny, Allow, Only, Isolate, AtMost}
use Rattle.list_policy.specs.declared.fault.PolicyFlaw.{PolicyFlaw}
use Rattle.list_policy.specs.declared.fault.PolicyFlaw.TheVariants as flaw
use Rattle.list_policy.specs.declared.statement.LabelWord.{LabelWord}
use Rattle.list_policy.specs.declared.statement.LabelWord.TheVariants as word
use Rattle.list_policy.specs.declared.statement.PolicyPath.{PolicyPath}
use Rattle.list_policy.specs.declared.statement.RangeWords.{RangeWords}
use Rattle.list_policy.specs.declared.statement.Statement.{Statement}
use Rattle.list_policy.specs.declared.statement.StatementTarget.{StatementTarget}
use Rattle.list_policy.specs.declared.statement.Verb.{Verb}
use Rattle.list_policy.specs.declared.statement.Verb.TheVariants as verb

-- what is wrong with a line
pub data FlawAt : Type 0 where
  LacksDemand : FlawAt
  LacksArrow : FlawAt
  SaysTooMuch : FlawAt
  HasBadLabel : FlawAt
  HasBadBudget : FlawAt
  IsNotApart : FlawAt
  HasBadPath : Option PathFault → FlawAt
  SaysNothing : FlawAt

abbrev pub flaw_at : PolicyFlaw → FlawAt
flaw_at flaw.NoDemand = LacksDemand
flaw_at flaw.NoArrow = LacksArrow
flaw_at flaw.TooMuch = SaysTooMuch
flaw_at flaw.BadLabel = HasBadLabel
flaw_at flaw.BadBudget = HasBadBudget
flaw_at flaw.NotApart = IsNotApart
flaw_at (flaw.Unnamed kind fault) = HasBadPath (fault_of fault)
flaw_at flaw.NoDemands = SaysNothing

-- the value, or else a flaw
abbrev pub value_or : {A : Type 0} → FlawAt → Option A → Result A FlawAt
value_or flaw None = Err flaw
value_or flaw (Some x) = Ok x

-- the result of a value; a flaw remains
infixl 20 ◌>>=◌
abbrev pub ◌>>=◌ : {A B : Type 0} → Result A FlawAt → (A → Result B FlawAt) → Result B FlawAt
◌>>=◌ (Ok x) f = f x
◌>>=◌ (Err flaw) f = Err flaw

-- paths, with the number of bytes before them
pub record PathAt : Type 0 where
  pub text : List ℕ
  pub at : ℕ

abbrev pub path_at : PolicyPath → PathAt
path_at path = record { text = path.text.now; at = path.at }

-- what a line demands, and the paths before and after its arrow
pub record StatementAt : Type 0 where
  pub demand : Demand
  pub from : PathAt
  pub to : Option PathAt

abbrev pub statement_at : Statement → StatementAt
statement_at statement = record {
  demand = statement.demand;
  from = path_at statement.from;
  to = option_map path_at statement.to;
}

-- ---- labels

-- a label up to the second quote, with nothing but a comment after it
abbrev pub label_of : List ℕ → Result (List ℕ) FlawAt
label_of quoted = do
  behind ← value_or HasBadLabel (rest 34 quoted)
  if length (trimmed (front 35 behind)) == 0 && is_given (front 34 quoted) then Ok (front 34 quoted) else Err HasBadLabel

-- the paths of servers, and the labels that a line is about
pub record TargetAt : Type 0 where
  pub paths : List ℕ
  pub range : LabelRange

abbrev pub target_at : StatementTarget → TargetAt
target_at target = record { paths = target.paths.now; range = target.range }

-- the paths before `with label`, `with prefix` or `with suffix`, and the last word
pub record RangeWordsAt : Type 0 where
  pub paths : List ℕ
  pub word : LabelWord

abbrev pub range_words_at : RangeWords → RangeWordsAt
range_words_at words = record { paths = words.paths.now; word = words.word }

abbrev pub words_by : Option (List ℕ) → Option (List ℕ) → Option (List ℕ) → Option RangeWordsAt
words_by (Some paths) prefix suffix = Some (record { paths = paths; word = word.Label })
words_by None (Some paths) suffix = Some (record { paths = paths; word = word.Prefix })
words_by None None (Some paths) = Some (record { paths = paths; word = word.Suffix })
words_by None None None = None

abbrev pub range_words : List ℕ → Option RangeWordsAt
range_words to =
    words_by (before_end (codes " with label") to) (before_end (codes " with prefix") to) (before_end (codes " with suffix") to)

-- the labels that a word and a label after it denote
abbrev pub range_of : LabelWord → List ℕ → LabelRange
range_of word.Label label = Exactly label
range_of word.Prefix label = Prefix label
range_of word.Suffix label = Suffix label

-- `TO`, `TO with label "LABEL"`, `TO with prefix "LABEL"` or `TO with suffix "LABEL"`
abbrev pub target_of : List ℕ → Option (List ℕ) → Result TargetAt FlawAt
target_of to None = if is_some (text_at (codes " with ") to) then Err HasBadLabel else Ok (record { paths = to; range = AllLabels })
target_of to (Some quoted) = do
  words ← value_or SaysTooMuch (range_words to)
  label ← label_of quoted
  Ok (record { paths = words.paths; range = range_of words.word label })

-- ---- forms

abbrev pub verb_of : List ℕ → Option Verb
verb_of word =
    if bytes_eq word (codes "deny") then Some verb.Deny
    else if bytes_eq word (codes "allow") then Some verb.Allow
    else if bytes_eq word (codes "only") then Some verb.Only
    else None

abbrev pub demand_of : Verb → LabelRange → Demand
demand_of verb.Deny range = Deny range
demand_of verb.Allow range = Allow range
demand_of verb.Only range = Only range

-- paths that begin where a last part of a line does
abbrev pub path_in : List ℕ → List ℕ → List ℕ → PathAt
path_in head last text = record { text = text; at = length head - length last }

-- `VERB FROM -> TO`, with how labels are, if that is said
abbrev pub reach_of : List ℕ → Verb → Option (List ℕ) → Option (List ℕ) → Result StatementAt FlawAt
reach_of head verb after quoted = do
  paths ← value_or LacksDemand after
  to ← value_or LacksArrow (rest 62 paths)
  from ← value_or LacksArrow (before_end (codes "-") (front 62 paths))
  target ← target_of to quoted
  Ok (record { demand = demand_of verb target.range; from = path_in head paths from; to = Some (path_in head to target.paths) })

-- `isolate PATHS`
abbrev pub isolated : List ℕ → Option (List ℕ) → Option (List ℕ) → Result StatementAt FlawAt
isolated head None quoted = Err LacksDemand
isolated head (Some paths) (Some quoted) = Err SaysTooMuch
isolated head (Some paths) None = Ok (record { demand = Isolate; from = path_in head paths paths; to = None })

-- `RAM, CAPS`
abbrev pub limit_by : Option ℕ → Option ℕ → Option BudgetLimit
limit_by (Some ram) (Some caps) = Some (record { ram = ram; caps = caps })
limit_by (Some ram) None = None
limit_by None caps = None

abbrev pub limit_of : List ℕ → Option BudgetLimit
limit_of amounts =
    option_and_then (λ caps. limit_by (amount_of (trimmed (front 44 amounts))) (number_of (trimmed caps))) (rest 44 amounts)

-- `PATHS at most RAM, CAPS`
abbrev pub budget_with : List ℕ → Option (List ℕ) → Option BudgetLimit → Result StatementAt FlawAt
budget_with paths (Some quoted) limit = Err SaysTooMuch
budget_with paths None None = Err HasBadBudget
budget_with paths None (Some limit) = Ok (record { demand = AtMost limit; from = record { text = paths; at = 0 }; to = None })

abbrev pub budget_of : List ℕ → Option (List ℕ) → Result StatementAt FlawAt
budget_of head quoted = do
  at ← value_or LacksDemand (text_at (codes " at most ") head)
  budget_with (take at head) quoted (limit_of (drop 9 (drop at head)))

-- the statement of a line, by the text before a quote and the text after it
abbrev pub verb_statement : List ℕ → Option Verb → Option (List ℕ) → Result StatementAt FlawAt
verb_statement head (Some verb) quoted = reach_of head verb (rest 32 head) quoted
verb_statement head None quoted = budget_of head quoted

abbrev pub statement_of : List ℕ → Option (List ℕ) → Result StatementAt FlawAt
statement_of head quoted =
    if bytes_eq (front 32 head) (codes "isolate") then isolated head (rest 32 head) quoted
    else verb_statement head (verb_of (front 32 head)) quoted
