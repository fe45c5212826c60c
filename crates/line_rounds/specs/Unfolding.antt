-- A scenario's lines with their rounds unfolded.
use Rattle.std.specs.Prelude.{ℕ, ◌+◌, ◌&&◌, not, Bool, true, false, zero, suc, List, [], ◌∷◌, ◌++◌, length, take, codes, nat_eq, nat_lt, if◌then◌else◌, Option, Some, None, Result, Ok, Err}
use Rattle.std.specs.List.{list_any}
use Rattle.std.specs.Option.{option_and_then, option_map}
use Rattle.std.specs.Str.{bytes_eq}
use Rattle.own_model.specs.Text.{lines_of}
use Rattle.trade_base.specs.Amount.{number_of}
use Rattle.line_friendly.specs.Words.{next_word, skip_blanks}
use Rattle.line_names.specs.Directives.{Directive, directive_of, followed}
use Rattle.line_names.specs.Directives.Directive.{Set, Repeat, End, Unknown}
use Rattle.line_names.specs.Filling.{FilledLine, filled, is_directive}
use Rattle.line_names.specs.NameTable.{NameTable}
use Rattle.line_names.specs.Names.{is_name}
use Rattle.line_names.specs.RoundMarks.{RoundCounter, RoundMark, crossed}
use Rattle.line_names.specs.Sums.{and_then, map_ok}
use Rattle.line_names.specs.declared.fault.NameFault.{NameFault}
use Rattle.line_names.specs.declared.round_mark.Border.TheVariants.{Enter, Again, Leave}
use Rattle.line_rounds.specs.Structure.{body_length, kind_of, opens_from, place_of, words_of}
use Rattle.line_rounds.specs.declared.fault.RoundPlace.{RoundPlace}
use Rattle.line_rounds.specs.declared.fault.RoundsReason.TheVariants.{Name, NoCount, TooDeep, TooMany}
use Rattle.line_rounds.specs.declared.fault.RoundsFault.{RoundsFault}
use Rattle.line_rounds.specs.declared.lines.RoundLineKind.{RoundLineKind}
use Rattle.line_rounds.specs.declared.lines.RoundLineKind.TheVariants.{Repeats, Ends, Plain}

-- a scenario whose rounds are unfolded: the text of the lines that are run, and the marks of rounds between them
pub record UnfoldedText : Type 0 where
  pub text : List ℕ
  pub marks : List RoundMark

-- the result so far: a text, the number of its lines and of rounds without lines, its marks, and the values of names at its end
pub record Made : Type 0 where
  pub text : List ℕ
  pub count : ℕ
  pub marks : List RoundMark
  pub known : NameTable

-- the maximum number of lines that are run, with one for each round that has none
abbrev pub most_lines : ℕ
most_lines = 1000000

-- ---- one line

-- a line more, if that isn't too many
abbrev pub counted : RoundPlace → ℕ → Result ℕ RoundsFault
counted place n = if nat_lt n most_lines then Ok (n + 1) else Err (record { at = place; reason = TooMany })

abbrev pub with_text : RoundPlace → Made → List ℕ → Result Made RoundsFault
with_text place made line =
    map_ok (λ n. record made { text = made.text ++ line ++ 10 ∷ []; count = n }) (counted place made.count)

-- the values of names after it; a name whose value is known in the run only has none before it
abbrev pub set_by : NameTable → Option Directive → NameTable
set_by known None = known
set_by known (Some directive) = followed known directive

abbrev pub without_value : Option Directive → Option Directive
without_value None = None
without_value (Some (Set binding)) = Some (Set (record { name = binding.name; value = [] }))
without_value (Some Repeat) = None
without_value (Some End) = None
without_value (Some Unknown) = None

abbrev pub said_by : List ℕ → Result FilledLine NameFault → Option Directive
said_by line (Ok filled) = directive_of filled.line
said_by line (Err fault) = without_value (directive_of line)

abbrev pub known_after : NameTable → List ℕ → NameTable
known_after known line = if is_directive line then set_by known (said_by line (filled known line)) else known

abbrev pub with_line : RoundPlace → Made → List ℕ → Result Made RoundsFault
with_line place made line =
    map_ok (λ (more : Made). record more { known = known_after more.known line }) (with_text place made line)

-- ---- marks

-- a mark more
abbrev pub with_mark : Made → RoundMark → Made
with_mark made mark = record made { marks = made.marks ++ mark ∷ []; known = crossed made.known mark }

-- ---- the line of `@repeat`

-- how many rounds, and the name of their counter
pub record RoundHead : Type 0 where
  pub count : ℕ
  pub counter : Option (List ℕ)

-- the text after `as`
abbrev pub counted_by : ℕ → List ℕ → Option RoundHead
counted_by n text =
    if is_name (next_word text).word && nat_eq (length (skip_blanks (next_word text).rest)) 0
    then Some (record { count = n; counter = Some (next_word text).word }) else None

-- the text after a count
abbrev pub head_by : List ℕ → ℕ → Option RoundHead
head_by text n =
    if nat_eq (length (skip_blanks text)) 0 then Some (record { count = n; counter = None })
    else (if bytes_eq (next_word text).word (codes "as") then counted_by n (next_word text).rest else None)

-- the text after `@repeat`
abbrev pub head_said : List ℕ → Option RoundHead
head_said text = option_and_then (head_by (next_word text).rest) (number_of (next_word text).word)

abbrev pub head_or : RoundPlace → Option RoundHead → Result RoundHead RoundsFault
head_or place (Some head) = Ok head
head_or place None = Err (record { at = place; reason = NoCount })

-- with the values of its names
abbrev pub head_in : ℕ → List ℕ → Result FilledLine NameFault → Result RoundHead RoundsFault
head_in number line (Ok filled) = head_or (place_of number line) (head_said (next_word (words_of filled.line)).rest)
head_in number line (Err fault) =
    Err (record { at = record { line = number; column = fault.column }; reason = Name fault.reason })

abbrev pub head_of : NameTable → ℕ → List ℕ → Result RoundHead RoundsFault
head_of known number line = head_in number line (filled known line)

-- ---- rounds

-- how lines within are unfolded, by the number of the first
abbrev pub Inner : Type 0
Inner = ℕ → Made → List (List ℕ) → Result Made RoundsFault

abbrev pub counter_of : RoundHead → ℕ → Option RoundCounter
counter_of head k = option_map (λ name. record { name = name; count = k }) head.counter

-- the number of the line of `@end`, of rounds that begin in the line of this number and have this number of lines
abbrev pub end_line : ℕ → ℕ → ℕ
end_line number size = number + size + 1

-- the mark before a round: the first is entered at the line of `@repeat`, and each further one at that of `@end`
abbrev pub round_border : ℕ → ℕ → ℕ → RoundMark
round_border number size k =
    if nat_eq k 0 then record { at = number; border = Enter; next = number + 1; counter = None }
    else record { at = end_line number size; border = Again; next = number + 1; counter = None }

-- with the round's counter
abbrev pub mark_of : RoundHead → ℕ → ℕ → ℕ → RoundMark
mark_of head number size k = record (round_border number size k) { counter = counter_of head k }

-- a round that has no line counts as one
abbrev pub round_counted : RoundPlace → ℕ → Made → Result Made RoundsFault
round_counted place before made =
    if nat_eq made.count before then map_ok (λ n. record made { count = n }) (counted place made.count) else Ok made

-- this number of rounds from one on, of rounds that begin in the line of this number
abbrev pub rounds_from : Inner → RoundPlace → RoundHead → ℕ → ℕ → Made → List (List ℕ) → Result Made RoundsFault
rounds_from inner place head k zero made body = Ok made
rounds_from inner place head k (suc left) made body =
    and_then (inner (place.line + 1) (with_mark made (mark_of head place.line (length body) k)) body)
    (λ more. and_then (round_counted place made.count more)
    (λ next. rounds_from inner place head (k + 1) left next body))

-- if there is no round, the rounds begin at their end
abbrev pub mark_at_end : ℕ → ℕ → RoundMark
mark_at_end number size = record { at = number; border = Enter; next = end_line number size; counter = None }

abbrev pub begun : ℕ → ℕ → RoundHead → Made → Made
begun number size head made = if nat_eq head.count 0 then with_mark made (mark_at_end number size) else made

-- the mark after the last round
abbrev pub last_mark : ℕ → ℕ → RoundMark
last_mark number size =
    record { at = end_line number size; border = Leave; next = end_line number size + 1; counter = None }

abbrev pub rounds_by : Inner → RoundPlace → Made → List (List ℕ) → RoundHead → Result Made RoundsFault
rounds_by inner place made body head =
    map_ok (λ (all : Made). with_mark all (last_mark place.line (length body)))
    (rounds_from inner place head 0 head.count (begun place.line (length body) head made) body)

abbrev pub rounds_of : Inner → ℕ → Made → List ℕ → List (List ℕ) → Result Made RoundsFault
rounds_of inner number made line body =
    and_then (head_of made.known number line) (rounds_by inner (place_of number line) made body)

-- ---- line after line

-- with a line, by its kind, and by the lines after it
abbrev pub step_of : Inner → ℕ → Made → List ℕ → List (List ℕ) → RoundLineKind → Result Made RoundsFault
step_of inner number made line behind Plain = with_line (place_of number line) made line
step_of inner number made line behind Ends = Ok made
step_of inner number made line behind Repeats = rounds_of inner number made line (take (body_length 0 behind) behind)

-- how many of them belong to it
abbrev pub owned : RoundLineKind → List (List ℕ) → ℕ
owned Repeats behind = body_length 0 behind
owned Ends behind = 0
owned Plain behind = 0

-- lines from a number on, of which the first belong to one before
abbrev pub lines_from : Inner → ℕ → ℕ → Made → List (List ℕ) → Result Made RoundsFault
lines_from inner skip number made [] = Ok made
lines_from inner (suc skip) number made (line ∷ lines) = lines_from inner skip (number + 1) made lines
lines_from inner zero number made (line ∷ lines) =
    and_then (step_of inner number made line lines (kind_of line))
    (λ more. lines_from inner (owned (kind_of line) lines) (number + 1) more lines)

-- lines within rounds so deep at most
abbrev pub within : ℕ → Inner
within zero number made lines = Err (record { at = record { line = number; column = 1 }; reason = TooDeep })
within (suc deep) number made lines = lines_from (within deep) 0 number made lines

-- ---- the whole text

abbrev pub is_round : RoundLineKind → Bool
is_round Repeats = true
is_round Ends = true
is_round Plain = false

-- a text has rounds
abbrev pub has_rounds : List (List ℕ) → Bool
has_rounds lines = list_any (λ line. is_round (kind_of line)) lines

-- all rounds that began have ended
abbrev pub all_ended : List RoundsFault → Result Unit RoundsFault
all_ended [] = Ok tt
all_ended (first ∷ more) = Err first

-- rounds begin and end as they may
abbrev pub is_whole : List (List ℕ) → Result Unit RoundsFault
is_whole lines = and_then (opens_from 1 [] lines) all_ended

-- a scenario with its rounds unfolded, by what is given from outside
abbrev pub unfolded_lines : NameTable → List (List ℕ) → Result UnfoldedText RoundsFault
unfolded_lines given lines =
    and_then (is_whole lines)
    (λ _. map_ok (λ (made : Made). record { text = made.text; marks = made.marks })
    (within 5 1 (record { text = []; count = 0; marks = []; known = given }) lines))

abbrev pub unfolded : NameTable → List ℕ → Result UnfoldedText RoundsFault
unfolded given text =
    if not (has_rounds (lines_of text)) then Ok (record { text = text; marks = [] })
    else (if nat_lt most_lines (length (lines_of text))
    then Err (record { at = record { line = most_lines + 1; column = 1 }; reason = TooMany })
    else unfolded_lines given (lines_of text))
