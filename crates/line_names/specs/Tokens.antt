-- The text of a line that a fault is about.
use Rattle.std.specs.Prelude.{ℕ, ◌+◌, ◌-◌, List, take, drop, slice_index, if◌then◌else◌}
use Rattle.line_friendly.specs.Words.{next_word}
use Rattle.line_names.specs.Filling.{is_dollar}
use Rattle.line_names.specs.Names.{DollarToken, sign_of}
use Rattle.line_names.specs.Names.DollarToken.{Named}

-- a name with its `$`, or else all up to the next blank
abbrev pub token_by : DollarToken → List ℕ → List ℕ
token_by (Named name size) text = take (size + 1) text
token_by sign text = (next_word text).word

abbrev pub token_of : List ℕ → List ℕ
token_of text =
    if is_dollar (slice_index text 0) then token_by (sign_of (drop 1 text)) text else (next_word text).word

-- what begins at a column, from 1 on
abbrev pub token_at : List ℕ → ℕ → List ℕ
token_at line column = token_of (drop (column - 1) line)
