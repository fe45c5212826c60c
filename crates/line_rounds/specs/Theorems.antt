-- Theorems about every scenario.
use Rattle.std.specs.Prelude.{◌≡◌, ◌≢◌, ℕ, List, [], slice_index, Ok}
use Rattle.std.specs.List.{All}
use Rattle.own_model.specs.Text.{lines_of}
use Rattle.line_friendly.specs.Friendly.{trimmed_line}
use Rattle.line_rounds.specs.Unfolding.{unfolded}
use Rattle.line_names.specs.NameTable.{NameTable}

-- a text in which no line begins with `@` is itself, without marks
abbrev pub PlainTextsStay : Type 0
PlainTextsStay =
    (given : NameTable) (text : List ℕ) → All (λ line. slice_index (trimmed_line line) 0 ≢ 64) (lines_of text)
    → unfolded given text ≡ Ok (record { text = text; marks = [] })
