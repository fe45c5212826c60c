-- The lines that begin with `@`.
use Rattle.std.specs.Prelude.{ℕ, ◌&&◌, List, [], ◌∷◌, length, take, codes, nat_lt, if◌then◌else◌, Option, Some, None}
use Rattle.std.specs.List.{list_all}
use Rattle.std.specs.Str.{bytes_eq}
use Rattle.line_friendly.specs.Friendly.{end_of, trimmed_line}
use Rattle.line_friendly.specs.Words.{is_blank, next_word, skip_blanks}
use Rattle.line_names.specs.Filling.{is_directive}
use Rattle.line_names.specs.NameTable.{Binding, NameTable, with_bound}
use Rattle.line_names.specs.Names.{is_name}

-- a name that is set; a directive for a file only; and an unknown directive
pub data Directive : Type 0 where
  Set : Binding → Directive
  Repeat : Directive
  End : Directive
  Unknown : Directive

-- a text without the blanks at its end
abbrev pub trimmed : List ℕ → List ℕ
trimmed [] = []
trimmed (b ∷ bs) = if list_all is_blank (b ∷ bs) then [] else b ∷ trimmed bs

-- a name and its value: one token or more
abbrev pub binding_of : List ℕ → Option Binding
binding_of text =
    if is_name (next_word text).word && nat_lt 0 (length (skip_blanks (next_word text).rest))
    then Some (record { name = (next_word text).word; value = trimmed (skip_blanks (next_word text).rest) })
    else None

abbrev pub set_by : Option Binding → Directive
set_by (Some binding) = Set binding
set_by None = Unknown

-- the directive of a token, and the text after it
abbrev pub directive_by : List ℕ → List ℕ → Directive
directive_by word rest =
    if bytes_eq word (codes "@set") then set_by (binding_of rest)
    else (if bytes_eq word (codes "@repeat") then Repeat
    else (if bytes_eq word (codes "@end") then End
    else Unknown))

-- the directive of a line that begins with `@`, without the comment after it
abbrev pub directive_of : List ℕ → Option Directive
directive_of line =
    if is_directive line
    then Some (directive_by (next_word (trimmed_line (take (end_of line) line))).word (next_word (trimmed_line (take (end_of line) line))).rest)
    else None

-- the values of names after it
abbrev pub followed : NameTable → Directive → NameTable
followed known (Set binding) = with_bound known binding.name binding.value
followed known Repeat = known
followed known End = known
followed known Unknown = known
