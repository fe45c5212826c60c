-- The position of a run in its scenario, and the values of names there.
use Rattle.std.specs.Prelude.{ℕ, ◌+◌, Bool, false, List, [], ◌∷◌, min, nat_eq, if◌then◌else◌}
use Rattle.line_names.specs.Directives.{Directive, followed}
use Rattle.line_names.specs.NameTable.{NameTable}
use Rattle.line_names.specs.RoundMarks.{RoundMark, crossed}

-- the number of the next line, the values of names, and the marks of rounds that are still ahead
pub record RunPosition : Type 0 where
  pub number : ℕ
  pub known : NameTable
  pub ahead : List RoundMark

-- the first mark is due before the line of a number
abbrev pub is_due : ℕ → List RoundMark → Bool
is_due number [] = false
is_due number (mark ∷ marks) = nat_eq mark.at number

-- the position of a run after the marks that are due before the line of a number
abbrev pub arrived_at : ℕ → NameTable → List RoundMark → RunPosition
arrived_at number known [] = record { number = number; known = known; ahead = [] }
arrived_at number known (mark ∷ marks) =
    if nat_eq mark.at number then arrived_at mark.next (crossed known mark) marks
    else record { number = number; known = known; ahead = mark ∷ marks }

abbrev pub arrived : RunPosition → RunPosition
arrived position = arrived_at position.number position.known position.ahead

-- the position before the first line, with the names that are given
abbrev pub first_position : NameTable → List RoundMark → RunPosition
first_position given marks = arrived_at 1 given marks

-- the number after one, of 64 bits
abbrev pub number_after : ℕ → ℕ
number_after n = min (n + 1) 18446744073709551615

-- a line was passed
abbrev pub passed : RunPosition → RunPosition
passed position = record position { number = number_after position.number }

-- rounds begin or end after the next line
abbrev pub crosses : RunPosition → Bool
crosses position = is_due (number_after position.number) position.ahead

-- the position after a directive
abbrev pub position_following : RunPosition → Directive → RunPosition
position_following position directive = record position { known = followed position.known directive }
