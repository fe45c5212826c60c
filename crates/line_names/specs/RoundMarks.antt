-- Where the rounds of a scenario begin and end.
use Rattle.std.specs.Prelude.{ℕ, List, decimal, Option, Some, None}
use Rattle.line_names.specs.NameTable.{NameTable, entered, left, with_bound}
use Rattle.line_names.specs.declared.round_mark.Border.{Border}
use Rattle.line_names.specs.declared.round_mark.Border.TheVariants.{Enter, Again, Leave}
use Rattle.line_names.specs.declared.round_mark.Counter.{Counter}

-- a round's counter: its name, and its number in the round
pub record RoundCounter : Type 0 where
  pub name : List ℕ
  pub count : ℕ

-- a mark: the number of the line before which it is due, its effect, the number of the line after it, and the counter of the
-- round that begins, if it has one
pub record RoundMark : Type 0 where
  pub at : ℕ
  pub border : Border
  pub next : ℕ
  pub counter : Option RoundCounter

abbrev pub counter_in : Option Counter → Option RoundCounter
counter_in None = None
counter_in (Some counter) = Some (record { name = counter.name.items; count = counter.count })

-- the values of names after a mark
abbrev pub bordered : NameTable → Border → NameTable
bordered known Enter = entered known
bordered known Again = entered (left known)
bordered known Leave = left known

abbrev pub with_counter : NameTable → Option RoundCounter → NameTable
with_counter known None = known
with_counter known (Some counter) = with_bound known counter.name (decimal counter.count)

abbrev pub crossed : NameTable → RoundMark → NameTable
crossed known mark = with_counter (bordered known mark.border) mark.counter
