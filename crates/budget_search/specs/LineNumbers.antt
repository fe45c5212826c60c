-- Sets of line numbers.
use Rattle.std.specs.Prelude.{ℕ, Bool, false}
use Rattle.std.specs.List.{slice_get}
use Rattle.std.specs.Option.{unwrap_or}
use Rattle.budget_search.specs.declared.line_numbers.LineNumbers.{LineNumbers}

-- a number is among them
abbrev pub has_number : LineNumbers → ℕ → Bool
has_number numbers number = unwrap_or (slice_get numbers.has.items number) false
