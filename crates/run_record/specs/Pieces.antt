-- The pieces of what is left of a text.
use Rattle.std.specs.Prelude.{ℕ, ◌+◌, List, [], length, Option, Some, None}
use Rattle.run_record.specs.Recorded.{pieces_of}

-- none, if nothing is left
abbrev pub pieces_in : Option (List ℕ) → List (List ℕ)
pieces_in None = []
pieces_in (Some text) = pieces_of text

-- how much is left
abbrev pub left_in : Option (List ℕ) → ℕ
left_in None = 0
left_in (Some text) = 1 + length text
