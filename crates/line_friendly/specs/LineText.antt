-- A line that is put together, up to the longest that the engine reads.
use Rattle.std.specs.Prelude.{ℕ, ◌-◌, List, ◌++◌, length, nat_le, if◌then◌else◌, Option, Some, None}
use Rattle.own_model.specs.Transcript.{longest_line}

-- with more bytes at its end, or too long
unfoldable pub added : Option (List ℕ) → List ℕ → Option (List ℕ)
added None more = None
added (Some text) more = if nat_le (length more) (longest_line - length text) then Some (text ++ more) else None
