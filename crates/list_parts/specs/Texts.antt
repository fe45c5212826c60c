-- Texts that there may be.
use Rattle.std.specs.Prelude.{ℕ, Bool, false, List, Option, Some, None}

-- there is a text, and this holds of it
abbrev pub has : (List ℕ → Bool) → Option (List ℕ) → Bool
has holds None = false
has holds (Some text) = holds text
