-- The word that may have been meant by a misspelt one.
use Rattle.std.specs.Prelude.{ℕ, ◌*◌, ◌==◌, ◌&&◌, Bool, List, find, length, nat_lt, Option}
use Rattle.std.specs.Option.{option_or}
use Rattle.std.specs.Str.{chars}
use Rattle.strsim.specs.Edits.{osa_table}

-- the number of edits between two words, by optimal string alignment: an edit adds, removes or replaces a character, or exchanges
-- two neighbouring characters, and no character is edited twice
abbrev pub edits : List ℕ → List ℕ → ℕ
edits meant written = (osa_table (chars meant) (chars written)).last_row (length (chars written))

-- the words differ by so many edits, fewer than half of the bytes of the meant word
abbrev pub is_away : ℕ → List ℕ → List ℕ → Bool
is_away count written meant = (edits meant written == count) && nat_lt (2 * count) (length meant)

-- the first word that is one edit away, or else the first that is two away
abbrev pub nearest : List (List ℕ) → List ℕ → Option (List ℕ)
nearest words written = option_or (find (is_away 1 written) words) (find (is_away 2 written) words)
