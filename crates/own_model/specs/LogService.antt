-- The log service of one client: what a session's bytes make of its line.
use Rattle.std.specs.Prelude.{◌≡◌, ℕ, ◌*◌, ◌/◌, ◌<◌, ◌≤◌, ◌==◌, Bool, false, List, [], ◌∷◌, ◌++◌, length, drop, map, Option, Some, None}
use Rattle.std.specs.List.{All, slice_split}
use Rattle.std.specs.Simd.{first_chunks}
use Rattle.own_model.specs.Reply.{LogLine}
use Rattle.own_model.specs.LogText.{log_request, log_reply, bad_request}

-- the longest line, in bytes
abbrev pub longest_log_line : ℕ
longest_log_line = 200

abbrev pub is_newline : ℕ → Bool
is_newline b = b == 10

-- how many times a piece has the bytes of a longest line
abbrev pub runs_in : List ℕ → ℕ
runs_in piece = length piece / longest_log_line

-- that many lines, from its front on
abbrev pub full_runs : List ℕ → List (List ℕ)
full_runs piece = first_chunks longest_log_line (runs_in piece) piece

-- the bytes after them
abbrev pub left_over : List ℕ → List ℕ
left_over piece = drop (runs_in piece * longest_log_line) piece

-- finished lines, and the line that isn't finished yet
pub record Logged : Type 0 where
  pub lines : List (List ℕ)
  pub partial : List ℕ

-- pieces, each but the last ended by a newline: what is left over of one that was ended is a line too, even if it is
-- empty, and what is left over of the last isn't finished yet
abbrev pub logged : List (List ℕ) → Logged
logged [] = record { lines = []; partial = [] }
logged (piece ∷ []) = record { lines = full_runs piece; partial = left_over piece }
logged (piece ∷ next ∷ pieces) = record (logged (next ∷ pieces)) {
  lines = full_runs piece ++ left_over piece ∷ (logged (next ∷ pieces)).lines;
}

-- bytes after a line that isn't finished yet: these together are cut at each newline
unfoldable pub written : List ℕ → List ℕ → Logged
written partial bytes = logged (slice_split is_newline (partial ++ bytes))

-- finished lines of a session with this label
abbrev pub labelled : List ℕ → List (List ℕ) → List LogLine
labelled label lines = map (λ text. record { label = label; text = text }) lines

-- what a request is answered, the lines that it finished, and the line that isn't finished yet after it
pub record LogServed : Type 0 where
  pub reply : List ℕ
  pub lines : List (List ℕ)
  pub partial : List ℕ

-- what the bytes of a request do, if it has any
abbrev pub log_served_bytes : List ℕ → Option (List ℕ) → LogServed
log_served_bytes partial None = record { reply = bad_request; lines = []; partial = partial }
log_served_bytes partial (Some bytes) = record {
  reply = log_reply (length bytes);
  lines = (written partial bytes).lines;
  partial = (written partial bytes).partial;
}

-- what a request does
abbrev pub log_served : List ℕ → List ℕ → LogServed
log_served partial request = log_served_bytes partial (log_request request)

-- ---- theorems

-- a byte that ends no line
abbrev pub IsUnbroken : ℕ → Type 0
IsUnbroken b = is_newline b ≡ false

-- a finished line: no longer than the longest, and without a newline
pub record IsLogLine (line : List ℕ) : Type 0 where
  pub within : length line ≤ longest_log_line
  pub whole : All IsUnbroken line

-- a line that isn't finished yet: shorter than the longest, and without a newline
pub record IsPartial (partial : List ℕ) : Type 0 where
  pub short : length partial < longest_log_line
  pub whole : All IsUnbroken partial

-- bytes finish lines, and leave one that isn't finished yet
abbrev pub WritesAreLines : Type 0
WritesAreLines =
    (partial bytes : List ℕ) → IsPartial partial →
    All IsLogLine (written partial bytes).lines × IsPartial (written partial bytes).partial

-- how bytes are divided into requests makes no difference
abbrev pub WritesAddUp : Type 0
WritesAddUp =
    (partial xs ys : List ℕ) → IsPartial partial →
    written partial (xs ++ ys)
    ≡ record {
      lines = (written partial xs).lines ++ (written (written partial xs).partial ys).lines;
      partial = (written (written partial xs).partial ys).partial;
    }
