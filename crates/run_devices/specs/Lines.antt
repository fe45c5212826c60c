-- The lines that a source still has.
use Rattle.std.specs.Prelude.{◌≡◌, ℕ, ◌+◌, ◌≤◌, ◌==◌, ◌⊎◌, Bool, List, [], ◌++◌, Option, Result, Some, Ok, Err, drop, take, length}
use Rattle.std.specs.List.{All, count_by, position_or_len}
use Rattle.std.specs.Io.KnownBytes.{prepend_known, Keeps, IsAtEnd}
use Rattle.own_model.specs.Text.{lines_of}

abbrev pub is_newline : ℕ → Bool
is_newline b = b == 10

-- the number of bytes before the first newline, or of all bytes if there is none
abbrev pub line_length : List ℕ → ℕ
line_length bytes = position_or_len is_newline bytes

-- the line with which a text begins
abbrev pub line_of : List ℕ → List ℕ
line_of bytes = take (line_length bytes) bytes

-- the bytes after that line and its newline
abbrev pub after_line : List ℕ → List ℕ
after_line bytes = drop (line_length bytes + 1) bytes

-- the longest line that is read to its end, in bytes
abbrev pub longest_read : ℕ
longest_read = 1048576

-- none of these lines is longer
abbrev pub AreReadable : List (List ℕ) → Type 0
AreReadable lines = All (λ line. length line ≤ longest_read) lines

-- the bytes that were read ahead, and then what the source has left
abbrev pub to_come : List ℕ → Option (List ℕ) → Option (List ℕ)
to_come ahead rest = prepend_known ahead rest

-- n bytes are read after those ahead, none only at the end
pub record Grows (ahead : List ℕ) (rest : Option (List ℕ)) (now_ahead : List ℕ) (now_rest : Option (List ℕ))
    (n : ℕ) : Type 0 where
  pub kept : take (length ahead) now_ahead ≡ ahead
  pub count : length now_ahead ≡ length ahead + n
  pub come : Keeps (to_come ahead rest) (to_come now_ahead now_rest)
  pub end : n ≡ 0 → IsAtEnd now_rest

-- the same, unless the read fails
abbrev pub GrowsUnless : {E : Type 0} → Result ℕ E →
    List ℕ → Option (List ℕ) → List ℕ → Option (List ℕ) → Type 0
GrowsUnless (Ok n) ahead rest now_ahead now_rest = Grows ahead rest now_ahead now_rest n
GrowsUnless (Err fault) ahead rest now_ahead now_rest = (now_ahead ≡ ahead) × Keeps rest now_rest

-- n bytes of the first line were passed
pub record PassesSome (before : List ℕ) (new : Option (List ℕ)) (n : ℕ) : Type 0 where
  pub of_line : n ≤ line_length before
  pub left : new ≡ Some (drop n before)

-- some lines of a text were passed, with their newlines or to the end of the text
pub record PassesLines (text : List ℕ) (come : Option (List ℕ)) (lines : List (List ℕ)) : Type 0 where
  pub passed : List ℕ
  pub rest : List ℕ
  pub is_rest : come ≡ Some rest
  pub parts : text ≡ passed ++ rest
  pub first : lines_of text ≡ lines ++ lines_of rest
  pub ended : (count_by is_newline passed ≡ length lines) ⊎ (rest ≡ [])

-- a text was read so far that so many of its lines ended, each at its newline or at the end of the text
pub record IsReadTo (count : ℕ) (text : List ℕ) (rest : Option (List ℕ)) : Type 0 where
  pub read : List ℕ
  pub left : List ℕ
  pub is_left : rest ≡ Some left
  pub parts : text ≡ read ++ left
  pub ended : (count_by is_newline read ≡ count) ⊎ ((left ≡ []) × (length (lines_of text) ≡ count))

-- a text was read so far that so many of its lines, or more, were read whole
pub record HasRead (count : ℕ) (text : List ℕ) (rest : Option (List ℕ)) : Type 0 where
  pub read : List ℕ
  pub left : List ℕ
  pub is_left : rest ≡ Some left
  pub parts : text ≡ read ++ left
  pub whole : (count ≤ count_by is_newline read) ⊎ (left ≡ [])
