-- How far a run has read after the lines whose replies are written.
use Rattle.std.specs.Prelude.{◌≡◌, ℕ, ◌+◌, ◌≤◌, ◌⊎◌, List, ◌++◌, length, nat_lt, if◌then◌else◌, Option, Some, IfSome}
use Rattle.std.specs.Io.KnownBytes.{Appends}
use Rattle.own_model.specs.Transcript.{longest_line}
use Rattle.run_devices.specs.Lines.{line_length, PassesLines}

-- how many bytes are ahead at most
abbrev pub longest_ahead : ℕ
longest_ahead = 16384

-- the most bytes of a text that are read before the earlier output is written: a block, and its first line if that is too
-- long to be kept
abbrev pub reach : List ℕ → ℕ
reach text = longest_ahead + (if nat_lt longest_line (line_length text) then line_length text else 0)

-- at most this number of bytes of a text was read
pub record IsReadUpTo (most : ℕ) (text : List ℕ) (rest : Option (List ℕ)) : Type 0 where
  pub read : List ℕ
  pub left : List ℕ
  pub is_left : rest ≡ Some left
  pub parts : text ≡ read ++ left
  pub few : length read ≤ most

-- all that was gathered is written
pub record IsFlushed (gathered : List ℕ) (written now_written : Option (List ℕ)) : Type 0 where
  pub more : List ℕ
  pub grows : Appends written now_written (gathered ++ more)

-- nothing is read; or all gathered bytes are written, and at most this number of the remaining bytes is read
abbrev pub ReadsBehind : (List ℕ → ℕ) → Option (List ℕ) → List ℕ →
    Option (List ℕ) → Option (List ℕ) → Option (List ℕ) → Option (List ℕ) → Type 0
ReadsBehind most come gathered written rest now_written now_rest =
    (now_rest ≡ rest)
    ⊎ (IsFlushed gathered written now_written × IfSome come (λ text. IsReadUpTo (most text) text now_rest))

-- how many bytes are gathered at most before they are written
abbrev pub longest_gathered : ℕ
longest_gathered = 8192

-- all output of the lines answered except the last one is written, or all except as much as is gathered at most
pub record WritesClose (told : List (List ℕ) → List ℕ) (answered : List (List ℕ)) (written now_written : Option (List ℕ)) : Type 0 where
  pub before : List (List ℕ)
  pub last : List (List ℕ)
  pub parts : answered ≡ before ++ last
  pub one : length last ≤ 1
  pub out : List ℕ
  pub grows : Appends written now_written out
  pub few : length (told before) ≤ length out + longest_gathered

-- all output of the first of the lines answered is written. No more of the text after them was read than a block, and the
-- next line if that is too long to be kept
pub record KeepsUp (told : List (List ℕ) → List ℕ) (answered : List (List ℕ))
    (input rest written now_written : Option (List ℕ)) : Type 0 where
  pub before : List (List ℕ)
  pub since : List (List ℕ)
  pub parts : answered ≡ before ++ since
  pub more : List ℕ
  pub grows : Appends written now_written (told before ++ more)
  pub reads : IfSome input (λ text. (behind : List ℕ)
      × PassesLines text (Some behind) before × IsReadUpTo (reach behind) behind rest)
