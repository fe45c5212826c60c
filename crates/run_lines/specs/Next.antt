-- The next line of a source, and the faults that prevent it.
use Rattle.std.specs.Prelude.{◌≡◌, ℕ, ◌+◌, ◌<◌, ◌≤◌, Bool, true, false, List, [], Option, Result, Some, Ok, Err, IfSome, IfOk, drop, take, length, nat_lt, ⊤}
use Rattle.std.specs.Io.KnownBytes.{Keeps}
use Rattle.own_model.specs.Transcript.{longest_line}
use Rattle.run_lines.specs.declared.lines.Buffers.{Buffers}
use Rattle.run_lines.specs.declared.lines.NextLine.{NextLine}
use Rattle.run_lines.specs.declared.lines.NextLine.TheVariants.{Line, TooLong, End}
use Rattle.run_lines.specs.declared.lines.LineFault.{LineFault}
use Rattle.run_lines.specs.declared.lines.LineFault.TheVariants.{Read, Write, Endless}
use Rattle.run_devices.specs.RunOutput.{Tells, OutputsPart}
use Rattle.run_lines.specs.Reach.{ReadsBehind, reach}
use Rattle.run_devices.specs.Lines.{line_length, line_of, after_line, longest_read, to_come, Grows, HasRead, PassesSome}

-- the bytes ahead begin with the next line, of n bytes, and the bytes after it remain
pub record BeginsWithLine (before ahead : List ℕ) (rest : Option (List ℕ)) (n : ℕ) : Type 0 where
  pub some : 0 < length before
  pub line : take n ahead ≡ line_of before
  pub after : to_come (drop (n + 1) ahead) rest ≡ Some (after_line before)

-- the next line is longer than any that is read as a call, but is read to its end, and is passed
pub record PassesLongLine (before : List ℕ) (new : Option (List ℕ)) : Type 0 where
  pub long : longest_line < line_length before
  pub ends : line_length before ≤ longest_read
  pub after : new ≡ Some (after_line before)

-- the next line, or the end
abbrev pub IsNext : List ℕ → List ℕ → Option (List ℕ) → NextLine → Type 0
IsNext before ahead rest (Line n) = BeginsWithLine before ahead rest n
IsNext before ahead rest TooLong = PassesLongLine before (to_come ahead rest)
IsNext before ahead rest End = before ≡ []

-- there is no next line: a read failed within the first line, a write failed, or the first line is too long to be read to
-- its end
abbrev pub StopsBefore : LineFault → List ℕ → Option (List ℕ) → Type 0
StopsBefore Read before rest = (n : ℕ) × PassesSome before rest n
StopsBefore Write before rest = HasRead 0 before rest
StopsBefore Endless before rest = longest_read < line_length before

-- the next line is found, or a fault prevents it
abbrev pub FindsNext : Result NextLine LineFault → List ℕ → List ℕ → Option (List ℕ) → Type 0
FindsNext (Ok next) before ahead rest = IsNext before ahead rest next
FindsNext (Err fault) before ahead rest = StopsBefore fault before rest

-- the same, if the remaining bytes are known
abbrev pub FindsNextIn : Result NextLine LineFault → List ℕ → Option (List ℕ) → List ℕ → Option (List ℕ) → Type 0
FindsNextIn result ahead rest now_ahead now_rest =
    IfSome (to_come ahead rest) (λ before. FindsNext result before now_ahead now_rest)

-- it is known whether a line begins, or a fault prevents it
abbrev pub Begins : Result Bool LineFault → List ℕ → Option (List ℕ) → Type 0
Begins (Ok more) before rest = more ≡ nat_lt 0 (length before)
Begins (Err fault) before rest = StopsBefore fault before rest

-- the same, if the remaining bytes are known
abbrev pub BeginsIn : Result Bool LineFault → List ℕ → Option (List ℕ) → Option (List ℕ) → Type 0
BeginsIn result ahead rest now_rest = IfSome (to_come ahead rest) (λ before. Begins result before now_rest)

-- the next line is ahead, and is read as a call; before the end all output was written
abbrev pub IsReady : NextLine → List ℕ → List ℕ → Type 0
IsReady (Line n) ahead gathered = (n ≤ length ahead) × (n ≤ longest_line)
IsReady TooLong ahead gathered = ⊤
IsReady End ahead gathered = gathered ≡ []

-- more was read, or a device failed
abbrev pub GrowsOrStops : Result ℕ LineFault → List ℕ → Option (List ℕ) → List ℕ → Option (List ℕ) → Type 0
GrowsOrStops (Ok n) ahead rest now_ahead now_rest = Grows ahead rest now_ahead now_rest n
GrowsOrStops (Err Read) ahead rest now_ahead now_rest = (now_ahead ≡ ahead) × Keeps rest now_rest
GrowsOrStops (Err Write) ahead rest now_ahead now_rest = (now_ahead ≡ ahead) × (now_rest ≡ rest)
GrowsOrStops (Err Endless) ahead rest now_ahead now_rest = ⊥

-- a read failed
abbrev pub is_read_fault : {T : Type 0} → Result T LineFault → Bool
is_read_fault (Ok x) = false
is_read_fault (Err Read) = true
is_read_fault (Err Write) = false
is_read_fault (Err Endless) = false

-- a write failed
abbrev pub is_write_fault : {T : Type 0} → Result T LineFault → Bool
is_write_fault (Ok x) = false
is_write_fault (Err Read) = false
is_write_fault (Err Write) = true
is_write_fault (Err Endless) = false

-- bytes are output, and all are written if the run stops for another reason than a write
abbrev pub OutputsAt : LineFault → Option (List ℕ) → List ℕ → Option (List ℕ) → List ℕ → Type 0
OutputsAt Read written gathered now_written bytes = Tells written gathered now_written [] bytes
OutputsAt Write written gathered now_written bytes = OutputsPart written gathered now_written bytes
OutputsAt Endless written gathered now_written bytes = Tells written gathered now_written [] bytes

-- the same, unless there is a next line
abbrev pub OutputsOrStops : {T : Type 0} → Result T LineFault →
    Option (List ℕ) → List ℕ → Option (List ℕ) → List ℕ → List ℕ → Type 0
OutputsOrStops (Ok x) written gathered now_written now_gathered bytes =
    Tells written gathered now_written now_gathered bytes
OutputsOrStops (Err fault) written gathered now_written now_gathered bytes =
    OutputsAt fault written gathered now_written bytes

-- neither device has failed
pub record BothWork (read_failed write_failed : Bool) : Type 0 where
  pub reads : read_failed ≡ false
  pub writes : write_failed ≡ false

-- the output can be written, and so can what a line handler writes in addition
pub record OutputsWork (write_failed own_failed : Bool) : Type 0 where
  pub writes : write_failed ≡ false
  pub own : own_failed ≡ false

-- and lines can be read
pub record AllWork (read_failed write_failed own_failed : Bool) : Type 0 where
  pub reads : read_failed ≡ false
  pub writes : write_failed ≡ false
  pub own : own_failed ≡ false

-- a device has failed exactly as the fault states
pub record FailsAs {T : Type 0} (result : Result T LineFault) (read_failed write_failed : Bool) : Type 0 where
  pub reading : read_failed ≡ is_read_fault result
  pub writing : write_failed ≡ is_write_fault result

-- the next line is found or a fault prevents it; gathered bytes are written before each read
pub record FindsLine (result : Result NextLine LineFault) (old : Buffers) (rest written : Option (List ℕ))
    (new : Buffers) (now_rest now_written : Option (List ℕ)) : Type 0 where
  pub next : FindsNextIn result old.ahead rest new.ahead now_rest
  pub ready : IfOk result (λ next. IsReady next new.ahead new.gathered)
  pub behind : ReadsBehind reach (to_come old.ahead rest) old.gathered written rest now_written now_rest
  pub told : OutputsOrStops result written old.gathered now_written new.gathered []
