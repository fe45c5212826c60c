-- The causes for which no further lines are answered, and the part of the output that is written then.
use Rattle.std.specs.Prelude.{◌≡◌, ℕ, ◌<◌, ◌≤◌, ◌⊎◌, Bool, true, false, List, [], ◌++◌, length, slice_index_or, Option, Result, Ok, Err}
use Rattle.std.specs.Io.KnownBytes.{Appends}
use Rattle.own_model.specs.Text.{lines_of}
use Rattle.run_devices.specs.Lines.{longest_read, AreReadable, HasRead, IsReadTo}
use Rattle.run_lines.specs.declared.run_fault.RunFault.{RunFault}
use Rattle.run_lines.specs.declared.run_fault.RunFault.TheVariants.{ReadFault, WriteFault, TooManyLines}

-- why these lines of an input were answered or skipped and those left were not:
-- the reader failed when just these had ended, or the next one is too long to be read to its end;
-- the writer failed, and no line was answered that isn't allowed or wasn't read whole;
-- or these are as many as are allowed, and one more began
abbrev pub StopsFor : RunFault → List (List ℕ) → List (List ℕ) → ℕ → List ℕ → Option (List ℕ) → Bool → Type 0
StopsFor ReadFault answered left max_lines input rest failed =
    ((failed ≡ true) × IsReadTo (length answered) input rest)
    ⊎ (longest_read < length (slice_index_or left 0 []))
StopsFor WriteFault answered left max_lines input rest failed =
    (length answered ≤ max_lines) × HasRead (length answered) input rest
StopsFor TooManyLines answered left max_lines input rest failed =
    (length answered ≡ max_lines) × (0 < length left)

-- an input within the bounds, over devices that don't fail, is no cause to stop
abbrev pub HasCause : List ℕ → ℕ → Bool → Bool → Type 0
HasCause input max_lines read_failed write_failed =
    read_failed ≡ false → write_failed ≡ false → AreReadable (lines_of input)
    → length (lines_of input) ≤ max_lines → ⊥

-- a write failed
abbrev pub is_write_fault : {T : Type 0} → Result T RunFault → Bool
is_write_fault (Ok x) = false
is_write_fault (Err ReadFault) = false
is_write_fault (Err WriteFault) = true
is_write_fault (Err TooManyLines) = false
