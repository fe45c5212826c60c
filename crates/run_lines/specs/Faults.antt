-- The faults that stop a run before the end of its scenario.
use Rattle.std.specs.Prelude.{◌≡◌, ℕ, Bool, true, false, List, codes, Option, Some, None, Result, Ok, Err}
use Rattle.run_lines.specs.declared.lines.LineFault.{LineFault}
use Rattle.run_lines.specs.declared.lines.LineFault.TheVariants.{Read, Write, Endless}
use Rattle.run_lines.specs.declared.line_run_fault.LineRunFault.{LineRunFault}
use Rattle.run_lines.specs.declared.line_run_fault.LineRunFault.TheVariants.{ReadFault, WriteFault, TooManyLines, NoMemory}
use Rattle.run_lines.specs.declared.run_fault.RunFault.{RunFault}
use Rattle.run_lines.specs.declared.run_fault.RunFault.TheVariants.{ReadFault as Unread, WriteFault as Unwritten, TooManyLines as TooMany}

-- the fault of a run that has no next line
abbrev pub line_fault : LineFault → LineRunFault
line_fault Read = ReadFault
line_fault Write = WriteFault
line_fault Endless = ReadFault

-- the fault of the engine's run, which is never out of memory
abbrev pub play_fault : RunFault → LineRunFault
play_fault Unread = ReadFault
play_fault Unwritten = WriteFault
play_fault TooMany = TooManyLines

-- its text
abbrev pub run_fault_text : RunFault → List ℕ
run_fault_text Unread = codes "Read_fault"
run_fault_text Unwritten = codes "Write_fault"
run_fault_text TooMany = codes "Too_many_lines"

-- a write failed
abbrev pub is_write_fault : Option LineRunFault → Bool
is_write_fault None = false
is_write_fault (Some ReadFault) = false
is_write_fault (Some WriteFault) = true
is_write_fault (Some TooManyLines) = false
is_write_fault (Some NoMemory) = false

-- a fault is returned exactly if a write has failed, or if the host is out of memory
abbrev pub Fails : {T : Type 0} → Result T LineRunFault → Bool → Bool → Type 0
Fails (Ok done) write_failed takes = write_failed ≡ false
Fails (Err ReadFault) write_failed takes = ⊥
Fails (Err WriteFault) write_failed takes = write_failed ≡ true
Fails (Err TooManyLines) write_failed takes = ⊥
Fails (Err NoMemory) write_failed takes = (write_failed ≡ false) × (takes ≡ true)
