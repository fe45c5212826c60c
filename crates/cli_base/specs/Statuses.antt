-- Exit statuses.
use Rattle.std.specs.Prelude.{◌≡◌, ◌≢◌, ◌⊎◌, ℕ, if◌then◌else◌, Result, Ok, Err}
use Rattle.std.specs.IoError.{error_kind}
use Rattle.std.specs.declared.io.Error.{Error}
use Rattle.std.specs.declared.io.ErrorKind.TheVariants.{BrokenPipe}
use Rattle.list_parser.specs.declared.fault.BootFault.{BootFault}
use Rattle.cli_base.specs.ListFailures.{boot_lacks_memory}

-- the exit status after a write: 141 if nobody reads what is written, and 1 if the write failed otherwise
abbrev pub HasWritten : {T : Type 0} → Result T Error → ℕ → Type 0
HasWritten (Ok done) status = status ≡ 0
HasWritten (Err error) status =
    (error_kind error ≡ BrokenPipe → status ≡ 141) × (error_kind error ≢ BrokenPipe → status ≡ 1)

-- the host is out of memory, or a file can't be read or written (1); or nobody reads what is printed (141)
abbrev pub HasFailed : ℕ → Type 0
HasFailed status = (status ≡ 1) ⊎ (status ≡ 141)

-- a command has no result: the host fails, or what is asked for or read is refused (2)
abbrev pub HasNoResult : Type 0 → ℕ → Type 0
HasNoResult Refused status = HasFailed status ⊎ ((status ≡ 2) × Refused)

-- a status is one of the result, unless there is none
abbrev pub EndsAs : Type 0 → (ℕ → Type 0) → ℕ → Type 0
EndsAs Refused Results status = HasNoResult Refused status ⊎ Results status

-- a result that is printed has no fault
abbrev pub IsZero : ℕ → Type 0
IsZero status = status ≡ 0

-- a list that doesn't boot is refused, unless the host is out of memory
abbrev pub boot_status : BootFault → ℕ
boot_status fault = if boot_lacks_memory fault then 1 else 2
