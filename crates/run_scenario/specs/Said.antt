-- The call of an engine's line, and its caller.
use Rattle.std.specs.Prelude.{ℕ, List, length, nat_le, if◌then◌else◌, Option, Some, None}
use Rattle.own_model.specs.Call.{Call, Spoken, parsed_call}
use Rattle.own_model.specs.Transcript.{Heard, longest_line}
use Rattle.own_model.specs.Transcript.Heard.{Stranger, Caller}

-- the call of a line, if the line isn't too long to be one
abbrev pub said_in : List ℕ → Option Spoken
said_in line = if nat_le (length line) longest_line then parsed_call line else None

-- the caller of a call under a name, by the component that has the name and can make calls
abbrev pub caller_by : List ℕ → Call → Option ℕ → Heard
caller_by name call None = Stranger name
caller_by name call (Some component) = Caller (record { component = component; call = call })
