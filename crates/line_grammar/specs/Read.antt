-- The parse of a line.
use Rattle.std.specs.Prelude.{◌≡◌, ℕ, ◌<◌, ◌≤◌, ◌⊎◌, List, length, Option, Some, None}
use Rattle.own_model.specs.Call.{Spoken, parsed_call}
use Rattle.own_model.specs.Transcript.{longest_line}
pub use Rattle.core_calls.specs.Call.{IsWellFormed, model_call}
use Rattle.line_grammar.specs.declared.line.NamedCall.{NamedCall}

-- a line of any length is no call
abbrev pub IsNoCall : List ℕ → Type 0
IsNoCall line = (longest_line < length line) ⊎ (parsed_call line ≡ None)

-- a call as a line states it
abbrev pub spoken_as : NamedCall → Spoken
spoken_as said = record { name = said.name.now; call = model_call said.call }

-- this is the call of a line
pub record Reads (line : List ℕ) (said : NamedCall) : Type 0 where
  pub short : length line ≤ longest_line
  pub says : parsed_call line ≡ Some (spoken_as said)
  pub formed : IsWellFormed said.call

-- or it is no call
abbrev pub IsReadAs : List ℕ → Option NamedCall → Type 0
IsReadAs line (Some said) = Reads line said
IsReadAs line None = IsNoCall line
