-- Computed examples of machine A, and their output.
use Rattle.std.specs.Prelude.{ℕ, List}
use Rattle.own_model.specs.Listed.{start_list_of}
use Rattle.own_model.specs.MachineA.{machine_a}
use Rattle.own_model.specs.StartList.{StartList, entries_of, start_states}
use Rattle.own_model.specs.Transcript.{transcript}

-- what machine A starts with
abbrev pub start_of_a : StartList
start_of_a = start_list_of machine_a

-- the output of machine A for an input
abbrev pub transcript_of_a : List ℕ → List ℕ
transcript_of_a input = transcript (entries_of start_of_a) (start_states start_of_a) input
