-- The output of a world for lines, and the world that they leave.
use Rattle.std.specs.Prelude.{◌≡◌, ℕ, ◌+◌, Bool, true, false, List, ◌∷◌, [], ◌++◌, Option, Some, None, length, take, ⊤}
use Rattle.std.specs.Str.{bytes_eq}
use Rattle.own_model.specs.Call.{Spoken, parsed_call}
use Rattle.own_model.specs.Running.{running_transcript}
use Rattle.own_model.specs.LinesOfName.{component_of, is_under, said_by}
use Rattle.own_model.specs.Transcript.{Heard, heard_call}
use Rattle.own_model.specs.World.{World, world_running}

-- the output of each line in order, or of each of a name's lines alone
abbrev pub output_of_lines : Option (List ℕ) → World → List (List ℕ) → List ℕ
output_of_lines only world lines = running_transcript world.entries world.states (said_by only lines)

-- the world after these lines, or after a name's alone
abbrev pub after_all : Option (List ℕ) → World → List (List ℕ) → World
after_all only world lines = world_running world (said_by only lines)

-- a call under this name is answered
abbrev pub is_selected : Option (List ℕ) → List ℕ → Bool
is_selected None name = true
is_selected (Some only) name = bytes_eq name only

-- a line begins with a name and a space
abbrev pub BeginsWithName : List ℕ → List ℕ → Type 0
BeginsWithName name line = take (length name + 1) line ≡ name ++ 32 ∷ []

-- a line begins as one of the given name; without a name, any line does
abbrev pub BeginsAsSelected : Option (List ℕ) → List ℕ → Type 0
BeginsAsSelected None line = ⊤
BeginsAsSelected (Some name) line = BeginsWithName name line

-- a line is not a call under the given name
abbrev pub IsNoCallOfName : Option (List ℕ) → List ℕ → Type 0
IsNoCallOfName None line = ⊥
IsNoCallOfName (Some name) line = is_under name (parsed_call line) ≡ false

-- the classification of a call under a name in a world
abbrev pub hears : World → Spoken → Heard
hears world says = heard_call world.entries says (component_of world.entries says.name)
