-- The output of a run: it is gathered, and then written.
use Rattle.std.specs.Prelude.{◌≡◌, ℕ, List, [], ◌∷◌, ◌++◌, Option, Result, Ok, Err, codes}
use Rattle.std.specs.Io.KnownBytes.{Appends}

-- bytes are output: some of the gathered bytes and of these were written, from the front, and the others are gathered now
pub record Tells (written : Option (List ℕ)) (gathered : List ℕ) (now_written : Option (List ℕ))
    (now_gathered bytes : List ℕ) : Type 0 where
  pub out : List ℕ
  pub grows : Appends written now_written out
  pub parts : out ++ now_gathered ≡ gathered ++ bytes

-- a write failed: from the front of what was gathered and of these bytes some were written
abbrev pub OutputsPart : Option (List ℕ) → List ℕ → Option (List ℕ) → List ℕ → Type 0
OutputsPart written gathered now_written bytes = (lost : List ℕ) × Tells written gathered now_written lost bytes

-- bytes are output, unless a write fails
abbrev pub OutputsUnless : {T E : Type 0} → Result T E →
    Option (List ℕ) → List ℕ → Option (List ℕ) → List ℕ → List ℕ → Type 0
OutputsUnless (Ok done) written gathered now_written now_gathered bytes =
    Tells written gathered now_written now_gathered bytes
OutputsUnless (Err fault) written gathered now_written now_gathered bytes =
    OutputsPart written gathered now_written bytes

-- a name and its reply, as a line
abbrev pub line_with : List ℕ → List ℕ → List ℕ
line_with name reply = name ++ codes ": " ++ reply ++ 10 ∷ []

-- known bytes grow by a part of these, from the front
pub record AppendsPart (old new : Option (List ℕ)) (bytes : List ℕ) : Type 0 where
  pub part : List ℕ
  pub left : List ℕ
  pub parts : bytes ≡ part ++ left
  pub grows : Appends old new part
