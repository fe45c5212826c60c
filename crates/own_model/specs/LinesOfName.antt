-- One component's lines alone, and their part of the transcript of all.
use Rattle.std.specs.Prelude.{◌≡◌, ℕ, ◌&&◌, Bool, false, List, [], ◌∷◌, ◌++◌, length, nat_le, Option, Some, None}
use Rattle.std.specs.List.{filter, flat_map, position}
use Rattle.std.specs.Str.{bytes_eq}
use Rattle.own_model.specs.Call.{Spoken, parsed_call}
use Rattle.own_model.specs.OwnState.{OwnState}
use Rattle.own_model.specs.StartList.{Entry}
use Rattle.own_model.specs.Transcript.{Made, calls_in, calls_of, heard, longest_line, state_after, told, transcript_after}

-- what a line says is a call under this name
abbrev pub is_under : List ℕ → Option Spoken → Bool
is_under name None = false
is_under name (Some says) = bytes_eq says.name name

-- a line is a call under this name
abbrev pub is_line_of : List ℕ → List ℕ → Bool
is_line_of name line = nat_le (length line) longest_line && is_under name (parsed_call line)

-- the lines of a name alone, or all of them where no name is given
abbrev pub said_by : Option (List ℕ) → List (List ℕ) → List (List ℕ)
said_by None lines = lines
said_by (Some name) lines = filter (is_line_of name) lines

-- a line, and its piece of the transcript
pub record Piece : Type 0 where
  pub line : List ℕ
  pub text : List ℕ

-- the pieces of the transcript of lines, after earlier calls
abbrev pub pieces : List Entry → List OwnState → List Made → List (List ℕ) → List Piece
pieces entries starts earlier [] = []
pieces entries starts earlier (line ∷ lines) =
    record { line = line; text = told entries starts earlier (heard entries line) }
    ∷ pieces entries starts (earlier ++ calls_in (heard entries line)) lines

-- pieces, put together
abbrev pub joined : List Piece → List ℕ
joined ps = flat_map (λ piece. piece.text) ps

-- the pieces of a name's lines
abbrev pub pieces_for : List ℕ → List Piece → List Piece
pieces_for name ps = filter (λ piece. is_line_of name piece.line) ps

-- the pieces, put together, are the output for the lines
abbrev pub PiecesAreOutput : Type 0
PiecesAreOutput =
    (entries : List Entry) (starts : List OwnState) (earlier : List Made) (lines : List (List ℕ)) →
    joined (pieces entries starts earlier lines) ≡ transcript_after entries starts earlier lines

-- of a name's lines, the pieces in the transcript of all are the transcript of those lines alone
abbrev pub PiecesAreIndependent : Type 0
PiecesAreIndependent =
    (entries : List Entry) (starts : List OwnState) (name : List ℕ) (lines : List (List ℕ)) →
    joined (pieces_for name (pieces entries starts [] lines))
    ≡ transcript_after entries starts [] (said_by (Some name) lines)

-- the component that makes a name's calls
abbrev pub component_of : List Entry → List ℕ → Option ℕ
component_of entries name = position (λ entry. bytes_eq entry.name name) entries

-- and that component's own state after the lines of all is the one after the name's lines alone
abbrev pub StateIsIndependent : Type 0
StateIsIndependent =
    (entries : List Entry) (starts : List OwnState) (name : List ℕ) (lines : List (List ℕ)) (component : ℕ) →
    component_of entries name ≡ Some component →
    state_after entries starts (calls_of entries lines) component
    ≡ state_after entries starts (calls_of entries (said_by (Some name) lines)) component
