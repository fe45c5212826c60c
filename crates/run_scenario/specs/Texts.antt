-- The bytes that a call has in digits, and their text.
use Rattle.std.specs.Prelude.{ℕ, ◌==◌, ◌&&◌, ◌||◌, Bool, true, false, List, [], ◌∷◌, ◌++◌, codes, nat_le, if◌then◌else◌, Option, Some, None}
use Rattle.std.specs.List.{flat_map, list_all}
use Rattle.std.specs.Option.{option_and_then, unwrap_or}
use Rattle.csv.specs.Writing.{default_writer, escaped}
use Rattle.own_model.specs.BufferService.{SessionRequest, session_request}
use Rattle.own_model.specs.BufferService.SessionRequest.{OfFiles}
use Rattle.own_model.specs.Call.{Call, Spoken}
use Rattle.own_model.specs.Call.Call.{Poke, CallSession}
use Rattle.own_model.specs.FileText.FileRequest.{Write}
use Rattle.own_model.specs.LogText.{log_request}
use Rattle.run_scenario.specs.Said.{said_in}

-- ---- bytes as text

-- a byte can be shown: it is printed, or is a newline or a tab
abbrev pub is_shown : ℕ → Bool
is_shown b = (b == 10 || b == 9) || (nat_le 32 b && nat_le b 126)

-- a byte as it is written between quotes in the friendly form
abbrev pub character_text : ℕ → List ℕ
character_text b =
    if b == 10 then codes "\\n"
    else (if b == 9 then codes "\\t"
    else (if b == 34 || b == 92 then 92 ∷ b ∷ []
    else b ∷ []))

abbrev pub characters_text : List ℕ → List ℕ
characters_text bytes = flat_map character_text bytes

-- the text of bytes, if there are some and all can be printed
abbrev pub shown_text : List ℕ → Option (List ℕ)
shown_text [] = None
shown_text (b ∷ bytes) = if list_all is_shown (b ∷ bytes) then Some (characters_text (b ∷ bytes)) else None

-- the text as it is printed after the digits
abbrev pub in_brackets : List ℕ → List ℕ
in_brackets text = codes " (\"" ++ text ++ codes "\")"

-- or as it is, or within the quotes of a cell
abbrev pub written_in : Bool → List ℕ → List ℕ
written_in true text = escaped default_writer text
written_in false text = text

-- ---- of a call

-- the bytes that a request to the file service writes
abbrev pub bytes_filed : Option SessionRequest → List ℕ
bytes_filed (Some (OfFiles (Write file offset bytes))) = bytes
bytes_filed request = []

-- and the bytes that a request writes, into a log or a file
abbrev pub bytes_written : List ℕ → List ℕ
bytes_written request = unwrap_or (log_request request) (bytes_filed (session_request request))

-- the bytes that a call has in digits
abbrev pub bytes_in_call : Call → List ℕ
bytes_in_call (Poke address bytes) = bytes
bytes_in_call (CallSession selector request) = bytes_written request
bytes_in_call call = []

-- and those of an engine's line, as text
abbrev pub spoken_text : Option Spoken → Option (List ℕ)
spoken_text says = option_and_then (λ it. shown_text (bytes_in_call it.call)) says

abbrev pub line_text : List ℕ → Option (List ℕ)
line_text line = spoken_text (said_in line)
