-- Diagnostics as texts: lines for people, and documents of JSON.
use Rattle.std.specs.Prelude.{ℕ, ◌/◌, ◌%◌, ◌==◌, ◌||◌, Bool, false, List, [], ◌∷◌, ◌++◌, codes, decimal, length, if◌then◌else◌, Option, Some, None}
use Rattle.std.specs.Char.{digit_char, encode_utf8, is_control}
use Rattle.std.specs.List.{flat_map}
use Rattle.std.specs.Str.{chars}
use Rattle.std.specs.Str.Lossy.{utf8_lossy}
use Rattle.view_diagnostics.specs.declared.diagnostics.DiagnosticForm.{DiagnosticForm}
use Rattle.view_diagnostics.specs.declared.diagnostics.DiagnosticForm.TheVariants.{Text, Json}
use Rattle.view_diagnostics.specs.declared.diagnostics.Severity.{Severity}
use Rattle.view_diagnostics.specs.declared.diagnostics.Severity.TheVariants.{Error, Warning, Note}
use Rattle.view_diagnostics.specs.declared.diagnostics.Subject.{Subject}
use Rattle.view_diagnostics.specs.declared.place.FilePlace.{FilePlace}
use Rattle.view_diagnostics.specs.declared.place.FilePlace.TheVariants.{Whole, Line, Byte}

-- what diagnostics are about: the path of a file, and their form
pub record SubjectAt : Type 0 where
  pub file : List ℕ
  pub form : DiagnosticForm

abbrev pub subject_at : Subject → SubjectAt
subject_at subject = record { file = subject.file.now; form = subject.form }

-- a writer of diagnostics: its subject, and the bytes that are gathered and not written yet
pub record DiagnosticsAt : Type 0 where
  pub subject : SubjectAt
  pub gathered : List ℕ

-- ---- texts within a diagnostic

-- `\u` and four hexadecimal digits, of a number below 256
abbrev pub numbered : ℕ → List ℕ
numbered c = codes "\\u00" ++ digit_char (c / 16 % 16) ∷ digit_char (c % 16) ∷ []

-- a quote and a backslash have a meaning of their own in JSON
abbrev pub needs_backslash : DiagnosticForm → ℕ → Bool
needs_backslash Text c = false
needs_backslash Json c = c == 34 || c == 92

-- a character on one line: a new line, a tab, a separator of lines or paragraphs and any other control character as an escape
abbrev pub shown_character : DiagnosticForm → ℕ → List ℕ
shown_character form c =
    if c == 10 then codes "\\n"
    else (if c == 9 then codes "\\t"
    else (if c == 0x2028 then codes "\\u2028"
    else (if c == 0x2029 then codes "\\u2029"
    else (if needs_backslash form c then 92 ∷ encode_utf8 c
    else (if is_control c then numbered c
    else encode_utf8 c)))))

-- characters, one after another
abbrev pub shown_characters : DiagnosticForm → List ℕ → List ℕ
shown_characters form text = flat_map (shown_character form) (chars text)

-- a text, with U+FFFD for each sequence of bytes that is none
abbrev pub shown : DiagnosticForm → List ℕ → List ℕ
shown form text = shown_characters form (utf8_lossy text)

-- ---- a diagnostic

unfoldable pub severity_name : Severity → List ℕ
severity_name Error = codes "error"
severity_name Warning = codes "warning"
severity_name Note = codes "note"

-- the numbers of a place's line and byte, if it has them
unfoldable pub line_of : FilePlace → Option ℕ
line_of Whole = None
line_of (Line line) = Some line
line_of (Byte line column) = Some line

unfoldable pub column_of : FilePlace → Option ℕ
column_of Whole = None
column_of (Line line) = None
column_of (Byte line column) = Some column

-- a number after a colon, if there is one
unfoldable pub after_colon : Option ℕ → List ℕ
after_colon None = []
after_colon (Some number) = codes ":" ++ decimal number

-- `FILE:LINE:COLUMN: `, or nothing if there is no file
unfoldable pub place_text : List ℕ → FilePlace → List ℕ
place_text file place =
    if length file == 0 then []
    else shown Text file ++ after_colon (line_of place) ++ after_colon (column_of place) ++ codes ": "

-- `FILE:LINE:COLUMN: SEVERITY: `
abbrev pub line_front : List ℕ → FilePlace → Severity → List ℕ
line_front file place severity = place_text file place ++ severity_name severity ++ codes ": "

-- a path in quotes, or null
unfoldable pub file_value : List ℕ → List ℕ
file_value file = if length file == 0 then codes "null" else codes "\"" ++ shown Json file ++ codes "\""

-- a number, or null
unfoldable pub number_value : Option ℕ → List ℕ
number_value None = codes "null"
number_value (Some number) = decimal number

-- a document, up to the first byte of its message
abbrev pub document_front : List ℕ → FilePlace → Severity → List ℕ
document_front file place severity =
    codes "{\"severity\":\"" ++ severity_name severity ++ codes "\",\"file\":" ++ file_value file
    ++ (codes ",\"line\":" ++ number_value (line_of place)) ++ (codes ",\"column\":" ++ number_value (column_of place))
    ++ codes ",\"text\":\""

-- all that precedes the message, and all that follows it
abbrev pub front_in : DiagnosticForm → List ℕ → FilePlace → Severity → List ℕ
front_in Text file place severity = line_front file place severity
front_in Json file place severity = document_front file place severity

abbrev pub front : SubjectAt → FilePlace → Severity → List ℕ
front subject place severity = front_in subject.form subject.file place severity

unfoldable pub back : DiagnosticForm → List ℕ
back Text = codes "\n"
back Json = codes "\"}\n"

-- a diagnostic with a message in pieces
abbrev pub diagnostic : SubjectAt → FilePlace → Severity → List (List ℕ) → List ℕ
diagnostic subject place severity pieces =
    front subject place severity ++ flat_map (shown subject.form) pieces ++ back subject.form
