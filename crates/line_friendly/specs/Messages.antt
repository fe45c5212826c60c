-- The messages of the faults of lines.
use Rattle.std.specs.Prelude.{ℕ, Bool, false, true, List, [], ◌∷◌, ◌++◌, codes}
use Rattle.line_grammar.specs.Forms.{form_text}
use Rattle.line_friendly.specs.declared.fault.LineReason.{LineReason}
use Rattle.line_friendly.specs.declared.fault.LineReason.TheVariants.{OpenQuote, StrayArrow, BadEscape, NoCall, NoName, NoForm, UnknownCall, Misspelt, Missing, TooMany, SmallUnit, NoNumber, NoSize, LongAddress, NoAddress, NoHex, NoService}

-- the words at the front
abbrev pub first_words : LineReason → List ℕ
first_words OpenQuote = codes "unclosed quote"
first_words StrayArrow = codes "expected a blank before `=>`, and a blank and a reply after it"
first_words BadEscape = codes "unknown escape; expected \\n, \\t, \\\", \\\\ or \\xNN"
first_words NoCall = codes "line of more than 8192 bytes"
first_words NoName = codes "expected a component, found"
first_words NoForm = codes "expected a call after the component"
first_words UnknownCall = codes "unknown call"
first_words (Misspelt form) = codes "unknown call"
first_words (Missing form) = codes "missing argument"
first_words (TooMany form) = codes "unexpected argument"
first_words SmallUnit = codes "expected unit K, M or G, found"
first_words NoNumber = codes "expected a number, found"
first_words NoSize = codes "expected a size, found"
first_words LongAddress = codes "expected an address of at most 16 digits, found"
first_words NoAddress = codes "expected an address of 0x and hexadecimal digits, found"
first_words NoHex = codes "expected bytes as two hexadecimal digits each or as text in quotes, found"
first_words NoService = codes "expected a service, found"

-- a text of the line follows them
abbrev pub shows_text : LineReason → Bool
shows_text OpenQuote = false
shows_text StrayArrow = false
shows_text BadEscape = false
shows_text NoCall = false
shows_text NoForm = false
shows_text (Missing form) = false
shows_text reason = true

-- a text of the line in backquotes, or that there is none
abbrev pub token_text : List ℕ → List ℕ
token_text [] = codes " nothing"
token_text (b ∷ rest) = codes " `" ++ (b ∷ rest ++ codes "`")

abbrev pub text_if : Bool → List ℕ → List ℕ
text_if true text = token_text text
text_if false text = []

-- the form that is expected, or that may be meant
abbrev pub form_words : LineReason → List ℕ
form_words (Misspelt form) = codes "; did you mean `" ++ (form_text form ++ codes "`?")
form_words (Missing form) = codes "; expected `" ++ (form_text form ++ codes "`")
form_words (TooMany form) = codes "; expected `" ++ (form_text form ++ codes "`")
form_words reason = []

-- the message about a text of the line
abbrev pub line_message : LineReason → List ℕ → List ℕ
line_message reason text = first_words reason ++ (text_if (shows_text reason) text ++ form_words reason)
