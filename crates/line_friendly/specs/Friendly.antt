-- What a line of a scenario in the friendly form says.
use Rattle.std.specs.Prelude.{ℕ, ◌+◌, ◌-◌, ◌==◌, ◌&&◌, ◌||◌, not, Bool, false, List, [], ◌∷◌, length, take, drop, codes, nat_eq, slice_index, is_some, if◌then◌else◌, Option, Some, None, Result, Ok, Err}
use Rattle.std.specs.List.{starts_with}
use Rattle.std.specs.Option.{option_map, option_map_or, option_or, unwrap_or}
use Rattle.std.specs.Str.{bytes_eq}
use Rattle.own_model.specs.Call.{parsed_call}
use Rattle.line_friendly.specs.Expected.{written_fault}
use Rattle.line_friendly.specs.CallParts.{CallParts, CallTail, parts_of, spelled}
use Rattle.line_friendly.specs.CallParts.CallTail.{Words, Kept, Sized, Request, Quoted}
use Rattle.line_friendly.specs.Quotes.{after_text, first_outside, first_stray, is_arrow, is_comment, is_outside, is_quote, last_outside}
use Rattle.line_friendly.specs.QuotedBytes.{fault_of}
use Rattle.line_friendly.specs.CallFault.{why}
use Rattle.line_friendly.specs.Words.{skip_blanks}
use Rattle.line_friendly.specs.LineText.{added}
use Rattle.line_friendly.specs.declared.fault.FriendlyFault.{FriendlyFault}
use Rattle.line_friendly.specs.declared.fault.LineReason.TheVariants.{OpenQuote, StrayArrow, BadEscape, NoCall}
use Rattle.line_friendly.specs.declared.quotes.QuoteState.TheVariants.{Outside}

-- nothing; a log line that the next call finishes; or the engine's line of a call, and the reply that is expected
pub data FriendlyLine : Type 0 where
  Nothing : FriendlyLine
  Log : List ℕ → FriendlyLine
  Call : List ℕ → Option (List ℕ) → FriendlyLine

-- one carriage return at the end is removed
abbrev pub without_return : List ℕ → List ℕ
without_return text = if slice_index text (length text - 1) == 13 then take (length text - 1) text else text

-- the reply that a line is expected to have which is no call
abbrev pub expects_bad_line : Option (List ℕ) → Bool
expects_bad_line reply = option_map_or (λ text. bytes_eq text (codes "Bad_line")) reply false

-- why a call is none that begins at this column
abbrev pub no_call : ℕ → List ℕ → FriendlyFault
no_call column call = record { reason = (why call).reason; column = column + (why call).column }

-- the line of a call is one of the grammar, unless it is expected to be none, or is too long
abbrev pub said_of_line : ℕ → List ℕ → Option (List ℕ) → Option (List ℕ) → Result FriendlyLine FriendlyFault
said_of_line column call None reply = Err (record { reason = NoCall; column = column })
said_of_line column call (Some line) reply =
    if is_some (parsed_call line) || expects_bad_line reply then Ok (Call line reply) else Err (no_call column call)

-- the place of the first invalid escape in a call of this number of bytes
abbrev pub fault_in : ℕ → CallTail → Option ℕ
fault_in count (Words rest) = None
fault_in count (Kept rest) = None
fault_in count (Sized rest) = None
fault_in count (Request rest) = None
fault_in count (Quoted front inside left) = option_map (λ n. count - left + n) (fault_of inside)

-- the place of the first invalid escape of an expectation after this number of bytes
abbrev pub fault_behind : ℕ → Option (List ℕ) → Option ℕ
fault_behind count None = None
fault_behind count (Some reply) = option_map (λ n. count + n) (written_fault reply)

-- a call and the expected reply, after an arrow of four bytes, if all escapes are valid
abbrev pub said_escaped : ℕ → List ℕ → Option (List ℕ) → Result FriendlyLine FriendlyFault
said_escaped column call reply =
    option_map_or (λ n. Err (record { reason = BadEscape; column = column + n }))
    (option_or (fault_in (length call) (parts_of call).tail) (fault_behind (length call + 4) reply))
    (said_of_line column call (added (Some []) (spelled (parts_of call))) reply)

-- the same, if each `=>` in the call is an arrow
abbrev pub said_of_call : ℕ → List ℕ → Option (List ℕ) → Result FriendlyLine FriendlyFault
said_of_call column call reply =
    option_map_or (λ n. Err (record { reason = StrayArrow; column = column + n + 1 })) (first_stray Outside call)
    (said_escaped column call reply)

-- the call ends before the last arrow outside of quotes; the expected reply is after it
abbrev pub arrow_of : List ℕ → Option ℕ
arrow_of text = last_outside is_arrow Outside text

abbrev pub call_part : List ℕ → List ℕ
call_part text = option_map_or (λ n. take n text) (arrow_of text) text

abbrev pub reply_part : List ℕ → Option (List ℕ)
reply_part text = option_map (λ n. drop (n + 4) text) (arrow_of text)

-- a call, and the expected reply, if each quote is closed
abbrev pub said_of_both : ℕ → List ℕ → Result FriendlyLine FriendlyFault
said_of_both column text =
    if is_outside (after_text Outside text) then said_of_call column (call_part text) (reply_part text)
    else Err (record { reason = OpenQuote; column = column + unwrap_or (last_outside is_quote Outside text) 0 })

-- a comment after a call is removed, with the blanks before it
abbrev pub without_comment : List ℕ → List ℕ
without_comment text = option_map_or (λ n. take n text) (first_outside is_comment Outside text) text

-- a text is a call by its first characters: no line for the engine, no comment, no directive, and no expected log line
abbrev pub begins_as_call : List ℕ → Bool
begins_as_call text =
    not (slice_index text 0 == 33 || (slice_index text 0 == 35 || slice_index text 0 == 64))
    && not (starts_with nat_eq text (codes "=> "))

-- the reply that a call expects is meant: a `!` follows it
abbrev pub is_meant : List ℕ → Bool
is_meant text = slice_index text (length text - 1) == 33 && (begins_as_call text && is_some (arrow_of text))

-- the text without that `!`
abbrev pub without_meant : List ℕ → List ℕ
without_meant text = if is_meant text then take (length text - 1) text else text

-- nothing, or a comment; a log line; or a call
abbrev pub said_of_text : ℕ → List ℕ → Result FriendlyLine FriendlyFault
said_of_text column text =
    if nat_eq (length text) 0 || slice_index text 0 == 35 then Ok Nothing
    else (if starts_with nat_eq text (codes "=> ") then Ok (Log (drop 3 text))
    else said_of_both column (without_meant (without_comment text)))

-- the content from the first character on: after `!` it is the engine's line unchanged
abbrev pub said_of_signs : ℕ → List ℕ → Result FriendlyLine FriendlyFault
said_of_signs column signs =
    if slice_index signs 0 == 33 then Ok (Call (drop 1 signs) None)
    else said_of_text column (without_return signs)

-- the text after a byte order mark, if a line begins with one, and after blanks
abbrev pub without_mark : List ℕ → List ℕ
without_mark line = if starts_with nat_eq line (239 ∷ 187 ∷ 191 ∷ []) then drop 3 line else line

abbrev pub trimmed_line : List ℕ → List ℕ
trimmed_line line = skip_blanks (without_mark line)

-- it is passed to the engine unchanged, after a `!`
abbrev pub is_passed : List ℕ → Bool
is_passed line = slice_index (trimmed_line line) 0 == 33

-- what a line says
abbrev pub said_of : List ℕ → Result FriendlyLine FriendlyFault
said_of line = said_of_signs (length line - length (trimmed_line line) + 1) (trimmed_line line)

-- a line from its first character on, without the comment after it
abbrev pub content_of : List ℕ → List ℕ
content_of line = without_comment (without_return (trimmed_line line))

-- the end of a line's content: before the `!` of a reply that is meant, a comment, or a carriage return
abbrev pub end_of : List ℕ → ℕ
end_of line = length line - length (trimmed_line line) + length (without_meant (content_of line))
