-- The parts of a call in the friendly form, and the engine's line that they spell.
use Rattle.std.specs.Prelude.{ℕ, ◌+◌, ◌-◌, ◌&&◌, ◌||◌, Bool, true, false, List, [], ◌∷◌, ◌++◌, length, take, drop, codes, decimal, nat_lt, is_some, if◌then◌else◌, Option, Some, None}
use Rattle.std.specs.Char.{is_ascii_digit}
use Rattle.std.specs.List.{list_all}
use Rattle.std.specs.Option.{option_and_then, option_map_or}
use Rattle.std.specs.Str.{bytes_eq}
use Rattle.trade_base.specs.Amount.{amount_of, number_of}
use Rattle.own_model.specs.Reply.{hex_text}
use Rattle.own_model.specs.Text.{first_word}
use Rattle.line_friendly.specs.Quotes.{inside_quotes, is_quote}
use Rattle.line_friendly.specs.QuotedBytes.{bytes_of}
use Rattle.line_friendly.specs.Words.{Word, next_word, skip_blanks, spaced, words_spaced}

-- the rest of a call after its first tokens: more tokens; text that stays, after one blank; tokens of which the first is a size;
-- a request, after one blank; or a text in quotes, with the request before it, and the number of bytes of the call from the
-- text's first character on
pub data CallTail : Type 0 where
  Words : List ℕ → CallTail
  Kept : List ℕ → CallTail
  Sized : List ℕ → CallTail
  Request : List ℕ → CallTail
  Quoted : List ℕ → List ℕ → ℕ → CallTail

-- a call by its first tokens
pub record CallParts : Type 0 where
  pub name : List ℕ
  pub form : List ℕ
  pub word : List ℕ
  pub tail : CallTail

-- the start of a request's text, if the text before it is `WRITE`, or `WRITE`, a file's token and an offset, each with one space
-- after it
abbrev pub text_behind : Option (List ℕ) → Option (List ℕ)
text_behind None = None
text_behind (Some text) = if is_quote text then Some text else None

-- an offset: digits, or an amount
abbrev pub is_place : List ℕ → Bool
is_place word = (nat_lt 0 (length word) && list_all is_ascii_digit word) || is_some (amount_of word)

abbrev pub text_behind_place : List ℕ → Option (List ℕ)
text_behind_place text = if is_place (first_word text).word then text_behind (first_word text).rest else None

abbrev pub text_behind_file : List ℕ → Option (List ℕ)
text_behind_file text =
    if is_quote text then Some text
    else (if nat_lt 0 (length (first_word text).word) then option_and_then text_behind_place (first_word text).rest else None)

abbrev pub text_written : List ℕ → Option (List ℕ)
text_written request =
    if bytes_eq (first_word request).word (codes "WRITE") then option_and_then text_behind_file (first_word request).rest
    else None

-- a text in quotes after tokens, or something else if it isn't that
abbrev pub quoted_or : CallTail → List ℕ → List ℕ → CallTail
quoted_or other front text = option_map_or (λ inside. Quoted front inside (length text - 1)) (inside_quotes text) other

-- what follows `call S`: a request that writes text, or another
abbrev pub request_tail : List ℕ → CallTail
request_tail rest =
    option_map_or (λ text. quoted_or (Request rest) (take (length (drop 1 rest) - (length text + 1)) (drop 1 rest)) text)
    (text_written (drop 1 rest)) (Request rest)

-- a form whose arguments are a text alone
abbrev pub takes_text : List ℕ → Bool
takes_text form = bytes_eq form (codes "request") || bytes_eq form (codes "yield")

-- the token after a form, and the rest: if a text alone follows, there is no token
abbrev pub word_behind : List ℕ → List ℕ → Word
word_behind form rest = if takes_text form then record { word = []; rest = rest } else next_word rest

-- the rest of a call after the first tokens, by the form
abbrev pub tail_of : List ℕ → List ℕ → CallTail
tail_of form rest =
    if takes_text form || (bytes_eq form (codes "open") || bytes_eq form (codes "upgrade")) then Kept rest
    else (if bytes_eq form (codes "call") then request_tail rest
    else (if bytes_eq form (codes "poke") then quoted_or (Words rest) [] (skip_blanks rest)
    else (if bytes_eq form (codes "peek") then Sized rest
    else Words rest)))

-- the parts of a call
abbrev pub parts_of : List ℕ → CallParts
parts_of call = record {
  name = (next_word call).word;
  form = (next_word (next_word call).rest).word;
  word = (word_behind (next_word (next_word call).rest).word (next_word (next_word call).rest).rest).word;
  tail = tail_of (next_word (next_word call).rest).word (word_behind (next_word (next_word call).rest).word (next_word (next_word call).rest).rest).rest;
}

-- ---- the engine's line

-- what is kept, with a space for the blank before it
abbrev pub kept_text : List ℕ → List ℕ
kept_text [] = []
kept_text (blank ∷ rest) = 32 ∷ rest

-- a size as a number, if it is an amount
abbrev pub size_text : List ℕ → List ℕ
size_text word = if is_some (number_of word) then word else option_map_or decimal (amount_of word) word

-- a form whose argument is a size
abbrev pub is_sized : List ℕ → Bool
is_sized form = bytes_eq form (codes "alloc") || (bytes_eq form (codes "new") || bytes_eq form (codes "snew"))

abbrev pub word_text : List ℕ → List ℕ → List ℕ
word_text form word = if is_sized form then size_text word else word

-- the tokens after a request's first that are sizes: of a buffer, the offsets and the lengths
abbrev pub sizes_in : List ℕ → List Bool
sizes_in form =
    if bytes_eq form (codes "BUFFER") then true ∷ []
    else (if bytes_eq form (codes "WRITE") then false ∷ true ∷ []
    else (if bytes_eq form (codes "READ") then false ∷ true ∷ true ∷ []
    else (if bytes_eq form (codes "PUT") || bytes_eq form (codes "GET") then false ∷ true ∷ true ∷ true ∷ []
    else [])))

-- the text after a token, if these of its tokens are sizes
abbrev pub sizes_behind : List Bool → Option (List ℕ) → List ℕ
sizes_behind sizes None = []
sizes_behind [] (Some text) = 32 ∷ text
sizes_behind (sized ∷ more) (Some text) =
    32 ∷ ((if sized then size_text (first_word text).word else (first_word text).word)
    ++ sizes_behind more (first_word text).rest)

-- a request with its sizes as numbers
abbrev pub request_text : List ℕ → List ℕ
request_text request = (first_word request).word ++ sizes_behind (sizes_in (first_word request).word) (first_word request).rest

abbrev pub tail_text : CallTail → List ℕ
tail_text (Words rest) = words_spaced false rest
tail_text (Kept rest) = kept_text rest
tail_text (Sized rest) = spaced (size_text (next_word rest).word) ++ words_spaced false (next_word rest).rest
tail_text (Request []) = []
tail_text (Request (blank ∷ request)) = 32 ∷ request_text request
tail_text (Quoted front inside left) = spaced (request_text front) ++ spaced (hex_text (bytes_of inside))

-- the line that parts spell
abbrev pub spelled : CallParts → List ℕ
spelled parts = parts.name ++ (spaced parts.form ++ (spaced (word_text parts.form parts.word) ++ tail_text parts.tail))
