-- The requests of the file service and its replies, as texts.
use Rattle.std.specs.Prelude.{ℕ, ◌==◌, ◌&&◌, not, List, [], ◌∷◌, ◌++◌, length, codes, decimal, nat_lt, nat_le, is_none, if◌then◌else◌, Option, Some, None}
use Rattle.std.specs.List.{list_all}
use Rattle.std.specs.Option.{option_map, option_and_then}
use Rattle.std.specs.Str.{bytes_eq}
use Rattle.trade_base.specs.Amount.{number_of}
use Rattle.own_model.specs.Account.{Account}
use Rattle.own_model.specs.Text.{first_word}
use Rattle.own_model.specs.LogText.{longest_request, hex_or_nothing}
use Rattle.own_model.specs.Reply.{hex_text, quota_text}

-- a request: of a file by its keyword, with an offset, and with bytes or a length
pub data FileRequest : Type 0 where
  Create : List ℕ → FileRequest
  Write : List ℕ → ℕ → List ℕ → FileRequest
  Read : List ℕ → ℕ → ℕ → FileRequest
  Size : List ℕ → FileRequest
  Clear : List ℕ → FileRequest
  Drop : List ℕ → FileRequest
  Name : ℕ → FileRequest
  Stat : FileRequest

-- a file name: one or more bytes without a space
abbrev pub file_word : List ℕ → Option (List ℕ)
file_word word = if nat_lt 0 (length word) && list_all (λ b. not (b == 32)) word then Some word else None

-- a file name, a space, and more
abbrev pub of_file : {R : Type 0} → (List ℕ → List ℕ → Option R) → List ℕ → Option R
of_file request arguments =
    option_and_then (λ file. option_and_then (request file) (first_word arguments).rest) (file_word (first_word arguments).word)

-- an offset, or an offset, a space and hex
abbrev pub write_of : List ℕ → List ℕ → Option FileRequest
write_of file arguments =
    option_and_then (λ offset. option_map (Write file offset) (hex_or_nothing (first_word arguments).rest))
    (number_of (first_word arguments).word)

-- an offset, a space and a length
abbrev pub read_of : List ℕ → List ℕ → Option FileRequest
read_of file arguments =
    option_and_then (λ offset. option_map (Read file offset) (option_and_then number_of (first_word arguments).rest))
    (number_of (first_word arguments).word)

-- the request of a form and its arguments, which are what stands after the form and a space
abbrev pub request_of : List ℕ → Option (List ℕ) → Option FileRequest
request_of form arguments =
    if bytes_eq form (codes "CREATE") then option_map Create (option_and_then file_word arguments)
    else (if bytes_eq form (codes "WRITE") then option_and_then (of_file write_of) arguments
    else (if bytes_eq form (codes "READ") then option_and_then (of_file read_of) arguments
    else (if bytes_eq form (codes "SIZE") then option_map Size (option_and_then file_word arguments)
    else (if bytes_eq form (codes "CLEAR") then option_map Clear (option_and_then file_word arguments)
    else (if bytes_eq form (codes "DROP") then option_map Drop (option_and_then file_word arguments)
    else (if bytes_eq form (codes "NAME") then option_map Name (option_and_then number_of arguments)
    else (if bytes_eq form (codes "STAT") && is_none arguments then Some Stat
    else None)))))))

-- the request that a text is
abbrev pub file_request : List ℕ → Option FileRequest
file_request text =
    if nat_le (length text) longest_request then request_of (first_word text).word (first_word text).rest
    else None

-- why a request is refused
pub data FileError : Type 0 where
  BadRequest BadName Exists NotFound Gap TooLong End TooManyChunks OutOfRam OutOfCaps InvalidSize NoBuffer BadRange : FileError

abbrev pub error_name : FileError → List ℕ
error_name BadRequest = codes "BAD_REQUEST"
error_name BadName = codes "BAD_NAME"
error_name Exists = codes "EXISTS"
error_name NotFound = codes "NOT_FOUND"
error_name Gap = codes "GAP"
error_name TooLong = codes "TOO_LONG"
error_name End = codes "END"
error_name TooManyChunks = codes "TOO_MANY_CHUNKS"
error_name OutOfRam = codes "OUT_OF_RAM"
error_name OutOfCaps = codes "OUT_OF_CAPS"
error_name InvalidSize = codes "INVALID_SIZE"
error_name NoBuffer = codes "NO_BUFFER"
error_name BadRange = codes "BAD_RANGE"

-- a reply: done, a count, bytes that were read, a file's name, use and limits, a buffer that was made, whose selector is still
-- to follow, or a refusal
pub data FileReply : Type 0 where
  Done : FileReply
  Count : ℕ → FileReply
  Bytes : List ℕ → FileReply
  Named : List ℕ → FileReply
  Quotas : Account → FileReply
  Lent : FileReply
  Refused : FileError → FileReply

-- the reply of bytes: no bytes are printed without a space
abbrev pub bytes_reply : List ℕ → List ℕ
bytes_reply [] = codes "OK"
bytes_reply (b ∷ bytes) = codes "OK " ++ hex_text (b ∷ bytes)

-- the text of a reply
abbrev pub file_reply : FileReply → List ℕ
file_reply Done = codes "OK"
file_reply (Count n) = codes "OK " ++ decimal n
file_reply (Bytes bytes) = bytes_reply bytes
file_reply (Named name) = codes "OK " ++ name
file_reply (Quotas account) = codes "OK " ++ quota_text account
file_reply Lent = codes "OK cap "
file_reply (Refused e) = codes "ERR " ++ error_name e
