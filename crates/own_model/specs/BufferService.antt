-- The buffer that a client shares with its session of the file service: its requests, and what they do.
use Rattle.std.specs.Prelude.{ℕ, ◌+◌, ◌&&◌, not, List, [], length, take, drop, slice_range, codes, nat_lt, nat_le, if◌then◌else◌, Option, Some, None, is_some, is_none}
use Rattle.std.specs.Option.{option_map, option_or, option_and_then, unwrap_or}
use Rattle.std.specs.Str.{bytes_eq}
use Rattle.trade_base.specs.Amount.{number_of}
use Rattle.trade_base.specs.Bytes.{with_bytes}
use Rattle.trade_base.specs.Page.{page_of, is_valid_size}
use Rattle.own_model.specs.Account.{Account, shortage, charged, credited}
use Rattle.own_model.specs.FileService.{Files, File, FileServed, file_named, error_of, gap_refusal, told, written, request_served}
use Rattle.own_model.specs.LogText.{longest_request}
use Rattle.own_model.specs.Text.{first_word}
use Rattle.own_model.specs.FileText.{of_file, FileRequest, FileError, file_request, file_reply}
use Rattle.own_model.specs.FileText.FileError.{BadRequest, Exists, NotFound, InvalidSize, NoBuffer, BadRange}
use Rattle.own_model.specs.FileText.FileReply.{Done, Count, Lent, Refused}
use Rattle.own_model.specs.Zeros.{zeros}

-- a request: a buffer of so many bytes is made, it is given back, or so many bytes go from a place in it to an offset of a file,
-- or from there into it
pub data BufferRequest : Type 0 where
  Make : ℕ → BufferRequest
  GiveBack : BufferRequest
  Put : List ℕ → ℕ → ℕ → ℕ → BufferRequest
  Get : List ℕ → ℕ → ℕ → ℕ → BufferRequest

-- a request of a session: of its files, or of its buffer
pub data SessionRequest : Type 0 where
  OfFiles : FileRequest → SessionRequest
  OfBuffer : BufferRequest → SessionRequest

-- ---- the texts of requests

-- a number, a space, and more
abbrev pub after_number : {R : Type 0} → (ℕ → List ℕ → Option R) → List ℕ → Option R
after_number request arguments =
    option_and_then (λ n. option_and_then (request n) (first_word arguments).rest) (number_of (first_word arguments).word)

-- an offset, a place and a length, separated by spaces
abbrev pub move_of : (List ℕ → ℕ → ℕ → ℕ → BufferRequest) → List ℕ → List ℕ → Option BufferRequest
move_of request file =
    after_number (λ offset. after_number (λ place len. option_map (request file offset place) (number_of len)))

-- the request of a form and its arguments, which are what stands after the form and a space
abbrev pub buffer_request_of : List ℕ → Option (List ℕ) → Option BufferRequest
buffer_request_of form arguments =
    if bytes_eq form (codes "BUFFER") then option_map Make (option_and_then number_of arguments)
    else (if bytes_eq form (codes "UNBUFFER") && is_none arguments then Some GiveBack
    else (if bytes_eq form (codes "PUT") then option_and_then (of_file (move_of Put)) arguments
    else (if bytes_eq form (codes "GET") then option_and_then (of_file (move_of Get)) arguments
    else None)))

abbrev pub buffer_request : List ℕ → Option BufferRequest
buffer_request text =
    if nat_le (length text) longest_request then buffer_request_of (first_word text).word (first_word text).rest
    else None

-- the request that a text is
abbrev pub session_request : List ℕ → Option SessionRequest
session_request text = option_or (option_map OfFiles (file_request text)) (option_map OfBuffer (buffer_request text))

-- ---- what is answered

-- what a request is answered, and the account, the files and the buffer's bytes after it, if there is a buffer then
pub record BufferServed : Type 0 where
  pub reply : List ℕ
  pub account : Account
  pub files : Files
  pub buffer : Option (List ℕ)

-- what leaves the buffer
abbrev pub beside : Option (List ℕ) → FileServed → BufferServed
beside buffer o = record { reply = o.reply; account = o.account; files = o.files; buffer = buffer }

-- ---- why a request is refused

-- a second buffer, or one that the account doesn't cover
abbrev pub make_refusal : ℕ → Option (List ℕ) → Account → Option FileError
make_refusal n buffer account =
    if not (is_valid_size n) then Some InvalidSize
    else (if is_some buffer then Some Exists else option_map error_of (shortage account (page_of n) 1))

-- so many bytes from a place on, which aren't all in the buffer
abbrev pub range_refusal : ℕ → ℕ → Option (List ℕ) → Option FileError
range_refusal place count None = Some NoBuffer
range_refusal place count (Some bytes) = if nat_lt (length bytes) (place + count) then Some BadRange else None

-- the offset is looked at first
abbrev pub move_refusal : ℕ → ℕ → ℕ → Option (List ℕ) → File → Option FileError
move_refusal offset place count buffer file = option_or (gap_refusal offset file) (range_refusal place count buffer)

-- ---- what a request does

-- the refusal, which leaves all, or else what the request does
abbrev pub unless_refused : Option FileError → Option (List ℕ) → Files → Account → BufferServed → BufferServed
unless_refused (Some e) buffer files account accepted = beside buffer (told (Refused e) files account)
unless_refused None buffer files account accepted = accepted

-- a buffer of n bytes in whole pages, all zero
abbrev pub made : ℕ → Files → Account → BufferServed
made n files account = record {
  reply = file_reply Lent;
  account = charged account (page_of n) 1;
  files = files;
  buffer = Some (zeros (page_of n));
}

-- the buffer is removed, with a credit
abbrev pub given_back : Option (List ℕ) → Files → Account → BufferServed
given_back None files account = beside None (told (Refused NoBuffer) files account)
given_back (Some bytes) files account =
    record { reply = file_reply Done; account = credited account (length bytes) 1; files = files; buffer = None }

-- so many bytes of the buffer, from a place on
abbrev pub part_of : Option (List ℕ) → ℕ → ℕ → List ℕ
part_of buffer place count = slice_range (unwrap_or buffer []) place (place + count)

-- they are written into a file
abbrev pub put : ℕ → ℕ → ℕ → Option (List ℕ) → Option File → Files → Account → BufferServed
put offset place count buffer None files account = beside buffer (told (Refused NotFound) files account)
put offset place count buffer (Some file) files account =
    unless_refused (move_refusal offset place count buffer file) buffer files account
    (beside buffer (written offset (part_of buffer place count) (Some file) files account))

-- at most so many bytes of a file are put into the buffer, from a place on
abbrev pub got : ℕ → ℕ → ℕ → Option (List ℕ) → Option File → Files → Account → BufferServed
got offset place count buffer None files account = beside buffer (told (Refused NotFound) files account)
got offset place count buffer (Some file) files account =
    let part = take count (drop offset file.bytes) in
    unless_refused (move_refusal offset place count buffer file) buffer files account
    (beside (option_map (λ bytes. with_bytes bytes place part) buffer) (told (Count (length part)) files account))

abbrev pub buffer_served : BufferRequest → Option (List ℕ) → Files → Account → BufferServed
buffer_served (Make n) buffer files account =
    unless_refused (make_refusal n buffer account) buffer files account (made n files account)
buffer_served GiveBack buffer files account = given_back buffer files account
buffer_served (Put name offset place count) buffer files account =
    put offset place count buffer (file_named name files) files account
buffer_served (Get name offset place count) buffer files account =
    got offset place count buffer (file_named name files) files account

-- what any request of a session does, if it is one
abbrev pub session_request_served : Option SessionRequest → Option (List ℕ) → Files → Account → BufferServed
session_request_served None buffer files account = beside buffer (told (Refused BadRequest) files account)
session_request_served (Some (OfFiles request)) buffer files account = beside buffer (request_served (Some request) files account)
session_request_served (Some (OfBuffer request)) buffer files account = buffer_served request buffer files account

abbrev pub text_served : Option (List ℕ) → Files → Account → List ℕ → BufferServed
text_served buffer files account text = session_request_served (session_request text) buffer files account

-- ---- what a buffer is charged

-- its bytes, and a capability
abbrev pub buffer_ram : Option (List ℕ) → ℕ
buffer_ram None = 0
buffer_ram (Some bytes) = length bytes

abbrev pub buffer_caps : Option (List ℕ) → ℕ
buffer_caps None = 0
buffer_caps (Some bytes) = 1
