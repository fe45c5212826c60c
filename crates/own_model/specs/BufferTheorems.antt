-- Theorems on the buffer that a client shares with its session, as statements.
use Rattle.std.specs.Prelude.{◌≡◌, ◌≢◌, ◌⊎◌, ℕ, ◌+◌, ◌≤◌, ◌<◌, ◌&&◌, Bool, true, not, List, [], ◌∷◌, length, nat_lt, slice_range, get_or, take, drop, Option, Some, None, is_none, is_some}
use Rattle.std.specs.Option.{unwrap_or}
use Rattle.trade_base.specs.Page.{page_of, is_valid_size}
use Rattle.own_model.specs.Account.{Account, WithinLimits}
use Rattle.own_model.specs.BufferService.{BufferRequest, SessionRequest, beside, buffer_served, session_request_served, buffer_ram, buffer_caps}
use Rattle.own_model.specs.BufferService.BufferRequest.{Make, GiveBack, Put, Get}
use Rattle.own_model.specs.ErrorTests.{Tested, when, first_of}
use Rattle.own_model.specs.FileService.{Files, File, AreFiles, IsCharged, file_named, is_longer, told, request_served}
use Rattle.own_model.specs.FileText.{FileError, file_reply}
use Rattle.own_model.specs.FileText.FileRequest.{Write}
use Rattle.own_model.specs.FileText.FileError.{Exists, NotFound, Gap, OutOfRam, OutOfCaps, InvalidSize, NoBuffer, BadRange}
use Rattle.own_model.specs.FileText.FileReply.{Count, Refused}
use Rattle.own_model.specs.Sliced.{sliced_size}
use Rattle.own_model.specs.Table.{lacks_ram, lacks_caps}

-- ---- the table of requests: what each is refused for, in order

-- so many bytes from a place on aren't all in the buffer
abbrev pub is_bad_range : ℕ → ℕ → Option (List ℕ) → Bool
is_bad_range place count buffer = nat_lt (length (unwrap_or buffer [])) (place + count)

-- bytes go between a file and the buffer, which comes before what more the line has
abbrev pub move_errors : ℕ → ℕ → ℕ → Option (List ℕ) → Option File → (File → List (Tested FileError)) → List (Tested FileError)
move_errors offset place count buffer None more = when true NotFound ∷ []
move_errors offset place count buffer (Some file) more =
    when (nat_lt (length file.bytes) offset) Gap ∷ when (is_none buffer) NoBuffer
    ∷ when (is_bad_range place count buffer) BadRange ∷ more file

-- the line of each request: memory is needed for a buffer, and for a put only if the file grows
abbrev pub buffer_errors : BufferRequest → Option (List ℕ) → Files → Account → List (Tested FileError)
buffer_errors (Make n) buffer files account =
    when (not (is_valid_size n)) InvalidSize ∷ when (is_some buffer) Exists
    ∷ when (lacks_ram account (page_of n)) OutOfRam ∷ when (lacks_caps account 1) OutOfCaps ∷ []
buffer_errors GiveBack buffer files account = when (is_none buffer) NoBuffer ∷ []
buffer_errors (Put name offset place count) buffer files account =
    move_errors offset place count buffer (file_named name files) (λ file.
    when (is_longer offset count file && lacks_ram account (sliced_size (offset + count))) OutOfRam
    ∷ when (is_longer offset count file && lacks_caps account 1) OutOfCaps ∷ [])
buffer_errors (Get name offset place count) buffer files account =
    move_errors offset place count buffer (file_named name files) (λ file. [])

-- a request is answered the first error of its line whose condition holds, and then leaves the buffer, the files and the
-- account
abbrev pub BufferErrorsComeInOrder : Type 0
BufferErrorsComeInOrder =
    (request : BufferRequest) (buffer : Option (List ℕ)) (files : Files) (account : Account) (e : FileError) →
    first_of (buffer_errors request buffer files account) ≡ Some e →
    buffer_served request buffer files account ≡ beside buffer (told (Refused e) files account)

-- if no condition holds, it is answered none
abbrev pub OtherBuffersAreServed : Type 0
OtherBuffersAreServed =
    (request : BufferRequest) (buffer : Option (List ℕ)) (files : Files) (account : Account) (e : FileError) →
    first_of (buffer_errors request buffer files account) ≡ None →
    (buffer_served request buffer files account).reply ≢ file_reply (Refused e)

-- ---- which bytes are copied

-- where so many bytes are in the buffer, a put is a write of those, with the errors of a write, and leaves the buffer
abbrev pub PutsAreWrites : Type 0
PutsAreWrites =
    (name : List ℕ) (offset place count : ℕ) (bytes : List ℕ) (files : Files) (account : Account) → place + count ≤ length bytes →
    buffer_served (Put name offset place count) (Some bytes) files account
    ≡ beside (Some bytes) (request_served (Some (Write name offset (slice_range bytes place (place + count)))) files account)

-- a get changes neither the files nor the account, nor how long the buffer is; and where it is answered a count, the buffer has
-- so many bytes of the file from the place on, and every other byte of it is as it was
pub record Copies (name : List ℕ) (offset place count : ℕ) (bytes : List ℕ) (files : Files) (account : Account) : Type 0 where
  pub file : File
  pub there : file_named name files ≡ Some file
  pub new : List ℕ
  pub served : buffer_served (Get name offset place count) (Some bytes) files account
      ≡ beside (Some new) (told (Count (length (take count (drop offset file.bytes)))) files account)
  pub long : length new ≡ length bytes
  pub copied : slice_range new place (place + length (take count (drop offset file.bytes))) ≡ take count (drop offset file.bytes)
  pub others : (i : ℕ) → (i < place) ⊎ (place + length (take count (drop offset file.bytes)) ≤ i) → get_or new i 0 ≡ get_or bytes i 0

abbrev pub GetsCopy : Type 0
GetsCopy =
    (name : List ℕ) (offset place count : ℕ) (bytes : List ℕ) (files : Files) (account : Account) →
    first_of (buffer_errors (Get name offset place count) (Some bytes) files account) ≡ None →
    Copies name offset place count bytes files account

-- ---- what requests keep

-- any request leaves files as files are
abbrev pub AllKeepFiles : Type 0
AllKeepFiles =
    (request : Option SessionRequest) (buffer : Option (List ℕ)) (files : Files) (account : Account) →
    AreFiles files → AreFiles (session_request_served request buffer files account).files

-- whatever an account uses besides, it uses what the files and the buffer are charged after a request as before it
abbrev pub AllKeepCharges : Type 0
AllKeepCharges =
    (more_ram more_caps : ℕ) (request : Option SessionRequest) (buffer : Option (List ℕ)) (files : Files) (account : Account) →
    IsCharged (more_ram + buffer_ram buffer) (more_caps + buffer_caps buffer) files account →
    let o = session_request_served request buffer files account in
    IsCharged (more_ram + buffer_ram o.buffer) (more_caps + buffer_caps o.buffer) o.files o.account

-- a request changes no limit
abbrev pub AllKeepLimits : Type 0
AllKeepLimits =
    (request : Option SessionRequest) (buffer : Option (List ℕ)) (files : Files) (account : Account) →
    let o = session_request_served request buffer files account in
    (o.account.ram_limit ≡ account.ram_limit) × (o.account.caps_limit ≡ account.caps_limit)

-- and overdraws no account
abbrev pub AllKeepWithinLimits : Type 0
AllKeepWithinLimits =
    (request : Option SessionRequest) (buffer : Option (List ℕ)) (files : Files) (account : Account) →
    WithinLimits account → WithinLimits (session_request_served request buffer files account).account

-- a buffer that is made is whole pages, and one that stays stays as long
abbrev pub FitsBuffer : Option (List ℕ) → Option (List ℕ) → Type 0
FitsBuffer None (Some new) = (1 ≤ length new) × ((n : ℕ) × (length new ≡ page_of n))
FitsBuffer (Some old) (Some new) = length new ≡ length old
FitsBuffer old None = Unit {0}

abbrev pub AllFitBuffers : Type 0
AllFitBuffers =
    (request : Option SessionRequest) (buffer : Option (List ℕ)) (files : Files) (account : Account) →
    FitsBuffer buffer (session_request_served request buffer files account).buffer
