-- Theorems on the file service, as statements.
use Rattle.std.specs.Prelude.{◌≡◌, ◌≢◌, ℕ, ◌+◌, ◌≤◌, ◌&&◌, Bool, true, false, not, List, [], ◌∷◌, length, nat_lt, nat_le, Option, Some, None, is_none, is_some}
use Rattle.std.specs.Str.{bytes_eq}
use Rattle.trade_base.specs.Page.{page_of}
use Rattle.own_model.specs.Account.{Account, WithinLimits}
use Rattle.own_model.specs.BestFit.{Spot, block_size}
use Rattle.own_model.specs.ErrorTests.{Tested, when, first_of}
use Rattle.own_model.specs.FileService.{Files, File, AreFiles, IsCharged, no_files, node_size, file_named, is_longer, most_read, told, request_served, file_served}
use Rattle.own_model.specs.FileText.{FileRequest, FileError, file_request, file_reply}
use Rattle.own_model.specs.FileText.FileRequest.{Create, Write, Read, Size, Clear, Drop, Name, Stat}
use Rattle.own_model.specs.FileText.FileError.{BadRequest, BadName, Exists, NotFound, Gap, TooLong, End, TooManyChunks, OutOfRam, OutOfCaps}
use Rattle.own_model.specs.FileText.FileReply.{Count, Bytes, Refused}
use Rattle.own_model.specs.Growth.{Shape, most_chunks, hole_for}
use Rattle.own_model.specs.Sliced.{sliced_size}
use Rattle.own_model.specs.Table.{lacks_ram, lacks_caps}
use Rattle.own_model.specs.Text.{is_name}

-- ---- the table of requests: what each is refused for, in order

-- for a new node, with the best hole for it, if there is one: if there is none, a chunk of the block's own pages decides
abbrev pub node_errors : Option Spot → Shape → Account → List (Tested FileError)
node_errors (Some hole) shape account = []
node_errors None shape account =
    when (nat_le most_chunks (length shape.chunks)) TooManyChunks
    ∷ when (lacks_ram account (page_of (block_size node_size))) OutOfRam ∷ when (lacks_caps account 1) OutOfCaps ∷ []

-- of a write of so many bytes from an offset on: memory is needed only if the file grows
abbrev pub write_errors : ℕ → ℕ → Option File → Account → List (Tested FileError)
write_errors offset count None account = when true NotFound ∷ []
write_errors offset count (Some file) account =
    when (nat_lt (length file.bytes) offset) Gap
    ∷ when (is_longer offset count file && lacks_ram account (sliced_size (offset + count))) OutOfRam
    ∷ when (is_longer offset count file && lacks_caps account 1) OutOfCaps ∷ []

abbrev pub read_errors : ℕ → ℕ → Option File → List (Tested FileError)
read_errors offset count None = when true NotFound ∷ []
read_errors offset count (Some file) = when (nat_lt (length file.bytes) offset) Gap ∷ when (nat_lt most_read count) TooLong ∷ []

-- the line of each request
abbrev pub errors_of : Option FileRequest → Files → Account → List (Tested FileError)
errors_of None files account = when true BadRequest ∷ []
errors_of (Some (Create name)) files account =
    when (not (is_name name)) BadName ∷ when (is_some (file_named name files)) Exists
    ∷ node_errors (hole_for node_size files.shape) files.shape account
errors_of (Some (Write name offset bytes)) files account = write_errors offset (length bytes) (file_named name files) account
errors_of (Some (Read name offset count)) files account = read_errors offset count (file_named name files)
errors_of (Some (Size name)) files account = when (is_none (file_named name files)) NotFound ∷ []
errors_of (Some (Clear name)) files account = when (is_none (file_named name files)) NotFound ∷ []
errors_of (Some (Drop name)) files account = when (is_none (file_named name files)) NotFound ∷ []
errors_of (Some (Name place)) files account = when (nat_le (length files.files) place) End ∷ []
errors_of (Some Stat) files account = []

-- a request is answered the first error of its line whose condition holds, and then leaves the files and the account. So
-- memory and capabilities are needed only if the session's own account and its own heap of nodes lack them
abbrev pub ErrorsComeInOrder : Type 0
ErrorsComeInOrder =
    (files : Files) (account : Account) (text : List ℕ) (e : FileError) →
    first_of (errors_of (file_request text) files account) ≡ Some e →
    file_served files account text ≡ told (Refused e) files account

-- if no condition holds, it is answered none
abbrev pub OthersAreServed : Type 0
OthersAreServed =
    (files : Files) (account : Account) (text : List ℕ) (e : FileError) →
    first_of (errors_of (file_request text) files account) ≡ None →
    (file_served files account text).reply ≢ file_reply (Refused e)

-- ---- what requests keep

-- what a session has at first is as files are, and nothing is charged for it
abbrev pub NoFilesAreFiles : Type 0
NoFilesAreFiles = AreFiles no_files

-- a request leaves files as files are
abbrev pub RequestsKeepFiles : Type 0
RequestsKeepFiles =
    (files : Files) (account : Account) (text : List ℕ) → AreFiles files → AreFiles (file_served files account text).files

-- whatever an account uses besides, it uses what the files are charged after a request as before it: so when a session ends,
-- all that was charged for its files is what they are charged
abbrev pub RequestsKeepCharges : Type 0
RequestsKeepCharges =
    (more_ram more_caps : ℕ) (files : Files) (account : Account) (text : List ℕ) → IsCharged more_ram more_caps files account →
    IsCharged more_ram more_caps (file_served files account text).files (file_served files account text).account

-- a request changes no limit
abbrev pub RequestsKeepLimits : Type 0
RequestsKeepLimits =
    (files : Files) (account : Account) (text : List ℕ) →
    ((file_served files account text).account.ram_limit ≡ account.ram_limit)
    × ((file_served files account text).account.caps_limit ≡ account.caps_limit)

-- and overdraws no account
abbrev pub RequestsKeepWithinLimits : Type 0
RequestsKeepWithinLimits =
    (files : Files) (account : Account) (text : List ℕ) → WithinLimits account →
    WithinLimits (file_served files account text).account

-- ---- what is read

-- where a write is done, a read of the same bytes returns them
abbrev pub WrittenIsRead : Type 0
WrittenIsRead =
    (files : Files) (account : Account) (name : List ℕ) (offset : ℕ) (bytes : List ℕ) → length bytes ≤ most_read →
    let after = request_served (Some (Write name offset bytes)) files account in
    after.reply ≡ file_reply (Count (length bytes)) →
    (request_served (Some (Read name offset (length bytes))) after.files after.account).reply ≡ file_reply (Bytes bytes)

-- a request changes the file of this name, if it changes one
abbrev pub changes : List ℕ → FileRequest → Bool
changes name (Create new) = bytes_eq new name
changes name (Write of offset bytes) = bytes_eq of name
changes name (Clear of) = bytes_eq of name
changes name (Drop of) = bytes_eq of name
changes name request = false

-- each other file stays as it is, and where its node is
abbrev pub OtherFilesStay : Type 0
OtherFilesStay =
    (files : Files) (account : Account) (name : List ℕ) (request : FileRequest) → changes name request ≡ false →
    file_named name (request_served (Some request) files account).files ≡ file_named name files
