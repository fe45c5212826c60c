-- The file service of one client: what a session's requests make of its files and of its account.
use Rattle.std.specs.Prelude.{◌≡◌, ℕ, ◌+◌, Bool, not, List, [], ◌∷◌, ◌++◌, length, map, take, drop, find, slice_get, nat_lt, if◌then◌else◌, Option, Some, None, is_some}
use Rattle.std.specs.Option.{option_map, option_or}
use Rattle.std.specs.Str.{bytes_eq}
use Rattle.trade_base.specs.Bytes.{with_bytes}
use Rattle.trade_base.specs.declared.refusal.Refusal.{Refusal}
use Rattle.trade_base.specs.declared.refusal.Refusal.TheVariants.{TooManyChunks, OutOfCaps}
use Rattle.own_model.specs.Account.{Account, shortage, charged, credited}
use Rattle.own_model.specs.BestFit.{Spot}
use Rattle.own_model.specs.FileText.{FileRequest, FileError, FileReply, file_request, file_reply}
use Rattle.own_model.specs.FileText.FileRequest.{Create, Write, Read, Size, Clear, Drop, Name, Stat}
use Rattle.own_model.specs.FileText.FileError.{BadRequest, BadName, Exists, NotFound, Gap, TooLong, End}
use Rattle.own_model.specs.FileText.FileReply.{Done, Count, Bytes, Named, Quotas, Refused}
use Rattle.own_model.specs.Growth.{Shape, no_chunks, hole_for, growth_of, new_hole, heap_refusal, shape_taken, shape_given, shape_grown}
use Rattle.own_model.specs.Nodes.{Node, AreNodesOf, kept_ram, kept_caps}
pub use Rattle.own_model.specs.Nodes.{content_ram, content_caps}
use Rattle.own_model.specs.Sliced.{sliced_size}
use Rattle.own_model.specs.Text.{is_name}

-- ---- files

-- a file: its name, its bytes, and where the block of its node starts in the heap of nodes
pub record File : Type 0 where
  pub name : List ℕ
  pub bytes : List ℕ
  pub chunk : ℕ
  pub offset : ℕ

-- files in the order of their creation, and the heap of their nodes
pub record Files : Type 0 where
  pub files : List File
  pub shape : Shape

-- what a session has at first
abbrev pub no_files : Files
no_files = record { files = []; shape = no_chunks }

-- the bytes for which a node's block is asked
abbrev pub node_size : ℕ
node_size = 96

abbrev pub is_named : List ℕ → File → Bool
is_named name file = bytes_eq file.name name

-- the file of a name, if there is one
abbrev pub file_named : List ℕ → Files → Option File
file_named name files = find (is_named name) files.files

-- the file of a name with other bytes
abbrev pub rewritten : List ℕ → List ℕ → List File → List File
rewritten name bytes [] = []
rewritten name bytes (file ∷ rest) =
    if is_named name file then record file { bytes = bytes } ∷ rest else file ∷ rewritten name bytes rest

-- the file of a name removed
abbrev pub without : List ℕ → List File → List File
without name [] = []
without name (file ∷ rest) = if is_named name file then rest else file ∷ without name rest

-- ---- what contents are charged

-- the account with a file's content credited
abbrev pub content_credited : File → Account → Account
content_credited file account = credited account (content_ram (length file.bytes)) (content_caps (length file.bytes))

-- ---- why a request is refused

-- by the heap or by the account: no other refusal comes from there
abbrev pub error_of : Refusal → FileError
error_of TooManyChunks = FileError.TooManyChunks
error_of OutOfCaps = FileError.OutOfCaps
error_of refusal = FileError.OutOfRam

abbrev pub create_refusal : List ℕ → Files → Account → Option FileError
create_refusal name files account =
    if not (is_name name) then Some BadName
    else (if is_some (file_named name files) then Some Exists
    else option_map error_of (heap_refusal node_size files.shape account))

-- an offset above the size
abbrev pub gap_refusal : ℕ → File → Option FileError
gap_refusal offset file = if nat_lt (length file.bytes) offset then Some Gap else None

-- so many bytes from an offset on make a file longer
abbrev pub is_longer : ℕ → ℕ → File → Bool
is_longer offset count file = nat_lt (length file.bytes) (offset + count)

-- a longer content is charged before the old one is credited
abbrev pub content_refusal : ℕ → ℕ → File → Account → Option FileError
content_refusal offset count file account =
    if is_longer offset count file then option_map error_of (shortage account (sliced_size (offset + count)) 1) else None

abbrev pub write_refusal : ℕ → ℕ → File → Account → Option FileError
write_refusal offset count file account = option_or (gap_refusal offset file) (content_refusal offset count file account)

-- the most bytes that are read at once
abbrev pub most_read : ℕ
most_read = 1024

abbrev pub read_refusal : ℕ → ℕ → File → Option FileError
read_refusal offset count file = option_or (gap_refusal offset file) (if nat_lt most_read count then Some TooLong else None)

-- ---- what a request does

-- what it is answered, and the account and the files after it
pub record FileServed : Type 0 where
  pub reply : List ℕ
  pub account : Account
  pub files : Files

-- a reply that leaves both
abbrev pub told : FileReply → Files → Account → FileServed
told reply files account = record { reply = file_reply reply; account = account; files = files }

-- the refusal, which leaves both, or else what the request does
abbrev pub unless_refused : Option FileError → Files → Account → FileServed → FileServed
unless_refused (Some e) files account accepted = told (Refused e) files account
unless_refused None files account accepted = accepted

-- an empty file more, the last one, with its node in a hole
abbrev pub created_in : List ℕ → Spot → Files → Files
created_in name hole files = record {
  files = files.files ++ record { name = name; bytes = []; chunk = hole.chunk; offset = hole.offset } ∷ [];
  shape = shape_taken node_size hole files.shape;
}

-- the best hole for it, if there is one: the heap grows if there is none
abbrev pub created : List ℕ → Option Spot → Files → Account → FileServed
created name (Some hole) files account = told Done (created_in name hole files) account
created name None files account =
    let growth = growth_of node_size files.shape account in
    told Done (created_in name (new_hole growth files.shape) (record files { shape = shape_grown growth files.shape }))
    (charged account growth.bytes 1)

-- the account after so many bytes are put into a file from an offset on: a longer content is one of its own
abbrev pub write_charged : ℕ → ℕ → File → Account → Account
write_charged offset count file account =
    if is_longer offset count file then content_credited file (charged account (sliced_size (offset + count)) 1) else account

-- bytes are put over a file's from an offset on, and past its end
abbrev pub written : ℕ → List ℕ → Option File → Files → Account → FileServed
written offset bytes None files account = told (Refused NotFound) files account
written offset bytes (Some file) files account =
    unless_refused (write_refusal offset (length bytes) file account) files account
    (told (Count (length bytes)) (record files { files = rewritten file.name (with_bytes file.bytes offset bytes) files.files })
    (write_charged offset (length bytes) file account))

-- at most so many bytes are returned from an offset on
abbrev pub read : ℕ → ℕ → Option File → Files → Account → FileServed
read offset count None files account = told (Refused NotFound) files account
read offset count (Some file) files account =
    unless_refused (read_refusal offset count file) files account
    (told (Bytes (take count (drop offset file.bytes))) files account)

abbrev pub sized : Option File → Files → Account → FileServed
sized None files account = told (Refused NotFound) files account
sized (Some file) files account = told (Count (length file.bytes)) files account

-- a file's content is freed
abbrev pub cleared : Option File → Files → Account → FileServed
cleared None files account = told (Refused NotFound) files account
cleared (Some file) files account =
    told Done (record files { files = rewritten file.name [] files.files }) (content_credited file account)

-- a file is removed, with its content and the block of its node
abbrev pub dropped : Option File → Files → Account → FileServed
dropped None files account = told (Refused NotFound) files account
dropped (Some file) files account =
    told Done (record { files = without file.name files.files; shape = shape_given file.chunk file.offset files.shape })
    (content_credited file account)

-- the name of the file at a place in the order of creation
abbrev pub named : Option File → Files → Account → FileServed
named None files account = told (Refused End) files account
named (Some file) files account = told (Named file.name) files account

-- what a request does, if it is one
abbrev pub request_served : Option FileRequest → Files → Account → FileServed
request_served None files account = told (Refused BadRequest) files account
request_served (Some (Create name)) files account =
    unless_refused (create_refusal name files account) files account (created name (hole_for node_size files.shape) files account)
request_served (Some (Write name offset bytes)) files account = written offset bytes (file_named name files) files account
request_served (Some (Read name offset count)) files account = read offset count (file_named name files) files account
request_served (Some (Size name)) files account = sized (file_named name files) files account
request_served (Some (Clear name)) files account = cleared (file_named name files) files account
request_served (Some (Drop name)) files account = dropped (file_named name files) files account
request_served (Some (Name place)) files account = named (slice_get files.files place) files account
request_served (Some Stat) files account = told (Quotas account) files account

abbrev pub file_served : Files → Account → List ℕ → FileServed
file_served files account text = request_served (file_request text) files account

-- ---- what is true of files between requests

-- a file's node
abbrev pub node_of : File → Node
node_of file = record { name = file.name; asked = node_size; chunk = file.chunk; offset = file.offset }

-- their nodes are nodes of the heap: names are names, each of one file, and each file has a node of its own, of which there are
-- no more
abbrev pub AreFiles : Files → Type 0
AreFiles files = AreNodesOf files.shape (map node_of files.files)

-- ---- what files are charged together

-- the bytes of a file's content
abbrev pub content_size : File → ℕ
content_size file = length file.bytes

abbrev pub files_ram : Files → ℕ
files_ram files = kept_ram content_size files.files files.shape

abbrev pub files_caps : Files → ℕ
files_caps files = kept_caps content_size files.files files.shape

-- beside so many bytes and capabilities an account uses what files are charged, and no more
pub record IsCharged (more_ram more_caps : ℕ) (files : Files) (account : Account) : Type 0 where
  pub ram : account.ram_used ≡ more_ram + files_ram files
  pub caps : account.caps_used ≡ more_caps + files_caps files
