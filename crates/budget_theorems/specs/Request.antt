-- What a request tests of its session's account.
use Rattle.std.specs.Prelude.{ℕ, ◌+◌, ◌==◌, ◌||◌, Bool, not, List, [], ◌∷◌, length, if◌then◌else◌, Option, Some, None, is_some}
use Rattle.std.specs.Str.{bytes_eq}
use Rattle.trade_base.specs.Page.{page_of, is_valid_size}
use Rattle.own_model.specs.Account.{Account}
use Rattle.own_model.specs.Amounts.{Amounts}
use Rattle.own_model.specs.BufferService.{SessionRequest, session_request, move_refusal, part_of}
use Rattle.own_model.specs.BufferService.BufferRequest.{Make, Put}
use Rattle.own_model.specs.BufferService.SessionRequest.{OfFiles, OfBuffer}
use Rattle.own_model.specs.FileService.{Files, File, no_files, file_named, node_size, gap_refusal, is_longer}
use Rattle.own_model.specs.FileText.{FileError, file_reply}
use Rattle.own_model.specs.FileText.FileRequest.{Create, Write}
use Rattle.own_model.specs.FileText.FileReply.{Refused}
use Rattle.own_model.specs.FileText.FileError.{OutOfRam, OutOfCaps}
use Rattle.own_model.specs.Growth.{hole_for}
use Rattle.own_model.specs.ObjectKinds.{ObjectKind, kind_named}
use Rattle.own_model.specs.ObjectService.{DeclaredObject, Objects, object_named, contents, with_units}
use Rattle.own_model.specs.ObjectSession.{HoldingRequest, holding_request}
use Rattle.own_model.specs.ObjectSession.HoldingRequest.{OfObjects, OfBuffer as HoldingBuffer}
use Rattle.own_model.specs.ObjectText.ObjectRequest.{Make as MakeObject, Resize}
use Rattle.own_model.specs.Session.{ServiceState, Session}
use Rattle.own_model.specs.Services.ServiceState.{Filing, Holding}
use Rattle.own_model.specs.Sliced.{sliced_header, sliced_size}
use Rattle.own_model.specs.Text.{is_name}
use Rattle.budget_theorems.specs.Need.{limited}
use Rattle.budget_theorems.specs.Test.{Test, test_of, tested_where, heap_tests, small_tests}

-- tests that are made where nothing was refused before
abbrev pub tests_where_none : Option FileError → List Test → List Test
tests_where_none (Some e) tests = []
tests_where_none None tests = tests

-- a new file tests as its node's block does
abbrev pub create_tests : List ℕ → Files → Account → List Test
create_tests name files account =
    if not (is_name name) then [] else (if is_some (file_named name files) then [] else heap_tests node_size files.shape account)

-- a longer content is tested in addition to the old one
abbrev pub content_tests : ℕ → ℕ → File → List Test
content_tests offset count file = tested_where (is_longer offset count file) (test_of (sliced_size (offset + count)) 1)

abbrev pub write_tests : ℕ → ℕ → Option File → List Test
write_tests offset count None = []
write_tests offset count (Some file) = tests_where_none (gap_refusal offset file) (content_tests offset count file)

-- so many bytes of the buffer
abbrev pub put_tests : ℕ → ℕ → ℕ → Option (List ℕ) → Option File → List Test
put_tests offset place count buffer None = []
put_tests offset place count buffer (Some file) =
    tests_where_none (move_refusal offset place count buffer file) (write_tests offset (length (part_of buffer place count)) (Some file))

-- a first buffer
abbrev pub make_tests : ℕ → Option (List ℕ) → List Test
make_tests n buffer = if not (is_valid_size n) then [] else (if is_some buffer then [] else test_of (page_of n) 1 ∷ [])

-- the tests of a request of files or of the buffer, if it is one
abbrev pub filing_tests : Option SessionRequest → Option (List ℕ) → Files → Account → List Test
filing_tests (Some (OfFiles (Create name))) buffer files account = create_tests name files account
filing_tests (Some (OfFiles (Write name offset bytes))) buffer files account = write_tests offset (length bytes) (file_named name files)
filing_tests (Some (OfBuffer (Make n))) buffer files account = make_tests n buffer
filing_tests (Some (OfBuffer (Put name offset place count))) buffer files account =
    put_tests offset place count buffer (file_named name files)
filing_tests request buffer files account = []

-- a new object tests as its node's block does
abbrev pub make_object_tests : Option ObjectKind → List ℕ → Objects → Account → List Test
make_object_tests None name objects account = []
make_object_tests (Some kind) name objects account =
    if not (is_name name) then []
    else (if is_some (object_named name objects) then []
    else small_tests kind.block (hole_for kind.block objects.shape) objects.shape account)

-- new contents are tested in addition to the old ones
abbrev pub contents_tests : ℕ → List Test
contents_tests size =
    if size == 0 then [] else tested_where (is_valid_size (sliced_header + size)) (test_of (sliced_size size) 1)

abbrev pub resize_tests : ℕ → Option DeclaredObject → List Test
resize_tests units None = []
resize_tests units (Some object) = if units == object.units then [] else contents_tests (contents (with_units units object))

-- the tests of a request of objects or of the buffer, if it is one
abbrev pub holding_tests : List ObjectKind → Option HoldingRequest → Option (List ℕ) → Objects → Account → List Test
holding_tests kinds (Some (OfObjects (MakeObject kind name))) buffer objects account =
    make_object_tests (kind_named kind kinds) name objects account
holding_tests kinds (Some (OfObjects (Resize name units))) buffer objects account = resize_tests units (object_named name objects)
holding_tests kinds (Some (HoldingBuffer request)) buffer objects account = filing_tests (Some (OfBuffer request)) buffer no_files account
holding_tests kinds request buffer objects account = []

-- files, objects and a buffer test; a service that leaves its account tests nothing
abbrev pub tests_by : ServiceState → Option (List ℕ) → Account → List ℕ → List Test
tests_by (Filing files) buffer account request = filing_tests (session_request request) buffer files account
tests_by (Holding kinds objects) buffer account request = holding_tests kinds (holding_request request) buffer objects account
tests_by state buffer account request = []

abbrev pub request_tests : Option (List ℕ) → Session → List ℕ → List Test
request_tests buffer session request = tests_by session.state buffer session.account request

-- a session with a donation: that is what its account's limits are
abbrev pub donating : Amounts → Session → Session
donating donation session = record session { account = limited donation session.account }

-- a reply states that the session's account refused
abbrev pub shows_session_short : List ℕ → Bool
shows_session_short reply = bytes_eq reply (file_reply (Refused OutOfRam)) || bytes_eq reply (file_reply (Refused OutOfCaps))
