-- The least that calls and requests ask of an account.
use Rattle.std.specs.Prelude.{ℕ, ◌+◌, ◌&&◌, List, [], ◌∷◌, length, nat_lt, if◌then◌else◌, Option, Some, None}
use Rattle.trade_base.specs.Page.{page_of, is_valid_size}
use Rattle.own_model.specs.BestFit.{block_size}
use Rattle.own_model.specs.BufferService.{SessionRequest, session_request}
use Rattle.own_model.specs.BufferService.BufferRequest.{Make as MakeBuffer, Put}
use Rattle.own_model.specs.BufferService.SessionRequest.{OfFiles, OfBuffer}
use Rattle.own_model.specs.Call.{Call}
use Rattle.own_model.specs.Call.Call.{Alloc, Capalloc, New, Snew, Yield, Open, Upgrade}
use Rattle.own_model.specs.FileService.{Files, file_named, node_size}
use Rattle.own_model.specs.FileText.FileRequest.{Create, Write}
use Rattle.own_model.specs.Growth.{is_large}
use Rattle.own_model.specs.ObjectKinds.{ObjectKind, kind_named}
use Rattle.own_model.specs.ObjectService.{Objects, object_named}
use Rattle.own_model.specs.ObjectSession.{HoldingRequest, holding_request}
use Rattle.own_model.specs.ObjectSession.HoldingRequest.{OfObjects, OfBuffer as HoldingBuffer}
use Rattle.own_model.specs.ObjectText.ObjectRequest.{Make, Resize}
use Rattle.own_model.specs.Services.{ServiceState}
use Rattle.own_model.specs.Services.ServiceState.{Holding}
use Rattle.own_model.specs.SessionArgs.{arguments_of}
use Rattle.own_model.specs.Sliced.{sliced_header, sliced_size}
use Rattle.budget_theorems.specs.Request.{resize_tests, write_tests}
use Rattle.budget_theorems.specs.Test.{Test, arguments_tests, test_of, tested_where}
use Rattle.budget_meter.specs.RequestTests.{files_in}

-- ---- blocks

-- the least chunk for a block that isn't large, as if no hole had room for it
abbrev pub chunk_tests : ℕ → List Test
chunk_tests n = test_of (page_of (block_size n)) 1 ∷ []

-- a block of the heap: a large one asks for its pages, and any other for the least chunk
abbrev pub block_tests : ℕ → List Test
block_tests n = tested_where (is_valid_size n) (test_of (if is_large n then page_of n else page_of (block_size n)) 1)

-- whole pages of a size that can be
abbrev pub page_tests : ℕ → List Test
page_tests n = tested_where (is_valid_size n) (test_of (page_of n) 1)

-- ---- calls

-- what a call asks of its caller's account, if its service isn't denied and its selector has a session
abbrev pub asked_by : Call → List Test
asked_by (Alloc n) = page_tests n
asked_by Capalloc = test_of 0 1 ∷ []
asked_by (New n) = block_tests n
asked_by (Snew n) = tested_where (nat_lt 0 n && is_valid_size (sliced_header + n)) (test_of (sliced_size n) 1)
asked_by (Open service text) = arguments_tests (arguments_of text)
asked_by (Upgrade selector text) = arguments_tests (arguments_of text)
asked_by (Yield text) = arguments_tests (arguments_of text)
asked_by call = []

-- ---- requests

-- so many bytes of a file from an offset on, of a size that can be
abbrev pub content_asked : ℕ → ℕ → List ℕ → Files → List Test
content_asked offset count name files =
    if is_valid_size (sliced_header + (offset + count)) then write_tests offset count (file_named name files) else []

-- a request of files or of the buffer
abbrev pub filing_asked : Option SessionRequest → Files → List Test
filing_asked (Some (OfFiles (Create name))) files = chunk_tests node_size
filing_asked (Some (OfFiles (Write name offset bytes))) files = content_asked offset (length bytes) name files
filing_asked (Some (OfBuffer (MakeBuffer n))) files = page_tests n
filing_asked (Some (OfBuffer (Put name offset place count))) files = content_asked offset count name files
filing_asked request files = []

-- the node of a new object, if its kind is there
abbrev pub node_asked : Option ObjectKind → List Test
node_asked None = []
node_asked (Some kind) = chunk_tests kind.block

-- a request of objects or of the buffer
abbrev pub holding_asked : List ObjectKind → Option HoldingRequest → Objects → List Test
holding_asked kinds (Some (OfObjects (Make kind name))) objects = node_asked (kind_named kind kinds)
holding_asked kinds (Some (OfObjects (Resize name units))) objects = resize_tests units (object_named name objects)
holding_asked kinds (Some (HoldingBuffer (MakeBuffer n))) objects = page_tests n
holding_asked kinds request objects = []

-- what a request asks of the account of its session, by what the session stores
abbrev pub asked_in : ServiceState → List ℕ → List Test
asked_in (Holding kinds objects) request = holding_asked kinds (holding_request request) objects
asked_in state request = filing_asked (session_request request) (files_in state)
