-- Computed examples of budgets.
use Rattle.std.specs.Prelude.{◌≡◌, ℕ, true, false, List, [], ◌∷◌, codes, Some, None}
use Rattle.std.specs.FinMap as map
use Rattle.own_model.specs.Account.{opened}
use Rattle.own_model.specs.Amounts.{Amounts}
use Rattle.own_model.specs.Call.{Call}
use Rattle.own_model.specs.Call.Call.{Alloc, Capalloc, Exit}
use Rattle.own_model.specs.FileService.{no_files}
use Rattle.own_model.specs.Growth.{no_chunks}
use Rattle.own_model.specs.ObjectRows.{surface, window_kinds}
use Rattle.own_model.specs.ObjectService.{no_objects}
use Rattle.own_model.specs.OwnHeap.{no_heap}
use Rattle.own_model.specs.OwnState.{OwnState}
use Rattle.own_model.specs.OwnStep.{unrouted}
use Rattle.own_model.specs.Reserve.{no_reserve}
use Rattle.own_model.specs.Session.{Session, session_account}
use Rattle.own_model.specs.Services.ServiceState.{Filing, Holding}
use Rattle.budget_theorems.specs.Need.{Cell, budgeted, cell}
use Rattle.budget_theorems.specs.Request.{request_tests}
use Rattle.budget_theorems.specs.Test.{test_of, heap_tests}
use Rattle.budget_theorems.specs.Shortfall.{run_is_short}

abbrev pub amounts : ℕ → ℕ → Amounts
amounts ram caps = record { ram = ram; caps = caps }

-- all budgets from so many bytes and capabilities on
abbrev pub from_on : ℕ → ℕ → Cell
from_on ram caps = record { ram_from = ram; ram_below = None; caps_from = caps; caps_below = None }

-- a script that has nothing
abbrev pub fresh : OwnState
fresh = record { account = opened 0 0; reserve = no_reserve; selectors = map.empty; regions = map.empty; heap = no_heap; sliced = map.empty; gone = false }

-- capalloc, alloc 4096: from 4096 bytes and 2 capabilities on, and short of quota with less of either
abbrev pub caps_and_ram : List Call
caps_and_ram = Capalloc ∷ Alloc 4096 ∷ []

abbrev pub TwoCharges : Type 0
TwoCharges =
    (cell unrouted caps_and_ram (amounts 4096 2) fresh ≡ from_on 4096 2)
    × (run_is_short unrouted caps_and_ram (budgeted (amounts 4096 2) fresh) ≡ false)
    × (run_is_short unrouted caps_and_ram (budgeted (amounts 4096 1) fresh) ≡ true)
    × (run_is_short unrouted caps_and_ram (budgeted (amounts 4095 2) fresh) ≡ true)

-- at 0 bytes and 1 capability the bytes fail, so that test bounds no capabilities
abbrev pub BytesFirst : Type 0
BytesFirst =
    cell unrouted caps_and_ram (amounts 0 1) fresh
    ≡ record { ram_from = 0; ram_below = Some 4096; caps_from = 1; caps_below = None }

-- alloc 4096, exit, alloc 8192: what comes after the exit needs nothing
abbrev pub left_early : List Call
left_early = Alloc 4096 ∷ Exit ∷ Alloc 8192 ∷ []

abbrev pub NothingAfterExit : Type 0
NothingAfterExit =
    (cell unrouted left_early (amounts 4096 1) fresh ≡ from_on 4096 1)
    × (run_is_short unrouted left_early (budgeted (amounts 4096 1) fresh) ≡ false)

-- a heap that has nothing yet tests four pages for 100 bytes, and one page where these aren't covered; for 20,000 bytes
-- both are five
abbrev pub FirstGrowth : Type 0
FirstGrowth =
    (heap_tests 100 no_chunks (opened 16384 1) ≡ record { ram = 16384; caps = 1; choice = true } ∷ [])
    × (heap_tests 100 no_chunks (opened 16383 1) ≡ record { ram = 16384; caps = 1; choice = true } ∷ test_of 4096 1 ∷ [])
    × (heap_tests 20000 no_chunks (opened 20480 1) ≡ test_of 20480 1 ∷ [])

-- a session of files with a file of so many bytes
abbrev pub one_file : List ℕ → Session
one_file bytes = record {
  label = [];
  account = session_account 20480 4;
  state = Filing (record no_files { files = record { name = codes "a"; bytes = bytes; chunk = 0; offset = 0 } ∷ [] });
  server = 0;
}

-- a byte written after the end tests a content of its own in addition to the old one, and one within the file nothing
abbrev pub Writes : Type 0
Writes =
    (request_tests None (one_file []) (codes "WRITE a 0 61") ≡ test_of 4096 1 ∷ [])
    × (request_tests None (one_file (97 ∷ [])) (codes "WRITE a 1 61") ≡ test_of 4096 1 ∷ [])
    × (request_tests None (one_file (97 ∷ [])) (codes "WRITE a 0 61") ≡ [])
    × (request_tests None (one_file []) (codes "BUFFER 4097") ≡ test_of 8192 1 ∷ [])
    × (request_tests None (one_file []) (codes "CREATE a") ≡ [])

-- a session of a window server with a surface of so many units
abbrev pub one_surface : ℕ → Session
one_surface units = record {
  label = [];
  account = session_account 20480 4;
  state = Holding window_kinds (record no_objects { objects = record { name = codes "a"; kind = surface; units = units; chunk = 0; offset = 0 } ∷ [] });
  server = 0;
}

-- other units test contents of their own in addition to the old ones, also if they are fewer, and the surface's own units test
-- nothing, nor do none; a new object tests its node's block
abbrev pub Resizes : Type 0
Resizes =
    (request_tests None (one_surface 0) (codes "RESIZE a 1") ≡ test_of 4096 1 ∷ [])
    × (request_tests None (one_surface 2) (codes "RESIZE a 1") ≡ test_of 4096 1 ∷ [])
    × (request_tests None (one_surface 1) (codes "RESIZE a 1") ≡ [])
    × (request_tests None (one_surface 1) (codes "RESIZE a 0") ≡ [])
    × (request_tests None (one_surface 0) (codes "RESIZE a 18446744073709551615") ≡ [])
    × (request_tests None (one_surface 0) (codes "MAKE view b") ≡ record { ram = 16384; caps = 1; choice = true } ∷ [])
    × (request_tests None (one_surface 0) (codes "MAKE view a") ≡ [])
    × (request_tests None (one_surface 0) (codes "BUFFER 4097") ≡ test_of 8192 1 ∷ [])
