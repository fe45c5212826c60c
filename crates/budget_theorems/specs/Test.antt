-- What a call tests of its caller's account.
use Rattle.std.specs.Prelude.{ℕ, ◌+◌, ◌&&◌, Bool, false, List, [], ◌∷◌, length, nat_lt, nat_le, if◌then◌else◌, Option, Some, None, Result, Ok, Err}
use Rattle.trade_base.specs.declared.refusal.Refusal.{Refusal}
use Rattle.trade_base.specs.Page.{page_of, is_valid_size}
use Rattle.own_model.specs.Account.{Account}
use Rattle.own_model.specs.BestFit.{Spot}
use Rattle.own_model.specs.Call.{Call}
use Rattle.own_model.specs.Call.Call.{Alloc, Capalloc, New, Snew, Yield, Open, Upgrade}
use Rattle.own_model.specs.Growth.{Shape, most_chunks, is_large, hole_for, least_growth, larger_growth}
use Rattle.own_model.specs.OwnState.{OwnState, session_named}
use Rattle.own_model.specs.OwnStep.{turned_away}
use Rattle.own_model.specs.Session.{Session, Wish, wish}
use Rattle.own_model.specs.SessionArgs.{Arguments, arguments_of}
use Rattle.own_model.specs.Sliced.{sliced_header, sliced_size}
use Rattle.own_model.specs.StartList.{Entry}
use Rattle.std.specs.FinMap.{get}

-- a test: whether the account covers so many bytes and so many capabilities beside what it uses. Bytes are tested first, and
-- only if they are covered capabilities. Where it fails its call is refused, except the bytes of a choice
pub record Test : Type 0 where
  pub ram : ℕ
  pub caps : ℕ
  pub choice : Bool

-- a test of which a failure is a refusal
abbrev pub test_of : ℕ → ℕ → Test
test_of ram caps = record { ram = ram; caps = caps; choice = false }

-- a test that is made where a size is one that can be
abbrev pub tested_where : Bool → Test → List Test
tested_where valid test = if valid then test ∷ [] else []

-- ---- the heap

-- the larger chunk: a choice, where the least is less
abbrev pub larger_test : ℕ → Shape → Test
larger_test n shape = record {
  ram = (larger_growth n shape).bytes;
  caps = 1;
  choice = nat_lt (least_growth n shape).bytes (larger_growth n shape).bytes;
}

-- a heap that grows tests the larger chunk, and only if its bytes aren't covered the least
abbrev pub growth_tests : ℕ → Shape → Account → List Test
growth_tests n shape account =
    larger_test n shape
    ∷ tested_where (nat_lt account.ram_limit (account.ram_used + (larger_growth n shape).bytes)) (test_of (least_growth n shape).bytes 1)

-- with the best hole for n bytes, if there is one: then nothing is tested, nor if the heap has the maximum number of chunks
abbrev pub small_tests : ℕ → Option Spot → Shape → Account → List Test
small_tests n (Some hole) shape account = []
small_tests n None shape account = if nat_le most_chunks (length shape.chunks) then [] else growth_tests n shape account

-- n bytes of a heap
abbrev pub heap_tests : ℕ → Shape → Account → List Test
heap_tests n shape account =
    if is_valid_size n then (if is_large n then test_of (page_of n) 1 ∷ [] else small_tests n (hole_for n shape) shape account)
    else []

-- ---- calls

-- what is named by arguments, if they are in the grammar
abbrev pub arguments_tests : Option Arguments → List Test
arguments_tests (Some more) = test_of more.ram more.caps ∷ []
arguments_tests None = []

-- what is donated for a session that is requested
abbrev pub donation_tests : Result Wish Refusal → List Test
donation_tests (Ok wish) = test_of wish.ram wish.caps ∷ []
donation_tests (Err refusal) = []

-- what is donated for a session, if it is one
abbrev pub upgrade_tests : Option Session → Option Arguments → List Test
upgrade_tests (Some session) arguments = arguments_tests arguments
upgrade_tests None arguments = []

-- the tests of a call that isn't turned away. A request tests the reserve, and all others nothing
abbrev pub entry_tests : Entry → Call → OwnState → List Test
entry_tests entry (Alloc n) s = tested_where (is_valid_size n) (test_of (page_of n) 1)
entry_tests entry Capalloc s = test_of 0 1 ∷ []
entry_tests entry (New n) s = heap_tests n s.heap.shape s.account
entry_tests entry (Snew n) s = tested_where (nat_lt 0 n && is_valid_size (sliced_header + n)) (test_of (sliced_size n) 1)
entry_tests entry (Open service text) s = donation_tests (wish entry.label entry.routes service text)
entry_tests entry (Upgrade selector text) s = upgrade_tests (session_named (get s.selectors selector)) (arguments_of text)
entry_tests entry (Yield text) s = arguments_tests (arguments_of text)
entry_tests entry call s = []

abbrev pub tests_unless : Option Refusal → List Test → List Test
tests_unless (Some refusal) tests = []
tests_unless None tests = tests

-- the tests of a call: none, where its caller is no script or has exited
abbrev pub tests : Entry → Call → OwnState → List Test
tests entry call s = tests_unless (turned_away entry.kind s) (entry_tests entry call s)
