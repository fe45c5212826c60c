-- The table of calls: what each call is refused for, in order.
use Rattle.std.specs.Prelude.{◌≡◌, ℕ, ◌+◌, ◌&&◌, Bool, true, false, not, List, [], ◌∷◌, length, nat_lt, nat_le, if◌then◌else◌, Option, Some, None, is_none}
use Rattle.std.specs.FinMap.{get, len}
use Rattle.std.specs.List.{Any}
use Rattle.trade_base.specs.Page.{page_of, is_valid_size}
use Rattle.trade_base.specs.declared.refusal.Refusal.{Refusal}
use Rattle.trade_base.specs.declared.refusal.Refusal.TheVariants.{NotAScript, Gone, InvalidSize, InvalidCap, InvalidSession, BadArgs, ServiceDenied, InsufficientRamQuota, InsufficientCapQuota, OutOfRam, OutOfCaps, RegionConflict, TooManyRegions, PageFault, TooManyChunks}
use Rattle.own_model.specs.Account.{Account}
use Rattle.own_model.specs.BestFit.{Spot, block_size}
use Rattle.own_model.specs.Call.{Call}
use Rattle.own_model.specs.Call.Call.{Alloc, Free, Attach, AttachAt, Detach, Peek, Poke, Capalloc, Capfree, New, Del, Snew, Sdel, Quota, Reserve, Request, Yield, Open, Upgrade, CallSession, Close, Exit}
use Rattle.own_model.specs.Growth.{most_chunks, is_large, hole_for, growth_of}
use Rattle.own_model.specs.OwnState.{OwnState, Object, pages_in, named_bytes, bytes_named, session_named}
use Rattle.own_model.specs.OwnState.Object.{Dataspace, RpcObject, OpenSession, Buffer}
use Rattle.own_model.specs.OwnStep.{most_bytes, own_heap_gap}
use Rattle.own_model.specs.Place.{found}
use Rattle.own_model.specs.Region.{most_regions, user_low, user_high, can_attach, first_gap}
use Rattle.own_model.specs.Reply.{Reply}
use Rattle.own_model.specs.Reply.Reply.{Selected, Attached, Bytes, Done, Quotas, Reserved, Told, Refused}
use Rattle.own_model.specs.Reserve.{reserve_account}
use Rattle.own_model.specs.Routes.{Level, provider}
use Rattle.own_model.specs.Session.{Session, session_ram, session_caps, given_by}
use Rattle.own_model.specs.SessionArgs.{Arguments, arguments_of}
use Rattle.own_model.specs.Sliced.{sliced_header, sliced_size}
use Rattle.own_model.specs.StartList.{Entry, Kind}
use Rattle.own_model.specs.StartList.Kind.{Script, Server, Init}

-- a refusal, and whether its condition holds
pub record Test : Type 0 where
  pub refusal : Refusal
  pub fails : Bool

abbrev pub when : Bool → Refusal → Test
when fails refusal = record { refusal = refusal; fails = fails }

-- the first refusal whose condition holds
abbrev pub first_failed : List Test → Option Refusal
first_failed [] = None
first_failed (test ∷ tests) = if test.fails then Some test.refusal else first_failed tests

-- a test fails, for this refusal
abbrev pub FailsFor : Refusal → List Test → Type 0
FailsFor refusal tests = Any (λ test. (test.refusal ≡ refusal) × (test.fails ≡ true)) tests

-- an account doesn't cover so many bytes more, or so many capabilities
abbrev pub lacks_ram : Account → ℕ → Bool
lacks_ram a ram = nat_lt a.ram_limit (a.ram_used + ram)

abbrev pub lacks_caps : Account → ℕ → Bool
lacks_caps a caps = nat_lt a.caps_limit (a.caps_used + caps)

-- what a selector names
abbrev pub is_dataspace : Option Object → Bool
is_dataspace (Some (Dataspace bytes)) = true
is_dataspace (Some RpcObject) = false
is_dataspace (Some (OpenSession session)) = false
is_dataspace (Some (Buffer session bytes)) = false
is_dataspace None = false

abbrev pub is_rpc_object : Option Object → Bool
is_rpc_object (Some (Dataspace bytes)) = false
is_rpc_object (Some RpcObject) = true
is_rpc_object (Some (OpenSession session)) = false
is_rpc_object (Some (Buffer session bytes)) = false
is_rpc_object None = false

-- the pages of the bytes that a selector names
abbrev pub pages_named : Option Object → ℕ
pages_named object = pages_in (bytes_named object)

-- so many bytes are too few or too many for a peek or a poke
abbrev pub is_bad_count : ℕ → Bool
is_bad_count count = not (nat_lt 0 count && nat_le count most_bytes)

-- the end of a line for what takes so many bytes and a capability, and is at a gap of the heap window: it finds none only
-- where no machine has the RAM that is in use
abbrev pub memory_line : ℕ → Option ℕ → OwnState → List Test
memory_line bytes gap s = when (lacks_ram s.account bytes) OutOfRam ∷ when (lacks_caps s.account 1) OutOfCaps ∷ when (is_none gap) OutOfRam ∷ []

-- that for a block of the heap, with the best hole for it, if there is one: if there is none, a chunk of the block's own
-- pages decides
abbrev pub small_line : ℕ → Option Spot → OwnState → List Test
small_line n (Some hole) s = []
small_line n None s =
    when (nat_le most_chunks (length s.heap.shape.chunks)) TooManyChunks
    ∷ memory_line (page_of (block_size n)) (own_heap_gap (growth_of n s.heap.shape s.account).bytes s) s

abbrev pub new_line : ℕ → OwnState → List Test
new_line n s = if is_large n then memory_line (page_of n) (own_heap_gap (page_of n) s) s else small_line n (hole_for n s.heap.shape) s

-- the line for a session of a service: the arguments, the route, the client's account, and the minimum donation
abbrev pub open_line : List Level → List ℕ → Option Arguments → OwnState → List Test
open_line routes service arguments s =
    when (is_none arguments) BadArgs ∷ when (is_none (provider routes service (given_by arguments).label)) ServiceDenied
    ∷ when (lacks_ram s.account (given_by arguments).ram) OutOfRam ∷ when (lacks_caps s.account (given_by arguments).caps) OutOfCaps
    ∷ when (nat_lt (given_by arguments).ram session_ram) InsufficientRamQuota
    ∷ when (nat_lt (given_by arguments).caps session_caps) InsufficientCapQuota ∷ []

-- the line for limits that are to be moved from an account
abbrev pub moved_line : Option Arguments → Account → List Test
moved_line arguments from =
    when (is_none arguments) BadArgs ∷ when (lacks_ram from (given_by arguments).ram) OutOfRam
    ∷ when (lacks_caps from (given_by arguments).caps) OutOfCaps ∷ []

-- the line for more of a donation
abbrev pub upgrade_line : Option Session → Option Arguments → OwnState → List Test
upgrade_line session arguments s = when (is_none session) InvalidSession ∷ moved_line arguments s.account

-- a script's line for each call
abbrev pub line_of : Entry → Call → OwnState → List Test
line_of entry (Alloc n) s =
    when (not (is_valid_size n)) InvalidSize ∷ when (lacks_ram s.account (page_of n)) OutOfRam ∷ when (lacks_caps s.account 1) OutOfCaps ∷ []
line_of entry (Free selector) s = when (not (is_dataspace (get s.selectors selector))) InvalidCap ∷ []
line_of entry (Attach selector) s =
    when (is_none (named_bytes (get s.selectors selector))) InvalidCap ∷ when (nat_le most_regions (len s.regions)) TooManyRegions
    ∷ when (is_none (first_gap user_low user_high s.regions (pages_named (get s.selectors selector)))) RegionConflict ∷ []
line_of entry (AttachAt selector address) s =
    when (is_none (named_bytes (get s.selectors selector))) InvalidCap ∷ when (nat_le most_regions (len s.regions)) TooManyRegions
    ∷ when (not (can_attach user_low user_high s.regions (pages_named (get s.selectors selector)) address)) RegionConflict ∷ []
line_of entry (Detach address) s = when (is_none (get s.regions address)) PageFault ∷ []
line_of entry (Peek address count) s = when (is_bad_count count) InvalidSize ∷ when (is_none (found s address count)) PageFault ∷ []
line_of entry (Poke address bytes) s =
    when (is_bad_count (length bytes)) InvalidSize ∷ when (is_none (found s address (length bytes))) PageFault ∷ []
line_of entry Capalloc s = when (lacks_caps s.account 1) OutOfCaps ∷ []
line_of entry (Capfree selector) s = when (not (is_rpc_object (get s.selectors selector))) InvalidCap ∷ []
line_of entry (New n) s = when (not (is_valid_size n)) InvalidSize ∷ new_line n s
line_of entry (Del address) s = when (is_none (get s.heap.payloads address)) PageFault ∷ []
line_of entry (Snew n) s =
    when (not (nat_lt 0 n && is_valid_size (sliced_header + n))) InvalidSize ∷ memory_line (sliced_size n) (own_heap_gap (sliced_size n) s) s
line_of entry (Sdel address) s = when (is_none (get s.sliced address)) PageFault ∷ []
line_of entry Quota s = []
line_of entry Reserve s = []
line_of entry (Request text) s = moved_line (arguments_of text) (reserve_account s.reserve)
line_of entry (Yield text) s = moved_line (arguments_of text) s.account
line_of entry (Open service text) s = open_line entry.routes service (arguments_of text) s
line_of entry (Upgrade selector text) s = upgrade_line (session_named (get s.selectors selector)) (arguments_of text) s
line_of entry (CallSession selector request) s = when (is_none (session_named (get s.selectors selector))) InvalidSession ∷ []
line_of entry (Close selector) s = when (is_none (session_named (get s.selectors selector))) InvalidSession ∷ []
line_of entry Exit s = []

-- any component's line, by its kind: that of who is no script, one's that has exited, or else the call's
abbrev pub line_by : Kind → Entry → Call → OwnState → List Test
line_by Server entry call s = when true NotAScript ∷ []
line_by Init entry call s = when true NotAScript ∷ []
line_by Script entry call s = when s.gone Gone ∷ line_of entry call s

abbrev pub whole_line : Entry → Call → OwnState → List Test
whole_line entry call s = line_by entry.kind entry call s

-- the refusal that a reply contains, if it contains one
abbrev pub refusal_in : Reply → Option Refusal
refusal_in (Selected selector) = None
refusal_in (Attached address) = None
refusal_in (Bytes bytes) = None
refusal_in Done = None
refusal_in (Quotas account) = None
refusal_in (Reserved reserve) = None
refusal_in (Told text) = None
refusal_in (Refused refusal) = Some refusal
