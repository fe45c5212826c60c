-- What a call can do to an own state, and what is known where it is accepted.
use Rattle.std.proofs.Common.{rules, ◌≡◌, ℕ, ◌+◌, Bool, true, false, cond, List, nat_le, nat_lt, unwrap_or, refl, sym, true≢false, arith, ◌&&◌, length, ◌<◌, ◌^◌}
use Rattle.std.proofs.lemmas.Bool.Decides.{nat_tests}
use Rattle.std.proofs.lemmas.Option.{none-some}
use Rattle.std.specs.Prelude.{Option, Some, None, is_none}
use Rattle.std.specs.FinMap.{get, len}
use Rattle.trade_base.specs.declared.refusal.Refusal.{Refusal}
use Rattle.trade_base.specs.declared.refusal.Refusal.TheVariants.{OutOfCaps, InvalidSize}
use Rattle.trade_base.specs.Page.{page_of, is_valid_size}
use Rattle.own_model.proofs.RegionLemmas.{first_gap_least, stands}
use Rattle.own_model.specs.Account.{Account, Fits, WithinLimits, shortage, alloc_refusal}
use Rattle.own_model.specs.BestFit.{Spot}
use Rattle.own_model.specs.Growth.{Shape, Growth, most_chunks, is_large, hole_for, least_growth, larger_growth, growth_of, growth_refusal}
use Rattle.own_model.specs.NatMap.{NatMap}
use Rattle.own_model.specs.OwnState.{OwnState, Object, named_bytes, pages_in}
use Rattle.own_model.specs.OwnState.Object.{Dataspace, RpcObject, OpenSession}
use Rattle.own_model.specs.OwnStep.{allocated, freed, with_region, region_detached, poked_at, payload_poked, block_poked, block_taken, grown_at, large_at, given_back, sliced_at, sliced_freed, own_heap_gap, cap_allocated, cap_freed, reserve_requested, reserve_yielded, session_opened, session_upgraded, session_called, session_closed}
use Rattle.own_model.specs.Region.{Region, most_regions, user_low, user_high, can_attach, first_gap, user_gap, attach_refusal, attach_at_refusal}
use Rattle.own_model.specs.Reserve.{reserve_account}
use Rattle.own_model.specs.Session.{Session, Wish, donation_refusal}
use Rattle.own_model.specs.SessionArgs.{Arguments}
use Rattle.own_model.specs.Sliced.{sliced_header, sliced_size, sliced_refusal}
use Rattle.std.proofs.lemmas.Bool.{ltb-true, ltb-false}

-- P holds of a state after each thing that a call can do to it
pub record KeptByEffects (P : OwnState → Type 0) (s : OwnState) : Type 0 where
  -- an allocation that is accepted
  pub allocates : (n : ℕ) → alloc_refusal n s.account ≡ None → P (allocated n s).next
  -- a free of a dataspace
  pub frees : (selector : ℕ) (bytes : List ℕ) → get s.selectors selector ≡ Some (Dataspace bytes) → P (freed selector (Some (Dataspace bytes)) s).next
  -- an attachment where the pages can stand and there is room
  pub attaches : (selector address : ℕ) (bytes : List ℕ) → named_bytes (get s.selectors selector) ≡ Some bytes →
      can_attach user_low user_high s.regions (pages_in bytes) address ≡ true → nat_le most_regions (len s.regions) ≡ false →
      P (with_region selector (pages_in bytes) address s).next
  -- a detachment
  pub detaches : (address : ℕ) → P (region_detached address s).next
  -- bytes put over those of what a selector names
  pub pokes : (selector offset : ℕ) (bytes : List ℕ) (object : Object) → get s.selectors selector ≡ Some object → P (poked_at selector offset bytes (Some object) s).next
  -- bytes put over those of a payload
  pub pokes_payload : (address offset : ℕ) (bytes payload : List ℕ) → get s.sliced address ≡ Some payload → P (payload_poked address offset bytes (Some payload) s).next
  -- the same of a payload of the heap
  pub pokes_block : (address offset : ℕ) (bytes payload : List ℕ) → get s.heap.payloads address ≡ Some payload → P (block_poked address offset bytes (Some payload) s).next
  -- a block of the heap in the best hole
  pub takes : (n : ℕ) (hole : Spot) → hole_for n s.heap.shape ≡ Some hole → P (block_taken n hole s).next
  -- one in a new chunk that is accepted, at the first gap
  pub grows : (n start : ℕ) → growth_refusal n s.heap.shape s.account ≡ None → own_heap_gap (growth_of n s.heap.shape s.account).bytes s ≡ Some start →
      P (grown_at n (growth_of n s.heap.shape s.account) start s).next
  -- a large block that is accepted, at the first gap
  pub takes_large : (n start : ℕ) → is_large n ≡ true → alloc_refusal n s.account ≡ None → own_heap_gap (page_of n) s ≡ Some start → P (large_at n start s).next
  -- a block of a chunk given back
  pub gives : (address : ℕ) (payload : List ℕ) → get s.heap.payloads address ≡ Some payload → get s.heap.large address ≡ None → P (given_back address None s).next
  -- a large block given back
  pub gives_large : (address bytes : ℕ) → get s.heap.large address ≡ Some bytes → P (given_back address (Some bytes) s).next
  -- a new sliced block that is accepted, at the first gap
  pub slices : (n start : ℕ) → sliced_refusal n s.account ≡ None → own_heap_gap (sliced_size n) s ≡ Some start → P (sliced_at n start s).next
  -- a free of a sliced block
  pub unslices : (address : ℕ) (payload : List ℕ) → get s.sliced address ≡ Some payload → P (sliced_freed address (Some payload) s).next
  -- a new RPC object that the account covers
  pub allocates_cap : shortage s.account 0 1 ≡ None → P (cap_allocated s).next
  -- a free of an RPC object
  pub frees_cap : (selector : ℕ) → get s.selectors selector ≡ Some RpcObject → P (cap_freed selector (Some RpcObject) s).next

-- and after limits are moved between its account and its reserve
pub record KeptByReserve (P : OwnState → Type 0) (s : OwnState) : Type 0 where
  -- a request that the reserve covers
  pub requests : (more : Arguments) → shortage (reserve_account s.reserve) more.ram more.caps ≡ None → P (reserve_requested more s).next
  -- a yield that the account covers
  pub yields : (more : Arguments) → shortage s.account more.ram more.caps ≡ None → P (reserve_yielded more s).next

-- and after each thing that a call of a session can do to it
pub record KeptBySessions (P : OwnState → Type 0) (s : OwnState) : Type 0 where
  -- a session that is asked for, of which the client covers enough
  pub opens : (wish : Wish) → donation_refusal s.account wish.ram wish.caps ≡ None → P (session_opened wish s).next
  -- more that the client covers, for a session
  pub upgrades : (selector : ℕ) (session : Session) (more : Arguments) → get s.selectors selector ≡ Some (OpenSession session) → shortage s.account more.ram more.caps ≡ None →
      P (session_upgraded selector session more s).next
  -- a request of a session, which may make, change or give back the session's buffer
  pub serves : (selector : ℕ) (session : Session) (request : List ℕ) → get s.selectors selector ≡ Some (OpenSession session) → P (session_called selector (Some session) request s).next
  -- a session closed, with its buffer
  pub closes : (selector : ℕ) (session : Session) → get s.selectors selector ≡ Some (OpenSession session) → P (session_closed selector (Some session) s).next

-- two tests in order refuse nothing where neither refuses
pub neither : (a b : Bool) (x y : Refusal) → cond a (Some x) (cond b (Some y) None) ≡ None → (a ≡ false) × (b ≡ false)
neither true b x y accepted = absurd (none-some x (sym accepted))
neither false true x y accepted = absurd (none-some y (sym accepted))
neither false false x y accepted = (refl, refl)

-- a number that isn't missing is the one that is read
some_of : (o : Option ℕ) → is_none o ≡ false → o ≡ Some (unwrap_or o 0)
some_of None h = absurd (true≢false h)
some_of (Some a) h = refl

-- the first gap of the user window is a place, where there is one
gap_stands : (regions : NatMap Region) (pages : ℕ) → is_none (first_gap user_low user_high regions pages) ≡ false → can_attach user_low user_high regions pages (user_gap regions pages) ≡ true
gap_stands regions pages there = grind (arith, nat_tests, some_of, first_gap_least, stands)

-- where pages can be attached at a gap they can stand there, and there are fewer regions than the most
pub attach_place : (most : ℕ) (regions : NatMap Region) (pages : ℕ) → attach_refusal most regions pages ≡ None →
    (can_attach user_low user_high regions pages (user_gap regions pages) ≡ true) × (nat_le most (len regions) ≡ false)
attach_place most regions pages accepted = grind (arith, nat_tests, neither, gap_stands)

-- the same where the second test refuses what fails it
neither_then : (can full : Bool) (x y : Refusal) → cond full (Some x) (cond can None (Some y)) ≡ None → (can ≡ true) × (full ≡ false)
neither_then can true x y accepted = absurd (none-some x (sym accepted))
neither_then false false x y accepted = absurd (none-some y (sym accepted))
neither_then true false x y accepted = (refl, refl)

-- the same of an address
pub attach_at_place : (most : ℕ) (regions : NatMap Region) (pages address : ℕ) → attach_at_refusal most regions pages address ≡ None →
    (can_attach user_low user_high regions pages address ≡ true) × (nat_le most (len regions) ≡ false)
attach_at_place most regions pages address accepted = search (rules, neither_then)

-- an account that lacks nothing covers it
pub covers : (a : Account) (ram caps : ℕ) → shortage a ram caps ≡ None → Fits a ram caps
covers a ram caps enough = grind (arith, nat_tests, neither, ltb-false)

-- an account within its limits lacks nothing but capabilities where no bytes are asked for
pub short_of_caps : (a : Account) (caps : ℕ) (refusal : Refusal) → WithinLimits a → Some refusal ≡ shortage a 0 caps → refusal ≡ OutOfCaps
short_of_caps a caps refusal within short = grind (arith, nat_tests)

-- a size that is accepted is covered
pub size_tested : (valid : Bool) (o : Option Refusal) (x : Refusal) → cond valid o (Some x) ≡ None → o ≡ None
size_tested true o x accepted = accepted
size_tested false o x accepted = absurd (none-some x (sym accepted))

-- an account lacks nothing for a sliced block that is accepted
pub accepted_block : (n : ℕ) (a : Account) → sliced_refusal n a ≡ None → shortage a (sliced_size n) 1 ≡ None
accepted_block n a accepted = size_tested (nat_lt 0 n && is_valid_size (sliced_header + n)) (shortage a (sliced_size n) 1) InvalidSize accepted

-- an account lacks nothing for an allocation that is accepted
pub accepted_size : (n : ℕ) (a : Account) → alloc_refusal n a ≡ None → shortage a (page_of n) 1 ≡ None
accepted_size n a accepted = size_tested (is_valid_size n) (shortage a (page_of n) 1) InvalidSize accepted

-- what is chosen where there is no reason against it has none
chosen : (o : Option Refusal) (larger least : Growth) (short : Growth → Option Refusal) → short larger ≡ o → short least ≡ None → short (cond (is_none o) larger least) ≡ None
chosen None larger least short is enough = is
chosen (Some refusal) larger least short is enough = enough

-- where a test and then an option refuse nothing, neither does
then_none : (full : Bool) (o : Option Refusal) (x : Refusal) → cond full (Some x) o ≡ None → (full ≡ false) × (o ≡ None)
then_none true o x accepted = absurd (none-some x (sym accepted))
then_none false o x accepted = (refl, accepted)

-- an account lacks nothing for a growth that is accepted, and there is room for a chunk
pub accepted_growth : (n : ℕ) (shape : Shape) (a : Account) → growth_refusal n shape a ≡ None →
    (nat_le most_chunks (length shape.chunks) ≡ false) × (shortage a (growth_of n shape a).bytes 1 ≡ None)
accepted_growth n shape a accepted = grind (arith, nat_tests, then_none, chosen)

-- a growth has the pages of the block, at least
pub growth_fits : (n : ℕ) (shape : Shape) (a : Account) (P : Growth → Type 0) → P (larger_growth n shape) → P (least_growth n shape) → P (growth_of n shape a)
growth_fits n shape a P larger least = elim (is_none (shortage a (larger_growth n shape).bytes 1)) as (λ b. P (cond b (larger_growth n shape) (least_growth n shape))) [ true ↦ larger | false ↦ least ]

-- where two tests have to pass and nothing is refused, the first one passes
pub valid_parts : (a b : Bool) (o : Option Refusal) (x : Refusal) → cond (a && b) o (Some x) ≡ None → a ≡ true
valid_parts true b o x accepted = refl
valid_parts false b o x accepted = absurd (none-some x (sym accepted))

-- an allocation that is accepted is of some bytes
pub valid_some : (n : ℕ) (a : Account) → alloc_refusal n a ≡ None → 0 < n
valid_some n a accepted = ltb-true 0 n (valid_parts (nat_lt 0 n) (nat_lt (page_of n) (2 ^ 64)) (shortage a (page_of n) 1) InvalidSize accepted)
