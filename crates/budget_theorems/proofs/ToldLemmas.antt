-- The texts of replies tell whether a call is in want.
use Rattle.std.proofs.Common.{◌≡◌, ℕ, Bool, true, false, cond, List, length, refl}
use Rattle.std.specs.Prelude.{Option, Some, None, Result, Ok, Err}
use Rattle.std.specs.FinMap.{get}
use Rattle.trade_base.specs.Page.{page_of}
use Rattle.trade_base.specs.declared.refusal.Refusal.{Refusal}
use Rattle.trade_base.specs.declared.refusal.Refusal.TheVariants.{BadLine, UnknownComponent, NotAScript, Gone, BadArgs, InvalidSize, InvalidCap, OutOfRam, OutOfCaps, RegionConflict, TooManyRegions, PageFault, TooManyChunks, ServiceDenied, InsufficientRamQuota, InsufficientCapQuota, InvalidSession}
use Rattle.own_model.specs.Account.{shortage, alloc_refusal}
use Rattle.own_model.specs.BestFit.{Spot}
use Rattle.own_model.specs.Call.Call.{Alloc, Free, Attach, AttachAt, Detach, Peek, Poke, Capalloc, Capfree, New, Del, Snew, Sdel, Quota, Reserve, Request, Yield, Open, Upgrade, CallSession, Close, Exit}
use Rattle.own_model.specs.Growth.{Growth, is_large, hole_for, heap_refusal, growth_of}
use Rattle.own_model.specs.OwnState.{OwnState, Object, named_bytes, pages_in, session_named}
use Rattle.own_model.specs.OwnState.Object.{Dataspace, RpcObject, OpenSession, Buffer}
use Rattle.own_model.specs.OwnStep.{Outcome, unless, turned_away, allocated, freed, with_region, attached_first, attached_at, region_detached, count_refusal, peeked, poked, poked_at, payload_poked, block_poked, cap_allocated, cap_freed, large_in, grown_in, small_new, newed, own_heap_gap, given_back, deleted, sliced_in, sliced_freed, reserve_yielded, yielded_by, opened_by, session_opened, upgraded_by, session_upgraded, session_called, session_closed, entry_step}
use Rattle.own_model.specs.Place.{Place, found}
use Rattle.own_model.specs.Place.Place.{InDataspace, InPayload, InBlock}
use Rattle.own_model.specs.Region.{most_regions, attach_refusal, attach_at_refusal, user_gap, detach_refusal}
use Rattle.own_model.specs.Reply.{reply_text}
use Rattle.own_model.specs.Reply.Reply.{Refused}
use Rattle.own_model.specs.Session.{Session, Wish, wish, donation_refusal}
use Rattle.own_model.specs.SessionArgs.{Arguments, arguments_of}
use Rattle.own_model.specs.Sliced.{sliced_size, sliced_refusal}
use Rattle.own_model.specs.StartList.{Kind}
use Rattle.own_model.specs.StartList.Kind.{Script, Server, Init}
use Rattle.budget_theorems.specs.Shortfall.{is_short, shows_shortage, RepliesShowShortfalls}

-- a refusal's name tells it
name_tells : (refusal : Refusal) → is_short (Refused refusal) ≡ shows_shortage (reply_text (Refused refusal))
name_tells BadLine = refl
name_tells UnknownComponent = refl
name_tells NotAScript = refl
name_tells Gone = refl
name_tells BadArgs = refl
name_tells InvalidSize = refl
name_tells InvalidCap = refl
name_tells OutOfRam = refl
name_tells OutOfCaps = refl
name_tells RegionConflict = refl
name_tells TooManyRegions = refl
name_tells PageFault = refl
name_tells TooManyChunks = refl
name_tells ServiceDenied = refl
name_tells InsufficientRamQuota = refl
name_tells InsufficientCapQuota = refl
name_tells InvalidSession = refl

-- a reply of a call that reaches no session is told by its text
abbrev Tells : Outcome → Type 0
Tells o = is_short o.reply ≡ shows_shortage (reply_text o.reply)

module _ (s : OwnState) where
  unless_tells : (why : Option Refusal) (o : Outcome) → Tells o → Tells (unless why s o)
  unless_tells (Some refusal) o is = name_tells refusal
  unless_tells None o is = is

  frees : (k : ℕ) (object : Option Object) → Tells (freed k object s)
  frees k (Some (Dataspace bytes)) = refl
  frees k (Some RpcObject) = refl
  frees k (Some (OpenSession session)) = refl
  frees k (Some (Buffer session bytes)) = refl
  frees k None = refl

  frees_cap : (k : ℕ) (object : Option Object) → Tells (cap_freed k object s)
  frees_cap k (Some (Dataspace bytes)) = refl
  frees_cap k (Some RpcObject) = refl
  frees_cap k (Some (OpenSession session)) = refl
  frees_cap k (Some (Buffer session bytes)) = refl
  frees_cap k None = refl

  attaches : (k : ℕ) (bytes : Option (List ℕ)) → Tells (attached_first k bytes s)
  attaches k (Some bytes) = unless_tells (attach_refusal most_regions s.regions (pages_in bytes)) (with_region k (pages_in bytes) (user_gap s.regions (pages_in bytes)) s) refl
  attaches k None = refl

  attaches_at : (k address : ℕ) (bytes : Option (List ℕ)) → Tells (attached_at k address bytes s)
  attaches_at k address (Some bytes) = unless_tells (attach_at_refusal most_regions s.regions (pages_in bytes) address) (with_region k (pages_in bytes) address s) refl
  attaches_at k address None = refl

  peeks : (count : ℕ) (place : Option Place) → Tells (peeked count place s)
  peeks count (Some place) = refl
  peeks count None = refl

  pokes_at : (k offset : ℕ) (bytes : List ℕ) (object : Option Object) → Tells (poked_at k offset bytes object s)
  pokes_at k offset bytes (Some object) = refl
  pokes_at k offset bytes None = refl

  pokes_payload : (address offset : ℕ) (bytes : List ℕ) (payload : Option (List ℕ)) → Tells (payload_poked address offset bytes payload s)
  pokes_payload address offset bytes (Some payload) = refl
  pokes_payload address offset bytes None = refl

  pokes_block : (address offset : ℕ) (bytes : List ℕ) (payload : Option (List ℕ)) → Tells (block_poked address offset bytes payload s)
  pokes_block address offset bytes (Some payload) = refl
  pokes_block address offset bytes None = refl

  pokes : (bytes : List ℕ) (place : Option Place) → Tells (poked bytes place s)
  pokes bytes (Some (InDataspace k offset)) = pokes_at k offset bytes (get s.selectors k)
  pokes bytes (Some (InPayload address offset)) = pokes_payload address offset bytes (get s.sliced address)
  pokes bytes (Some (InBlock address offset)) = pokes_block address offset bytes (get s.heap.payloads address)
  pokes bytes None = refl

  grows : (n : ℕ) (growth : Growth) (gap : Option ℕ) → Tells (grown_in n growth gap s)
  grows n growth (Some start) = refl
  grows n growth None = refl

  stands_alone : (n : ℕ) (gap : Option ℕ) → Tells (large_in n gap s)
  stands_alone n (Some start) = refl
  stands_alone n None = refl

  small : (n : ℕ) (hole : Option Spot) → Tells (small_new n hole s)
  small n (Some hole) = refl
  small n None = grows n (growth_of n s.heap.shape s.account) (own_heap_gap (growth_of n s.heap.shape s.account).bytes s)

  larges : (n : ℕ) (large : Bool) → Tells (cond large (large_in n (own_heap_gap (page_of n) s) s) (small_new n (hole_for n s.heap.shape) s))
  larges n true = stands_alone n (own_heap_gap (page_of n) s)
  larges n false = small n (hole_for n s.heap.shape)

  gives : (address : ℕ) (bytes : Option ℕ) → Tells (given_back address bytes s)
  gives address (Some bytes) = refl
  gives address None = refl

  deletes : (address : ℕ) (payload : Option (List ℕ)) → Tells (deleted address payload s)
  deletes address (Some payload) = gives address (get s.heap.large address)
  deletes address None = refl

  slices : (n : ℕ) (gap : Option ℕ) → Tells (sliced_in n gap s)
  slices n (Some start) = refl
  slices n None = refl

  unslices : (address : ℕ) (payload : Option (List ℕ)) → Tells (sliced_freed address payload s)
  unslices address (Some payload) = refl
  unslices address None = refl

  yields : (arguments : Option Arguments) → Tells (yielded_by arguments s)
  yields (Some more) = unless_tells (shortage s.account more.ram more.caps) (reserve_yielded more s) refl
  yields None = refl

  opens : (asked : Result Wish Refusal) → Tells (opened_by asked s)
  opens (Err refusal) = name_tells refusal
  opens (Ok wish) = unless_tells (donation_refusal s.account wish.ram wish.caps) (session_opened wish s) refl

  upgrades : (k : ℕ) (session : Option Session) (arguments : Option Arguments) → Tells (upgraded_by k session arguments s)
  upgrades k (Some session) (Some more) = unless_tells (shortage s.account more.ram more.caps) (session_upgraded k session more s) refl
  upgrades k (Some session) None = refl
  upgrades k None arguments = refl

  closes : (k : ℕ) (session : Option Session) → Tells (session_closed k session s)
  closes k (Some session) = refl
  closes k None = refl

  -- a request of a session is in no want of its caller
  serves : (k : ℕ) (session : Option Session) (request : List ℕ) → is_short (session_called k session request s).reply ≡ false
  serves k (Some session) request = refl
  serves k None request = refl

  turned_serves : (kind : Kind) (k : ℕ) (request : List ℕ) → is_short (unless (turned_away kind s) s (session_called k (session_named (get s.selectors k)) request s)).reply ≡ false
  turned_serves Server k request = refl
  turned_serves Init k request = refl
  turned_serves Script k request = elim s.gone as (λ b. is_short (unless (cond b (Some Gone) None) s (session_called k (session_named (get s.selectors k)) request s)).reply ≡ false) [
    | true ↦ refl
    | false ↦ serves k (session_named (get s.selectors k)) request
  ]

  -- all others are told by their texts
  turned : (kind : Kind) (o : Outcome) → Tells o → Tells (unless (turned_away kind s) s o)
  turned kind o is = unless_tells (turned_away kind s) o is

pub wants_told : RepliesShowShortfalls
wants_told entry (Request text) s = refl
wants_told entry (CallSession k request) s = turned_serves s entry.kind k request
wants_told entry (Alloc n) s = turned s entry.kind (entry_step entry (Alloc n) s) (unless_tells s (alloc_refusal n s.account) (allocated n s) refl)
wants_told entry (Free k) s = turned s entry.kind (entry_step entry (Free k) s) (frees s k (get s.selectors k))
wants_told entry (Attach k) s = turned s entry.kind (entry_step entry (Attach k) s) (attaches s k (named_bytes (get s.selectors k)))
wants_told entry (AttachAt k address) s = turned s entry.kind (entry_step entry (AttachAt k address) s) (attaches_at s k address (named_bytes (get s.selectors k)))
wants_told entry (Detach address) s = turned s entry.kind (entry_step entry (Detach address) s) (unless_tells s (detach_refusal s.regions address) (region_detached address s) refl)
wants_told entry (Peek address count) s = turned s entry.kind (entry_step entry (Peek address count) s) (unless_tells s (count_refusal count) (peeked count (found s address count) s) (peeks s count (found s address count)))
wants_told entry (Poke address bytes) s = turned s entry.kind (entry_step entry (Poke address bytes) s) (unless_tells s (count_refusal (length bytes)) (poked bytes (found s address (length bytes)) s) (pokes s bytes (found s address (length bytes))))
wants_told entry Capalloc s = turned s entry.kind (entry_step entry Capalloc s) (unless_tells s (shortage s.account 0 1) (cap_allocated s) refl)
wants_told entry (Capfree k) s = turned s entry.kind (entry_step entry (Capfree k) s) (frees_cap s k (get s.selectors k))
wants_told entry (New n) s = turned s entry.kind (entry_step entry (New n) s) (unless_tells s (heap_refusal n s.heap.shape s.account) (newed n s) (larges s n (is_large n)))
wants_told entry (Del address) s = turned s entry.kind (entry_step entry (Del address) s) (deletes s address (get s.heap.payloads address))
wants_told entry (Snew n) s = turned s entry.kind (entry_step entry (Snew n) s) (unless_tells s (sliced_refusal n s.account) (sliced_in n (own_heap_gap (sliced_size n) s) s) (slices s n (own_heap_gap (sliced_size n) s)))
wants_told entry (Sdel address) s = turned s entry.kind (entry_step entry (Sdel address) s) (unslices s address (get s.sliced address))
wants_told entry Quota s = turned s entry.kind (entry_step entry Quota s) refl
wants_told entry Reserve s = turned s entry.kind (entry_step entry Reserve s) refl
wants_told entry (Yield text) s = turned s entry.kind (entry_step entry (Yield text) s) (yields s (arguments_of text))
wants_told entry (Open service text) s = turned s entry.kind (entry_step entry (Open service text) s) (opens s (wish entry.label entry.routes service text))
wants_told entry (Upgrade k text) s = turned s entry.kind (entry_step entry (Upgrade k text) s) (upgrades s k (session_named (get s.selectors k)) (arguments_of text))
wants_told entry (Close k) s = turned s entry.kind (entry_step entry (Close k) s) (closes s k (session_named (get s.selectors k)))
wants_told entry Exit s = turned s entry.kind (entry_step entry Exit s) refl
