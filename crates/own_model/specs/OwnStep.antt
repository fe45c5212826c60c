-- What a call does to its caller's own state, and what it is answered; and runs of calls.
use Rattle.std.specs.Prelude.{ℕ, ◌+◌, ◌-◌, ◌/◌, ◌&&◌, Bool, true, List, [], ◌∷◌, ◌++◌, length, decimal, nat_lt, nat_le, if◌then◌else◌, Option, Some, None, is_none, Result, Ok, Err}
use Rattle.std.specs.FinMap as map
use Rattle.std.specs.FinMap.{get, insert, remove}
use Rattle.trade_base.specs.declared.refusal.Refusal.{Refusal}
use Rattle.trade_base.specs.declared.refusal.Refusal.TheVariants.{NotAScript, Gone, BadArgs, InvalidSize, InvalidCap, InvalidSession, OutOfRam, PageFault}
use Rattle.trade_base.specs.Page.{page_of}
use Rattle.own_model.specs.Account.{opened, shortage, charged, credited, parted_with, alloc_refusal}
use Rattle.own_model.specs.Call.{Call, is_exit}
use Rattle.own_model.specs.Call.Call.{Alloc, Free, Attach, AttachAt, Detach, Peek, Poke, Capalloc, Capfree, New, Del, Snew, Sdel, Quota, Reserve, Request, Yield, Open, Upgrade, CallSession, Close, Exit}
use Rattle.own_model.specs.NatMap.{NatMap}
use Rattle.own_model.specs.OwnState.{OwnState, Object, NamedBuffer, zeros, new_selector, pages_in, with_part, object_with, named_bytes, session_named, buffer_of, bytes_of_buffer, heap_ranges}
use Rattle.own_model.specs.OwnState.Object.{Dataspace, RpcObject, OpenSession, Buffer}
use Rattle.own_model.specs.BestFit.{Spot}
use Rattle.own_model.specs.Growth.{Growth, is_large, hole_for, new_hole, growth_of, heap_refusal}
use Rattle.own_model.specs.HeapStep.{with_block, without_block, with_chunk, with_large, without_large, with_poked}
use Rattle.own_model.specs.OwnHeap.{payload_start, no_heap}
use Rattle.own_model.specs.HeapWindow.{heap_gap, largest_machine}
use Rattle.own_model.specs.Place.{Place, found, bytes_from}
use Rattle.own_model.specs.Place.Place.{InDataspace, InPayload, InBlock}
use Rattle.own_model.specs.Sliced.{sliced_header, sliced_size, sliced_refusal, block_size}
use Rattle.own_model.specs.Region.{Region, most_regions, without, user_gap, attach_refusal, attach_at_refusal, detach_refusal}
use Rattle.own_model.specs.Reply.{Reply, LogLine}
use Rattle.own_model.specs.Reply.Reply.{Selected, Attached, Bytes, Done, Quotas, Reserved, Told, Refused}
use Rattle.own_model.specs.Donation.{raised}
use Rattle.own_model.specs.Reserve.{no_reserve, reserve_account, filled, drawn}
use Rattle.own_model.specs.Session.{Session, Wish, Served, wish, donation_refusal, new_session, upgraded, served}
use Rattle.own_model.specs.SessionArgs.{Arguments, arguments_of}
use Rattle.own_model.specs.StartList.{Entry, Kind}
use Rattle.own_model.specs.StartList.Kind.{Script, Server, Init}

-- the reply to a call, the log lines that it finished, and the caller's own state after it
pub record Outcome : Type 0 where
  pub reply : Reply
  pub lines : List LogLine
  pub next : OwnState

-- a refused call leaves the state
abbrev pub refused : OwnState → Refusal → Outcome
refused s refusal = record { reply = Refused refusal; lines = []; next = s }

-- the refusal, or else what an accepted call does
abbrev pub unless : Option Refusal → OwnState → Outcome → Outcome
unless (Some refusal) s accepted = refused s refusal
unless None s accepted = accepted

-- why a component is refused before its call is looked at: it is no script, or has exited
abbrev pub turned_away : Kind → OwnState → Option Refusal
turned_away Server s = Some NotAScript
turned_away Init s = Some NotAScript
turned_away Script s = if s.gone then Some Gone else None

-- n bytes in whole pages, all zero, under the new selector
abbrev pub allocated : ℕ → OwnState → Outcome
allocated n s = record {
  reply = Selected (new_selector s.selectors);
  lines = [];
  next = record s {
    account = charged s.account (page_of n) 1;
    selectors = insert s.selectors (new_selector s.selectors) (Dataspace (zeros (page_of n)));
  };
}

-- the dataspace that the selector names is removed, with its regions and a credit
abbrev pub freed : ℕ → Option Object → OwnState → Outcome
freed selector (Some (Dataspace bytes)) s = record {
  reply = Done;
  lines = [];
  next = record s {
    account = credited s.account (length bytes) 1;
    selectors = remove s.selectors selector;
    regions = without selector s.regions;
  };
}
freed selector (Some RpcObject) s = refused s InvalidCap
freed selector (Some (OpenSession session)) s = refused s InvalidCap
freed selector (Some (Buffer session bytes)) s = refused s InvalidCap
freed selector None s = refused s InvalidCap

-- so many pages of what the selector names are attached from an address on
abbrev pub with_region : ℕ → ℕ → ℕ → OwnState → Outcome
with_region selector pages address s = record {
  reply = Attached address;
  lines = [];
  next = record s { regions = insert s.regions address (record { of = selector; pages = pages }) };
}

-- bytes that the selector names are attached at the first gap
abbrev pub attached_first : ℕ → Option (List ℕ) → OwnState → Outcome
attached_first selector (Some bytes) s =
    unless (attach_refusal most_regions s.regions (pages_in bytes)) s
    (with_region selector (pages_in bytes) (user_gap s.regions (pages_in bytes)) s)
attached_first selector None s = refused s InvalidCap

-- bytes that the selector names are attached at an address
abbrev pub attached_at : ℕ → ℕ → Option (List ℕ) → OwnState → Outcome
attached_at selector address (Some bytes) s =
    unless (attach_at_refusal most_regions s.regions (pages_in bytes) address) s
    (with_region selector (pages_in bytes) address s)
attached_at selector address None s = refused s InvalidCap

-- the region that starts at an address is removed
abbrev pub region_detached : ℕ → OwnState → Outcome
region_detached address s = record { reply = Done; lines = []; next = record s { regions = remove s.regions address } }

-- the most bytes of a peek or a poke
abbrev pub most_bytes : ℕ
most_bytes = 1024

-- why a peek or a poke of so many bytes is refused, wherever they stand
abbrev pub count_refusal : ℕ → Option Refusal
count_refusal count = if nat_lt 0 count && nat_le count most_bytes then None else Some InvalidSize

-- so many bytes are returned from the place that a range of addresses finds
abbrev pub peeked : ℕ → Option Place → OwnState → Outcome
peeked count (Some place) s = record { reply = Bytes (bytes_from s place count); lines = []; next = s }
peeked count None s = refused s PageFault

-- what a selector names has other bytes from an offset on
abbrev pub poked_at : ℕ → ℕ → List ℕ → Option Object → OwnState → Outcome
poked_at selector offset bytes (Some object) s = record {
  reply = Done;
  lines = [];
  next = record s { selectors = insert s.selectors selector (object_with object offset bytes) };
}
poked_at selector offset bytes None s = refused s PageFault

-- the payload at an address has other bytes from an offset on
abbrev pub payload_poked : ℕ → ℕ → List ℕ → Option (List ℕ) → OwnState → Outcome
payload_poked address offset bytes (Some payload) s = record {
  reply = Done;
  lines = [];
  next = record s { sliced = insert s.sliced address (with_part payload offset bytes) };
}
payload_poked address offset bytes None s = refused s PageFault

-- the same of a payload of the heap
abbrev pub block_poked : ℕ → ℕ → List ℕ → Option (List ℕ) → OwnState → Outcome
block_poked address offset bytes (Some payload) s = record {
  reply = Done;
  lines = [];
  next = record s { heap = with_poked address payload offset bytes s.heap };
}
block_poked address offset bytes None s = refused s PageFault

-- bytes are put at the place that a range of addresses finds
abbrev pub poked : List ℕ → Option Place → OwnState → Outcome
poked bytes (Some (InDataspace selector offset)) s = poked_at selector offset bytes (get s.selectors selector) s
poked bytes (Some (InPayload address offset)) s = payload_poked address offset bytes (get s.sliced address) s
poked bytes (Some (InBlock address offset)) s = block_poked address offset bytes (get s.heap.payloads address) s
poked bytes None s = refused s PageFault

-- an RPC object under the new selector
abbrev pub cap_allocated : OwnState → Outcome
cap_allocated s = record {
  reply = Selected (new_selector s.selectors);
  lines = [];
  next = record s {
    account = charged s.account 0 1;
    selectors = insert s.selectors (new_selector s.selectors) RpcObject;
  };
}

-- the RPC object that the selector names is removed, with a credit
abbrev pub cap_freed : ℕ → Option Object → OwnState → Outcome
cap_freed selector (Some RpcObject) s = record {
  reply = Done;
  lines = [];
  next = record s { account = credited s.account 0 1; selectors = remove s.selectors selector };
}
cap_freed selector (Some (Dataspace bytes)) s = refused s InvalidCap
cap_freed selector (Some (OpenSession session)) s = refused s InvalidCap
cap_freed selector (Some (Buffer session bytes)) s = refused s InvalidCap
cap_freed selector None s = refused s InvalidCap

-- a block of the heap for n bytes, all zero, in a hole
abbrev pub block_taken : ℕ → Spot → OwnState → Outcome
block_taken n hole s = record {
  reply = Attached (payload_start s.heap hole);
  lines = [];
  next = record s { heap = with_block n hole s.heap };
}

-- a chunk more, charged, which starts at an address
abbrev pub chunk_added : Growth → ℕ → OwnState → OwnState
chunk_added growth start s = record s { account = charged s.account growth.bytes 1; heap = with_chunk growth start s.heap }

-- and a block taken from it
abbrev pub grown_at : ℕ → Growth → ℕ → OwnState → Outcome
grown_at n growth start s = block_taken n (new_hole growth s.heap.shape) (chunk_added growth start s)

-- the same at a gap of the heap window, as for sliced blocks
abbrev pub grown_in : ℕ → Growth → Option ℕ → OwnState → Outcome
grown_in n growth (Some start) s = grown_at n growth start s
grown_in n growth None s = refused s OutOfRam

-- a large block of n bytes in whole pages, all zero, at an address
abbrev pub large_at : ℕ → ℕ → OwnState → Outcome
large_at n start s = record {
  reply = Attached start;
  lines = [];
  next = record s { account = charged s.account (page_of n) 1; heap = with_large n start s.heap };
}

abbrev pub large_in : ℕ → Option ℕ → OwnState → Outcome
large_in n (Some start) s = large_at n start s
large_in n None s = refused s OutOfRam

-- the block whose payload starts at an address is freed: a large block of so many bytes, with a credit, or a block of a chunk
abbrev pub given_back : ℕ → Option ℕ → OwnState → Outcome
given_back address (Some bytes) s = record {
  reply = Done;
  lines = [];
  next = record s { account = credited s.account bytes 1; heap = without_large address s.heap };
}
given_back address None s = record { reply = Done; lines = []; next = record s { heap = without_block address s.heap } }

abbrev pub deleted : ℕ → Option (List ℕ) → OwnState → Outcome
deleted address (Some payload) s = given_back address (get s.heap.large address) s
deleted address None s = refused s PageFault

-- a sliced block of n bytes, all zero, whose pages start at an address
abbrev pub sliced_at : ℕ → ℕ → OwnState → Outcome
sliced_at n start s = record {
  reply = Attached (start + sliced_header);
  lines = [];
  next = record s {
    account = charged s.account (sliced_size n) 1;
    sliced = insert s.sliced (start + sliced_header) (zeros (sliced_size n - sliced_header));
  };
}

-- the same at a gap of the heap window. It has none only if more RAM is in use than the largest machine has
abbrev pub sliced_in : ℕ → Option ℕ → OwnState → Outcome
sliced_in n (Some start) s = sliced_at n start s
sliced_in n None s = refused s OutOfRam

-- the sliced block whose payload starts at an address is removed, with a credit
abbrev pub sliced_freed : ℕ → Option (List ℕ) → OwnState → Outcome
sliced_freed address (Some payload) s = record {
  reply = Done;
  lines = [];
  next = record s { account = credited s.account (block_size payload) 1; sliced = remove s.sliced address };
}
sliced_freed address None s = refused s PageFault

-- the first gap of the heap window for so many bytes in whole pages
abbrev pub own_heap_gap : ℕ → OwnState → Option ℕ
own_heap_gap bytes s = heap_gap largest_machine (heap_ranges s) (bytes / 4096)

-- a block for fewer bytes than a large block's, with the best hole for it, if there is one: the heap grows if there is none
abbrev pub small_new : ℕ → Option Spot → OwnState → Outcome
small_new n (Some hole) s = block_taken n hole s
small_new n None s =
    let growth = growth_of n s.heap.shape s.account in
    grown_in n growth (own_heap_gap growth.bytes s) s

-- a block for n bytes
abbrev pub newed : ℕ → OwnState → Outcome
newed n s = if is_large n then large_in n (own_heap_gap (page_of n) s) s else small_new n (hole_for n s.heap.shape) s

-- the use and the limits of the caller's account
abbrev pub reported_quota : OwnState → Outcome
reported_quota s = record { reply = Quotas s.account; lines = []; next = s }

-- ---- the reserve

-- what the caller's reserve has
abbrev pub reported_reserve : OwnState → Outcome
reported_reserve s = record { reply = Reserved s.reserve; lines = []; next = s }

-- so much goes from the reserve to the account's limits
abbrev pub reserve_requested : Arguments → OwnState → Outcome
reserve_requested more s = record {
  reply = Done;
  lines = [];
  next = record s { account = raised s.account more.ram more.caps; reserve = drawn s.reserve more.ram more.caps };
}

-- where the reserve covers it
abbrev pub requested_by : Option Arguments → OwnState → Outcome
requested_by (Some more) s = unless (shortage (reserve_account s.reserve) more.ram more.caps) s (reserve_requested more s)
requested_by None s = refused s BadArgs

-- so much goes from the account's limits to the reserve
abbrev pub reserve_yielded : Arguments → OwnState → Outcome
reserve_yielded more s = record {
  reply = Done;
  lines = [];
  next = record s { account = parted_with s.account more.ram more.caps; reserve = filled s.reserve more.ram more.caps };
}

-- where what the account doesn't use covers it
abbrev pub yielded_by : Option Arguments → OwnState → Outcome
yielded_by (Some more) s = unless (shortage s.account more.ram more.caps) s (reserve_yielded more s)
yielded_by None s = refused s BadArgs

-- ---- sessions

-- a session that is requested, under the new selector: what is donated for it leaves the client's limits
abbrev pub session_opened : Wish → OwnState → Outcome
session_opened wish s = record {
  reply = Selected (new_selector s.selectors);
  lines = [];
  next = record s {
    account = parted_with s.account wish.ram wish.caps;
    selectors = insert s.selectors (new_selector s.selectors) (OpenSession (new_session wish));
  };
}

abbrev pub opened_by : Result Wish Refusal → OwnState → Outcome
opened_by (Err refusal) s = refused s refusal
opened_by (Ok wish) s = unless (donation_refusal s.account wish.ram wish.caps) s (session_opened wish s)

-- more is donated for a session
abbrev pub session_upgraded : ℕ → Session → Arguments → OwnState → Outcome
session_upgraded selector session more s = record {
  reply = Done;
  lines = [];
  next = record s {
    account = parted_with s.account more.ram more.caps;
    selectors = insert s.selectors selector (OpenSession (upgraded session more.ram more.caps));
  };
}

abbrev pub upgraded_by : ℕ → Option Session → Option Arguments → OwnState → Outcome
upgraded_by selector (Some session) (Some more) s = unless (shortage s.account more.ram more.caps) s (session_upgraded selector session more s)
upgraded_by selector (Some session) None s = refused s BadArgs
upgraded_by selector None arguments s = refused s InvalidSession

-- what selectors name after the session under one of them, which had a buffer or none, has one of these bytes or none: one that
-- is made comes under the new selector, one that stays has the bytes, and one that is released is removed
abbrev pub selectors_lent : ℕ → Option NamedBuffer → Option (List ℕ) → NatMap Object → NatMap Object
selectors_lent q None None selectors = selectors
selectors_lent q None (Some bytes) selectors = insert selectors (new_selector selectors) (Buffer q bytes)
selectors_lent q (Some buffer) (Some bytes) selectors = insert selectors buffer.selector (Buffer q bytes)
selectors_lent q (Some buffer) None selectors = remove selectors buffer.selector

-- the regions after that: those of a buffer that is released are removed
abbrev pub regions_lent : Option NamedBuffer → Option (List ℕ) → NatMap Region → NatMap Region
regions_lent (Some buffer) None regions = without buffer.selector regions
regions_lent (Some buffer) (Some bytes) regions = regions
regions_lent None bytes regions = regions

abbrev pub with_buffer : ℕ → Option NamedBuffer → Option (List ℕ) → OwnState → OwnState
with_buffer q old new s =
    record s { selectors = selectors_lent q old new s.selectors; regions = regions_lent old new s.regions }

-- the reply to a request: where a buffer is made its selector is printed at the end
abbrev pub completed : Option NamedBuffer → Option (List ℕ) → ℕ → List ℕ → List ℕ
completed None (Some bytes) selector reply = reply ++ decimal selector
completed None None selector reply = reply
completed (Some buffer) bytes selector reply = reply

-- a request of a session, which had this buffer, is served
abbrev pub session_served : ℕ → Option NamedBuffer → Served → OwnState → Outcome
session_served selector buffer o s =
    let t = with_buffer selector buffer o.buffer s in
    record {
      reply = Told (completed buffer o.buffer (new_selector s.selectors) o.reply);
      lines = o.lines;
      next = record t { selectors = insert t.selectors selector (OpenSession o.session) };
    }

abbrev pub session_called : ℕ → Option Session → List ℕ → OwnState → Outcome
session_called selector (Some session) request s =
    let buffer = buffer_of selector s.selectors in
    session_served selector buffer (served (bytes_of_buffer buffer) session request) s
session_called selector None request s = refused s InvalidSession

-- a session goes, with its buffer and the regions of that, and all that was donated for it comes back to the client's limits
abbrev pub session_closed : ℕ → Option Session → OwnState → Outcome
session_closed selector (Some session) s =
    let t = with_buffer selector (buffer_of selector s.selectors) None s in
    record {
      reply = Done;
      lines = [];
      next = record t {
        account = raised s.account session.account.ram_limit session.account.caps_limit;
        selectors = remove t.selectors selector;
      };
    }
session_closed selector None s = refused s InvalidSession

-- nothing is left of a component that has exited: every session is closed, everything is dropped, and limits, use and
-- reserve are 0
abbrev pub exited_state : OwnState
exited_state = record { account = opened 0 0; reserve = no_reserve; selectors = map.empty; regions = map.empty; heap = no_heap; sliced = map.empty; gone = true }

-- a component exits
abbrev pub exited : Outcome
exited = record { reply = Done; lines = []; next = exited_state }

-- what a call of a script does, whose label and routes its entry states
abbrev pub entry_step : Entry → Call → OwnState → Outcome
entry_step entry (Alloc n) s = unless (alloc_refusal n s.account) s (allocated n s)
entry_step entry (Free selector) s = freed selector (get s.selectors selector) s
entry_step entry (Attach selector) s = attached_first selector (named_bytes (get s.selectors selector)) s
entry_step entry (AttachAt selector address) s = attached_at selector address (named_bytes (get s.selectors selector)) s
entry_step entry (Detach address) s = unless (detach_refusal s.regions address) s (region_detached address s)
entry_step entry (Peek address count) s = unless (count_refusal count) s (peeked count (found s address count) s)
entry_step entry (Poke address bytes) s =
    unless (count_refusal (length bytes)) s (poked bytes (found s address (length bytes)) s)
entry_step entry Capalloc s = unless (shortage s.account 0 1) s (cap_allocated s)
entry_step entry (Capfree selector) s = cap_freed selector (get s.selectors selector) s
entry_step entry (New n) s = unless (heap_refusal n s.heap.shape s.account) s (newed n s)
entry_step entry (Del address) s = deleted address (get s.heap.payloads address) s
entry_step entry (Snew n) s = unless (sliced_refusal n s.account) s (sliced_in n (own_heap_gap (sliced_size n) s) s)
entry_step entry (Sdel address) s = sliced_freed address (get s.sliced address) s
entry_step entry Quota s = reported_quota s
entry_step entry Reserve s = reported_reserve s
entry_step entry (Request text) s = requested_by (arguments_of text) s
entry_step entry (Yield text) s = yielded_by (arguments_of text) s
entry_step entry (Open service text) s = opened_by (wish entry.label entry.routes service text) s
entry_step entry (Upgrade selector text) s = upgraded_by selector (session_named (get s.selectors selector)) (arguments_of text) s
entry_step entry (CallSession selector request) s = session_called selector (session_named (get s.selectors selector)) request s
entry_step entry (Close selector) s = session_closed selector (session_named (get s.selectors selector)) s
entry_step entry Exit s = exited

-- a script without a label and without routes: no session is opened for it
abbrev pub unrouted : Entry
unrouted = record { name = []; label = []; kind = Script; home = 0; routes = [] }

-- what a call of a script without routes does
abbrev pub script_step : Call → OwnState → Outcome
script_step call s = entry_step unrouted call s

-- what a call of a component does
abbrev pub own_step : Entry → Call → OwnState → Outcome
own_step entry call s = unless (turned_away entry.kind s) s (entry_step entry call s)

-- a call is an exit that is done
abbrev pub exits : Entry → Call → OwnState → Bool
exits entry call s = is_exit call && is_none (turned_away entry.kind s)

-- the own state after these calls
abbrev pub own_run : Entry → List Call → OwnState → OwnState
own_run entry [] s = s
own_run entry (call ∷ calls) s = own_run entry calls (own_step entry call s).next
