-- The use of an account is what its selectors name, before and after a call.
use Rattle.std.proofs.lemmas.Bool.Decides.{nat_tests}
use Rattle.std.proofs.Common.{rules, ◌≡◌, ℕ, ◌-◌, List, Some, refl, arith, set, Bool, true, false}
use Rattle.std.specs.Prelude.{Option, None}
use Rattle.std.specs.FinMap.{get, remove, len-empty, empty, insert}
use Rattle.trade_base.specs.Page.{page_of}
use Rattle.own_model.proofs.NewSelector.{new_selector_free}
use Rattle.own_model.proofs.LentLemmas.{lent_still, total_lent}
use Rattle.own_model.proofs.HeapBlockLemmas.{bytes-taken, bytes-given}
use Rattle.own_model.proofs.HeapOwnLemmas.{chunk_bytes-set}
use Rattle.own_model.specs.BestFit.{Spot, chunk_of, given_in}
use Rattle.own_model.specs.Growth.{Growth, growth_of, new_hole}
use Rattle.own_model.specs.Heap.{Block, header, bytes_in}
use Rattle.own_model.specs.NatMap.{NatMap}
use Rattle.own_model.specs.OwnHeap.{chunk_with, offset_of, no_heap}
use Rattle.std.proofs.lemmas.List.{length-set, length-append}
use Rattle.std.proofs.lemmas.List.Sums.{sum_by-append}
use Rattle.own_model.proofs.StepLemmas.{KeptBySessions, KeptByEffects, KeptByReserve, valid_some}
use Rattle.own_model.proofs.StepTableLemmas.{run_keeps}
pub use Rattle.own_model.proofs.ByteLemmas.{length-zeros, length-with_part}
use Rattle.own_model.proofs.Totals.{total-empty, total-insert_new, total-insert_same, total-remove, len-insert_new, len-insert_at, len-remove_at}
use Rattle.own_model.specs.Call.{Call}
use Rattle.own_model.specs.OwnState.{OwnState, Object, zeros, new_selector, object_with, buffer_of, bytes_of_buffer}
use Rattle.own_model.specs.OwnState.Object.{Dataspace, RpcObject, OpenSession, Buffer}
use Rattle.own_model.specs.OwnStep.{exited_state, own_run, allocated, freed, poked_at, payload_poked, block_taken, chunk_added, large_at, given_back, sliced_at, sliced_freed, own_heap_gap, cap_allocated, cap_freed, with_buffer}
use Rattle.own_model.specs.Account.{Account, opened, parted_with, alloc_refusal}
use Rattle.own_model.specs.Amounts.{Amounts}
use Rattle.own_model.specs.Reserve.{no_reserve}
use Rattle.own_model.specs.Session.{Session, new_session, upgraded, served}
use Rattle.own_model.specs.Sliced.{sliced_header, sliced_size, block_size}
use Rattle.own_model.proofs.HeapRangeLemmas.{gap_free, gap_free_large, new_page}
use Rattle.own_model.specs.StartList.{Entry, StartEntry, account_at_start, of_component, start_state}
use Rattle.own_model.specs.Use.{UsesWhatItHolds, object_size, object_caps}

-- where nothing is held, nothing is used
none_uses : (ram caps : ℕ) (reserve : Amounts) (gone : Bool) → UsesWhatItHolds (record { account = opened ram caps; reserve = reserve; selectors = empty; regions = empty; heap = no_heap; sliced = empty; gone = gone })
none_uses ram caps reserve gone = search (rules, total-empty, len-empty)

-- as at the start, and after an exit
pub start_uses : (start : StartEntry) → UsesWhatItHolds (start_state start)
start_uses start = none_uses (account_at_start start).ram (account_at_start start).caps (of_component start.entry.kind start.reserve) false

pub gone_uses : UsesWhatItHolds exited_state
gone_uses = none_uses 0 0 no_reserve true

-- a new dataspace uses its bytes and a capability
allocated_uses : (n : ℕ) (s : OwnState) → UsesWhatItHolds s → UsesWhatItHolds (allocated n s).next
allocated_uses n s h = grind (arith, nat_tests, new_selector_free, total-insert_new, length-zeros)

-- one that is freed gives them back
freed_uses : (selector : ℕ) (bytes : List ℕ) (s : OwnState) →
    get s.selectors selector ≡ Some (Dataspace bytes) → UsesWhatItHolds s → UsesWhatItHolds (freed selector (Some (Dataspace bytes)) s).next
freed_uses selector bytes s there h = grind (arith, nat_tests, total-remove)

-- the same of what a selector names
object_size-with : (object : Object) (offset : ℕ) (part : List ℕ) → object_size (object_with object offset part) ≡ object_size object
object_size-with (Dataspace bytes) offset part = length-with_part bytes offset part
object_size-with RpcObject offset part = refl
object_size-with (OpenSession session) offset part = refl
object_size-with (Buffer session bytes) offset part = refl

object_caps-with : (object : Object) (offset : ℕ) (part : List ℕ) → object_caps (object_with object offset part) ≡ object_caps object
object_caps-with (Dataspace bytes) offset part = refl
object_caps-with RpcObject offset part = refl
object_caps-with (OpenSession session) offset part = refl
object_caps-with (Buffer session bytes) offset part = refl

-- bytes that are poked change nothing of what is held
poked_uses : (selector offset : ℕ) (bytes : List ℕ) (object : Object) (s : OwnState) →
    get s.selectors selector ≡ Some object → UsesWhatItHolds s → UsesWhatItHolds (poked_at selector offset bytes (Some object) s).next
poked_uses selector offset bytes object s there h = grind (arith, nat_tests, total-insert_same, object_size-with, object_caps-with)

-- bytes put over a payload's leave what it uses
payload_poked_uses : (address offset : ℕ) (bytes payload : List ℕ) (s : OwnState) →
    get s.sliced address ≡ Some payload → UsesWhatItHolds s → UsesWhatItHolds (payload_poked address offset bytes (Some payload) s).next
payload_poked_uses address offset bytes payload s there h = grind (arith, nat_tests, total-insert_same, length-with_part, len-insert_at)

-- a new block has as many bytes as it was asked for, in whole pages with its header
pub block_size-new : (n : ℕ) → block_size (zeros (sliced_size n - sliced_header)) ≡ sliced_size n
block_size-new n = omega (arith, length-zeros (sliced_size n - sliced_header))

-- a new sliced block uses its bytes and a capability
sliced_uses : (n start : ℕ) (s : OwnState) → own_heap_gap (sliced_size n) s ≡ Some start → UsesWhatItHolds s → UsesWhatItHolds (sliced_at n start s).next
sliced_uses n start s gap h = grind (arith, nat_tests, gap_free, new_page, total-insert_new, len-insert_new, block_size-new)

-- one that is freed gives them back
sliced_freed_uses : (address : ℕ) (payload : List ℕ) (s : OwnState) →
    get s.sliced address ≡ Some payload → UsesWhatItHolds s → UsesWhatItHolds (sliced_freed address (Some payload) s).next
sliced_freed_uses address payload s there h = grind (arith, nat_tests, total-remove, len-remove_at)

-- ---- the heap

-- blocks that change leave what a heap uses, where its chunks have as many bytes
pub chunks_use : (s : OwnState) (i : ℕ) (blocks : List Block) (payloads : NatMap (List ℕ)) → bytes_in blocks ≡ bytes_in (chunk_of s.heap.shape.chunks i) → UsesWhatItHolds s →
    UsesWhatItHolds (record s { heap = record s.heap { shape = record s.heap.shape { chunks = set s.heap.shape.chunks i blocks }; payloads = payloads } })
chunks_use s i blocks payloads as_many h = search (rules, chunk_bytes-set, length-set)

-- a block taken uses nothing more
taken_uses : (n : ℕ) (hole : Spot) (s : OwnState) → UsesWhatItHolds s → UsesWhatItHolds (block_taken n hole s).next
taken_uses n hole s h = search (rules, chunks_use, bytes-taken)

-- a chunk more uses its bytes and a capability
chunk_uses : (growth : Growth) (start : ℕ) (s : OwnState) → UsesWhatItHolds s → UsesWhatItHolds (chunk_added growth start s)
chunk_uses growth start s h = grind (arith, nat_tests, sum_by-append, length-append)

-- a large block uses its bytes and a capability
large_uses : (n start : ℕ) (s : OwnState) → alloc_refusal n s.account ≡ None → own_heap_gap (page_of n) s ≡ Some start → UsesWhatItHolds s → UsesWhatItHolds (large_at n start s).next
large_uses n start s accepted gap h = grind (arith, nat_tests, valid_some, gap_free_large, total-insert_new, len-insert_new)

-- and gives them back
large_freed_uses : (address bytes : ℕ) (s : OwnState) → get s.heap.large address ≡ Some bytes → UsesWhatItHolds s → UsesWhatItHolds (given_back address (Some bytes) s).next
large_freed_uses address bytes s there h = grind (arith, nat_tests, total-remove, len-remove_at)

-- an RPC object uses a capability
cap_allocated_uses : (s : OwnState) → UsesWhatItHolds s → UsesWhatItHolds (cap_allocated s).next
cap_allocated_uses s h = grind (arith, nat_tests, new_selector_free, total-insert_new)

-- and gives it back
cap_freed_uses : (selector : ℕ) (s : OwnState) →
    get s.selectors selector ≡ Some RpcObject → UsesWhatItHolds s → UsesWhatItHolds (cap_freed selector (Some RpcObject) s).next
cap_freed_uses selector s there h = grind (arith, nat_tests, total-remove)

-- nothing that a call can do parts what is used from what is held
effects_use : (s : OwnState) → UsesWhatItHolds s → KeptByEffects UsesWhatItHolds s
effects_use s h = record {
  allocates = λ n accepted. allocated_uses n s h;
  frees = λ selector bytes there. freed_uses selector bytes s there h;
  attaches = λ selector address bytes there stands room. record { ram = h.ram; caps = h.caps };
  detaches = λ address. record { ram = h.ram; caps = h.caps };
  pokes = λ selector offset bytes object there. poked_uses selector offset bytes object s there h;
  pokes_payload = λ address offset bytes payload there. payload_poked_uses address offset bytes payload s there h;
  pokes_block = λ address offset bytes payload there. record { ram = h.ram; caps = h.caps };
  takes = λ n hole best. taken_uses n hole s h;
  grows = λ n start accepted gap.
      let growth = growth_of n s.heap.shape s.account in
      taken_uses n (new_hole growth s.heap.shape) (chunk_added growth start s) (chunk_uses growth start s h);
  takes_large = λ n start large accepted gap. large_uses n start s accepted gap h;
  gives = λ address payload there small.
      let i = chunk_with s.heap (address - header) in
      let offset = offset_of s.heap (address - header) in
      chunks_use s i (given_in offset (chunk_of s.heap.shape.chunks i)) (remove s.heap.payloads address) (bytes-given offset (chunk_of s.heap.shape.chunks i)) h;
  gives_large = λ address bytes there. large_freed_uses address bytes s there h;
  slices = λ n start accepted gap. sliced_uses n start s gap h;
  unslices = λ address payload there. sliced_freed_uses address payload s there h;
  allocates_cap = λ accepted. cap_allocated_uses s h;
  frees_cap = λ selector there. cap_freed_uses selector s there h;
}

-- a session in place of one, where the account uses as much
replaced_uses : (s : OwnState) (selector : ℕ) (old new : Session) (account : Account) → account.ram_used ≡ s.account.ram_used → account.caps_used ≡ s.account.caps_used →
    get s.selectors selector ≡ Some (OpenSession old) → UsesWhatItHolds s → UsesWhatItHolds (record s { account = account; selectors = insert s.selectors selector (OpenSession new) })
replaced_uses s selector old new account ram caps there h = search (rules, total-insert_same)

-- nor does a buffer, whatever becomes of it
lent_uses : (s : OwnState) (q : ℕ) (new : Option (List ℕ)) → UsesWhatItHolds s → UsesWhatItHolds (with_buffer q (buffer_of q s.selectors) new s)
lent_uses s q new h = record {
  ram = omega (arith, h.ram, total_lent q s.selectors object_size (λ of bytes. refl) (buffer_of q s.selectors) new refl);
  caps = omega (arith, h.caps, total_lent q s.selectors object_caps (λ of bytes. refl) (buffer_of q s.selectors) new refl);
}

-- a session more, another in place of one, and one less use nothing of the client's account
pub sessions_use : (s : OwnState) → UsesWhatItHolds s → KeptBySessions UsesWhatItHolds s
sessions_use s h = record {
  opens = λ wish accepted.
      let key = new_selector s.selectors in
      let session = OpenSession (new_session wish) in
      let free = new_selector_free s.selectors in
      record { ram = omega (arith, h.ram, total-insert_new object_size s.selectors key session free); caps = omega (arith, h.caps, total-insert_new object_caps s.selectors key session free) };
  upgrades = λ selector session more there accepted. replaced_uses s selector session (upgraded session more.ram more.caps) (parted_with s.account more.ram more.caps) refl refl there h;
  serves = λ selector session request there.
      let buffer = buffer_of selector s.selectors in
      let o = served (bytes_of_buffer buffer) session request in
      replaced_uses (with_buffer selector buffer o.buffer s) selector session o.session s.account refl refl
      (lent_still selector s.selectors buffer o.buffer refl selector (OpenSession session) there refl) (lent_uses s selector o.buffer h);
  closes = λ selector session there.
      let t = with_buffer selector (buffer_of selector s.selectors) None s in
      let still = lent_still selector s.selectors (buffer_of selector s.selectors) None refl selector (OpenSession session) there refl in
      let after = lent_uses s selector None h in
      record {
        ram = omega (arith, after.ram, total-remove object_size t.selectors selector (OpenSession session) still);
        caps = omega (arith, after.caps, total-remove object_caps t.selectors selector (OpenSession session) still);
      };
}

-- nothing is ever used of a reserve
reserve_uses : (s : OwnState) → UsesWhatItHolds s → KeptByReserve UsesWhatItHolds s
reserve_uses s h = search rules

-- calls keep what is used equal to what is held
pub run_uses : (entry : Entry) (calls : List Call) (s : OwnState) → UsesWhatItHolds s → UsesWhatItHolds (own_run entry calls s)
run_uses = run_keeps UsesWhatItHolds effects_use reserve_uses sessions_use gone_uses
