-- A reserve stands aside: no call but those of it looks at it, and only an exit ends it.
use Rattle.std.proofs.Common.{◌≡◌, ℕ, false, List, Option, Some, None, Bool, true, Result, Ok, Err, refl, true≢false, cond, ap, ◌∙◌}
use Rattle.trade_base.specs.declared.refusal.Refusal.{Refusal}
use Rattle.own_model.specs.Amounts.{Amounts}
use Rattle.own_model.specs.BestFit.{Spot}
use Rattle.own_model.specs.Call.{Call, is_exit}
use Rattle.own_model.specs.Call.Call.{Alloc, Free, Attach, AttachAt, Detach, Peek, Poke, Capalloc, Capfree, New, Del, Snew, Sdel, Quota, Reserve, Request, Yield, Open, Upgrade, CallSession, Close, Exit}
use Rattle.own_model.specs.Growth.{Growth, is_large, hole_for, growth_of, heap_refusal}
use Rattle.own_model.specs.OwnState.{OwnState, Object, named_bytes, session_named, pages_in}
use Rattle.own_model.specs.OwnState.Object.{Dataspace, RpcObject, OpenSession, Buffer}
use Rattle.own_model.specs.OwnStep.{Outcome, entry_step, unless, refused, freed, attached_first, attached_at, count_refusal, peeked, poked, poked_at, payload_poked, block_poked, cap_freed, large_in, small_new, grown_in, deleted, given_back, sliced_in, sliced_freed, own_heap_gap, opened_by, upgraded_by, session_called, session_closed}
use Rattle.own_model.specs.Account.{alloc_refusal, shortage}
use Rattle.own_model.specs.Place.{Place, found}
use Rattle.own_model.specs.Place.Place.{InDataspace, InPayload, InBlock}
use Rattle.own_model.specs.Region.{most_regions, attach_refusal, attach_at_refusal, detach_refusal}
use Rattle.own_model.specs.Session.{Session, Wish, wish, donation_refusal}
use Rattle.own_model.specs.SessionArgs.{Arguments, arguments_of}
use Rattle.own_model.specs.Sliced.{sliced_refusal, sliced_size}
use Rattle.own_model.specs.StartList.{Entry}
use Rattle.trade_base.specs.Page.{page_of}
use Rattle.std.specs.FinMap.{get}
use Rattle.std.specs.Prelude.{length}
use Rattle.core_calls.specs.Call.{is_of_reserve}
use Rattle.pd_core.specs.Component.{with_reserve}

-- an outcome whose own state has this reserve
abbrev pub outcome_with : Amounts → Outcome → Outcome
outcome_with reserve o = record o { next = with_reserve reserve o.next }

module _ (r : Amounts) (s : OwnState) where
  abbrev s' : OwnState
  s' = with_reserve r s

  by_refusal : (why : Option Refusal) (a b : Outcome) → b ≡ outcome_with r a → unless why s' b ≡ outcome_with r (unless why s a)
  by_refusal (Some refusal) a b is = refl
  by_refusal None a b is = is

  frees : (q : ℕ) (o : Option Object) → freed q o s' ≡ outcome_with r (freed q o s)
  frees q (Some (Dataspace bytes)) = refl
  frees q (Some RpcObject) = refl
  frees q (Some (OpenSession session)) = refl
  frees q (Some (Buffer session bytes)) = refl
  frees q None = refl

  attaches : (q : ℕ) (o : Option (List ℕ)) → attached_first q o s' ≡ outcome_with r (attached_first q o s)
  attaches q (Some bytes) = by_refusal (attach_refusal most_regions s.regions (pages_in bytes)) _ _ refl
  attaches q None = refl

  attaches_at : (q address : ℕ) (o : Option (List ℕ)) → attached_at q address o s' ≡ outcome_with r (attached_at q address o s)
  attaches_at q address (Some bytes) = by_refusal (attach_at_refusal most_regions s.regions (pages_in bytes) address) _ _ refl
  attaches_at q address None = refl

  peeks : (count : ℕ) (o : Option Place) → peeked count o s' ≡ outcome_with r (peeked count o s)
  peeks count (Some (InDataspace q offset)) = refl
  peeks count (Some (InPayload address offset)) = refl
  peeks count (Some (InBlock address offset)) = refl
  peeks count None = refl

  pokes_at : (q offset : ℕ) (bytes : List ℕ) (o : Option Object) → poked_at q offset bytes o s' ≡ outcome_with r (poked_at q offset bytes o s)
  pokes_at q offset bytes (Some object) = refl
  pokes_at q offset bytes None = refl

  pokes_payload : (address offset : ℕ) (bytes : List ℕ) (o : Option (List ℕ)) → payload_poked address offset bytes o s' ≡ outcome_with r (payload_poked address offset bytes o s)
  pokes_payload address offset bytes (Some payload) = refl
  pokes_payload address offset bytes None = refl

  pokes_block : (address offset : ℕ) (bytes : List ℕ) (o : Option (List ℕ)) → block_poked address offset bytes o s' ≡ outcome_with r (block_poked address offset bytes o s)
  pokes_block address offset bytes (Some payload) = refl
  pokes_block address offset bytes None = refl

  pokes : (bytes : List ℕ) (o : Option Place) → poked bytes o s' ≡ outcome_with r (poked bytes o s)
  pokes bytes (Some (InDataspace q offset)) = pokes_at q offset bytes (get s.selectors q)
  pokes bytes (Some (InPayload address offset)) = pokes_payload address offset bytes (get s.sliced address)
  pokes bytes (Some (InBlock address offset)) = pokes_block address offset bytes (get s.heap.payloads address)
  pokes bytes None = refl

  frees_cap : (q : ℕ) (o : Option Object) → cap_freed q o s' ≡ outcome_with r (cap_freed q o s)
  frees_cap q (Some (Dataspace bytes)) = refl
  frees_cap q (Some RpcObject) = refl
  frees_cap q (Some (OpenSession session)) = refl
  frees_cap q (Some (Buffer session bytes)) = refl
  frees_cap q None = refl

  larges : (n : ℕ) (o : Option ℕ) → large_in n o s' ≡ outcome_with r (large_in n o s)
  larges n (Some start) = refl
  larges n None = refl

  grows : (n : ℕ) (growth : Growth) (o : Option ℕ) → grown_in n growth o s' ≡ outcome_with r (grown_in n growth o s)
  grows n growth (Some start) = refl
  grows n growth None = refl

  smalls : (n : ℕ) (o : Option Spot) → small_new n o s' ≡ outcome_with r (small_new n o s)
  smalls n (Some hole) = refl
  smalls n None = let growth = growth_of n s.heap.shape s.account in grows n growth (own_heap_gap growth.bytes s)

  news : (n : ℕ) (large : Bool) → cond large (large_in n (own_heap_gap (page_of n) s') s') (small_new n (hole_for n s.heap.shape) s')
      ≡ outcome_with r (cond large (large_in n (own_heap_gap (page_of n) s) s) (small_new n (hole_for n s.heap.shape) s))
  news n true = larges n (own_heap_gap (page_of n) s)
  news n false = smalls n (hole_for n s.heap.shape)

  gives_back : (address : ℕ) (o : Option ℕ) → given_back address o s' ≡ outcome_with r (given_back address o s)
  gives_back address (Some bytes) = refl
  gives_back address None = refl

  deletes : (address : ℕ) (o : Option (List ℕ)) → deleted address o s' ≡ outcome_with r (deleted address o s)
  deletes address (Some payload) = gives_back address (get s.heap.large address)
  deletes address None = refl

  slices : (n : ℕ) (o : Option ℕ) → sliced_in n o s' ≡ outcome_with r (sliced_in n o s)
  slices n (Some start) = refl
  slices n None = refl

  frees_block : (address : ℕ) (o : Option (List ℕ)) → sliced_freed address o s' ≡ outcome_with r (sliced_freed address o s)
  frees_block address (Some payload) = refl
  frees_block address None = refl

  opens : (o : Result Wish Refusal) → opened_by o s' ≡ outcome_with r (opened_by o s)
  opens (Err refusal) = refl
  opens (Ok wish) = by_refusal (donation_refusal s.account wish.ram wish.caps) _ _ refl

  upgrades : (q : ℕ) (o : Option Session) (more : Option Arguments) → upgraded_by q o more s' ≡ outcome_with r (upgraded_by q o more s)
  upgrades q (Some session) (Some more) = by_refusal (shortage s.account more.ram more.caps) _ _ refl
  upgrades q (Some session) None = refl
  upgrades q None more = refl

  serves : (q : ℕ) (o : Option Session) (request : List ℕ) → session_called q o request s' ≡ outcome_with r (session_called q o request s)
  serves q (Some session) request = refl
  serves q None request = refl

  closes : (q : ℕ) (o : Option Session) → session_closed q o s' ≡ outcome_with r (session_closed q o s)
  closes q (Some session) = refl
  closes q None = refl

  -- a call that isn't of the reserve, and no exit, does what it does whatever the reserve is
  pub stands_aside : (entry : Entry) (call : Call) → is_of_reserve call ≡ false → is_exit call ≡ false → entry_step entry call s' ≡ outcome_with r (entry_step entry call s)
  stands_aside entry (Alloc n) other on = by_refusal (alloc_refusal n s.account) _ _ refl
  stands_aside entry (Free q) other on = frees q (get s.selectors q)
  stands_aside entry (Attach q) other on = attaches q (named_bytes (get s.selectors q))
  stands_aside entry (AttachAt q address) other on = attaches_at q address (named_bytes (get s.selectors q))
  stands_aside entry (Detach address) other on = by_refusal (detach_refusal s.regions address) _ _ refl
  stands_aside entry (Peek address count) other on = by_refusal (count_refusal count) _ _ (peeks count (found s address count))
  stands_aside entry (Poke address bytes) other on = by_refusal (count_refusal (length bytes)) _ _ (pokes bytes (found s address (length bytes)))
  stands_aside entry Capalloc other on = by_refusal (shortage s.account 0 1) _ _ refl
  stands_aside entry (Capfree q) other on = frees_cap q (get s.selectors q)
  stands_aside entry (New n) other on = by_refusal (heap_refusal n s.heap.shape s.account) _ _ (news n (is_large n))
  stands_aside entry (Del address) other on = deletes address (get s.heap.payloads address)
  stands_aside entry (Snew n) other on = by_refusal (sliced_refusal n s.account) _ _ (slices n (own_heap_gap (sliced_size n) s))
  stands_aside entry (Sdel address) other on = frees_block address (get s.sliced address)
  stands_aside entry Quota other on = refl
  stands_aside entry Reserve other on = absurd (true≢false other)
  stands_aside entry (Request text) other on = absurd (true≢false other)
  stands_aside entry (Yield text) other on = absurd (true≢false other)
  stands_aside entry (Open service text) other on = opens (wish entry.label entry.routes service text)
  stands_aside entry (Upgrade q text) other on = upgrades q (session_named (get s.selectors q)) (arguments_of text)
  stands_aside entry (CallSession q request) other on = serves q (session_named (get s.selectors q)) request
  stands_aside entry (Close q) other on = closes q (session_named (get s.selectors q))
  stands_aside entry Exit other on = absurd (true≢false on)

-- so what is refused beside it is refused
pub refused_aside : (r : Amounts) (s : OwnState) (entry : Entry) (call : Call) (refusal : Refusal) → is_of_reserve call ≡ false → is_exit call ≡ false → entry_step entry call s ≡ refused s refusal →
    entry_step entry call (with_reserve r s) ≡ refused (with_reserve r s) refusal
refused_aside r s entry call refusal other on is = stands_aside r s entry call other on ∙ ap (outcome_with r) is
