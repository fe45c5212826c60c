-- A buffer stays as it is but for the calls of its session and for pokes in its regions, and goes with these.
use Rattle.std.proofs.Common.{◌≡◌, ◌≢◌, ◌⊎◌, inl, inr, ℕ, ◌==◌, Bool, true, false, cond, eqb, List, length, Some, refl, sym, ap, ◌∙◌, eqb-true, true≢false}
use Rattle.std.proofs.lemmas.Bool.{eqb-false, false_from_ne_true}
use Rattle.std.proofs.lemmas.Option.{none-some, same_Some}
use Rattle.std.specs.Prelude.{Option, None, Result, Ok, Err}
use Rattle.std.specs.FinMap.{get, insert, remove}
use Rattle.trade_base.specs.Page.{page_of}
use Rattle.trade_base.specs.declared.refusal.Refusal.{Refusal}
use Rattle.own_model.proofs.LentLemmas.{lent_still}
use Rattle.own_model.proofs.LentKeptLemmas.{one_session}
use Rattle.own_model.proofs.NatMapLemmas.{get-empty, get-insert_same, get-insert_other, get-remove_other, apart_from_free, IsSome-at}
use Rattle.own_model.proofs.NewSelector.{new_selector_free}
use Rattle.own_model.proofs.SlicedPayloadLemmas.{region_parts}
use Rattle.own_model.proofs.RegionLemmas.{left_without}
use Rattle.own_model.proofs.SessionLemmas.{named_there}
use Rattle.own_model.specs.Account.{shortage, alloc_refusal}
use Rattle.own_model.specs.BestFit.{Spot}
use Rattle.own_model.specs.Call.{Call}
use Rattle.own_model.specs.Call.Call.{Alloc, Free, Attach, AttachAt, Detach, Peek, Poke, Capalloc, Capfree, New, Del, Snew, Sdel, Quota, Reserve, Request, Yield, Open, Upgrade, CallSession, Close, Exit}
use Rattle.own_model.specs.Growth.{Growth, is_large, hole_for, growth_of, heap_refusal}
use Rattle.own_model.specs.SharedBufferTheorems.{IsPoked, BuffersAreIndependent, ClosedBuffersHaveNoRegions}
use Rattle.own_model.specs.NatMap.{NatMap}
use Rattle.own_model.specs.OwnState.{OwnState, Object, NamedBuffer, is_buffer_of, buffer_of, bytes_of_buffer, new_selector, pages_in, zeros, with_part, object_with, named_bytes, session_named}
use Rattle.own_model.specs.OwnState.Object.{Dataspace, RpcObject, OpenSession, Buffer}
use Rattle.own_model.specs.OwnStep.{Outcome, entry_step, unless, turned_away, allocated, freed, with_region, attached_first, attached_at, region_detached, count_refusal, peeked, poked, poked_at, cap_allocated, cap_freed, large_in, small_new, grown_in, newed, given_back, deleted, sliced_in, sliced_freed, own_heap_gap, payload_poked, block_poked, reserve_requested, requested_by, reserve_yielded, yielded_by, opened_by, session_opened, upgraded_by, session_upgraded, session_called, session_closed, selectors_lent, regions_lent}
use Rattle.own_model.specs.Place.{Place, found}
use Rattle.own_model.specs.Place.Place.{InDataspace, InPayload, InBlock}
use Rattle.own_model.specs.Region.{Region, without, most_regions, user_gap, attach_refusal, attach_at_refusal, detach_refusal, resolved}
use Rattle.own_model.specs.Session.{Session, Wish, wish, donation_refusal, new_session, upgraded, served}
use Rattle.own_model.specs.Reserve.{reserve_account}
use Rattle.own_model.specs.SessionArgs.{Arguments, arguments_of}
use Rattle.own_model.specs.SessionTheorems.{is_of}
use Rattle.own_model.specs.Sliced.{sliced_size, sliced_refusal, block_found}
use Rattle.own_model.specs.StartList.{Entry}

module _ (selector q : ℕ) (bytes : List ℕ) (s : OwnState) (there : get s.selectors selector ≡ Some (Buffer q bytes)) where
  -- the selector names the buffer
  abbrev IsThere : Outcome → Type 0
  IsThere o = get o.next.selectors selector ≡ Some (Buffer q bytes)

  -- ---- what is done to other selectors

  -- what is refused leaves it, and what is accepted where it does
  unless_leaves : (why : Option Refusal) (o : Outcome) → IsThere o → IsThere (unless why s o)
  unless_leaves (Some refusal) o after = there
  unless_leaves None o after = after

  -- what another selector names is of no matter
  beside_new : (object : Object) → get (insert s.selectors (new_selector s.selectors) object) selector ≡ Some (Buffer q bytes)
  beside_new object =
      get-insert_other s.selectors (new_selector s.selectors) object selector
      (apart_from_free s.selectors (new_selector s.selectors) selector (new_selector_free s.selectors) (IsSome-at s.selectors selector (Buffer q bytes) there)) ∙ there

  -- what is no buffer stands under another
  apart : (k : ℕ) (object : Object) → get s.selectors k ≡ Some object → ¬ (object ≡ Buffer q bytes) → selector ≢ k
  apart k object named other at = other (same_Some object (Buffer q bytes) (sym named ∙ ap (get s.selectors) (sym at) ∙ there))

  space_apart : (k : ℕ) (old : List ℕ) → get s.selectors k ≡ Some (Dataspace old) → selector ≢ k
  space_apart k old named = apart k (Dataspace old) named (λ e. cc)

  rpc_apart : (k : ℕ) → get s.selectors k ≡ Some RpcObject → selector ≢ k
  rpc_apart k named = apart k RpcObject named (λ e. cc)

  session_apart : (k : ℕ) (x : Session) → get s.selectors k ≡ Some (OpenSession x) → selector ≢ k
  session_apart k x named = apart k (OpenSession x) named (λ e. cc)

  -- ---- calls that are of no session, but pokes

  frees : (k : ℕ) (o : Option Object) → get s.selectors k ≡ o → IsThere (freed k o s)
  frees k (Some (Dataspace old)) is = get-remove_other s.selectors k selector (space_apart k old is) ∙ there
  frees k (Some RpcObject) is = there
  frees k (Some (OpenSession session)) is = there
  frees k (Some (Buffer session old)) is = there
  frees k None is = there

  frees_cap : (k : ℕ) (o : Option Object) → get s.selectors k ≡ o → IsThere (cap_freed k o s)
  frees_cap k (Some RpcObject) is = get-remove_other s.selectors k selector (rpc_apart k is) ∙ there
  frees_cap k (Some (Dataspace old)) is = there
  frees_cap k (Some (OpenSession session)) is = there
  frees_cap k (Some (Buffer session old)) is = there
  frees_cap k None is = there

  attaches : (k : ℕ) (o : Option (List ℕ)) → IsThere (attached_first k o s)
  attaches k (Some b) = unless_leaves (attach_refusal most_regions s.regions (pages_in b)) (with_region k (pages_in b) (user_gap s.regions (pages_in b)) s) there
  attaches k None = there

  attaches_at : (k address : ℕ) (o : Option (List ℕ)) → IsThere (attached_at k address o s)
  attaches_at k address (Some b) = unless_leaves (attach_at_refusal most_regions s.regions (pages_in b) address) (with_region k (pages_in b) address s) there
  attaches_at k address None = there

  peeks : (count : ℕ) (place : Option Place) → IsThere (peeked count place s)
  peeks count (Some place) = there
  peeks count None = there

  larges : (n : ℕ) (gap : Option ℕ) → IsThere (large_in n gap s)
  larges n (Some start) = there
  larges n None = there

  grows : (n : ℕ) (growth : Growth) (gap : Option ℕ) → IsThere (grown_in n growth gap s)
  grows n growth (Some start) = there
  grows n growth None = there

  smalls : (n : ℕ) (hole : Option Spot) → IsThere (small_new n hole s)
  smalls n (Some hole) = there
  smalls n None = let growth = growth_of n s.heap.shape s.account in grows n growth (own_heap_gap growth.bytes s)

  news : (n : ℕ) (large : Bool) → IsThere (cond large (large_in n (own_heap_gap (page_of n) s) s) (small_new n (hole_for n s.heap.shape) s))
  news n true = larges n (own_heap_gap (page_of n) s)
  news n false = smalls n (hole_for n s.heap.shape)

  gives : (address : ℕ) (large : Option ℕ) → IsThere (given_back address large s)
  gives address (Some size) = there
  gives address None = there

  deletes : (address : ℕ) (payload : Option (List ℕ)) → IsThere (deleted address payload s)
  deletes address (Some payload) = gives address (get s.heap.large address)
  deletes address None = there

  slices : (n : ℕ) (gap : Option ℕ) → IsThere (sliced_in n gap s)
  slices n (Some start) = there
  slices n None = there

  unslices : (address : ℕ) (payload : Option (List ℕ)) → IsThere (sliced_freed address payload s)
  unslices address (Some payload) = there
  unslices address None = there

  -- ---- calls of other sessions

  opens : (asked : Result Wish Refusal) → IsThere (opened_by asked s)
  opens (Err refusal) = there
  opens (Ok asked) = unless_leaves (donation_refusal s.account asked.ram asked.caps) (session_opened asked s) (beside_new (OpenSession (new_session asked)))

  -- what names a session isn't the buffer's selector
  named_apart : (of : ℕ) (x : Session) → session_named (get s.selectors of) ≡ Some x → selector ≢ of
  named_apart of x named = session_apart of x (named_there (get s.selectors of) x named)

  upgrades : (of : ℕ) (o : Option Session) → session_named (get s.selectors of) ≡ o → (arguments : Option Arguments) → IsThere (upgraded_by of o arguments s)
  upgrades of None is arguments = there
  upgrades of (Some x) is None = there
  upgrades of (Some x) is (Some more) =
      unless_leaves (shortage s.account more.ram more.caps) (session_upgraded of x more s)
      (get-insert_other s.selectors of (OpenSession (upgraded x more.ram more.caps)) selector (named_apart of x is) ∙ there)

  -- another session's buffer isn't this one
  others_still : (of : ℕ) (new : Option (List ℕ)) → (of == q) ≡ false → get (selectors_lent of (buffer_of of s.selectors) new s.selectors) selector ≡ Some (Buffer q bytes)
  others_still of new other =
      lent_still of s.selectors (buffer_of of s.selectors) new refl selector (Buffer q bytes) there
      (false_from_ne_true (is_buffer_of of (Some (Buffer q bytes))) (λ is. eqb-false of q other (sym (one_session of q bytes is))))

  serves : (of : ℕ) (o : Option Session) → session_named (get s.selectors of) ≡ o → (request : List ℕ) → (of == q) ≡ false → IsThere (session_called of o request s)
  serves of None is request other = there
  serves of (Some x) is request other =
      let buffer = buffer_of of s.selectors in
      let o = served (bytes_of_buffer buffer) x request in
      get-insert_other (selectors_lent of buffer o.buffer s.selectors) of (OpenSession o.session) selector (named_apart of x is) ∙ others_still of o.buffer other

  closes : (of : ℕ) (o : Option Session) → session_named (get s.selectors of) ≡ o → (of == q) ≡ false → IsThere (session_closed of o s)
  closes of None is other = there
  closes of (Some x) is other = get-remove_other (selectors_lent of (buffer_of of s.selectors) None s.selectors) of selector (named_apart of x is) ∙ others_still of None other

  -- ---- pokes

  module _ (address : ℕ) (part : List ℕ) where
    abbrev LeftOrPoked : Outcome → Type 0
    LeftOrPoked o = IsThere o ⊎ IsPoked (Poke address part) s o.next selector q bytes

    -- what a region finds is this buffer, or another object
    pokes_at : (k offset : ℕ) → resolved s.regions address (length part) ≡ Some (k, offset) → (object : Option Object) → get s.selectors k ≡ object → LeftOrPoked (poked_at k offset part object s)
    pokes_at k offset finds None is = inl there
    pokes_at k offset finds (Some object) is =
        let new = object_with object offset part in
        elim (eqb selector k) as (λ b. eqb selector k ≡ b → LeftOrPoked (poked_at k offset part (Some object) s)) [
          | true ↦ λ at.
              let here = eqb-true selector k at in
              let same : object ≡ Buffer q bytes = same_Some object (Buffer q bytes) (sym is ∙ ap (get s.selectors) (sym here) ∙ there) in
              inr (record {
                address = address;
                part = part;
                offset = offset;
                is_poke = refl;
                finds = finds ∙ ap (λ i. Some (i, offset)) (sym here);
                poked = get-insert_same s.selectors k new selector here ∙ ap (λ o. Some (object_with o offset part)) same;
              })
          | false ↦ λ other. inl (get-insert_other s.selectors k new selector (eqb-false selector k other) ∙ there)
        ] refl

    pokes_payload : (k offset : ℕ) (payload : Option (List ℕ)) → IsThere (payload_poked k offset part payload s)
    pokes_payload k offset (Some payload) = there
    pokes_payload k offset None = there

    pokes_block : (k offset : ℕ) (payload : Option (List ℕ)) → IsThere (block_poked k offset part payload s)
    pokes_block k offset (Some payload) = there
    pokes_block k offset None = there

    pokes_in : (place : Option Place) → found s address (length part) ≡ place → LeftOrPoked (poked part place s)
    pokes_in (Some (InDataspace k offset)) at =
        pokes_at k offset (region_parts (resolved s.regions address (length part)) (block_found s.sliced address (length part)) (block_found s.heap.payloads address (length part)) k offset at)
        (get s.selectors k) refl
    pokes_in (Some (InPayload k offset)) at = inl (pokes_payload k offset (get s.sliced k))
    pokes_in (Some (InBlock k offset)) at = inl (pokes_block k offset (get s.heap.payloads k))
    pokes_in None at = inl there

    pokes : (why : Option Refusal) (o : Outcome) → LeftOrPoked o → LeftOrPoked (unless why s o)
    pokes (Some refusal) o after = inl there
    pokes None o after = after

  -- ---- the reserve

  requests : (arguments : Option Arguments) → IsThere (requested_by arguments s)
  requests (Some more) = unless_leaves (shortage (reserve_account s.reserve) more.ram more.caps) (reserve_requested more s) there
  requests None = there

  yields : (arguments : Option Arguments) → IsThere (yielded_by arguments s)
  yields (Some more) = unless_leaves (shortage s.account more.ram more.caps) (reserve_yielded more s) there
  yields None = there

  -- ---- any call

  -- a call that isn't of its session, by what it is
  leaves : (entry : Entry) (call : Call) → is_of q call ≡ false → IsThere (entry_step entry call s) ⊎ IsPoked call s (entry_step entry call s).next selector q bytes
  leaves entry (Alloc n) other = inl (unless_leaves (alloc_refusal n s.account) (allocated n s) (beside_new (Dataspace (zeros (page_of n)))))
  leaves entry (Free k) other = inl (frees k (get s.selectors k) refl)
  leaves entry (Attach k) other = inl (attaches k (named_bytes (get s.selectors k)))
  leaves entry (AttachAt k address) other = inl (attaches_at k address (named_bytes (get s.selectors k)))
  leaves entry (Detach address) other = inl (unless_leaves (detach_refusal s.regions address) (region_detached address s) there)
  leaves entry (Peek address count) other = inl (unless_leaves (count_refusal count) (peeked count (found s address count) s) (peeks count (found s address count)))
  leaves entry (Poke address part) other = pokes address part (count_refusal (length part)) (poked part (found s address (length part)) s) (pokes_in address part (found s address (length part)) refl)
  leaves entry Capalloc other = inl (unless_leaves (shortage s.account 0 1) (cap_allocated s) (beside_new RpcObject))
  leaves entry (Capfree k) other = inl (frees_cap k (get s.selectors k) refl)
  leaves entry (New n) other = inl (unless_leaves (heap_refusal n s.heap.shape s.account) (newed n s) (news n (is_large n)))
  leaves entry (Del address) other = inl (deletes address (get s.heap.payloads address))
  leaves entry (Snew n) other = inl (unless_leaves (sliced_refusal n s.account) (sliced_in n (own_heap_gap (sliced_size n) s) s) (slices n (own_heap_gap (sliced_size n) s)))
  leaves entry (Sdel address) other = inl (unslices address (get s.sliced address))
  leaves entry Quota other = inl there
  leaves entry Reserve other = inl there
  leaves entry (Request text) other = inl (requests (arguments_of text))
  leaves entry (Yield text) other = inl (yields (arguments_of text))
  leaves entry (Open service text) other = inl (opens (wish entry.label entry.routes service text))
  leaves entry (Upgrade of text) other = inl (upgrades of (session_named (get s.selectors of)) refl (arguments_of text))
  leaves entry (CallSession of request) other = inl (serves of (session_named (get s.selectors of)) refl request other)
  leaves entry (Close of) other = inl (closes of (session_named (get s.selectors of)) refl other)
  leaves entry Exit other = absurd (true≢false other)

  -- whether it is turned away or not
  left_by : (call : Call) (why : Option Refusal) (o : Outcome) → IsThere o ⊎ IsPoked call s o.next selector q bytes → IsThere (unless why s o) ⊎ IsPoked call s (unless why s o).next selector q bytes
  left_by call (Some refusal) o after = inl there
  left_by call None o after = after

pub buffers_alone : BuffersAreIndependent
buffers_alone entry call s selector q bytes there other =
    left_by selector q bytes s there call (turned_away entry.kind s) (entry_step entry call s) (leaves selector q bytes s there entry call other)

-- ---- a buffer that goes

module _ (selector q : ℕ) (bytes : List ℕ) (s : OwnState) (there : get s.selectors selector ≡ Some (Buffer q bytes)) where
  -- no region is of the selector
  abbrev HasNone : NatMap Region → Type 0
  HasNone regions = (start : ℕ) (region : Region) → get regions start ≡ Some region → region.of ≢ selector

  -- a selector that names something isn't gone
  not_gone : {A : Type 0} (o : Option Object) (object : Object) → o ≡ Some object → o ≡ None → A
  not_gone o object still none = absurd (none-some object (sym none ∙ still))

  -- what a request leaves of a buffer, it leaves regions of
  lent_none : (of : ℕ) (old : Option NamedBuffer) (new : Option (List ℕ)) → get (selectors_lent of old new s.selectors) selector ≡ None → HasNone (regions_lent old new s.regions)
  lent_none of None None none = not_gone (get s.selectors selector) (Buffer q bytes) there none
  lent_none of None (Some b) none = not_gone (get (insert s.selectors (new_selector s.selectors) (Buffer of b)) selector) (Buffer q bytes) (beside_new selector q bytes s there (Buffer of b)) none
  lent_none of (Some old) (Some b) none =
      let m = insert s.selectors old.selector (Buffer of b) in
      elim (eqb selector old.selector) as (λ t. eqb selector old.selector ≡ t → HasNone s.regions) [
        | true ↦ λ at. not_gone (get m selector) (Buffer of b) (get-insert_same s.selectors old.selector (Buffer of b) selector (eqb-true selector old.selector at)) none
        | false ↦ λ other. not_gone (get m selector) (Buffer q bytes) (get-insert_other s.selectors old.selector (Buffer of b) selector (eqb-false selector old.selector other) ∙ there) none
      ] refl
  lent_none of (Some old) None none =
      let m = remove s.selectors old.selector in
      elim (eqb selector old.selector) as (λ t. eqb selector old.selector ≡ t → HasNone (without old.selector s.regions)) [
        | true ↦ λ at. λ start region is same. (left_without old.selector s.regions start region is).1 (same ∙ eqb-true selector old.selector at)
        | false ↦ λ other. not_gone (get m selector) (Buffer q bytes) (get-remove_other s.selectors old.selector selector (eqb-false selector old.selector other) ∙ there) none
      ] refl

  served_none : (of : ℕ) (o : Option Session) → session_named (get s.selectors of) ≡ o → (request : List ℕ) → get (session_called of o request s).next.selectors selector ≡ None → HasNone (session_called of o request s).next.regions
  served_none of None is request none = not_gone (get s.selectors selector) (Buffer q bytes) there none
  served_none of (Some x) is request none =
      let buffer = buffer_of of s.selectors in
      let o = served (bytes_of_buffer buffer) x request in
      lent_none of buffer o.buffer (sym (get-insert_other (selectors_lent of buffer o.buffer s.selectors) of (OpenSession o.session) selector (named_apart selector q bytes s there of x is)) ∙ none)

  closed_none : (of : ℕ) (o : Option Session) → session_named (get s.selectors of) ≡ o → get (session_closed of o s).next.selectors selector ≡ None → HasNone (session_closed of o s).next.regions
  closed_none of None is none = not_gone (get s.selectors selector) (Buffer q bytes) there none
  closed_none of (Some x) is none =
      let buffer = buffer_of of s.selectors in
      lent_none of buffer None (sym (get-remove_other (selectors_lent of buffer None s.selectors) of selector (named_apart selector q bytes s there of x is)) ∙ none)

  -- a call of the session, or one that leaves the buffer
  gone_by_own : (entry : Entry) (call : Call) → is_of q call ≡ true → get (entry_step entry call s).next.selectors selector ≡ None → HasNone (entry_step entry call s).next.regions
  gone_by_own entry (Upgrade of text) is none =
      not_gone (get (upgraded_by of (session_named (get s.selectors of)) (arguments_of text) s).next.selectors selector) (Buffer q bytes)
      (upgrades selector q bytes s there of (session_named (get s.selectors of)) refl (arguments_of text)) none
  gone_by_own entry (CallSession of request) is none = served_none of (session_named (get s.selectors of)) refl request none
  gone_by_own entry (Close of) is none = closed_none of (session_named (get s.selectors of)) refl none
  gone_by_own entry Exit is none = λ start region at. absurd (none-some region (sym (get-empty start) ∙ at))
  gone_by_own entry call is none = absurd (true≢false (sym is))

  gone_by_other : (call : Call) (o : Outcome) → IsThere selector q bytes s there o ⊎ IsPoked call s o.next selector q bytes → get o.next.selectors selector ≡ None → HasNone o.next.regions
  gone_by_other call o (inl still) none = not_gone (get o.next.selectors selector) (Buffer q bytes) still none
  gone_by_other call o (inr poke) none = not_gone (get o.next.selectors selector) (Buffer q (with_part bytes poke.offset poke.part)) poke.poked none

  gone_by : (entry : Entry) (call : Call) → get (entry_step entry call s).next.selectors selector ≡ None → HasNone (entry_step entry call s).next.regions
  gone_by entry call none = elim (is_of q call) as (λ b. is_of q call ≡ b → HasNone (entry_step entry call s).next.regions) [
    | true ↦ λ own. gone_by_own entry call own none
    | false ↦ λ other. gone_by_other call (entry_step entry call s) (leaves selector q bytes s there entry call other) none
  ] refl

  -- whether it is turned away or not
  none_left : (why : Option Refusal) (o : Outcome) → (get o.next.selectors selector ≡ None → HasNone o.next.regions) → get (unless why s o).next.selectors selector ≡ None → HasNone (unless why s o).next.regions
  none_left (Some refusal) o after none = not_gone (get s.selectors selector) (Buffer q bytes) there none
  none_left None o after none = after none

pub gone_has_none : ClosedBuffersHaveNoRegions
gone_has_none entry call s selector q bytes there none =
    none_left selector q bytes s there (turned_away entry.kind s) (entry_step entry call s) (gone_by selector q bytes s there entry call) none
