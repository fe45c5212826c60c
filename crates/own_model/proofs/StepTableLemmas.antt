-- Each call is refused as its line in the table of calls says, or does one thing; so what all these keep, calls keep.
use Rattle.std.proofs.Common.{rules, ◌≡◌, ℕ, ◌+◌, ◌&&◌, Bool, true, false, cond, not, List, [], ◌∷◌, length, nat_lt, nat_le, Some, refl, sym, ap, ◌∙◌, arith, subst, true≢false}
use Rattle.std.proofs.lemmas.Bool.Decides.{nat_tests}
use Rattle.std.proofs.lemmas.Option.{none-some, same_Some}
use Rattle.std.specs.Prelude.{Option, None, is_none, is_some}
use Rattle.std.specs.Option.{option_or, unwrap_or}
use Rattle.std.specs.FinMap.{get, len}
use Rattle.trade_base.specs.Page.{page_of, is_valid_size}
use Rattle.trade_base.specs.declared.refusal.Refusal.{Refusal}
use Rattle.trade_base.specs.declared.refusal.Refusal.TheVariants.{NotAScript, Gone, InvalidSize, InvalidCap, OutOfRam, OutOfCaps, RegionConflict, TooManyRegions, PageFault, TooManyChunks, BadArgs, ServiceDenied, InvalidSession, InsufficientRamQuota, InsufficientCapQuota}
use Rattle.own_model.proofs.SlicedPayloadLemmas.{payload_fits, block_fits, region_parts}
use Rattle.own_model.proofs.RegionRangeLemmas.{range_fits}
use Rattle.own_model.proofs.StepLemmas.{KeptByEffects, KeptByReserve, KeptBySessions, attach_place, attach_at_place, size_tested}
use Rattle.own_model.proofs.SessionLemmas.{named_there}
use Rattle.own_model.specs.Account.{WithinLimits, shortage, alloc_refusal}
use Rattle.own_model.specs.Call.{Call, is_of_session, moves_reserve, is_exit}
use Rattle.own_model.specs.Call.Call.{Alloc, Free, Attach, AttachAt, Detach, Peek, Poke, Capalloc, Capfree, New, Del, Snew, Sdel, Quota, Reserve, Request, Yield, Open, Upgrade, CallSession, Close, Exit}
use Rattle.own_model.specs.BestFit.{Spot, block_size}
use Rattle.own_model.specs.Growth.{Growth, most_chunks, is_large, hole_for, growth_of, growth_refusal, small_refusal}
use Rattle.own_model.specs.OwnState.{OwnState, Object, named_bytes, pages_in, session_named}
use Rattle.own_model.specs.OwnState.Object.{Dataspace, RpcObject, OpenSession, Buffer}
use Rattle.own_model.specs.OwnStep.{Outcome, own_step, own_run, entry_step, refused, unless, turned_away, allocated, freed, with_region, attached_first, attached_at, region_detached, count_refusal, peeked, poked, poked_at, payload_poked, block_poked, most_bytes, block_taken, grown_at, grown_in, large_at, large_in, small_new, given_back, deleted, sliced_at, sliced_in, sliced_freed, own_heap_gap, cap_allocated, cap_freed, reported_quota, reported_reserve, reserve_requested, requested_by, reserve_yielded, yielded_by, opened_by, session_opened, upgraded_by, session_upgraded, session_called, session_closed, exited, exited_state}
use Rattle.own_model.specs.Place.{Place, found}
use Rattle.own_model.specs.Place.Place.{InDataspace, InPayload, InBlock}
use Rattle.own_model.specs.Region.{Region, most_regions, user_low, user_high, can_attach, first_gap, user_gap, resolved, attach_refusal, attach_at_refusal}
use Rattle.own_model.specs.Reply.Reply.{Refused}
use Rattle.own_model.specs.Reserve.{reserve_account}
use Rattle.own_model.specs.Routes.{ServerAt, label_with, provider}
use Rattle.own_model.specs.Session.{Session, Wish, routed_request, resolved_request, too_small, donation_refusal, session_ram, session_caps}
use Rattle.own_model.specs.SessionArgs.{Arguments, arguments_of}
use Rattle.own_model.specs.Sliced.{sliced_header, sliced_size, sliced_refusal, block_found}
use Rattle.own_model.specs.Sound.{IsSound}
use Rattle.own_model.specs.StartList.{Entry, Kind}
use Rattle.own_model.specs.StartList.Kind.{Script, Server, Init}
use Rattle.own_model.specs.Table.{Test, when, first_failed, lacks_ram, lacks_caps, is_dataspace, is_rpc_object, is_bad_count, memory_line, small_line, open_line, moved_line, upgrade_line, line_of, line_by, whole_line, refusal_in}

-- an outcome is a refusal, or else one that tells none; for an account within its limits and a sound state the refusal
-- is the first on the line for which there is reason, and P holds after what is accepted
record Explained (session : Bool) (P : OwnState → Type 0) (s : OwnState) (o : Outcome) (line : List Test) : Type 0 where
  -- the refusal, if there is one
  why : Option Refusal
  -- what is done where there is none
  accepted : Outcome
  -- which tells no refusal
  told : refusal_in accepted.reply ≡ None
  -- and finishes no lines, unless it is of a session
  quiet : session ≡ false → accepted.lines ≡ []
  -- the outcome is one of the two
  is : o ≡ unless why s accepted
  -- and the refusal is the line's
  right : WithinLimits s.account → IsSound s → why ≡ first_failed line
  -- what is accepted keeps P
  kept : why ≡ None → P accepted.next

-- a choice turned round
flip : (b : Bool) (x y : Option Refusal) → cond b x y ≡ cond (not b) y x
flip true x y = refl
flip false x y = refl

module _ (s : OwnState) where
  -- what is refused tells why
  tells : (why : Option Refusal) (accepted : Outcome) → refusal_in accepted.reply ≡ None → refusal_in (unless why s accepted).reply ≡ why
  tells (Some refusal) accepted told = refl
  tells None accepted told = told

  -- and leaves the state
  leaves : (why : Option Refusal) (accepted : Outcome) (refusal : Refusal) → refusal_in accepted.reply ≡ None → (unless why s accepted).reply ≡ Refused refusal → unless why s accepted ≡ refused s refusal
  leaves (Some other) accepted refusal told is = ap (refused s) (same_Some other refusal (ap refusal_in is))
  leaves None accepted refusal told is = absurd (none-some refusal (sym told ∙ ap refusal_in is))

-- what holds of a state, after each thing that a call can do to it, and of who has exited
module _ (session moves ends : Bool) (P : OwnState → Type 0) (s : OwnState) (h : P s) (k : KeptByEffects P s) (m : moves ≡ true → KeptByReserve P s) (q : session ≡ true → KeptBySessions P s) (g : ends ≡ true → P exited_state) where
  -- a refusal for which nothing else has to be looked at
  refused_for : (refusal : Refusal) (line : List Test) → Some refusal ≡ first_failed line → Explained session P s (refused s refusal) line
  refused_for refusal line first = record { why = Some refusal; accepted = reported_quota s; told = refl; quiet = λ _. refl; is = refl; right = λ _ _. first; kept = λ _. h }

  -- what is done with no test left
  does : (accepted : Outcome) (line : List Test) → refusal_in accepted.reply ≡ None → accepted.lines ≡ [] → None ≡ first_failed line → P accepted.next → Explained session P s accepted line
  does accepted line told quiet none after = record { why = None; accepted = accepted; told = told; quiet = λ _. quiet; is = refl; right = λ _ _. none; kept = λ _. after }

  -- a free
  frees : (selector : ℕ) (object : Option Object) → get s.selectors selector ≡ object → Explained session P s (freed selector object s) (when (not (is_dataspace object)) InvalidCap ∷ [])
  frees selector (Some (Dataspace bytes)) e = does (freed selector (Some (Dataspace bytes)) s) _ refl refl refl (k.frees selector bytes e)
  frees selector (Some RpcObject) e = refused_for InvalidCap _ refl
  frees selector (Some (OpenSession session)) e = refused_for InvalidCap _ refl
  frees selector (Some (Buffer session bytes)) e = refused_for InvalidCap _ refl
  frees selector None e = refused_for InvalidCap _ refl

  -- a free of an RPC object
  frees_cap : (selector : ℕ) (object : Option Object) → get s.selectors selector ≡ object → Explained session P s (cap_freed selector object s) (when (not (is_rpc_object object)) InvalidCap ∷ [])
  frees_cap selector (Some (Dataspace bytes)) e = refused_for InvalidCap _ refl
  frees_cap selector (Some (OpenSession session)) e = refused_for InvalidCap _ refl
  frees_cap selector (Some (Buffer session bytes)) e = refused_for InvalidCap _ refl
  frees_cap selector (Some RpcObject) e = does (cap_freed selector (Some RpcObject) s) _ refl refl refl (k.frees_cap selector e)
  frees_cap selector None e = refused_for InvalidCap _ refl

  -- a free of a sliced block
  frees_block : (address : ℕ) (payload : Option (List ℕ)) → get s.sliced address ≡ payload → Explained session P s (sliced_freed address payload s) (when (is_none payload) PageFault ∷ [])
  frees_block address (Some payload) e = does (sliced_freed address (Some payload) s) _ refl refl refl (k.unslices address payload e)
  frees_block address None e = refused_for PageFault _ refl

  -- an attachment at the first gap
  attaches : (selector : ℕ) (bytes : Option (List ℕ)) → named_bytes (get s.selectors selector) ≡ bytes → Explained session P s (attached_first selector bytes s)
      (when (is_none bytes) InvalidCap ∷ when (nat_le most_regions (len s.regions)) TooManyRegions
      ∷ when (is_none (first_gap user_low user_high s.regions (pages_in (unwrap_or bytes [])))) RegionConflict ∷ [])
  attaches selector (Some bytes) e = record {
    why = attach_refusal most_regions s.regions (pages_in bytes);
    accepted = with_region selector (pages_in bytes) (user_gap s.regions (pages_in bytes)) s;
    told = refl;
    quiet = λ _. refl;
    is = refl;
    right = λ _ _. refl;
    kept = λ accepted. let at = attach_place most_regions s.regions (pages_in bytes) accepted in k.attaches selector (user_gap s.regions (pages_in bytes)) bytes e at.0 at.1;
  }
  attaches selector None e = refused_for InvalidCap _ refl

  -- and one at an address
  attaches_at : (selector address : ℕ) (bytes : Option (List ℕ)) → named_bytes (get s.selectors selector) ≡ bytes → Explained session P s (attached_at selector address bytes s)
      (when (is_none bytes) InvalidCap ∷ when (nat_le most_regions (len s.regions)) TooManyRegions
      ∷ when (not (can_attach user_low user_high s.regions (pages_in (unwrap_or bytes [])) address)) RegionConflict ∷ [])
  attaches_at selector address (Some bytes) e = record {
    why = attach_at_refusal most_regions s.regions (pages_in bytes) address;
    accepted = with_region selector (pages_in bytes) address s;
    told = refl;
    quiet = λ _. refl;
    is = refl;
    right = λ _ _. ap (cond (nat_le most_regions (len s.regions)) (Some TooManyRegions)) (flip (can_attach user_low user_high s.regions (pages_in bytes) address) None (Some RegionConflict));
    kept = λ accepted. let at = attach_at_place most_regions s.regions (pages_in bytes) address accepted in k.attaches selector address bytes e at.0 at.1;
  }
  attaches_at selector address None e = refused_for InvalidCap _ refl

  -- a detachment
  detaches : (address : ℕ) (region : Option Region) →
      Explained session P s (unless (cond (is_some region) None (Some PageFault)) s (region_detached address s)) (when (is_none region) PageFault ∷ [])
  detaches address (Some region) = does (region_detached address s) _ refl refl refl (k.detaches address)
  detaches address None = refused_for PageFault _ refl

  -- a size that is tested, and then a page fault
  faults : (counts : Bool) → unless (cond counts None (Some InvalidSize)) s (refused s PageFault) ≡ unless (cond counts (Some PageFault) (Some InvalidSize)) s (reported_quota s)
  faults true = refl
  faults false = refl

  -- where no place is found
  no_place : (count : ℕ) → Explained session P s (unless (count_refusal count) s (refused s PageFault)) (when (is_bad_count count) InvalidSize ∷ when true PageFault ∷ [])
  no_place count =
      let counts = nat_lt 0 count && nat_le count most_bytes in
      record { why = cond counts (Some PageFault) (Some InvalidSize); accepted = reported_quota s; told = refl; quiet = λ _. refl; is = faults counts; right = λ _ _. flip counts (Some PageFault) (Some InvalidSize); kept = λ _. h }

  -- where one is
  at_place : (count : ℕ) (accepted : Outcome) → refusal_in accepted.reply ≡ None → accepted.lines ≡ [] → P accepted.next → Explained session P s (unless (count_refusal count) s accepted) (when (is_bad_count count) InvalidSize ∷ when false PageFault ∷ [])
  at_place count accepted told quiet after = record {
    why = count_refusal count;
    accepted = accepted;
    told = told;
    quiet = λ _. quiet;
    is = refl;
    right = λ _ _. flip (nat_lt 0 count && nat_le count most_bytes) None (Some InvalidSize);
    kept = λ _. after;
  }

  -- where one is found that names nothing, which doesn't happen to a sound state
  never : (count : ℕ) → (IsSound s → ⊥) → Explained session P s (unless (count_refusal count) s (refused s PageFault)) (when (is_bad_count count) InvalidSize ∷ when false PageFault ∷ [])
  never count unsound = let fault = no_place count in record { why = fault.why; accepted = fault.accepted; told = fault.told; quiet = fault.quiet; is = fault.is; right = λ _ sound. absurd (unsound sound); kept = fault.kept }

  -- a peek
  peeks : (count : ℕ) (place : Option Place) → Explained session P s (unless (count_refusal count) s (peeked count place s)) (when (is_bad_count count) InvalidSize ∷ when (is_none place) PageFault ∷ [])
  peeks count (Some place) = at_place count (peeked count (Some place) s) refl refl h
  peeks count None = no_place count

  module _ (address : ℕ) (bytes : List ℕ) where
    -- a poke in a dataspace
    pokes_object : (selector offset : ℕ) → found s address (length bytes) ≡ Some (InDataspace selector offset) → (object : Option Object) → get s.selectors selector ≡ object →
        Explained session P s (unless (count_refusal (length bytes)) s (poked_at selector offset bytes object s)) (when (is_bad_count (length bytes)) InvalidSize ∷ when false PageFault ∷ [])
    pokes_object selector offset at (Some object) there = at_place (length bytes) (poked_at selector offset bytes (Some object) s) refl refl (k.pokes selector offset bytes object there)
    pokes_object selector offset at None free = never (length bytes) (λ sound.
        let region = region_parts (resolved s.regions address (length bytes)) (block_found s.sliced address (length bytes)) (block_found s.heap.payloads address (length bytes)) selector offset at in
        let named = range_fits s address (length bytes) selector offset sound region in
        none-some named.0 (sym (ap named_bytes free) ∙ named.1))

    -- and one in a payload
    pokes_payload : (block offset : ℕ) → found s address (length bytes) ≡ Some (InPayload block offset) → (payload : Option (List ℕ)) → get s.sliced block ≡ payload →
        Explained session P s (unless (count_refusal (length bytes)) s (payload_poked block offset bytes payload s)) (when (is_bad_count (length bytes)) InvalidSize ∷ when false PageFault ∷ [])
    pokes_payload block offset at (Some payload) there = at_place (length bytes) (payload_poked block offset bytes (Some payload) s) refl refl (k.pokes_payload block offset bytes payload there)
    pokes_payload block offset at None free = never (length bytes) (λ _. let fits = payload_fits s address (length bytes) block offset at in none-some fits.0 (sym free ∙ fits.1))

    -- and one in a payload of the heap
    pokes_block : (block offset : ℕ) → found s address (length bytes) ≡ Some (InBlock block offset) → (payload : Option (List ℕ)) → get s.heap.payloads block ≡ payload →
        Explained session P s (unless (count_refusal (length bytes)) s (block_poked block offset bytes payload s)) (when (is_bad_count (length bytes)) InvalidSize ∷ when false PageFault ∷ [])
    pokes_block block offset at (Some payload) there = at_place (length bytes) (block_poked block offset bytes (Some payload) s) refl refl (k.pokes_block block offset bytes payload there)
    pokes_block block offset at None free = never (length bytes) (λ _. let fits = block_fits s address (length bytes) block offset at in none-some fits.0 (sym free ∙ fits.1))

    -- a poke, wherever it is found
    pokes : (place : Option Place) → found s address (length bytes) ≡ place →
        Explained session P s (unless (count_refusal (length bytes)) s (poked bytes place s)) (when (is_bad_count (length bytes)) InvalidSize ∷ when (is_none place) PageFault ∷ [])
    pokes (Some (InDataspace selector offset)) at = pokes_object selector offset at (get s.selectors selector) refl
    pokes (Some (InPayload block offset)) at = pokes_payload block offset at (get s.sliced block) refl
    pokes (Some (InBlock block offset)) at = pokes_block block offset at (get s.heap.payloads block) refl
    pokes None at = no_place (length bytes)

  -- a size, the chunks and an account that are tested, and then the gap
  gapless : (valid full ram caps : Bool) →
      unless (cond valid (cond full (Some TooManyChunks) (cond ram (Some OutOfRam) (cond caps (Some OutOfCaps) None))) (Some InvalidSize)) s (refused s OutOfRam)
      ≡ unless (cond valid (cond full (Some TooManyChunks) (cond ram (Some OutOfRam) (cond caps (Some OutOfCaps) (Some OutOfRam)))) (Some InvalidSize)) s (reported_quota s)
  gapless true true ram caps = refl
  gapless true false true caps = refl
  gapless true false false true = refl
  gapless true false false false = refl
  gapless false full ram caps = refl

  -- what finds no gap
  no_gap : (valid : Bool) (bytes : ℕ) → Explained session P s (unless (cond valid (shortage s.account bytes 1) (Some InvalidSize)) s (refused s OutOfRam)) (when (not valid) InvalidSize ∷ memory_line bytes None s)
  no_gap valid bytes =
      let short = cond (lacks_ram s.account bytes) (Some OutOfRam) (cond (lacks_caps s.account 1) (Some OutOfCaps) (Some OutOfRam)) in
      record { why = cond valid short (Some InvalidSize); accepted = reported_quota s; told = refl; quiet = λ _. refl; is = gapless valid false (lacks_ram s.account bytes) (lacks_caps s.account 1); right = λ _ _. flip valid short (Some InvalidSize); kept = λ _. h }

  -- and what finds one
  at_gap : (valid : Bool) (bytes start : ℕ) (accepted : Outcome) → refusal_in accepted.reply ≡ None → accepted.lines ≡ [] → (cond valid (shortage s.account bytes 1) (Some InvalidSize) ≡ None → P accepted.next) →
      Explained session P s (unless (cond valid (shortage s.account bytes 1) (Some InvalidSize)) s accepted) (when (not valid) InvalidSize ∷ memory_line bytes (Some start) s)
  at_gap valid bytes start accepted told quiet after = record {
    why = cond valid (shortage s.account bytes 1) (Some InvalidSize);
    accepted = accepted;
    told = told;
    quiet = λ _. quiet;
    is = refl;
    right = λ _ _. flip valid (shortage s.account bytes 1) (Some InvalidSize);
    kept = after;
  }

  module _ (n : ℕ) where
    -- a large block
    larges : is_large n ≡ true → (gap : Option ℕ) → own_heap_gap (page_of n) s ≡ gap → Explained session P s (unless (alloc_refusal n s.account) s (large_in n gap s)) (when (not (is_valid_size n)) InvalidSize ∷ memory_line (page_of n) gap s)
    larges large (Some start) e = at_gap (is_valid_size n) (page_of n) start (large_at n start s) refl refl (λ accepted. k.takes_large n start large accepted e)
    larges large None e = no_gap (is_valid_size n) (page_of n)

    -- what a heap without a hole is given
    abbrev growth : Growth
    growth = growth_of n s.heap.shape s.account

    -- a block in a new chunk
    grows : (gap : Option ℕ) → own_heap_gap growth.bytes s ≡ gap →
        Explained session P s (unless (cond (is_valid_size n) (growth_refusal n s.heap.shape s.account) (Some InvalidSize)) s (grown_in n growth gap s))
        (when (not (is_valid_size n)) InvalidSize ∷ when (nat_le most_chunks (length s.heap.shape.chunks)) TooManyChunks ∷ memory_line (page_of (block_size n)) gap s)
    grows (Some start) e = record {
      why = cond (is_valid_size n) (growth_refusal n s.heap.shape s.account) (Some InvalidSize);
      accepted = grown_at n growth start s;
      told = refl;
      quiet = λ _. refl;
      is = refl;
      right = λ _ _. flip (is_valid_size n) (growth_refusal n s.heap.shape s.account) (Some InvalidSize);
      kept = λ accepted. k.grows n start (size_tested (is_valid_size n) (growth_refusal n s.heap.shape s.account) InvalidSize accepted) e;
    }
    grows None e =
        let full = nat_le most_chunks (length s.heap.shape.chunks) in
        let ram = lacks_ram s.account (page_of (block_size n)) in
        let caps = lacks_caps s.account 1 in
        let short = cond full (Some TooManyChunks) (cond ram (Some OutOfRam) (cond caps (Some OutOfCaps) (Some OutOfRam))) in
        record { why = cond (is_valid_size n) short (Some InvalidSize); accepted = reported_quota s; told = refl; quiet = λ _. refl; is = gapless (is_valid_size n) full ram caps; right = λ _ _. flip (is_valid_size n) short (Some InvalidSize); kept = λ _. h }

    -- a block of a chunk
    smalls : (hole : Option Spot) → hole_for n s.heap.shape ≡ hole →
        Explained session P s (unless (cond (is_valid_size n) (small_refusal n hole s.heap.shape s.account) (Some InvalidSize)) s (small_new n hole s)) (when (not (is_valid_size n)) InvalidSize ∷ small_line n hole s)
    smalls (Some hole) e = record {
      why = cond (is_valid_size n) None (Some InvalidSize);
      accepted = block_taken n hole s;
      told = refl;
      quiet = λ _. refl;
      is = refl;
      right = λ _ _. flip (is_valid_size n) None (Some InvalidSize);
      kept = λ _. k.takes n hole e;
    }
    smalls None e = grows (own_heap_gap growth.bytes s) refl

    -- any block of the heap
    news : (large : Bool) → is_large n ≡ large →
        Explained session P s (unless (cond (is_valid_size n) (cond large (shortage s.account (page_of n) 1) (small_refusal n (hole_for n s.heap.shape) s.heap.shape s.account)) (Some InvalidSize)) s
        (cond large (large_in n (own_heap_gap (page_of n) s) s) (small_new n (hole_for n s.heap.shape) s)))
        (when (not (is_valid_size n)) InvalidSize ∷ cond large (memory_line (page_of n) (own_heap_gap (page_of n) s) s) (small_line n (hole_for n s.heap.shape) s))
    news true e = larges e (own_heap_gap (page_of n) s) refl
    news false e = smalls (hole_for n s.heap.shape) refl

  -- a block of the heap given back
  gives : (address : ℕ) (payload : List ℕ) → get s.heap.payloads address ≡ Some payload → (large : Option ℕ) → get s.heap.large address ≡ large →
      Explained session P s (given_back address large s) (when false PageFault ∷ [])
  gives address payload there (Some bytes) e = does (given_back address (Some bytes) s) _ refl refl refl (k.gives_large address bytes e)
  gives address payload there None e = does (given_back address None s) _ refl refl refl (k.gives address payload there e)

  deletes : (address : ℕ) (payload : Option (List ℕ)) → get s.heap.payloads address ≡ payload → Explained session P s (deleted address payload s) (when (is_none payload) PageFault ∷ [])
  deletes address (Some payload) e = gives address payload e (get s.heap.large address) refl
  deletes address None e = refused_for PageFault _ refl

  -- a sliced block
  slices : (n : ℕ) (gap : Option ℕ) → own_heap_gap (sliced_size n) s ≡ gap → Explained session P s (unless (sliced_refusal n s.account) s (sliced_in n gap s))
      (when (not (nat_lt 0 n && is_valid_size (sliced_header + n))) InvalidSize ∷ memory_line (sliced_size n) gap s)
  slices n (Some start) e =
      at_gap (nat_lt 0 n && is_valid_size (sliced_header + n)) (sliced_size n) start (sliced_at n start s) refl refl (λ accepted. k.slices n start accepted e)
  slices n None e = no_gap (nat_lt 0 n && is_valid_size (sliced_header + n)) (sliced_size n)

  -- an account within its limits lacks no RAM for nothing
  no_ram : WithinLimits s.account → lacks_ram s.account 0 ≡ false
  no_ram within = let ram = within.ram in grind (arith, nat_tests)

  -- tests of an account, and then others
  in_order : (ram caps : Bool) (o : Option Refusal) → option_or (cond ram (Some OutOfRam) (cond caps (Some OutOfCaps) None)) o ≡ cond ram (Some OutOfRam) (cond caps (Some OutOfCaps) o)
  in_order true caps o = refl
  in_order false true o = refl
  in_order false false o = refl

  -- limits that are moved from an account, or are refused for what it doesn't cover
  requests : (arguments : Option Arguments) → moves ≡ true → Explained session P s (requested_by arguments s) (moved_line arguments (reserve_account s.reserve))
  requests (Some more) is = record {
    why = shortage (reserve_account s.reserve) more.ram more.caps;
    accepted = reserve_requested more s;
    told = refl;
    quiet = λ _. refl;
    is = refl;
    right = λ _ _. refl;
    kept = λ accepted. (m is).requests more accepted;
  }
  requests None is = refused_for BadArgs _ refl

  yields : (arguments : Option Arguments) → moves ≡ true → Explained session P s (yielded_by arguments s) (moved_line arguments s.account)
  yields (Some more) is = record {
    why = shortage s.account more.ram more.caps;
    accepted = reserve_yielded more s;
    told = refl;
    quiet = λ _. refl;
    is = refl;
    right = λ _ _. refl;
    kept = λ accepted. (m is).yields more accepted;
  }
  yields None is = refused_for BadArgs _ refl

  -- an open, where the route leads somewhere or not
  opens_to : (name : List ℕ) (arguments : Arguments) (to : Option ServerAt) → session ≡ true → Explained session P s (opened_by (routed_request name arguments to) s)
      (when false BadArgs ∷ when (is_none to) ServiceDenied ∷ when (lacks_ram s.account arguments.ram) OutOfRam ∷ when (lacks_caps s.account arguments.caps) OutOfCaps
      ∷ when (nat_lt arguments.ram session_ram) InsufficientRamQuota ∷ when (nat_lt arguments.caps session_caps) InsufficientCapQuota ∷ [])
  opens_to name arguments (Some server) of =
      let asked : Wish = record { server = server; label = label_with name arguments.label; ram = arguments.ram; caps = arguments.caps } in
      record {
        why = donation_refusal s.account arguments.ram arguments.caps;
        accepted = session_opened asked s;
        told = refl;
        quiet = λ _. refl;
        is = refl;
        right = λ _ _. in_order (lacks_ram s.account arguments.ram) (lacks_caps s.account arguments.caps) (too_small arguments.ram arguments.caps);
        kept = λ accepted. (q of).opens asked accepted;
      }
  opens_to name arguments None of = refused_for ServiceDenied _ refl

  opens : (entry : Entry) (service : List ℕ) (arguments : Option Arguments) → session ≡ true →
      Explained session P s (opened_by (resolved_request entry.label entry.routes service arguments) s) (open_line entry.routes service arguments s)
  opens entry service (Some arguments) of = opens_to entry.label arguments (provider entry.routes service arguments.label) of
  opens entry service None of = refused_for BadArgs _ refl

  module _ (selector : ℕ) where
    -- an upgrade
    upgrades : (found : Option Session) → ((x : Session) → found ≡ Some x → get s.selectors selector ≡ Some (OpenSession x)) → (arguments : Option Arguments) → session ≡ true →
        Explained session P s (upgraded_by selector found arguments s) (upgrade_line found arguments s)
    upgrades (Some x) at (Some more) of = record {
      why = shortage s.account more.ram more.caps;
      accepted = session_upgraded selector x more s;
      told = refl;
      quiet = λ _. refl;
      is = refl;
      right = λ _ _. refl;
      kept = λ accepted. (q of).upgrades selector x more (at x refl) accepted;
    }
    upgrades (Some x) at None of = refused_for BadArgs _ refl
    upgrades None at arguments of = refused_for InvalidSession _ refl

    -- a request
    serves : (found : Option Session) → ((x : Session) → found ≡ Some x → get s.selectors selector ≡ Some (OpenSession x)) → (request : List ℕ) → session ≡ true →
        Explained session P s (session_called selector found request s) (when (is_none found) InvalidSession ∷ [])
    serves (Some x) at request of = record {
      why = None;
      accepted = session_called selector (Some x) request s;
      told = refl;
      quiet = λ other. absurd (true≢false (sym of ∙ other));
      is = refl;
      right = λ _ _. refl;
      kept = λ _. (q of).serves selector x request (at x refl);
    }
    serves None at request of = refused_for InvalidSession _ refl

    -- a close
    closes : (found : Option Session) → ((x : Session) → found ≡ Some x → get s.selectors selector ≡ Some (OpenSession x)) → session ≡ true →
        Explained session P s (session_closed selector found s) (when (is_none found) InvalidSession ∷ [])
    closes (Some x) at of = does (session_closed selector (Some x) s) _ refl refl refl ((q of).closes selector x (at x refl))
    closes None at of = refused_for InvalidSession _ refl

  -- any call of a script
  explained : (entry : Entry) (call : Call) → is_of_session call ≡ session → moves_reserve call ≡ moves → is_exit call ≡ ends → Explained session P s (entry_step entry call s) (line_of entry call s)
  explained entry (Alloc n) of move end = record {
    why = alloc_refusal n s.account;
    accepted = allocated n s;
    told = refl;
    quiet = λ _. refl;
    is = refl;
    right = λ _ _. flip (is_valid_size n) (shortage s.account (page_of n) 1) (Some InvalidSize);
    kept = k.allocates n;
  }
  explained entry (Free selector) of move end = frees selector (get s.selectors selector) refl
  explained entry (Attach selector) of move end = attaches selector (named_bytes (get s.selectors selector)) refl
  explained entry (AttachAt selector address) of move end = attaches_at selector address (named_bytes (get s.selectors selector)) refl
  explained entry (Detach address) of move end = detaches address (get s.regions address)
  explained entry (Peek address count) of move end = peeks count (found s address count)
  explained entry (Poke address bytes) of move end = pokes address bytes (found s address (length bytes)) refl
  explained entry Capalloc of move end = record {
    why = shortage s.account 0 1;
    accepted = cap_allocated s;
    told = refl;
    quiet = λ _. refl;
    is = refl;
    right = λ within _. ap (λ b. cond b (Some OutOfRam) (cond (lacks_caps s.account 1) (Some OutOfCaps) None)) (no_ram within);
    kept = k.allocates_cap;
  }
  explained entry (Capfree selector) of move end = frees_cap selector (get s.selectors selector) refl
  explained entry (New n) of move end = news n (is_large n) refl
  explained entry (Del address) of move end = deletes address (get s.heap.payloads address) refl
  explained entry (Snew n) of move end = slices n (own_heap_gap (sliced_size n) s) refl
  explained entry (Sdel address) of move end = frees_block address (get s.sliced address) refl
  explained entry Quota of move end = does (reported_quota s) _ refl refl refl h
  explained entry Reserve of move end = does (reported_reserve s) _ refl refl refl h
  explained entry (Request text) of move end = requests (arguments_of text) (sym move)
  explained entry (Yield text) of move end = yields (arguments_of text) (sym move)
  explained entry (Open service text) of move end = opens entry service (arguments_of text) (sym of)
  explained entry (Upgrade selector text) of move end = upgrades selector (session_named (get s.selectors selector)) (named_there (get s.selectors selector)) (arguments_of text) (sym of)
  explained entry (CallSession selector request) of move end = serves selector (session_named (get s.selectors selector)) (named_there (get s.selectors selector)) request (sym of)
  explained entry (Close selector) of move end = closes selector (session_named (get s.selectors selector)) (named_there (get s.selectors selector)) (sym of)
  explained entry Exit of move end = does exited _ refl refl refl (g (sym end))

  -- one that has exited does no call
  by_gone : (gone : Bool) (o : Outcome) (line : List Test) → Explained session P s o line → Explained session P s (unless (cond gone (Some Gone) None) s o) (when gone Gone ∷ line)
  by_gone true o line e = refused_for Gone _ refl
  by_gone false o line e = record { why = e.why; accepted = e.accepted; told = e.told; quiet = e.quiet; is = e.is; right = e.right; kept = e.kept }

  -- any call of a component
  by_kind : (kind : Kind) (entry : Entry) (call : Call) → is_of_session call ≡ session → moves_reserve call ≡ moves → is_exit call ≡ ends →
      Explained session P s (unless (turned_away kind s) s (entry_step entry call s)) (line_by kind entry call s)
  by_kind Server entry call of move end = refused_for NotAScript _ refl
  by_kind Init entry call of move end = refused_for NotAScript _ refl
  by_kind Script entry call of move end = by_gone s.gone (entry_step entry call s) (line_of entry call s) (explained entry call of move end)

  -- what is accepted or refused keeps it
  unless_keeps : (why : Option Refusal) (accepted : Outcome) → (why ≡ None → P accepted.next) → P (unless why s accepted).next
  unless_keeps (Some refusal) accepted after = h
  unless_keeps None accepted after = after refl

  -- so any such call keeps it
  step_keeps_by : (entry : Entry) (call : Call) → is_of_session call ≡ session → moves_reserve call ≡ moves → is_exit call ≡ ends → P (own_step entry call s).next
  step_keeps_by entry call of move end = let e = by_kind entry.kind entry call of move end in subst (λ o. P o.next) (sym e.is) (unless_keeps e.why e.accepted e.kept)

module _ (P : OwnState → Type 0) (s : OwnState) (h : P s) (k : KeptByEffects P s) where
  -- any call but one of a session and an exit keeps what all other effects keep
  pub others_go_on : (entry : Entry) (call : Call) → (moves_reserve call ≡ true → KeptByReserve P s) → is_of_session call ≡ false → is_exit call ≡ false → P (own_step entry call s).next
  others_go_on entry call m other on = step_keeps_by false (moves_reserve call) false P s h k m (λ e. absurd (true≢false (sym e))) (λ e. absurd (true≢false (sym e))) entry call other refl on

  -- any call but one of a session, where it holds of who has exited
  pub others_keep : KeptByReserve P s → P exited_state → (entry : Entry) (call : Call) → is_of_session call ≡ false → P (own_step entry call s).next
  others_keep m gone entry call other = step_keeps_by false (moves_reserve call) (is_exit call) P s h k (λ _. m) (λ e. absurd (true≢false (sym e))) (λ _. gone) entry call other refl refl

  -- any call but an exit
  pub goes_on : (entry : Entry) (call : Call) → (moves_reserve call ≡ true → KeptByReserve P s) → KeptBySessions P s → is_exit call ≡ false → P (own_step entry call s).next
  goes_on entry call m q on = step_keeps_by (is_of_session call) (moves_reserve call) false P s h k m (λ _. q) (λ e. absurd (true≢false (sym e))) entry call refl refl on

  -- and any call
  pub step_keeps : KeptByReserve P s → KeptBySessions P s → P exited_state → (entry : Entry) (call : Call) → P (own_step entry call s).next
  step_keeps m q gone entry call = step_keeps_by (is_of_session call) (moves_reserve call) (is_exit call) P s h k (λ _. m) (λ _. q) (λ _. gone) entry call refl refl refl

-- and so do calls, where what a call can do keeps it in each state
pub run_keeps : (P : OwnState → Type 0) → ((s : OwnState) → P s → KeptByEffects P s) → ((s : OwnState) → P s → KeptByReserve P s) → ((s : OwnState) → P s → KeptBySessions P s) → P exited_state →
    (entry : Entry) (calls : List Call) (s : OwnState) → P s → P (own_run entry calls s)
run_keeps P each reserve sessions gone entry [] s h = h
run_keeps P each reserve sessions gone entry (call ∷ calls) s h =
    run_keeps P each reserve sessions gone entry calls (own_step entry call s).next (step_keeps P s h (each s h) (reserve s h) (sessions s h) gone entry call)

-- ---- refusals

-- a call does something
anything : (s : OwnState) → KeptByEffects (λ _. Unit {0}) s
anything s = search (rules, frees, attaches, detaches, pokes, pokes_payload, pokes_block, grows, gives, slices, frees_cap)

anything_of_sessions : (s : OwnState) → KeptBySessions (λ _. Unit {0}) s
anything_of_sessions s = search (rules, opens, upgrades, serves, closes)

anything_of_reserve : (s : OwnState) → KeptByReserve (λ _. Unit {0}) s
anything_of_reserve s = record { requests = λ _ _. tt; yields = λ _ _. tt }

-- what a call is refused for, and what it does else
why_call : (entry : Entry) (call : Call) (s : OwnState) → Explained (is_of_session call) (λ _. Unit {0}) s (own_step entry call s) (whole_line entry call s)
why_call entry call s = by_kind (is_of_session call) (moves_reserve call) (is_exit call) (λ _. Unit {0}) s tt (anything s) (λ _. anything_of_reserve s) (λ _. anything_of_sessions s) (λ _. tt) entry.kind entry call refl refl refl

-- what is refused finishes no lines, nor does what is accepted where it finishes none
unless_quiet : (why : Option Refusal) (s : OwnState) (accepted : Outcome) → accepted.lines ≡ [] → (unless why s accepted).lines ≡ []
unless_quiet (Some refusal) s accepted quiet = refl
unless_quiet None s accepted quiet = quiet

-- no call but one of a session finishes lines
pub no_lines : (entry : Entry) (call : Call) (s : OwnState) → is_of_session call ≡ false → (own_step entry call s).lines ≡ []
no_lines entry call s other = let e = why_call entry call s in ap (λ o. o.lines) e.is ∙ unless_quiet e.why s e.accepted (e.quiet other)

-- a call is refused as its line says
pub refused_in_order : (entry : Entry) (call : Call) (s : OwnState) → WithinLimits s.account → IsSound s →
    refusal_in (own_step entry call s).reply ≡ first_failed (whole_line entry call s)
refused_in_order entry call s within sound = grind (arith, nat_tests, why_call entry call s)

-- and a refused one leaves the state
pub refused_leaves : (entry : Entry) (call : Call) (s : OwnState) (refusal : Refusal) → (own_step entry call s).reply ≡ Refused refusal → own_step entry call s ≡ refused s refusal
refused_leaves entry call s refusal told = grind (arith, nat_tests, why_call, leaves)
