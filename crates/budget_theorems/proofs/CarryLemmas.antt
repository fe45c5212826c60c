-- What a call does beside a session that is replaced by another: the same, and the other session stays.
use Rattle.std.proofs.Common.{arith, ◌≡◌, ◌≢◌, ℕ, ◌+◌, ◌==◌, Bool, true, false, cond, List, [], length, refl, sym, ap, ◌∙◌, eqb-true, true≢false, subst}
use Rattle.std.proofs.lemmas.Bool.{eqb-false}
use Rattle.std.specs.FinMap.{get, insert, remove}
use Rattle.std.specs.Prelude.{Option, Some, None, Result, Ok, Err, slice_range}
use Rattle.trade_base.specs.declared.refusal.Refusal.{Refusal}
use Rattle.trade_base.specs.declared.refusal.Refusal.TheVariants.{InvalidCap}
use Rattle.own_model.proofs.NatMapLemmas.{natmaps, same}
use Rattle.own_model.specs.Account.{shortage, alloc_refusal}
use Rattle.own_model.specs.BestFit.{Spot}
use Rattle.own_model.specs.Call.{Call}
use Rattle.own_model.specs.Call.Call.{Alloc, Free, Attach, AttachAt, Detach, Peek, Poke, Capalloc, Capfree, New, Del, Snew, Sdel, Quota, Reserve, Request, Yield, Open, Upgrade, CallSession, Close, Exit}
use Rattle.own_model.specs.Growth.{Growth, is_large, hole_for, growth_of, heap_refusal}
use Rattle.own_model.specs.NatMap.{NatMap}
use Rattle.own_model.specs.OwnState.{OwnState, Object, NamedBuffer, named_bytes, bytes_named, zeros, session_named, buffer_of, bytes_of_buffer, new_selector}
use Rattle.own_model.specs.OwnState.Object.{Dataspace, RpcObject, OpenSession, Buffer}
use Rattle.own_model.specs.OwnStep.{Outcome, refused, unless, allocated, freed, attached_first, attached_at, count_refusal, peeked, poked_at, payload_poked, block_poked, poked, cap_allocated, cap_freed, grown_in, large_in, deleted, given_back, sliced_in, sliced_freed, own_heap_gap, small_new, newed, requested_by, reserve_requested, yielded_by, reserve_yielded, opened_by, session_opened, upgraded_by, session_upgraded, session_called, session_served, session_closed, selectors_lent, with_buffer, completed, entry_step}
use Rattle.own_model.specs.Place.{Place, found}
use Rattle.own_model.specs.Place.Place.{InDataspace, InPayload, InBlock}
use Rattle.own_model.specs.Region.{most_regions, attach_refusal, attach_at_refusal, detach_refusal}
use Rattle.own_model.specs.Donation.{raised}
use Rattle.own_model.specs.Reply.Reply.{Selected, Bytes, Done, Told}
use Rattle.own_model.specs.Reserve.{reserve_account}
use Rattle.own_model.specs.Session.{Session, Wish, wish, donation_refusal, new_session, Served, served, upgraded}
use Rattle.own_model.specs.SessionArgs.{Arguments, arguments_of}
use Rattle.own_model.specs.SessionTheorems.{is_of}
use Rattle.own_model.specs.Sliced.{sliced_size, sliced_refusal}
use Rattle.own_model.specs.StartList.{Entry}
use Rattle.trade_base.specs.Page.{page_of}
use Rattle.budget_theorems.proofs.SelectorLemmas.{beside, at_it, alike, new_apart, new_same, buffer_same, lent_beside}
use Rattle.budget_theorems.specs.Test.{upgrade_tests, entry_tests}

-- insertions under two keys in either order
swapped : (x : NatMap Object) (q k : ℕ) (a b : Object) → k ≢ q → insert (insert x q a) k b ≡ insert (insert x k b) q a
swapped x q k a b other = same _ _ (λ j. grind (arith, natmaps))

-- an insertion and a removal
removed_beside : (x : NatMap Object) (q k : ℕ) (a : Object) → k ≢ q → remove (insert x q a) k ≡ insert (remove x k) q a
removed_beside x q k a other = same _ _ (λ j. grind (arith, natmaps))

module _ (q : ℕ) (s : OwnState) (old new : Session) (there : get s.selectors q ≡ Some (OpenSession old)) where
  abbrev m : NatMap Object
  m = s.selectors

  abbrev n : NatMap Object
  n = insert m q (OpenSession new)

  -- the state with the other session
  abbrev u : OwnState
  u = record s { selectors = n }

  -- an outcome with the other session in it
  pub record Carries (o p : Outcome) : Type 0 where
    pub reply : p.reply ≡ o.reply
    pub lines : p.lines ≡ o.lines
    pub next : p.next ≡ record o.next { selectors = insert o.next.selectors q (OpenSession new) }

  refuses : (why : Refusal) → Carries (refused s why) (refused u why)
  refuses why = record { reply = refl; lines = refl; next = refl }

  unless_by : (why : Option Refusal) (o p : Outcome) → Carries o p → Carries (unless why s o) (unless why u p)
  unless_by (Some why) o p carried = refuses why
  unless_by None o p carried = carried

  -- what selectors become is told by one equation
  by_selectors : (o p : Outcome) → p.reply ≡ o.reply → p.lines ≡ o.lines → p.next ≡ record o.next { selectors = p.next.selectors } →
      p.next.selectors ≡ insert o.next.selectors q (OpenSession new) → Carries o p
  by_selectors o p reply lines rest selectors = record { reply = reply; lines = lines; next = rest ∙ ap (λ x. record o.next { selectors = x }) selectors }

  -- what a selector names is the one session or the other, or another object
  module _ (k : ℕ) (F : Option Object → OwnState → Outcome) where
    at_key : (k ≡ q → Carries (F (Some (OpenSession old)) s) (F (Some (OpenSession new)) u)) → ((o : Option Object) → k ≢ q → Carries (F o s) (F o u)) → Carries (F (get m k) s) (F (get n k) u)
    at_key here else_where =
        elim (k == q) as (λ b. (k == q) ≡ b → Carries (F (get m k) s) (F (get n k) u)) [
          | true ↦ λ e.
              let at : k ≡ q = eqb-true k q e in
              subst (λ o. Carries (F o s) (F (get n k) u)) (sym (ap (get m) at ∙ there))
              (subst (λ o. Carries (F (Some (OpenSession old)) s) (F o u)) (sym (ap (get n) at ∙ at_it q m old new there)) (here at))
          | false ↦ λ e.
              let other = eqb-false k q e in
              subst (λ o. Carries (F (get m k) s) (F o u)) (sym (beside q m old new there k other)) (else_where (get m k) other)
        ] refl

  frees_other : (k : ℕ) (o : Option Object) → k ≢ q → Carries (freed k o s) (freed k o u)
  frees_other k (Some (Dataspace bytes)) other = by_selectors (freed k (Some (Dataspace bytes)) s) (freed k (Some (Dataspace bytes)) u) refl refl refl (removed_beside m q k (OpenSession new) other)
  frees_other k (Some RpcObject) other = refuses InvalidCap
  frees_other k (Some (OpenSession session)) other = refuses InvalidCap
  frees_other k (Some (Buffer of bytes)) other = refuses InvalidCap
  frees_other k None other = refuses InvalidCap

  frees_cap_other : (k : ℕ) (o : Option Object) → k ≢ q → Carries (cap_freed k o s) (cap_freed k o u)
  frees_cap_other k (Some RpcObject) other = by_selectors (cap_freed k (Some RpcObject) s) (cap_freed k (Some RpcObject) u) refl refl refl (removed_beside m q k (OpenSession new) other)
  frees_cap_other k (Some (Dataspace bytes)) other = refuses InvalidCap
  frees_cap_other k (Some (OpenSession session)) other = refuses InvalidCap
  frees_cap_other k (Some (Buffer of bytes)) other = refuses InvalidCap
  frees_cap_other k None other = refuses InvalidCap

  attaches : (k : ℕ) (bytes : Option (List ℕ)) → Carries (attached_first k bytes s) (attached_first k bytes u)
  attaches k None = refuses InvalidCap
  attaches k (Some bytes) = unless_by (attach_refusal most_regions s.regions _) _ _ (record { reply = refl; lines = refl; next = refl })

  attaches_at : (k address : ℕ) (bytes : Option (List ℕ)) → Carries (attached_at k address bytes s) (attached_at k address bytes u)
  attaches_at k address None = refuses InvalidCap
  attaches_at k address (Some bytes) = unless_by (attach_at_refusal most_regions s.regions _ address) _ _ (record { reply = refl; lines = refl; next = refl })

  named_same : (k : ℕ) → named_bytes (get n k) ≡ named_bytes (get m k)
  named_same k = alike q m old new there named_bytes refl k

  peeks : (count : ℕ) (place : Option Place) → Carries (peeked count place s) (peeked count place u)
  peeks count None = record { reply = refl; lines = refl; next = refl }
  peeks count (Some (InDataspace k offset)) = record {
    reply = ap (λ bytes. Bytes (slice_range bytes offset (offset + count))) (alike q m old new there bytes_named refl k);
    lines = refl;
    next = refl;
  }
  peeks count (Some (InPayload address offset)) = record { reply = refl; lines = refl; next = refl }
  peeks count (Some (InBlock address offset)) = record { reply = refl; lines = refl; next = refl }

  pokes_it : (k offset : ℕ) (bytes : List ℕ) → k ≡ q → Carries (poked_at k offset bytes (Some (OpenSession old)) s) (poked_at k offset bytes (Some (OpenSession new)) u)
  pokes_it k offset bytes at =
      by_selectors (poked_at k offset bytes (Some (OpenSession old)) s) (poked_at k offset bytes (Some (OpenSession new)) u) refl refl refl
      (same _ _ (λ j. grind (arith, natmaps, at)))

  pokes_other : (k offset : ℕ) (bytes : List ℕ) (o : Option Object) → k ≢ q → Carries (poked_at k offset bytes o s) (poked_at k offset bytes o u)
  pokes_other k offset bytes None other = record { reply = refl; lines = refl; next = refl }
  pokes_other k offset bytes (Some object) other =
      by_selectors (poked_at k offset bytes (Some object) s) (poked_at k offset bytes (Some object) u) refl refl refl (swapped m q k (OpenSession new) _ other)

  pokes_payload : (k offset : ℕ) (bytes : List ℕ) (o : Option (List ℕ)) → Carries (payload_poked k offset bytes o s) (payload_poked k offset bytes o u)
  pokes_payload k offset bytes None = record { reply = refl; lines = refl; next = refl }
  pokes_payload k offset bytes (Some payload) = record { reply = refl; lines = refl; next = refl }

  pokes_block : (k offset : ℕ) (bytes : List ℕ) (o : Option (List ℕ)) → Carries (block_poked k offset bytes o s) (block_poked k offset bytes o u)
  pokes_block k offset bytes None = record { reply = refl; lines = refl; next = refl }
  pokes_block k offset bytes (Some payload) = record { reply = refl; lines = refl; next = refl }

  pokes : (bytes : List ℕ) (place : Option Place) → Carries (poked bytes place s) (poked bytes place u)
  pokes bytes None = record { reply = refl; lines = refl; next = refl }
  pokes bytes (Some (InDataspace k offset)) = at_key k (λ o x. poked_at k offset bytes o x) (pokes_it k offset bytes) (pokes_other k offset bytes)
  pokes bytes (Some (InPayload address offset)) = pokes_payload address offset bytes (get s.sliced address)
  pokes bytes (Some (InBlock address offset)) = pokes_block address offset bytes (get s.heap.payloads address)

  -- what is new stands under the same selector
  inserts_new : (object : Object) → insert n (new_selector n) object ≡ insert (insert m (new_selector m) object) q (OpenSession new)
  inserts_new object = ap (λ k. insert n k object) (new_same q m old new there) ∙ swapped m q (new_selector m) (OpenSession new) object (new_apart q m old new there)

  allocates : (bytes : ℕ) → Carries (allocated bytes s) (allocated bytes u)
  allocates bytes = by_selectors (allocated bytes s) (allocated bytes u) (ap Selected (new_same q m old new there)) refl refl (inserts_new (Dataspace (zeros (page_of bytes))))

  allocates_cap : Carries (cap_allocated s) (cap_allocated u)
  allocates_cap = by_selectors (cap_allocated s) (cap_allocated u) (ap Selected (new_same q m old new there)) refl refl (inserts_new RpcObject)

  opens : (asked : Result Wish Refusal) → Carries (opened_by asked s) (opened_by asked u)
  opens (Err why) = refuses why
  opens (Ok wish) =
      unless_by (donation_refusal s.account wish.ram wish.caps) (session_opened wish s) (session_opened wish u)
      (by_selectors (session_opened wish s) (session_opened wish u) (ap Selected (new_same q m old new there)) refl refl (inserts_new (OpenSession (new_session wish))))

  grows : (bytes : ℕ) (growth : Growth) (gap : Option ℕ) → Carries (grown_in bytes growth gap s) (grown_in bytes growth gap u)
  grows bytes growth None = record { reply = refl; lines = refl; next = refl }
  grows bytes growth (Some start) = record { reply = refl; lines = refl; next = refl }

  larges : (bytes : ℕ) (gap : Option ℕ) → Carries (large_in bytes gap s) (large_in bytes gap u)
  larges bytes None = record { reply = refl; lines = refl; next = refl }
  larges bytes (Some start) = record { reply = refl; lines = refl; next = refl }

  smalls : (bytes : ℕ) (hole : Option Spot) → Carries (small_new bytes hole s) (small_new bytes hole u)
  smalls bytes (Some hole) = record { reply = refl; lines = refl; next = refl }
  smalls bytes None = grows bytes (growth_of bytes s.heap.shape s.account) (own_heap_gap (growth_of bytes s.heap.shape s.account).bytes s)

  news : (bytes : ℕ) (large : Bool) →
      Carries (cond large (large_in bytes (own_heap_gap (page_of bytes) s) s) (small_new bytes (hole_for bytes s.heap.shape) s)) (cond large (large_in bytes (own_heap_gap (page_of bytes) u) u) (small_new bytes (hole_for bytes s.heap.shape) u))
  news bytes true = larges bytes (own_heap_gap (page_of bytes) s)
  news bytes false = smalls bytes (hole_for bytes s.heap.shape)

  gives_back : (address : ℕ) (large : Option ℕ) → Carries (given_back address large s) (given_back address large u)
  gives_back address None = record { reply = refl; lines = refl; next = refl }
  gives_back address (Some bytes) = record { reply = refl; lines = refl; next = refl }

  deletes : (address : ℕ) (payload : Option (List ℕ)) → Carries (deleted address payload s) (deleted address payload u)
  deletes address None = record { reply = refl; lines = refl; next = refl }
  deletes address (Some payload) = gives_back address (get s.heap.large address)

  slices : (bytes : ℕ) (gap : Option ℕ) → Carries (sliced_in bytes gap s) (sliced_in bytes gap u)
  slices bytes None = record { reply = refl; lines = refl; next = refl }
  slices bytes (Some start) = record { reply = refl; lines = refl; next = refl }

  unslices : (address : ℕ) (payload : Option (List ℕ)) → Carries (sliced_freed address payload s) (sliced_freed address payload u)
  unslices address None = record { reply = refl; lines = refl; next = refl }
  unslices address (Some payload) = record { reply = refl; lines = refl; next = refl }

  requests : (arguments : Option Arguments) → Carries (requested_by arguments s) (requested_by arguments u)
  requests None = record { reply = refl; lines = refl; next = refl }
  requests (Some more) = unless_by (shortage (reserve_account s.reserve) more.ram more.caps) (reserve_requested more s) (reserve_requested more u) (record { reply = refl; lines = refl; next = refl })

  yields : (arguments : Option Arguments) → Carries (yielded_by arguments s) (yielded_by arguments u)
  yields None = record { reply = refl; lines = refl; next = refl }
  yields (Some more) = unless_by (shortage s.account more.ram more.caps) (reserve_yielded more s) (reserve_yielded more u) (record { reply = refl; lines = refl; next = refl })

  -- ---- other sessions

  module _ (k : ℕ) (other : k ≢ q) where
    upgrades_by : (session : Option Session) (arguments : Option Arguments) → Carries (upgraded_by k session arguments s) (upgraded_by k session arguments u)
    upgrades_by None arguments = record { reply = refl; lines = refl; next = refl }
    upgrades_by (Some session) None = record { reply = refl; lines = refl; next = refl }
    upgrades_by (Some session) (Some more) =
        unless_by (shortage s.account more.ram more.caps) (session_upgraded k session more s) (session_upgraded k session more u)
        (by_selectors (session_upgraded k session more s) (session_upgraded k session more u) refl refl refl (swapped m q k (OpenSession new) (OpenSession (upgraded session more.ram more.caps)) other))

    upgrades : (arguments : Option Arguments) → Carries (upgraded_by k (session_named (get m k)) arguments s) (upgraded_by k (session_named (get n k)) arguments u)
    upgrades arguments = at_key k (λ o x. upgraded_by k (session_named o) arguments x) (λ at. absurd (other at)) (λ o _. upgrades_by (session_named o) arguments)

    serves_by : (buffer : Option NamedBuffer) → buffer_of k m ≡ buffer → (o : Served) → Carries (session_served k buffer o s) (session_served k buffer o u)
    serves_by buffer found o =
        by_selectors (session_served k buffer o s) (session_served k buffer o u)
        (ap (λ selector. Told (completed buffer o.buffer selector o.reply)) (new_same q m old new there)) refl refl
        (ap (λ x. insert x k (OpenSession o.session)) (lent_beside q m old new there k buffer o.buffer found)
        ∙ swapped (selectors_lent k buffer o.buffer m) q k (OpenSession new) (OpenSession o.session) other)

    calls_by : (session : Option Session) (request : List ℕ) → Carries (session_called k session request s) (session_called k session request u)
    calls_by None request = record { reply = refl; lines = refl; next = refl }
    calls_by (Some session) request =
        subst (λ buffer. Carries (session_called k (Some session) request s) (session_served k buffer (served (bytes_of_buffer buffer) session request) u)) (sym (buffer_same q m old new there k))
        (serves_by (buffer_of k m) refl (served (bytes_of_buffer (buffer_of k m)) session request))

    calls : (request : List ℕ) → Carries (session_called k (session_named (get m k)) request s) (session_called k (session_named (get n k)) request u)
    calls request = at_key k (λ o x. session_called k (session_named o) request x) (λ at. absurd (other at)) (λ o _. calls_by (session_named o) request)

    abbrev closed_with : Option NamedBuffer → Session → OwnState → Outcome
    closed_with buffer session x =
        let t = with_buffer k buffer None x in
        record {
          reply = Done;
          lines = [];
          next = record t {
            account = raised x.account session.account.ram_limit session.account.caps_limit;
            selectors = remove t.selectors k;
          };
        }

    closes_with : (buffer : Option NamedBuffer) → buffer_of k m ≡ buffer → (session : Session) → Carries (closed_with buffer session s) (closed_with buffer session u)
    closes_with buffer found session =
        by_selectors (closed_with buffer session s) (closed_with buffer session u) refl refl refl
        (ap (λ x. remove x k) (lent_beside q m old new there k buffer None found) ∙ removed_beside (selectors_lent k buffer None m) q k (OpenSession new) other)

    closes_by : (session : Option Session) → Carries (session_closed k session s) (session_closed k session u)
    closes_by None = record { reply = refl; lines = refl; next = refl }
    closes_by (Some session) =
        subst (λ buffer. Carries (session_closed k (Some session) s) (closed_with buffer session u)) (sym (buffer_same q m old new there k))
        (closes_with (buffer_of k m) refl session)

    closes : Carries (session_closed k (session_named (get m k)) s) (session_closed k (session_named (get n k)) u)
    closes = at_key k (λ o x. session_closed k (session_named o) x) (λ at. absurd (other at)) (λ o _. closes_by (session_named o))

  -- ---- all calls

  pub carried : (entry : Entry) (call : Call) → is_of q call ≡ false → Carries (entry_step entry call s) (entry_step entry call u)
  carried entry (Alloc bytes) other = unless_by (alloc_refusal bytes s.account) (allocated bytes s) (allocated bytes u) (allocates bytes)
  carried entry (Free k) other = at_key k (λ o x. freed k o x) (λ _. refuses InvalidCap) (frees_other k)
  carried entry (Attach k) other = subst (λ bytes. Carries (attached_first k (named_bytes (get m k)) s) (attached_first k bytes u)) (sym (named_same k)) (attaches k (named_bytes (get m k)))
  carried entry (AttachAt k address) other =
      subst (λ bytes. Carries (attached_at k address (named_bytes (get m k)) s) (attached_at k address bytes u)) (sym (named_same k)) (attaches_at k address (named_bytes (get m k)))
  carried entry (Detach address) other = unless_by (detach_refusal s.regions address) _ _ (record { reply = refl; lines = refl; next = refl })
  carried entry (Peek address count) other = unless_by (count_refusal count) _ _ (peeks count (found s address count))
  carried entry (Poke address bytes) other = unless_by (count_refusal (length bytes)) _ _ (pokes bytes (found s address (length bytes)))
  carried entry Capalloc other = unless_by (shortage s.account 0 1) (cap_allocated s) (cap_allocated u) allocates_cap
  carried entry (Capfree k) other = at_key k (λ o x. cap_freed k o x) (λ _. refuses InvalidCap) (frees_cap_other k)
  carried entry (New bytes) other = unless_by (heap_refusal bytes s.heap.shape s.account) (newed bytes s) (newed bytes u) (news bytes (is_large bytes))
  carried entry (Del address) other = deletes address (get s.heap.payloads address)
  carried entry (Snew bytes) other = unless_by (sliced_refusal bytes s.account) _ _ (slices bytes (own_heap_gap (sliced_size bytes) s))
  carried entry (Sdel address) other = unslices address (get s.sliced address)
  carried entry Quota other = record { reply = refl; lines = refl; next = refl }
  carried entry Reserve other = record { reply = refl; lines = refl; next = refl }
  carried entry (Request text) other = requests (arguments_of text)
  carried entry (Yield text) other = yields (arguments_of text)
  carried entry (Open service text) other = opens (wish entry.label entry.routes service text)
  carried entry (Upgrade k text) other = upgrades k (eqb-false k q other) (arguments_of text)
  carried entry (CallSession k request) other = calls k (eqb-false k q other) request
  carried entry (Close k) other = closes k (eqb-false k q other)
  carried entry Exit other = absurd (true≢false other)

  -- and the same tests
  pub tests_carried : (entry : Entry) (call : Call) → is_of q call ≡ false → entry_tests entry call u ≡ entry_tests entry call s
  tests_carried entry (Upgrade k text) other = ap (λ o. upgrade_tests (session_named o) (arguments_of text)) (beside q m old new there k (eqb-false k q other))
  tests_carried entry call other = refl
