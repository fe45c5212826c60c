-- What a meter knows after a call.
use Rattle.std.proofs.lemmas.Bool.Decides.{nat_tests}
use Rattle.std.proofs.Common.{arith, ◌≡◌, ℕ, ◌+◌, ◌<◌, nat_lt, nat_le, Bool, true, false, cond, List, [], ◌∷◌, ◌++◌, length, refl, sym, ap, ◌∙◌, true≢false, subst}
use Rattle.std.specs.Prelude.{not, ◌&&◌, if◌then◌else◌, Option, Some, None, is_none, Result, Ok, Err}
use Rattle.std.specs.FinMap.{get}
use Rattle.trade_base.specs.Page.{page_of}
use Rattle.trade_base.specs.declared.refusal.Refusal.{Refusal}
use Rattle.own_model.proofs.StepExitLemmas.{exits_alone}
use Rattle.own_model.specs.Account.{Account, shortage, alloc_refusal}
use Rattle.own_model.specs.Amounts.{Amounts}
use Rattle.own_model.specs.Call.{Call, is_exit}
use Rattle.own_model.specs.Call.Call.{Alloc, Free, Attach, AttachAt, Detach, Peek, Poke, Capalloc, Capfree, New, Del, Snew, Sdel, Quota, Reserve, Request, Yield, Open, Upgrade, CallSession, Close, Exit}
use Rattle.own_model.specs.Growth.{is_large, hole_for, heap_refusal, larger_growth}
use Rattle.own_model.specs.OwnState.{OwnState, Object, named_bytes, pages_in, session_named}
use Rattle.own_model.specs.OwnState.Object.{Dataspace, RpcObject, OpenSession, Buffer}
use Rattle.own_model.specs.OwnStep.{Outcome, unless, turned_away, allocated, freed, with_region, attached_first, attached_at, region_detached, count_refusal, peeked, poked, poked_at, payload_poked, block_poked, cap_allocated, cap_freed, large_in, small_new, newed, own_heap_gap, given_back, deleted, sliced_in, sliced_freed, requested_by, reserve_requested, yielded_by, reserve_yielded, opened_by, session_opened, upgraded_by, session_upgraded, session_called, session_closed, entry_step, own_step, own_run}
use Rattle.own_model.specs.Place.{Place, found}
use Rattle.own_model.specs.Place.Place.{InDataspace, InPayload, InBlock}
use Rattle.own_model.specs.Region.{most_regions, attach_refusal, attach_at_refusal, user_gap, detach_refusal}
use Rattle.own_model.specs.Reply.{reply_text}
use Rattle.own_model.specs.Reserve.{reserve_account}
use Rattle.own_model.specs.Session.{Session, Wish, wish, donation_refusal}
use Rattle.own_model.specs.SessionArgs.{Arguments, arguments_of}
use Rattle.own_model.specs.Sliced.{sliced_size, sliced_refusal}
use Rattle.own_model.specs.StartList.{Entry, Kind}
use Rattle.own_model.specs.StartList.Kind.{Script, Server, Init}
use Rattle.core_calls.specs.Quotas.{quotas_account}
use Rattle.core_calls.specs.declared.quotas.Quotas.{Quotas}
use Rattle.budget_theorems.specs.Need.{Need, budgeted, limited, needs}
use Rattle.budget_theorems.specs.Test.{test_of, entry_tests, growth_tests, tests_unless, tests}
use Rattle.budget_meter.specs.NeededAmounts.{amount_tests, is_of_chunk, shows_growth}
use Rattle.budget_meter.specs.Metered.{is_script, Stands, Knows, HasObserved, HasReply}
use Rattle.budget_meter.specs.Needs.{Shown, amounts_of, shown_by, shown_in, shown_of, together}
use Rattle.budget_meter.specs.declared.account.AccountMeter.{AccountMeter}
use Rattle.budget_meter.specs.declared.budget.Budget.{Budget}
use Rattle.budget_meter.proofs.GrowthLemmas.{chunk_tells}
use Rattle.budget_meter.proofs.ShownLemmas.{together_nothing, run-more, shown-more}

-- ---- the growth number

module _ (s : OwnState) where
  abbrev number : Outcome → ℕ
  number o = o.next.heap.shape.growth

  abbrev Left : Outcome → Type 0
  Left o = number o ≡ s.heap.shape.growth

  unless_left : (why : Option Refusal) (o : Outcome) → Left o → Left (unless why s o)
  unless_left (Some refusal) o is = refl
  unless_left None o is = is

  frees : (k : ℕ) (object : Option Object) → Left (freed k object s)
  frees k (Some (Dataspace bytes)) = refl
  frees k (Some RpcObject) = refl
  frees k (Some (OpenSession session)) = refl
  frees k (Some (Buffer session bytes)) = refl
  frees k None = refl

  frees_cap : (k : ℕ) (object : Option Object) → Left (cap_freed k object s)
  frees_cap k (Some (Dataspace bytes)) = refl
  frees_cap k (Some RpcObject) = refl
  frees_cap k (Some (OpenSession session)) = refl
  frees_cap k (Some (Buffer session bytes)) = refl
  frees_cap k None = refl

  attaches : (k : ℕ) (bytes : Option (List ℕ)) → Left (attached_first k bytes s)
  attaches k (Some bytes) = unless_left (attach_refusal most_regions s.regions (pages_in bytes)) (with_region k (pages_in bytes) (user_gap s.regions (pages_in bytes)) s) refl
  attaches k None = refl

  attaches_at : (k address : ℕ) (bytes : Option (List ℕ)) → Left (attached_at k address bytes s)
  attaches_at k address (Some bytes) = unless_left (attach_at_refusal most_regions s.regions (pages_in bytes) address) (with_region k (pages_in bytes) address s) refl
  attaches_at k address None = refl

  peeks : (count : ℕ) (place : Option Place) → Left (peeked count place s)
  peeks count (Some place) = refl
  peeks count None = refl

  pokes_at : (k offset : ℕ) (bytes : List ℕ) (object : Option Object) → Left (poked_at k offset bytes object s)
  pokes_at k offset bytes (Some object) = refl
  pokes_at k offset bytes None = refl

  pokes_payload : (address offset : ℕ) (bytes : List ℕ) (payload : Option (List ℕ)) → Left (payload_poked address offset bytes payload s)
  pokes_payload address offset bytes (Some payload) = refl
  pokes_payload address offset bytes None = refl

  pokes_block : (address offset : ℕ) (bytes : List ℕ) (payload : Option (List ℕ)) → Left (block_poked address offset bytes payload s)
  pokes_block address offset bytes (Some payload) = refl
  pokes_block address offset bytes None = refl

  pokes : (bytes : List ℕ) (place : Option Place) → Left (poked bytes place s)
  pokes bytes (Some (InDataspace k offset)) = pokes_at k offset bytes (get s.selectors k)
  pokes bytes (Some (InPayload address offset)) = pokes_payload address offset bytes (get s.sliced address)
  pokes bytes (Some (InBlock address offset)) = pokes_block address offset bytes (get s.heap.payloads address)
  pokes bytes None = refl

  stands_alone : (n : ℕ) (gap : Option ℕ) → Left (large_in n gap s)
  stands_alone n (Some start) = refl
  stands_alone n None = refl

  gives : (address : ℕ) (bytes : Option ℕ) → Left (given_back address bytes s)
  gives address (Some bytes) = refl
  gives address None = refl

  deletes : (address : ℕ) (payload : Option (List ℕ)) → Left (deleted address payload s)
  deletes address (Some payload) = gives address (get s.heap.large address)
  deletes address None = refl

  slices : (n : ℕ) (gap : Option ℕ) → Left (sliced_in n gap s)
  slices n (Some start) = refl
  slices n None = refl

  unslices : (address : ℕ) (payload : Option (List ℕ)) → Left (sliced_freed address payload s)
  unslices address (Some payload) = refl
  unslices address None = refl

  requests : (arguments : Option Arguments) → Left (requested_by arguments s)
  requests (Some more) = unless_left (shortage (reserve_account s.reserve) more.ram more.caps) (reserve_requested more s) refl
  requests None = refl

  yields : (arguments : Option Arguments) → Left (yielded_by arguments s)
  yields (Some more) = unless_left (shortage s.account more.ram more.caps) (reserve_yielded more s) refl
  yields None = refl

  opens : (asked : Result Wish Refusal) → Left (opened_by asked s)
  opens (Err refusal) = refl
  opens (Ok wish) = unless_left (donation_refusal s.account wish.ram wish.caps) (session_opened wish s) refl

  upgrades : (k : ℕ) (session : Option Session) (arguments : Option Arguments) → Left (upgraded_by k session arguments s)
  upgrades k (Some session) (Some more) = unless_left (shortage s.account more.ram more.caps) (session_upgraded k session more s) refl
  upgrades k (Some session) None = refl
  upgrades k None arguments = refl

  serves : (k : ℕ) (session : Option Session) (request : List ℕ) → Left (session_called k session request s)
  serves k (Some session) request = refl
  serves k None request = refl

  closes : (k : ℕ) (session : Option Session) → Left (session_closed k session s)
  closes k (Some session) = refl
  closes k None = refl

  larges : (n : ℕ) (large : Bool) → not large ≡ false → Left (cond large (large_in n (own_heap_gap (page_of n) s) s) (small_new n (hole_for n s.heap.shape) s))
  larges n true is = stands_alone n (own_heap_gap (page_of n) s)
  larges n false is = absurd (true≢false is)

  -- all calls but those for a block of a chunk leave it
  pub number_left : (entry : Entry) (call : Call) → is_of_chunk call ≡ false → is_exit call ≡ false → Left (entry_step entry call s)
  number_left entry (Alloc n) other on = unless_left (alloc_refusal n s.account) (allocated n s) refl
  number_left entry (Free k) other on = frees k (get s.selectors k)
  number_left entry (Attach k) other on = attaches k (named_bytes (get s.selectors k))
  number_left entry (AttachAt k address) other on = attaches_at k address (named_bytes (get s.selectors k))
  number_left entry (Detach address) other on = unless_left (detach_refusal s.regions address) (region_detached address s) refl
  number_left entry (Peek address count) other on = unless_left (count_refusal count) (peeked count (found s address count) s) (peeks count (found s address count))
  number_left entry (Poke address bytes) other on = unless_left (count_refusal (length bytes)) (poked bytes (found s address (length bytes)) s) (pokes bytes (found s address (length bytes)))
  number_left entry Capalloc other on = unless_left (shortage s.account 0 1) (cap_allocated s) refl
  number_left entry (Capfree k) other on = frees_cap k (get s.selectors k)
  number_left entry (New n) other on = unless_left (heap_refusal n s.heap.shape s.account) (newed n s) (larges n (is_large n) other)
  number_left entry (Del address) other on = deletes address (get s.heap.payloads address)
  number_left entry (Snew n) other on = unless_left (sliced_refusal n s.account) (sliced_in n (own_heap_gap (sliced_size n) s) s) (slices n (own_heap_gap (sliced_size n) s))
  number_left entry (Sdel address) other on = unslices address (get s.sliced address)
  number_left entry Quota other on = refl
  number_left entry Reserve other on = refl
  number_left entry (Request text) other on = requests (arguments_of text)
  number_left entry (Yield text) other on = yields (arguments_of text)
  number_left entry (Open service text) other on = opens (wish entry.label entry.routes service text)
  number_left entry (Upgrade k text) other on = upgrades k (session_named (get s.selectors k)) (arguments_of text)
  number_left entry (CallSession k request) other on = serves k (session_named (get s.selectors k)) request
  number_left entry (Close k) other on = closes k (session_named (get s.selectors k))
  number_left entry Exit other on = absurd (true≢false on)

-- ---- a block of a chunk

module _ (n : ℕ) (entry : Entry) (s : OwnState) (reply : List ℕ) (left : Quotas) (account : Account) (small : n < 65536) (same : account ≡ s.account)
    (said : HasReply reply left (entry_step entry (New n) s)) where
  abbrev grown : Outcome
  grown = entry_step entry (New n) s

  tells_same : shows_growth reply account (quotas_account left) ≡ shows_growth (reply_text grown.reply) s.account grown.next.account
  tells_same = λ i. shows_growth (said.told i) (same i) (said.leaves i)

  is_small : is_large n ≡ false
  is_small = grind (arith, nat_tests, small)

  -- where no growth is told nothing is tested
  pub chunk_quiet : shows_growth reply account (quotas_account left) ≡ false → (entry_tests entry (New n) s ≡ []) × (grown.next.heap.shape.growth ≡ s.heap.shape.growth)
  chunk_quiet is = (chunk_tells n s is_small).quiet (sym tells_same ∙ is)

  -- and where one is, both sizes
  pub chunk_grows : shows_growth reply account (quotas_account left) ≡ true →
      (entry_tests entry (New n) s ≡ growth_tests n s.heap.shape s.account)
      × (grown.next.heap.shape.growth
      ≡ (if nat_lt account.caps_used left.caps_used.0 && nat_le (account.ram_used + (larger_growth n s.heap.shape).bytes) account.ram_limit
      then (larger_growth n s.heap.shape).next else s.heap.shape.growth))
  chunk_grows is =
      let tells = (chunk_tells n s is_small).grows (sym tells_same ∙ is) in
      let back : s.account ≡ account = sym same in
      let leaves : grown.next.account ≡ quotas_account left = sym said.leaves in (
        tells.0,
        tells.1 ∙ (λ i. if nat_lt (back i).caps_used (leaves i).caps_used && nat_le ((back i).ram_used + (larger_growth n s.heap.shape).bytes) (back i).ram_limit
            then (larger_growth n s.heap.shape).next else s.heap.shape.growth),
      )

-- what a meter has counted then
module _ (call : Call) (entry : Entry) (s : OwnState) (reply : List ℕ) (left : Quotas) (account : Account) (same : account ≡ s.account)
    (said : HasReply reply left (entry_step entry call s)) (start : Amounts) (before after : Shown) where
  abbrev all_of_it : Shown
  all_of_it = together before (shown_of start s.account (entry_tests entry call s))

  none_of_it : [] ≡ entry_tests entry call s → after ≡ before → after ≡ all_of_it
  none_of_it none still = still ∙ sym (together_nothing before) ∙ ap (λ each. together before (shown_of start s.account each)) none

  module _ (n : ℕ) (is : call ≡ New n) (small : n < 65536) where
    said_new : HasReply reply left (entry_step entry (New n) s)
    said_new = subst (λ x. HasReply reply left (entry_step entry x s)) is said

    pub grown_shown : shows_growth reply account (quotas_account left) ≡ true →
        after ≡ together before (shown_of start account (growth_tests n s.heap.shape account)) → after ≡ all_of_it
    grown_shown tells shown =
        shown ∙ (λ i. together before (shown_of start (same i) (growth_tests n s.heap.shape (same i))))
        ∙ ap (λ each. together before (shown_of start s.account each))
        (sym (chunk_grows n entry s reply left account small same said_new tells).0 ∙ ap (λ x. entry_tests entry x s) (sym is))

    pub grown_pages : (pages : ℕ) → shows_growth reply account (quotas_account left) ≡ true →
        pages ≡ (if nat_lt account.caps_used left.caps_used.0 && nat_le (account.ram_used + (larger_growth n s.heap.shape).bytes) account.ram_limit
        then (larger_growth n s.heap.shape).next else s.heap.shape.growth) →
        pages ≡ (entry_step entry call s).next.heap.shape.growth
    grown_pages pages tells is_so =
        is_so ∙ sym (chunk_grows n entry s reply left account small same said_new tells).1 ∙ ap (λ x. (entry_step entry x s).next.heap.shape.growth) (sym is)

    pub quiet_shown : shows_growth reply account (quotas_account left) ≡ false → after ≡ before → after ≡ all_of_it
    quiet_shown tells still =
        none_of_it (sym (chunk_quiet n entry s reply left account small same said_new tells).0 ∙ ap (λ x. entry_tests entry x s) (sym is)) still

    pub quiet_pages : (pages : ℕ) → shows_growth reply account (quotas_account left) ≡ false → pages ≡ s.heap.shape.growth →
        pages ≡ (entry_step entry call s).next.heap.shape.growth
    quiet_pages pages tells is_so =
        is_so ∙ sym (chunk_quiet n entry s reply left account small same said_new tells).1 ∙ ap (λ x. (entry_step entry x s).next.heap.shape.growth) (sym is)

  pub nothing_shown : amount_tests None ≡ entry_tests entry call s → after ≡ before → after ≡ all_of_it
  nothing_shown none still = none_of_it none still

  pub asked_shown : (asked : Budget) → amount_tests (Some asked) ≡ entry_tests entry call s →
      after ≡ together before (shown_of start account (test_of asked.ram asked.caps ∷ [])) → after ≡ all_of_it
  asked_shown asked tests shown =
      shown ∙ (λ i. together before (shown_of start (same i) (tests i)))

-- ---- a call that isn't answered

module _ (entry : Entry) (call : Call) (t : OwnState) where
  turned_by : (kind : Kind) → (is_script kind ≡ true → t.gone ≡ true) →
      (tests_unless (turned_away kind t) (entry_tests entry call t) ≡ []) × ((unless (turned_away kind t) t (entry_step entry call t)).next ≡ t)
  turned_by Server out = (refl, refl)
  turned_by Init out = (refl, refl)
  turned_by Script out = rw (out refl) (refl, refl)

  -- who is no script or is gone tests nothing, and stays
  pub turned : (is_script entry.kind ≡ true → t.gone ≡ true) → (tests entry call t ≡ []) × ((own_step entry call t).next ≡ t)
  turned out = turned_by entry.kind out

  there_by : (kind : Kind) → is_script kind ≡ true → t.gone ≡ false →
      (tests_unless (turned_away kind t) (entry_tests entry call t) ≡ entry_tests entry call t) × (unless (turned_away kind t) t (entry_step entry call t) ≡ entry_step entry call t)
  there_by Server is on = absurd (true≢false (sym is))
  there_by Init is on = absurd (true≢false (sym is))
  there_by Script is on = rw on (refl, refl)

  -- and who is there is answered
  pub there : is_script entry.kind ≡ true → t.gone ≡ false → (tests entry call t ≡ entry_tests entry call t) × (own_step entry call t ≡ entry_step entry call t)
  there is on = there_by entry.kind is on

none_by : (kind : Kind) (t : OwnState) → is_script kind ≡ true → t.gone ≡ false → turned_away kind t ≡ None
none_by Server t is on = absurd (true≢false (sym is))
none_by Init t is on = absurd (true≢false (sym is))
none_by Script t is on = rw on refl

gone_by : (b : Bool) (why : Option Refusal) (g : Bool) → why ≡ None → g ≡ false → cond (b && is_none why) true g ≡ b
gone_by true why g none on = rw none refl
gone_by false why g none on = on

-- who is there is gone by an exit alone
gone_next : (entry : Entry) (call : Call) (t : OwnState) → is_script entry.kind ≡ true → t.gone ≡ false → (own_step entry call t).next.gone ≡ is_exit call
gone_next entry call t is on = exits_alone entry call t ∙ gone_by (is_exit call) (turned_away entry.kind t) t.gone (none_by entry.kind t is on) on

-- ---- what was heard

module _ (entry : Entry) (calls : List Call) (call : Call) (budget : Amounts) (s : OwnState) where
  abbrev now : OwnState
  now = own_run entry calls (budgeted budget s)

  abbrev so_far : List Need
  so_far = needs entry budget calls (budgeted budget s)

  -- by who isn't answered
  pub unheard : (meter : AccountMeter) → (meter.is_script ≡ true → meter.is_gone ≡ true) → HasObserved entry calls budget s meter → HasObserved entry (calls ++ call ∷ []) budget s meter
  unheard meter out heard =
      let knows = heard.knows in
      let no = turned entry call now (λ is. sym knows.gone ∙ out (knows.script ∙ is)) in
      record {
        start = heard.start;
        shown =
            heard.shown ∙ sym (together_nothing (shown_by budget so_far))
            ∙ sym (ap (λ each. together (shown_by budget so_far) (shown_of budget now.account each)) no.0)
            ∙ sym (shown-more entry budget calls call (budgeted budget s));
        knows = subst (Knows meter entry) (sym (run-more entry calls call (budgeted budget s) ∙ no.1)) knows;
      }

  -- by who is
  pub heard : (old taken : AccountMeter) (reply : List ℕ) (left : Quotas) → HasObserved entry calls budget s old → old.is_script ≡ true → old.is_gone ≡ false →
      HasReply reply left (own_step entry call now) →
      (Stands old now → HasReply reply left (entry_step entry call now) →
      shown_in taken.meter ≡ together (shown_in old.meter) (shown_of (amounts_of old.meter.start) now.account (entry_tests entry call now))) →
      (Stands old now → HasReply reply left (entry_step entry call now) → is_exit call ≡ false → taken.pages ≡ (entry_step entry call now).next.heap.shape.growth) →
      taken.meter.start ≡ old.meter.start → taken.is_script ≡ old.is_script →
      HasObserved entry (calls ++ call ∷ []) budget s (record taken { account = left; is_gone = is_exit call })
  heard old taken reply left before is on told shown pages start script =
      let knows = before.knows in
      let here : now.gone ≡ false = sym knows.gone ∙ on in
      let scripted : is_script entry.kind ≡ true = sym knows.script ∙ is in
      let answered = there entry call now scripted here in
      let stands = knows.stands here in
      let each : entry_tests entry call now ≡ tests entry call now = sym answered.0 in
      let told_so : HasReply reply left (entry_step entry call now) = subst (HasReply reply left) answered.1 told in
      record {
        start = ap amounts_of start ∙ before.start;
        shown =
            shown stands told_so
            ∙ (λ i. together (before.shown i) (shown_of (before.start i) now.account (each i)))
            ∙ sym (shown-more entry budget calls call (budgeted budget s));
        knows = subst (Knows (record taken { account = left; is_gone = is_exit call }) entry) (sym (run-more entry calls call (budgeted budget s)))
            (record {
              script = script ∙ knows.script;
              gone = sym (gone_next entry call now scripted here);
              stands = λ stays. record {
                account = told.leaves;
                growth = pages stands told_so (sym (gone_next entry call now scripted here) ∙ stays) ∙ ap (λ o. o.next.heap.shape.growth) (sym answered.1);
              };
            });
      }

-- ---- before the first call

pub begun : (entry : Entry) (s : OwnState) (account : Quotas) (meter : AccountMeter) →
    amounts_of meter.meter.start ≡ record { ram = account.ram_limit.0; caps = account.caps_limit.0 } → shown_in meter.meter ≡ record { ram = 0; caps = 0; choice = 0 } →
    meter.is_script ≡ is_script entry.kind → meter.is_gone ≡ false → meter.account ≡ account → meter.pages ≡ 4 →
    s.gone ≡ false → quotas_account account ≡ s.account → s.heap.shape.growth ≡ 4 →
    HasObserved entry [] (record { ram = account.ram_limit.0; caps = account.caps_limit.0 }) s meter
begun entry s account meter start shown script gone kept pages here same growth = record {
  start = start;
  shown = shown;
  knows = record {
    script = script;
    gone = gone ∙ sym here;
    stands = λ _. record {
      account = ap quotas_account kept ∙ ap (limited (record { ram = account.ram_limit.0; caps = account.caps_limit.0 })) same;
      growth = pages ∙ sym growth;
    };
  };
}
