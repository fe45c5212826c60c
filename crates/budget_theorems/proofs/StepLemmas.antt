-- What a call does under another budget where its tests come out alike.
use Rattle.std.proofs.Common.{arith, ◌≡◌, ℕ, ◌+◌, ◌-◌, Bool, true, false, cond, List, [], ◌∷◌, length, nat_lt, refl, sym, ap, ◌∙◌, true≢false, subst, ◌&&◌}
use Rattle.std.specs.FinMap.{get}
use Rattle.std.specs.List.{AllByRecursion}
use Rattle.std.specs.Option.{option_or}
use Rattle.std.specs.Prelude.{Option, Some, None, Result, Ok, Err, nat_le}
use Rattle.trade_base.specs.Page.{page_of, is_valid_size}
use Rattle.trade_base.specs.declared.refusal.Refusal.{Refusal}
use Rattle.trade_base.specs.declared.refusal.Refusal.TheVariants.{InvalidSize, TooManyChunks, Gone}
use Rattle.own_model.proofs.StepLemmas.{covers}
use Rattle.own_model.specs.Account.{shortage, alloc_refusal}
use Rattle.own_model.specs.Amounts.{Amounts}
use Rattle.own_model.specs.BestFit.{Spot}
use Rattle.own_model.specs.Call.{Call}
use Rattle.own_model.specs.Call.Call.{Alloc, Free, Attach, AttachAt, Detach, Peek, Poke, Capalloc, Capfree, New, Del, Snew, Sdel, Quota, Reserve, Request, Yield, Open, Upgrade, CallSession, Close, Exit}
use Rattle.own_model.specs.Growth.{Growth, most_chunks, is_large, hole_for, least_growth, growth_of, small_refusal}
use Rattle.own_model.specs.OwnState.{OwnState, Object, named_bytes, session_named}
use Rattle.own_model.specs.OwnState.Object.{Dataspace, RpcObject, OpenSession, Buffer}
use Rattle.own_model.specs.OwnStep.{Outcome, refused, unless, turned_away, allocated, freed, attached_first, attached_at, with_region, region_detached, count_refusal, peeked, poked_at, payload_poked, block_poked, poked, cap_allocated, cap_freed, block_taken, grown_in, large_in, deleted, given_back, sliced_in, sliced_freed, own_heap_gap, small_new, reported_reserve, requested_by, yielded_by, opened_by, upgraded_by, session_called, session_closed, entry_step, own_step}
use Rattle.own_model.specs.Place.{Place, found}
use Rattle.own_model.specs.Place.Place.{InDataspace, InPayload, InBlock}
use Rattle.own_model.specs.Region.{most_regions, attach_refusal, attach_at_refusal, detach_refusal}
use Rattle.own_model.specs.Reserve.{reserve_account}
use Rattle.own_model.specs.Session.{Session, Wish, wish, donation_refusal, too_small}
use Rattle.own_model.specs.SessionArgs.{Arguments, arguments_of}
use Rattle.own_model.specs.Sliced.{sliced_header, sliced_size, sliced_refusal}
use Rattle.own_model.specs.StartList.{Entry, Kind}
use Rattle.own_model.specs.StartList.Kind.{Script, Server, Init}
use Rattle.own_model.proofs.ListLemmas.{all_then}
use Rattle.budget_theorems.proofs.TestLemmas.{IsAlike, short_alike, sized_alike, least_alike, growth_alike, alike_of, less_alike}
use Rattle.budget_theorems.specs.Need.{budgeted, need_of, ComesOutAlike}
use Rattle.budget_theorems.specs.Test.{Test, test_of, small_tests, growth_tests, arguments_tests, donation_tests, upgrade_tests, entry_tests, tests_unless, tests}
use Rattle.budget_theorems.specs.Shortfall.{but_limits}

-- the limits of a component's account
abbrev pub limits_of : OwnState → Amounts
limits_of s = record { ram = s.account.ram_limit; caps = s.account.caps_limit }

-- a state is another's but for the limits, which are as far above the one start budget as those are above the other; who has
-- exited has none
pub record Moved (one other : Amounts) (s t : OwnState) : Type 0 where
  pub same : t ≡ budgeted (limits_of t) s
  pub ram : s.gone ≡ false → t.account.ram_limit + one.ram ≡ s.account.ram_limit + other.ram
  pub caps : s.gone ≡ false → t.account.caps_limit + one.caps ≡ s.account.caps_limit + other.caps

-- an outcome is another but for limits
pub record Agrees (one other : Amounts) (o p : Outcome) : Type 0 where
  pub reply : but_limits p.reply ≡ but_limits o.reply
  pub lines : p.lines ≡ o.lines
  pub next : Moved one other o.next p.next

module _ (one other m : Amounts) (s : OwnState) (ram : m.ram + one.ram ≡ s.account.ram_limit + other.ram) (caps : m.caps + one.caps ≡ s.account.caps_limit + other.caps) where
  -- the state under the other budget
  abbrev t : OwnState
  t = budgeted m s

  abbrev Same : Outcome → Outcome → Type 0
  Same o p = Agrees one other o p

  abbrev moved : Outcome → Outcome
  moved o = record { reply = o.reply; lines = o.lines; next = budgeted m o.next }

  -- an outcome that leaves the limits
  stays : (o : Outcome) → o.next.account.ram_limit ≡ s.account.ram_limit → o.next.account.caps_limit ≡ s.account.caps_limit → Same o (moved o)
  stays o ram_stays caps_stays = record {
    reply = refl;
    lines = refl;
    next = record { same = refl; ram = λ _. ram ∙ ap (λ x. x + other.ram) (sym ram_stays); caps = λ _. caps ∙ ap (λ x. x + other.caps) (sym caps_stays) };
  }

  refuses : (why : Refusal) → Same (refused s why) (refused t why)
  refuses why = stays (refused s why) refl refl

  -- refused for the same reason, or accepted alike
  unless_by : (why : Option Refusal) (o p : Outcome) → (why ≡ None → Same o p) → Same (unless why s o) (unless why t p)
  unless_by (Some why) o p go = refuses why
  unless_by None o p go = go refl

  unless_agrees : (why why_then : Option Refusal) (o p : Outcome) → why_then ≡ why → (why ≡ None → Same o p) → Same (unless why s o) (unless why_then t p)
  unless_agrees why why_then o p same go = subst (λ w. Same (unless why s o) (unless w t p)) (sym same) (unless_by why o p go)

  -- ---- calls that test nothing

  frees : (k : ℕ) (o : Option Object) → Same (freed k o s) (freed k o t)
  frees k (Some (Dataspace bytes)) = stays (freed k (Some (Dataspace bytes)) s) refl refl
  frees k (Some RpcObject) = stays (freed k (Some RpcObject) s) refl refl
  frees k (Some (OpenSession session)) = stays (freed k (Some (OpenSession session)) s) refl refl
  frees k (Some (Buffer of bytes)) = stays (freed k (Some (Buffer of bytes)) s) refl refl
  frees k None = stays (freed k None s) refl refl

  frees_cap : (k : ℕ) (o : Option Object) → Same (cap_freed k o s) (cap_freed k o t)
  frees_cap k (Some (Dataspace bytes)) = stays (cap_freed k (Some (Dataspace bytes)) s) refl refl
  frees_cap k (Some RpcObject) = stays (cap_freed k (Some RpcObject) s) refl refl
  frees_cap k (Some (OpenSession session)) = stays (cap_freed k (Some (OpenSession session)) s) refl refl
  frees_cap k (Some (Buffer of bytes)) = stays (cap_freed k (Some (Buffer of bytes)) s) refl refl
  frees_cap k None = stays (cap_freed k None s) refl refl

  attaches : (k : ℕ) (bytes : Option (List ℕ)) → Same (attached_first k bytes s) (attached_first k bytes t)
  attaches k None = stays (attached_first k None s) refl refl
  attaches k (Some bytes) = unless_by (attach_refusal most_regions s.regions _) _ _ (λ _. stays (with_region k _ _ s) refl refl)

  attaches_at : (k address : ℕ) (bytes : Option (List ℕ)) → Same (attached_at k address bytes s) (attached_at k address bytes t)
  attaches_at k address None = stays (attached_at k address None s) refl refl
  attaches_at k address (Some bytes) = unless_by (attach_at_refusal most_regions s.regions _ address) _ _ (λ _. stays (with_region k _ address s) refl refl)

  peeks : (count : ℕ) (place : Option Place) → Same (peeked count place s) (peeked count place t)
  peeks count None = stays (peeked count None s) refl refl
  peeks count (Some (InDataspace k offset)) = stays (peeked count (Some (InDataspace k offset)) s) refl refl
  peeks count (Some (InPayload address offset)) = stays (peeked count (Some (InPayload address offset)) s) refl refl
  peeks count (Some (InBlock address offset)) = stays (peeked count (Some (InBlock address offset)) s) refl refl

  pokes_at : (k offset : ℕ) (bytes : List ℕ) (o : Option Object) → Same (poked_at k offset bytes o s) (poked_at k offset bytes o t)
  pokes_at k offset bytes None = stays (poked_at k offset bytes None s) refl refl
  pokes_at k offset bytes (Some object) = stays (poked_at k offset bytes (Some object) s) refl refl

  pokes_payload : (k offset : ℕ) (bytes : List ℕ) (o : Option (List ℕ)) → Same (payload_poked k offset bytes o s) (payload_poked k offset bytes o t)
  pokes_payload k offset bytes None = stays (payload_poked k offset bytes None s) refl refl
  pokes_payload k offset bytes (Some payload) = stays (payload_poked k offset bytes (Some payload) s) refl refl

  pokes_block : (k offset : ℕ) (bytes : List ℕ) (o : Option (List ℕ)) → Same (block_poked k offset bytes o s) (block_poked k offset bytes o t)
  pokes_block k offset bytes None = stays (block_poked k offset bytes None s) refl refl
  pokes_block k offset bytes (Some payload) = stays (block_poked k offset bytes (Some payload) s) refl refl

  pokes : (bytes : List ℕ) (place : Option Place) → Same (poked bytes place s) (poked bytes place t)
  pokes bytes None = stays (poked bytes None s) refl refl
  pokes bytes (Some (InDataspace k offset)) = pokes_at k offset bytes (get s.selectors k)
  pokes bytes (Some (InPayload address offset)) = pokes_payload address offset bytes (get s.sliced address)
  pokes bytes (Some (InBlock address offset)) = pokes_block address offset bytes (get s.heap.payloads address)

  gives_back : (address : ℕ) (large : Option ℕ) → Same (given_back address large s) (given_back address large t)
  gives_back address None = stays (given_back address None s) refl refl
  gives_back address (Some bytes) = stays (given_back address (Some bytes) s) refl refl

  deletes : (address : ℕ) (payload : Option (List ℕ)) → Same (deleted address payload s) (deleted address payload t)
  deletes address None = stays (deleted address None s) refl refl
  deletes address (Some payload) = gives_back address (get s.heap.large address)

  unslices : (address : ℕ) (payload : Option (List ℕ)) → Same (sliced_freed address payload s) (sliced_freed address payload t)
  unslices address None = stays (sliced_freed address None s) refl refl
  unslices address (Some payload) = stays (sliced_freed address (Some payload) s) refl refl

  calls : (k : ℕ) (session : Option Session) (request : List ℕ) → Same (session_called k session request s) (session_called k session request t)
  calls k None request = stays (session_called k None request s) refl refl
  calls k (Some session) request = stays (session_called k (Some session) request s) refl refl

  -- ---- calls that move limits

  raises : (x : ℕ) (a b c d : ℕ) → a + b ≡ c + d → a + x + b ≡ c + x + d
  raises x a b c d same = omega (arith, same)

  requests : (arguments : Option Arguments) → Same (requested_by arguments s) (requested_by arguments t)
  requests None = stays (requested_by None s) refl refl
  requests (Some more) = unless_by (shortage (reserve_account s.reserve) more.ram more.caps) _ _ (λ _. record {
    reply = refl;
    lines = refl;
    next = record {
      same = refl;
      ram = λ _. raises more.ram m.ram one.ram s.account.ram_limit other.ram ram;
      caps = λ _. raises more.caps m.caps one.caps s.account.caps_limit other.caps caps;
    };
  })

  closes : (k : ℕ) (session : Option Session) → Same (session_closed k session s) (session_closed k session t)
  closes k None = stays (session_closed k None s) refl refl
  closes k (Some session) = record {
    reply = refl;
    lines = refl;
    next = record {
      same = refl;
      ram = λ _. raises session.account.ram_limit m.ram one.ram s.account.ram_limit other.ram ram;
      caps = λ _. raises session.account.caps_limit m.caps one.caps s.account.caps_limit other.caps caps;
    };
  }

  parted_ram : (x y : ℕ) → shortage s.account x y ≡ None → shortage t.account x y ≡ None → m.ram - x + one.ram ≡ s.account.ram_limit - x + other.ram
  parted_ram x y fits fits_then = less_alike x s.account.ram_used m.ram one.ram s.account.ram_limit other.ram ram (covers t.account x y fits_then).ram_fits (covers s.account x y fits).ram_fits

  parted_caps : (x y : ℕ) → shortage s.account x y ≡ None → shortage t.account x y ≡ None → m.caps - y + one.caps ≡ s.account.caps_limit - y + other.caps
  parted_caps x y fits fits_then = less_alike y s.account.caps_used m.caps one.caps s.account.caps_limit other.caps caps (covers t.account x y fits_then).caps_fit (covers s.account x y fits).caps_fit

  abbrev Alike : List Test → Type 0
  Alike each = AllByRecursion (IsAlike m s.account) each

  yields : (arguments : Option Arguments) → Alike (arguments_tests arguments) → Same (yielded_by arguments s) (yielded_by arguments t)
  yields None each = stays (yielded_by None s) refl refl
  yields (Some more) each =
      let same = short_alike m s.account (test_of more.ram more.caps) each.0 in
      unless_agrees (shortage s.account more.ram more.caps) (shortage t.account more.ram more.caps) _ _ same (λ fits. record {
        reply = refl;
        lines = refl;
        next = record {
          same = refl;
          ram = λ _. parted_ram more.ram more.caps fits (same ∙ fits);
          caps = λ _. parted_caps more.ram more.caps fits (same ∙ fits);
        };
      })

  upgrades : (k : ℕ) (session : Option Session) (arguments : Option Arguments) → Alike (upgrade_tests session arguments) →
      Same (upgraded_by k session arguments s) (upgraded_by k session arguments t)
  upgrades k None arguments each = stays (upgraded_by k None arguments s) refl refl
  upgrades k (Some session) None each = stays (upgraded_by k (Some session) None s) refl refl
  upgrades k (Some session) (Some more) each =
      let same = short_alike m s.account (test_of more.ram more.caps) each.0 in
      unless_agrees (shortage s.account more.ram more.caps) (shortage t.account more.ram more.caps) _ _ same (λ fits. record {
        reply = refl;
        lines = refl;
        next = record {
          same = refl;
          ram = λ _. parted_ram more.ram more.caps fits (same ∙ fits);
          caps = λ _. parted_caps more.ram more.caps fits (same ∙ fits);
        };
      })

  -- neither of two reasons
  first_none : (a b : Option Refusal) → option_or a b ≡ None → a ≡ None
  first_none None b none = refl
  first_none (Some why) b none = cc

  opens : (asked : Result Wish Refusal) → Alike (donation_tests asked) → Same (opened_by asked s) (opened_by asked t)
  opens (Err why) each = refuses why
  opens (Ok wish) each =
      let same = short_alike m s.account (test_of wish.ram wish.caps) each.0 in
      unless_agrees (donation_refusal s.account wish.ram wish.caps) (donation_refusal t.account wish.ram wish.caps) _ _ (ap (λ why. option_or why (too_small wish.ram wish.caps)) same) (λ none.
      let fits = first_none (shortage s.account wish.ram wish.caps) (too_small wish.ram wish.caps) none in
      record {
        reply = refl;
        lines = refl;
        next = record {
          same = refl;
          ram = λ _. parted_ram wish.ram wish.caps fits (same ∙ fits);
          caps = λ _. parted_caps wish.ram wish.caps fits (same ∙ fits);
        };
      })

  -- ---- calls that are charged

  larges : (n : ℕ) (gap : Option ℕ) → Same (large_in n gap s) (large_in n gap t)
  larges n None = stays (large_in n None s) refl refl
  larges n (Some start) = stays (large_in n (Some start) s) refl refl

  grows : (n : ℕ) (growth : Growth) (gap : Option ℕ) → Same (grown_in n growth gap s) (grown_in n growth gap t)
  grows n growth None = stays (grown_in n growth None s) refl refl
  grows n growth (Some start) = stays (grown_in n growth (Some start) s) refl refl

  slices : (n : ℕ) (gap : Option ℕ) → Same (sliced_in n gap s) (sliced_in n gap t)
  slices n None = stays (sliced_in n None s) refl refl
  slices n (Some start) = stays (sliced_in n (Some start) s) refl refl

  abbrev grown : ℕ → Growth → OwnState → Outcome
  grown n growth x = grown_in n growth (own_heap_gap growth.bytes x) x

  grown_agrees : (n : ℕ) (growth growth_then : Growth) → growth_then ≡ growth → Same (grown n growth s) (grown n growth_then t)
  grown_agrees n growth growth_then same = subst (λ g. Same (grown n growth s) (grown n g t)) (sym same) (grows n growth (own_heap_gap growth.bytes s))

  chunks : (n : ℕ) (full : Bool) → Alike (cond full [] (growth_tests n s.heap.shape s.account)) →
      Same (unless (cond full (Some TooManyChunks) (shortage s.account (least_growth n s.heap.shape).bytes 1)) s (grown n (growth_of n s.heap.shape s.account) s))
      (unless (cond full (Some TooManyChunks) (shortage t.account (least_growth n s.heap.shape).bytes 1)) t (grown n (growth_of n s.heap.shape t.account) t))
  chunks n true each = refuses TooManyChunks
  chunks n false each =
      unless_agrees (shortage s.account (least_growth n s.heap.shape).bytes 1) (shortage t.account (least_growth n s.heap.shape).bytes 1) _ _ (least_alike m s.account n s.heap.shape each)
      (λ _. grown_agrees n (growth_of n s.heap.shape s.account) (growth_of n s.heap.shape t.account) (growth_alike m s.account n s.heap.shape each))

  smalls : (n : ℕ) (hole : Option Spot) → Alike (small_tests n hole s.heap.shape s.account) →
      Same (unless (small_refusal n hole s.heap.shape s.account) s (small_new n hole s)) (unless (small_refusal n hole s.heap.shape t.account) t (small_new n hole t))
  smalls n (Some hole) each = stays (block_taken n hole s) refl refl
  smalls n None each = chunks n (nat_le most_chunks (length s.heap.shape.chunks)) each

  news : (n : ℕ) (valid large : Bool) →
      Alike (cond valid (cond large (test_of (page_of n) 1 ∷ []) (small_tests n (hole_for n s.heap.shape) s.heap.shape s.account)) []) →
      Same (unless (cond valid (cond large (shortage s.account (page_of n) 1) (small_refusal n (hole_for n s.heap.shape) s.heap.shape s.account)) (Some InvalidSize)) s
      (cond large (large_in n (own_heap_gap (page_of n) s) s) (small_new n (hole_for n s.heap.shape) s)))
      (unless (cond valid (cond large (shortage t.account (page_of n) 1) (small_refusal n (hole_for n s.heap.shape) s.heap.shape t.account)) (Some InvalidSize)) t
      (cond large (large_in n (own_heap_gap (page_of n) t) t) (small_new n (hole_for n s.heap.shape) t)))
  news n false large each = refuses InvalidSize
  news n true true each = unless_agrees (shortage s.account (page_of n) 1) (shortage t.account (page_of n) 1) _ _ (short_alike m s.account (test_of (page_of n) 1) each.0) (λ _. larges n (own_heap_gap (page_of n) s))
  news n true false each = smalls n (hole_for n s.heap.shape) each

  -- ---- all calls

  pub entry_agrees : (entry : Entry) (call : Call) → Alike (entry_tests entry call s) → Same (entry_step entry call s) (entry_step entry call t)
  entry_agrees entry (Alloc n) each =
      unless_agrees (alloc_refusal n s.account) (alloc_refusal n t.account) _ _ (sized_alike m s.account (is_valid_size n) (test_of (page_of n) 1) InvalidSize each) (λ _. stays (allocated n s) refl refl)
  entry_agrees entry (Free k) each = frees k (get s.selectors k)
  entry_agrees entry (Attach k) each = attaches k (named_bytes (get s.selectors k))
  entry_agrees entry (AttachAt k address) each = attaches_at k address (named_bytes (get s.selectors k))
  entry_agrees entry (Detach address) each = unless_by (detach_refusal s.regions address) _ _ (λ _. stays (region_detached address s) refl refl)
  entry_agrees entry (Peek address count) each = unless_by (count_refusal count) _ _ (λ _. peeks count (found s address count))
  entry_agrees entry (Poke address bytes) each = unless_by (count_refusal (length bytes)) _ _ (λ _. pokes bytes (found s address (length bytes)))
  entry_agrees entry Capalloc each =
      unless_agrees (shortage s.account 0 1) (shortage t.account 0 1) _ _ (short_alike m s.account (test_of 0 1) each.0) (λ _. stays (cap_allocated s) refl refl)
  entry_agrees entry (Capfree k) each = frees_cap k (get s.selectors k)
  entry_agrees entry (New n) each = news n (is_valid_size n) (is_large n) each
  entry_agrees entry (Del address) each = deletes address (get s.heap.payloads address)
  entry_agrees entry (Snew n) each =
      unless_agrees (sliced_refusal n s.account) (sliced_refusal n t.account) _ _
      (sized_alike m s.account (nat_lt 0 n && is_valid_size (sliced_header + n)) (test_of (sliced_size n) 1) InvalidSize each) (λ _. slices n (own_heap_gap (sliced_size n) s))
  entry_agrees entry (Sdel address) each = unslices address (get s.sliced address)
  entry_agrees entry Quota each = record { reply = refl; lines = refl; next = record { same = refl; ram = λ _. ram; caps = λ _. caps } }
  entry_agrees entry Reserve each = stays (reported_reserve s) refl refl
  entry_agrees entry (Request text) each = requests (arguments_of text)
  entry_agrees entry (Yield text) each = yields (arguments_of text) each
  entry_agrees entry (Open service text) each = opens (wish entry.label entry.routes service text) each
  entry_agrees entry (Upgrade k text) each = upgrades k (session_named (get s.selectors k)) (arguments_of text) each
  entry_agrees entry (CallSession k request) each = calls k (session_named (get s.selectors k)) request
  entry_agrees entry (Close k) each = closes k (session_named (get s.selectors k))
  entry_agrees entry Exit each = record { reply = refl; lines = refl; next = record { same = refl; ram = λ e. absurd (true≢false e); caps = λ e. absurd (true≢false e) } }

-- ---- turned away or not

-- who isn't turned away hasn't exited
pub here_when : (kind : Kind) (s : OwnState) → turned_away kind s ≡ None → s.gone ≡ false
here_when Server s none = cc
here_when Init s none = cc
here_when Script s none = elim s.gone as (λ b. cond b (Some Gone) None ≡ None → b ≡ false) [ true ↦ λ e. cc | false ↦ λ _. refl ] none

-- a budget turns nobody away
pub turned_alike : (kind : Kind) (m : Amounts) (s : OwnState) → turned_away kind (budgeted m s) ≡ turned_away kind s
turned_alike Server m s = refl
turned_alike Init m s = refl
turned_alike Script m s = refl

module _ (one other : Amounts) (entry : Entry) (call : Call) (s : OwnState) where
  -- the tests of a call that isn't turned away come out alike
  abbrev EachAlike : List Test → Type 0
  EachAlike each = AllByRecursion (λ test. ComesOutAlike one other (need_of one s.account test)) each

  agrees_by : (m : Amounts) → Moved one other s (budgeted m s) → (why : Option Refusal) → (why ≡ None → s.gone ≡ false) → EachAlike (tests_unless why (entry_tests entry call s)) →
      Agrees one other (unless why s (entry_step entry call s)) (unless why (budgeted m s) (entry_step entry call (budgeted m s)))
  agrees_by m before (Some why) here each = record { reply = refl; lines = refl; next = before }
  agrees_by m before None here each =
      let ram = before.ram (here refl) in
      let caps = before.caps (here refl) in
      entry_agrees one other m s ram caps entry call
      (all_then (λ test. ComesOutAlike one other (need_of one s.account test)) (IsAlike m s.account) (entry_tests entry call s) (alike_of one other m s.account ram caps) each)

  agrees_at : (m : Amounts) → Moved one other s (budgeted m s) → EachAlike (tests entry call s) → Agrees one other (own_step entry call s) (own_step entry call (budgeted m s))
  agrees_at m before each =
      subst (λ why. Agrees one other (own_step entry call s) (unless why (budgeted m s) (entry_step entry call (budgeted m s)))) (sym (turned_alike entry.kind m s))
      (agrees_by m before (turned_away entry.kind s) (here_when entry.kind s) each)

  -- a call whose tests come out alike
  pub own_agrees : (t : OwnState) → Moved one other s t → EachAlike (tests entry call s) → Agrees one other (own_step entry call s) (own_step entry call t)
  own_agrees t before each =
      subst (λ x. Agrees one other (own_step entry call s) (own_step entry call x)) (sym before.same)
      (agrees_at (limits_of t) (record { same = refl; ram = before.ram; caps = before.caps }) each)
