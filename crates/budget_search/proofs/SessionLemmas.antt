-- The run of a session on a core, by a client that has no other.
use Rattle.std.proofs.lemmas.List.{drop_all}
use Rattle.std.proofs.lemmas.Option.{none-some, same_Some}
use Rattle.std.proofs.Common.{arith, cond, ◌||◌, ◌≡◌, ℕ, ◌+◌, ◌<◌, ◌≤◌, Bool, true, false, true≢false, List, [], ◌∷◌, length, drop, get_or, drop-cons, add-one, refl, sym, ap, ◌∙◌, subst, get_or-set_same, length-set}
use Rattle.std.specs.Prelude.{Option, Some, None, is_some, slice_get, codes, IfOk, OnOk, Result, Ok, Err}
use Rattle.std.specs.FinMap as map
use Rattle.std.specs.FinMap.{get}
use Rattle.std.specs.Option.{option_and_then, option_map}
use Rattle.std.specs.Str.{bytes_eq}
use Rattle.own_model.proofs.NatMapLemmas.{get-empty}
use Rattle.own_model.specs.Amounts.{Amounts}
use Rattle.own_model.specs.Call.{Call}
use Rattle.own_model.specs.Call.Call.{Open, Upgrade, CallSession, Close}
use Rattle.own_model.specs.NatMap.{NatMap}
use Rattle.own_model.specs.ObjectKinds.{ObjectKind}
use Rattle.own_model.specs.OwnState.{OwnState, Object, NamedBuffer, bytes_of_buffer, new_selector, session_named}
use Rattle.own_model.specs.OwnStep.{Outcome, upgraded_by, opened_by, own_step, entry_step, session_served, session_closed, session_upgraded, session_opened}
use Rattle.own_model.specs.Reply.{reply_text}
use Rattle.own_model.specs.Session.{Session, Wish, Served, served, upgraded, new_session, offer_of, too_small, wish, resolved_request, routed_request}
use Rattle.own_model.specs.SessionArgs.{Arguments, arguments_of}
use Rattle.own_model.specs.Routes.{Level, ServerAt, provider}
use Rattle.own_model.specs.StartList.{Entry}
use Rattle.own_model.specs.Transcript.{entry_at, state_at, nothing}
use Rattle.own_model.specs.World.{World, outcome_at, with_state}
use Rattle.core_calls.specs.Quotas.{quotas_account}
use Rattle.object_kinds.specs.Offered.{offered_kinds}
use Rattle.core_calls.specs.declared.quotas.Quotas.{Quotas}
use Rattle.budget_meter.proofs.HeardLemmas.{there}
use Rattle.budget_meter.proofs.SessionLemmas.{all_left, none_left}
use Rattle.budget_meter.specs.Metered.{is_script}
use Rattle.budget_theorems.specs.Test.{arguments_tests, test_of}
use Rattle.budget_meter.specs.NeededAmounts.{amount_tests}
use Rattle.budget_meter.specs.Needs.{amounts_of, shown_by, shown_in}
use Rattle.budget_meter.specs.SessionRuns.{Sent, opens_none, opening_need, run_needs, run_in_want, opened_needs, opened_in_want}
use Rattle.budget_meter.specs.SessionRuns.Sent.{Asks, Raises}
use Rattle.budget_meter.specs.Sessions.{IsLeft, IsServedBy, HasReached, Shows}
use Rattle.budget_meter.specs.declared.budget.Budget.{Budget}
use Rattle.budget_meter.specs.declared.session.SessionMeter.{SessionMeter}
use Rattle.budget_search.specs.BudgetIntervals.{IsRun}
use Rattle.budget_search.specs.OpenedSessions.{HasEnded, HasLeft, HasSelectors, IsReady, held, made_by, sent_at, sent_by, is_too_small}
use Rattle.budget_search.specs.RunLines.{RunLines, ended_by}
use Rattle.budget_search.specs.SessionLines.{donated_shortage, lines_opening, refused_line}
use Rattle.budget_search.specs.declared.component_line.ComponentLine.{ComponentLine}
use Rattle.budget_search.specs.declared.trial.BudgetTrial.{BudgetTrial}
use Rattle.budget_search.proofs.HeldLemmas.{named_of, bytes_back, named_there, called, called_has, closed, closed_has, raised, raised_has, opens, opened_has, small_told}

-- ---- one call

mapped : {X Y : Type 0} (f : X → Y) (o : Option X) → is_some (option_map f o) ≡ is_some o
mapped f None = refl
mapped f (Some x) = refl

module _ (world after : World) (client : ℕ) (call : Call) (reply : List ℕ) (told : reply ≡ reply_text (outcome_at world client call).reply)
    (stepped : after ≡ with_state world client (outcome_at world client call).next) (selectors : NatMap Object) (has : HasSelectors world client selectors) where
  abbrev entry : Entry
  entry = entry_at world.entries client

  abbrev s : OwnState
  s = state_at world.states client

  abbrev next : OwnState
  next = (own_step entry call s).next

  pub stands : state_at after.states client ≡ next
  stands = ap (λ w. state_at w.states client) stepped ∙ get_or-set_same world.states client next nothing has.there

  -- it is answered as a script that is there
  pub answered : own_step entry call s ≡ entry_step entry call s
  answered = (there entry call s (ap is_script has.script) has.here).1

  -- and has these selectors then
  pub moved : (then_it : NatMap Object) → next.gone ≡ false → next.selectors ≡ then_it → HasSelectors after client then_it
  moved then_it here is =
      let same : after.entries ≡ world.entries = ap (λ w. w.entries) stepped in
      record {
        script = ap (λ es. (entry_at es client).kind) same ∙ has.script;
        entry = subst (λ es. client < length es) (sym same) has.entry;
        there = subst (λ w. client < length w.states) (sym stepped) (omega (arith, has.there, length-set world.states client next));
        here = ap (λ t. t.gone) stands ∙ here;
        selectors = ap (λ t. t.selectors) stands ∙ is;
      }

-- ---- a request

module _ (world after : World) (client : ℕ) (selector : ℕ) (request reply : List ℕ) (told : reply ≡ reply_text (outcome_at world client (CallSession 1 request)).reply)
    (stepped : after ≡ with_state world client (outcome_at world client (CallSession 1 request)).next) (left : Quotas)
    (account : Some (quotas_account left) ≡ option_map (λ (s : Session). s.account) (session_named (get (state_at after.states client).selectors 1)))
    (sent rest : List Sent) (session : Session) (donation : Amounts) (old new : SessionMeter)
    (before : HasLeft world client old sent (Asks request ∷ rest) session donation) where
  abbrev call : Call
  call = CallSession 1 request

  abbrev state : OwnState
  state = state_at world.states client

  abbrev own : Entry
  own = entry_at world.entries client

  abbrev o : Served
  o = served before.buffer before.now request

  abbrev named : Option NamedBuffer
  named = named_of before.buffer

  outcome : own_step own call state ≡ session_served 1 named o state
  outcome = answered world after client call reply told stepped (held before.now before.buffer) before.has ∙ called state before.now before.buffer before.has.selectors request

  pub has_then : HasSelectors after client (held o.session o.buffer)
  has_then =
      moved world after client call reply told stepped (held before.now before.buffer) before.has (held o.session o.buffer)
      (ap (λ (x : Outcome). x.next.gone) outcome ∙ before.has.here)
      (ap (λ (x : Outcome). x.next.selectors) outcome ∙ called_has state before.now before.buffer before.has.selectors o)

  pub served_so : IsServedBy reply left named o
  served_so = record {
    selector = new_selector state.selectors;
    told = told ∙ ap (λ (x : Outcome). reply_text x.reply) outcome;
    leaves = same_Some (quotas_account left) o.session.account
        (account ∙ ap (λ m. option_map (λ (x : Session). x.account) (session_named (get m 1))) has_then.selectors
        ∙ ap (option_map (λ (x : Session). x.account)) (named_there o.session o.buffer));
  }

  abbrev by : Option (List ℕ) → Served
  by buffer = served buffer before.now request

  -- goes on
  pub asked_on :
      (IsLeft sent (Asks request ∷ rest) donation session (bytes_of_buffer named) before.now old → IsServedBy reply left named (by (bytes_of_buffer named)) →
      IsLeft sent rest donation session (by (bytes_of_buffer named)).buffer (by (bytes_of_buffer named)).session new) →
      HasLeft after client new sent rest session donation
  asked_on follows = record {
    now = o.session;
    buffer = o.buffer;
    has = has_then;
    left =
        subst (λ buffer. IsLeft sent rest donation session (by buffer).buffer (by buffer).session new) (bytes_back before.buffer)
        (follows (subst (λ buffer. IsLeft sent (Asks request ∷ rest) donation session buffer before.now old) (sym (bytes_back before.buffer)) before.left)
        (subst (λ buffer. IsServedBy reply left named (by buffer)) (sym (bytes_back before.buffer)) served_so));
  }

  -- or ends
  pub asked_end :
      (IsLeft sent (Asks request ∷ rest) donation session (bytes_of_buffer named) before.now old → IsServedBy reply left named (by (bytes_of_buffer named)) →
      Shows sent session donation true new.meter) →
      HasEnded after client sent session donation true new.meter
  asked_end follows = record {
    now = o.session;
    buffer = o.buffer;
    has = has_then;
    shows =
        follows (subst (λ buffer. IsLeft sent (Asks request ∷ rest) donation session buffer before.now old) (sym (bytes_back before.buffer)) before.left)
        (subst (λ buffer. IsServedBy reply left named (by buffer)) (sym (bytes_back before.buffer)) served_so);
  }

-- ---- more that is donated

module _ (world after : World) (client : ℕ) (text reply : List ℕ) (told : reply ≡ reply_text (outcome_at world client (Upgrade 1 text)).reply)
    (stepped : after ≡ with_state world client (outcome_at world client (Upgrade 1 text)).next) (left : Quotas)
    (account : Some (quotas_account left) ≡ option_map (λ (s : Session). s.account) (session_named (get (state_at after.states client).selectors 1)))
    (done : bytes_eq reply (codes "ok") ≡ true) (more : Arguments) (reads : arguments_of text ≡ Some more)
    (sent rest : List Sent) (session : Session) (donation : Amounts) (old new : SessionMeter)
    (before : HasLeft world client old sent (Raises (record { ram = more.ram; caps = more.caps }) ∷ rest) session donation) where
  abbrev up : Call
  up = Upgrade 1 text

  abbrev here : OwnState
  here = state_at world.states client

  abbrev raised_to : Session
  raised_to = upgraded before.now more.ram more.caps

  entered : own_step (entry_at world.entries client) up here ≡ entry_step (entry_at world.entries client) (Upgrade 1 text) here
  entered = answered world after client up reply told stepped (held before.now before.buffer) before.has

  upgrades : own_step (entry_at world.entries client) up here ≡ session_upgraded 1 before.now more here
  upgrades =
      entered ∙ ap (λ a. upgraded_by 1 (session_named (get here.selectors 1)) a here) reads
      ∙ raised here before.now before.buffer before.has.selectors more
      (sym (ap (λ a. bytes_eq (reply_text (upgraded_by 1 (session_named (get here.selectors 1)) a here).reply) (codes "ok")) reads)
      ∙ sym (ap (λ (x : Outcome). bytes_eq (reply_text x.reply) (codes "ok")) entered) ∙ sym (ap (λ t. bytes_eq t (codes "ok")) told) ∙ done)

  pub has_raised : HasSelectors after client (held raised_to before.buffer)
  has_raised =
      moved world after client up reply told stepped (held before.now before.buffer) before.has (held raised_to before.buffer)
      (ap (λ (x : Outcome). x.next.gone) upgrades ∙ before.has.here)
      (ap (λ (x : Outcome). x.next.selectors) upgrades ∙ raised_has here before.now before.buffer before.has.selectors more)

  pub raised_leaves : quotas_account left ≡ raised_to.account
  raised_leaves =
      same_Some (quotas_account left) raised_to.account
      (account ∙ ap (λ m. option_map (λ (x : Session). x.account) (session_named (get m 1))) has_raised.selectors
      ∙ ap (option_map (λ (x : Session). x.account)) (named_there raised_to before.buffer))

  pub raises_on :
      (IsLeft sent (Raises (record { ram = more.ram; caps = more.caps }) ∷ rest) donation session before.buffer before.now old → quotas_account left ≡ raised_to.account →
      IsLeft sent rest donation session before.buffer raised_to new) →
      HasLeft after client new sent rest session donation
  raises_on follows = record {
    now = raised_to;
    buffer = before.buffer;
    has = has_raised;
    left = follows before.left raised_leaves;
  }

-- ---- the end

-- once it is closed its client is as before
pub closes : (world after : World) (client : ℕ) (reply : List ℕ) → reply ≡ reply_text (outcome_at world client (Close 1)).reply → after ≡ with_state world client (outcome_at world client (Close 1)).next →
    (now : Session) (buffer : Option (List ℕ)) → HasSelectors world client (held now buffer) → IsReady after client
closes world after client reply told stepped now buffer has =
    let t = state_at world.states client in
    let is : own_step (entry_at world.entries client) (Close 1) t ≡ session_closed 1 (Some now) t
    = answered world after client (Close 1) reply told stepped (held now buffer) has ∙ closed t now buffer has.selectors in
    moved world after client (Close 1) reply told stepped (held now buffer) has map.empty
    (ap (λ (x : Outcome). x.next.gone) is ∙ has.here) (ap (λ (x : Outcome). x.next.selectors) is ∙ closed_has t now buffer has.selectors)

-- and where none is open a close leaves it
pub none_closes : (world after : World) (client : ℕ) (reply : List ℕ) → reply ≡ reply_text (outcome_at world client (Close 1)).reply → after ≡ with_state world client (outcome_at world client (Close 1)).next →
    IsReady world client → IsReady after client
none_closes world after client reply told stepped ready =
    let t = state_at world.states client in
    let nothing_named : session_named (get t.selectors 1) ≡ None = ap (λ m. session_named (get m 1)) ready.selectors ∙ ap session_named (get-empty 1) in
    let is : (own_step (entry_at world.entries client) (Close 1) t).next ≡ t
    = ap (λ (x : Outcome). x.next) (answered world after client (Close 1) reply told stepped map.empty ready) ∙ ap (λ session. (session_closed 1 session t).next) nothing_named in
    moved world after client (Close 1) reply told stepped map.empty ready map.empty (ap (λ x. x.gone) is ∙ ready.here) (ap (λ x. x.selectors) is ∙ ready.selectors)

-- ---- a request that is routed

-- a session is there only if a server is found
found_there : (label : List ℕ) (arguments : Arguments) (s : OwnState) → s.selectors ≡ map.empty → (server : Option ServerAt) →
    is_some (session_named (get (opened_by (routed_request label arguments server) s).next.selectors 1)) ≡ true → is_some server ≡ true
found_there label arguments s none (Some server) there = refl
found_there label arguments s none None there =
    absurd (true≢false (sym there ∙ ap (λ m. is_some (session_named (get m 1))) none ∙ ap (λ o. is_some (session_named o)) (get-empty 1)))

-- and so a donation is too small
found_small : (label : List ℕ) (arguments : Arguments) (s : OwnState) (server : Option ServerAt) →
    is_too_small (reply_text (opened_by (routed_request label arguments server) s).reply) ≡ true → is_some server ≡ true
found_small label arguments s (Some server) small = refl
found_small label arguments s None small = absurd (true≢false (sym small))

made_found : (label : List ℕ) (arguments : Arguments) (server : Option ServerAt) → is_some server ≡ true → is_some (made_by (routed_request label arguments server)) ≡ true
made_found label arguments (Some server) found = refl
made_found label arguments None found = absurd (true≢false (sym found))

module _ (entry : Entry) (service given text : List ℕ) (donation : Amounts) (s : OwnState) (none : s.selectors ≡ map.empty) where
  abbrev requested : Arguments → Arguments
  requested arguments = record { ram = donation.ram; caps = donation.caps; label = arguments.label }

  abbrev Reads : Option Arguments → Type 0
  Reads o = (arguments : Arguments) → o ≡ Some arguments → arguments_of text ≡ Some (requested arguments)

  -- a session is there: the request with the given arguments is routed
  pub routed_there : (o : Option Arguments) → is_some o ≡ true → Reads o →
      is_some (session_named (get (opened_by (wish entry.label entry.routes service text) s).next.selectors 1)) ≡ true →
      is_some (made_by (resolved_request entry.label entry.routes service o)) ≡ true
  routed_there None some reads there = absurd (true≢false (sym some))
  routed_there (Some arguments) some reads there =
      let server = provider entry.routes service arguments.label in
      made_found entry.label arguments server
      (found_there entry.label (requested arguments) s none server
      (sym (ap (λ a. is_some (session_named (get (opened_by (resolved_request entry.label entry.routes service a) s).next.selectors 1))) (reads arguments refl)) ∙ there))

  -- or its donation is too small
  pub routed_small : (o : Option Arguments) → is_some o ≡ true → Reads o →
      is_too_small (reply_text (opened_by (wish entry.label entry.routes service text) s).reply) ≡ true →
      is_some (made_by (resolved_request entry.label entry.routes service o)) ≡ true
  routed_small None some reads small = absurd (true≢false (sym some))
  routed_small (Some arguments) some reads small =
      let server = provider entry.routes service arguments.label in
      made_found entry.label arguments server
      (found_small entry.label (requested arguments) s server
      (sym (ap (λ a. is_too_small (reply_text (opened_by (resolved_request entry.label entry.routes service a) s).reply)) (reads arguments refl)) ∙ small))

module _ (world after : World) (client : ℕ) (service given text reply : List ℕ) (donation : Amounts) (told : reply ≡ reply_text (outcome_at world client (Open service text)).reply)
    (stepped : after ≡ with_state world client (outcome_at world client (Open service text)).next) (ready : IsReady world client)
    (some : is_some (arguments_of given) ≡ true)
    (reads : (arguments : Arguments) → arguments_of given ≡ Some arguments → arguments_of text ≡ Some (record { ram = donation.ram; caps = donation.caps; label = arguments.label })) where
  abbrev caller : Entry
  caller = entry_at world.entries client

  abbrev before : OwnState
  before = state_at world.states client

  asks : own_step caller (Open service text) before ≡ opened_by (wish caller.label caller.routes service text) before
  asks = answered world after client (Open service text) reply told stepped map.empty ready

  -- the session is open, so it was routed
  pub routed_open : (account : Quotas) → Some (quotas_account account) ≡ option_map (λ (x : Session). x.account) (session_named (get (state_at after.states client).selectors 1)) →
      is_some (made_by (wish caller.label caller.routes service given)) ≡ true
  routed_open account is =
      routed_there caller service given text donation before ready.selectors (arguments_of given) some reads
      (sym (ap is_some is ∙ mapped (λ (x : Session). x.account) (session_named (get (state_at after.states client).selectors 1))
      ∙ ap (λ t. is_some (session_named (get t.selectors 1))) (stands world after client (Open service text) reply told stepped map.empty ready ∙ ap (λ (x : Outcome). x.next) asks)))

  -- or its donation is too small, so it was too
  pub routed_few : is_too_small reply ≡ true → is_some (made_by (wish caller.label caller.routes service given)) ≡ true
  routed_few small =
      routed_small caller service given text donation before ready.selectors (arguments_of given) some reads
      (sym (ap is_too_small (told ∙ ap (λ (x : Outcome). reply_text x.reply) asks)) ∙ small)

-- ---- the opening

module _ (world after : World) (client : ℕ) (service text reply : List ℕ) (told : reply ≡ reply_text (outcome_at world client (Open service text)).reply)
    (stepped : after ≡ with_state world client (outcome_at world client (Open service text)).next) (ready : IsReady world client) (w : Wish)
    (asked : wish (entry_at world.entries client).label (entry_at world.entries client).routes service text ≡ Ok w) where
  abbrev start : OwnState
  start = state_at world.states client

  abbrev opening : Call
  opening = Open service text

  enters : own_step (entry_at world.entries client) opening start ≡ opened_by (Ok w) start
  enters = answered world after client opening reply told stepped map.empty ready ∙ ap (λ x. opened_by x start) asked

  there_then : (account : Option Quotas) → option_map quotas_account account ≡ option_map (λ (x : Session). x.account) (session_named (get (state_at after.states client).selectors 1)) →
      is_some account ≡ is_some (session_named (get (opened_by (Ok w) start).next.selectors 1))
  there_then account same =
      sym (mapped quotas_account account) ∙ ap is_some same ∙ mapped (λ (x : Session). x.account) (session_named (get (state_at after.states client).selectors 1))
      ∙ ap (λ t. is_some (session_named (get t.selectors 1))) (stands world after client opening reply told stepped map.empty ready ∙ ap (λ (x : Outcome). x.next) enters)

  -- it was opened
  pub record HasOpened (account : Quotas) : Type 0 where
    pub enough : too_small w.ram w.caps ≡ None
    pub has : HasSelectors after client (held (new_session w) None)
    pub same : quotas_account account ≡ (new_session w).account

  pub was_opened : (account : Quotas) → Some (quotas_account account) ≡ option_map (λ (x : Session). x.account) (session_named (get (state_at after.states client).selectors 1)) → HasOpened account
  was_opened account is =
      let so = opens start ready.selectors w (sym (there_then (Some account) is)) in
      let whole : own_step (entry_at world.entries client) opening start ≡ session_opened w start = enters ∙ so.is in
      let has = moved world after client opening reply told stepped map.empty ready (held (new_session w) None)
      (ap (λ (x : Outcome). x.next.gone) whole ∙ ready.here) (ap (λ (x : Outcome). x.next.selectors) whole ∙ opened_has start ready.selectors w) in
      record {
        enough = so.enough;
        has = has;
        same = same_Some (quotas_account account) (new_session w).account
            (is ∙ ap (λ m. option_map (λ (x : Session). x.account) (session_named (get m 1))) has.selectors
            ∙ ap (option_map (λ (x : Session). x.account)) (named_there (new_session w) None));
      }

  -- it wasn't, since the donation is too small
  pub record HasNot : Type 0 where
    pub small : is_some (too_small w.ram w.caps) ≡ true
    pub still : IsReady after client
    pub shows : (line : ℕ) (rest : RunLines) → ended_by (refused_line line (donated_shortage reply)) ≡ lines_opening line (too_small w.ram w.caps) rest

  pub was_not : None ≡ option_map (λ (x : Session). x.account) (session_named (get (state_at after.states client).selectors 1)) → is_too_small reply ≡ true → HasNot
  was_not out small =
      let so = small_told start ready.selectors w (sym (there_then None out)) (sym (ap is_too_small (told ∙ ap (λ (x : Outcome). reply_text x.reply) enters)) ∙ small) in
      let left : (own_step (entry_at world.entries client) opening start).next ≡ start = ap (λ (x : Outcome). x.next) enters ∙ so.is in
      record {
        small = so.few;
        still = moved world after client opening reply told stepped map.empty ready map.empty (ap (λ x. x.gone) left ∙ ready.here) (ap (λ x. x.selectors) left ∙ ready.selectors);
        shows = λ line rest.
            ap (λ text. ended_by (refused_line line (donated_shortage text))) (told ∙ ap (λ (x : Outcome). reply_text x.reply) enters) ∙ so.shows line rest;
      }

-- ---- the run

-- before its first request
pub begins : (world : World) (client : ℕ) (w : Wish) (sent : List Sent) (heard : SessionMeter) → HasSelectors world client (held (new_session w) None) →
    HasReached [] (record { ram = w.ram; caps = w.caps }) (new_session w) heard → HasLeft world client heard sent sent (new_session w) (record { ram = w.ram; caps = w.caps })
begins world client w sent heard has reached = record {
  now = new_session w;
  buffer = None;
  has = has;
  left = all_left sent (record { ram = w.ram; caps = w.caps }) (new_session w) heard reached;
}

-- after its last
pub all_done : (world : World) (client : ℕ) (heard : SessionMeter) (sent : List Sent) (session : Session) (donation : Amounts) (wanting : Bool) → wanting ≡ false →
    HasLeft world client heard sent [] session donation → HasEnded world client sent session donation wanting heard.meter
all_done world client heard sent session donation wanting none before = record {
  now = before.now;
  buffer = before.buffer;
  has = before.has;
  shows = subst (λ b. Shows sent session donation b heard.meter) (sym none) (none_left sent donation session heard before.buffer before.now before.left);
}

-- the places to come
pub next_sent : (steps : List ComponentLine) (places : List ℕ) (i : ℕ) → i < length places →
    sent_at steps (drop i places) ≡ sent_by (slice_get steps (get_or places i 0)) (sent_at steps (drop (i + 1) places))
next_sent steps places i within =
    ap (sent_at steps) (drop-cons places i 0 within) ∙ ap (λ n. sent_by (slice_get steps (get_or places i 0)) (sent_at steps (drop n places))) (sym (add-one i))

pub none_sent : (steps : List ComponentLine) (places : List ℕ) (i : ℕ) → length places ≤ i → sent_at steps (drop i places) ≡ []
none_sent steps places i past = ap (sent_at steps) (drop_all i places past)

-- ---- what is asked for

-- the same service with another donation
wish_by : (client : List ℕ) (arguments : Arguments) (ram caps : ℕ) (server : Option ServerAt) (session : Session) → made_by (routed_request client arguments server) ≡ Some session →
    (w : Wish) × ((routed_request client (record arguments { ram = ram; caps = caps }) server ≡ Ok (record w { ram = ram; caps = caps })) × (new_session w ≡ session))
wish_by client arguments ram caps None session is = absurd (none-some session is)
wish_by client arguments ram caps (Some server) session is = (_, (refl, same_Some _ session is))

wish_read : (client : List ℕ) (routes : List Level) (service : List ℕ) (given : Option Arguments) (text : List ℕ) (donation : Amounts) (session : Session) →
    made_by (resolved_request client routes service given) ≡ Some session →
    ((arguments : Arguments) → given ≡ Some arguments → arguments_of text ≡ Some (record { ram = donation.ram; caps = donation.caps; label = arguments.label })) →
    (w : Wish) × ((wish client routes service text ≡ Ok (record w { ram = donation.ram; caps = donation.caps })) × (new_session w ≡ session))
wish_read client routes service None text donation session is reads = absurd (none-some session is)
wish_read client routes service (Some arguments) text donation session is reads =
    let by = wish_by client arguments donation.ram donation.caps (provider routes service arguments.label) session is in
    (by.0, (ap (resolved_request client routes service) (reads arguments refl) ∙ by.1.0, by.1.1))

pub wish_again : (entry : Entry) (service given text : List ℕ) (donation : Amounts) (session : Session) → made_by (wish entry.label entry.routes service given) ≡ Some session →
    ((arguments : Arguments) → arguments_of given ≡ Some arguments → arguments_of text ≡ Some (record { ram = donation.ram; caps = donation.caps; label = arguments.label })) →
    (w : Wish) × ((wish entry.label entry.routes service text ≡ Ok (record w { ram = donation.ram; caps = donation.caps })) × (new_session w ≡ session))
wish_again entry service given text donation session is reads = wish_read entry.label entry.routes service (arguments_of given) text donation session is reads

-- ---- what its run shows

-- whatever else was donated first
pub shows_run : (sent : List Sent) (w : Wish) (donation : Amounts) (session : Session) (trial : BudgetTrial) → new_session w ≡ session →
    Shows sent (new_session (record w { ram = donation.ram; caps = donation.caps })) donation (is_some trial.refused) trial.meter →
    IsRun (opened_needs sent session donation) (opened_in_want sent session donation) donation trial
shows_run sent w donation session trial same shows =
    subst (λ x. IsRun (opened_needs sent x donation) (opened_in_want sent x donation) donation trial) same (record { shown = shows.shown; want = shows.want })

pub small_run : (sent : List Sent) (donation : Amounts) (session : Session) (trial : BudgetTrial) → opens_none donation ≡ true → is_some trial.refused ≡ true →
    shown_in trial.meter ≡ shown_by donation (opening_need donation ∷ []) →
    IsRun (opened_needs sent session donation) (opened_in_want sent session donation) donation trial
small_run sent donation session trial none refused shown = record {
  shown = shown ∙ ap (λ b. shown_by donation (opening_need donation ∷ cond b [] (run_needs sent session donation))) (sym none);
  want = refused ∙ ap (λ b. b || run_in_want sent session donation) (sym none);
}

-- ---- what is told of the session's account, and of arguments

pub account_told : (core : World) (place client : ℕ) (entries : List Entry) (result : Option Quotas) (left : Quotas) → place ≡ client → core.entries ≡ entries → client < length entries → result ≡ Some left →
    (place < length core.entries → option_map quotas_account result ≡ option_map (λ (x : Session). x.account) (session_named (get (state_at core.states place).selectors 1))) →
    Some (quotas_account left) ≡ option_map (λ (x : Session). x.account) (session_named (get (state_at core.states client).selectors 1))
account_told core place client entries result left same kept entry is tells =
    ap (option_map quotas_account) (sym is)
    ∙ tells (subst (λ es. place < length es) (sym kept) (subst (λ p. p < length entries) (sym same) entry))
    ∙ ap (λ p. option_map (λ (x : Session). x.account) (session_named (get (state_at core.states p).selectors 1))) same

pub none_told : (core : World) (place client : ℕ) (entries : List Entry) (result : Option Quotas) → place ≡ client → core.entries ≡ entries → client < length entries → result ≡ None →
    (place < length core.entries → option_map quotas_account result ≡ option_map (λ (x : Session). x.account) (session_named (get (state_at core.states place).selectors 1))) →
    None ≡ option_map (λ (x : Session). x.account) (session_named (get (state_at core.states client).selectors 1))
none_told core place client entries result same kept entry is tells =
    ap (option_map quotas_account) (sym is)
    ∙ tells (subst (λ es. place < length es) (sym kept) (subst (λ p. p < length entries) (sym same) entry))
    ∙ ap (λ p. option_map (λ (x : Session). x.account) (session_named (get (state_at core.states p).selectors 1))) same

-- and of the kinds that the session's server offers
pub kinds_told : (core : World) (client : ℕ) (session : Session) → HasSelectors core client (held session None) → (result : Option (List ObjectKind)) →
    (client < length core.entries → result ≡ option_and_then (λ (x : Session). offered_kinds (offer_of x.state)) (session_named (get (state_at core.states client).selectors 1))) →
    result ≡ offered_kinds (offer_of session.state)
kinds_told core client session has result tells =
    tells has.entry ∙ ap (option_and_then (λ (x : Session). offered_kinds (offer_of x.state))) (ap (λ m. session_named (get m 1)) has.selectors ∙ named_there session None)

pub no_arguments : (o : Option Arguments) → amount_tests None ≡ arguments_tests o → o ≡ None
no_arguments None is = refl
no_arguments (Some more) is = absurd (cc)

-- the arguments donate what was found
pub arguments_named : (asked : Budget) (o : Option Arguments) → amount_tests (Some asked) ≡ arguments_tests o →
    (more : Arguments) × ((o ≡ Some more) × (amounts_of asked ≡ record { ram = more.ram; caps = more.caps }))
arguments_named asked None is = absurd (cc)
arguments_named asked (Some more) is =
    (more, (refl, λ i. record { ram = (get_or (is i) 0 (test_of 0 0)).ram; caps = (get_or (is i) 0 (test_of 0 0)).caps }))

pub some_is : {X : Type 0} (o : Option X) → is_some o ≡ true → (x : X) × (o ≡ Some x)
some_is (Some x) some = (x, refl)
some_is None some = absurd (true≢false (sym some))

-- what is so of an answer, where that is given
pub each_ok : {X E : Type 0} {P Q : X → Type 0} (r : Result X E) → ((x : X) → P x → Q x) → IfOk r P → IfOk r Q
each_ok (Ok x) f is = f x is
each_ok (Err e) f is = tt

pub each_on : {X E : Type 0} {P Q : Type 0} (r : Result X E) → (P → Q) → OnOk r P → OnOk r Q
each_on (Ok x) f is = f is
each_on (Err e) f is = tt

pub each_three : {X E : Type 0} {A : Type 0} {P Q S : X → Type 0} (r : Result X E) → ((x : X) → A → P x → Q x → S x) → OnOk r A → IfOk r P → IfOk r Q → IfOk r S
each_three (Ok x) f a p q = f x a p q
each_three (Err e) f a p q = tt
