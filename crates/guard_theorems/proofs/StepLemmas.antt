-- A call of a client whose servers pay with guards is answered as own step answers it, and the accounts have what they should.
use Rattle.std.proofs.Common.{◌≡◌, ℕ, ◌-◌, true, false, List, Some, refl, sym, ap, subst, ◌∙◌, arith, true≢false}
use Rattle.std.specs.Prelude.{Option, None, Result, Ok, Err}
use Rattle.std.specs.Option.{option_or}
use Rattle.std.specs.FinMap.{get, insert, remove}
use Rattle.trade_base.specs.declared.refusal.Refusal.{Refusal}
use Rattle.trade_base.specs.declared.refusal.Refusal.TheVariants.{BadArgs, InvalidSession}
use Rattle.own_model.proofs.LentLemmas.{lent_still, total_lent}
use Rattle.own_model.proofs.ServiceLemmas.{serve_keeps}
use Rattle.own_model.proofs.SessionLemmas.{donation_covered, named_there}
use Rattle.own_model.proofs.StepLimitLemmas.{limits_move, none_left}
use Rattle.own_model.proofs.Totals.{total-empty}
use Rattle.own_model.specs.Account.{Account, shortage, charged, opened}
use Rattle.own_model.specs.Amounts.{Amounts, no_amounts}
use Rattle.own_model.specs.Call.{Call, is_of_session, is_exit}
use Rattle.own_model.specs.Call.Call.{Open, Upgrade, CallSession, Close, Exit}
use Rattle.own_model.specs.Donation.{raised}
use Rattle.own_model.specs.Limits.{ram_limits, caps_limits, AreWithinLimits}
use Rattle.own_model.specs.NatMap.{NatMap}
use Rattle.own_model.specs.OwnState.{OwnState, Object, NamedBuffer, session_named, buffer_of, bytes_of_buffer, new_selector}
use Rattle.own_model.specs.OwnState.Object.{OpenSession}
use Rattle.own_model.specs.OwnStep.{Outcome, own_step, entry_step, unless, refused, turned_away, opened_by, upgraded_by, selectors_lent, session_opened, session_upgraded, session_called, session_served, session_closed, exited}
use Rattle.own_model.specs.Services.{ServiceState, served_by}
use Rattle.own_model.specs.Services.ServiceState.{Logging, Filing, Holding}
use Rattle.own_model.specs.Session.{Session, Wish, donation_refusal, new_session, upgraded, served, session_ram, session_caps, wish}
use Rattle.own_model.specs.SessionArgs.{Arguments, arguments_of}
use Rattle.own_model.specs.StartList.{Entry}
use Rattle.guard_theorems.specs.Guarded.{Closed, GuardedOutcome, paid_by, unless_refused, with_account, with_use, cover, request_paid, guarded_open, guarded_upgrade, guarded_request, guarded_close, guarded_exit, guarded_call, guarded_step}
use Rattle.guard_theorems.proofs.AccountLemmas.{Backs, cover_is_guard, open_covered}
use Rattle.guard_theorems.proofs.ClosedLemmas.{ended_whole, pays_ended, map_emptied}
use Rattle.guard_theorems.proofs.ShareLemmas.{Shares, Pays, Replaced, AccountsWithin, shares_in, share, has_moved, share_opened, share_changed, share_closed, backs_each, accounts_within, others_share}

-- a session keeps its server whatever it is asked
serve_stays : (state : ServiceState) (buffer : Option (List ℕ)) (x : Session) (request : List ℕ) → (served_by state buffer x request).session.server ≡ x.server
serve_stays (Logging partial) buffer x request = refl
serve_stays (Filing files) buffer x request = refl
serve_stays (Holding kinds objects) buffer x request = refl

-- sums stay whatever becomes of a buffer
shares_lent : (q : ℕ) (m : NatMap Object) (old : Option NamedBuffer) (new : Option (List ℕ)) → buffer_of q m ≡ old → (f : Account → ℕ) (server : ℕ) →
    shares_in (selectors_lent q old new m) f server ≡ shares_in m f server
shares_lent q m old new found f server = total_lent q m (share f server) (λ of bytes. refl) old new found

-- so what is replaced after it is replaced before it
replaced_lent : (f : Account → ℕ) (place : ℕ) (before lent after : Shares) (old new : ℕ) → ((server : ℕ) → lent f server ≡ before f server) → Replaced f place lent after old new → Replaced f place before after old new
replaced_lent f place before lent after old new same shares server = omega (arith, same server, shares server)

-- what a call that is no exit gives: own step's outcome, accounts that have what they should, and nothing for init
record IsPaid (base : ℕ → Account) (guarded : GuardedOutcome) (own : Outcome) : Type 0 where
  outcome : guarded.outcome ≡ own
  pays : Pays base guarded.accounts (shares_in own.next.selectors)
  none : guarded.returned ≡ no_amounts

module _ (base accounts : ℕ → Account) (s : OwnState) (pays : Pays base accounts (shares_in s.selectors)) where
  -- a refusal leaves all
  left : (refusal : Refusal) → IsPaid base (paid_by accounts (refused s refusal)) (refused s refusal)
  left refusal = record { outcome = refl; pays = pays; none = refl }

  paid_unless : (why : Option Refusal) (guarded : GuardedOutcome) (own : Outcome) → IsPaid base guarded own → IsPaid base (unless_refused why s accounts guarded) (unless why s own)
  paid_unless (Some refusal) guarded own h = left refusal
  paid_unless None guarded own h = h

  module _ (spare : AccountsWithin base) (within : AreWithinLimits s) where
    -- an account of a server is within its limits, and backs each session
    backed : (q : ℕ) (x : Session) → get s.selectors q ≡ Some (OpenSession x) → Backs (accounts x.server) x.account
    backed = backs_each base accounts s.selectors pays spare within.sessions

    -- why an open is refused by a client's account, or by what guard and account cover
    abbrev open_refusal : Account → Wish → Option Refusal
    open_refusal client wish =
        option_or (donation_refusal client wish.ram wish.caps)
        (shortage (cover true (opened wish.ram wish.caps) (raised (accounts wish.server.place) wish.ram wish.caps)) session_ram session_caps)

    -- the account never refuses one
    same_refusal : (client : Account) (wish : Wish) → open_refusal client wish ≡ donation_refusal client wish.ram wish.caps
    same_refusal client wish =
        let account = accounts wish.server.place in
        let own = accounts_within base accounts s.selectors pays spare within.sessions wish.server.place in
        elim (donation_refusal client wish.ram wish.caps) as (λ d. donation_refusal client wish.ram wish.caps ≡ d →
        option_or d (shortage (cover true (opened wish.ram wish.caps) (raised account wish.ram wish.caps)) session_ram session_caps) ≡ d) [
          | None ↦ λ accepted. open_covered true account wish.ram wish.caps own (donation_covered client wish.ram wish.caps accepted).1
          | Some refusal ↦ λ _. refl
        ] refl

    opens : (asked : Result Wish Refusal) → IsPaid base (guarded_open true asked s accounts) (opened_by asked s)
    opens (Err refusal) = left refusal
    opens (Ok wish) =
        let account = accounts wish.server.place in
        let next = charged (raised account wish.ram wish.caps) session_ram session_caps in
        let x = new_session wish in
        let m = s.selectors in
        let after = shares_in (insert m (new_selector m) (OpenSession x)) in
        let accepted : GuardedOutcome = paid_by (with_account wish.server.place next accounts) (session_opened wish s) in
        let is : IsPaid base accepted (session_opened wish s) = record {
          outcome = refl;
          pays = record {
            ram_limit = has_moved (λ a. a.ram_limit) base accounts (shares_in m) after wish.server.place next 0 wish.ram pays.ram_limit (share_opened (λ a. a.ram_limit) m x) (omega arith);
            ram_used = has_moved (λ a. a.ram_used) base accounts (shares_in m) after wish.server.place next 0 x.account.ram_used pays.ram_used (share_opened (λ a. a.ram_used) m x) (omega arith);
            caps_limit = has_moved (λ a. a.caps_limit) base accounts (shares_in m) after wish.server.place next 0 wish.caps pays.caps_limit (share_opened (λ a. a.caps_limit) m x) (omega arith);
            caps_used = has_moved (λ a. a.caps_used) base accounts (shares_in m) after wish.server.place next 0 x.account.caps_used pays.caps_used (share_opened (λ a. a.caps_used) m x) (omega arith);
          };
          none = refl;
        } in
        subst (λ why. IsPaid base (unless_refused why s accounts accepted) (unless (donation_refusal s.account wish.ram wish.caps) s (session_opened wish s)))
        (sym (same_refusal s.account wish)) (paid_unless (donation_refusal s.account wish.ram wish.caps) accepted (session_opened wish s) is)

    module _ (q : ℕ) where
      upgrades : (found : Option Session) → ((x : Session) → found ≡ Some x → get s.selectors q ≡ Some (OpenSession x)) → (arguments : Option Arguments) →
          IsPaid base (guarded_upgrade q found arguments s accounts) (upgraded_by q found arguments s)
      upgrades None at arguments = left InvalidSession
      upgrades (Some x) at None = left BadArgs
      upgrades (Some x) at (Some more) =
          let next = raised (accounts x.server) more.ram more.caps in
          let y = upgraded x more.ram more.caps in
          let m = s.selectors in
          let after = shares_in (insert m q (OpenSession y)) in
          paid_unless (shortage s.account more.ram more.caps) (paid_by (with_account x.server next accounts) (session_upgraded q x more s)) (session_upgraded q x more s) (record {
            outcome = refl;
            pays = record {
              ram_limit = has_moved (λ a. a.ram_limit) base accounts (shares_in m) after x.server next x.account.ram_limit y.account.ram_limit pays.ram_limit (share_changed (λ a. a.ram_limit) m q x (at x refl) y refl) (omega arith);
              ram_used = has_moved (λ a. a.ram_used) base accounts (shares_in m) after x.server next x.account.ram_used y.account.ram_used pays.ram_used (share_changed (λ a. a.ram_used) m q x (at x refl) y refl) refl;
              caps_limit = has_moved (λ a. a.caps_limit) base accounts (shares_in m) after x.server next x.account.caps_limit y.account.caps_limit pays.caps_limit (share_changed (λ a. a.caps_limit) m q x (at x refl) y refl) (omega arith);
              caps_used = has_moved (λ a. a.caps_used) base accounts (shares_in m) after x.server next x.account.caps_used y.account.caps_used pays.caps_used (share_changed (λ a. a.caps_used) m q x (at x refl) y refl) refl;
            };
            none = refl;
          })

      -- a request
      module _ (x : Session) (there : get s.selectors q ≡ Some (OpenSession x)) (request : List ℕ) where
        abbrev buffer : Option NamedBuffer
        buffer = buffer_of q s.selectors

        -- what it gives by an account that is put in place of the session's
        abbrev requested_with : Account → GuardedOutcome
        requested_with account = request_paid q buffer x (served (bytes_of_buffer buffer) (record x { account = account }) request) s accounts

        -- by its own it gives what own step gives
        serves_own : IsPaid base (requested_with x.account) (session_called q (Some x) request s)
        serves_own =
            let o = served (bytes_of_buffer buffer) x request in
            let m = s.selectors in
            let lent = selectors_lent q buffer o.buffer m in
            let keeps = serve_keeps x.state (bytes_of_buffer buffer) x request in
            let stays = serve_stays x.state (bytes_of_buffer buffer) x request in
            let still = lent_still q m buffer o.buffer refl q (OpenSession x) there refl in
            let backs = backed q x there in
            let after = shares_in (insert lent q (OpenSession o.session)) in
            let next = with_use (accounts x.server) x.account o.session.account in
            let moves : (f : Account → ℕ) → Replaced f x.server (shares_in m) after (f x.account) (f o.session.account)
            = λ f. replaced_lent f x.server (shares_in m) (shares_in lent) after (f x.account) (f o.session.account) (shares_lent q m buffer o.buffer refl f) (share_changed f lent q x still o.session stays) in
            record {
              outcome = λ i. session_served q buffer (record o { session = record o.session { account = record o.session.account { ram_limit = sym keeps.0 i; caps_limit = sym keeps.1 i } } }) s;
              pays = record {
                ram_limit = has_moved (λ a. a.ram_limit) base accounts (shares_in m) after x.server next x.account.ram_limit o.session.account.ram_limit pays.ram_limit (moves (λ a. a.ram_limit)) (omega (arith, keeps.0));
                ram_used = has_moved (λ a. a.ram_used) base accounts (shares_in m) after x.server next x.account.ram_used o.session.account.ram_used pays.ram_used (moves (λ a. a.ram_used)) (omega (arith, backs.ram_used));
                caps_limit = has_moved (λ a. a.caps_limit) base accounts (shares_in m) after x.server next x.account.caps_limit o.session.account.caps_limit pays.caps_limit (moves (λ a. a.caps_limit)) (omega (arith, keeps.1));
                caps_used = has_moved (λ a. a.caps_used) base accounts (shares_in m) after x.server next x.account.caps_used o.session.account.caps_used pays.caps_used (moves (λ a. a.caps_used)) (omega (arith, backs.caps_used));
              };
              none = refl;
            }

        -- so it does by what guard and account both cover
        serves_both : IsPaid base (requested_with (cover true x.account (accounts x.server))) (session_called q (Some x) request s)
        serves_both =
            subst (λ account. IsPaid base (requested_with account) (session_called q (Some x) request s))
            (sym (cover_is_guard (accounts x.server) x.account (within.sessions q x there) (backed q x there))) serves_own

      serves : (found : Option Session) → ((x : Session) → found ≡ Some x → get s.selectors q ≡ Some (OpenSession x)) → (request : List ℕ) →
          IsPaid base (guarded_request true q found request s accounts) (session_called q found request s)
      serves None at request = left InvalidSession
      serves (Some x) at request = serves_both x (at x refl) request

      -- a close
      closes : (found : Option Session) → ((x : Session) → found ≡ Some x → get s.selectors q ≡ Some (OpenSession x)) →
          IsPaid base (guarded_close q found s accounts) (session_closed q found s)
      closes None at = left InvalidSession
      closes (Some x) at =
          let there = at x refl in
          let m = s.selectors in
          let old = buffer_of q m in
          let lent = selectors_lent q old None m in
          let still = lent_still q m old None refl q (OpenSession x) there refl in
          let moves : (f : Account → ℕ) → Replaced f x.server (shares_in m) (shares_in (remove lent q)) (f x.account) 0
          = λ f. replaced_lent f x.server (shares_in m) (shares_in lent) (shares_in (remove lent q)) (f x.account) 0 (shares_lent q m old None refl f) (share_closed f lent q x still) in
          let own = within.sessions q x there in
          let backs = backed q x there in
          subst (λ (closed : Closed). IsPaid base (paid_by closed.accounts (session_closed q (Some (record x { account = opened closed.returned.ram closed.returned.caps })) s)) (session_closed q (Some x) s))
          (sym (ended_whole x accounts own backs))
          (record { outcome = refl; pays = pays_ended base accounts (shares_in m) (shares_in (remove lent q)) x pays own backs moves; none = refl })

-- ---- any call

-- what any call gives: own step's outcome, accounts that have what they should, and for init what the client loses of limits
pub record IsAlike (base : ℕ → Account) (s : OwnState) (guarded : GuardedOutcome) (own : Outcome) : Type 0 where
  pub outcome : guarded.outcome ≡ own
  pub pays : Pays base guarded.accounts (shares_in own.next.selectors)
  pub ram : guarded.returned.ram ≡ ram_limits s - ram_limits own.next
  pub caps : guarded.returned.caps ≡ caps_limits s - caps_limits own.next

-- where limits are the same, init gets nothing
alike_by : (base : ℕ → Account) (s : OwnState) (guarded : GuardedOutcome) (own : Outcome) → ram_limits own.next ≡ ram_limits s → caps_limits own.next ≡ caps_limits s →
    IsPaid base guarded own → IsAlike base s guarded own
alike_by base s guarded own ram caps is = record {
  outcome = is.outcome;
  pays = is.pays;
  ram = ap (λ (a : Amounts). a.ram) is.none ∙ omega (arith, ram);
  caps = ap (λ (a : Amounts). a.caps) is.none ∙ omega (arith, caps);
}

-- a call that is of no session, and no exit, is own step's
others_own : (entry : Entry) (call : Call) (s : OwnState) (accounts : ℕ → Account) → is_of_session call ≡ false → is_exit call ≡ false →
    guarded_call true entry call s accounts ≡ paid_by accounts (entry_step entry call s)
others_own entry (Open service text) s accounts other on = absurd (true≢false other)
others_own entry (Upgrade selector text) s accounts other on = absurd (true≢false other)
others_own entry (CallSession selector request) s accounts other on = absurd (true≢false other)
others_own entry (Close selector) s accounts other on = absurd (true≢false other)
others_own entry Exit s accounts other on = absurd (true≢false on)
others_own entry call s accounts other on = refl

-- a refusal before it leaves the accounts
turned_own : (why : Option Refusal) (s : OwnState) (accounts : ℕ → Account) (own : Outcome) → unless_refused why s accounts (paid_by accounts own) ≡ paid_by accounts (unless why s own)
turned_own (Some refusal) s accounts own = refl
turned_own None s accounts own = refl

module _ (base accounts : ℕ → Account) (s : OwnState) (pays : Pays base accounts (shares_in s.selectors)) (spare : AccountsWithin base) (within : AreWithinLimits s) where
  others_paid : (entry : Entry) (call : Call) → is_of_session call ≡ false → is_exit call ≡ false → IsPaid base (guarded_step true entry call s accounts) (own_step entry call s)
  others_paid entry call other on =
      let own = own_step entry call s in
      let same : (f : Account → ℕ) (server : ℕ) → shares_in own.next.selectors f server ≡ shares_in s.selectors f server = λ f server. others_share f server entry call s other on in
      subst (λ guarded. IsPaid base guarded own)
      (sym (ap (unless_refused (turned_away entry.kind s) s accounts) (others_own entry call s accounts other on) ∙ turned_own (turned_away entry.kind s) s accounts (entry_step entry call s)))
      (record {
        outcome = refl;
        pays = record {
          ram_limit = λ server. omega (arith, pays.ram_limit server, same (λ a. a.ram_limit) server);
          ram_used = λ server. omega (arith, pays.ram_used server, same (λ a. a.ram_used) server);
          caps_limit = λ server. omega (arith, pays.caps_limit server, same (λ a. a.caps_limit) server);
          caps_used = λ server. omega (arith, pays.caps_used server, same (λ a. a.caps_used) server);
        };
        none = refl;
      })

  -- a call that is no exit
  call_paid : (entry : Entry) (call : Call) → is_exit call ≡ false → IsPaid base (guarded_step true entry call s accounts) (own_step entry call s)
  call_paid entry (Open service text) on =
      let asked = wish entry.label entry.routes service text in
      paid_unless base accounts s pays (turned_away entry.kind s) (guarded_open true asked s accounts) (opened_by asked s) (opens base accounts s pays spare within asked)
  call_paid entry (Upgrade q text) on =
      let found = session_named (get s.selectors q) in
      paid_unless base accounts s pays (turned_away entry.kind s) (guarded_upgrade q found (arguments_of text) s accounts) (upgraded_by q found (arguments_of text) s)
      (upgrades base accounts s pays spare within q found (named_there (get s.selectors q)) (arguments_of text))
  call_paid entry (CallSession q request) on =
      let found = session_named (get s.selectors q) in
      paid_unless base accounts s pays (turned_away entry.kind s) (guarded_request true q found request s accounts) (session_called q found request s)
      (serves base accounts s pays spare within q found (named_there (get s.selectors q)) request)
  call_paid entry (Close q) on =
      let found = session_named (get s.selectors q) in
      paid_unless base accounts s pays (turned_away entry.kind s) (guarded_close q found s accounts) (session_closed q found s)
      (closes base accounts s pays spare within q found (named_there (get s.selectors q)))
  call_paid entry Exit on = absurd (true≢false on)
  call_paid entry call on = others_paid entry call refl on

  -- an exit
  exits_alike : IsAlike base s (guarded_exit s accounts) exited
  exits_alike =
      let emptied = map_emptied base accounts s.selectors spare within.sessions pays in
      record {
        outcome = refl;
        pays = record {
          ram_limit = λ server. omega (arith, emptied.pays.ram_limit server, total-empty (share (λ a. a.ram_limit) server));
          ram_used = λ server. omega (arith, emptied.pays.ram_used server, total-empty (share (λ a. a.ram_used) server));
          caps_limit = λ server. omega (arith, emptied.pays.caps_limit server, total-empty (share (λ a. a.caps_limit) server));
          caps_used = λ server. omega (arith, emptied.pays.caps_used server, total-empty (share (λ a. a.caps_used) server));
        };
        ram = omega (arith, emptied.ram, none_left.0);
        caps = omega (arith, emptied.caps, none_left.1);
      }

  -- or one that is turned away
  exits_unless : (why : Option Refusal) → IsAlike base s (unless_refused why s accounts (guarded_exit s accounts)) (unless why s exited)
  exits_unless (Some refusal) = alike_by base s (paid_by accounts (refused s refusal)) (refused s refusal) refl refl (left base accounts s pays refusal)
  exits_unless None = exits_alike

  -- any call
  pub step_alike : (entry : Entry) (call : Call) → IsAlike base s (guarded_step true entry call s accounts) (own_step entry call s)
  step_alike entry Exit = exits_unless (turned_away entry.kind s)
  step_alike entry call =
      let same = limits_move entry call s refl in
      alike_by base s (guarded_step true entry call s accounts) (own_step entry call s) same.0 same.1 (call_paid entry call refl)
