-- The limits of a session's account are what its client donated for it.
use Rattle.std.proofs.lemmas.Bool.Decides.{nat_tests}
use Rattle.std.proofs.Common.{rules, ◌≡◌, ℕ, ◌==◌, Bool, true, false, cond, List, [], ◌∷◌, Some, refl, sym, ap, ◌∙◌, subst, true≢false, eqb-true, arith}
use Rattle.std.proofs.lemmas.Bool.{eqb-false}
use Rattle.std.proofs.lemmas.Option.{same_Some}
use Rattle.std.specs.Prelude.{Option, None}
use Rattle.std.specs.FinMap.{get, insert}
use Rattle.own_model.proofs.ServiceLemmas.{serve_keeps}
use Rattle.own_model.proofs.NatMapLemmas.{get-insert_same, get-insert_other, before_remove}
use Rattle.own_model.proofs.SessionLemmas.{EachNamed, effects_named, reserve_named, each_lent, named_there, gone_named}
use Rattle.own_model.proofs.StepTableLemmas.{others_keep}
use Rattle.trade_base.specs.declared.refusal.Refusal.{Refusal}
use Rattle.trade_base.specs.declared.refusal.Refusal.TheVariants.{InvalidSession}
use Rattle.own_model.specs.Account.{Account, shortage, parted_with}
use Rattle.own_model.specs.Call.{Call, is_of_session}
use Rattle.own_model.specs.Call.Call.{Alloc, Free, Attach, AttachAt, Detach, Peek, Poke, Capalloc, Capfree, New, Del, Snew, Sdel, Quota, Reserve, Request, Yield, Open, Upgrade, CallSession, Close, Exit}
use Rattle.own_model.specs.Amounts.{Amounts, more_of}
use Rattle.own_model.specs.Donated.{donation_in, counted, donated_after}
use Rattle.own_model.specs.Donation.{raised}
use Rattle.own_model.specs.OwnState.{OwnState, new_selector, session_named, buffer_of, bytes_of_buffer}
use Rattle.own_model.specs.OwnState.Object.{OpenSession}
use Rattle.own_model.specs.OwnStep.{Outcome, own_step, own_run, unless, turned_away, opened_by, session_opened, upgraded_by, session_upgraded, session_called, session_closed, selectors_lent, with_buffer}
use Rattle.own_model.specs.Reply.{Reply}
use Rattle.own_model.specs.Reply.Reply.{Done, Refused}
use Rattle.own_model.specs.Routes.{Level, ServerAt, label_with, provider}
use Rattle.own_model.specs.Session.{Session, Wish, given_by, routed_request, resolved_request, donation_refusal, new_session, upgraded, served}
use Rattle.own_model.specs.SessionTheorems.{LimitsAreDonations, ClosesReturnDonations}
use Rattle.own_model.specs.SessionArgs.{Arguments, arguments_of}
use Rattle.own_model.specs.StartList.{Entry}

module _ (selector : ℕ) where
  -- a session that the selector names has these limits
  abbrev HasLimits : Amounts → ℕ → Session → Type 0
  HasLimits sum q x = q ≡ selector → (x.account.ram_limit ≡ sum.ram) × (x.account.caps_limit ≡ sum.caps)

  -- if it names one
  abbrev AreCounted : Amounts → OwnState → Type 0
  AreCounted sum = EachNamed (HasLimits sum)

  -- what a call leaves is counted by what it is answered
  abbrev IsCounted : Call → Amounts → Outcome → Type 0
  IsCounted call sum o = AreCounted (counted selector call o.reply sum) o.next

  -- a session under a key counts so much, if the key is the selector
  puts : (t : Bool) (k : ℕ) → (k == selector) ≡ t → (there sum : Amounts) (s : OwnState) (account : Account) (x : Session) →
      (k ≡ selector → (x.account.ram_limit ≡ there.ram) × (x.account.caps_limit ≡ there.caps)) → AreCounted sum s →
      AreCounted (cond t there sum) (record s { account = account; selectors = insert s.selectors k (OpenSession x) })
  puts true k e there sum s account x limits h q y is at = grind (arith, nat_tests, eqb-true, same_Some, get-insert_same)
  puts false k e there sum s account x limits h q y is at = grind (arith, nat_tests, eqb-false, get-insert_other)

  -- the same donation, whether the key is the selector or not
  either : (t : Bool) (sum : Amounts) → cond t sum sum ≡ sum
  either true sum = refl
  either false sum = refl

  -- ---- calls of sessions

  module _ (sum : Amounts) (s : OwnState) (h : AreCounted sum s) where
    -- an open of which the client covers enough or not
    opens_by : (service text : List ℕ) (asked : Wish) → (asked.ram ≡ (donation_in text).ram) × (asked.caps ≡ (donation_in text).caps) → (why : Option Refusal) →
        IsCounted (Open service text) sum (unless why s (session_opened asked s))
    opens_by service text asked named (Some refusal) = h
    opens_by service text asked named None =
        let key = new_selector s.selectors in
        puts (key == selector) key refl (donation_in text) sum s (parted_with s.account asked.ram asked.caps) (new_session asked) (λ _. named) h

    -- one where the route leads somewhere or not
    opens_to : (service text name : List ℕ) (arguments : Arguments) → arguments_of text ≡ Some arguments → (to : Option ServerAt) →
        IsCounted (Open service text) sum (opened_by (routed_request name arguments to) s)
    opens_to service text name arguments e None = h
    opens_to service text name arguments e (Some server) =
        let asked : Wish = record { server = server; label = label_with name arguments.label; ram = arguments.ram; caps = arguments.caps } in
        opens_by service text asked (ap (λ o. (given_by o).ram) (sym e), ap (λ o. (given_by o).caps) (sym e)) (donation_refusal s.account asked.ram asked.caps)

    opens : (service text name : List ℕ) (routes : List Level) (arguments : Option Arguments) → arguments_of text ≡ arguments →
        IsCounted (Open service text) sum (opened_by (resolved_request name routes service arguments) s)
    opens service text name routes None e = h
    opens service text name routes (Some arguments) e = opens_to service text name arguments e (provider routes service arguments.label)

    module _ (of : ℕ) where
      -- an upgrade that the client covers or not
      upgrades_by : (text : List ℕ) (x : Session) (more : Arguments) → get s.selectors of ≡ Some (OpenSession x) → arguments_of text ≡ Some more → (why : Option Refusal) →
          IsCounted (Upgrade of text) sum (unless why s (session_upgraded of x more s))
      upgrades_by text x more there e (Some refusal) = h
      upgrades_by text x more there e None =
          puts (of == selector) of refl (more_of sum (donation_in text)) sum s (parted_with s.account more.ram more.caps) (upgraded x more.ram more.caps) (λ at.
          let before = h of x there at in (
            omega (arith, before.0, ap (λ o. (given_by o).ram) e),
            omega (arith, before.1, ap (λ o. (given_by o).caps) e),
          )) h

      upgrades : (text : List ℕ) (found : Option Session) → ((x : Session) → found ≡ Some x → get s.selectors of ≡ Some (OpenSession x)) →
          (arguments : Option Arguments) → arguments_of text ≡ arguments → IsCounted (Upgrade of text) sum (upgraded_by of found arguments s)
      upgrades text None at arguments e = h
      upgrades text (Some x) at None e = h
      upgrades text (Some x) at (Some more) e = upgrades_by text x more (at x refl) e (shortage s.account more.ram more.caps)

      -- a request
      serves : (request : List ℕ) (found : Option Session) → ((x : Session) → found ≡ Some x → get s.selectors of ≡ Some (OpenSession x)) →
          IsCounted (CallSession of request) sum (session_called of found request s)
      serves request None at = h
      serves request (Some x) at =
          let buffer = buffer_of of s.selectors in
          let o = served (bytes_of_buffer buffer) x request in
          let same = serve_keeps x.state (bytes_of_buffer buffer) x request in
          subst (λ d. AreCounted d (session_called of (Some x) request s).next) (either (of == selector) sum)
          (puts (of == selector) of refl sum sum (with_buffer of buffer o.buffer s) s.account o.session (λ here. let before = h of x (at x refl) here in (same.0 ∙ before.0, same.1 ∙ before.1))
          (each_lent (HasLimits sum) of buffer o.buffer s.selectors h))

      -- a close
      closes : (found : Option Session) → IsCounted (Close of) sum (session_closed of found s)
      closes None = h
      closes (Some x) = λ q y is.
          let buffer = buffer_of of s.selectors in
          each_lent (HasLimits sum) of buffer None s.selectors h q y (before_remove (selectors_lent of buffer None s.selectors) of q (OpenSession y) is)

  -- ---- all calls

  -- one that is turned away, or not
  turned : (call : Call) (sum : Amounts) (s : OwnState) (why : Option Refusal) (o : Outcome) → ((refusal : Refusal) → counted selector call (Refused refusal) sum ≡ sum) → AreCounted sum s →
      IsCounted call sum o → IsCounted call sum (unless why s o)
  turned call sum s (Some refusal) o none h after = subst (λ d. AreCounted d s) (sym (none refusal)) h
  turned call sum s None o none h after = after

  -- one of a session
  of_session : (entry : Entry) (call : Call) (sum : Amounts) (s : OwnState) → AreCounted sum s → is_of_session call ≡ true → IsCounted call sum (own_step entry call s)
  of_session entry (Open service text) sum s h is = grind (arith, nat_tests, turned, opens)
  of_session entry (Upgrade of text) sum s h is = grind (arith, nat_tests, turned, upgrades, named_there)
  of_session entry (CallSession of request) sum s h is =
      turned (CallSession of request) sum s (turned_away entry.kind s) _ (λ refusal. refl) h (serves sum s h of request (session_named (get s.selectors of)) (named_there (get s.selectors of)))
  of_session entry (Close of) sum s h is =
      turned (Close of) sum s (turned_away entry.kind s) _ (λ refusal. refl) h (closes sum s h of (session_named (get s.selectors of)))
  of_session entry (Alloc n) sum s h is = absurd (true≢false (sym is))
  of_session entry (Free of) sum s h is = absurd (true≢false (sym is))
  of_session entry (Attach of) sum s h is = absurd (true≢false (sym is))
  of_session entry (AttachAt of address) sum s h is = absurd (true≢false (sym is))
  of_session entry (Detach address) sum s h is = absurd (true≢false (sym is))
  of_session entry (Peek address count) sum s h is = absurd (true≢false (sym is))
  of_session entry (Poke address bytes) sum s h is = absurd (true≢false (sym is))
  of_session entry Capalloc sum s h is = absurd (true≢false (sym is))
  of_session entry (Capfree of) sum s h is = absurd (true≢false (sym is))
  of_session entry (New n) sum s h is = absurd (true≢false (sym is))
  of_session entry (Del address) sum s h is = absurd (true≢false (sym is))
  of_session entry (Snew n) sum s h is = absurd (true≢false (sym is))
  of_session entry (Sdel address) sum s h is = absurd (true≢false (sym is))
  of_session entry Quota sum s h is = absurd (true≢false (sym is))
  of_session entry Reserve sum s h is = absurd (true≢false (sym is))
  of_session entry (Request text) sum s h is = absurd (true≢false (sym is))
  of_session entry (Yield text) sum s h is = absurd (true≢false (sym is))
  of_session entry Exit sum s h is = absurd (true≢false (sym is))

  -- others count nothing
  others_count : (call : Call) (reply : Reply) (sum : Amounts) → is_of_session call ≡ false → counted selector call reply sum ≡ sum
  others_count (Alloc n) reply sum other = refl
  others_count (Free of) reply sum other = refl
  others_count (Attach of) reply sum other = refl
  others_count (AttachAt of address) reply sum other = refl
  others_count (Detach address) reply sum other = refl
  others_count (Peek address count) reply sum other = refl
  others_count (Poke address bytes) reply sum other = refl
  others_count Capalloc reply sum other = refl
  others_count (Capfree of) reply sum other = refl
  others_count (New n) reply sum other = refl
  others_count (Del address) reply sum other = refl
  others_count (Snew n) reply sum other = refl
  others_count (Sdel address) reply sum other = refl
  others_count Quota reply sum other = refl
  others_count Reserve reply sum other = refl
  others_count (Request text) reply sum other = refl
  others_count (Yield text) reply sum other = refl
  others_count Exit reply sum other = refl
  others_count (Open service text) reply sum other = absurd (true≢false other)
  others_count (Upgrade of text) reply sum other = absurd (true≢false other)
  others_count (CallSession of request) reply sum other = absurd (true≢false other)
  others_count (Close of) reply sum other = absurd (true≢false other)

  -- any call
  step : (session : Bool) (entry : Entry) (call : Call) (sum : Amounts) (s : OwnState) → AreCounted sum s → is_of_session call ≡ session → IsCounted call sum (own_step entry call s)
  step true entry call sum s h is = of_session entry call sum s h is
  step false entry call sum s h is =
      subst (λ d. AreCounted d (own_step entry call s).next) (sym (others_count call (own_step entry call s).reply sum is))
      (others_keep (AreCounted sum) s h (effects_named (HasLimits sum) s h) (reserve_named (HasLimits sum) s h) (gone_named (HasLimits sum)) entry call is)

  -- and calls
  run : (entry : Entry) (calls : List Call) (sum : Amounts) (s : OwnState) → AreCounted sum s → AreCounted (donated_after entry selector calls s sum) (own_run entry calls s)
  run entry [] sum s h = h
  run entry (call ∷ calls) sum s h =
      run entry calls (counted selector call (own_step entry call s).reply sum) (own_step entry call s).next (step (is_of_session call) entry call sum s h refl)

-- ---- laws

pub limits_donated : LimitsAreDonations
limits_donated entry calls s selector session none there = search (rules, run)

-- a refusal isn't done
not_done : (refusal : Refusal) → ¬ (Refused refusal ≡ Done)
not_done refusal e = cc

-- a close that is done returns the limits of the session that was there
closed : (s : OwnState) (selector : ℕ) (sum : Amounts) (why : Option Refusal) (found : Option Session) →
    ((x : Session) → found ≡ Some x → (x.account.ram_limit ≡ sum.ram) × (x.account.caps_limit ≡ sum.caps)) →
    (unless why s (session_closed selector found s)).reply ≡ Done → (unless why s (session_closed selector found s)).next.account ≡ raised s.account sum.ram sum.caps
closed s selector sum (Some refusal) found limits done = absurd (not_done refusal done)
closed s selector sum None None limits done = absurd (not_done InvalidSession done)
closed s selector sum None (Some x) limits done = let here = limits x refl in λ i. raised s.account (here.0 i) (here.1 i)

pub closes_returned : ClosesReturnDonations
closes_returned entry calls s selector none done = grind (arith, nat_tests, closed, limits_donated, named_there)
