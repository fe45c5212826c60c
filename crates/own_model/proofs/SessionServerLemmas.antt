-- Which server a session is of.
use Rattle.std.proofs.Common.{◌≡◌, ℕ, Bool, true, false, List, Option, Some, None, Result, Ok, Err, refl, sym, ap, ◌∙◌, true≢false}
use Rattle.std.specs.FinMap.{get}
use Rattle.std.specs.Option.{option_map, option_or}
use Rattle.trade_base.specs.declared.refusal.Refusal.{Refusal}
use Rattle.own_model.proofs.NatMapLemmas.{before_remove}
use Rattle.own_model.proofs.NewSelector.{new_selector_free}
use Rattle.own_model.proofs.ServiceLemmas.{served_there, server_stays, there_by}
use Rattle.own_model.proofs.SessionLemmas.{EachNamed, after_one, each_lent, effects_named, gone_named, named_there, reserve_named}
use Rattle.own_model.proofs.StepTableLemmas.{others_keep}
use Rattle.own_model.specs.Account.{Account, shortage}
use Rattle.own_model.specs.Call.{Call, is_of_session}
use Rattle.own_model.specs.Call.Call.{Alloc, Free, Attach, AttachAt, Detach, Peek, Poke, Capalloc, Capfree, New, Del, Snew, Sdel, Quota, Reserve, Request, Yield, Open, Upgrade, CallSession, Close, Exit}
use Rattle.own_model.specs.OwnState.{OwnState, new_selector, buffer_of, bytes_of_buffer, server_named, session_named}
use Rattle.own_model.specs.OwnState.Object.{OpenSession}
use Rattle.own_model.specs.OwnStep.{Outcome, own_step, unless, turned_away, opened_by, session_opened, upgraded_by, session_upgraded, session_called, session_closed, selectors_lent}
use Rattle.own_model.specs.Routes.{Level, ServerAt, label_with, provider}
use Rattle.own_model.specs.Session.{Labelled, Session, Wish, donation_refusal, given_by, new_session, served, session_with, upgraded, resolved_request, routed_request}
use Rattle.own_model.specs.SessionArgs.{Arguments, arguments_of}
use Rattle.own_model.specs.SessionTheorems.{SessionsHaveTheirServers, server_asked}
use Rattle.own_model.specs.StartList.{Entry}

-- ---- one request

-- a request is answered alike wherever the server stands
pub served_anywhere : (server other : ℕ) (account : Account) (kept : Labelled) (buffer : Option (List ℕ)) (request : List ℕ) →
    served buffer (session_with server account kept) request ≡ served_there server (served buffer (session_with other account kept) request)
served_anywhere server other account kept buffer request = there_by server kept.state buffer (session_with other account kept) request

-- ---- one call

module _ (s : OwnState) (asked : Option ℕ) where
  abbrev Its : ℕ → Session → Type 0
  Its selector session = Some session.server ≡ option_or (server_named (get s.selectors selector)) asked

  abbrev HaveTheirs : OwnState → Type 0
  HaveTheirs t = EachNamed Its t

  at_first : HaveTheirs s
  at_first selector session is = sym (ap (λ o. option_or (server_named o) asked) is)

  unless_have : (why : Option Refusal) (o : Outcome) → HaveTheirs o.next → HaveTheirs (unless why s o).next
  unless_have (Some refusal) o after = at_first
  unless_have None o after = after

  opens : (wish : Wish) → asked ≡ Some wish.server.place → HaveTheirs (session_opened wish s).next
  opens wish to =
      after_one Its s.selectors (new_selector s.selectors) (OpenSession (new_session wish)) at_first
      (sym (ap (λ o. option_or (server_named o) asked) (new_selector_free s.selectors) ∙ to))

  opens_to : (client : List ℕ) (arguments : Arguments) (to : Option ServerAt) → asked ≡ option_map (λ server. server.place) to → HaveTheirs (opened_by (routed_request client arguments to) s).next
  opens_to client arguments None is = at_first
  opens_to client arguments (Some server) is =
      let wish : Wish = record { server = server; label = label_with client arguments.label; ram = arguments.ram; caps = arguments.caps } in
      unless_have (donation_refusal s.account arguments.ram arguments.caps) (session_opened wish s) (opens wish is)

  opens_by : (client : List ℕ) (routes : List Level) (service : List ℕ) (arguments : Option Arguments) →
      asked ≡ option_map (λ server. server.place) (provider routes service (given_by arguments).label) → HaveTheirs (opened_by (resolved_request client routes service arguments) s).next
  opens_by client routes service None is = at_first
  opens_by client routes service (Some arguments) is = opens_to client arguments (provider routes service arguments.label) is

  module _ (of : ℕ) where
    its : (x : Session) → session_named (get s.selectors of) ≡ Some x → Its of x
    its x is = at_first of x (named_there (get s.selectors of) x is)

    upgrades : (found : Option Session) (arguments : Option Arguments) → session_named (get s.selectors of) ≡ found → HaveTheirs (upgraded_by of found arguments s).next
    upgrades None arguments is = at_first
    upgrades (Some x) None is = at_first
    upgrades (Some x) (Some more) is =
        unless_have (shortage s.account more.ram more.caps) (session_upgraded of x more s)
        (after_one Its s.selectors of (OpenSession (upgraded x more.ram more.caps)) at_first (its x is))

    serves : (found : Option Session) (request : List ℕ) → session_named (get s.selectors of) ≡ found → HaveTheirs (session_called of found request s).next
    serves None request is = at_first
    serves (Some x) request is =
        let buffer = buffer_of of s.selectors in
        let o = served (bytes_of_buffer buffer) x request in
        after_one Its (selectors_lent of buffer o.buffer s.selectors) of (OpenSession o.session) (each_lent Its of buffer o.buffer s.selectors at_first)
        (ap Some (server_stays x.state (bytes_of_buffer buffer) x request) ∙ its x is)

    closes : (found : Option Session) → HaveTheirs (session_closed of found s).next
    closes None = at_first
    closes (Some x) = λ q y is.
        let lent = selectors_lent of (buffer_of of s.selectors) None s.selectors in
        each_lent Its of (buffer_of of s.selectors) None s.selectors at_first q y (before_remove lent of q (OpenSession y) is)

have_by : (entry : Entry) (call : Call) (s : OwnState) → is_of_session call ≡ true → HaveTheirs s (server_asked entry call) (own_step entry call s).next
have_by entry (Open service text) s is =
    unless_have s (server_asked entry (Open service text)) (turned_away entry.kind s) _ (opens_by s (server_asked entry (Open service text)) entry.label entry.routes service (arguments_of text) refl)
have_by entry (Upgrade of text) s is = unless_have s None (turned_away entry.kind s) _ (upgrades s None of (session_named (get s.selectors of)) _ refl)
have_by entry (CallSession of request) s is = unless_have s None (turned_away entry.kind s) _ (serves s None of (session_named (get s.selectors of)) request refl)
have_by entry (Close of) s is = unless_have s None (turned_away entry.kind s) _ (closes s None of (session_named (get s.selectors of)))
have_by entry (Alloc n) s is = absurd (true≢false (sym is))
have_by entry (Free of) s is = absurd (true≢false (sym is))
have_by entry (Attach of) s is = absurd (true≢false (sym is))
have_by entry (AttachAt of address) s is = absurd (true≢false (sym is))
have_by entry (Detach address) s is = absurd (true≢false (sym is))
have_by entry (Peek address count) s is = absurd (true≢false (sym is))
have_by entry (Poke address bytes) s is = absurd (true≢false (sym is))
have_by entry Capalloc s is = absurd (true≢false (sym is))
have_by entry (Capfree of) s is = absurd (true≢false (sym is))
have_by entry (New n) s is = absurd (true≢false (sym is))
have_by entry (Del address) s is = absurd (true≢false (sym is))
have_by entry (Snew n) s is = absurd (true≢false (sym is))
have_by entry (Sdel address) s is = absurd (true≢false (sym is))
have_by entry Quota s is = absurd (true≢false (sym is))
have_by entry Reserve s is = absurd (true≢false (sym is))
have_by entry (Request text) s is = absurd (true≢false (sym is))
have_by entry (Yield text) s is = absurd (true≢false (sym is))
have_by entry Exit s is = absurd (true≢false (sym is))

have : (of_session : Bool) (entry : Entry) (call : Call) (s : OwnState) → is_of_session call ≡ of_session → HaveTheirs s (server_asked entry call) (own_step entry call s).next
have true entry call s is = have_by entry call s is
have false entry call s is =
    let asked = server_asked entry call in
    others_keep (HaveTheirs s asked) s (at_first s asked) (effects_named (Its s asked) s (at_first s asked)) (reserve_named (Its s asked) s (at_first s asked)) (gone_named (Its s asked)) entry call is

pub have_their_servers : SessionsHaveTheirServers
have_their_servers entry call s selector session is = have (is_of_session call) entry call s refl selector session is
