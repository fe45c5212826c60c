-- What calls leave of sessions.
use Rattle.std.proofs.lemmas.Bool.Decides.{nat_tests}
use Rattle.std.proofs.Common.{arith, rules, ◌≡◌, ℕ, ◌≤◌, Some, refl, sym, ap, List, ◌∙◌}
use Rattle.std.proofs.lemmas.Option.{none-some, same_Some}
use Rattle.std.specs.Prelude.{Option, None}
use Rattle.std.specs.Option.{option_or}
use Rattle.std.specs.FinMap.{get, insert}
use Rattle.own_model.proofs.NatMapLemmas.{each_after_insert, before_remove, get-empty}
use Rattle.own_model.proofs.StepLemmas.{KeptByEffects, KeptByReserve, KeptBySessions, covers, neither}
use Rattle.own_model.specs.Account.{Account, Fits}
use Rattle.own_model.specs.NatMap.{NatMap}
use Rattle.own_model.specs.OwnState.{OwnState, Object, NamedBuffer, EachSession, session_named, new_selector, object_with, buffer_of, bytes_of_buffer}
use Rattle.own_model.specs.OwnState.Object.{Dataspace, RpcObject, OpenSession, Buffer}
use Rattle.own_model.specs.Session.{Session, Wish, donation_refusal, too_small, new_session, upgraded, served, session_ram, session_caps}
use Rattle.trade_base.specs.declared.refusal.Refusal.{Refusal}
use Rattle.std.proofs.lemmas.Bool.{ltb-false}
use Rattle.own_model.specs.OwnStep.{exited_state, selectors_lent}

-- ---- what a donation that is accepted has

-- where neither of two reasons is there
neither_of : (o p : Option Refusal) → option_or o p ≡ None → (o ≡ None) × (p ≡ None)
neither_of None p accepted = (refl, accepted)
neither_of (Some refusal) p accepted = absurd (none-some refusal (sym accepted))

-- the client covers it, and it is large enough
pub donation_covered : (a : Account) (ram caps : ℕ) → donation_refusal a ram caps ≡ None → Fits a ram caps × (too_small ram caps ≡ None)
donation_covered a ram caps accepted = grind (arith, nat_tests, neither_of, covers)

-- a donation that isn't too small has what a session is charged for
pub large_enough : (ram caps : ℕ) → too_small ram caps ≡ None → (session_ram ≤ ram) × (session_caps ≤ caps)
large_enough ram caps accepted = grind (arith, nat_tests, neither, ltb-false)

-- what names a session is that session
pub named_there : (o : Option Object) (x : Session) → session_named o ≡ Some x → o ≡ Some (OpenSession x)
named_there (Some (OpenSession y)) x is = ap (λ z. Some (OpenSession z)) (same_Some y x is)
named_there (Some (Dataspace bytes)) x is = absurd (none-some x is)
named_there (Some RpcObject) x is = absurd (none-some x is)
named_there (Some (Buffer session bytes)) x is = absurd (none-some x is)
named_there None x is = absurd (none-some x is)

-- ---- what holds of each session

module _ (Q : ℕ → Session → Type 0) where
  -- Q holds of each session, with the selector that names it
  abbrev pub EachNamed : OwnState → Type 0
  EachNamed s = (selector : ℕ) (session : Session) → get s.selectors selector ≡ Some (OpenSession session) → Q selector session

  -- it holds of an object, if it is a session
  abbrev OfObject : ℕ → Object → Type 0
  OfObject q (OpenSession session) = Q q session
  OfObject q (Dataspace bytes) = Unit {0}
  OfObject q RpcObject = Unit {0}
  OfObject q (Buffer session bytes) = Unit {0}

  of_objects : (selectors : NatMap Object) → ((selector : ℕ) (session : Session) → get selectors selector ≡ Some (OpenSession session) → Q selector session) →
      (q : ℕ) (object : Object) → get selectors q ≡ Some object → OfObject q object
  of_objects selectors each q (OpenSession session) is = each q session is
  of_objects selectors each q (Dataspace bytes) is = tt
  of_objects selectors each q RpcObject is = tt
  of_objects selectors each q (Buffer session bytes) is = tt

  -- one more object of which it holds
  pub after_one : (selectors : NatMap Object) (k : ℕ) (object : Object) → ((selector : ℕ) (session : Session) → get selectors selector ≡ Some (OpenSession session) → Q selector session) →
      OfObject k object → (selector : ℕ) (session : Session) → get (insert selectors k object) selector ≡ Some (OpenSession session) → Q selector session
  after_one selectors k object each here selector session is =
      each_after_insert selectors k object OfObject (of_objects selectors each) here selector (OpenSession session) is

  -- it holds of each session whatever becomes of a buffer
  pub each_lent : (q : ℕ) (old : Option NamedBuffer) (new : Option (List ℕ)) (selectors : NatMap Object) → ((selector : ℕ) (session : Session) → get selectors selector ≡ Some (OpenSession session) → Q selector session) →
      (selector : ℕ) (session : Session) → get (selectors_lent q old new selectors) selector ≡ Some (OpenSession session) → Q selector session
  each_lent q None None selectors each = each
  each_lent q None (Some bytes) selectors each = after_one selectors (new_selector selectors) (Buffer q bytes) each tt
  each_lent q (Some b) (Some bytes) selectors each = after_one selectors b.selector (Buffer q bytes) each tt
  each_lent q (Some b) None selectors each = λ selector session is. each selector session (before_remove selectors b.selector selector (OpenSession session) is)

  -- the same object with other bytes
  of_poked : (q : ℕ) (object : Object) (offset : ℕ) (part : List ℕ) → OfObject q object → OfObject q (object_with object offset part)
  of_poked q (OpenSession session) offset part h = h
  of_poked q (Dataspace bytes) offset part h = tt
  of_poked q RpcObject offset part h = tt
  of_poked q (Buffer session bytes) offset part h = tt

  -- the calls that are of no session change none
  pub effects_named : (s : OwnState) → EachNamed s → KeptByEffects EachNamed s
  effects_named s h = search (rules, after_one, before_remove, of_poked, of_objects)

  -- nor do requests and yields
  pub reserve_named : (s : OwnState) → EachNamed s → KeptByReserve EachNamed s
  reserve_named s h = record { requests = λ _ _. h; yields = λ _ _. h }

  -- who has exited has none
  pub gone_named : EachNamed exited_state
  gone_named selector session is = absurd (none-some (OpenSession session) (sym (get-empty selector) ∙ is))

module _ (Q : Session → Type 0) where
  abbrev Named : ℕ → Session → Type 0
  Named selector session = Q session

  -- the same of each session
  pub effects_each : (s : OwnState) → EachSession Q s → KeptByEffects (EachSession Q) s
  effects_each s h = effects_named Named s h

  pub reserve_each : (s : OwnState) → EachSession Q s → KeptByReserve (EachSession Q) s
  reserve_each s h = reserve_named Named s h

  pub gone_each : EachSession Q exited_state
  gone_each = gone_named Named

  -- calls of sessions keep what holds of a new session, of one with more, and of one that has served
  pub sessions_each : ((wish : Wish) → too_small wish.ram wish.caps ≡ None → Q (new_session wish)) →
      ((x : Session) (ram caps : ℕ) → Q x → Q (upgraded x ram caps)) → ((x : Session) (buffer : Option (List ℕ)) (request : List ℕ) → Q x → Q (served buffer x request).session) →
      (s : OwnState) → EachSession Q s → KeptBySessions (EachSession Q) s
  sessions_each new more serve s h = record {
    opens = λ wish accepted. after_one Named s.selectors (new_selector s.selectors) (OpenSession (new_session wish)) h (new wish (donation_covered s.account wish.ram wish.caps accepted).1);
    upgrades = λ selector x given there accepted. after_one Named s.selectors selector (OpenSession (upgraded x given.ram given.caps)) h (more x given.ram given.caps (h selector x there));
    serves = λ selector x request there.
        let buffer = buffer_of selector s.selectors in
        let o = served (bytes_of_buffer buffer) x request in
        after_one Named (selectors_lent selector buffer o.buffer s.selectors) selector (OpenSession o.session) (each_lent Named selector buffer o.buffer s.selectors h) (serve x (bytes_of_buffer buffer) request (h selector x there));
    closes = λ selector x there. λ q y is.
        let lent = selectors_lent selector (buffer_of selector s.selectors) None s.selectors in
        each_lent Named selector (buffer_of selector s.selectors) None s.selectors h q y (before_remove lent selector q (OpenSession y) is);
  }
