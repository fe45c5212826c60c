-- A session stays as it is but for the calls that are of it.
use Rattle.std.proofs.lemmas.Bool.Decides.{nat_tests}
use Rattle.std.proofs.Common.{arith, rules, ◌≡◌, ◌≢◌, ℕ, ◌==◌, Bool, true, false, List, Some, refl, sym, ap, ◌∙◌, true≢false, eqb-true}
use Rattle.std.proofs.lemmas.Bool.{eqb-false}
use Rattle.std.proofs.lemmas.Option.{none-some, same_Some}
use Rattle.std.specs.Prelude.{Option, None, Result, Ok, Err}
use Rattle.std.specs.FinMap.{get, insert, remove}
use Rattle.trade_base.specs.declared.refusal.Refusal.{Refusal}
use Rattle.own_model.proofs.NatMapLemmas.{get-insert_same, get-insert_other, get-remove_other}
use Rattle.own_model.proofs.NewSelector.{new_selector_free}
use Rattle.own_model.proofs.LentLemmas.{lent_still}
use Rattle.own_model.proofs.StepLemmas.{KeptByEffects}
use Rattle.own_model.proofs.StepTableLemmas.{others_go_on}
use Rattle.own_model.specs.Account.{shortage}
use Rattle.own_model.specs.Call.{Call, is_of_session, is_exit}
use Rattle.own_model.specs.Call.Call.{Alloc, Free, Attach, AttachAt, Detach, Peek, Poke, Capalloc, Capfree, New, Del, Snew, Sdel, Quota, Reserve, Request, Yield, Open, Upgrade, CallSession, Close, Exit}
use Rattle.own_model.specs.OwnState.{OwnState, Object, new_selector, object_with, buffer_of, bytes_of_buffer}
use Rattle.own_model.specs.OwnState.Object.{Dataspace, RpcObject, OpenSession, Buffer}
use Rattle.own_model.specs.OwnStep.{Outcome, own_step, unless, turned_away, opened_by, session_opened, upgraded_by, session_upgraded, session_called, session_closed, selectors_lent}
use Rattle.own_model.specs.Session.{Session, Wish, wish, donation_refusal, new_session, upgraded, served}
use Rattle.own_model.specs.SessionArgs.{Arguments}
use Rattle.own_model.specs.SessionTheorems.{is_of, SessionsAreIndependent}
use Rattle.own_model.specs.StartList.{Entry}

module _ (selector : ℕ) (session : Session) where
  -- the selector names the session
  abbrev IsThere : OwnState → Type 0
  IsThere t = get t.selectors selector ≡ Some (OpenSession session)

  module _ (s : OwnState) (there : IsThere s) where
    -- what another selector names is of no matter
    beside_new : (object : Object) → get (insert s.selectors (new_selector s.selectors) object) selector ≡ Some (OpenSession session)
    beside_new object = search (rules, get-insert_other, none-some, new_selector_free)

    -- nor what another kind of object becomes
    apart : (k : ℕ) (object : Object) → get s.selectors k ≡ Some object → ¬ (object ≡ OpenSession session) → selector ≢ k
    apart k object named other at = other (same_Some object (OpenSession session) (sym named ∙ ap (get s.selectors) (sym at) ∙ there))

    left : (k : ℕ) → selector ≢ k → get (remove s.selectors k) selector ≡ Some (OpenSession session)
    left k other = get-remove_other s.selectors k selector other ∙ there

    replaced : (k : ℕ) (object : Object) → selector ≢ k → get (insert s.selectors k object) selector ≡ Some (OpenSession session)
    replaced k object other = get-insert_other s.selectors k object selector other ∙ there

    dataspace_is_none : (bytes : List ℕ) → ¬ (Dataspace bytes ≡ OpenSession session)
    dataspace_is_none bytes e = cc

    rpc_is_none : ¬ (RpcObject ≡ OpenSession session)
    rpc_is_none e = cc

    buffer_is_none : (of : ℕ) (bytes : List ℕ) → ¬ (Buffer of bytes ≡ OpenSession session)
    buffer_is_none of bytes e = cc

    -- bytes put over those of an object, which a session has none of
    poked : (k offset : ℕ) (bytes : List ℕ) (object : Object) → get s.selectors k ≡ Some object → get (insert s.selectors k (object_with object offset bytes)) selector ≡ Some (OpenSession session)
    poked k offset bytes (Dataspace old) named = replaced k _ (apart k (Dataspace old) named (dataspace_is_none old))
    poked k offset bytes RpcObject named = replaced k _ (apart k RpcObject named rpc_is_none)
    poked k offset bytes (Buffer of old) named = replaced k _ (apart k (Buffer of old) named (buffer_is_none of old))
    poked k offset bytes (OpenSession other) named = grind (arith, nat_tests, eqb-true, get-insert_same, replaced, eqb-false)

    -- so calls that are of no session leave it
    effects_leave : KeptByEffects IsThere s
    effects_leave = search (rules, beside_new, left, apart, poked, rpc_is_none)

    -- what is refused leaves it, and what is accepted where it does
    unless_leaves : (why : Option Refusal) (o : Outcome) → IsThere o.next → IsThere (unless why s o).next
    unless_leaves (Some refusal) o after = there
    unless_leaves None o after = after

    opens : (asked : Result Wish Refusal) → IsThere (opened_by asked s).next
    opens (Err refusal) = there
    opens (Ok asked) = unless_leaves (donation_refusal s.account asked.ram asked.caps) (session_opened asked s) (beside_new (OpenSession (new_session asked)))

    module _ (of : ℕ) (other : selector ≢ of) where
      upgrades : (found : Option Session) (arguments : Option Arguments) → IsThere (upgraded_by of found arguments s).next
      upgrades None arguments = there
      upgrades (Some x) None = there
      upgrades (Some x) (Some more) = unless_leaves (shortage s.account more.ram more.caps) (session_upgraded of x more s) (replaced of (OpenSession (upgraded x more.ram more.caps)) other)

      serves : (found : Option Session) (request : List ℕ) → IsThere (session_called of found request s).next
      serves None request = there
      serves (Some x) request =
          let buffer = buffer_of of s.selectors in
          let o = served (bytes_of_buffer buffer) x request in
          get-insert_other (selectors_lent of buffer o.buffer s.selectors) of (OpenSession o.session) selector other
          ∙ lent_still of s.selectors buffer o.buffer refl selector (OpenSession session) there refl

      closes : (found : Option Session) → IsThere (session_closed of found s).next
      closes None = there
      closes (Some x) =
          let buffer = buffer_of of s.selectors in
          get-remove_other (selectors_lent of buffer None s.selectors) of selector other
          ∙ lent_still of s.selectors buffer None refl selector (OpenSession session) there refl

  -- another selector's call
  otherwise : (of : ℕ) → (of == selector) ≡ false → selector ≢ of
  otherwise of other at = eqb-false of selector other (sym at)

  -- calls of other sessions leave it
  stays_by : (entry : Entry) (call : Call) (s : OwnState) → IsThere s → is_of_session call ≡ true → is_of selector call ≡ false → IsThere (own_step entry call s).next
  stays_by entry (Open service text) s there is other = unless_leaves s there (turned_away entry.kind s) _ (opens s there (wish entry.label entry.routes service text))
  stays_by entry (Upgrade of text) s there is other = grind (arith, nat_tests, unless_leaves, upgrades, otherwise)
  stays_by entry (CallSession of request) s there is other = grind (arith, nat_tests, unless_leaves, serves, otherwise)
  stays_by entry (Close of) s there is other = grind (arith, nat_tests, unless_leaves, closes, otherwise)
  stays_by entry (Alloc n) s there is other = absurd (true≢false (sym is))
  stays_by entry (Free of) s there is other = absurd (true≢false (sym is))
  stays_by entry (Attach of) s there is other = absurd (true≢false (sym is))
  stays_by entry (AttachAt of address) s there is other = absurd (true≢false (sym is))
  stays_by entry (Detach address) s there is other = absurd (true≢false (sym is))
  stays_by entry (Peek address count) s there is other = absurd (true≢false (sym is))
  stays_by entry (Poke address bytes) s there is other = absurd (true≢false (sym is))
  stays_by entry Capalloc s there is other = absurd (true≢false (sym is))
  stays_by entry (Capfree of) s there is other = absurd (true≢false (sym is))
  stays_by entry (New n) s there is other = absurd (true≢false (sym is))
  stays_by entry (Del address) s there is other = absurd (true≢false (sym is))
  stays_by entry (Snew n) s there is other = absurd (true≢false (sym is))
  stays_by entry (Sdel address) s there is other = absurd (true≢false (sym is))
  stays_by entry Quota s there is other = absurd (true≢false (sym is))
  stays_by entry Reserve s there is other = absurd (true≢false (sym is))
  stays_by entry (Request text) s there is other = absurd (true≢false (sym is))
  stays_by entry (Yield text) s there is other = absurd (true≢false (sym is))
  stays_by entry Exit s there is other = absurd (true≢false (sym is))

  -- what is of no session goes on
  no_exit : (call : Call) → is_of selector call ≡ false → is_exit call ≡ false
  no_exit Exit other = absurd (true≢false other)
  no_exit call other = refl

  -- and so do all others
  stays : (of_session : Bool) (entry : Entry) (call : Call) (s : OwnState) → IsThere s → is_of_session call ≡ of_session → is_of selector call ≡ false → IsThere (own_step entry call s).next
  stays true entry call s there is other = stays_by entry call s there is other
  stays false entry call s there is other = others_go_on IsThere s there (effects_leave s there) entry call (λ _. record { requests = λ _ _. there; yields = λ _ _. there }) is (no_exit call other)

pub stand_alone : SessionsAreIndependent
stand_alone entry call s selector session there other = stays selector session (is_of_session call) entry call s there refl other
