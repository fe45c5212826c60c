-- A session comes under a selector only by a call that opens one.
use Rattle.std.proofs.Common.{arith, rules, ◌≡◌, ◌≢◌, ℕ, is_some, ap, inl, inr, Bool, true, false, List, Some, refl, sym, ◌∙◌, true≢false, eqb, eqb-true}
use Rattle.std.proofs.lemmas.Bool.{eqb-false}
use Rattle.std.proofs.lemmas.Option.{none-some}
use Rattle.std.specs.Prelude.{Option, None}
use Rattle.std.specs.FinMap.{get, insert, remove}
use Rattle.trade_base.specs.declared.refusal.Refusal.{Refusal}
use Rattle.own_model.proofs.NatMapLemmas.{get-empty, get-insert_same, get-insert_other, get-remove_same, get-remove_other}
use Rattle.own_model.proofs.StepLemmas.{KeptByEffects}
use Rattle.own_model.proofs.StepTableLemmas.{others_keep}
use Rattle.own_model.specs.Account.{shortage}
use Rattle.own_model.specs.Call.{Call, is_of_session}
use Rattle.own_model.specs.Call.Call.{Alloc, Free, Attach, AttachAt, Detach, Peek, Poke, Capalloc, Capfree, New, Del, Snew, Sdel, Quota, Reserve, Request, Yield, Open, Upgrade, CallSession, Close, Exit}
use Rattle.own_model.specs.NatMap.{NatMap}
use Rattle.own_model.specs.OwnState.{OwnState, Object, NamedBuffer, buffer_of, bytes_of_buffer, new_selector, object_with, session_named}
use Rattle.own_model.specs.OwnState.Object.{Dataspace, RpcObject, OpenSession, Buffer}
use Rattle.own_model.specs.OwnStep.{Outcome, own_step, unless, turned_away, selectors_lent, upgraded_by, session_upgraded, session_called, session_closed}
use Rattle.own_model.specs.Session.{Session, upgraded, served}
use Rattle.own_model.specs.SessionArgs.{Arguments}
use Rattle.own_model.specs.StartList.{Entry}
use Rattle.std.proofs.Common.{length, map}
use Rattle.std.proofs.lemmas.Bool.{cases_lt}
use Rattle.std.proofs.lemmas.List.{get_or-map, get_or_past, length-map}
use Rattle.own_model.specs.Amounts.{no_amounts}
use Rattle.own_model.specs.StartList.{StartEntry, StartList, start_state}
use Rattle.own_model.specs.Transcript.{nobody, nothing}
use Rattle.own_model.specs.World.{start_world}
use Rattle.view_accounts.specs.Peaks.{is_open, opens}

module _ (selector : ℕ) where
  -- the selector names no session
  abbrev NamesNone : NatMap Object → Type 0
  NamesNone m = session_named (get m selector) ≡ None

  abbrev IsNone : OwnState → Type 0
  IsNone t = NamesNone t.selectors

  module _ (m : NatMap Object) (none : NamesNone m) where
    -- something comes that is no session, or under another selector
    put : (k : ℕ) (object : Object) → (selector ≡ k → session_named (Some object) ≡ None) → NamesNone (insert m k object)
    put k object other = elim (eqb selector k) as (λ b. eqb selector k ≡ b → NamesNone (insert m k object)) [
      | true ↦ λ at. ap session_named (get-insert_same m k object selector (eqb-true selector k at)) ∙ other (eqb-true selector k at)
      | false ↦ λ at. ap session_named (get-insert_other m k object selector (eqb-false selector k at)) ∙ none
    ] refl

    -- a selector goes
    removed : (k : ℕ) → NamesNone (remove m k)
    removed k = elim (eqb selector k) as (λ b. eqb selector k ≡ b → NamesNone (remove m k)) [
      | true ↦ λ at. ap session_named (get-remove_same m k selector (eqb-true selector k at))
      | false ↦ λ at. ap session_named (get-remove_other m k selector (eqb-false selector k at)) ∙ none
    ] refl

    -- what names a session is another selector
    apart : (k : ℕ) (x : Session) → session_named (get m k) ≡ Some x → selector ≢ k
    apart k x there at = none-some x (sym none ∙ ap (λ j. session_named (get m j)) at ∙ there)

    -- a session's place holds what becomes of it
    changed : (k : ℕ) (x : Session) (object : Object) → session_named (get m k) ≡ Some x → NamesNone (insert m k object)
    changed k x object there = put k object (λ at. absurd (apart k x there at))

    -- what is lent comes, stays or goes
    lent : (q : ℕ) (old : Option NamedBuffer) (new : Option (List ℕ)) → NamesNone (selectors_lent q old new m)
    lent q None None = none
    lent q None (Some bytes) = put (new_selector m) (Buffer q bytes) (λ _. refl)
    lent q (Some b) (Some bytes) = put b.selector (Buffer q bytes) (λ _. refl)
    lent q (Some b) None = removed b.selector

  module _ (s : OwnState) (none : IsNone s) where
    made : (k : ℕ) (bytes : List ℕ) → NamesNone (insert s.selectors k (Dataspace bytes))
    made k bytes = put s.selectors none k (Dataspace bytes) (λ _. refl)

    object_made : (k : ℕ) → NamesNone (insert s.selectors k RpcObject)
    object_made k = put s.selectors none k RpcObject (λ _. refl)

    gone : (k : ℕ) → NamesNone (remove s.selectors k)
    gone k = removed s.selectors none k

    -- bytes put over those of an object
    poked : (k offset : ℕ) (bytes : List ℕ) (object : Object) → get s.selectors k ≡ Some object → NamesNone (insert s.selectors k (object_with object offset bytes))
    poked k offset bytes (Dataspace old) named = put s.selectors none k _ (λ _. refl)
    poked k offset bytes RpcObject named = put s.selectors none k _ (λ _. refl)
    poked k offset bytes (Buffer of old) named = put s.selectors none k _ (λ _. refl)
    poked k offset bytes (OpenSession other) named = changed s.selectors none k other _ (ap session_named named)

    effects_leave : KeptByEffects IsNone s
    effects_leave = search (rules, made, object_made, gone, poked)

    unless_leaves : (why : Option Refusal) (o : Outcome) → IsNone o.next → IsNone (unless why s o).next
    unless_leaves (Some refusal) o after = none
    unless_leaves None o after = after

    upgrades : (of : ℕ) (found : Option Session) (arguments : Option Arguments) → session_named (get s.selectors of) ≡ found → IsNone (upgraded_by of found arguments s).next
    upgrades of None arguments is = none
    upgrades of (Some x) None is = none
    upgrades of (Some x) (Some more) is =
        unless_leaves (shortage s.account more.ram more.caps) (session_upgraded of x more s) (changed s.selectors none of x (OpenSession (upgraded x more.ram more.caps)) is)

    serves : (of : ℕ) (found : Option Session) (request : List ℕ) → session_named (get s.selectors of) ≡ found → IsNone (session_called of found request s).next
    serves of None request is = none
    serves of (Some x) request is =
        let buffer = buffer_of of s.selectors in
        let o = served (bytes_of_buffer buffer) x request in
        put (selectors_lent of buffer o.buffer s.selectors) (lent s.selectors none of buffer o.buffer) of (OpenSession o.session) (λ at. absurd (apart s.selectors none of x is at))

    closes : (of : ℕ) (found : Option Session) → IsNone (session_closed of found s).next
    closes of None = none
    closes of (Some x) =
        let buffer = buffer_of of s.selectors in
        removed (selectors_lent of buffer None s.selectors) (lent s.selectors none of buffer None) of

    stays_by : (entry : Entry) (call : Call) → is_of_session call ≡ true → opens call ≡ false → IsNone (own_step entry call s).next
    stays_by entry (Open service text) is other = absurd (true≢false other)
    stays_by entry (Upgrade of text) is other = unless_leaves (turned_away entry.kind s) _ (upgrades of (session_named (get s.selectors of)) _ refl)
    stays_by entry (CallSession of request) is other = unless_leaves (turned_away entry.kind s) _ (serves of (session_named (get s.selectors of)) request refl)
    stays_by entry (Close of) is other = unless_leaves (turned_away entry.kind s) _ (closes of (session_named (get s.selectors of)))
    stays_by entry (Alloc n) is other = absurd (true≢false (sym is))
    stays_by entry (Free of) is other = absurd (true≢false (sym is))
    stays_by entry (Attach of) is other = absurd (true≢false (sym is))
    stays_by entry (AttachAt of address) is other = absurd (true≢false (sym is))
    stays_by entry (Detach address) is other = absurd (true≢false (sym is))
    stays_by entry (Peek address count) is other = absurd (true≢false (sym is))
    stays_by entry (Poke address bytes) is other = absurd (true≢false (sym is))
    stays_by entry Capalloc is other = absurd (true≢false (sym is))
    stays_by entry (Capfree of) is other = absurd (true≢false (sym is))
    stays_by entry (New n) is other = absurd (true≢false (sym is))
    stays_by entry (Del address) is other = absurd (true≢false (sym is))
    stays_by entry (Snew n) is other = absurd (true≢false (sym is))
    stays_by entry (Sdel address) is other = absurd (true≢false (sym is))
    stays_by entry Quota is other = absurd (true≢false (sym is))
    stays_by entry Reserve is other = absurd (true≢false (sym is))
    stays_by entry (Request text) is other = absurd (true≢false (sym is))
    stays_by entry (Yield text) is other = absurd (true≢false (sym is))
    stays_by entry Exit is other = absurd (true≢false (sym is))

    stays : (of_session : Bool) (entry : Entry) (call : Call) → is_of_session call ≡ of_session → opens call ≡ false → IsNone (own_step entry call s).next
    stays true entry call is other = stays_by entry call is other
    stays false entry call is other =
        others_keep IsNone s none effects_leave (record { requests = λ _ _. none; yields = λ _ _. none }) (ap session_named (get-empty selector)) entry call is

    -- no other call does
    pub none_still : (entry : Entry) (call : Call) → opens call ≡ false → IsNone (own_step entry call s).next
    none_still entry call other = stays (is_of_session call) entry call refl other

-- ---- at the start

no_start : StartEntry
no_start = record { entry = nobody; ram = 0; caps = 0; reserve = no_amounts }

-- nobody starts with one
pub closed_at_start : (component selector : ℕ) (list : StartList) → is_open component selector (start_world list) ≡ false
closed_at_start component selector list = elim (cases_lt component (length list.starts)) [
  | inl within ↦
      ap (λ (s : OwnState). is_some (session_named (get s.selectors selector))) (get_or-map start_state list.starts component no_start nothing within)
      ∙ ap (λ o. is_some (session_named o)) (get-empty selector)
  | inr past ↦
      ap (λ (s : OwnState). is_some (session_named (get s.selectors selector))) (get_or_past (map start_state list.starts) component nothing (omega (arith, past, length-map list.starts start_state)))
      ∙ ap (λ o. is_some (session_named o)) (get-empty selector)
]
