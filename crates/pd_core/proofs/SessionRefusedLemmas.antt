-- A call of a session that is refused before its session is looked at.
use Rattle.std.proofs.Common.{set, ◌≡◌, ◌≢◌, ℕ, ◌<◌, List, Option, None, Some, Ok, Err, Result, length, get_or, refl, sym, ap, subst, ◌∙◌}
use Rattle.std.proofs.lemmas.Option.{none-some, same_Some}
use Rattle.std.proofs.lemmas.List.{set-get_or}
use Rattle.std.specs.FinMap.{get}
use Rattle.std.specs.Option.{ok_or, option_map, option_and_then, option_or}
use Rattle.std.specs.Result.{result_ok, result_err}
use Rattle.std.specs.Prelude.{IsErrAnd}
use Rattle.trade_base.specs.declared.id.SessionId.{SessionId}
use Rattle.trade_base.specs.declared.refusal.Refusal.{Refusal}
use Rattle.trade_base.specs.declared.refusal.Refusal.TheVariants.{InvalidSession, NotAScript, Gone, BadArgs}
use Rattle.own_model.specs.Call.{Call}
use Rattle.own_model.specs.Call.Call.{Open, Upgrade, CallSession, Close}
use Rattle.own_model.specs.OwnState.{OwnState, session_named}
use Rattle.own_model.specs.OwnState.Object.{Dataspace as ADataspace}
use Rattle.own_model.specs.OwnStep.{own_step, entry_step, exited_state, refused, opened_by, upgraded_by, session_called, session_closed}
use Rattle.own_model.specs.Reply.{reply_text}
use Rattle.own_model.specs.Reply.Reply.{Refused}
use Rattle.own_model.specs.Routes.{Level}
use Rattle.own_model.specs.StartList.{Entry}
use Rattle.own_model.specs.Session.{wish, resolved_request}
use Rattle.own_model.specs.SessionArgs.{Arguments, arguments_of}
use Rattle.own_model.proofs.NatMapLemmas.{get-picked}
use Rattle.cap_space.specs.declared.cap.Cap.{Cap}
use Rattle.cap_space.specs.declared.cap.Cap.TheVariants.{Dataspace, RpcObject, Session, Buffer}
use Rattle.dataspace_core.specs.Store.{Store, Part}
use Rattle.core_calls.specs.ReplyText.{Told}
use Rattle.pd_core.specs.Answer.{told_alone, reply_of}
use Rattle.pd_core.specs.declared.call_value.CallValue.{CallValue}
use Rattle.pd_core.specs.Component.{Place, entry_of, own_in}
use Rattle.pd_core.specs.Core.{Places, roles_of, sessions_in, IsCore}
use Rattle.pd_core.specs.Exit.{refusal_of}
use Rattle.pd_core.specs.Own.{Sessions, object_of, own_of, own_at, part_at, Lent, lent_in}
use Rattle.pd_core.specs.SessionCalls.{named_in, Goes}
use Rattle.pd_core.specs.Sound.{session_at}
use Rattle.pd_core.specs.declared.component.Component.{Component}
use Rattle.pd_core.specs.declared.component.Role.{Role}
use Rattle.pd_core.specs.declared.component.Role.TheVariants.{Script as AScript, Server as AServer, Init as AnInit, Gone as AGone}
use Rattle.pd_core.specs.declared.script.Script.{Script}
use Rattle.pd_core.proofs.CoreWorldLemmas.{refused_goes}
use Rattle.pd_core.proofs.SessionNamedLemmas.{refused_reply}

-- ---- what a look-up gives

err_is : {T : Type 0} (o : Option T) (e refusal : Refusal) → ok_or o e ≡ Err refusal → (o ≡ None) × (e ≡ refusal)
err_is None e refusal is = (refl, same_Some e refusal (ap result_err is))
err_is (Some x) e refusal is = absurd (none-some refusal (ap result_err is))

ok_is : {T : Type 0} (o : Option T) (e : Refusal) (x : T) → ok_or o e ≡ Ok x → o ≡ Some x
ok_is None e x is = absurd (none-some x (ap result_ok is))
ok_is (Some y) e x is = ap result_ok is

-- a role's selector that names a session is a script's
pub named_script : (role : Role) (selector : ℕ) (named : ℕ × SessionId) → named_in role selector ≡ Ok named →
    (script : Script) × (role ≡ AScript script) × (session_at (get script.caps.caps selector) ≡ Some named)
named_script (AScript script) selector named is = (script, refl, ok_is (session_at (get script.caps.caps selector)) InvalidSession named is)
named_script (AServer account host) selector named is = absurd (none-some named (ap result_ok is))
named_script (AnInit key) selector named is = absurd (none-some named (ap result_ok is))
named_script AGone selector named is = absurd (none-some named (ap result_ok is))

-- ---- refusals

-- a dataspace is none
pub no_space : (o : Option (List ℕ)) → session_named (option_map ADataspace o) ≡ None
no_space None = refl
no_space (Some bytes) = refl

-- a selector that names no session has none in the own state
no_object : (L : Lent) (S : Sessions) (part : Part) (o : Option Cap) → session_at o ≡ None → session_named (option_and_then (object_of L S part) o) ≡ None
no_object L S part None none = refl
no_object L S part (Some (Dataspace ds)) none = no_space (get part.spaces ds.0)
no_object L S part (Some RpcObject) none = refl
no_object L S part (Some (Buffer space session)) none = refl
no_object L S part (Some (Session server session)) none = absurd (none-some (server, session) (sym none))

unnamed : (S : Sessions) (store : Store) (script : Script) (selector : ℕ) → session_at (get script.caps.caps selector) ≡ None →
    session_named (get (own_at S store script).selectors selector) ≡ None
unfolding own_of
unnamed S store script selector none =
    ap session_named (get-picked (object_of (lent_in store) S (part_at store script)) script.caps.caps selector) ∙ no_object (lent_in store) S (part_at store script) (get script.caps.caps selector) none

-- a call of a session is refused where its selector names none
abbrev pub AsksFor : Call → ℕ → Type 0
AsksFor call selector = (entry : Entry) (s : OwnState) → session_named (get s.selectors selector) ≡ None → entry_step entry call s ≡ refused s InvalidSession

pub close_asks : (selector : ℕ) → AsksFor (Close selector) selector
close_asks selector entry s none = ap (λ o. session_closed selector o s) none

pub upgrade_asks : (selector : ℕ) (text : List ℕ) → AsksFor (Upgrade selector text) selector
upgrade_asks selector text entry s none = ap (λ o. upgraded_by selector o (arguments_of text) s) none

pub call_asks : (selector : ℕ) (request : List ℕ) → AsksFor (CallSession selector request) selector
call_asks selector request entry s none = ap (λ o. session_called selector o request s) none

module _ (S : Sessions) (store : Store) (place : Place) (component : Component) where
  abbrev Refuses : Role → Call → Refusal → Type 0
  Refuses role call refusal =
      own_step (entry_of place (record component { role = role })) call (own_in S store role) ≡ refused (own_in S store role) refusal

  -- a call of a session that a selector doesn't name
  unnamed_step : (call : Call) (selector : ℕ) → AsksFor call selector → (role : Role) (refusal : Refusal) → named_in role selector ≡ Err refusal → Refuses role call refusal
  unfolding own_of
  unnamed_step call selector asks (AScript script) refusal is =
      let why = err_is (session_at (get script.caps.caps selector)) InvalidSession refusal is in
      asks (entry_of place (record component { role = AScript script })) (own_in S store (AScript script)) (unnamed S store script selector why.0) ∙ ap (refused (own_in S store (AScript script))) why.1
  unnamed_step call selector asks (AServer account host) refusal is = ap (refused (own_in S store (AServer account host))) (same_Some NotAScript refusal (ap result_err is))
  unnamed_step call selector asks (AnInit account) refusal is = ap (refused (own_in S store (AnInit account))) (same_Some NotAScript refusal (ap result_err is))
  unnamed_step call selector asks AGone refusal is = ap (refused exited_state) (same_Some Gone refusal (ap result_err is))

  -- a call of a server, or of one that has exited
  no_script : (call : Call) (role : Role) (refusal : Refusal) → ((script : Script) → role ≢ AScript script) → Some refusal ≡ option_or (refusal_of role) (Some NotAScript) → Refuses role call refusal
  no_script call (AScript script) refusal other why = absurd (other script refl)
  no_script call (AServer account host) refusal other why = ap (refused (own_in S store (AServer account host))) (same_Some NotAScript refusal (sym why))
  no_script call (AnInit account) refusal other why = ap (refused (own_in S store (AnInit account))) (same_Some NotAScript refusal (sym why))
  no_script call AGone refusal other why = ap (refused exited_state) (same_Some Gone refusal (sym why))

  -- a script that asks for no session that there is
  unasked : (role : Role) (script : Script) (service text : List ℕ) (refusal : Refusal) → role ≡ AScript script → wish component.name.items place.routes service text ≡ Err refusal → Refuses role (Open service text) refusal
  unfolding own_of
  unasked role script service text refusal it is =
      subst (λ r. Refuses r (Open service text) refusal) (sym it) (ap (λ w. opened_by w (own_in S store (AScript script))) is)

-- the component at a place calls
module _ (places : Places) {store : Store} (components : List Component) {i : ℕ} (d : Component) (core : IsCore store components) (here : i < length components) where
  abbrev caller : Component
  caller = get_or components i d

  abbrev S : Sessions
  S = sessions_in store (roles_of components)

  abbrev IsRefused : Call → Refusal → Type 0
  IsRefused call refusal = Goes places call i (told_alone (reply_text (Refused refusal))) store components store components

  pub unnamed_goes : (call : Call) (selector : ℕ) (asks : AsksFor call selector) {found : Result (ℕ × SessionId) Refusal} (refusal : Refusal) → found ≡ named_in caller.role selector → found ≡ Err refusal → IsRefused call refusal
  unnamed_goes call selector asks refusal result was =
      refused_goes places components i d call refusal core here (unnamed_step S store (places i) caller call selector asks caller.role refusal (sym result ∙ was))

  pub no_script_goes : (call : Call) (refusal : Refusal) → ((script : Script) → caller.role ≢ AScript script) → Some refusal ≡ option_or (refusal_of caller.role) (Some NotAScript) → IsRefused call refusal
  no_script_goes call refusal other why = refused_goes places components i d call refusal core here (no_script S store (places i) caller call caller.role refusal other why)

  pub unasked_goes : (script : Script) (service text : List ℕ) (refusal : Refusal) → caller.role ≡ AScript script → wish caller.name.items (places i).routes service text ≡ Err refusal → IsRefused (Open service text) refusal
  unasked_goes script service text refusal it is =
      refused_goes places components i d (Open service text) refusal core here (unasked S store (places i) caller caller.role script service text refusal it is)

-- what a call that is refused gives back
pub passed_on : {places : Places} {call : Call} {i : ℕ} {store store' : Store} {components components' : List Component} (refusal : Refusal) (r : Result CallValue Refusal) → IsErrAnd r (λ y. y ≡ refusal) →
    Goes places call i (told_alone (reply_text (Refused refusal))) store components store' components' → Goes places call i (told_alone (reply_text (reply_of r))) store components store' components'
passed_on {places} {call} {i} {store} {store'} {components} {components'} refusal r is =
    subst (λ o. Goes places call i (told_alone (reply_text o)) store components store' components') (sym (refused_reply r refusal is))

-- a component that is put back as it was read leaves all, where the memory stays
pub unchanged : {places : Places} {call : Call} {i : ℕ} {told : Told} {store store' : Store} {components : List Component} (s : ℕ) (d : Component) {after : Component} → store' ≡ store → after ≡ get_or components s d →
    Goes places call i told store components store components → Goes places call i told store components store' (set components s after)
unchanged {places} {call} {i} {told} {store} {components = components} s d {after} same_store same goes =
    subst (λ m. Goes places call i told store components m (set components s after)) (sym same_store)
    (subst (Goes places call i told store components store) (sym (ap (set components s) same ∙ set-get_or components s d)) goes)

-- the text of arguments can't be read
pub unread_wish : (client : List ℕ) (routes : List Level) (service text : List ℕ) → arguments_of text ≡ None → wish client routes service text ≡ Err BadArgs
unread_wish client routes service text none = ap (resolved_request client routes service) none

-- arguments are their parts
pub arguments_are : (text : List ℕ) {args : Arguments} (ram caps : ℕ) (label : List ℕ) → arguments_of text ≡ Some args → ram ≡ args.ram → caps ≡ args.caps → label ≡ args.label →
    arguments_of text ≡ Some (record { ram = ram; caps = caps; label = label })
arguments_are text ram caps label reads e f g = reads ∙ (λ j. Some (record { ram = sym e j; caps = sym f j; label = sym g j }))
