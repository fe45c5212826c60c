-- A session that the component at a place asks for: the server that it is led to, and how it goes.
use Rattle.std.proofs.Common.{◌≡◌, ℕ, ◌<◌, List, [], length, get_or, set, is_some, None, Some, Ok, refl, sym, ap, subst, ◌∙◌}
use Rattle.std.proofs.lemmas.List.{get_or_default, get_or-set_other}
use Rattle.std.proofs.lemmas.Option.{same_Some}
use Rattle.std.specs.FinMap.{get}
use Rattle.std.specs.Option.{option_map}
use Rattle.trade_base.specs.declared.id.AccountId.{AccountId}
use Rattle.trade_base.specs.declared.id.Selector.{Selector}
use Rattle.trade_base.specs.declared.id.SessionId.{SessionId}
use Rattle.trade_base.specs.declared.refusal.Refusal.{Refusal}
use Rattle.own_model.specs.Call.Call.{Open}
use Rattle.own_model.specs.OwnState.{new_selector}
use Rattle.own_model.specs.OwnStep.{own_step, refused, unless, opened_by, session_opened}
use Rattle.own_model.specs.Reply.{reply_text}
use Rattle.own_model.specs.Reply.Reply.{Selected, Refused}
use Rattle.own_model.specs.Offer.{Offer}
use Rattle.own_model.specs.Routes.{provider, label_with}
use Rattle.own_model.specs.Session.{Wish, donation_refusal, state_at_first, wish, resolved_request, routed_request, Labelled}
use Rattle.own_model.specs.SessionArgs.{Arguments, arguments_of}
use Rattle.own_model.proofs.NewSelector.{new_selector_free}
use Rattle.dataspace_core.specs.Store.{Store, account_in}
use Rattle.dataspace_core.proofs.PartLaws.{account_of-part}
use Rattle.server_frame.specs.Frame.{OpensSession}
use Rattle.server_frame.proofs.RowLaws.{IsNoRows}
use Rattle.server_kinds.proofs.HostLaws.{is_none}
use Rattle.server_kinds.specs.Host.{offer_of, rows_of as rows_of_host, Admits, StaysServer}
use Rattle.server_kinds.specs.declared.any_server.AnyServer.{AnyServer}
use Rattle.pd_core.specs.Answer.{told_alone}
use Rattle.pd_core.specs.Component.{entry_of, kind_of, offer_in, caps_of, caps_in, rows_in, offer_of as offer_of_component, own_in, HasPlace, IsSoundRole, StaysServer as StaysServerAs}
use Rattle.pd_core.specs.Core.{Places, Roles, roles_of, sessions_in, IsCore}
use Rattle.pd_core.specs.Own.{Sessions, HasSessions, own_of}
use Rattle.pd_core.specs.Sessions.{row_session}
use Rattle.pd_core.specs.SessionCalls.{Agrees, Goes, HasSelectorLeft, Leads, with_session}
use Rattle.pd_core.specs.declared.component.Component.{Component}
use Rattle.pd_core.specs.declared.component.Role.TheVariants.{Script as AScript, Server as AServer}
use Rattle.pd_core.specs.declared.script.Script.{Script}
use Rattle.pd_core.proofs.CoreHeldLemmas.{names_open as all_open}
use Rattle.pd_core.proofs.CorePlainLemmas.{face_is}
use Rattle.pd_core.proofs.CoreRouterLemmas.{led_to_service}
use Rattle.pd_core.proofs.ServerLemmas.{serving_as, as_it_is, component_stays}
use Rattle.pd_core.proofs.SessionBetweenLemmas.{payer_open, no_session, has_place, has_room, script_sound, names_open, new_alone, open_alike, open_others, changes_opened}
use Rattle.pd_core.proofs.SessionChangeLemmas.{AreTwo, ReplacesTwo, two_places, sessions_agree, now_there, step_goes}
use Rattle.pd_core.proofs.SessionWorldLemmas.{kept_put}
use Rattle.pd_core.proofs.SessionOpenLemmas.{OpensFor, opens_for, script_with, has_place as has_selector}
use Rattle.pd_core.proofs.SessionOwnLemmas.{is_step}
use Rattle.pd_core.proofs.CoreWorldLemmas.{face_of, SameFaces, face_set, refused_goes, role_at}

-- the component at a place is a script that asks for a session with these arguments, and is led to a place
pub record IsLed (places : Places) (leads : Leads) (store : Store) (components : List Component) (i s : ℕ) (d : Component) (script : Script) (service text : List ℕ) (args : Arguments) : Type 0 where
  pub core : IsCore store components
  pub here : i < length components
  pub agrees : Agrees places leads store components
  pub is_script : (get_or components i d).role ≡ AScript script
  pub reads : arguments_of text ≡ Some args
  pub led : leads i service args.label ≡ Some s

module _ {places : Places} {leads : Leads} {store : Store} {components : List Component} {i s : ℕ} {d : Component} {script : Script} {service text : List ℕ} {args : Arguments}
    (is_led : IsLed places leads store components i s d script service text args) where
  open is_led use {core, here, agrees, is_script, reads, led}

  abbrev caller : Component
  caller = get_or components i d

  abbrev roles : Roles
  roles = roles_of components

  abbrev S : Sessions
  S = sessions_in store (roles_of components)

  -- a server of this service stands there
  to_service : (kind : Offer) × (provider (places i).routes service args.label ≡ Some (record { kind = kind; place = s })) × ((s < length components) × ((e : Component) → offer_of_component (get_or components s e) ≡ Some kind))
  to_service = led_to_service places leads store components i service args.label agrees here s led

  abbrev kind : Offer
  kind = to_service.0

  pub led_two : AreTwo store (roles_of components) i s script
  led_two = record {
    core = core;
    is_script = role_at components i d here ∙ is_script;
    serving = ap (λ r. is_some (offer_in r)) (role_at components s d to_service.2.0) ∙ ap is_some (to_service.2.1 d);
  }

  -- what is asked for
  abbrev wished : Wish
  wished = record { server = record { kind = to_service.0; place = s }; label = label_with (get_or components i d).name.items args.label; ram = args.ram; caps = args.caps }

  asks : wish (get_or components i d).name.items (places i).routes service text ≡ Ok wished
  asks = ap (resolved_request (get_or components i d).name.items (places i).routes service) reads ∙ ap (routed_request (get_or components i d).name.items args) to_service.1

  -- a donation that is refused
  pub led_refused : (refusal : Refusal) → Some refusal ≡ donation_refusal (account_in store script.account.0) args.ram args.caps →
      Goes places (Open service text) i (told_alone (reply_text (Refused refusal))) store components store components
  unfolding own_of
  led_refused refusal is =
      let before = own_in S store (AScript script) in
      refused_goes places components i d (Open service text) refusal core here
      (subst (λ r. own_step (entry_of (places i) (get_or components i d)) (Open service text) (own_in S store r) ≡ refused (own_in S store r) refusal) (sym is_script)
      (is_step (entry_of (places i) (get_or components i d)) (Open service text) before (ap kind_of is_script) refl
      ∙ ap (λ w. opened_by w before) asks ∙ ap (λ o. unless o before (session_opened wished before))
      (ap (λ a. donation_refusal a args.ram args.caps) (account_of-part script.account.0 store) ∙ sym is)))

  -- the server is read at its place
  module _ (e : Component) (key : AccountId) (host : AnyServer) (is : (get_or components s e).role ≡ AServer key host) where
    at_place : roles_of components s ≡ AServer key host
    at_place = role_at components s e to_service.2.0 ∙ is

    -- it can open a session for the script
    pub led_admits : Admits store host script.account.0 args.ram args.caps
    led_admits = record {
      works = (subst (IsSoundRole store) at_place (core.sound s)).works;
      is_open = payer_open led_two;
      no_session = is_none store host script.account.0 (subst (λ r. IsNoRows (rows_in store r) script.account.0) at_place (no_session led_two));
      place = λ accepted. subst HasPlace at_place (has_place led_two args.ram args.caps accepted);
      room = has_room led_two args.ram args.caps;
    }

    -- of the service that is asked for
    its_service : offer_of host ≡ to_service.0
    its_service = same_Some _ _ (ap offer_in (sym is) ∙ to_service.2.1 e)

    -- a session is opened, and the script is read again
    module _ (store' : Store) (opened : AnyServer) (stays : StaysServer store host store' opened)
        (accepted : None ≡ donation_refusal (account_in store script.account.0) args.ram args.caps) (session : SessionId) (whole : List ℕ) (labelled : whole ≡ label_with (get_or components i d).name.items args.label)
        (opening : OpensSession script.account.0 args.ram args.caps session.0 (record { label = whole; state = state_at_first (offer_of host) }) store store' (rows_of_host store host) (rows_of_host store' opened)) (d' : Component) where
      abbrev first : Labelled
      first = record { label = label_with (get_or components i d).name.items args.label; state = state_at_first (to_service.0) }

      abbrev host' : Component
      host' = serving_as (get_or components s e) key opened

      opens : OpensSession script.account.0 args.ram args.caps session.0 first store store' (rows_in store (roles_of components s)) (rows_of_host store' opened)
      opens =
          subst (λ r. OpensSession script.account.0 args.ram args.caps session.0 first store store' (rows_in store r) (rows_of_host store' opened)) (sym at_place)
          (subst (λ f. OpensSession script.account.0 args.ram args.caps session.0 f store store' (rows_of_host store host) (rows_of_host store' opened))
          (λ j. record { label = labelled j; state = state_at_first (its_service j) }) opening)

      abbrev again : Component
      again = get_or (set components s host') i d'

      same_caller : get_or (set components s host') i d' ≡ get_or components i d
      same_caller = get_or-set_other components s i host' d' (λ at. two_places led_two (sym at)) ∙ get_or_default components i d' d here

      same_role : (get_or (set components s host') i d').role ≡ AScript script
      same_role = ap (λ (c : Component). c.role) same_caller ∙ is_script

      -- it has a place for the selector
      pub led_selector : HasSelectorLeft (get_or (set components s host') i d').role
      led_selector =
          subst HasSelectorLeft (sym same_role)
          (has_selector store store' script (rows_in store (roles_of components s)) s session args.ram args.caps (script_sound led_two) (names_open led_two) opens.free stays.machine opens.parted (sym accepted)
          (open_alike led_two args.ram args.caps (sym accepted) store' opens) (open_others led_two args.ram args.caps (sym accepted) store' opens))

      abbrev host_then : Component
      host_then = serving_as (get_or components s e) key host

      component : StaysServerAs store host_then store' host'
      component = component_stays (get_or components s e) key stays

      -- it goes as the model's
      pub led_opened : (selector : Selector) (kept : Component) → selector.0 ≡ new_selector (caps_of (get_or (set components s host') i d')) →
          kept ≡ record (get_or (set components s host') i d') { role = with_session (get_or (set components s host') i d').role selector.0 s session } →
          Goes places (Open service text) i (told_alone (reply_text (Selected selector.0))) store components store' (set (set components s host') i kept)
      led_opened selector kept least kept_is =
          let after : List Component = set (set components s host') i kept in
          let script' : Script = script_with script selector.0 s session in
          let is_new : selector.0 ≡ new_selector script.caps.caps = least ∙ ap (λ r. new_selector (caps_in r)) same_role in
          let unused : get script.caps.caps selector.0 ≡ None = ap (get script.caps.caps) is_new ∙ new_selector_free script.caps.caps in
          let for_it : OpensFor selector.0 s session args.ram args.caps store store' script
          = opens_for store store' script (rows_in store (roles_of components s)) s session args.ram args.caps (script_sound led_two) (names_open led_two) opens.free stays.machine opens.parted (sym accepted)
          (open_alike led_two args.ram args.caps (sym accepted) store' opens) (open_others led_two args.ram args.caps (sym accepted) store' opens) selector.0 unused is_new in
          let changes = changes_opened led_two args.ram args.caps (sym accepted) store' opens selector.0 unused for_it.sound stays.machine in
          let alone = new_alone led_two args.ram args.caps (sym accepted) store' opens in
          let kept_role : kept.role ≡ AScript script' = ap (λ (c : Component). c.role) kept_is ∙ ap (λ r. with_session r selector.0 s session) same_role in
          let replaced = subst (λ r. ReplacesTwo (roles_of components) (roles_of after) i s r host'.role) kept_role (kept_put components led_two host' kept) in
          let name = (get_or (set components s host') i d').name.items in
          let faces : SameFaces components after
          = face_set (set components s host') i kept d' (ap face_of kept_is
          ∙ (λ j. record { label = name; kind = kind_of (with_session (same_role j) selector.0 s session); offer = offer_in (with_session (same_role j) selector.0 s session) })
          ∙ (λ j. record { label = name; kind = kind_of (sym same_role j); offer = offer_in (sym same_role j) }))
          ∙ face_set components s host' e (face_is host_then host' component.entry component.service ∙ ap face_of (as_it_is (get_or components s e) key host is)) in
          let ready : HasSessions S script.caps.caps = subst (λ r. HasSessions S (caps_in r)) led_two.is_script (all_open core i) in
          step_goes components after led_two d at_place replaced faces alone changes component places (Open service text) refl refl (Selected selector.0) [] (told_alone (reply_text (Selected selector.0))) refl refl
          (for_it.does (entry_of (places i) (get_or components i d)) S (sessions_in store' (roles_of after)) service text wished ready asks refl refl
          (sessions_agree led_two at_place replaced alone changes component) (ap (option_map (row_session s)) (now_there led_two at_place replaced alone changes component)))
