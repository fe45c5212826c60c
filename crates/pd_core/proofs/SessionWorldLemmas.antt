-- A call of a session that a selector names, or that is opened: the components after it, and that it goes as the model's.
use Rattle.std.proofs.Common.{◌≡◌, ◌≢◌, false, true, ℕ, ◌<◌, List, [], Option, None, Some, Ok, is_some, length, get_or, set, refl, sym, ap, subst, ◌∙◌}
use Rattle.std.proofs.lemmas.List.{length-set}
use Rattle.std.proofs.lemmas.Option.{none-some, same_Some}
use Rattle.std.specs.FinMap.{get, insert}
use Rattle.std.specs.Option.{option_map}
use Rattle.std.specs.Prelude.{IsSome}
use Rattle.trade_base.specs.declared.id.AccountId.{AccountId}
use Rattle.trade_base.specs.declared.id.DsId.{DsId}
use Rattle.trade_base.specs.declared.id.SessionId.{SessionId}
use Rattle.trade_base.specs.declared.refusal.Refusal.{Refusal}
use Rattle.trade_base.specs.declared.refusal.Refusal.TheVariants.{BadArgs}
use Rattle.own_model.specs.Account.{shortage}
use Rattle.own_model.specs.Call.Call.{Upgrade}
use Rattle.own_model.specs.Donation.{raised}
use Rattle.own_model.specs.NatMap.{NatMap}
use Rattle.own_model.specs.OwnStep.{own_step, entry_step, refused}
use Rattle.own_model.specs.Reply.{reply_text}
use Rattle.own_model.specs.Reply.Reply.{Done, Refused}
use Rattle.own_model.specs.Session.{Labelled}
use Rattle.own_model.specs.SessionArgs.{Arguments, arguments_of}
use Rattle.own_model.proofs.StepLemmas.{covers}
use Rattle.own_model.proofs.NatMapLemmas.{get-insert_same}
use Rattle.cap_space.specs.declared.cap.Cap.{Cap}
use Rattle.cap_space.specs.declared.cap.Cap.TheVariants.{Dataspace, RpcObject, Session, Buffer}
use Rattle.dataspace_core.specs.Store.{Store, Part, part, space_at, account_in, RaisesPart}
use Rattle.dataspace_core.proofs.PartLaws.{paid_in_part}
use Rattle.server_frame.specs.Frame.{Row}
use Rattle.server_frame.specs.SessionBuffer.{key_of}
use Rattle.server_kinds.specs.Host.{Serves as HostServes}
use Rattle.server_kinds.specs.declared.any_server.AnyServer.{AnyServer}
use Rattle.pd_core.specs.Answer.{told_alone}
use Rattle.pd_core.specs.Component.{amounts_in, entry_of, kind_of, offer_in, caps_in, rows_in, rows_of, own_in, IsSoundRole, Serves, StaysServer}
use Rattle.pd_core.specs.Core.{Places, roles_of, sessions_in, IsCore}
use Rattle.pd_core.specs.Own.{Sessions, own_of, own_at, lent_in}
use Rattle.pd_core.specs.Sessions.{row_session, NamesSession}
use Rattle.pd_core.specs.SessionCalls.{Goes, named_in}
use Rattle.pd_core.specs.Sound.{session_at, buffer_at}
use Rattle.pd_core.specs.declared.component.Component.{Component}
use Rattle.pd_core.specs.declared.component.Role.{Role}
use Rattle.pd_core.specs.declared.component.Role.TheVariants.{Script as AScript, Server as AServer, Gone as AGone}
use Rattle.pd_core.specs.declared.script.Script.{Script}
use Rattle.pd_core.proofs.ReserveAsideLemmas.{refused_aside}
use Rattle.pd_core.proofs.CoreChangeLemmas.{AllRestBut}
use Rattle.pd_core.proofs.CorePlainLemmas.{face_is}
use Rattle.pd_core.proofs.ServerLemmas.{server_of_row, is_server, serving_as, host_serves_in, lent_paid}
use Rattle.pd_core.proofs.SessionBetweenLemmas.{its as its_row, under, holds_lent, its_lent, lent_alike, are_others, names_session, row_alone, raise_moves, changes_written, script_sound}
use Rattle.pd_core.proofs.SessionChangeLemmas.{AreTwo, ReplacesTwo, KeepsBut, session_goes, two_places}
use Rattle.pd_core.proofs.SessionNamedLemmas.{upgrades_done, upgrade_unread, upgrade_refused}
use Rattle.pd_core.proofs.SessionOwnLemmas.{is_step, regions_same}
use Rattle.pd_core.proofs.SessionTurnLemmas.{turns_same}
use Rattle.pd_core.proofs.SessionRefusedLemmas.{named_script}
use Rattle.pd_core.proofs.CoreWorldLemmas.{face_of, face_set, place_of, refused_goes, role_at, role_set, role_kept}

-- a role with a session serves
serving_role : (store : Store) (role : Role) (id : ℕ) (row : Row Labelled) → get (rows_in store role) id ≡ Some row → IsSome (offer_in role)
serving_role store role id row there = ap (λ r. is_some (offer_in r)) (server_of_row store role id row there).1.1

-- a capability that names a session
cap_of : (o : Option Cap) (named : ℕ × SessionId) → session_at o ≡ Some named → o ≡ Some (Session named.0 named.1)
cap_of None named is = absurd (none-some named is)
cap_of (Some (Dataspace ds)) named is = absurd (none-some named is)
cap_of (Some RpcObject) named is = absurd (none-some named is)
cap_of (Some (Buffer space session)) named is = absurd (none-some named is)
cap_of (Some (Session server session)) named is =
    let same = same_Some (server, session) named is in ap (λ (p : ℕ × SessionId). Some (Session p.0 p.1)) same

-- what a session lends is as it was where its account is given more
lent_raised : {client key ram caps : ℕ} {store store' : Store} (lent : Option ℕ) → ((ds : ℕ) → lent ≡ Some ds → get (part key store).spaces ds ≡ Some (space_at store ds).bytes) →
    RaisesPart client key ram caps store store' → option_map (lent_in store') lent ≡ option_map (lent_in store) lent
lent_raised None paid raises = refl
lent_raised {key = key} {store = store} {store' = store'} (Some ds) paid raises =
    ap (λ bytes. Some bytes) ((paid_in_part key ds (space_at store ds).bytes store' (ap (λ (p : Part). get p.spaces ds) raises.raised_one ∙ paid ds refl)).bytes_are)

-- ---- the components that a call is between

-- a server's place is one of a component
pub host_within : (components : List Component) (s : ℕ) → IsSome (offer_in (roles_of components s)) → s < length components
host_within components s serving = place_of components s (λ none. (let no : false ≡ true = ap (λ r. is_some (offer_in r)) (sym none) ∙ serving in cc))

module _ {store : Store} (components : List Component) {i s : ℕ} {script : Script} (two : AreTwo store (roles_of components) i s script) where
  pub caller_within : i < length components
  caller_within = place_of components i (λ none. (let no : AScript script ≡ AGone = sym two.is_script ∙ none in cc))

  not_host : i ≢ s
  not_host e = two_places two (sym e)

  -- the server is put back
  pub host_put : (host : Component) → ReplacesTwo (roles_of components) (roles_of (set components s host)) i s (AScript script) host.role
  host_put host = record {
    client_at = role_kept components s host i not_host ∙ two.is_script;
    host_at = role_set components s host s refl (host_within components s two.serving);
    others = λ k _ other. role_kept components s host k other;
  }

  -- and so is the caller
  pub both_put : (client host : Component) → ReplacesTwo (roles_of components) (roles_of (set (set components i client) s host)) i s client.role host.role
  both_put client host = record {
    client_at = role_kept (set components i client) s host i not_host ∙ role_set components i client i refl caller_within;
    host_at = role_set (set components i client) s host s refl (subst (λ n. s < n) (sym (length-set components i client)) (host_within components s two.serving));
    others = λ k not_caller other. role_kept (set components i client) s host k other ∙ role_kept components i client k not_caller;
  }

  -- or first the server
  pub kept_put : (host client : Component) → ReplacesTwo (roles_of components) (roles_of (set (set components s host) i client)) i s client.role host.role
  kept_put host client = record {
    client_at = role_set (set components s host) i client i refl (subst (λ n. i < n) (sym (length-set components s host)) caller_within);
    host_at = role_kept (set components s host) i client s (two_places two) ∙ role_set components s host s refl (host_within components s two.serving);
    others = λ k not_caller other. role_kept (set components s host) i client k not_caller ∙ role_kept components s host k other;
  }

  -- the server is read beside the caller that was put back
  pub host_read : (client e : Component) → roles_of components s ≡ (get_or (set components i client) s e).role
  host_read client e =
      sym (role_kept components i client s (two_places two))
      ∙ role_at (set components i client) s e (subst (λ n. s < n) (sym (length-set components i client)) (host_within components s two.serving))

-- ---- a session that a selector names

-- a selector of the component at a place names a session, by its server's place and its key there
pub record Names (store : Store) (components : List Component) (i : ℕ) (d : Component) (selector : ℕ) (named : ℕ × SessionId) : Type 0 where
  pub core : IsCore store components
  pub here : i < length components
  pub is : named_in (get_or components i d).role selector ≡ Ok named

module _ {store : Store} {components : List Component} {i : ℕ} {d : Component} {selector : ℕ} {named : ℕ × SessionId} (names : Names store components i d selector named) where
  open names use {core, here, is}

  pub its : (script : Script) × ((get_or components i d).role ≡ AScript script) × (session_at (get script.caps.caps selector) ≡ Some named)
  its = named_script (get_or components i d).role selector named is

  role_is : roles_of components i ≡ AScript (its.0)
  role_is = role_at components i d here ∙ its.1

  -- the component is a script, and there is the server
  pub named_two : AreTwo store (roles_of components) i named.0 (its.0)
  named_two =
      let row = (core.named i).its selector named.0 named.1 (ap (λ r. session_at (get (caps_in r) selector)) role_is ∙ its.2) in
      record { core = core; is_script = role_is; serving = serving_role store (roles_of components named.0) named.1.0 row.row row.there }

  pub named_cap : get (its.0).caps.caps selector ≡ Some (Session named.0 named.1)
  named_cap = cap_of (get (its.0).caps.caps selector) named its.2

-- ---- the server of two places

module _ {store : Store} (components : List Component) {i s : ℕ} {script : Script} (two : AreTwo store (roles_of components) i s script) where
  -- it is read at its place
  pub read_role : (e : Component) → roles_of components s ≡ (get_or components s e).role
  read_role e = role_at components s e (host_within components s two.serving)

  -- and is one
  pub read_server : {role : Role} → roles_of components s ≡ role → {X : Type 0} → ((key : AccountId) (host : AnyServer) → role ≡ AServer key host → X) → X
  read_server is case = let its = is_server _ (subst (λ r. IsSome (offer_in r)) is two.serving) in case its.0 its.1.0 its.1.1

-- the server that is read at its place
module _ {store : Store} (components : List Component) {i s : ℕ} {script : Script} (two : AreTwo store (roles_of components) i s script) (d host : Component) (host_is : roles_of components s ≡ host.role)
    (q : ℕ) (session : SessionId) (names : get script.caps.caps q ≡ Some (Session s session)) where
  abbrev pub row : Row Labelled
  row = (its_row two q session names).row

  abbrev pub named : NamesSession script store (rows_in store (roles_of components s)) q s session
  named = names_session two q session names

  pub there : get (rows_of store host) session.0 ≡ Some row
  there = ap (λ r. get (rows_in store r) session.0) (sym host_is) ∙ (its_row two q session names).there

  -- it serves the session
  pub host_serves : Serves store host session.0
  host_serves = record { sound = subst (IsSoundRole store) host_is (two.core.sound s); row = ap is_some there }

  pub pays : row.client ≡ script.account.0
  pays = sym (its_row two q session names).client

  pub caller_is : (get_or components i d).role ≡ AScript script
  caller_is = sym (role_at components i d (caller_within components two)) ∙ two.is_script

  -- what a server tells that it lends is its row's
  pub lent_told : (told : Option DsId) → ((store : Store) (one : Row Labelled) → get (rows_of store host) session.0 ≡ Some one → key_of told ≡ one.buffer) → row.buffer ≡ key_of told
  lent_told told tells = sym (tells store row there)

  -- ---- refusals of an upgrade

  module _ (places : Places) (text : List ℕ) where
    abbrev S : Sessions
    S = sessions_in store (roles_of components)

    refused_step : (refusal : Refusal) → entry_step (entry_of (places i) (get_or components i d)) (Upgrade q text) (own_at S store script) ≡ refused (own_at S store script) refusal →
        Goes places (Upgrade q text) i (told_alone (reply_text (Refused refusal))) store components store components
    unfolding own_of
    refused_step refusal is =
        refused_goes places components i d (Upgrade q text) refusal two.core (caller_within components two)
        (subst (λ r. own_step (entry_of (places i) (get_or components i d)) (Upgrade q text) (own_in S store r) ≡ refused (own_in S store r) refusal) (sym caller_is)
        (is_step (entry_of (places i) (get_or components i d)) (Upgrade q text) (own_in S store (AScript script)) (ap kind_of caller_is) refl
        ∙ refused_aside (amounts_in (part script.reserve.0 store)) (own_at S store script) (entry_of (places i) (get_or components i d)) (Upgrade q text) refusal refl refl is))

    -- arguments that can't be read
    pub unread_goes : arguments_of text ≡ None → Goes places (Upgrade q text) i (told_alone (reply_text (Refused BadArgs))) store components store components
    unread_goes none =
        refused_step BadArgs (upgrade_unread store script (rows_in store (roles_of components s)) q s session named (entry_of (places i) (get_or components i d)) S (ap (option_map (row_session s)) named.there) text none)

    -- more than its client covers
    pub short_goes : {more : Arguments} (refusal : Refusal) → arguments_of text ≡ Some more →
        ((one : Row Labelled) → get (rows_of store host) session.0 ≡ Some one → Some refusal ≡ shortage (account_in store one.client) more.ram more.caps) →
        Goes places (Upgrade q text) i (told_alone (reply_text (Refused refusal))) store components store components
    short_goes {more} refusal reads short =
        refused_step refusal (upgrade_refused store script (rows_in store (roles_of components s)) q s session named (entry_of (places i) (get_or components i d)) S
        (ap (option_map (row_session s)) named.there) text more refusal reads (sym (short row there)))

  -- ---- the call is made

  module _ (store' : Store) (host' : Component) (stays : StaysServer store host store' host') (places : Places) where
    pub face : face_of host' ≡ face_of host
    face = face_is host host' stays.entry stays.service

    -- more is donated for it
    pub upgrade_goes : (e : Component) → host ≡ get_or components s e → (text : List ℕ) {more : Arguments} → arguments_of text ≡ Some more →
        ((one : Row Labelled) → get (rows_of store host) session.0 ≡ Some one → None ≡ shortage (account_in store one.client) more.ram more.caps) →
        ((one : Row Labelled) → get (rows_of store host) session.0 ≡ Some one → RaisesPart one.client one.key more.ram more.caps store store') →
        ((one : Row Labelled) → get (rows_of store host) session.0 ≡ Some one →
        rows_of store' host' ≡ insert (rows_of store host) session.0 (record one { account = raised one.account more.ram more.caps })) →
        Goes places (Upgrade q text) i (told_alone (reply_text Done)) store components store' (set components s host')
    upgrade_goes e read text {more} reads accepted raised_by written_by =
        let enough = sym (accepted row there) in
        let raises = raised_by row there in
        let next : Row Labelled = record row { account = raised row.account more.ram more.caps } in
        let written = written_by row there ∙ ap (λ r. insert (rows_in store r) session.0 next) (sym host_is) in
        let now = ap (λ (m : NatMap (Row Labelled)). get m session.0) (written_by row there) ∙ get-insert_same (rows_of store host) session.0 next session.0 refl in
        let others : AllRestBut script.account.0 row.key store store' = λ other client account. raises.others other (λ e. client (e ∙ pays)) account in
        let alike = lent_alike two q session names store' others in
        let turns = turns_same script q (under two q session names) s session names row.buffer (holds_lent two q session names).at (script_sound two).own.named.one in
        let keeps : KeepsBut script script q (under two q session names) = record { account = refl; reserve = refl; places = refl; caps = λ p _ _. refl } in
        let paid = are_others two q session names store' others row.buffer (λ key is. lent_paid store' host'.role stays.works session.0 key next now is) keeps (ap buffer_at names) (holds_lent two q session names).at in
        let done = upgrades_done store store' script script (rows_in store (roles_of components s)) q s session (script_sound two) named stays.machine row.buffer turns alike paid names text more reads enough raises
        (lent_raised row.buffer (its_lent two q session names) raises) (regions_same row.buffer script.regions.user) refl in
        let moves = raise_moves two q session names store' more.ram more.caps (subst (λ k. RaisesPart k row.key more.ram more.caps store store') pays raises)
        (covers (account_in store script.account.0) more.ram more.caps (ap (λ k. shortage (account_in store k) more.ram more.caps) (sym pays) ∙ enough)) in
        session_goes components (set components s host') two d host_is (host_put components two host') (face_set components s host' e (face ∙ ap face_of read)) (row_alone two q session names)
        (changes_written two q session names store' keeps names (holds_lent two q session names).at refl refl written moves done.sound stays.machine) stays
        places (Upgrade q text) refl refl Done [] (told_alone (reply_text Done)) refl refl done.does

-- the server that is read serves the session that a selector names
pub read_serves : {store : Store} {components : List Component} {i : ℕ} {d : Component} {selector : ℕ} {pair : ℕ × SessionId} → Names store components i d selector pair → (at : Component) → roles_of components pair.0 ≡ at.role →
    {key : AccountId} {host : AnyServer} → at.role ≡ AServer key host → HostServes store host pair.1.0
read_serves {components} {d} {selector} {pair} names at read {key} {host} is =
    host_serves_in at key host (host_serves components (named_two names) d (serving_as at key host) (read ∙ is) selector pair.1 (named_cap names))
