-- A session that a selector names is closed, with its buffer if it has one: that it goes as the model's.
use Rattle.std.proofs.Common.{◌≡◌, ℕ, ◌<◌, List, Option, None, Some, get_or, set, refl, sym, ap, subst, ◌∙◌, [], ◌+◌}
use Rattle.std.proofs.lemmas.Grind.{get_or-set_at}
use Rattle.std.proofs.lemmas.List.{get_or-set_other, length-set}
use Rattle.std.proofs.lemmas.Option.{none-some}
use Rattle.std.specs.FinMap.{get, remove}
use Rattle.trade_base.specs.declared.id.DsId.{DsId}
use Rattle.trade_base.specs.declared.id.SessionId.{SessionId}
use Rattle.own_model.specs.Call.Call.{Close}
use Rattle.own_model.specs.NatMap.{total}
use Rattle.own_model.specs.Reply.{reply_text}
use Rattle.own_model.specs.Reply.Reply.{Done}
use Rattle.own_model.specs.Session.{Labelled}
use Rattle.cap_space.specs.Space.{is_buffer, without_cap}
use Rattle.cap_space.specs.declared.cap.Cap.TheVariants.{Session}
use Rattle.dataspace_core.specs.Store.{Store, ClosesPart}
use Rattle.server_frame.specs.Frame.{Row}
use Rattle.server_frame.specs.SessionBuffer.{key_of}
use Rattle.pd_core.specs.Answer.{told_alone}
use Rattle.pd_core.specs.Component.{caps_in, rows_in, rows_of, StaysServer}
use Rattle.pd_core.specs.Core.{Places, roles_of}
use Rattle.pd_core.specs.Sessions.{IsLentAt}
use Rattle.pd_core.specs.SessionCalls.{Goes, NamesBuffer, DropsBuffer, without_selector, without_buffer}
use Rattle.pd_core.specs.Sound.{session_weight, lent_weight, buffer_at}
use Rattle.pd_core.specs.declared.component.Component.{Component}
use Rattle.pd_core.specs.declared.component.Role.TheVariants.{Script as AScript}
use Rattle.pd_core.specs.declared.script.Script.{Script}
use Rattle.pd_core.proofs.CoreChangeLemmas.{AllRestBut}
use Rattle.pd_core.proofs.CorePlainLemmas.{unlisted}
use Rattle.pd_core.proofs.SessionBetweenLemmas.{under, holds_lent, lent_alike, are_others, row_paid, row_alone, changes_closed, keeps_but, script_sound}
use Rattle.pd_core.proofs.ScriptNameLemmas.{buffer_key, buffer_test, tested_key, key_before}
use Rattle.pd_core.proofs.SessionNamedLemmas.{closes_done}
use Rattle.pd_core.proofs.SessionServedLemmas.{face_as}
use Rattle.pd_core.proofs.SessionChangeLemmas.{AreTwo, ReplacesTwo, session_goes, two_places}
use Rattle.pd_core.proofs.SessionTurnLemmas.{Turns, turns_closed, closed_script, closed_fewer, closed_gone, turns_ended, ended_script, ended_fewer, ended_gone, beside_gone}
use Rattle.pd_core.proofs.SessionWorldLemmas.{its as named_role, Names, named_two, named_cap, host_read, row, named, there, pays, caller_is, lent_told, face, both_put, caller_within}
use Rattle.pd_core.proofs.CoreWorldLemmas.{face_of, SameFaces, face_set, role_set, role_kept}

-- the caller is put back without the selector, and the server that is read then has closed the session that the selector named, which lent this
pub record HasClosed (store : Store) (components : List Component) (i : ℕ) (d : Component) (q : ℕ) (pair : ℕ × SessionId) (client host e : Component) (told : Option DsId) (store' : Store) (host' : Component) : Type 0 where
  pub named_by : Names store components i d q pair
  pub client_is : client ≡ record (get_or components i d) { role = without_selector (get_or components i d).role q }
  pub read : host ≡ get_or (set components i client) pair.0 e
  pub tells : (store : Store) (one : Row Labelled) → get (rows_of store host) pair.1.0 ≡ Some one → key_of told ≡ one.buffer
  pub stays : StaysServer store host store' host'
  pub closes_as : (one : Row Labelled) → get (rows_of store host) pair.1.0 ≡ Some one → ClosesPart one.key one.client store store'
  pub written : rows_of store' host' ≡ remove (rows_of store host) pair.1.0

module _ {store : Store} {components : List Component} {i : ℕ} {d : Component} {q : ℕ} {pair : ℕ × SessionId} {client host e : Component} {told : Option DsId} {store' : Store} {host' : Component}
    (done : HasClosed store components i d q pair client host e told store' host') where
  open done use {named_by, client_is, read, tells, stays, closes_as, written}

  abbrev s : ℕ
  s = pair.0

  abbrev session : SessionId
  session = pair.1

  abbrev script : Script
  script = (named_role named_by).0

  abbrev two : AreTwo store (roles_of components) i s script
  two = named_two named_by

  abbrev names : get script.caps.caps q ≡ Some (Session s session)
  names = named_cap named_by

  abbrev host_is : roles_of components s ≡ host.role
  host_is = host_read components two client e ∙ ap (λ (c : Component). c.role) (sym read)

  -- the session, what it lends and the selector of that
  abbrev its_row : Row Labelled
  its_row = row components two d host host_is q session names

  abbrev k : ℕ
  k = under two q session names

  abbrev at : IsLentAt script.caps.caps q (under two q session names) (row components two d host host_is q session names).buffer
  at = (holds_lent two q session names).at

  closes : ClosesPart its_row.key its_row.client store store'
  closes = closes_as its_row (there components two d host host_is q session names)

  its_client : its_row.client ≡ script.account.0
  its_client = pays components two d host host_is q session names

  others : AllRestBut script.account.0 its_row.key store store'
  others other client key = closes.others other key (λ e. client (e ∙ its_client))

  -- a close goes as the model's where the client has turned so
  turned_closes : (components' : List Component) (script' : Script) → Turns script script' q k its_row.buffer None → get script'.caps.caps q ≡ None →
      total session_weight script'.caps.caps + 1 + lent_weight its_row.buffer ≡ total session_weight script.caps.caps →
      ReplacesTwo (roles_of components) (roles_of components') i s (AScript script') host'.role → SameFaces components components' → (places : Places) →
      Goes places (Close q) i (told_alone (reply_text Done)) store components store' components'
  turned_closes components' script' turns gone fewer replaced faces places =
      let keeps = keeps_but two q session names turns in
      let done = closes_done store store' script script' (rows_in store (roles_of components s)) q s session (script_sound two) (named components two d host host_is q session names) stays.machine None turns
      (lent_alike two q session names store' others) (are_others two q session names store' others None (λ key is. absurd (none-some key is)) keeps (ap buffer_at gone) turns.tables.after)
      refl gone fewer (row_paid two q session names).account closes in
      session_goes components components' two d host_is replaced faces (row_alone two q session names)
      (changes_closed two q session names store' (subst (λ n. ClosesPart its_row.key n store store') its_client closes) keeps gone (turns.tables.after.free refl)
      (written ∙ ap (λ r. remove (rows_in store r) session.0) (sym host_is)) done.sound stays.machine) stays
      places (Close q) refl refl Done [] (told_alone (reply_text Done)) refl refl done.does

  -- ---- the caller is put back first

  abbrev left : Script
  left = record script { caps = without_cap script.caps q }

  now_role : without_selector (get_or components i d).role q ≡ AScript left
  now_role = ap (λ r. without_selector r q) (caller_is components two d host host_is q session names)

  client_role : client.role ≡ AScript left
  client_role = ap (λ (c : Component). c.role) client_is ∙ now_role

  both_faces : SameFaces components (set (set components i client) s host')
  both_faces =
      face_set (set components i client) s host' e (face components two d host host_is q session names store' host' stays (λ _. unlisted) ∙ ap face_of read)
      ∙ face_set components i client d (face_as (get_or components i d) client (caller_is components two d host host_is q session names) client_is now_role)

  -- it had no buffer
  pub closed_goes : told ≡ None → (places : Places) → Goes places (Close q) i (told_alone (reply_text Done)) store components store' (set (set components i client) s host')
  closed_goes none places =
      let lent : its_row.buffer ≡ None = lent_told components two d host host_is q session names told tells ∙ ap key_of none in
      let free : IsLentAt script.caps.caps q k None = subst (IsLentAt script.caps.caps q k) lent at in
      turned_closes (set (set components i client) s host') (closed_script script q k s session names free)
      (subst (λ a. Turns script (closed_script script q k s session names free) q k a None) (sym lent) (turns_closed script q k s session names free)) (closed_gone script q k s session names free)
      (subst (λ a. total session_weight left.caps.caps + 1 + lent_weight a ≡ total session_weight script.caps.caps) (sym lent) (closed_fewer script q k s session names free))
      (subst (λ r. ReplacesTwo (roles_of components) (roles_of (set (set components i client) s host')) i s r host'.role) client_role (both_put components two client host')) both_faces places

  -- or it had one, which goes after it
  module _ (space : DsId) (lends : told ≡ Some space) (d' : Component) where
    its_lent : its_row.buffer ≡ Some space.0
    its_lent = lent_told components two d host host_is q session names told tells ∙ ap key_of lends

    lent_at : IsLentAt script.caps.caps q k (Some space.0)
    lent_at = subst (IsLentAt script.caps.caps q k) its_lent at

    same_role : (get_or (set (set components i client) s host') i d').role ≡ AScript left
    same_role =
        ap (λ (c : Component). c.role) (get_or-set_other (set components i client) s i host' d' (λ same. two_places two (sym same)) ∙ get_or-set_at components i i client d' refl (caller_within components two))
        ∙ client_role

    still_lent : buffer_at (get (remove script.caps.caps q) k) ≡ Some (q, space.0)
    still_lent = ap buffer_at (beside_gone script q k s session names space.0 lent_at) ∙ lent_at.has

    pub lent_named : NamesBuffer space.0 (get_or (set (set components i client) s host') i d').role
    lent_named = subst (NamesBuffer space.0) (sym same_role) (record { selector = k; named = buffer_test (get (remove script.caps.caps q) k) q space.0 still_lent })

    all_put : (dropped : Component) → ReplacesTwo (roles_of components) (roles_of (set (set (set components i client) s host') i dropped)) i s dropped.role host'.role
    all_put dropped =
        let put = both_put components two client host' in
        let before = set (set components i client) s host' in
        record {
          client_at = role_set before i dropped i refl (subst (λ n. i < n) (sym (length-set (set components i client) s host' ∙ length-set components i client)) (caller_within components two));
          host_at = role_kept before i dropped s (two_places two) ∙ put.host_at;
          others = λ n not_caller other. role_kept before i dropped n not_caller ∙ put.others n not_caller other;
        }

    pub ended_goes : (places : Places) (dropped : Component) → DropsBuffer space.0 (get_or (set (set components i client) s host') i d') dropped →
        Goes places (Close q) i (told_alone (reply_text Done)) store components store' (set (set (set components i client) s host') i dropped)
    ended_goes places dropped drops =
        let one = (script_sound two).own.named.one in
        let tested = ap (λ r. is_buffer space.0 (get (caps_in r) drops.selector)) (sym same_role) ∙ drops.named in
        let selects : drops.selector ≡ k
        = one drops.selector k space.0 (key_before script.caps.caps q drops.selector space.0 (tested_key (get (remove script.caps.caps q) drops.selector) space.0 tested))
        (buffer_key (get script.caps.caps k) q space.0 lent_at.has) in
        let last_role : without_buffer (get_or (set (set components i client) s host') i d').role drops.selector space.0 ≡ AScript (ended_script script q k s session names space.0 lent_at)
        = ap (λ r. without_buffer r drops.selector space.0) same_role ∙ ap (λ n. without_buffer (AScript left) n space.0) selects in
        let role : dropped.role ≡ AScript (ended_script script q k s session names space.0 lent_at) = ap (λ (c : Component). c.role) drops.gone ∙ last_role in
        turned_closes (set (set (set components i client) s host') i dropped) (ended_script script q k s session names space.0 lent_at)
        (subst (λ a. Turns script (ended_script script q k s session names space.0 lent_at) q k a None) (sym its_lent) (turns_ended script q k s session names space.0 lent_at))
        (ended_gone script q k s session names space.0 lent_at)
        (subst (λ a. total session_weight (ended_script script q k s session names space.0 lent_at).caps.caps + 1 + lent_weight a ≡ total session_weight script.caps.caps) (sym its_lent) (ended_fewer script q k s session names space.0 lent_at))
        (subst (λ r. ReplacesTwo (roles_of components) (roles_of (set (set (set components i client) s host') i dropped)) i s r host'.role) role (all_put dropped))
        (face_set (set (set components i client) s host') i dropped d' (face_as (get_or (set (set components i client) s host') i d') dropped same_role drops.gone last_role) ∙ both_faces) places
