-- A request of a session that a selector names, by what it does to the session's buffer: that it goes as the model's.
use Rattle.std.proofs.Common.{◌≡◌, ◌≢◌, ℕ, ◌+◌, ◌≤◌, ◌++◌, List, Option, None, Some, length, take, get_or, set, codes, decimal, refl, sym, ap, subst, ◌∙◌, arith}
use Rattle.std.proofs.Math.Seq.{take-append_seam}
use Rattle.std.proofs.lemmas.List.{get_or-set_other, get_or_default, length-append}
use Rattle.std.specs.Prelude.{false}
use Rattle.std.specs.FinMap.{get, insert, empty}
use Rattle.std.specs.Option.{option_map}
use Rattle.trade_base.specs.declared.id.DsId.{DsId}
use Rattle.trade_base.specs.declared.id.Selector.{Selector}
use Rattle.trade_base.specs.declared.id.SessionId.{SessionId}
use Rattle.own_model.specs.Account.{Account}
use Rattle.own_model.specs.Call.Call.{CallSession}
use Rattle.own_model.specs.NatMap.{NatMap, total}
use Rattle.own_model.specs.OwnState.{OwnState, Object, is_buffer_of, buffer_of, bytes_of_buffer, new_selector, session_named}
use Rattle.own_model.specs.OwnState.Object.{OpenSession}
use Rattle.own_model.specs.OwnStep.{session_called, session_served, completed, script_step, exited_state}
use Rattle.own_model.specs.Reply.{reply_text}
use Rattle.own_model.specs.Reply.Reply.{Told as AnswerTold}
use Rattle.own_model.specs.Session.{Session as AnOpenSession, Served as ModelServed, served, Labelled}
use Rattle.own_model.specs.Sound.{AreLent}
use Rattle.own_model.proofs.LentLemmas.{buffer_none}
use Rattle.own_model.proofs.LentServedLemmas.{requests_served}
use Rattle.own_model.proofs.ServiceLemmas.{serve_keeps, served_there}
use Rattle.own_model.proofs.SessionServerLemmas.{served_anywhere}
use Rattle.own_model.proofs.NatMapLemmas.{alike_insert, get-empty, get-insert_same}
use Rattle.cap_space.specs.Space.{is_buffer}
use Rattle.cap_space.specs.declared.cap.Cap.TheVariants.{Session}
use Rattle.dataspace_core.specs.Store.{Store, Part, part, space_at, account_of}
use Rattle.dataspace_core.proofs.PartLaws.{account_of-part}
use Rattle.server_frame.specs.Frame.{Row, row_served, ServesSession}
use Rattle.server_frame.specs.SessionBuffer.{IsEffect}
use Rattle.server_frame.specs.declared.effect.Effect.{Effect}
use Rattle.server_frame.specs.declared.effect.Effect.TheVariants.{Nothing, Buffer as MakesBuffer, Gone as GivesBuffer}
use Rattle.server_frame.specs.Session.{Served, service_step}
use Rattle.core_calls.specs.ReplyText.{Told}
use Rattle.pd_core.specs.Component.{kind_of, offer_in, caps_of, caps_in, rows_in, rows_of, StaysServer}
use Rattle.pd_core.specs.Core.{Places, roles_of}
use Rattle.pd_core.specs.Own.{Lent, lent_in, own_of}
use Rattle.pd_core.specs.Sessions.{row_session, IsLentAt}
use Rattle.pd_core.specs.SessionCalls.{Goes, HasSelectorLeft, NamesBuffer, DropsBuffer, with_buffer, without_buffer}
use Rattle.pd_core.specs.Sound.{session_weight, lent_weight, buffer_at}
use Rattle.pd_core.specs.declared.component.Component.{Component}
use Rattle.pd_core.specs.declared.component.Role.{Role}
use Rattle.pd_core.specs.declared.component.Role.TheVariants.{Script as AScript}
use Rattle.pd_core.specs.declared.script.Script.{Script}
use Rattle.pd_core.proofs.CorePlainLemmas.{unlisted}
use Rattle.pd_core.proofs.CoreChangeLemmas.{AllRestBut}
use Rattle.pd_core.proofs.SessionBetweenLemmas.{under, holds_lent, lent_alike, are_others, fresh_lent, row_paid, row_alone, serve_moves, changes_written, keeps_but, script_sound}
use Rattle.pd_core.proofs.ScriptNameLemmas.{buffer_key, buffer_test, tested_key}
use Rattle.pd_core.proofs.SessionNamedLemmas.{IsDone, serves_done}
use Rattle.pd_core.proofs.ScriptOwnLemmas.{all_sessions}
use Rattle.pd_core.proofs.ServerLemmas.{lent_paid, paid_in}
use Rattle.pd_core.proofs.SessionChangeLemmas.{AreTwo, ReplacesTwo, session_goes, two_places}
use Rattle.pd_core.proofs.SessionStepLemmas.{named_at}
use Rattle.pd_core.proofs.SessionTurnLemmas.{Turns, turns_same, turns_made, lent_script, still_has, one_more, turns_given, given_script, kept_has, given_removes}
use Rattle.pd_core.proofs.SessionWorldLemmas.{its as named_role, Names, named_two, named_cap, host_within, row, named, there, pays, face, host_put, kept_put}
use Rattle.pd_core.proofs.CoreWorldLemmas.{face_of, role_at, SameFaces, face_set}

-- ---- what a request is answered

-- the text is the service's where as much is lent as before
told_same : (f : ℕ → List ℕ) (L : Lent) (k : ℕ) (a b : Option ℕ) (reply : List ℕ) → b ≡ a → completed (option_map (named_at L k) a) (option_map f b) k reply ≡ reply
told_same f L k None b reply is = ap (λ o. completed None (option_map f o) k reply) is
told_same f L k (Some key) b reply is = refl

-- and where nothing is lent any more
told_gone : (f : ℕ → List ℕ) (L : Lent) (k key : ℕ) (a b : Option ℕ) (reply : List ℕ) → a ≡ Some key → completed (option_map (named_at L k) a) (option_map f b) k reply ≡ reply
told_gone f L k key a b reply is = ap (λ o. completed (option_map (named_at L k) o) (option_map f b) k reply) is

-- a new buffer's selector is told at its end
told_made : (f : ℕ → List ℕ) (L : Lent) (k key : ℕ) (a b : Option ℕ) (reply : List ℕ) → a ≡ None → b ≡ Some key → completed (option_map (named_at L k) a) (option_map f b) k reply ≡ reply ++ decimal k
told_made f L k key a b reply none is j = completed (option_map (named_at L k) (none j)) (option_map f (is j)) k reply

-- ---- the reply to a request that makes a buffer is short

module _ (x : AnOpenSession) (request bytes : List ℕ) (makes : (served None x request).buffer ≡ Some bytes) where
  -- an own state with the session alone
  abbrev alone : NatMap Object
  alone = insert empty 1 (OpenSession x)

  abbrev state : OwnState
  state = record exited_state { selectors = insert empty 1 (OpenSession x) }

  has_it : get alone 1 ≡ Some (OpenSession x)
  has_it = get-insert_same empty 1 (OpenSession x) 1 refl

  no_buffer : (q k : ℕ) → is_buffer_of q (get alone k) ≡ false
  no_buffer q k = alike_insert (is_buffer_of q) empty 1 (OpenSession x) (sym (ap (is_buffer_of q) (get-empty 1))) k ∙ ap (is_buffer_of q) (get-empty k)

  no_lent : AreLent alone
  no_lent = record {
    open_session = λ k q is. absurd (let no = sym (no_buffer q k) ∙ is in cc);
    only = λ j k q is _. absurd (let no = sym (no_buffer q j) ∙ is in cc);
  }

  none_found : buffer_of 1 alone ≡ None
  none_found = buffer_none 1 alone (no_buffer 1)

  whole : reply_text (script_step (CallSession 1 request) state).reply ≡ (served None x request).reply ++ decimal (new_selector alone)
  whole =
      ap (λ o. reply_text (session_called 1 o request state).reply) (ap session_named has_it)
      ∙ ap (λ b. reply_text (session_served 1 b (served (bytes_of_buffer b) x request) state).reply) none_found
      ∙ ap (λ o. completed None o (new_selector alone) (served None x request).reply) makes

  is_told : reply_text (script_step (CallSession 1 request) state).reply ≡ codes "OK cap " ++ decimal (new_selector alone)
  is_told = ap reply_text ((requests_served state 1 x request no_lent has_it).made bytes none_found (ap (λ b. (served (bytes_of_buffer b) x request).buffer) none_found ∙ makes)).1

  pub lent_reply : (served None x request).reply ≡ codes "OK cap "
  lent_reply =
      let reply = (served None x request).reply in
      let selector = decimal (new_selector alone) in
      let same = sym whole ∙ is_told in
      let long : length reply ≡ 7 = (let both = ap length same in omega (arith, both, length-append reply selector, length-append (codes "OK cap ") selector)) in
      sym (take-append_seam reply selector) ∙ ap (λ n. take n (reply ++ selector)) long ∙ ap (take 7) same

-- ---- a component that is another script

-- shows what it showed
pub face_as : (before after : Component) {script script' : Script} {role : Role} → before.role ≡ AScript script → after ≡ record before { role = role } → role ≡ AScript script' → face_of after ≡ face_of before
face_as before after was is now =
    ap face_of is ∙ (λ j. record { label = before.name.items; kind = kind_of (now j); offer = offer_in (now j) })
    ∙ (λ j. record { label = before.name.items; kind = kind_of (sym was j); offer = offer_in (sym was j) })

-- ---- a request

-- the server at a place has served a request of the session that a selector names
pub record HasServed (store : Store) (components : List Component) (i : ℕ) (d : Component) (q : ℕ) (pair : ℕ × SessionId) (host e : Component) (request : List ℕ) (effect : Effect) (told : Told) (store' : Store) (host' : Component) : Type 0 where
  pub named_by : Names store components i d q pair
  pub read : host ≡ get_or components pair.0 e
  pub stays : StaysServer store host store' host'
  pub served_as : (one : Row Labelled) → get (rows_of store host) pair.1.0 ≡ Some one → ServesSession one pair.1.0 effect (row_served service_step request store one) store store' (rows_of store host) (rows_of store' host')
  pub text : (one : Row Labelled) → get (rows_of store host) pair.1.0 ≡ Some one → told.text ≡ (row_served service_step request store one).text
  pub lines : (one : Row Labelled) → get (rows_of store host) pair.1.0 ≡ Some one → told.lines ≡ (row_served service_step request store one).lines

module _ {store : Store} {components : List Component} {i : ℕ} {d : Component} {q : ℕ} {pair : ℕ × SessionId} {host e : Component} {request : List ℕ} {effect : Effect} {told : Told} {store' : Store} {host' : Component}
    (done : HasServed store components i d q pair host e request effect told store' host') where
  open done use {named_by, read, stays, served_as, text, lines}

  abbrev s : ℕ
  s = pair.0

  abbrev session : SessionId
  session = pair.1

  abbrev script : Script
  script = (named_role named_by).0

  abbrev two : AreTwo store (roles_of components) i s script
  two = named_two named_by

  abbrev names : get script.caps.caps q ≡ Some (Session s session)
  names = named_cap named_by

  abbrev host_is : roles_of components s ≡ host.role
  host_is = role_at components s e (host_within components s two.serving) ∙ ap (λ (c : Component). c.role) (sym read)

  -- the session, what it lends and the selector of that
  abbrev its_row : Row Labelled
  its_row = row components two d host host_is q session names

  abbrev k : ℕ
  k = under two q session names

  abbrev at : IsLentAt script.caps.caps q (under two q session names) (row components two d host host_is q session names).buffer
  at = (holds_lent two q session names).at

  abbrev step : Served Labelled
  step = row_served service_step request store its_row

  abbrev o : ModelServed
  o = served_there s (served (option_map (lent_in store) its_row.buffer) (row_session 0 its_row) request)

  -- so the model has it, of the server at its place
  model_serves : served (option_map (lent_in store) its_row.buffer) (row_session s its_row) request ≡ o
  model_serves = served_anywhere s 0 its_row.account its_row.value (option_map (lent_in store) its_row.buffer) request

  serves : ServesSession its_row session.0 effect step store store' (rows_in store (roles_of components s)) (rows_of store' host')
  serves = subst (λ r. ServesSession its_row session.0 effect step store store' (rows_in store r) (rows_of store' host')) (sym host_is) (served_as its_row (there components two d host host_is q session names))

  abbrev lent' : Option ℕ
  lent' = serves.lent

  abbrev next : Row Labelled
  next = record its_row { account = step.account; value = step.value; buffer = serves.lent }

  now : get (rows_of store' host') session.0 ≡ Some next
  now = ap (λ (m : NatMap (Row Labelled)). get m session.0) serves.sessions ∙ get-insert_same (rows_in store (roles_of components s)) session.0 next session.0 refl

  -- the client's account is another than the session's
  apart : script.account.0 ≢ its_row.key
  apart same = (row_paid two q session names).apart (pays components two d host host_is q session names ∙ same)

  others : AllRestBut script.account.0 its_row.key store store'
  others other _ beside = serves.others other beside

  same_part : part script.account.0 store' ≡ part script.account.0 store
  same_part = serves.others script.account.0 apart

  paid_lent : (key : ℕ) → serves.lent ≡ Some key → get (part its_row.key store').spaces key ≡ Some (space_at store' key).bytes
  paid_lent key is = lent_paid store' host'.role stays.works session.0 key next now is

  -- a request goes as the model's where the client has turned so
  turned_goes : (components' : List Component) (script' : Script) → Turns script script' q k its_row.buffer serves.lent → get script'.caps.caps q ≡ Some (Session s session) →
      (account_of (part script.account.0 store)).caps_limit + total session_weight script'.caps.caps ≤ script'.caps.places →
      ReplacesTwo (roles_of components) (roles_of components') i s (AScript script') host'.role → SameFaces components components' → (places : Places) (told : Told) →
      told.text ≡ completed (option_map (named_at (lent_in store) k) its_row.buffer) (option_map (lent_in store') serves.lent) k o.reply → told.lines ≡ step.lines →
      Goes places (CallSession q request) i told store components store' components'
  turned_goes components' script' turns has placed replaced faces places told text lines =
      let keeps = keeps_but two q session names turns in
      let done = subst
      (λ (v : ModelServed). IsDone (CallSession q request) (AnswerTold (completed (option_map (named_at (lent_in store) k) its_row.buffer) (option_map (lent_in store') serves.lent) k v.reply)) v.lines s session.0
      (Some (row_session s its_row)) (Some v.session) store script store' script') model_serves
      (serves_done store store' script script' (rows_in store (roles_of components s)) q s session (script_sound two) (named components two d host host_is q session names) stays.machine serves.lent turns
      (lent_alike two q session names store' others) (are_others two q session names store' others serves.lent paid_lent keeps (ap buffer_at has) turns.tables.after) has request same_part (ap (λ (v : ModelServed). v.buffer) model_serves ∙ sym serves.bytes) placed) in
      let paid = paid_in store' host'.role stays.works session.0 next now in
      let limit = (serve_keeps (row_session 0 its_row).state (option_map (lent_in store) its_row.buffer) (row_session 0 its_row) request).1 in
      session_goes components components' two d host_is replaced faces (row_alone two q session names)
      (changes_written two q session names store' keeps has turns.tables.after refl refl serves.sessions
      (serve_moves two q session names store' serves paid.opens (ap (λ (a : Account). a.caps_limit) paid.account ∙ limit)) done.sound stays.machine) stays
      places (CallSession q request) refl refl (AnswerTold (completed (option_map (named_at (lent_in store) k) its_row.buffer) (option_map (lent_in store') serves.lent) k o.reply)) o.lines told text lines done.does

  -- the server's face stays
  host_face : face_of host' ≡ face_of host
  host_face = face components two d host host_is q session names store' host' stays (λ _. unlisted)

  host_faces : SameFaces components (set components s host')
  host_faces = face_set components s host' e (host_face ∙ ap face_of read)

  -- ---- it does nothing to what is lent

  pub nothing_goes : effect ≡ Nothing → (places : Places) → Goes places (CallSession q request) i told store components store' (set components s host')
  nothing_goes none places =
      let its = there components two d host host_is q session names in
      let same : serves.lent ≡ its_row.buffer = subst (λ f. IsEffect f its_row.buffer serves.lent) none serves.effect_is in
      turned_goes (set components s host') script
      (subst (Turns script script q k its_row.buffer) (sym same) (turns_same script q k s session names its_row.buffer at (script_sound two).own.named.one))
      names (script_sound two).own.paid.placed (host_put components two host') host_faces places told (text its_row its ∙ sym (told_same (lent_in store') (lent_in store) k its_row.buffer serves.lent o.reply same)) (lines its_row its)

  -- ---- the caller is read beside the server

  module _ (d' : Component) where
    abbrev again : Component
    again = get_or (set components s host') i d'

    same_role : (get_or (set components s host') i d').role ≡ AScript script
    same_role = ap (λ (c : Component). c.role) (get_or-set_other components s i host' d' (λ at. two_places two (sym at)) ∙ get_or_default components i d' d named_by.here) ∙ (named_role named_by).1

    -- ---- it makes a buffer

    module _ (space : DsId) (makes : effect ≡ MakesBuffer space) where
      made : (its_row.buffer ≡ None) × (serves.lent ≡ Some space.0)
      made = subst (λ f. IsEffect f its_row.buffer serves.lent) makes serves.effect_is

      free : IsLentAt script.caps.caps q k None
      free = subst (IsLentAt script.caps.caps q k) made.0 at

      -- there is a place for it
      placed_more : (account_of (part script.account.0 store)).caps_limit + total session_weight script.caps.caps + 1 ≤ script.caps.places
      placed_more =
          let its = named components two d host host_is q session names in
          omega (arith, its.placed, its.least, ap lent_weight made.0, ap (λ (a : Account). a.caps_limit) (account_of-part script.account.0 store))

      pub has_left : HasSelectorLeft (get_or (set components s host') i d').role
      unfolding own_of
      has_left =
          let sound = script_sound two in
          let within = (sound.own.lawful all_sessions (λ q server session there. refl)).within.caps in
          subst HasSelectorLeft (sym same_role) (let placed = placed_more in omega (arith, placed, within, sound.own.paid.named))

      -- the reply waits for its selector
      pub is_lent : told.text ≡ codes "OK cap "
      is_lent =
          let bytes : (served None (row_session 0 its_row) request).buffer ≡ Some (lent_in store' space.0)
          = ap (λ b. (served (option_map (lent_in store) b) (row_session 0 its_row) request).buffer) (sym made.0) ∙ sym serves.bytes ∙ ap (option_map (lent_in store')) made.1 in
          text its_row (there components two d host host_is q session names) ∙ ap (λ b. (served (option_map (lent_in store) b) (row_session 0 its_row) request).reply) made.0
          ∙ lent_reply (row_session 0 its_row) request (lent_in store' space.0) bytes

      pub made_goes : (places : Places) (by : Selector) → by.0 ≡ q → (selector : Selector) (kept : Component) → selector.0 ≡ new_selector (caps_of (get_or (set components s host') i d')) →
          kept ≡ record (get_or (set components s host') i d') { role = with_buffer (get_or (set components s host') i d').role selector.0 space by } →
          (told' : Told) → told' ≡ record told { text = told.text ++ decimal selector.0 } →
          Goes places (CallSession q request) i told' store components store' (set (set components s host') i kept)
      made_goes places by of selector kept least is told' added =
          let its = there components two d host host_is q session names in
          let selects : selector.0 ≡ k = least ∙ ap (λ r. new_selector (caps_in r)) same_role ∙ sym ((holds_lent two q session names).new made.0) in
          let now_role : with_buffer (get_or (set components s host') i d').role selector.0 space by ≡ AScript (lent_script script q k s session names space by of free)
          = ap (λ r. with_buffer r selector.0 space by) same_role ∙ ap (λ n. with_buffer (AScript script) n space by) selects in
          let role : kept.role ≡ AScript (lent_script script q k s session names space by of free) = ap (λ (c : Component). c.role) is ∙ now_role in
          let fresh = fresh_lent two q session names store' others serves.lent paid_lent (ap (λ (p : Part). p.spaces) same_part) in
          let made_turn = turns_made script q k s session names space by of free (λ p beside name. fresh p space.0 made.1 beside name) in
          let turns = subst (λ a. Turns script (lent_script script q k s session names space by of free) q k a serves.lent) (sym made.0)
          (subst (Turns script (lent_script script q k s session names space by of free) q k None) (sym made.1) made_turn) in
          turned_goes (set (set components s host') i kept) (lent_script script q k s session names space by of free) turns (still_has script q k s session names space by of free)
          (let placed = placed_more in omega (arith, placed, one_more script q k s session names space by of free))
          (subst (λ r. ReplacesTwo (roles_of components) (roles_of (set (set components s host') i kept)) i s r host'.role) role (kept_put components two host' kept))
          (face_set (set components s host') i kept d' (face_as (get_or (set components s host') i d') kept same_role is now_role) ∙ host_faces)
          places told'
          (ap (λ (t : Told). t.text) added ∙ (λ j. text its_row its j ++ decimal (selects j)) ∙ sym (told_made (lent_in store') (lent_in store) k space.0 its_row.buffer serves.lent o.reply made.0 made.1))
          (ap (λ (t : Told). t.lines) added ∙ lines its_row its)

    -- ---- it gives one back

    module _ (space : DsId) (gives : effect ≡ GivesBuffer space) where
      given : (its_row.buffer ≡ Some space.0) × (serves.lent ≡ None)
      given = subst (λ f. IsEffect f its_row.buffer serves.lent) gives serves.effect_is

      lent_at : IsLentAt script.caps.caps q k (Some space.0)
      lent_at = subst (IsLentAt script.caps.caps q k) given.0 at

      -- which the caller names
      pub given_named : NamesBuffer space.0 (get_or (set components s host') i d').role
      given_named = subst (NamesBuffer space.0) (sym same_role) (record { selector = k; named = buffer_test (get script.caps.caps k) q space.0 lent_at.has })

      pub given_goes : (places : Places) (dropped : Component) → DropsBuffer space.0 (get_or (set components s host') i d') dropped →
          Goes places (CallSession q request) i told store components store' (set (set components s host') i dropped)
      given_goes places dropped drops =
          let its = there components two d host host_is q session names in
          let one = (script_sound two).own.named.one in
          let selects : drops.selector ≡ k
          = one drops.selector k space.0 (tested_key (get script.caps.caps drops.selector) space.0 (ap (λ r. is_buffer space.0 (get (caps_in r) drops.selector)) (sym same_role) ∙ drops.named))
          (buffer_key (get script.caps.caps k) q space.0 lent_at.has) in
          let now_role : without_buffer (get_or (set components s host') i d').role drops.selector space.0 ≡ AScript (given_script script q k s session names space.0 lent_at)
          = ap (λ r. without_buffer r drops.selector space.0) same_role ∙ ap (λ n. without_buffer (AScript script) n space.0) selects in
          let role : dropped.role ≡ AScript (given_script script q k s session names space.0 lent_at) = ap (λ (c : Component). c.role) drops.gone ∙ now_role in
          let turns = subst (λ a. Turns script (given_script script q k s session names space.0 lent_at) q k a serves.lent) (sym given.0)
          (subst (Turns script (given_script script q k s session names space.0 lent_at) q k (Some space.0)) (sym given.1) (turns_given script q k s session names space.0 lent_at)) in
          turned_goes (set (set components s host') i dropped) (given_script script q k s session names space.0 lent_at) turns (kept_has script q k s session names space.0 lent_at)
          (omega (arith, (script_sound two).own.paid.placed, (given_removes script q k s session names space.0 lent_at).fewer))
          (subst (λ r. ReplacesTwo (roles_of components) (roles_of (set (set components s host') i dropped)) i s r host'.role) role (kept_put components two host' dropped))
          (face_set (set components s host') i dropped d' (face_as (get_or (set components s host') i d') dropped same_role drops.gone now_role) ∙ host_faces)
          places told (text its_row its ∙ sym (told_gone (lent_in store') (lent_in store) k space.0 its_row.buffer serves.lent o.reply given.0)) (lines its_row its)
