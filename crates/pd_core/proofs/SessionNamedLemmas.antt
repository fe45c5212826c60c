-- A call of a session that a selector names: what the model tells of it, and that its caller stays sound.
use Rattle.std.proofs.Common.{◌≡◌, ◌≢◌, ℕ, ◌+◌, ◌≤◌, List, [], Some, is_some, unwrap_or, refl, sym, ap, subst, ◌∙◌, arith}
use Rattle.std.specs.Prelude.{Option, None, Result, Ok, Err, IsErrAnd}
use Rattle.std.specs.Option.{option_map}
use Rattle.std.specs.FinMap.{get}
use Rattle.trade_base.specs.declared.id.SessionId.{SessionId}
use Rattle.trade_base.specs.declared.refusal.Refusal.{Refusal}
use Rattle.trade_base.specs.declared.refusal.Refusal.TheVariants.{BadArgs}
use Rattle.own_model.specs.Account.{Account, opened, parted_with, shortage}
use Rattle.own_model.specs.Call.{Call}
use Rattle.own_model.specs.Call.Call.{Close, Upgrade, CallSession}
use Rattle.own_model.specs.Donation.{raised}
use Rattle.own_model.specs.NatMap.{NatMap, total}
use Rattle.own_model.specs.OwnHeap.{OwnHeap}
use Rattle.own_model.specs.OwnState.{OwnState, session_named}
use Rattle.own_model.specs.OwnState.Object.{OpenSession}
use Rattle.own_model.specs.OwnStep.{Outcome, unrouted, unless, refused, entry_step, upgraded_by, session_upgraded, completed}
use Rattle.own_model.specs.Reply.{Reply, LogLine}
use Rattle.own_model.specs.Reply.Reply.{Done, Told, Refused}
use Rattle.own_model.specs.Session.{Session as AnOpenSession, upgraded, Served, served, Labelled}
use Rattle.own_model.specs.StartList.{Entry}
use Rattle.own_model.specs.SessionArgs.{Arguments, arguments_of}
use Rattle.own_model.proofs.NatMapLemmas.{some_of, get-picked_at}
use Rattle.own_model.proofs.Totals.{total_at_le}
use Rattle.cap_space.specs.declared.cap.Cap.TheVariants.{Session}
use Rattle.dataspace_core.specs.Store.{Store, Part, part, account_of, account_in, accounts_in, ram_limits_in, raised_part, parted_part, ClosesPart, RaisesPart}
use Rattle.dataspace_core.proofs.PartLaws.{account_of-part}
use Rattle.dataspace_core.proofs.RoomLaws.{account_in_part}
use Rattle.server_frame.specs.Frame.{Row}
use Rattle.pd_core.specs.Answer.{reply_of}
use Rattle.pd_core.specs.declared.call_value.CallValue.{CallValue}
use Rattle.pd_core.specs.Own.{Sessions, HasSessions, object_of, own_at, own_of, own_heap_at, sliced_at, part_at, lent_in}
use Rattle.pd_core.specs.Sessions.{row_session, AgreeBut, NamesSession, DoesSession}
use Rattle.pd_core.specs.Sound.{session_weight, lent_weight, buffer_at, AreOthers, IsSoundScript}
use Rattle.pd_core.specs.declared.script.Script.{Script}
use Rattle.pd_core.proofs.ScriptOwnLemmas.{same_new_selector}
use Rattle.pd_core.proofs.SessionOwnLemmas.{regions_after}
use Rattle.pd_core.proofs.SessionStepLemmas.{ChangesTwo, others_agree, named_at, some_sessions, some_are_open, some_same, with_session, with_session_same, with_session_other, closes_own, upgrades_own, serves_own, lawful_after}
use Rattle.pd_core.proofs.SessionScriptLemmas.{own_still, sound_still}
use Rattle.pd_core.proofs.SessionTurnLemmas.{Turns}

-- an account's limit is within the machine's
pub limit_within : (account : ℕ) (store : Store) (a : Account) → (part account store).account ≡ Some a → a.ram_limit ≤ ram_limits_in store
limit_within account store a is = total_at_le (λ (x : Account). x.ram_limit) (accounts_in store) account a (account_in_part account store a is)

-- ---- a call of a session that is named

module _ (store store' : Store) (script script' : Script) (rows : NatMap (Row Labelled)) (selector server : ℕ) (session : SessionId) (sound : IsSoundScript store script) (names : NamesSession script store rows selector server session)
    (limits : ram_limits_in store' ≡ ram_limits_in store) (a : Account) (own : part script.account.0 store' ≡ record (part_at store script) { account = Some a }) (lent' : Option ℕ)
    (turns : Turns script script' selector names.under names.row.buffer lent')
    (alike : (s by key : ℕ) → s ≢ names.under → buffer_at (get script.caps.caps s) ≡ Some (by, key) → lent_in store' key ≡ lent_in store key) (others : AreOthers script.account.0 store' script'.caps.caps) where
  -- before and after
  abbrev p : Part
  p = part_at store script

  abbrev p' : Part
  p' = part script.account.0 store'

  abbrev heap : OwnHeap
  heap = own_heap_at store script

  abbrev sliced : NatMap (List ℕ)
  sliced = sliced_at store script

  -- what is read out of the script after it
  abbrev after : Sessions → OwnState
  after S = own_of (lent_in store') S p' script'.caps.caps script'.regions.user heap sliced

  account_is : account_of p' ≡ a
  account_is = ap account_of own

  changes : (S S' : Sessions) → AgreeBut S S' server session.0 → ChangesTwo (lent_in store) (lent_in store') S S' p p' script.caps.caps script'.caps.caps script.regions.user script'.regions.user selector names.under names.row.buffer lent'
  changes S S' agree = record { tables = turns.tables; spaces = ap (λ (q : Part). q.spaces) own; agrees = others_agree script.caps.caps selector server session names.once S S' agree; alike = alike }

  -- its own state after it
  still : (S : Sessions) → own_at S store' script' ≡ after S
  still S = ap (own_at S store') turns.is ∙ own_still store store' script (Some a) sound own refl limits script'.caps script'.regions.user S

  -- the outcome with that
  outcome_still : (reply : Reply) (lines : List LogLine) (S : Sessions) → ◌≡◌ {A = Outcome} (record { reply = reply; lines = lines; next = after S }) (record { reply = reply; lines = lines; next = own_at S store' script' })
  outcome_still reply lines S = ap {B = Outcome} (λ s. record { reply = reply; lines = lines; next = s }) (sym (still S))

  -- where the model makes it of what it was, and it finds a place for its selectors, the script is sound
  turned_sound : (call : Call) (reply : Reply) (lines : List LogLine) (S S' : Sessions) → AgreeBut S S' server session.0 → HasSessions S script.caps.caps → entry_step unrouted call (own_at S store script) ≡ record { reply = reply; lines = lines; next = after S' } →
      a.caps_used ≡ (account_of p).caps_used → a.caps_limit + total session_weight script'.caps.caps ≤ script'.caps.places → IsSoundScript store' script'
  turned_sound call reply lines S S' agree ready steps used placed =
      subst (IsSoundScript store') (sym turns.is)
      (sound_still store store' script (Some a) sound own refl limits script'.caps script'.regions.user turns.tables others
      (record {
        open_still = ap (λ (q : Part). is_some q.account) own;
        spaces = ap (λ (q : Part). q.spaces) own;
        used = ap (λ (x : Account). x.caps_used) account_is ∙ used;
        places = turns.places;
        sessions = turns.sessions;
        rpcs = turns.rpcs;
        placed = omega (arith, placed, ap (λ (x : Account). x.caps_limit) account_is);
        ram = omega (arith, limit_within script.account.0 store' a (ap (λ (q : Part). q.account) own), limits, sound.heaps.sliced.maps.pages, ap (λ (x : Account). x.ram_limit) account_is);
      })
      (lawful_after (changes S S' agree) heap sliced sound.own.named.one sound.own.attached unrouted call reply lines refl steps (sound.own.lawful S ready)))

  -- ---- it is closed

  module _ (closed : a ≡ raised (account_of p) names.row.account.ram_limit names.row.account.caps_limit) (none : lent' ≡ None) (gone : get script'.caps.caps selector ≡ None) where
    closes : (entry : Entry) (S S' : Sessions) → AgreeBut S S' server session.0 → HasSessions S script.caps.caps → S server session.0 ≡ Some (row_session server names.row) →
        entry_step entry (Close selector) (own_at S store script) ≡ record { reply = Done; lines = []; next = after S' }
    closes entry S S' agree ready was =
        closes_own (changes S S' agree) heap sliced sound.own.named.one sound.own.attached entry server session (row_session server names.row) names.named was names.lent
        (same_new_selector p script.caps script.regions heap sliced sound.own S ready) none gone (account_is ∙ closed)

    pub closes_does : DoesSession (Close selector) Done [] server session.0 (Some (row_session server names.row)) None store script store' script'
    closes_does entry S S' ready kind agree was is = closes entry S S' agree ready was ∙ outcome_still Done [] S'

    -- with a place less for it and for its buffer
    pub closes_sound : total session_weight script'.caps.caps + 1 + lent_weight names.row.buffer ≡ total session_weight script.caps.caps → IsSoundScript store' script'
    closes_sound fewer =
        let S = some_sessions server session.0 (row_session server names.row) in
        let ready = some_are_open server session.0 (row_session server names.row) script.caps.caps in
        let limit = ap (λ (x : Account). x.caps_limit) closed in
        let before = ap (λ (x : Account). x.caps_limit) (account_of-part script.account.0 store) in
        turned_sound (Close selector) Done [] S S (λ _ _ _. refl) ready (closes unrouted S S (λ _ _ _. refl) ready (some_same server session.0 (row_session server names.row)))
        (ap (λ (x : Account). x.caps_used) closed) (omega (arith, fewer, limit, before, names.placed, turns.places))

  -- ---- it has the session still

  module _ (named : get script'.caps.caps selector ≡ Some (Session server session)) where
    -- it is given more, and lends what it lent
    module _ (text : List ℕ) (more : Arguments) (reads : arguments_of text ≡ Some more) (enough : shortage (account_of p) more.ram more.caps ≡ None) (parted : a ≡ parted_with (account_of p) more.ram more.caps)
        (lends : option_map (lent_in store') lent' ≡ option_map (lent_in store) names.row.buffer) (whole : regions_after names.row.buffer lent' script.regions.user ≡ script.regions.user) where
      upgrades : (entry : Entry) (S S' : Sessions) → AgreeBut S S' server session.0 → S server session.0 ≡ Some (row_session server names.row) → S' server session.0 ≡ Some (upgraded (row_session server names.row) more.ram more.caps) →
          entry_step entry (Upgrade selector text) (own_at S store script) ≡ record { reply = Done; lines = []; next = after S' }
      upgrades entry S S' agree was is =
          upgrades_own (changes S S' agree) heap sliced sound.own.named.one sound.own.attached entry server session (row_session server names.row) names.named was text more reads enough named is (account_is ∙ parted) lends whole

      pub upgrades_does : DoesSession (Upgrade selector text) Done [] server session.0 (Some (row_session server names.row)) (Some (upgraded (row_session server names.row) more.ram more.caps)) store script store' script'
      upgrades_does entry S S' ready kind agree was is = upgrades entry S S' agree was is ∙ outcome_still Done [] S'

      pub upgrades_sound : total session_weight script'.caps.caps ≡ total session_weight script.caps.caps → IsSoundScript store' script'
      upgrades_sound as_many =
          let S = some_sessions server session.0 (row_session server names.row) in
          let x = upgraded (row_session server names.row) more.ram more.caps in
          let S' = with_session S server session.0 x in
          let agree : AgreeBut S S' server session.0 = λ other at apart. with_session_other S server session.0 other at x apart in
          turned_sound (Upgrade selector text) Done [] S S' agree (some_are_open server session.0 (row_session server names.row) script.caps.caps)
          (upgrades unrouted S S' agree (some_same server session.0 (row_session server names.row)) (with_session_same S server session.0 x))
          (ap (λ (y : Account). y.caps_used) parted) (omega (arith, as_many, sound.own.paid.placed, ap (λ (y : Account). y.caps_limit) parted, turns.places))

    -- or it serves a request
    module _ (request : List ℕ) (same_one : a ≡ account_of p) where
      abbrev o : Served
      o = served (option_map (lent_in store) names.row.buffer) (row_session server names.row) request

      -- which is told with the selector of a buffer that is made
      abbrev reply : Reply
      reply = Told (completed (option_map (named_at (lent_in store) names.under) names.row.buffer) (option_map (lent_in store') lent') names.under o.reply)

      module _ (bytes : o.buffer ≡ option_map (lent_in store') lent') where
        serves : (entry : Entry) (S S' : Sessions) → AgreeBut S S' server session.0 → HasSessions S script.caps.caps → S server session.0 ≡ Some (row_session server names.row) → S' server session.0 ≡ Some o.session →
            entry_step entry (CallSession selector request) (own_at S store script) ≡ record { reply = reply; lines = o.lines; next = after S' }
        serves entry S S' agree ready was is =
            serves_own (changes S S' agree) heap sliced sound.own.named.one sound.own.attached entry server session (row_session server names.row) names.named was names.lent
            (same_new_selector p script.caps script.regions heap sliced sound.own S ready) request named is (account_is ∙ same_one) bytes

        pub serves_does : DoesSession (CallSession selector request) reply o.lines server session.0 (Some (row_session server names.row)) (Some o.session) store script store' script'
        serves_does entry S S' ready kind agree was is = serves entry S S' agree ready was is ∙ outcome_still reply o.lines S'

        pub serves_sound : (account_of p).caps_limit + total session_weight script'.caps.caps ≤ script'.caps.places → IsSoundScript store' script'
        serves_sound placed =
            let S = some_sessions server session.0 (row_session server names.row) in
            let ready = some_are_open server session.0 (row_session server names.row) script.caps.caps in
            let S' = with_session S server session.0 o.session in
            let agree : AgreeBut S S' server session.0 = λ other at apart. with_session_other S server session.0 other at o.session apart in
            turned_sound (CallSession selector request) reply o.lines S S' agree ready (serves unrouted S S' agree ready (some_same server session.0 (row_session server names.row)) (with_session_same S server session.0 o.session))
            (ap (λ (x : Account). x.caps_used) same_one) (omega (arith, placed, ap (λ (x : Account). x.caps_limit) same_one))

-- ---- a call that is refused

module _ (store : Store) (script : Script) (rows : NatMap (Row Labelled)) (selector server : ℕ) (session : SessionId) (names : NamesSession script store rows selector server session)
    (entry : Entry) (S : Sessions) (was : S server session.0 ≡ Some (row_session server names.row)) (text : List ℕ) where
  -- the selector names the session in the own state
  session_there : session_named (get (own_at S store script).selectors selector) ≡ Some (row_session server names.row)
  unfolding own_of
  session_there = ap session_named (get-picked_at (object_of (lent_in store) S (part_at store script)) script.caps.caps selector (Session server session) names.named ∙ ap (option_map OpenSession) was)

  -- arguments that can't be read
  pub upgrade_unread : arguments_of text ≡ None → entry_step entry (Upgrade selector text) (own_at S store script) ≡ refused (own_at S store script) BadArgs
  upgrade_unread none i = upgraded_by selector (session_there i) (none i) (own_at S store script)

  -- more than its client covers
  pub upgrade_refused : (more : Arguments) (refusal : Refusal) → arguments_of text ≡ Some more → shortage (account_in store names.row.client) more.ram more.caps ≡ Some refusal →
      entry_step entry (Upgrade selector text) (own_at S store script) ≡ refused (own_at S store script) refusal
  unfolding own_of
  upgrade_refused more refusal reads short =
      let account : account_of (part_at store script) ≡ account_in store names.row.client = account_of-part script.account.0 store ∙ ap (account_in store) (sym names.client) in
      (λ i. upgraded_by selector (session_there i) (reads i) (own_at S store script))
      ∙ ap (λ o. unless o (own_at S store script) (session_upgraded selector (row_session server names.row) more (own_at S store script)))
      (ap (λ a. shortage a more.ram more.caps) account ∙ short)

-- a refusal that is passed on
pub refused_reply : (r : Result CallValue Refusal) (refusal : Refusal) → IsErrAnd r (λ y. y ≡ refusal) → reply_of r ≡ Refused refusal
refused_reply (Ok answer) refusal h = absurd h
refused_reply (Err e) refusal h = ap Refused h

-- ---- what the calls do

-- a call of a session is this to the model, and leaves its caller sound
pub record IsDone (call : Call) (reply : Reply) (lines : List LogLine) (server key : ℕ) (was is : Option AnOpenSession) (old : Store) (before : Script) (new : Store) (after : Script) : Type 0 where
  pub does : DoesSession call reply lines server key was is old before new after
  pub sound : IsSoundScript new after

module _ (store store' : Store) (script script' : Script) (rows : NatMap (Row Labelled)) (selector server : ℕ) (session : SessionId) (sound : IsSoundScript store script)
    (names : NamesSession script store rows selector server session) (limits : ram_limits_in store' ≡ ram_limits_in store) (lent' : Option ℕ) (turns : Turns script script' selector names.under names.row.buffer lent')
    (alike : (s by key : ℕ) → s ≢ names.under → buffer_at (get script.caps.caps s) ≡ Some (by, key) → lent_in store' key ≡ lent_in store key) (others : AreOthers script.account.0 store' script'.caps.caps) where
  abbrev was : Option AnOpenSession
  was = Some (row_session server names.row)

  -- it is closed, and nothing is left of it and of its buffer
  pub closes_done : lent' ≡ None → get script'.caps.caps selector ≡ None → total session_weight script'.caps.caps + 1 + lent_weight names.row.buffer ≡ total session_weight script.caps.caps →
      account_in store names.row.key ≡ names.row.account → ClosesPart names.row.key names.row.client store store' →
      IsDone (Close selector) Done [] server session.0 was None store script store' script'
  closes_done none gone fewer paid closes =
      let a : Account = raised (account_of (part_at store script)) names.row.account.ram_limit names.row.account.caps_limit in
      let own : part script.account.0 store' ≡ record (part_at store script) { account = Some a } =
      subst (λ k. part k store' ≡ raised_part (part k store) (account_of (part names.row.key store)).ram_limit (account_of (part names.row.key store)).caps_limit) names.client closes.raised_one
      ∙ ap (λ (x : Account). raised_part (part_at store script) x.ram_limit x.caps_limit) (account_of-part names.row.key store ∙ paid) in
      record {
        does = closes_does store store' script script' rows selector server session sound names limits a own lent' turns alike others refl none gone;
        sound = closes_sound store store' script script' rows selector server session sound names limits a own lent' turns alike others refl none gone fewer;
      }

  module _ (named : get script'.caps.caps selector ≡ Some (Session server session)) where
    -- more is donated
    pub upgrades_done : (text : List ℕ) (more : Arguments) → arguments_of text ≡ Some more → shortage (account_in store names.row.client) more.ram more.caps ≡ None →
        RaisesPart names.row.client names.row.key more.ram more.caps store store' → option_map (lent_in store') lent' ≡ option_map (lent_in store) names.row.buffer →
        regions_after names.row.buffer lent' script.regions.user ≡ script.regions.user → total session_weight script'.caps.caps ≡ total session_weight script.caps.caps →
        IsDone (Upgrade selector text) Done [] server session.0 was (Some (upgraded (row_session server names.row) more.ram more.caps)) store script store' script'
    upgrades_done text more reads enough raises lends whole as_many =
        let a : Account = parted_with (account_of (part_at store script)) more.ram more.caps in
        let own : part script.account.0 store' ≡ record (part_at store script) { account = Some a } = subst (λ k. part k store' ≡ parted_part (part k store) more.ram more.caps) names.client raises.parted_one in
        let account : account_of (part_at store script) ≡ account_in store names.row.client = account_of-part script.account.0 store ∙ ap (account_in store) (sym names.client) in
        let covered = ap (λ x. shortage x more.ram more.caps) account ∙ enough in
        record {
          does = upgrades_does store store' script script' rows selector server session sound names limits a own lent' turns alike others named text more reads covered refl lends whole;
          sound = upgrades_sound store store' script script' rows selector server session sound names limits a own lent' turns alike others named text more reads covered refl lends whole as_many;
        }

    -- a request is served, which leaves the client's part
    pub serves_done : (request : List ℕ) → part script.account.0 store' ≡ part_at store script →
        (served (option_map (lent_in store) names.row.buffer) (row_session server names.row) request).buffer ≡ option_map (lent_in store') lent' →
        (account_of (part_at store script)).caps_limit + total session_weight script'.caps.caps ≤ script'.caps.places →
        let o = served (option_map (lent_in store) names.row.buffer) (row_session server names.row) request in
        IsDone (CallSession selector request) (Told (completed (option_map (named_at (lent_in store) names.under) names.row.buffer) (option_map (lent_in store') lent') names.under o.reply)) o.lines server session.0 was
        (Some o.session) store script store' script'
    serves_done request same_part bytes placed =
        let there = some_of (part_at store script).account sound.own.paid.is_open in
        let own : part script.account.0 store' ≡ record (part_at store script) { account = Some there.0 } = same_part ∙ ap {B = Part} (λ o. record (part_at store script) { account = o }) there.1 in
        let same_account : there.0 ≡ account_of (part_at store script) = sym (ap (λ (o : Option Account). unwrap_or o (opened 0 0)) there.1) in
        record {
          does = serves_does store store' script script' rows selector server session sound names limits there.0 own lent' turns alike others named request same_account bytes;
          sound = serves_sound store store' script script' rows selector server session sound names limits there.0 own lent' turns alike others named request same_account bytes placed;
        }
