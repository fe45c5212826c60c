-- A session is opened: what the model tells of it, and that its client stays sound.
use Rattle.std.proofs.Common.{◌≡◌, ◌≢◌, ℕ, ◌≤◌, ◌<◌, List, [], Some, is_some, refl, sym, ap, subst, ◌∙◌, arith, true≢false}
use Rattle.std.proofs.lemmas.Option.{none-some}
use Rattle.std.specs.Prelude.{None, Ok, IsSome}
use Rattle.std.specs.FinMap.{get, insert, len}
use Rattle.trade_base.specs.declared.id.SessionId.{SessionId}
use Rattle.own_model.specs.Account.{Account, Fits, parted_with}
use Rattle.own_model.specs.Call.Call.{Open}
use Rattle.own_model.specs.NatMap.{NatMap}
use Rattle.own_model.specs.OwnState.{OwnState, new_selector}
use Rattle.own_model.specs.OwnState.Object.{OpenSession}
use Rattle.own_model.specs.Offer.Offer.{OffersLog}
use Rattle.own_model.proofs.StepSoundLemmas.{sessions_sound}
use Rattle.own_model.proofs.StepUseLemmas.{sessions_use}
use Rattle.own_model.proofs.StepLimitLemmas.{sessions_within}
use Rattle.own_model.specs.OwnStep.{Outcome, entry_step, session_opened}
use Rattle.own_model.specs.Reply.Reply.{Selected}
use Rattle.own_model.specs.Session.{Wish, wish, new_session, donation_refusal, Labelled}
use Rattle.own_model.specs.StartList.{Entry}
use Rattle.own_model.proofs.NatMapLemmas.{alike_insert, apart_from_free, get-insert_same, get-insert_other}
use Rattle.own_model.proofs.NewSelector.{new_selector_free}
use Rattle.own_model.proofs.SessionLemmas.{donation_covered, large_enough}
use Rattle.own_model.proofs.Totals.{len-insert_new, total-insert_new}
use Rattle.cap_space.specs.declared.cap.Cap.TheVariants.{Session}
use Rattle.cap_space.specs.Space.{Space, with_cap}
use Rattle.dataspace_core.specs.Store.{Store, Part, part, account_of, account_in, ram_limits_in, parted_part}
use Rattle.dataspace_core.proofs.PartLaws.{account_of-part}
use Rattle.server_frame.specs.Frame.{Row}
use Rattle.pd_core.specs.Own.{Sessions, HasSessions, own_at, own_of, own_heap_at, sliced_at, part_at, lent_in, key_at}
use Rattle.pd_core.specs.Sessions.{AgreeBut}
use Rattle.pd_core.specs.Sound.{rpc_weight, session_weight, buffer_at, AreOthers, IsLawful, IsSoundScript}
use Rattle.pd_core.specs.declared.script.Script.{Script}
use Rattle.pd_core.proofs.ScriptOwnLemmas.{same_new_selector}
use Rattle.pd_core.proofs.LentLemmas.{LendAlike}
use Rattle.pd_core.proofs.SessionOwnLemmas.{TurnsTables, AreCounted, lawful_whichever}
use Rattle.pd_core.proofs.SessionStepLemmas.{ChangesTwo, others_agree, some_sessions, some_are_open, some_same, own_put, opens_own}
use Rattle.pd_core.proofs.SessionScriptLemmas.{own_still, sound_still}
use Rattle.pd_core.proofs.SessionNamedLemmas.{limit_within}

-- each selector that names a session of the server under this entry names an open one
abbrev pub NamesOpen : Script → NatMap (Row Labelled) → ℕ → Type 0
NamesOpen script rows server =
    (selector : ℕ) (session : SessionId) → get script.caps.caps selector ≡ Some (Session server session) → IsSome (get rows session.0)

-- a script with a session under a selector
abbrev pub script_with : Script → ℕ → ℕ → SessionId → Script
script_with script selector server session = record script { caps = with_cap script.caps selector (Session server session) }

-- the selector that is new with it was free before
pub free_before : (script : Script) (server : ℕ) (session : SessionId) (selector : ℕ) → get script.caps.caps selector ≡ None →
    get script.caps.caps (new_selector (insert script.caps.caps selector (Session server session))) ≡ None
free_before script server session selector fresh =
    let cap = Session server session in
    let caps' = insert script.caps.caps selector cap in
    let free = new_selector_free caps' in
    let apart = apart_from_free caps' (new_selector caps') selector free (ap is_some (get-insert_same script.caps.caps selector cap selector refl)) in
    sym (get-insert_other script.caps.caps selector cap (new_selector caps') (λ e. apart (sym e))) ∙ free

-- a session with this donation is opened for a script under a new selector: what the model tells of it, where all other sessions
-- are the same before and after, and that the script is sound
pub record OpensFor (selector server : ℕ) (session : SessionId) (ram caps : ℕ) (old new : Store) (before : Script) : Type 0 where
  pub sound : IsSoundScript new (script_with before selector server session)
  pub does : (entry : Entry) (S S' : Sessions) (service text : List ℕ) (w : Wish) → HasSessions S before.caps.caps → wish entry.label entry.routes service text ≡ Ok w →
      w.ram ≡ ram → w.caps ≡ caps → AgreeBut S S' server session.0 → S' server session.0 ≡ Some (new_session w) →
      entry_step entry (Open service text) (own_at S old before) ≡ record { reply = Selected selector; lines = []; next = own_at S' new (script_with before selector server session) }

-- an open leaves what is lawful
lawful_opened : (s : OwnState) (w : Wish) → donation_refusal s.account w.ram w.caps ≡ None → IsLawful s → IsLawful (session_opened w s).next
lawful_opened s w enough law = record {
  sound = (sessions_sound s law.sound).opens w enough;
  uses = (sessions_use s law.uses).opens w enough;
  within = (sessions_within s law.within).opens w enough;
}

module _ (store store' : Store) (script : Script) (rows : NatMap (Row Labelled)) (server : ℕ) (session : SessionId) (ram caps : ℕ) (sound : IsSoundScript store script) (named : NamesOpen script rows server) (free : get rows session.0 ≡ None)
    (limits : ram_limits_in store' ≡ ram_limits_in store) (parted : part script.account.0 store' ≡ parted_part (part_at store script) ram caps) (accepted : donation_refusal (account_in store script.account.0) ram caps ≡ None)
    (alike : LendAlike (lent_in store) (lent_in store') script.caps.caps) (others : AreOthers script.account.0 store' script.caps.caps) where
  -- what the client's account becomes
  abbrev a : Account
  a = parted_with (account_of (part_at store script)) ram caps

  covered : Fits (account_of (part_at store script)) ram caps
  covered = subst (λ x. Fits x ram caps) (sym (account_of-part script.account.0 store)) (donation_covered (account_in store script.account.0) ram caps accepted).0

  least : 2 ≤ caps
  least = (large_enough ram caps (donation_covered (account_in store script.account.0) ram caps accepted).1).1

  -- there is a place for its selector
  pub has_place : len script.caps.caps < script.caps.places
  has_place = let fits = covered.caps_fit in let some = least in omega (arith, fits, some, sound.own.paid.named, sound.own.paid.placed)

  module _ (selector : ℕ) (fresh : get script.caps.caps selector ≡ None) where
    abbrev opened_space : Space
    opened_space = with_cap script.caps selector (Session server session)

    names_it : get opened_space.caps selector ≡ Some (Session server session)
    names_it = get-insert_same script.caps.caps selector (Session server session) selector refl

    opened_others : (q : ℕ) → q ≢ selector → get opened_space.caps q ≡ get script.caps.caps q
    opened_others q apart = get-insert_other script.caps.caps selector (Session server session) q apart

    -- no buffer comes with it
    same_buffers : (s : ℕ) → buffer_at (get opened_space.caps s) ≡ buffer_at (get script.caps.caps s)
    same_buffers = alike_insert buffer_at script.caps.caps selector (Session server session) (sym (ap buffer_at fresh))

    -- the selector that is new after it
    abbrev next : ℕ
    next = new_selector (insert script.caps.caps selector (Session server session))

    next_free : get opened_space.caps next ≡ None
    next_free = new_selector_free opened_space.caps

    was_free : get script.caps.caps next ≡ None
    was_free = free_before script server session selector fresh

    opened_tables : TurnsTables script.caps.caps opened_space.caps script.regions.user script.regions.user selector next None None
    opened_tables = record {
      others = λ s apart _. opened_others s apart;
      no_spaces = record { before = ap key_at fresh; after = ap key_at names_it };
      before = record { has = ap buffer_at was_free; free = λ _. was_free };
      after = record { has = ap buffer_at next_free; free = λ _. next_free };
      kept = λ a b is. absurd (none-some a is);
      fresh = λ s key is. absurd (none-some key is);
      regions = refl;
    }

    -- no selector named it before
    not_named : (q : ℕ) (at : SessionId) → get script.caps.caps q ≡ Some (Session server at) → at.0 ≢ session.0
    not_named q at is e = true≢false (sym (named q at is) ∙ ap (λ k. is_some (get rows k)) e ∙ ap is_some free)

    changes : (S S' : Sessions) → AgreeBut S S' server session.0 →
        ChangesTwo (lent_in store) (lent_in store') S S' (part_at store script) (part script.account.0 store') script.caps.caps opened_space.caps script.regions.user script.regions.user selector next None None
    changes S S' agree = record { tables = opened_tables; spaces = ap (λ (q : Part). q.spaces) parted; agrees = others_agree script.caps.caps selector server session (λ q at is e. absurd (not_named q at is e)) S S' agree; alike = λ s by key _ is. alike s by key is }

    module _ (is_new : selector ≡ new_selector script.caps.caps) where
      own_opens : (entry : Entry) (S S' : Sessions) (service text : List ℕ) (w : Wish) → HasSessions S script.caps.caps → wish entry.label entry.routes service text ≡ Ok w → w.ram ≡ ram → w.caps ≡ caps → AgreeBut S S' server session.0 →
          S' server session.0 ≡ Some (new_session w) →
          entry_step entry (Open service text) (own_at S store script) ≡ record { reply = Selected selector; lines = []; next = own_of (lent_in store') S' (part script.account.0 store') opened_space.caps script.regions.user (own_heap_at store script) (sliced_at store script) }
      own_opens entry S S' service text w ready asks e f agree is =
          opens_own (changes S S' agree) (own_heap_at store script) (sliced_at store script) sound.own.named.one sound.own.attached
          entry service text w server session asks
          ((λ i. donation_refusal (account_of-part script.account.0 store i) (e i) (f i)) ∙ accepted)
          (is_new ∙ sym (same_new_selector (part_at store script) script.caps script.regions (own_heap_at store script) (sliced_at store script) sound.own S ready))
          names_it is (ap account_of parted ∙ (λ i. parted_with (account_of (part_at store script)) (sym e i) (sym f i))) refl refl

      opens_does : (entry : Entry) (S S' : Sessions) (service text : List ℕ) (w : Wish) → HasSessions S script.caps.caps → wish entry.label entry.routes service text ≡ Ok w → w.ram ≡ ram → w.caps ≡ caps → AgreeBut S S' server session.0 →
          S' server session.0 ≡ Some (new_session w) →
          entry_step entry (Open service text) (own_at S store script) ≡ record { reply = Selected selector; lines = []; next = own_at S' store' (record script { caps = opened_space }) }
      opens_does entry S S' service text w ready asks e f agree is =
          own_opens entry S S' service text w ready asks e f agree is
          ∙ ap {B = Outcome} (λ s. record { reply = Selected selector; lines = []; next = s }) (sym (own_still store store' script (Some a) sound parted refl limits opened_space script.regions.user S'))

      -- any wish for so much
      abbrev any_wish : Wish
      any_wish = record { server = record { kind = OffersLog; place = server }; label = []; ram = ram; caps = caps }

      opened_lawful : (any : Sessions) → IsLawful (own_of (lent_in store') any (part script.account.0 store') opened_space.caps script.regions.user (own_heap_at store script) (sliced_at store script))
      unfolding own_of
      opened_lawful any =
          let S = some_sessions server session.0 (new_session any_wish) in
          let ready = some_are_open server session.0 (new_session any_wish) script.caps.caps in
          let before = own_at S store script in
          let put = own_put (changes S S (λ _ _ _. refl)) (own_heap_at store script) (sliced_at store script) sound.own.named.one sound.own.attached
          server session (new_session any_wish) names_it (some_same server session.0 (new_session any_wish)) a (ap account_of parted) refl refl in
          let least_one = is_new ∙ sym (same_new_selector (part_at store script) script.caps script.regions (own_heap_at store script) (sliced_at store script) sound.own S ready) in
          let enough = ap (λ x. donation_refusal x ram caps) (account_of-part script.account.0 store) ∙ accepted in
          lawful_whichever (lent_in store') (part script.account.0 store') opened_space.caps script.regions.user (own_heap_at store script) (sliced_at store script) S any
          (subst IsLawful (sym (put ∙ ap {B = OwnState} (λ n. record before { account = a; selectors = insert before.selectors n (OpenSession (new_session any_wish)) }) least_one)) (lawful_opened before any_wish enough (sound.own.lawful S ready)))

      counted : AreCounted (part_at store script) (part script.account.0 store') script.caps opened_space script.regions
      counted =
          let more = len-insert_new script.caps.caps selector (Session server session) fresh in
          let sessions = total-insert_new session_weight script.caps.caps selector (Session server session) fresh in
          let rpcs = total-insert_new rpc_weight script.caps.caps selector (Session server session) fresh in
          let fits = covered.caps_fit in
          let some = least in
          let account = ap account_of parted in
          let limit = ap (λ (x : Account). x.caps_limit) account in
          record {
            open_still = ap (λ (q : Part). is_some q.account) parted;
            spaces = ap (λ (q : Part). q.spaces) parted;
            used = ap (λ (x : Account). x.caps_used) account;
            places = refl;
            sessions = omega (arith, more, sessions);
            rpcs = omega (arith, rpcs);
            placed = omega (arith, sessions, fits, some, limit, sound.own.paid.placed);
            ram = omega (arith, limit_within script.account.0 store' a (ap (λ (q : Part). q.account) parted), limits, sound.heaps.sliced.maps.pages, ap (λ (x : Account). x.ram_limit) account);
          }

      opens_sound : IsSoundScript store' (record script { caps = opened_space })
      opens_sound =
          sound_still store store' script (Some a) sound parted refl limits opened_space script.regions.user opened_tables (λ s by key is. others s by key (sym (same_buffers s) ∙ is)) counted opened_lawful

      pub opens_for : OpensFor selector server session ram caps store store' script
      opens_for = record { sound = opens_sound; does = opens_does }
