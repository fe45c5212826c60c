-- Calls of a session between a script and a server: what they require follows from the core, and what they change is one
-- session.
use Rattle.std.proofs.Common.{◌≡◌, ◌≢◌, ℕ, ◌+◌, ◌<◌, ◌≤◌, List, false, Some, is_some, unwrap_or, refl, sym, ap, subst, ◌∙◌, arith, inl, inr}
use Rattle.std.proofs.lemmas.Bool.{cases_eq}
use Rattle.std.specs.FinMap.{get, insert, remove}
use Rattle.std.specs.Prelude.{Option, None, IsSome, IfSome}
use Rattle.std.specs.Option.{option_map}
use Rattle.std.proofs.lemmas.Option.{none-some, same_Some}
use Rattle.trade_base.specs.declared.id.SessionId.{SessionId}
use Rattle.own_model.specs.Account.{Account, Fits, opened, parted_with}
use Rattle.own_model.specs.Donation.{raised}
use Rattle.own_model.specs.Limits.{caps_limits, caps_with}
use Rattle.own_model.specs.NatMap.{NatMap, total}
use Rattle.own_model.specs.OwnState.{new_selector}
use Rattle.own_model.specs.OwnState.Object.{OpenSession}
use Rattle.own_model.specs.Session.{session_account, donation_refusal, Labelled}
use Rattle.own_model.proofs.NatMapLemmas.{apart_from_free, some_of, value_at, get-insert_same, get-insert_other, get-remove_same, get-remove_other, before_remove}
use Rattle.own_model.proofs.NewSelector.{new_selector_free}
use Rattle.own_model.proofs.SessionLemmas.{donation_covered, large_enough}
use Rattle.own_model.proofs.Totals.{total-remove, total_le, total-picked, total-insert_same}
use Rattle.cap_space.specs.declared.cap.Cap.TheVariants.{Session}
use Rattle.dataspace_core.specs.Room.{IsOuter}
use Rattle.dataspace_core.specs.Store.{Store, Part, part, space_at, account_in, account_of, accounts_in, parents_in, room_in, ram_limits_in, IsChildIn, IsOpenIn, PartBecomes, RaisesPart, ClosesPart}
use Rattle.dataspace_core.proofs.LimitLaws.{accounts_after}
use Rattle.dataspace_core.proofs.PartLaws.{IsPaidBy, account_of-part, open_in_part, paid_in_part, part_open}
use Rattle.dataspace_core.proofs.RoomLaws.{limits_moved, limits_opened, room_for_one_more, room_is_taken, room_is_raised, room_stays, room_is_given_back}
use Rattle.server_frame.specs.declared.effect.Effect.{Effect}
use Rattle.server_frame.specs.Frame.{new_row, OpensSession, ServesSession, Row}
use Rattle.server_frame.specs.Session.{Served}
use Rattle.server_frame.proofs.PlaceLaws.{opens_an_account}
use Rattle.server_frame.proofs.RowLaws.{IsNoRows}
use Rattle.pd_core.specs.Component.{caps_in, places_in, rows_in, own_in, IsSessionOf, lent_of, lent_by, NamesItsSessions, HasPlace, IsSoundRole}
use Rattle.pd_core.specs.Core.{Roles, rows_at, sessions_in, Owner, Owns}
use Rattle.pd_core.specs.Core.Owner.{Place, SessionAt}
use Rattle.pd_core.specs.Own.{object_of, own_of, part_at, lent_in}
use Rattle.pd_core.specs.Sessions.{row_session, IsLentAt, HoldsLent, NamesSession}
use Rattle.pd_core.specs.Sound.{session_at, buffer_at, lent_from, IsOthers, AreOthers, session_weight, lent_weight, IsOne, IsSoundScript}
use Rattle.pd_core.specs.declared.component.Role.TheVariants.{Script as AScript}
use Rattle.pd_core.specs.declared.script.Script.{Script}
use Rattle.pd_core.proofs.CoreChangeLemmas.{AllRestBut}
use Rattle.pd_core.proofs.CoreHeldLemmas.{no_place, same_session, lender, owned_open, owns_row, place_outer, script_head, row_paid as paid_row}
use Rattle.pd_core.proofs.ScriptCostLemmas.{row_covers, cost, weight, cost_covers}
use Rattle.pd_core.proofs.LentPlaceLemmas.{counted_by_sessions}
use Rattle.pd_core.proofs.ScriptNameLemmas.{buffer_key, own_or_lent, lent_key, Names}
use Rattle.pd_core.proofs.LentLemmas.{LendAlike, paid_still}
use Rattle.pd_core.proofs.ServerLemmas.{lent_paid, sound_works, place_in}
use Rattle.server_kinds.proofs.HostLaws.{IsPaidRow}
use Rattle.pd_core.proofs.SessionChangeLemmas.{AreTwo, MovesAccounts, IsTied, KeepsBut, lent_pair, ChangesSession, at_script, calls, pays_client}
use Rattle.pd_core.proofs.SessionTurnLemmas.{Turns}
use Rattle.pd_core.proofs.SessionOpenLemmas.{NamesOpen, script_with, free_before}

module _ {store : Store} {roles : Roles} {i s : ℕ} {script : Script} (two : AreTwo store roles i s script) where
  open two use {core, is_script, serving}

  abbrev payer : ℕ
  payer = script.account.0

  abbrev rows : NatMap (Row Labelled)
  rows = rows_in store (roles s)

  pub script_sound : IsSoundScript store script
  script_sound = at_script two (IsSoundRole store) (core.sound i)

  pub payer_open : IsOpenIn store payer
  payer_open = owned_open core (Place i) payer (pays_client two)

  payer_outer : IsOuter core.heads store payer
  payer_outer = place_outer core i payer (pays_client two)

  payer_head : core.heads payer ≡ false
  payer_head = script_head core i payer (pays_client two) (calls two)

  pub named : NamesItsSessions (rows_at store roles) (AScript script)
  named = at_script two (NamesItsSessions (rows_at store roles)) (core.named i)

  one : IsOne script.caps.caps
  one = script_sound.own.named.one

  -- ---- what other sessions lend

  -- a call touches the client's account and one that nobody had but this session
  module _ (account : ℕ) (id : ℕ) (alone : (owner : Owner) → Owns store roles owner account → owner ≡ SessionAt s id) (store' : Store)
      (others : AllRestBut payer account store store') where
    -- a buffer that another session lends stays what it is, and its payer is neither
    pub lent_beside : (p by key : ℕ) → buffer_at (get script.caps.caps p) ≡ Some (by, key) → ((r : Row Labelled) → get rows id ≡ Some r → r.buffer ≡ Some key → ⊥) →
        IsPaidBy (space_at store key).payer key (space_at store key).bytes store' × (((space_at store key).payer ≢ payer) × ((space_at store key).payer ≢ account))
    lent_beside p by key has not_its =
        let its = lender core i p by key (ap (λ r. buffer_at (get (caps_in r) p)) is_script ∙ has) in
        let apart : (space_at store key).payer ≢ payer = λ e. no_place i its.server its.id (core.apart (SessionAt its.server its.id) (Place i) payer (its.owns ∙ ap Some e) (pays_client two)) in
        let beside : (space_at store key).payer ≢ account = λ e.
        let same = same_session its.server its.id s id (alone (SessionAt its.server its.id) (its.owns ∙ ap Some e)) in
        not_its its.row (sym (λ j. get (rows_at store roles (same.0 j)) (same.1 j)) ∙ its.there) its.lends in
        let there = (paid_in_part its.row.key key (space_at store key).bytes store its.has).exists in
        (paid_still store store' key there (others (space_at store key).payer apart beside), (apart, beside))

    -- so it is another's still
    pub others_beside : (p by key : ℕ) → buffer_at (get script.caps.caps p) ≡ Some (by, key) → ((r : Row Labelled) → get rows id ≡ Some r → r.buffer ≡ Some key → ⊥) → IsOthers payer store' key
    others_beside p by key has not_its =
        let its = lent_beside p by key has not_its in record { there = its.0.exists; apart = λ e. its.1.0 (sym its.0.payer ∙ e) }

  -- ---- the session that a selector names

  module _ (q : ℕ) (session : SessionId) (names : get script.caps.caps q ≡ Some (Session s session)) where
    pub its : IsSessionOf (AScript script) (get rows session.0)
    its = named.its q s session (ap session_at names)

    abbrev pub row : Row Labelled
    row = its.row

    pub row_paid : IsPaidRow store row
    row_paid = paid_row core s session.0 row its.there

    -- it lends what its row says
    pub lent_row : lent_by (rows_at store roles) (session_at (get script.caps.caps q)) ≡ row.buffer
    lent_row = ap (λ o. lent_by (rows_at store roles) (session_at o)) names ∙ ap lent_of its.there

    -- one selector has that, or the new one will
    pub lent_under : (lent : Option ℕ) → lent_by (rows_at store roles) (session_at (get script.caps.caps q)) ≡ lent → (k : ℕ) × HoldsLent script.caps.caps q k lent
    lent_under None is = (
      new_selector script.caps.caps,
      record {
        at = record { has = ap buffer_at (new_selector_free script.caps.caps); free = λ _. new_selector_free script.caps.caps };
        new = λ _. refl;
        only = λ j key has. absurd (none-some key (sym is ∙ named.lent j q key has));
      },
    )
    lent_under (Some key) is =
        let its = named.lends q key is in (
          its.0,
          record {
            at = record { has = its.1; free = λ none. absurd (none-some key (sym none)) };
            new = λ none. absurd (none-some key (sym none));
            only = λ j other has.
                let same : key ≡ other = same_Some key other (sym is ∙ named.lent j q other has) in
                (one j its.0 key (buffer_key (get script.caps.caps j) q key (has ∙ ap (λ n. Some (q, n)) (sym same))) (buffer_key (get script.caps.caps its.0) q key its.1), ap (λ n. Some n) same);
          },
        )

    abbrev pub under : ℕ
    under = (lent_under row.buffer lent_row).0

    pub holds_lent : HoldsLent script.caps.caps q (lent_under row.buffer lent_row).0 row.buffer
    holds_lent = (lent_under row.buffer lent_row).1

    -- there is a place for each selector that the account could pay for with the session's limits
    pub placed : (account_in store payer).caps_limit + row.account.caps_limit + total session_weight script.caps.caps ≤ script.caps.places + 1 + lent_weight row.buffer
    unfolding own_of
    placed =
        let all = at_script two (λ r. IfSome (places_in r) (λ p. caps_limits (own_in (sessions_in store roles) store r) ≤ p)) (core.placed i) in
        let selectors = total-picked caps_with (object_of (lent_in store) (sessions_in store roles) (part_at store script)) script.caps.caps in
        let counted = counted_by_sessions (rows_at store roles) (AScript script) named one in
        let by_weight = weight core i script is_script in
        let by_cost = cost core i script is_script in
        let weights = total-remove by_weight script.caps.caps q (Session s session) names in
        let own = ap lent_weight (ap lent_of its.there) in
        let costs = total-remove by_cost script.caps.caps q (Session s session) names in
        let found = ap (λ o. unwrap_or (option_map caps_with (option_map OpenSession (option_map (row_session s) o))) 0) its.there in
        let rest = total_le by_weight by_cost (remove script.caps.caps q) (λ k cap is. cost_covers core i script is_script k cap (before_remove script.caps.caps q k cap is)) in
        let account = ap (λ (a : Account). a.caps_limit) (account_of-part payer store) in
        omega (arith, all, selectors, counted, weights, own, costs, found, rest, account)

    abbrev pub names_session : NamesSession script store rows q s session
    names_session = record {
      row = row;
      there = its.there;
      client = sym its.client;
      named = names;
      once = λ p other is e. named.once p q s other session (ap session_at is) (ap session_at names) e;
      under = under;
      lent = holds_lent;
      least = row_covers core s session.0 row its.there;
      placed = placed;
    }

    -- its account is no other owner's
    pub row_alone : (owner : Owner) → Owns store roles owner row.key → owner ≡ SessionAt s session.0
    row_alone owner owns = core.apart owner (SessionAt s session.0) row.key owns (owns_row core s session.0 row its.there)

    tied : IsTied payer row.key s q under session script.caps.caps rows (Some row)
    tied = record {
      has = names;
      there = its.there;
      client = λ r is. ap (λ (x : Row Labelled). x.client) (sym (same_Some row r is)) ∙ sym its.client;
      key = λ r is. ap (λ (x : Row Labelled). x.key) (sym (same_Some row r is));
      lent = holds_lent.at;
    }

    -- its account is its client's child
    child : IsChildIn store row.key payer
    child = subst (IsChildIn store row.key) (sym its.client) row_paid.child

    apart : payer ≢ row.key
    apart e = row_paid.apart (sym its.client ∙ e)

    -- a script that has turned keeps the rest
    pub keeps_but : {script' : Script} {lent lent' : Option ℕ} → Turns script script' q under lent lent' → KeepsBut script script' q under
    keeps_but turns = record { account = ap (λ (x : Script). x.account) turns.is; reserve = ap (λ (x : Script). x.reserve) turns.is; places = turns.places; caps = turns.tables.others }

    -- ---- what it lends

    -- its account pays for it
    pub its_lent : (key : ℕ) → row.buffer ≡ Some key → get (part row.key store).spaces key ≡ Some (space_at store key).bytes
    its_lent key lends = lent_paid store (roles s) (sound_works store (roles s) (core.sound s)) session.0 key row its.there lends

    -- and no other selector names it
    not_its : (p by key : ℕ) → p ≢ under → buffer_at (get script.caps.caps p) ≡ Some (by, key) → (r : Row Labelled) → get rows session.0 ≡ Some r → r.buffer ≡ Some key → ⊥
    not_its p by key apart has r there lends =
        let same : row ≡ r = same_Some row r (sym its.there ∙ there) in
        apart (one p under key (buffer_key (get script.caps.caps p) by key has)
        (buffer_key (get script.caps.caps under) q key (holds_lent.at.has ∙ ap (lent_from q) (ap (λ (x : Row Labelled). x.buffer) same ∙ lends))))

    module _ (store' : Store) (others : AllRestBut payer row.key store store') where
      -- the bytes of other buffers stay
      pub lent_alike : (p by key : ℕ) → p ≢ under → buffer_at (get script.caps.caps p) ≡ Some (by, key) → lent_in store' key ≡ lent_in store key
      lent_alike p by key apart has = (lent_beside row.key session.0 row_alone store' others p by key has (not_its p by key apart has)).0.bytes_are

      -- after it the session's account pays for what that lends
      module _ (lent' : Option ℕ) (paid : (key : ℕ) → lent' ≡ Some key → get (part row.key store').spaces key ≡ Some (space_at store' key).bytes) where
        paid_now : (key : ℕ) → lent' ≡ Some key → IsPaidBy row.key key (space_at store' key).bytes store'
        paid_now key lends = paid_in_part row.key key (space_at store' key).bytes store' (paid key lends)

        -- so others pay for all that the client is lent
        pub are_others : {script' : Script} → KeepsBut script script' q under → buffer_at (get script'.caps.caps q) ≡ None → IsLentAt script'.caps.caps q under lent' → AreOthers payer store' script'.caps.caps
        are_others {script'} stays none lent p by key has = elim (cases_eq p under) [
          | inl at ↦
              let lends = (lent_pair lent' q by key (sym lent.has ∙ ap (λ n. buffer_at (get script'.caps.caps n)) (sym at) ∙ has)).1 in
              let now = paid_now key lends in
              record { there = now.exists; apart = λ e. apart (sym e ∙ now.payer) }
          | inr beside ↦
              let not_q : p ≢ q = λ e. none-some (by, key) (sym none ∙ ap (λ n. buffer_at (get script'.caps.caps n)) (sym e) ∙ has) in
              let had = ap buffer_at (sym (stays.caps p not_q beside)) ∙ has in
              others_beside row.key session.0 row_alone store' others p by key had (not_its p by key beside had)
        ]

        -- and no other selector named what it lends
        pub fresh_lent : (part payer store').spaces ≡ (part payer store).spaces → (p key : ℕ) → lent' ≡ Some key → p ≢ under → Names script.caps.caps p key → ⊥
        fresh_lent same p key lends beside names =
            let now = paid_now key lends in
            elim (own_or_lent (get script.caps.caps p) key names) [
              | inl own ↦
                  let held = value_at (part payer store).spaces key (subst (λ n. IsSome (get (part payer store).spaces n)) own.key_is (script_sound.own.named.there p own.ds own.is)) in
                  let mine = paid_in_part payer key held.0 store' (ap (λ (m : NatMap (List ℕ)). get m key) same ∙ held.1) in
                  apart (sym mine.payer ∙ now.payer)
              | inr lent ↦
                  let its = lent_beside row.key session.0 row_alone store' others p lent.session.0 key (lent_key lent) (not_its p lent.session.0 key beside (lent_key lent)) in
                  its.1.1 (sym its.0.payer ∙ now.payer)
            ]

    module _ (store' : Store) where
      -- more is donated
      pub raise_moves : (ram caps : ℕ) → RaisesPart payer row.key ram caps store store' → Fits (account_in store payer) ram caps → MovesAccounts core.heads payer row.key store store'
      raise_moves ram caps raises fits = record {
        others = raises.others;
        parents = λ other _. ap (λ (m : NatMap ℕ). get m other) raises.parents;
        parent = λ other is. same_Some _ _ (sym is ∙ ap (λ (m : NatMap ℕ). get m row.key) raises.parents ∙ child);
        root = raises.root;
        caps = limits_moved (λ x. x.caps_limit) payer row.key (parted_with (account_in store payer) ram caps) (raised (account_in store row.key) ram caps) store store'
            (ap (λ (p : Part). p.account) raises.parted_one ∙ ap (λ a. Some (parted_with a ram caps)) (account_of-part payer store))
            (ap (λ (p : Part). p.account) raises.raised_one ∙ ap (λ a. Some (raised a ram caps)) (account_of-part row.key store))
            raises.others apart payer_open row_paid.opens (let fit = fits.caps_fit in omega arith);
        room = room_is_raised core.heads payer row.key ram caps store store' raises payer_open payer_outer child apart fits core.room;
      }

      -- a request is served
      pub serve_moves : {effect : Effect} {served : Served Labelled} {rows' : NatMap (Row Labelled)} → ServesSession row session.0 effect served store store' rows rows' → IsOpenIn store' row.key →
          (account_in store' row.key).caps_limit ≡ row.account.caps_limit → MovesAccounts core.heads payer row.key store store'
      serve_moves serves opens same_limit =
          let becomes : PartBecomes row.key (part row.key store') store store' = record { own = refl; others = serves.others; root = serves.root; parents = serves.parents; room = serves.room } in
          let has = some_of (part row.key store').account (part_open row.key store' opens) in
          let was = value_at (accounts_in store) row.key row_paid.opens in
          let limit_stays : has.0.caps_limit ≡ (account_in store row.key).caps_limit
          = ap (λ (o : Option Account). (unwrap_or o (opened 0 0)).caps_limit) (sym has.1)
          ∙ ap (λ (a : Account). a.caps_limit) (account_of-part row.key store') ∙ same_limit ∙ ap (λ (a : Account). a.caps_limit) (sym row_paid.account) in
          record {
            others = λ other _. serves.others other;
            parents = λ other _. ap (λ (m : NatMap ℕ). get m other) serves.parents;
            parent = λ other is. same_Some _ _ (sym is ∙ ap (λ (m : NatMap ℕ). get m row.key) serves.parents ∙ child);
            root = serves.root;
            caps = ap (total (λ (a : Account). a.caps_limit)) (accounts_after row.key (part row.key store') store store' has.0 becomes has.1)
                ∙ total-insert_same (λ a. a.caps_limit) (accounts_in store) row.key has.0 was.0 was.1 (limit_stays ∙ ap (λ (o : Option Account). (unwrap_or o (opened 0 0)).caps_limit) was.1);
            room = room_stays core.heads row.key (part row.key store') store store' has.0 becomes has.1 row_paid.opens limit_stays core.room;
          }

      -- its row is written
      pub changes_written : {next : Row Labelled} {rows' : NatMap (Row Labelled)} {script' : Script} → KeepsBut script script' q under → get script'.caps.caps q ≡ Some (Session s session) →
          IsLentAt script'.caps.caps q under next.buffer → next.client ≡ row.client → next.key ≡ row.key → rows' ≡ insert rows session.0 next →
          MovesAccounts core.heads payer row.key store store' → IsSoundScript store' script' → ram_limits_in store' ≡ ram_limits_in store →
          ChangesSession core.heads row.key s q under session store store' script script' rows rows' (Some row) (Some next)
      changes_written {next} {rows'} stays has lent client key written moves sound ram = record {
        moves = moves;
        ram = ram;
        sound = sound;
        stays = stays;
        rows_stay = λ id other. ap (λ (m : NatMap (Row Labelled)). get m id) written ∙ get-insert_other rows session.0 next id other;
        tied = tied;
        tied_after = record {
          has = has;
          there = ap (λ (m : NatMap (Row Labelled)). get m session.0) written ∙ get-insert_same rows session.0 next session.0 refl;
          client = λ r is. ap (λ (x : Row Labelled). x.client) (sym (same_Some next r is)) ∙ client ∙ sym its.client;
          key = λ r is. ap (λ (x : Row Labelled). x.key) (sym (same_Some next r is)) ∙ key;
          lent = lent;
        };
        below = λ _ _. refl;
      }

      -- it is closed
      module _ (closes : ClosesPart row.key payer store store') where
        key_gone : (other : ℕ) → IsChildIn store' row.key other → ⊥
        key_gone other is = none-some other (sym (ap (λ (m : NatMap ℕ). get m row.key) closes.parents ∙ get-remove_same (parents_in store) row.key row.key refl) ∙ is)

        close_moves : MovesAccounts core.heads payer row.key store store'
        unfolding part
        close_moves =
            let client_had = some_of (part payer store).account (part_open payer store payer_open) in
            let key_had = some_of (part row.key store).account (part_open row.key store row_paid.opens) in
            let one = ap (λ (o : Option Account). (unwrap_or o (opened 0 0)).caps_limit) client_had.1 in
            let other = ap (λ (o : Option Account). (unwrap_or o (opened 0 0)).caps_limit) key_had.1 in
            let now = ap (λ (a : Account). a.caps_limit) (sym (account_of-part payer store') ∙ ap account_of closes.raised_one) in
            record {
              others = λ other not_payer not_account. closes.others other not_account not_payer;
              parents = λ other apart. ap (λ (m : NatMap ℕ). get m other) closes.parents ∙ get-remove_other (parents_in store) row.key other apart;
              parent = λ other is. absurd (key_gone other is);
              root = closes.root;
              caps = sym (limits_opened (λ x. x.caps_limit) payer row.key client_had.0 key_had.0 store' store client_had.1 key_had.1
                  (λ other not_client not_key. sym (closes.others other not_key not_client)) (ap (λ (p : Part). p.account) closes.closed_one)
                  (open_in_part payer store' (ap (λ (p : Part). is_some p.account) closes.raised_one)) (omega (arith, one, other, now)));
              room = room_is_given_back core.heads row.key payer store store' closes payer_open payer_outer child apart payer_head core.room;
            }

        pub changes_closed : {rows' : NatMap (Row Labelled)} {script' : Script} → KeepsBut script script' q under → get script'.caps.caps q ≡ None → get script'.caps.caps under ≡ None →
            rows' ≡ remove rows session.0 → IsSoundScript store' script' → ram_limits_in store' ≡ ram_limits_in store →
            ChangesSession core.heads row.key s q under session store store' script script' rows rows' (Some row) None
        changes_closed stays gone none written sound ram = record {
          moves = close_moves;
          ram = ram;
          sound = sound;
          stays = stays;
          rows_stay = λ id other. ap (λ (m : NatMap (Row Labelled)). get m id) written ∙ get-remove_other rows session.0 id other;
          tied = tied;
          tied_after = record {
            has = gone;
            there = ap (λ (m : NatMap (Row Labelled)). get m session.0) written ∙ get-remove_same rows session.0 session.0 refl;
            client = λ r is. absurd (none-some r is);
            key = λ r is. absurd (none-some r is);
            lent = record { has = ap buffer_at none; free = λ _. none };
          };
          below = λ other is. absurd (key_gone other is);
        }

  -- ---- a session is opened

  -- no session is on the script's account
  pub no_session : IsNoRows rows payer
  no_session id row is e = no_place i s id (core.apart (SessionAt s id) (Place i) payer (owns_row core s id row is ∙ ap Some e) (pays_client two))

  -- each session that it names is open
  pub names_open : NamesOpen script rows s
  names_open q session is = ap is_some ((named.its q s session (ap session_at is)).there)

  module _ (ram caps : ℕ) (accepted : donation_refusal (account_in store payer) ram caps ≡ None) where
    fits : Fits (account_in store payer) ram caps
    fits = (donation_covered (account_in store payer) ram caps accepted).0

    least : 2 ≤ caps
    least = (large_enough ram caps (donation_covered (account_in store payer) ram caps accepted).1).1

    -- there is a place for it, and for its account
    pub has_place : HasPlace (roles s)
    has_place = place_in core.heads store (roles s) serving (core.sound s) (core.clients s) core.room payer ram caps no_session fits least

    pub has_room : 0 < room_in store
    has_room = room_for_one_more core.heads store payer ram caps core.room payer_outer fits least

    module _ (store' : Store) {session : SessionId} {first : Labelled} {rows' : NatMap (Row Labelled)} (opens : OpensSession payer ram caps session.0 first store store' rows rows') where
      -- nobody had its account
      pub new_alone : (owner : Owner) → Owns store roles owner opens.key → owner ≡ SessionAt s session.0
      new_alone owner owns = absurd (apart_from_free (accounts_in store) opens.key opens.key opens.fresh (owned_open core owner opens.key owns) refl)

      abbrev pub first_row : Row Labelled
      first_row = new_row payer opens.key ram caps first

      -- what other sessions lend the client is another's still, and holds what it held
      not_there : (key : ℕ) (r : Row Labelled) → get rows session.0 ≡ Some r → r.buffer ≡ Some key → ⊥
      not_there key r there lends = none-some r (sym opens.free ∙ there)

      pub open_alike : LendAlike (lent_in store) (lent_in store') script.caps.caps
      open_alike p by key has = (lent_beside opens.key session.0 new_alone store' opens.others p by key has (not_there key)).0.bytes_are

      pub open_others : AreOthers payer store' script.caps.caps
      open_others p by key has = others_beside opens.key session.0 new_alone store' opens.others p by key has (not_there key)

      pub changes_opened : (selector : ℕ) → get script.caps.caps selector ≡ None → IsSoundScript store' (script_with script selector s session) → ram_limits_in store' ≡ ram_limits_in store →
          ChangesSession core.heads opens.key s selector (new_selector (insert script.caps.caps selector (Session s session))) session store store' script (script_with script selector s session) rows rows' None (Some first_row)
      changes_opened selector free sound limits = record {
        moves = record {
          others = opens.others;
          parents = λ other apart. ap (λ (m : NatMap ℕ). get m other) opens.parents ∙ get-insert_other (parents_in store) opens.key payer other apart;
          parent = λ other is. same_Some _ _ (sym is ∙ ap (λ (m : NatMap ℕ). get m opens.key) opens.parents ∙ get-insert_same (parents_in store) opens.key payer opens.key refl);
          root = opens.root;
          caps = limits_opened (λ x. x.caps_limit) payer opens.key (parted_with (account_in store payer) ram caps) (session_account ram caps) store store'
              (ap (λ (p : Part). p.account) opens.parted ∙ ap (λ a. Some (parted_with a ram caps)) (account_of-part payer store))
              opens.charge opens.others opens.fresh payer_open (let fit = fits.caps_fit in omega arith);
          room = room_is_taken core.heads payer opens.key ram caps (session_account ram caps) store store' (opens_an_account Labelled payer ram caps session.0 first store store' rows rows' opens)
              payer_open payer_outer payer_head fits least core.room;
        };
        ram = limits;
        sound = sound;
        stays = record { account = refl; reserve = refl; places = refl; caps = λ p other _. get-insert_other script.caps.caps selector (Session s session) p other };
        rows_stay = λ id other. ap (λ (m : NatMap (Row Labelled)). get m id) opens.sessions ∙ get-insert_other rows session.0 first_row id other;
        tied = record {
          has = free;
          there = opens.free;
          client = λ r is. absurd (none-some r is);
          key = λ r is. absurd (none-some r is);
          lent = let before = free_before script s session selector free in record { has = ap buffer_at before; free = λ _. before };
        };
        tied_after = record {
          has = get-insert_same script.caps.caps selector (Session s session) selector refl;
          there = ap (λ (m : NatMap (Row Labelled)). get m session.0) opens.sessions ∙ get-insert_same rows session.0 first_row session.0 refl;
          client = λ r is. ap (λ (x : Row Labelled). x.client) (sym (same_Some first_row r is));
          key = λ r is. ap (λ (x : Row Labelled). x.key) (sym (same_Some first_row r is));
          lent =
              let none = new_selector_free (insert script.caps.caps selector (Session s session)) in
              record { has = ap buffer_at none; free = λ _. none };
        };
        below = λ _ _. refl;
      }
