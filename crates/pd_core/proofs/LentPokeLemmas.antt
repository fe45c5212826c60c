-- A script's poke into what a session lends it.
use Rattle.std.proofs.Common.{◌≡◌, ◌≢◌, ℕ, false, ◌+◌, ◌≤◌, List, [], length, Some, refl, sym, ap, subst, ◌∙◌, inl, inr}
use Rattle.std.proofs.lemmas.Bool.{cases_eq}
use Rattle.std.specs.Option.{option_and_then}
use Rattle.std.specs.FinMap.{get, insert}
use Rattle.trade_base.specs.Bytes.{with_bytes}
use Rattle.own_model.specs.Reserve.{no_reserve}
use Rattle.own_model.specs.Call.Call.{Poke}
use Rattle.own_model.specs.NatMap.{NatMap, picked}
use Rattle.own_model.specs.OwnState.{Object, object_with, with_part}
use Rattle.own_model.specs.OwnState.Object.{Buffer as ABuffer}
use Rattle.own_model.specs.OwnStep.{Outcome, script_step, unrouted}
use Rattle.own_model.specs.Reply.Reply.{Done}
use Rattle.own_model.proofs.NatMapLemmas.{same, get-picked, get-insert_same, get-insert_other, and_then_alike}
use Rattle.quota_core.specs.Books.{Books, ram_limits}
use Rattle.dataspace_core.specs.Store.{Store, Part, part, part_with_bytes, account_of, space_at, ram_limits_in, PartBecomes}
use Rattle.pd_core.specs.Does.{DoesPoke}
use Rattle.pd_core.specs.Own.{Sessions, HasSessions, lent_in, object_of, regions_of, own_of, own_at, part_at, own_heap_at, sliced_at}
use Rattle.pd_core.specs.Sound.{buffer_at, AreOthers, IsLawful, IsSoundScript, IsOthers}
use Rattle.pd_core.specs.declared.script.Script.{Script}
use Rattle.pd_core.proofs.LentLemmas.{object_lent}
use Rattle.pd_core.proofs.LentWriteLemmas.{same_books, other_stays, put_there}
use Rattle.pd_core.proofs.ScriptNameLemmas.{IsLent, lent_key, buffer_key}
use Rattle.pd_core.proofs.ScriptOwnLemmas.{object_is}
use Rattle.pd_core.proofs.ScriptLemmas.{heaps_elsewhere, script_stays, own_stays_but_lent}
use Rattle.pd_core.proofs.SessionOwnLemmas.{lawful_step}

module _ (store : Store) (script : Script) (sound : IsSoundScript store script) (address key offset s : ℕ) (put : List ℕ) {store' : Store} (its : IsLent (get script.caps.caps s) key)
    (within : offset + length put ≤ length (space_at store key).bytes) (over : with_part (space_at store key).bytes offset put ≡ with_bytes (space_at store key).bytes offset put)
    (steps : (object : Object) (sessions : Sessions) → get (own_at sessions store script).selectors s ≡ Some object →
    script_step (Poke address put) (own_at sessions store script)
    ≡ record { reply = Done; lines = []; next = record (own_at sessions store script) { selectors = insert (own_at sessions store script).selectors s (object_with object offset put) } })
    (becomes : PartBecomes (space_at store key).payer (part_with_bytes (part (space_at store key).payer store) key offset put) store store') where
  abbrev p : Part
  p = part_at store script

  abbrev now : List ℕ
  now = with_bytes (space_at store key).bytes offset put

  -- another pays for it
  others : IsOthers script.account.0 store key
  others = sound.lent s its.session.0 key (lent_key its)

  -- so the script's own part stays, and all limits
  own_part : part_at store' script ≡ p
  own_part = becomes.others script.account.0 (λ e. others.apart (sym e))

  limits : ram_limits_in store' ≡ ram_limits_in store
  limits = ap (λ (b : Books). ram_limits b) (same_books store store' key offset put others.there becomes)

  -- no other selector names it
  not_it : (q k other : ℕ) → q ≢ s → buffer_at (get script.caps.caps q) ≡ Some (k, other) → other ≢ key
  not_it q k other apart names e =
      apart (sound.own.named.one q s key (buffer_key (get script.caps.caps q) k other names ∙ ap (λ n. Some n) e) (buffer_key (get script.caps.caps s) its.session.0 key (lent_key its)))

  -- the others' bytes stay
  lent_same : (q k other : ℕ) → q ≢ s → buffer_at (get script.caps.caps q) ≡ Some (k, other) → lent_in store' other ≡ lent_in store other
  lent_same q k other apart names =
      (other_stays store store' key offset put others.there becomes other (not_it q k other apart names) (sound.lent q k other names).there).bytes_are

  lent_now : lent_in store' key ≡ now
  lent_now = (put_there store store' key offset put others.there becomes).bytes_are

  -- ---- its own state

  module _ (sessions : Sessions) where
    -- what its selectors name, before and after
    abbrev was : NatMap Object
    was = picked (object_of (lent_in store) sessions p) script.caps.caps

    -- the selector named it
    named : get (own_at sessions store script).selectors s ≡ Some (ABuffer its.session.0 (space_at store key).bytes)
    named =
        object_is p script.caps script.regions (own_heap_at store script) (sliced_at store script) sound.own sessions s
        ∙ ap (option_and_then (object_of (lent_in store) sessions p)) its.is ∙ ap (λ k. Some (ABuffer its.session.0 (lent_in store k))) its.key_is

    put_at : (q : ℕ) → get (picked (object_of (lent_in store') sessions p) script.caps.caps) q ≡ get (insert was s (ABuffer its.session.0 now)) q
    put_at q = get-picked (object_of (lent_in store') sessions p) script.caps.caps q ∙ (elim (cases_eq q s) [
      | inl at ↦
          ap (option_and_then (object_of (lent_in store') sessions p)) (ap (get script.caps.caps) at ∙ its.is)
          ∙ ap (λ l. Some (ABuffer its.session.0 l)) (ap (lent_in store') its.key_is ∙ lent_now) ∙ sym (get-insert_same was s (ABuffer its.session.0 now) q at)
      | inr apart ↦
          and_then_alike (object_of (lent_in store') sessions p) (object_of (lent_in store) sessions p) (get script.caps.caps q)
          (λ cap there. object_lent (lent_in store) (lent_in store') sessions p cap (λ k other names. lent_same q k other apart (ap buffer_at there ∙ names)))
          ∙ sym (get-picked (object_of (lent_in store) sessions p) script.caps.caps q) ∙ sym (get-insert_other was s (ABuffer its.session.0 now) q apart)
    ])

    own_after : own_at sessions store' script ≡ record (own_at sessions store script) { selectors = insert was s (ABuffer its.session.0 now) }
    unfolding own_of
    own_after = own_stays_but_lent store script sound store' own_part limits sessions ∙ (λ i. record {
      account = account_of p;
      reserve = no_reserve;
      selectors = same _ _ put_at i;
      regions = regions_of script.caps.caps script.regions.user;
      heap = own_heap_at store script;
      sliced = sliced_at store script;
      gone = false;
    })

    -- the model's
    outcome : ◌≡◌ {A = Outcome} (record { reply = Done; lines = []; next = own_at sessions store' script }) (script_step (Poke address put) (own_at sessions store script))
    unfolding own_of
    outcome =
        ap {B = Outcome} (λ x. record { reply = Done; lines = []; next = x }) own_after
        ∙ ap {B = Outcome} (λ l. record { reply = Done; lines = []; next = record (own_at sessions store script) { selectors = insert was s (ABuffer its.session.0 l) } }) (sym over)
        ∙ sym (steps (ABuffer its.session.0 (space_at store key).bytes) sessions named)

    lawful : HasSessions sessions script.caps.caps → IsLawful (own_at sessions store' script)
    unfolding own_of
    lawful ready = subst (λ (o : Outcome). IsLawful o.next) (sym outcome) (lawful_step unrouted (Poke address put) (own_at sessions store script) refl refl (sound.own.lawful sessions ready))

  -- ---- the script is sound

  still_others : AreOthers script.account.0 store' script.caps.caps
  still_others q k other names = elim (cases_eq other key) [
    | inl at ↦
        let paid = put_there store store' key offset put others.there becomes in
        subst (IsOthers script.account.0 store') (sym at) (record { there = paid.exists; apart = λ e. others.apart (sym paid.payer ∙ e) })
    | inr differs ↦
        let had = sound.lent q k other names in
        let paid = other_stays store store' key offset put others.there becomes other differs had.there in
        record { there = paid.exists; apart = λ e. had.apart (sym paid.payer ∙ e) }
  ]

  sound_after : IsSoundScript store' script
  sound_after = record {
    own = script_stays store script sound store' own_part limits (record {
      named = sound.own.named;
      paid = sound.own.paid;
      ram = sound.own.ram;
      attached = sound.own.attached;
      most = sound.own.most;
      blocks = sound.own.blocks;
      lawful = λ sessions ready. subst IsLawful (own_stays_but_lent store script sound store' own_part limits sessions) (lawful sessions ready);
    });
    lent = still_others;
    heaps = (heaps_elsewhere store script sound store' own_part limits).has;
  }

  -- so the poke is the model's, and writes into what is lent
  pub lent_poked : DoesPoke address put Done store script store'
  lent_poked = record {
    outcome = λ sessions ready. outcome sessions;
    keeps = record {
      sound = sound_after;
      account = refl;
      reserve = refl;
      ram_limit = ap (λ q. (account_of q).ram_limit) own_part;
      caps_limit = ap (λ q. (account_of q).caps_limit) own_part;
      places = refl;
      sessions = λ q. refl;
      buffers = λ q. refl;
      session_count = refl;
      root = becomes.root;
      parents = becomes.parents;
      room = becomes.room;
      limits = limits;
    };
    others = inr (record { selector = s; session = its.session.0; key = key; names = lent_key its; offset = offset; bytes = put; within = within; becomes = becomes });
  }
