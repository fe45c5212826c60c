-- What each call of a server does to its sessions.
use Rattle.std.proofs.Common.{◌≡◌, ◌≢◌, ℕ, List, Some, is_some, refl, sym, ap, subst, ◌∙◌}
use Rattle.std.proofs.lemmas.Option.{same_Some}
use Rattle.std.specs.Prelude.{⊤, Option, Result, Ok, Err, OnOk, OnErr}
use Rattle.std.specs.FinMap.{get, insert}
use Rattle.slab.specs.Slab.{Slab, Updates, with_value}
use Rattle.slab.specs.Slab as slab
use Rattle.slab.proofs.SlabLemmas.{Updates-with_value}
use Rattle.trade_base.specs.declared.refusal.Refusal.{Refusal}
use Rattle.own_model.specs.Account.{Account}
use Rattle.own_model.specs.Donation.{raised}
use Rattle.own_model.specs.NatMap.{NatMap}
use Rattle.quota_core.proofs.SlabMap.{get-map_of_at}
use Rattle.region_map.specs.Regions.{Regions}
use Rattle.dataspace_core.specs.Store.{Store, Part, account_of, account_in, with_moved_in, ram_limits_in, RaisesPart}
use Rattle.dataspace_core.specs.Share.{Share}
use Rattle.dataspace_core.proofs.PartLaws.{account_of-part, open_in_part}
use Rattle.sliced_heap.specs.Heap.{share_at, MapsMemory, KeepsOthers}
use Rattle.server_frame.specs.Session.{Served, IsSessionAccount, PaysFor, holding, holding_at}
use Rattle.server_frame.specs.Frame.{Row, row_of, row_served, sessions_of, Holds, IsServer, ServesSession}
use Rattle.server_frame.specs.SessionBuffer.{IsEffect, bytes_lent}
use Rattle.server_frame.specs.declared.effect.Effect.{Effect}
use Rattle.server_frame.specs.declared.server.Session.{Session}
use Rattle.server_frame.proofs.HoldingLemmas.{same_part, held_by, maps_books, account_held}
use Rattle.server_frame.proofs.FrameLemmas.{Stays, row_stays, map_of-written, server_with, OthersStay, other_account, other_client}

-- a session on another account stays while a call for one account keeps the others
stays_by : (account other : ℕ) (old new : Store) (regions after : Regions) → KeepsOthers account old new regions after → other ≢ account → Stays other old new regions after
stays_by account other old new regions after others apart = record {
  own = same_part other old new regions after (others.shares other apart);
  held = ap holding (others.shares other apart);
  parent = ap (λ (m : NatMap ℕ). get m other) others.parents;
  leaf = λ leaf k is. leaf k (ap (λ (m : NatMap ℕ). get m k) (sym others.parents) ∙ is);
}

-- a session is kept for the account that pays
pub paid : {T : Type 0} (kept : T → ℕ → Share → Type 0) (payer : T → ℕ) (pays : PaysFor kept payer) (session : Session T) (store : Store) (regions : Regions) → Holds kept session store regions →
    IsSessionAccount (payer session.state) store regions × kept session.state (payer session.state) (holding_at (payer session.state) store regions)
paid kept payer pays session store regions holds =
    let own = sym (pays session.state session.account.0 _ holds.state) in (
      subst (λ k. IsSessionAccount k store regions) own holds.account,
      subst (λ k. kept session.state k (holding_at k store regions)) own holds.state,
    )

module _ {T V : Type 0} (kept : T → ℕ → Share → Type 0) (value : T → Share → V) (buffer : T → Option ℕ) (sessions : Slab (Session T)) (old : Store) (regions : Regions) (server : IsServer kept sessions old regions) (id : ℕ) (session : Session T) (there : slab.get sessions id ≡ Some session) where
  -- the session holds
  pub holds : Holds kept session old regions
  holds = server.each id session there

  -- its row is read out of it
  pub row_there : (row : Row V) → get (sessions_of value buffer sessions old regions) id ≡ Some row → row_of value buffer old regions session ≡ row
  row_there row is = same_Some _ _ (sym (get-map_of_at (row_of value buffer old regions) sessions id session there) ∙ is)

  -- ---- a request is served

  module _ (payer : T → ℕ) (pays : PaysFor kept payer) (new : Store) (after : Regions) (state : T) (account_after : IsSessionAccount (payer state) new after) (state_kept : kept state (payer state) (holding_at (payer state) new after)) (same : payer state ≡ payer session.state) (others_by : KeepsOthers (payer session.state) old new regions after) where
    -- the session after it
    abbrev next : Session T
    next = record { account = session.account; client = session.client; state = state }

    own : payer session.state ≡ session.account.0
    own = pays session.state session.account.0 _ holds.state

    others : KeepsOthers session.account.0 old new regions after
    others = subst (λ k. KeepsOthers k old new regions after) own others_by

    stays : OthersStay sessions id old new regions after
    stays k s other found = stays_by session.account.0 s.account.0 old new regions after others (other_account kept sessions old regions server id session there k s other found)

    next_holds : Holds kept next new after
    next_holds = record {
      account = subst (λ k. IsSessionAccount k new after) (same ∙ own) account_after;
      child = ap (λ (m : NatMap ℕ). get m session.account.0) others.parents ∙ holds.child;
      leaf = λ k is. holds.leaf k (ap (λ (m : NatMap ℕ). get m k) (sym others.parents) ∙ is);
      state = subst (λ k. kept state k (holding_at k new after)) (same ∙ own) state_kept;
    }

    written : Updates sessions (with_value sessions id next) id (Some next)
    written = Updates-with_value sessions id next (ap is_some there)

    pub server_serves : IsServer kept (with_value sessions id next) new after
    server_serves =
        server_with kept sessions (with_value sessions id next) old new regions after server account_after.maps id session.account.0
        (λ other apart. ap holding (others.shares other apart)) stays
        (λ s found. ap (λ (x : Session T). x.account.0) (same_Some _ _ (sym found ∙ there)))
        next written refl (other_account kept sessions old regions server id session there) next_holds

    rows_serve : sessions_of value buffer (with_value sessions id next) new after ≡ insert (sessions_of value buffer sessions old regions) id (row_of value buffer new after next)
    rows_serve = map_of-written (row_of value buffer old regions) (row_of value buffer new after) sessions (with_value sessions id next) id (λ q x other found. row_stays old new regions after x value buffer (stays q x other found)) next written

    module _ (step : List ℕ → Account → Option (List ℕ) → V → Served V) (request text lines : List ℕ) (effect : Effect) (effect_is : IsEffect effect (buffer session.state) (buffer state))
        (served : ◌≡◌ {A = Served V} (record { text = text; lines = lines; account = account_in new (payer state); value = value state (holding_at (payer state) new after); buffer = bytes_lent new (buffer state) })
        (step request (account_in old (payer session.state)) (bytes_lent old (buffer session.state)) (value session.state (holding_at (payer session.state) old regions)))) where
      -- the same of the session's row
      served_row : (row : Row V) → row_of value buffer old regions session ≡ row →
          ◌≡◌ {A = Served V} (record { text = text; lines = lines; account = account_in new session.account.0; value = value state (holding (share_at session.account.0 new after)); buffer = bytes_lent new (buffer state) }) (row_served step request old row)
      served_row row is =
          ap {B = Served V} (λ k. record { text = text; lines = lines; account = account_in new k; value = value state (holding (share_at k new after)); buffer = bytes_lent new (buffer state) }) (sym (same ∙ own))
          ∙ served
          ∙ ap (λ k. step request (account_in old k) (bytes_lent old (buffer session.state)) (value session.state (holding_at k old regions))) own
          ∙ ap (row_served step request old) is

      pub text_served : (row : Row V) → row_of value buffer old regions session ≡ row → text ≡ (row_served step request old row).text
      text_served row is = ap (λ (s : Served V). s.text) (served_row row is)

      pub lines_served : (row : Row V) → row_of value buffer old regions session ≡ row → lines ≡ (row_served step request old row).lines
      lines_served row is = ap (λ (s : Served V). s.lines) (served_row row is)

      pub serves : (row : Row V) → row_of value buffer old regions session ≡ row → ServesSession row id effect (row_served step request old row) old new (sessions_of value buffer sessions old regions) (sessions_of value buffer (with_value sessions id next) new after)
      serves row is = record {
        lent = buffer state;
        effect_is = subst (λ (r : Row V). IsEffect effect r.buffer (buffer state)) is effect_is;
        sessions =
            rows_serve
            ∙ ap (λ (s : Served V). insert (sessions_of value buffer sessions old regions) id (record { client = session.client.0; key = session.account.0; account = s.account; value = s.value; buffer = buffer state })) (served_row row is)
            ∙ ap (λ (r : Row V). insert (sessions_of value buffer sessions old regions) id (record r { account = (row_served step request old row).account; value = (row_served step request old row).value; buffer = buffer state })) is;
        bytes = ap (λ (s : Served V). s.buffer) (served_row row is);
        others = λ other apart. same_part other old new regions after (others.shares other (λ e. apart (e ∙ ap (λ (r : Row V). r.key) is)));
        root = others.root;
        parents = others.parents;
        room = others.room;
      }

  -- ---- limits come to a session

  module _ (ram caps : ℕ) (new : Store) (is : new ≡ with_moved_in old session.client.0 session.account.0 ram caps) (raises : RaisesPart session.client.0 session.account.0 ram caps old new) (ram_moved : ram_limits_in new ≡ ram_limits_in old) where
    maps_raised : MapsMemory new regions
    maps_raised = maps_books old new _ regions is ram_moved server.maps

    stays_raised : OthersStay sessions id old new regions regions
    stays_raised k s other found = record {
      own = raises.others s.account.0 (other_client kept sessions old regions server id session there k s found) (other_account kept sessions old regions server id session there k s other found);
      held = held_by old new _ is s.account.0 regions;
      parent = ap (λ (m : NatMap ℕ). get m s.account.0) raises.parents;
      leaf = λ leaf q e. leaf q (ap (λ (m : NatMap ℕ). get m q) (sym raises.parents) ∙ e);
    }

    raised_account : account_in new session.account.0 ≡ raised (account_in old session.account.0) ram caps
    raised_account = sym (account_of-part session.account.0 new) ∙ ap account_of raises.raised_one ∙ ap (λ a. raised a ram caps) (account_of-part session.account.0 old)

    raised_holds : Holds kept session new regions
    raised_holds =
        let held = held_by old new _ is session.account.0 regions in
        record {
          account = account_held session.account.0 old new regions regions holds.account (open_in_part session.account.0 new (ap (λ (p : Part). is_some p.account) raises.raised_one)) maps_raised held (ap (λ (a : Account). a.caps_used) raised_account);
          child = ap (λ (m : NatMap ℕ). get m session.account.0) raises.parents ∙ holds.child;
          leaf = λ k e. holds.leaf k (ap (λ (m : NatMap ℕ). get m k) (sym raises.parents) ∙ e);
          state = subst (kept session.state session.account.0) (sym held) holds.state;
        }

    as_it_was : Updates sessions sessions id (Some session)
    as_it_was = record { changed = there; others = λ other apart. refl }

    server_raises : IsServer kept sessions new regions
    server_raises =
        server_with kept sessions sessions old new regions regions server maps_raised id session.account.0
        (λ other apart. held_by old new _ is other regions) stays_raised
        (λ s found. ap (λ (x : Session T). x.account.0) (same_Some _ _ (sym found ∙ there)))
        session as_it_was refl (other_account kept sessions old regions server id session there) raised_holds

    rows_raise : sessions_of value buffer sessions new regions ≡ insert (sessions_of value buffer sessions old regions) id (record (row_of value buffer old regions session) { account = raised (account_in old session.account.0) ram caps })
    rows_raise =
        map_of-written (row_of value buffer old regions) (row_of value buffer new regions) sessions sessions id (λ q x other found. row_stays old new regions regions x value buffer (stays_raised q x other found)) session as_it_was
        ∙ ap (λ a. insert (sessions_of value buffer sessions old regions) id (record { client = session.client.0; key = session.account.0; account = a; value = value session.state (holding (share_at session.account.0 new regions)); buffer = buffer session.state })) raised_account
        ∙ ap (λ h. insert (sessions_of value buffer sessions old regions) id (record { client = session.client.0; key = session.account.0; account = raised (account_in old session.account.0) ram caps; value = value session.state h; buffer = buffer session.state })) (held_by old new _ is session.account.0 regions)

  -- where they are granted, and where they are refused
  module _ (ram caps : ℕ) (new : Store) (ram_moved : ram_limits_in new ≡ ram_limits_in old) where
    pub server_upgrades : (r : Result ⊤ Refusal) → OnOk r (new ≡ with_moved_in old session.client.0 session.account.0 ram caps) → OnOk r (RaisesPart session.client.0 session.account.0 ram caps old new) → OnErr r (new ≡ old) → IsServer kept sessions new regions
    server_upgrades (Ok done) is raises stays = server_raises ram caps new is raises ram_moved
    server_upgrades (Err e) is raises stays = subst (λ s. IsServer kept sessions s regions) (sym stays) server

    pub rows_upgrade : (r : Result ⊤ Refusal) (row : Row V) → row_of value buffer old regions session ≡ row → OnOk r (new ≡ with_moved_in old session.client.0 session.account.0 ram caps) → OnOk r (RaisesPart session.client.0 session.account.0 ram caps old new) →
        OnOk r (sessions_of value buffer sessions new regions ≡ insert (sessions_of value buffer sessions old regions) id (record row { account = raised row.account ram caps }))
    rows_upgrade (Ok done) row at is raises = rows_raise ram caps new is raises ram_moved ∙ ap (λ (r : Row V). insert (sessions_of value buffer sessions old regions) id (record r { account = raised r.account ram caps })) at
    rows_upgrade (Err e) row at is raises = tt
