-- What an open does to the sessions of a server.
use Rattle.std.proofs.Common.{◌≡◌, ◌≢◌, ℕ, Some, unwrap_or, refl, sym, ap, subst, ◌∙◌, inl, inr}
use Rattle.std.proofs.lemmas.Option.{none-some}
use Rattle.std.specs.Prelude.{Option, None}
use Rattle.std.specs.FinMap.{get, insert}
use Rattle.slab.specs.Slab.{Slab, Updates}
use Rattle.slab.specs.Slab as slab
use Rattle.own_model.specs.Account.{Account, opened}
use Rattle.own_model.specs.NatMap.{NatMap}
use Rattle.own_model.proofs.NatMapLemmas.{apart_from_free, after_insert, get-insert_same, get-insert_other}
use Rattle.quota_core.proofs.SlabMap.{get-map_of_none}
use Rattle.region_map.specs.Regions.{Regions}
use Rattle.dataspace_core.specs.Store.{Store, accounts_in, parents_in, IsOpenIn}
use Rattle.dataspace_core.specs.Share.{Share}
use Rattle.dataspace_core.proofs.PartLaws.{account_of-part}
use Rattle.sliced_heap.specs.Heap.{payer_of, share_at}
use Rattle.sliced_heap.specs.Sliced.{IsLinked}
use Rattle.sliced_heap.specs.declared.heap.SlicedHeap.{SlicedHeap}
use Rattle.server_frame.specs.Session.{holding, holding_at, holding_of, HasBlocksAlone, IsSessionAccount}
use Rattle.server_frame.specs.Frame.{row_of, new_row, sessions_of, Holds, IsServer, IsNoSession, OpensChargedAccount, OpensSession}
use Rattle.server_frame.specs.declared.server.Session.{Session}
use Rattle.server_frame.proofs.FrameLemmas.{Stays, row_stays, map_of-written, server_with, OthersStay}
use Rattle.server_frame.proofs.HoldingLemmas.{heap_account, heap_linked}

module _ {T V : Type 0} (kept : T → ℕ → Share → Type 0) (value : T → Share → V) (buffer : T → Option ℕ) (sessions now : Slab (Session T)) (old new : Store) (regions after : Regions) (server : IsServer kept sessions old regions) (id : ℕ) (vacant : slab.get sessions id ≡ None)
    (session : Session T) (heap : SlicedHeap) (ram caps : ℕ) (client_open : IsOpenIn old session.client.0) (no_session : IsNoSession sessions session.client.0) (furnishes : OpensChargedAccount session.client.0 ram caps session.account.0 heap old new regions after)
    (written : Updates sessions now id (Some session)) (first : V) (is_first : (share : Share) → HasBlocksAlone share → value session.state share ≡ first) (is_kept : (share : Share) → HasBlocksAlone share → IsLinked share heap.first → kept session.state (payer_of heap) share) (nothing_lent : buffer session.state ≡ None) where
  -- another session is not the one under the key
  other_id : (k : ℕ) (s : Session T) → slab.get sessions k ≡ Some s → k ≢ id
  other_id k s found e = none-some s (sym vacant ∙ ap (slab.get sessions) (sym e) ∙ found)

  -- another session's account isn't the new one, which nobody had
  other_account : (k : ℕ) (s : Session T) → slab.get sessions k ≡ Some s → s.account.0 ≢ session.account.0
  other_account k s found =
      let holds = server.each k s found in
      apart_from_free (accounts_in old) session.account.0 s.account.0 furnishes.fresh holds.account.opens

  stays : OthersStay sessions id old new regions after
  stays k s other found = record {
    own = furnishes.parts s.account.0 (no_session.none k s found) (other_account k s found);
    held = furnishes.holdings s.account.0 (other_account k s found);
    parent = ap (λ (m : NatMap ℕ). get m s.account.0) furnishes.parents ∙ get-insert_other (parents_in old) session.account.0 session.client.0 s.account.0 (other_account k s found);
    leaf = λ leaf q is. elim (after_insert (parents_in old) session.account.0 session.client.0 q s.account.0 (ap (λ (m : NatMap ℕ). get m q) (sym furnishes.parents) ∙ is)) [
      | inl same ↦ no_session.none k s found same.1
      | inr there ↦ leaf q there.1
    ];
  }

  -- what the account has is its object alone
  alone : HasBlocksAlone (holding (share_at session.account.0 new after))
  alone = subst (λ k. HasBlocksAlone (holding (share_at k new after))) furnishes.payer furnishes.alone

  holds : Holds kept session new after
  holds = record {
    account = subst (λ k. IsSessionAccount k new after) furnishes.payer (heap_account heap new after furnishes.heap);
    child = ap (λ (m : NatMap ℕ). get m session.account.0) furnishes.parents ∙ get-insert_same (parents_in old) session.account.0 session.client.0 session.account.0 refl;
    leaf = furnishes.leaf;
    state = subst (λ k. kept session.state k (holding_at k new after)) furnishes.payer (is_kept (holding_of heap new after) furnishes.alone (heap_linked heap new after furnishes.heap));
  }

  pub server_opens : IsServer kept now new after
  server_opens =
      server_with kept sessions now old new regions after server furnishes.heap.sound.maps id session.account.0 furnishes.holdings stays
      (λ s found. absurd (none-some s (sym vacant ∙ found))) session written refl (λ k s other found. other_account k s found) holds

  -- the new session as its client sees it
  is_new_row : row_of value buffer new after session ≡ new_row session.client.0 session.account.0 ram caps first
  is_new_row =
      let account = sym (account_of-part session.account.0 new) ∙ ap (λ (o : Option Account). unwrap_or o (opened 0 0)) furnishes.charge in
      λ i. record { client = session.client.0; key = session.account.0; account = account i; value = is_first (holding (share_at session.account.0 new after)) alone i; buffer = nothing_lent i }

  pub opens : OpensSession session.client.0 ram caps id first old new (sessions_of value buffer sessions old regions) (sessions_of value buffer now new after)
  opens = record {
    key = session.account.0;
    fresh = furnishes.fresh;
    free = get-map_of_none (row_of value buffer old regions) sessions id vacant;
    sessions =
        map_of-written (row_of value buffer old regions) (row_of value buffer new after) sessions now id (λ q x other found. row_stays old new regions after x value buffer (stays q x other found)) session written
        ∙ ap (insert (sessions_of value buffer sessions old regions) id) is_new_row;
    charge = furnishes.charge;
    parted = furnishes.parted;
    others = furnishes.parts;
    root = furnishes.root;
    parents = furnishes.parents;
    room = furnishes.room;
  }
