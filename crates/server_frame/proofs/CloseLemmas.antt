-- What a close does to the sessions of a server.
use Rattle.std.proofs.Common.{◌≡◌, ◌≢◌, ℕ, ◌+◌, Some, IsSome, is_some, unwrap_or, sym, ap, subst, ◌∙◌}
use Rattle.std.proofs.lemmas.Option.{same_Some}
use Rattle.std.specs.Prelude.{Option, None}
use Rattle.std.specs.FinMap.{get, remove}
use Rattle.slab.specs.Slab.{Slab, ContainsKey, Updates, with_value}
use Rattle.slab.specs.Slab as slab
use Rattle.slab.proofs.SlabLemmas.{Updates-with_value}
use Rattle.own_model.specs.Account.{Account}
use Rattle.own_model.specs.NatMap.{NatMap}
use Rattle.own_model.proofs.NatMapLemmas.{before_remove, get-remove_other}
use Rattle.quota_core.proofs.SlabMap.{get-map_of_at}
use Rattle.region_map.specs.Regions.{Regions}
use Rattle.dataspace_core.specs.Store.{Store, Part, part, account_of, account_in, parents_in, parent_in, root_in, raised_part, IsChildIn, IsLeafIn, ClosesPart}
use Rattle.dataspace_core.specs.Share.{Share}
use Rattle.dataspace_core.proofs.PartLaws.{account_of-part}
use Rattle.sliced_heap.specs.Heap.{payer_of, share_at, MapsMemory, KeepsOthers}
use Rattle.sliced_heap.specs.declared.heap.SlicedHeap.{SlicedHeap}
use Rattle.server_frame.specs.Session.{holding, PaysFor}
use Rattle.server_frame.specs.Frame.{row_of, sessions_of, Holds, IsServer, ClosesSession}
use Rattle.server_frame.specs.declared.server.Session.{Session}
use Rattle.server_frame.proofs.HoldingLemmas.{same_part}
use Rattle.server_frame.proofs.FrameLemmas.{Stays, row_stays, map_of-emptied, server_without, OthersStay, other_account, other_client}

-- a value that was written goes as the one before would have gone
pub gone : {T : Type 0} (sessions now : Slab T) (id : ℕ) (next : T) → ContainsKey sessions id → Updates (with_value sessions id next) now id None → Updates sessions now id None
gone sessions now id next there removed =
    let written = Updates-with_value sessions id next there in
    record { changed = removed.changed; others = λ other apart. removed.others other apart ∙ written.others other apart }

module _ {T V : Type 0} (kept : T → ℕ → Share → Type 0) (value : T → Share → V) (buffer : T → Option ℕ) (payer : T → ℕ) (sessions now : Slab (Session T)) (old mid : Store) (regions between : Regions) (server : IsServer kept sessions old regions) (id : ℕ) (session : Session T) (there : slab.get sessions id ≡ Some session)
    (removed : Updates sessions now id None) (pays : PaysFor kept payer) (heap : SlicedHeap) (same : payer_of heap ≡ payer session.state) (others_by : KeepsOthers (payer session.state) old mid regions between)
    (ram : (account_in mid (payer_of heap)).ram_limit ≡ (account_in old (payer session.state)).ram_limit) (caps : (account_in mid (payer_of heap)).caps_limit ≡ (account_in old (payer session.state)).caps_limit) where
  holds : Holds kept session old regions
  holds = server.each id session there

  -- the account is the session's, and still its client's child and nobody's parent
  own : payer session.state ≡ session.account.0
  own = pays session.state session.account.0 _ holds.state

  pub payer_is : payer_of heap ≡ session.account.0
  payer_is = same ∙ own

  others : KeepsOthers session.account.0 old mid regions between
  others = subst (λ k. KeepsOthers k old mid regions between) own others_by

  child : IsChildIn mid session.account.0 session.client.0
  child = ap (λ (m : NatMap ℕ). get m session.account.0) others.parents ∙ holds.child

  pub child_there : IsSome (get (parents_in mid) session.account.0)
  child_there = ap is_some child

  pub leaf : IsLeafIn mid session.account.0
  leaf k is = holds.leaf k (ap (λ (m : NatMap ℕ). get m k) (sym others.parents) ∙ is)

  client_apart : session.client.0 ≢ session.account.0
  client_apart e = holds.leaf session.account.0 (holds.child ∙ ap Some e)

  -- its limits are what they were
  same_limit : (limit : Account → ℕ) → limit (account_in mid (payer_of heap)) ≡ limit (account_in old (payer session.state)) → limit (account_of (part session.account.0 mid)) ≡ limit (account_of (part session.account.0 old))
  same_limit limit alike =
      ap limit (account_of-part session.account.0 mid) ∙ ap (λ k. limit (account_in mid k)) (sym payer_is) ∙ alike
      ∙ ap (λ k. limit (account_in old k)) own ∙ ap limit (sym (account_of-part session.account.0 old))

  module _ (new : Store) (after : Regions) (closes_by : ClosesPart session.account.0 (parent_in mid session.account.0) mid new) (maps : MapsMemory new after)
      (holdings : (other : ℕ) → other ≢ session.account.0 → holding (share_at other new after) ≡ holding (share_at other mid between)) where
    -- the parent is the client
    closes : ClosesPart session.account.0 session.client.0 mid new
    closes = subst (λ p. ClosesPart session.account.0 p mid new) (ap (λ o. unwrap_or o (root_in mid)) child) closes_by

    stays : OthersStay sessions id old new regions after
    stays k s other found =
        let apart = other_account kept sessions old regions server id session there k s other found in
        record {
          own = closes.others s.account.0 apart (other_client kept sessions old regions server id session there k s found) ∙ same_part s.account.0 old mid regions between (others.shares s.account.0 apart);
          held = holdings s.account.0 apart ∙ ap holding (others.shares s.account.0 apart);
          parent = ap (λ (m : NatMap ℕ). get m s.account.0) closes.parents ∙ get-remove_other (parents_in mid) session.account.0 s.account.0 apart ∙ ap (λ (m : NatMap ℕ). get m s.account.0) others.parents;
          leaf = λ leaf q is. leaf q (ap (λ (m : NatMap ℕ). get m q) (sym others.parents) ∙ before_remove (parents_in mid) session.account.0 q s.account.0 (ap (λ (m : NatMap ℕ). get m q) (sym closes.parents) ∙ is));
        }

    pub server_closes : IsServer kept now new after
    server_closes =
        server_without kept sessions now old new regions after server maps id session.account.0
        (λ other apart. holdings other apart ∙ ap holding (others.shares other apart)) stays
        (λ s found. ap (λ (x : Session T). x.account.0) (same_Some _ _ (sym found ∙ there)))
        removed (ap (λ (p : Part). p.spaces) closes.closed_one)

    rows_close : sessions_of value buffer now new after ≡ remove (sessions_of value buffer sessions old regions) id
    rows_close = map_of-emptied (row_of value buffer old regions) (row_of value buffer new after) sessions now id (λ q x other found. row_stays old new regions after x value buffer (stays q x other found)) removed

    -- the client's part has the limits
    raised_one : part session.client.0 new ≡ raised_part (part session.client.0 old) (account_of (part session.account.0 old)).ram_limit (account_of (part session.account.0 old)).caps_limit
    raised_one =
        closes.raised_one
        ∙ ap (λ p. raised_part p (account_of (part session.account.0 mid)).ram_limit (account_of (part session.account.0 mid)).caps_limit) (same_part session.client.0 old mid regions between (others.shares session.client.0 client_apart))
        ∙ ap (λ n. raised_part (part session.client.0 old) n (account_of (part session.account.0 mid)).caps_limit) (same_limit (λ a. a.ram_limit) ram)
        ∙ ap (λ n. raised_part (part session.client.0 old) (account_of (part session.account.0 old)).ram_limit n) (same_limit (λ a. a.caps_limit) caps)

    closes_part : ClosesPart session.account.0 session.client.0 old new
    closes_part = record {
      closed_one = closes.closed_one;
      raised_one = raised_one;
      others = λ other apart not_client. closes.others other apart not_client ∙ same_part other old mid regions between (others.shares other apart);
      root = closes.root ∙ others.root;
      parents = closes.parents ∙ ap (λ m. remove m session.account.0) others.parents;
      room = closes.room ∙ ap (λ n. n + 1) others.room;
    }

    pub session_closes : ClosesSession id old new (sessions_of value buffer sessions old regions) (sessions_of value buffer now new after)
    session_closes = record { row = row_of value buffer old regions session; there = get-map_of_at (row_of value buffer old regions) sessions id session there; closes = closes_part; sessions = rows_close }
