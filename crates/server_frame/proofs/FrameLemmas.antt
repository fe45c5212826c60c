-- What a call for one session leaves of the others, and of the server.
use Rattle.std.proofs.Common.{◌≡◌, ◌≢◌, ℕ, Some, IsSome, is_some, refl, sym, ap, subst, ◌∙◌, inl, inr}
use Rattle.std.proofs.lemmas.Bool.{cases_eq}
use Rattle.std.proofs.lemmas.Option.{none-some, same_Some}
use Rattle.std.specs.Prelude.{Option, None}
use Rattle.std.specs.Option.{option_map}
use Rattle.std.specs.FinMap.{get, insert, remove, empty}
use Rattle.slab.specs.Slab.{Slab, Updates}
use Rattle.slab.specs.Slab as slab
use Rattle.own_model.specs.Account.{Account}
use Rattle.own_model.specs.Region.{Region}
use Rattle.own_model.proofs.NatMapLemmas.{same, value_at, get-empty, get-insert_same, get-insert_other, get-remove_same, get-remove_other}
use Rattle.quota_core.specs.SlabMap.{map_of}
use Rattle.quota_core.proofs.SlabMap.{get-map_of}
use Rattle.region_map.specs.Regions.{Regions}
use Rattle.dataspace_core.specs.Store.{Store, Part, part, account_of, account_in, space_at, parents_in, IsOpenIn, IsLeafIn}
use Rattle.dataspace_core.specs.Share.{Share}
use Rattle.dataspace_core.proofs.PartLaws.{account_of-part, open_in_part, part_open, part_of_payer, paid_in_part}
use Rattle.sliced_heap.specs.Heap.{share_at, MapsMemory}
use Rattle.dataspace_core.proofs.ShareLaws.{in_share}
use Rattle.sliced_heap.proofs.ShareLemmas.{share_has}
use Rattle.server_frame.specs.Session.{holding}
use Rattle.server_frame.specs.Frame.{row_of, Holds, IsSessions, IsServer}
use Rattle.server_frame.specs.declared.server.Session.{Session}
use Rattle.server_frame.proofs.HoldingLemmas.{account_held}

-- ---- a slab read in two ways

-- what two readings of an option answer
pub read_alike : {T X : Type 0} (f g : T → X) (o : Option T) → ((x : T) → o ≡ Some x → g x ≡ f x) → option_map g o ≡ option_map f o
read_alike f g None alike = refl
read_alike f g (Some x) alike = ap Some (alike x refl)

module _ {T X : Type 0} (f g : T → X) (old new : Slab T) (key : ℕ) (alike : (q : ℕ) (x : T) → q ≢ key → slab.get old q ≡ Some x → g x ≡ f x) where
  -- at another key
  elsewhere : (slot : Option T) → Updates old new key slot → (q : ℕ) → q ≢ key → get (map_of g new) q ≡ get (map_of f old) q
  elsewhere slot updates q other =
      get-map_of g new q ∙ ap (option_map g) (updates.others q other)
      ∙ read_alike f g (slab.get old q) (λ x there. alike q x other there) ∙ sym (get-map_of f old q)

  -- where one value is written, and the others read alike, one is inserted
  pub map_of-written : (value : T) → Updates old new key (Some value) → map_of g new ≡ insert (map_of f old) key (g value)
  map_of-written value updates = same _ _ (λ q. elim (cases_eq q key) [
    | inl here ↦ get-map_of g new q ∙ ap (option_map g) (ap (slab.get new) here ∙ updates.changed) ∙ sym (get-insert_same (map_of f old) key (g value) q here)
    | inr other ↦ elsewhere (Some value) updates q other ∙ sym (get-insert_other (map_of f old) key (g value) q other)
  ])

  -- and where one goes, one is removed
  pub map_of-emptied : Updates old new key None → map_of g new ≡ remove (map_of f old) key
  map_of-emptied updates = same _ _ (λ q. elim (cases_eq q key) [
    | inl here ↦ get-map_of g new q ∙ ap (option_map g) (ap (slab.get new) here ∙ updates.changed) ∙ sym (get-remove_same (map_of f old) key q here)
    | inr other ↦ elsewhere None updates q other ∙ sym (get-remove_other (map_of f old) key q other)
  ])

-- ---- one session

-- what a session on this account sees stays
pub record Stays (account : ℕ) (old new : Store) (regions after : Regions) : Type 0 where
  pub own : part account new ≡ part account old
  pub held : holding (share_at account new after) ≡ holding (share_at account old regions)
  pub parent : get (parents_in new) account ≡ get (parents_in old) account
  pub leaf : IsLeafIn old account → IsLeafIn new account

module _ (old new : Store) (regions after : Regions) where
  -- so does its account
  pub account_stays : (account : ℕ) → part account new ≡ part account old → account_in new account ≡ account_in old account
  account_stays account own = sym (account_of-part account new) ∙ ap account_of own ∙ account_of-part account old

  -- which stays open
  open_stays : (account : ℕ) → part account new ≡ part account old → IsOpenIn old account → IsOpenIn new account
  open_stays account own opens = open_in_part account new (ap (λ (p : Part). is_some p.account) own ∙ part_open account old opens)

  module _ {T : Type 0} (session : Session T) where
    -- it holds
    pub holds_stays : (kept : T → ℕ → Share → Type 0) → Holds kept session old regions → MapsMemory new after → Stays session.account.0 old new regions after → Holds kept session new after
    holds_stays kept holds maps stays =
        let own = session.account.0 in
        record {
          account = account_held own old new regions after holds.account (open_stays own stays.own holds.account.opens) maps stays.held (ap (λ (a : Account). a.caps_used) (account_stays own stays.own));
          child = stays.parent ∙ holds.child;
          leaf = stays.leaf holds.leaf;
          state = subst (kept session.state own) (sym stays.held) holds.state;
        }

    -- and is the same
    pub row_stays : {V : Type 0} (value : T → Share → V) (buffer : T → Option ℕ) → Stays session.account.0 old new regions after → row_of value buffer new after session ≡ row_of value buffer old regions session
    row_stays value buffer stays i = record { client = session.client.0; key = session.account.0; account = account_stays session.account.0 stays.own i; value = value session.state (stays.held i); buffer = buffer session.state }

-- ---- the regions of a map

-- the dataspace that a region shows is its payer's
shows_payer : (store : Store) (regions : Regions) → MapsMemory store regions → (start : ℕ) (r : Region) → get regions.heap start ≡ Some r → IsSome (get (part (space_at store r.of).payer store).spaces r.of)
shows_payer store regions maps start r there =
    let its = maps.shown start r there in
    ap is_some (part_of_payer store r.of (ap is_some its.there))

-- so a region that shows a dataspace of an account which has what it had was there before, and showed one of the account's
region_was : (account : ℕ) (old new : Store) (regions after : Regions) → MapsMemory new after → (start : ℕ) (r : Region) → get after.heap start ≡ Some r → (space_at new r.of).payer ≡ account →
    holding (share_at account new after) ≡ holding (share_at account old regions) → (get regions.heap start ≡ Some r) × ((space_at old r.of).payer ≡ account)
region_was account old new regions after maps start r there pays held =
    let now = share_has account new after start r there (subst (λ k. IsSome (get (part k new).spaces r.of)) pays (shows_payer new after maps start r there)) in
    let was = ap (λ (s : Share). get s.heap start) (sym held) ∙ now in
    let shared = in_share (part account old) regions.heap regions.tags start r was in
    let has = value_at (part account old).spaces r.of shared.1 in
    (shared.0, (paid_in_part account r.of has.0 old has.1).payer)

-- ---- all sessions

-- the sessions under other keys stay
abbrev pub OthersStay : {T : Type 0} → Slab (Session T) → ℕ → Store → Store → Regions → Regions → Type 0
OthersStay {T} sessions id old new regions after = (k : ℕ) (s : Session T) → k ≢ id → slab.get sessions k ≡ Some s → Stays s.account.0 old new regions after

-- a session under another key has another account
pub other_account : {T : Type 0} (kept : T → ℕ → Share → Type 0) (sessions : Slab (Session T)) (store : Store) (regions : Regions) → IsServer kept sessions store regions → (id : ℕ) (session : Session T) → slab.get sessions id ≡ Some session →
    (k : ℕ) (s : Session T) → k ≢ id → slab.get sessions k ≡ Some s → s.account.0 ≢ session.account.0
other_account kept sessions store regions server id session there k s other found e = other (server.apart k id s session found there e)

-- no session's account is a client's
pub other_client : {T : Type 0} (kept : T → ℕ → Share → Type 0) (sessions : Slab (Session T)) (store : Store) (regions : Regions) → IsServer kept sessions store regions → (id : ℕ) (session : Session T) → slab.get sessions id ≡ Some session →
    (k : ℕ) (s : Session T) → slab.get sessions k ≡ Some s → s.account.0 ≢ session.client.0
other_client kept sessions store regions server id session there k s found e = (server.each k s found).leaf session.account.0 ((server.each id session there).child ∙ ap Some (sym e))

module _ {T : Type 0} (kept : T → ℕ → Share → Type 0) (sessions now : Slab (Session T)) (old new : Store) (regions after : Regions) (server : IsServer kept sessions old regions) (maps : MapsMemory new after) (id account : ℕ)
    (holdings : (other : ℕ) → other ≢ account → holding (share_at other new after) ≡ holding (share_at other old regions))
    (stays : OthersStay sessions id old new regions after)
    (one : (s : Session T) → slab.get sessions id ≡ Some s → s.account.0 ≡ account) where
  -- a region that shows no dataspace of the account shows one of another session
  module _ (slot : Option (Session T)) (updates : Updates sessions now id slot) where
    owned_before : (start : ℕ) (r : Region) → get after.heap start ≡ Some r → (space_at new r.of).payer ≢ account → IsSessions now (space_at new r.of).payer
    owned_before start r there other =
        let was = region_was (space_at new r.of).payer old new regions after maps start r there refl (holdings (space_at new r.of).payer other) in
        let its = server.owned start r was.0 in
        let is = its.is ∙ was.1 in
        let not_id : its.id ≢ id = λ e. other (sym is ∙ one its.session (ap (slab.get sessions) (sym e) ∙ its.there)) in
        record { id = its.id; session = its.session; there = updates.others its.id not_id ∙ its.there; is = is }

    -- another session holds
    holds_before : (k : ℕ) (s : Session T) → k ≢ id → slab.get now k ≡ Some s → Holds kept s new after
    holds_before k s other there =
        let was = sym (updates.others k other) ∙ there in
        holds_stays old new regions after s kept (server.each k s was) maps (stays k s other was)

  -- a session on the account is put under the key: the server has it, and the others as before
  pub server_with : (session : Session T) → Updates sessions now id (Some session) → session.account.0 ≡ account → ((k : ℕ) (s : Session T) → k ≢ id → slab.get sessions k ≡ Some s → s.account.0 ≢ account) → Holds kept session new after → IsServer kept now new after
  server_with session updates is alone holds = record {
    maps = maps;
    each = λ k s there. elim (cases_eq k id) [
      | inl here ↦ subst (λ x. Holds kept x new after) (same_Some _ _ (sym updates.changed ∙ ap (slab.get now) (sym here) ∙ there)) holds
      | inr other ↦ holds_before (Some session) updates k s other there
    ];
    apart = λ a b s t at bt e. elim (cases_eq a id) [
      | inl here ↦ elim (cases_eq b id) [
        | inl too ↦ here ∙ sym too
        | inr other ↦ absurd (alone b t other (sym (updates.others b other) ∙ bt) (sym e ∙ ap (λ (x : Session T). x.account.0) (same_Some _ _ (sym at ∙ ap (slab.get now) here ∙ updates.changed)) ∙ is))
      ]
      | inr other ↦ elim (cases_eq b id) [
        | inl too ↦ absurd (alone a s other (sym (updates.others a other) ∙ at) (e ∙ ap (λ (x : Session T). x.account.0) (same_Some _ _ (sym bt ∙ ap (slab.get now) too ∙ updates.changed)) ∙ is))
        | inr both ↦ server.apart a b s t (sym (updates.others a other) ∙ at) (sym (updates.others b both) ∙ bt) e
      ]
    ];
    owned = λ start r there. elim (cases_eq (space_at new r.of).payer account) [
      | inl own ↦ record { id = id; session = session; there = updates.changed; is = is ∙ sym own }
      | inr other ↦ owned_before (Some session) updates start r there other
    ];
  }

  -- the session under the key goes, and its account has nothing left
  pub server_without : Updates sessions now id None → (part account new).spaces ≡ empty → IsServer kept now new after
  server_without updates nothing = record {
    maps = maps;
    each = λ k s there. holds_before None updates k s (λ here. none-some s (sym updates.changed ∙ ap (slab.get now) (sym here) ∙ there)) there;
    apart = λ a b s t at bt e.
        let not_a : a ≢ id = λ here. none-some s (sym updates.changed ∙ ap (slab.get now) (sym here) ∙ at) in
        let not_b : b ≢ id = λ here. none-some t (sym updates.changed ∙ ap (slab.get now) (sym here) ∙ bt) in
        server.apart a b s t (sym (updates.others a not_a) ∙ at) (sym (updates.others b not_b) ∙ bt) e;
    owned = λ start r there. elim (cases_eq (space_at new r.of).payer account) [
      | inl own ↦
          let has = value_at (part account new).spaces r.of (subst (λ k. IsSome (get (part k new).spaces r.of)) own (shows_payer new after maps start r there)) in
          absurd (none-some has.0 (sym (get-empty r.of) ∙ ap (λ m. get m r.of) (sym nothing) ∙ has.1))
      | inr other ↦ owned_before None updates start r there other
    ];
  }
