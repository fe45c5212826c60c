-- A server's table has a place for each session that can be paid for.
use Rattle.std.proofs.Common.{◌≡◌, ◌≢◌, ℕ, Bool, ◌*◌, ◌≤◌, Some, is_some, refl, sym, ap, subst, ◌∙◌, arith}
use Rattle.std.proofs.lemmas.Option.{none-some, same_Some}
use Rattle.std.specs.Prelude.{None, unwrap_or}
use Rattle.std.specs.Option.{option_map}
use Rattle.std.specs.FinMap.{get, remove, len}
use Rattle.slab.specs.Slab.{Slab}
use Rattle.slab.specs.Slab as slab
use Rattle.own_model.specs.Account.{Account, opened}
use Rattle.own_model.specs.NatMap.{NatMap, total}
use Rattle.own_model.proofs.NatMapLemmas.{get-remove_other, before_remove}
use Rattle.own_model.proofs.Totals.{len-total, total_owed_le, total_times_le}
use Rattle.own_model.proofs.NatMapSums.{measured_or, total-taken, owed_once}
use Rattle.quota_core.specs.SlabMap.{map_of}
use Rattle.quota_core.proofs.SlabMap.{get-map_of, len-map_of}
use Rattle.region_map.specs.Regions.{Regions}
use Rattle.dataspace_core.specs.Store.{Store, account_in, accounts_in, IsOpenIn}
use Rattle.dataspace_core.specs.Room.{HasRoom}
use Rattle.dataspace_core.specs.Share.{Share}
use Rattle.server_frame.specs.Frame.{IsServer, IsNoSession}
use Rattle.server_frame.specs.Theorems.{HasClients, TableHasPlace, OpensAnAccount}
use Rattle.server_frame.specs.declared.server.Session.{Session}

module _ {T : Type 0} (kept : T → ℕ → Share → Type 0) (heads : ℕ → Bool) (sessions : Slab (Session T)) (store : Store) (regions : Regions) (server : IsServer kept sessions store regions) (clients : HasClients heads sessions) (room : HasRoom heads store) where
  -- the accounts of the sessions
  abbrev keys : NatMap ℕ
  keys = map_of (λ (s : Session T). s.account.0) sessions

  -- one of them is a session's
  pub record IsKey (id key : ℕ) : Type 0 where
    pub session : Session T
    pub there : slab.get sessions id ≡ Some session
    pub is : session.account.0 ≡ key

  is_key : (id key : ℕ) → get keys id ≡ Some key → IsKey id key
  is_key id key there = elim (slab.get sessions id) as (λ o. slab.get sessions id ≡ o → IsKey id key) [
    | None ↦ λ e. absurd (none-some key (sym (get-map_of (λ (s : Session T). s.account.0) sessions id ∙ ap (option_map (λ (s : Session T). s.account.0)) e) ∙ there))
    | Some session ↦ λ e. record { session = session; there = e; is = same_Some _ _ (sym (get-map_of (λ (s : Session T). s.account.0) sessions id ∙ ap (option_map (λ (s : Session T). s.account.0)) e) ∙ there) }
  ] refl

  -- its account is open and has two capabilities at least
  key_open : (id key : ℕ) → IsKey id key → IsOpenIn store key
  key_open id key its = let holds = server.each id its.session its.there in subst (IsOpenIn store) its.is (room.there its.session.account.0 its.session.client.0 holds.child)

  key_paid : (id key : ℕ) → IsKey id key → 2 ≤ (account_in store key).caps_limit
  key_paid id key its =
      let holds = server.each id its.session its.there in
      subst (λ k. 2 ≤ (account_in store k).caps_limit) its.is (room.paid its.session.account.0 its.session.client.0 holds.child (clients id its.session its.there))

  module _ (client : ℕ) (no_session : IsNoSession sessions client) where
    -- the accounts beside the client's
    abbrev others : NatMap Account
    others = remove (accounts_in store) client

    apart : (id key : ℕ) → IsKey id key → key ≢ client
    apart id key its e = no_session.none id its.session its.there (its.is ∙ e)

    -- have two capabilities a session
    sessions_paid : len keys * 2 ≤ total (λ (a : Account). a.caps_limit) others
    sessions_paid =
        let all = total_owed_le (λ (k : ℕ). 2) (λ k. k) (λ (a : Account). a.caps_limit) keys others
        (λ id key there. let its = is_key id key there in ap is_some (get-remove_other (accounts_in store) client key (apart id key its)) ∙ key_open id key its)
        (λ k a there. owed_once (λ (q : ℕ). 2) (λ q. q) keys k a.caps_limit
        (λ id key at is.
        let its = is_key id key at in
        let here = before_remove (accounts_in store) client k a there in
        let paid = subst (λ q. 2 ≤ (account_in store q).caps_limit) is (key_paid id key its) in
        subst (λ o. 2 ≤ (unwrap_or o (opened 0 0)).caps_limit) here paid)
        (λ d e s t at bt is js.
        let one = is_key d s at in
        let two = is_key e t bt in
        server.apart d e one.session two.session one.there two.there (one.is ∙ is ∙ sym js ∙ sym two.is))) in
        let counted = len-total keys in
        let twice = total_times_le (λ (k : ℕ). 1) (λ (k : ℕ). 2) 2 keys (λ k v _. omega arith) in
        omega (arith, all, counted, twice)

-- so there is one for another client
pub table_has_place : {T : Type 0} (kept : T → ℕ → Share → Type 0) → TableHasPlace kept
table_has_place {T} kept heads sessions store regions client ram caps places server clients room no_session fits least enough =
    let paid = sessions_paid kept heads sessions store regions server clients room client no_session in
    let all = total-taken (λ (a : Account). a.caps_limit) (accounts_in store) client in
    let own = measured_or (λ (a : Account). a.caps_limit) (get (accounts_in store) client) (opened 0 0) refl in
    let counted = len-map_of (λ (s : Session T). s.account.0) sessions in
    omega (arith, paid, all, own, counted, fits.caps_fit, least, enough)

-- an open of a session opens an account
pub opens_an_account : (V : Type 0) → OpensAnAccount V
opens_an_account V client ram caps id first old new rows after opens = record {
  fresh = opens.fresh;
  own = opens.charge;
  limit = refl;
  parted = opens.parted;
  others = opens.others;
  root = opens.root;
  parents = opens.parents;
  room = opens.room;
}
