-- What the sessions of a client have of one server, in sum, and what calls leave of it.
use Rattle.std.proofs.Common.{◌≡◌, ℕ, ◌+◌, ◌-◌, ◌≤◌, ◌==◌, Bool, true, false, cond, List, Some, refl, sym, ap, subst, ◌∙◌, eqb-true, arith}
use Rattle.std.proofs.lemmas.Bool.{eq-eqb}
use Rattle.std.proofs.lemmas.Bool.Decides.{nat_tests}
use Rattle.std.specs.FinMap.{get, insert, remove}
use Rattle.own_model.proofs.NewSelector.{new_selector_free}
use Rattle.own_model.proofs.StepLemmas.{KeptByEffects, KeptByReserve}
use Rattle.own_model.proofs.StepTableLemmas.{others_go_on}
use Rattle.own_model.proofs.Totals.{total-insert_new, total-insert_same, total-insert_at, total-remove, total_le, total_spare, total_at_le}
use Rattle.own_model.specs.Account.{Account, WithinLimits}
use Rattle.own_model.specs.Call.{Call, is_of_session, is_exit}
use Rattle.own_model.specs.NatMap.{NatMap, total}
use Rattle.own_model.specs.OwnState.{OwnState, Object, new_selector, object_with, zeros}
use Rattle.own_model.specs.OwnState.Object.{Dataspace, RpcObject, OpenSession, Buffer}
use Rattle.own_model.specs.OwnStep.{own_step}
use Rattle.own_model.specs.Session.{Session}
use Rattle.own_model.specs.StartList.{Entry}
use Rattle.trade_base.specs.Page.{page_of}
use Rattle.guard_theorems.specs.Guarded.{with_account}
use Rattle.guard_theorems.proofs.AccountLemmas.{Backs}

-- what an object's account has, measured by f, if it is a session of the server at a place
abbrev pub share : (Account → ℕ) → ℕ → Object → ℕ
share f server (OpenSession session) = cond (session.server == server) (f session.account) 0
share f server (Dataspace bytes) = 0
share f server RpcObject = 0
share f server (Buffer session bytes) = 0

-- bytes put over others leave it
share-with : (f : Account → ℕ) (server : ℕ) (object : Object) (offset : ℕ) (part : List ℕ) → share f server (object_with object offset part) ≡ share f server object
share-with f server (Dataspace bytes) offset part = refl
share-with f server RpcObject offset part = refl
share-with f server (OpenSession session) offset part = refl
share-with f server (Buffer session bytes) offset part = refl

module _ (f : Account → ℕ) (server : ℕ) where
  abbrev SameShares : OwnState → OwnState → Type 0
  SameShares s t = total (share f server) t.selectors ≡ total (share f server) s.selectors

  -- another object that is no session adds nothing
  adds_no_share : (s : OwnState) (object : Object) → share f server object ≡ 0 → total (share f server) (insert s.selectors (new_selector s.selectors) object) ≡ total (share f server) s.selectors
  adds_no_share s object none = grind (arith, nat_tests, new_selector_free, total-insert_new)

  -- one that goes takes nothing away
  takes_no_share : (s : OwnState) (selector : ℕ) (object : Object) → get s.selectors selector ≡ Some object → share f server object ≡ 0 → total (share f server) (remove s.selectors selector) ≡ total (share f server) s.selectors
  takes_no_share s selector object there none = omega (arith, none, total-remove (share f server) s.selectors selector object there)

  effects_share : (s : OwnState) → KeptByEffects (SameShares s) s
  effects_share s = record {
    allocates = λ n accepted. adds_no_share s (Dataspace (zeros (page_of n))) refl;
    frees = λ selector bytes there. takes_no_share s selector (Dataspace bytes) there refl;
    attaches = λ selector address bytes there can room. refl;
    detaches = λ address. refl;
    pokes = λ selector offset bytes object there. total-insert_same (share f server) s.selectors selector (object_with object offset bytes) object there (share-with f server object offset bytes);
    pokes_payload = λ address offset bytes payload there. refl;
    pokes_block = λ address offset bytes payload there. refl;
    takes = λ n hole best. refl;
    grows = λ n start accepted gap. refl;
    takes_large = λ n start large accepted gap. refl;
    gives = λ address payload there small. refl;
    gives_large = λ address bytes there. refl;
    slices = λ n start accepted gap. refl;
    unslices = λ address payload there. refl;
    allocates_cap = λ accepted. adds_no_share s RpcObject refl;
    frees_cap = λ selector there. takes_no_share s selector RpcObject there refl;
  }

  reserve_share : (s : OwnState) → KeptByReserve (SameShares s) s
  reserve_share s = record { requests = λ _ _. refl; yields = λ _ _. refl }

  -- so a call that is of no session, and no exit, leaves the sum
  pub others_share : (entry : Entry) (call : Call) (s : OwnState) → is_of_session call ≡ false → is_exit call ≡ false → SameShares s (own_step entry call s).next
  others_share entry call s other on = others_go_on (SameShares s) s refl (effects_share s) entry call (λ _. reserve_share s) other on

-- ---- accounts that have what a base and sessions have

-- sums over sessions, of each measure and each server
abbrev pub Shares : Type 0
Shares = (Account → ℕ) → ℕ → ℕ

-- the accounts have, by a measure, what a base and these sums have
abbrev pub HasShares : (Account → ℕ) → (ℕ → Account) → (ℕ → Account) → Shares → Type 0
HasShares f base accounts shares = (server : ℕ) → f (accounts server) ≡ f (base server) + shares f server

pub record Pays (base accounts : ℕ → Account) (shares : Shares) : Type 0 where
  pub ram_limit : HasShares (λ a. a.ram_limit) base accounts shares
  pub ram_used : HasShares (λ a. a.ram_used) base accounts shares
  pub caps_limit : HasShares (λ a. a.caps_limit) base accounts shares
  pub caps_used : HasShares (λ a. a.caps_used) base accounts shares

-- the sums over a map, and over a list
abbrev pub shares_in : NatMap Object → Shares
shares_in m f server = total (share f server) m

-- one server's sum has something new in place of something old
abbrev pub Replaced : (Account → ℕ) → ℕ → Shares → Shares → ℕ → ℕ → Type 0
Replaced f place before after old new = (server : ℕ) → after f server + cond (place == server) old 0 ≡ before f server + cond (place == server) new 0

-- so its account may change by the same
pub has_moved : (f : Account → ℕ) (base accounts : ℕ → Account) (before after : Shares) (place : ℕ) (account : Account) (old new : ℕ) →
    HasShares f base accounts before → Replaced f place before after old new → f account + old ≡ f (accounts place) + new → HasShares f base (with_account place account accounts) after
has_moved f base accounts before after place account old new has shares is server =
    elim (place == server) as (λ b. (place == server) ≡ b → f (cond b account (accounts server)) ≡ f (base server) + after f server) [
      | true ↦ λ same.
          let here : place ≡ server = eqb-true place server same in
          let sums : after f server + old ≡ before f server + new = subst (λ b. after f server + cond b old 0 ≡ before f server + cond b new 0) same (shares server) in
          let was : f (accounts place) ≡ f (base server) + before f server = ap (λ k. f (accounts k)) here ∙ has server in
          omega (arith, sums, was, is)
      | false ↦ λ other.
          let sums : after f server + 0 ≡ before f server + 0 = subst (λ b. after f server + cond b old 0 ≡ before f server + cond b new 0) other (shares server) in
          omega (arith, sums, has server)
    ] refl

-- nothing is nothing, whichever server is meant
pub none_either : (b : Bool) → ◌≡◌ {A = ℕ} (cond b 0 0) 0
none_either true = refl
none_either false = refl

module _ (f : Account → ℕ) (m : NatMap Object) where
  -- a session more
  pub share_opened : (y : Session) → Replaced f y.server (shares_in m) (shares_in (insert m (new_selector m) (OpenSession y))) 0 (f y.account)
  share_opened y server =
      let new = total-insert_new (share f server) m (new_selector m) (OpenSession y) (new_selector_free m) in
      omega (arith, new, none_either (y.server == server))

  module _ (q : ℕ) (x : Session) (there : get m q ≡ Some (OpenSession x)) where
    -- another session of its server in its place
    pub share_changed : (y : Session) → y.server ≡ x.server → Replaced f x.server (shares_in m) (shares_in (insert m q (OpenSession y))) (f x.account) (f y.account)
    share_changed y same server =
        let at = total-insert_at (share f server) m q (OpenSession y) (OpenSession x) there in
        let its : cond (y.server == server) (f y.account) 0 ≡ cond (x.server == server) (f y.account) 0 = ap (λ k. cond (k == server) (f y.account) 0) same in
        omega (arith, at, its)

    -- and none
    pub share_closed : Replaced f x.server (shares_in m) (shares_in (remove m q)) (f x.account) 0
    share_closed server =
        let gone = total-remove (share f server) m q (OpenSession x) there in
        omega (arith, gone, none_either (x.server == server))

    -- each is within the sum
    pub share_within : f x.account ≤ shares_in m f x.server
    share_within =
        let at = total_at_le (share f x.server) m q (OpenSession x) there in
        subst (λ b. cond b (f x.account) 0 ≤ shares_in m f x.server) (eq-eqb x.server x.server refl) at

-- ---- sessions within their limits

-- what is no more for each account is no more of each object
pub share_le : (f g : Account → ℕ) (server : ℕ) (object : Object) → ((session : Session) → object ≡ OpenSession session → f session.account ≤ g session.account) → share f server object ≤ share g server object
share_le f g server (OpenSession session) each =
    let less = each session refl in
    elim (session.server == server) as (λ b. cond b (f session.account) 0 ≤ cond b (g session.account) 0) [ true ↦ less | false ↦ omega arith ]
share_le f g server (Dataspace bytes) each = omega arith
share_le f g server RpcObject each = omega arith
share_le f g server (Buffer session bytes) each = omega arith

-- each session that a map has is within its limits
abbrev pub AllWithin : NatMap Object → Type 0
AllWithin m = (selector : ℕ) (session : Session) → get m selector ≡ Some (OpenSession session) → WithinLimits session.account

module _ (f g : Account → ℕ) (m : NatMap Object) (each : (selector : ℕ) (session : Session) → get m selector ≡ Some (OpenSession session) → f session.account ≤ g session.account) where
  each_share : (server q : ℕ) (object : Object) → get m q ≡ Some object → share f server object ≤ share g server object
  each_share server q object there = share_le f g server object (λ session is. each q session (there ∙ ap Some is))

  -- so sums are
  pub shares_le : (server : ℕ) → shares_in m f server ≤ shares_in m g server
  shares_le server = total_le (share f server) (share g server) m (each_share server)

  -- and what one account leaves, the sums leave
  pub shares_leave : (q : ℕ) (x : Session) → get m q ≡ Some (OpenSession x) → shares_in m f x.server + (g x.account - f x.account) ≤ shares_in m g x.server
  shares_leave q x there =
      let less = each q x there in
      let room : share f x.server (OpenSession x) + (g x.account - f x.account) ≤ share g x.server (OpenSession x)
      = subst (λ b. cond b (f x.account) 0 + (g x.account - f x.account) ≤ cond b (g x.account) 0) (sym (eq-eqb x.server x.server refl)) (omega (arith, less)) in
      total_spare (share f x.server) (share g x.server) m q (OpenSession x) (g x.account - f x.account) there room (each_share x.server)

-- accounts are within their limits
abbrev pub AccountsWithin : (ℕ → Account) → Type 0
AccountsWithin accounts = (server : ℕ) → WithinLimits (accounts server)

module _ (base accounts : ℕ → Account) (m : NatMap Object) (pays : Pays base accounts (shares_in m)) (spare : AccountsWithin base) (within : AllWithin m) where
  -- so an account backs each session of its server
  pub backs_each : (q : ℕ) (x : Session) → get m q ≡ Some (OpenSession x) → Backs (accounts x.server) x.account
  backs_each q x there =
      let ram = shares_leave (λ a. a.ram_used) (λ a. a.ram_limit) m (λ k y at. (within k y at).ram) q x there in
      let caps = shares_leave (λ a. a.caps_used) (λ a. a.caps_limit) m (λ k y at. (within k y at).caps) q x there in
      let rest = spare x.server in
      record {
        ram_used = omega (arith, pays.ram_used x.server, share_within (λ a. a.ram_used) m q x there);
        caps_used = omega (arith, pays.caps_used x.server, share_within (λ a. a.caps_used) m q x there);
        ram_left = omega (arith, pays.ram_used x.server, pays.ram_limit x.server, ram, rest.ram);
        caps_left = omega (arith, pays.caps_used x.server, pays.caps_limit x.server, caps, rest.caps);
      }

  -- and is within its own limits
  pub accounts_within : AccountsWithin accounts
  accounts_within server =
      let ram = shares_le (λ a. a.ram_used) (λ a. a.ram_limit) m (λ k y at. (within k y at).ram) server in
      let caps = shares_le (λ a. a.caps_used) (λ a. a.caps_limit) m (λ k y at. (within k y at).caps) server in
      let rest = spare server in
      record {
        ram = omega (arith, pays.ram_used server, pays.ram_limit server, ram, rest.ram);
        caps = omega (arith, pays.caps_used server, pays.caps_limit server, caps, rest.caps);
      }
