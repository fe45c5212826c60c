-- The selector that names a dataspace, when capabilities change.
use Rattle.std.specs.Prelude.{◌⊎◌}
use Rattle.std.proofs.Common.{◌≡◌, ℕ, true, Option, Some, None, inl, inr, is_some, eqb-true, true≢false, subst, refl, sym, ap, ◌∙◌}
use Rattle.std.proofs.lemmas.Bool.{eq-eqb}
use Rattle.std.proofs.lemmas.Option.{none-some, same_Some}
use Rattle.std.specs.List.{find}
use Rattle.std.specs.Option.{option_map}
use Rattle.std.specs.FinMap.{get, remove, entries}
use Rattle.trade_base.specs.declared.id.DsId.{DsId}
use Rattle.trade_base.specs.declared.id.Selector.{Selector}
use Rattle.own_model.specs.NatMap.{NatMap}
use Rattle.own_model.specs.Region.{Region}
use Rattle.own_model.proofs.EntryLemmas.{found_in_map, finds_in_map}
use Rattle.own_model.proofs.NatMapLemmas.{picked_alike, some_of, before_remove}
use Rattle.cap_space.specs.Space.{is_buffer}
use Rattle.cap_space.specs.declared.cap.Cap.{Cap}
use Rattle.cap_space.specs.declared.cap.Cap.TheVariants.{Dataspace, RpcObject, Session, Buffer}
use Rattle.pd_core.specs.Own.{key_at, is_of, selector_of, regions_of}
use Rattle.pd_core.specs.Sound.{session_at, buffer_at, IsOne, AreNamed}
use Rattle.pd_core.specs.Sessions.{IsLentAt}

-- a selector names the dataspace under a key
abbrev pub Names : NatMap Cap → ℕ → ℕ → Type 0
Names caps s key = key_at (get caps s) ≡ Some key

-- a capability is of a dataspace where its key is the dataspace's
is_of_some : (key : ℕ) (cap : Cap) → is_of key cap ≡ true → key_at (Some cap) ≡ Some key
is_of_some key (Dataspace ds) h = ap (λ k. Some k) (eqb-true ds.0 key h)
is_of_some key RpcObject h = absurd (true≢false (sym h))
is_of_some key (Buffer space session) h = ap (λ k. Some k) (eqb-true space.0 key h)
is_of_some key (Session server session) h = absurd (true≢false (sym h))

-- and nowhere else
is_of_key : (key : ℕ) (cap : Cap) → key_at (Some cap) ≡ Some key → is_of key cap ≡ true
is_of_key key (Dataspace ds) h = eq-eqb ds.0 key (same_Some ds.0 key h)
is_of_key key RpcObject h = absurd (none-some key h)
is_of_key key (Buffer space session) h = eq-eqb space.0 key (same_Some space.0 key h)
is_of_key key (Session server session) h = absurd (none-some key h)

-- what has a key is a capability
pub cap_named : (o : Option Cap) (key : ℕ) → key_at o ≡ Some key → (cap : Cap) × (o ≡ Some cap)
cap_named None key h = absurd (none-some key h)
cap_named (Some cap) key h = (cap, refl)

-- a buffer is of the dataspace that it tells
pub buffer_key : (o : Option Cap) (q key : ℕ) → buffer_at o ≡ Some (q, key) → key_at o ≡ Some key
buffer_key None q key h = absurd (none-some (q, key) h)
buffer_key (Some (Dataspace ds)) q key h = absurd (none-some (q, key) h)
buffer_key (Some RpcObject) q key h = absurd (none-some (q, key) h)
buffer_key (Some (Session server session)) q key h = absurd (none-some (q, key) h)
buffer_key (Some (Buffer of session)) q key h = let same = same_Some (session.0, of.0) (q, key) h in ap (λ (x : ℕ × ℕ). Some x.1) same

-- a buffer passes the test for one in its dataspace
pub buffer_test : (o : Option Cap) (q key : ℕ) → buffer_at o ≡ Some (q, key) → is_buffer key o ≡ true
buffer_test None q key h = absurd (none-some (q, key) h)
buffer_test (Some (Dataspace ds)) q key h = absurd (none-some (q, key) h)
buffer_test (Some RpcObject) q key h = absurd (none-some (q, key) h)
buffer_test (Some (Session server session)) q key h = absurd (none-some (q, key) h)
buffer_test (Some (Buffer of session)) q key h = let same = same_Some (session.0, of.0) (q, key) h in eq-eqb of.0 key (ap (λ (x : ℕ × ℕ). x.1) same)

-- and what passes it has that key
pub tested_key : (o : Option Cap) (key : ℕ) → is_buffer key o ≡ true → key_at o ≡ Some key
tested_key None key h = absurd (true≢false (sym h))
tested_key (Some (Dataspace ds)) key h = absurd (true≢false (sym h))
tested_key (Some RpcObject) key h = absurd (true≢false (sym h))
tested_key (Some (Session server session)) key h = absurd (true≢false (sym h))
tested_key (Some (Buffer of session)) key h = ap (λ k. Some k) (eqb-true of.0 key h)

-- what has a buffer has no session
no_session : (o : Option Cap) (b : ℕ × ℕ) → buffer_at o ≡ Some b → session_at o ≡ None
no_session None b h = refl
no_session (Some (Dataspace ds)) b h = refl
no_session (Some RpcObject) b h = refl
no_session (Some (Session server session)) b h = absurd (none-some b h)
no_session (Some (Buffer of session)) b h = refl

-- nor has the selector of what a session lends
pub lent_aside : {caps : NatMap Cap} {q k : ℕ} {lent : Option ℕ} → IsLentAt caps q k lent → session_at (get caps k) ≡ None
lent_aside {lent = None} at = ap session_at (at.free refl)
lent_aside {caps = caps} {q = q} {k = k} {lent = Some key} at = no_session (get caps k) (q, key) at.has

-- what has a key still had it before a selector was taken out
pub key_before : (caps : NatMap Cap) (s q key : ℕ) → key_at (get (remove caps s) q) ≡ Some key → key_at (get caps q) ≡ Some key
key_before caps s q key h =
    let its = cap_named (get (remove caps s) q) key h in
    ap key_at (before_remove caps s q its.0 its.1) ∙ sym (ap key_at its.1) ∙ h

-- what has a key is of a dataspace of the script's own
pub record IsOwn (o : Option Cap) (key : ℕ) : Type 0 where
  pub ds : DsId
  pub is : o ≡ Some (Dataspace ds)
  pub key_is : ds.0 ≡ key

-- or it is a buffer's
pub record IsLent (o : Option Cap) (key : ℕ) : Type 0 where
  pub of : DsId
  pub session : Selector
  pub is : o ≡ Some (Buffer of session)
  pub key_is : of.0 ≡ key

pub own_or_lent : (o : Option Cap) (key : ℕ) → key_at o ≡ Some key → IsOwn o key ⊎ IsLent o key
own_or_lent None key h = absurd (none-some key h)
own_or_lent (Some (Dataspace ds)) key h = inl (record { ds = ds; is = refl; key_is = same_Some ds.0 key h })
own_or_lent (Some RpcObject) key h = absurd (none-some key h)
own_or_lent (Some (Session server session)) key h = absurd (none-some key h)
own_or_lent (Some (Buffer of session)) key h = inr (record { of = of; session = session; is = refl; key_is = same_Some of.0 key h })

-- a buffer's tells that key
pub lent_key : {o : Option Cap} {key : ℕ} (its : IsLent o key) → buffer_at o ≡ Some (its.session.0, key)
lent_key its = ap buffer_at its.is ∙ ap (λ k. Some (its.session.0, k)) its.key_is

-- the selector of an entry that is found names the dataspace under the key
key_of_found : (caps : NatMap Cap) (key s : ℕ) (o : Option (ℕ × Cap)) → find (λ e. is_of key e.1) (entries caps) ≡ o → option_map (λ e. e.0) o ≡ Some s → Names caps s key
key_of_found caps key s None at is = absurd (true≢false (sym (ap is_some is)))
key_of_found caps key s (Some e) at is =
    let found = found_in_map (λ e. is_of key e.1) caps e at in
    subst (λ k. key_at (get caps k) ≡ Some key) (same_Some e.0 s is) (ap key_at found.1 ∙ is_of_some key e.1 found.0)

-- the selector that is found names the dataspace
pub is_named : (caps : NatMap Cap) (key s : ℕ) → selector_of caps key ≡ Some s → Names caps s key
unfolding selector_of
is_named caps key s is = key_of_found caps key s _ refl is

-- the one selector of a dataspace is found
pub named_is : (caps : NatMap Cap) → IsOne caps → (s key : ℕ) → Names caps s key → selector_of caps key ≡ Some s
unfolding selector_of
named_is caps one s key names =
    let its = cap_named (get caps s) key names in
    ap (option_map (λ e. e.0)) (finds_in_map (λ e. is_of key e.1) caps s its.0 its.1 (is_of_key key its.0 (sym (ap key_at its.1) ∙ names))
    (λ j w at test. one j s key (ap key_at at ∙ is_of_some key w test) names))

-- regions whose dataspaces are named as before
module _ (caps caps' : NatMap Cap) (user : NatMap Region) (one : IsOne caps') (all : AreNamed caps user)
    (same : (s start : ℕ) (region : Region) → get user start ≡ Some region → selector_of caps region.of ≡ Some s → get caps' s ≡ get caps s) where
  -- the selector of a region's dataspace is the one before
  found_again : (start : ℕ) (region : Region) → get user start ≡ Some region → selector_of caps' region.of ≡ selector_of caps region.of
  found_again start region there =
      let s = some_of (selector_of caps region.of) (all start region there) in
      named_is caps' one s.0 region.of (ap key_at (same s.0 start region there s.1) ∙ is_named caps region.of s.0 s.1) ∙ sym s.1

  -- under these names they are the same
  pub regions_alike : regions_of caps' user ≡ regions_of caps user
  unfolding regions_of
  regions_alike = picked_alike _ _ user (λ start region there. ap (option_map (λ other. record region { of = other })) (found_again start region there))

  -- and they are named still
  pub attached_alike : AreNamed caps' user
  attached_alike start region there = ap is_some (found_again start region there) ∙ all start region there
