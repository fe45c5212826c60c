-- What is kept of sessions once a table was changed at one place.
use Rattle.std.proofs.Common.{◌≡◌, ℕ, ◌==◌, ◌&&◌, Bool, true, false, cond, eqb-true, List, [], ◌∷◌, ◌++◌, Option, Some, None, refl, sym, ◌∙◌, ap, subst}
use Rattle.std.proofs.lemmas.Option.{none-some, same_Some}
use Rattle.std.specs.Option.{option_and_then, option_map}
use Rattle.own_model.specs.Amounts.{Amounts}
use Rattle.own_model.specs.OwnState.{NamedBuffer, bytes_of_buffer}
use Rattle.own_model.specs.ObjectKinds.{ObjectKind}
use Rattle.own_model.specs.Session.{Session, Wish, new_session, offer_of, served, too_small, upgraded}
use Rattle.object_kinds.specs.Offered.{offered_kinds}
use Rattle.core_calls.specs.declared.quotas.Quotas.{Quotas}
use Rattle.core_calls.specs.Quotas.{quotas_account}
use Rattle.budget_theorems.specs.Request.{donating}
use Rattle.budget_theorems.specs.RequestTheorems.{Reaches, session_run}
use Rattle.budget_theorems.specs.RequestTheorems.Reaches.{Asked, Raised}
use Rattle.budget_meter.specs.Sessions.{HasReached, IsServedBy}
use Rattle.view_accounts.specs.SessionNeeds.{Asks, Begins, Change, ChangesAt, IsMeasured, Raises}
use Rattle.view_accounts.specs.declared.session_needs.MeteredSession.{MeteredSession}

-- what an image is of
pub some_image : {X Y : Type 0} (f : X → Y) (o : Option X) (y : Y) → Some y ≡ option_map f o → (x : X) × ((o ≡ Some x) × (y ≡ f x))
some_image f None y is = absurd (none-some y (sym is))
some_image f (Some x) y is = (x, (refl, same_Some y (f x) is))

-- the two keys of a place
pub place_is : (c q component selector : ℕ) → (c == component && q == selector) ≡ true → (c ≡ component) × (q ≡ selector)
place_is c q component selector is = by (c == component) (q == selector) refl refl is
  where
    by : (a b : Bool) → (c == component) ≡ a → (q == selector) ≡ b → (a && b) ≡ true → (c ≡ component) × (q ≡ selector)
    by true true one other is = (eqb-true c component one, eqb-true q selector other)
    by true false one other is = absurd (let e : false ≡ true = is in cc)
    by false b one other is = absurd (let e : false ≡ true = is in cc)

module _ (component selector : ℕ) (change : Change) (c q : ℕ) (was is : Option MeteredSession) where
  -- one place is set
  pub set_there : (value : Option MeteredSession) → is ≡ (cond (c == component && q == selector) value was) → ((c ≡ component) → (q ≡ selector) → change was value) → ChangesAt component selector change c q was is
  set_there value set own = (
    λ here.
        let at = place_is c q component selector here in
        subst (change was) (sym (set ∙ ap (λ b. cond b value was) here)) (own at.0 at.1),
    λ apart. set ∙ ap (λ b. cond b value was) apart,
  )

-- a value is put where one was taken out
pub put_back : {T : Type 0} (b : Bool) (value was is mid : Option T) → mid ≡ cond b None was → is ≡ cond b value mid → is ≡ cond b value was
put_back true value was is mid taken set = set
put_back false value was is mid taken set = set ∙ taken

-- a meter of a session that was just opened
pub begins_there : (account : Quotas) (kinds : Option (List ObjectKind)) (now : Option Session) (was : Option MeteredSession) (new : MeteredSession) (line : ℕ) → new.earlier ≡ line → Some (quotas_account account) ≡ option_map (λ s. s.account) now →
    kinds ≡ option_and_then (λ (s : Session). offered_kinds (offer_of s.state)) now → IsMeasured new →
    ((wish : Wish) → kinds ≡ offered_kinds (offer_of (new_session wish).state) → too_small wish.ram wish.caps ≡ None → quotas_account account ≡ (new_session wish).account →
    HasReached [] (record { ram = wish.ram; caps = wish.caps }) (new_session wish) new.meter) →
    Begins line now was (Some new)
begins_there account kinds now was new line number some offers measured reached =
    let at = some_image (λ s. s.account) now (quotas_account account) some in
    subst (λ s. Begins line s was (Some new)) (sym at.1.0) (
      measured,
      record {
        opened = number;
        reached = λ wish same enough.
            reached wish (offers ∙ ap (option_and_then (λ (s : Session). offered_kinds (offer_of s.state))) at.1.0 ∙ ap (λ (s : Session). offered_kinds (offer_of s.state)) (sym same)) enough
            (at.1.1 ∙ ap (λ (s : Session). s.account) (sym same));
      },
    )

-- a meter that has observed a request
pub asks_there : (request reply : List ℕ) (account : Quotas) (now : Option Session) (was : Option MeteredSession) (old new : MeteredSession) → new.earlier ≡ old.earlier → Some (quotas_account account) ≡ option_map (λ s. s.account) now → was ≡ Some old → IsMeasured new →
    ((all : List Reaches) (donation : Amounts) (session : Session) (buffer : Option NamedBuffer) → HasReached all donation session old.meter → IsServedBy reply account buffer (served (bytes_of_buffer buffer) (session_run all (donating donation session)) request) →
    HasReached (all ++ Asked (bytes_of_buffer buffer) request ∷ []) donation session new.meter) →
    Asks request reply now was (Some new)
asks_there request reply account now was old new number some is measured hears =
    let at = some_image (λ s. s.account) now (quotas_account account) some in
    subst (λ s. Asks request reply s was (Some new)) (sym at.1.0)
    (subst (λ w. Asks request reply (Some at.0) w (Some new)) (sym is)
    (measured, record { opened = number; reached = λ all donation session buffer reached serves. hears all donation session buffer reached (serves account at.1.1) }))

-- or an upgrade
pub raises_there : (account : Quotas) (now : Option Session) (was : Option MeteredSession) (old new : MeteredSession) → new.earlier ≡ old.earlier → Some (quotas_account account) ≡ option_map (λ s. s.account) now → was ≡ Some old → IsMeasured new →
    ((all : List Reaches) (donation more : Amounts) (session : Session) → HasReached all donation session old.meter → quotas_account account ≡ (upgraded (session_run all (donating donation session)) more.ram more.caps).account →
    HasReached (all ++ Raised more ∷ []) donation session new.meter) →
    ((all : List Reaches) (donation : Amounts) (session : Session) → HasReached all donation session old.meter → quotas_account account ≡ (session_run all (donating donation session)).account →
    HasReached all donation session new.meter) →
    Raises now was (Some new)
raises_there account now was old new number some is measured raised refused =
    let at = some_image (λ s. s.account) now (quotas_account account) some in
    subst (λ s. Raises s was (Some new)) (sym at.1.0)
    (subst (λ w. Raises (Some at.0) w (Some new)) (sym is) (
      measured,
      record {
        opened = number;
        done = λ all donation more session reached leaves. raised all donation more session reached (at.1.1 ∙ leaves);
        refused = λ all donation session reached leaves. refused all donation session reached (at.1.1 ∙ leaves);
      },
    ))
