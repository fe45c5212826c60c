-- What a call does to the sessions of its caller, and what is noted of them then.
use Rattle.std.proofs.Common.{◌≡◌, ◌≢◌, ◌⊎◌, inl, inr, ℕ, ◌==◌, ◌&&◌, Bool, true, false, cond, eqb-true, List, is_some, refl, sym, ◌∙◌, ap, subst}
use Rattle.std.proofs.lemmas.Bool.{eq-eqb, eqb-false}
use Rattle.std.proofs.lemmas.Option.{none-some}
use Rattle.std.specs.Prelude.{Option, Some, None, Result, Ok, Err}
use Rattle.std.specs.FinMap.{get}
use Rattle.std.specs.Option.{option_or}
use Rattle.trade_base.specs.declared.refusal.Refusal.{Refusal}
use Rattle.own_model.proofs.NatMapLemmas.{get-empty, get-insert_same, get-insert_other}
use Rattle.own_model.proofs.NewSelector.{new_selector_free}
use Rattle.own_model.proofs.SessionAloneLemmas.{stand_alone}
use Rattle.own_model.specs.Account.{shortage}
use Rattle.own_model.specs.Call.{Call}
use Rattle.own_model.specs.Call.Call.{Open, Upgrade, CallSession, Close, Exit}
use Rattle.own_model.specs.Listed.{Listed}
use Rattle.own_model.specs.OwnState.{OwnState, Object, new_selector, session_named}
use Rattle.own_model.specs.OwnState.Object.{Dataspace, RpcObject, OpenSession, Buffer}
use Rattle.own_model.specs.OwnStep.{Outcome, exited, opened_by, own_step, session_opened, turned_away, unless}
use Rattle.own_model.specs.Reply.{Reply}
use Rattle.own_model.specs.Reply.Reply.{Selected, Done, Refused}
use Rattle.own_model.specs.Session.{Session, Wish, donation_refusal, new_session, too_small, wish}
use Rattle.own_model.specs.SessionTheorems.{is_of}
use Rattle.own_model.specs.StartList.{Entry}
use Rattle.own_model.specs.World.{World}
use Rattle.view_accounts.specs.Kept.{begun_with, noted_after, raised_in}
use Rattle.view_accounts.specs.Peaks.{Noted, opens, session_at}
use Rattle.view_accounts.specs.declared.session_outcome.SessionOutcome.{SessionOutcome}
use Rattle.view_accounts.proofs.OpenLemmas.{none_still}

-- the session under a selector in a state
abbrev pub session_in : ℕ → OwnState → Option Session
session_in q s = session_named (get s.selectors q)

-- a call that is of another session, and opens none, leaves it
module _ (entry : Entry) (call : Call) (s : OwnState) (q : ℕ) (other : is_of q call ≡ false) (none : opens call ≡ false) where
  abbrev next : OwnState
  next = (own_step entry call s).next

  still_none : session_in q s ≡ None → session_in q next ≡ session_in q s
  still_none closed = none_still q s closed entry call none ∙ sym closed

  still_by : (o : Option Object) → get s.selectors q ≡ o → session_in q next ≡ session_in q s
  still_by (Some (OpenSession x)) is = ap session_named (stand_alone entry call s q x is other ∙ sym is)
  still_by (Some (Dataspace bytes)) is = still_none (ap session_named is)
  still_by (Some RpcObject) is = still_none (ap session_named is)
  still_by (Some (Buffer of bytes)) is = still_none (ap session_named is)
  still_by None is = still_none (ap session_named is)

  pub session_still : session_in q next ≡ session_in q s
  session_still = still_by (get s.selectors q) refl

-- a call was refused
pub record IsRefused (s : OwnState) (o : Outcome) : Type 0 where
  pub left : o.next ≡ s
  pub refusal : Refusal
  pub replied : o.reply ≡ Refused refusal

-- a call opened a session, under a selector that named none
pub record HasOpened (s : OwnState) (o : Outcome) : Type 0 where
  pub selector : ℕ
  pub replied : o.reply ≡ Selected selector
  pub free : session_in selector s ≡ None
  pub wish : Wish
  pub made : session_in selector o.next ≡ Some (new_session wish)
  pub enough : too_small wish.ram wish.caps ≡ None
  pub others : (q : ℕ) → q ≢ selector → session_in q o.next ≡ session_in q s

module _ (s : OwnState) where
  pub refused_or : (P : Outcome → Type 0) (why : Option Refusal) (o : Outcome) → (why ≡ None → IsRefused s o ⊎ P o) → IsRefused s (unless why s o) ⊎ P (unless why s o)
  refused_or P (Some refusal) o does = inl (record { left = refl; refusal = refusal; replied = refl })
  refused_or P None o does = does refl

  -- a donation that isn't refused is enough
  enough_by : (short : Option Refusal) (small : Option Refusal) → option_or short small ≡ None → small ≡ None
  enough_by None small none = none
  enough_by (Some refusal) small none = absurd (none-some refusal (sym none))

  has_opened : (w : Wish) → donation_refusal s.account w.ram w.caps ≡ None → HasOpened s (session_opened w s)
  has_opened w accepted = record {
    selector = new_selector s.selectors;
    replied = refl;
    free = ap session_named (new_selector_free s.selectors);
    wish = w;
    made = ap session_named (get-insert_same s.selectors (new_selector s.selectors) (OpenSession (new_session w)) (new_selector s.selectors) refl);
    enough = enough_by (shortage s.account w.ram w.caps) (too_small w.ram w.caps) accepted;
    others = λ q apart. ap session_named (get-insert_other s.selectors (new_selector s.selectors) (OpenSession (new_session w)) q apart);
  }

  opened_does : (asked : Result Wish Refusal) → IsRefused s (opened_by asked s) ⊎ HasOpened s (opened_by asked s)
  opened_does (Err refusal) = inl (record { left = refl; refusal = refusal; replied = refl })
  opened_does (Ok w) = refused_or (HasOpened s) (donation_refusal s.account w.ram w.caps) (session_opened w s) (λ accepted. inr (has_opened w accepted))

  pub open_does : (entry : Entry) (service text : List ℕ) → IsRefused s (own_step entry (Open service text) s) ⊎ HasOpened s (own_step entry (Open service text) s)
  open_does entry service text =
      refused_or (HasOpened s) (turned_away entry.kind s) (opened_by (wish entry.label entry.routes service text) s) (λ _. opened_does (wish entry.label entry.routes service text))

  pub exit_does : (entry : Entry) → IsRefused s (own_step entry Exit s) ⊎ (own_step entry Exit s ≡ exited)
  exit_does entry = refused_or (λ o. o ≡ exited) (turned_away entry.kind s) exited (λ _. inr refl)

-- what an outcome of a call tells, by its reply and the sessions that are there after it
pub record IsOutcome (reply : Reply) (session : ℕ → Option Session) (outcome : SessionOutcome) : Type 0 where
  pub opened : (selector : ℕ) → reply ≡ Selected selector → is_some (session selector) ≡ true → outcome.opened ≡ Some selector
  pub done : reply ≡ Done → outcome.is_done ≡ true
  pub refused : (refusal : Refusal) → reply ≡ Refused refusal → outcome ≡ record { opened = None; is_done = false }

-- what is noted of a session of the caller once a call more was answered, where this is so of each case
module _ (listed : Listed) (world : World) (component : ℕ) (entry : Entry) (s : OwnState) (outcome : SessionOutcome) (q : ℕ) (was is : Option Noted) where
  abbrev after : Call → Outcome
  after call = own_step entry call s

  -- the session stays, comes, changes or goes
  pub record Cases (call : Call) : Type 0 where
    pub tells : IsOutcome (after call).reply (λ k. session_in k (after call).next) outcome
    pub stays : session_in q (after call).next ≡ session_in q s → was ≡ is
    pub comes : (service text : List ℕ) → call ≡ Open service text → session_in q s ≡ None → is_some (session_in q (after call).next) ≡ true →
        option_or (begun_with listed world service text component q) was ≡ is
    pub changes : opens call ≡ false → raised_in (session_at component q world) was ≡ is
    pub goes : session_in q (after call).next ≡ None → None ≡ is

  own_place : {X : Type 0} (b : Bool) (x y : X) → cond (component == component && b) x y ≡ cond b x y
  own_place b x y = ap (λ o. cond (o && b) x y) (eq-eqb component component refl)

  flipped : (k : ℕ) (b : Bool) → (q == k) ≡ b → (k == q) ≡ b
  flipped k true same = eq-eqb k q (sym (eqb-true q k same))
  flipped k false apart = by (k == q) refl
    where
      by : (b : Bool) → (k == q) ≡ b → (k == q) ≡ false
      by false is_not = is_not
      by true same = absurd (eqb-false q k apart (sym (eqb-true k q same)))

  named_is : (call : Call) (k : ℕ) → Cases call → ((k == q) ≡ false → is_of q call ≡ false) → opens call ≡ false →
      cond (component == component && q == k) (raised_in (session_at component q world) was) was ≡ is
  named_is call k cases other none = own_place (q == k) (raised_in (session_at component q world) was) was ∙ by (q == k) refl
    where
      by : (b : Bool) → (q == k) ≡ b → cond b (raised_in (session_at component q world) was) was ≡ is
      by true same = cases.changes none
      by false apart = cases.stays (session_still entry call s q (other (flipped k false apart)) none)

  opened_is : (service text : List ℕ) → Cases (Open service text) → noted_after listed world component (Open service text) outcome component q was ≡ is
  opened_is service text cases = elim (open_does s entry service text) [
    | inl refused ↦
        ap (λ (o : SessionOutcome). noted_after listed world component (Open service text) o component q was) (cases.tells.refused refused.refusal refused.replied)
        ∙ cases.stays (ap (session_in q) refused.left)
    | inr opened ↦
        let k = opened.selector in
        ap (λ found. noted_after listed world component (Open service text) (record { opened = found; is_done = outcome.is_done }) component q was)
        (cases.tells.opened k opened.replied (ap is_some opened.made))
        ∙ ap (λ o. option_or o was) (own_place (q == k) (begun_with listed world service text component k) None)
        ∙ elim (q == k) as (λ b. (q == k) ≡ b → option_or (cond b (begun_with listed world service text component k) None) was ≡ is) [
          | true ↦ λ same.
              let here : k ≡ q = sym (eqb-true q k same) in
              ap (λ j. option_or (begun_with listed world service text component j) was) here
              ∙ cases.comes service text refl (subst (λ j. session_in j s ≡ None) here opened.free)
              (subst (λ j. is_some (session_in j (after (Open service text)).next) ≡ true) here (ap is_some opened.made))
          | false ↦ λ apart. cases.stays (opened.others q (eqb-false q k apart))
        ] refl
  ]

  exited_is : Cases Exit → noted_after listed world component Exit outcome component q was ≡ is
  exited_is cases = elim (exit_does s entry) [
    | inl refused ↦
        ap (λ (o : SessionOutcome). noted_after listed world component Exit o component q was) (cases.tells.refused refused.refusal refused.replied)
        ∙ cases.stays (ap (session_in q) refused.left)
    | inr gone ↦
        ap (λ b. cond (b && component == component) None was) (cases.tells.done (ap (λ o. o.reply) gone))
        ∙ ap (λ b. cond b None was) (eq-eqb component component refl)
        ∙ cases.goes (ap (λ o. session_in q o.next) gone ∙ ap session_named (get-empty q))
  ]

  pub noted_is : (call : Call) → Cases call → noted_after listed world component call outcome component q was ≡ is
  noted_is (Open service text) cases = opened_is service text cases
  noted_is (Upgrade k text) cases = named_is (Upgrade k text) k cases (λ apart. apart) refl
  noted_is (CallSession k request) cases = named_is (CallSession k request) k cases (λ apart. apart) refl
  noted_is (Close k) cases = named_is (Close k) k cases (λ apart. apart) refl
  noted_is Exit cases = exited_is cases
  noted_is call cases = cases.stays (session_still entry call s q refl refl)

-- and of a session of another component
pub noted_aside : (listed : Listed) (world : World) (component : ℕ) (call : Call) (outcome : SessionOutcome) (c q : ℕ) (was : Option Noted) → (c == component) ≡ false →
    noted_after listed world component call outcome c q was ≡ was
noted_aside listed world component (Open service text) outcome c q was apart = by outcome.opened
  where
    by : (o : Option ℕ) → noted_after listed world component (Open service text) (record { opened = o; is_done = outcome.is_done }) c q was ≡ was
    by None = refl
    by (Some k) = ap (λ b. option_or (cond (b && q == k) (begun_with listed world service text component k) None) was) apart
noted_aside listed world component (Upgrade k text) outcome c q was apart = ap (λ b. cond (b && q == k) (raised_in (session_at c q world) was) was) apart
noted_aside listed world component (CallSession k request) outcome c q was apart = ap (λ b. cond (b && q == k) (raised_in (session_at c q world) was) was) apart
noted_aside listed world component (Close k) outcome c q was apart = ap (λ b. cond (b && q == k) (raised_in (session_at c q world) was) was) apart
noted_aside listed world component Exit outcome c q was apart = by outcome.is_done
  where
    by : (b : Bool) → cond (b && c == component) None was ≡ was
    by true = ap (λ b. cond b None was) apart
    by false = refl
noted_aside listed world component call outcome c q was apart = refl
