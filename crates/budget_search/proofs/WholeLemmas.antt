-- What a component has in its account and in its sessions' accounts.
use Rattle.std.proofs.lemmas.List.{set_past}
use Rattle.std.proofs.Common.{arith, ltb-true, ltb-false, ◌≡◌, ◌+◌, ℕ, Bool, true, false, true≢false, length, nat_lt, refl, sym, ap, ◌∙◌, get_or-set_same}
use Rattle.std.specs.Prelude.{Option, Some, None, Result, Ok, Err, List}
use Rattle.std.specs.FinMap as map
use Rattle.std.specs.FinMap.{get}
use Rattle.trade_base.specs.declared.refusal.Refusal.{Refusal}
use Rattle.own_model.proofs.NatMapLemmas.{natmaps, get-empty}
use Rattle.own_model.proofs.StepLimitLemmas.{limits_move}
use Rattle.own_model.proofs.Totals.{total-empty, total-insert_new}
use Rattle.own_model.specs.Account.{shortage}
use Rattle.own_model.specs.Amounts.{Amounts}
use Rattle.own_model.specs.Call.{Call, is_exit, is_of_session}
use Rattle.own_model.specs.Call.Call.{Open, Upgrade, CallSession, Close, Exit}
use Rattle.own_model.specs.Limits.{ram_with, caps_with}
use Rattle.own_model.specs.NatMap.{total}
use Rattle.own_model.specs.OwnState.{OwnState, Object, session_named}
use Rattle.own_model.specs.OwnState.Object.{OpenSession, Buffer}
use Rattle.own_model.specs.OwnStep.{Outcome, unless, turned_away, own_step, entry_step, opened_by, session_opened, session_called, session_closed, session_upgraded, upgraded_by}
use Rattle.own_model.specs.Session.{Session, Wish, donation_refusal, wish}
use Rattle.own_model.specs.SessionArgs.{Arguments, arguments_of}
use Rattle.own_model.specs.StartList.{Entry}
use Rattle.own_model.specs.Transcript.{entry_at, state_at, nothing}
use Rattle.own_model.specs.World.{World, outcome_at, with_state}
use Rattle.budget_search.specs.OpenedSessions.{held, whole_at, whole_of}

-- ---- one call

-- what is used, and the reserve, is as it was
abbrev SameUse : OwnState → OwnState → Type 0
SameUse s t = (t.account.ram_used ≡ s.account.ram_used) × ((t.account.caps_used ≡ s.account.caps_used) × (t.reserve ≡ s.reserve))

use_unless : (why : Option Refusal) (s : OwnState) (accepted : Outcome) → SameUse s accepted.next → SameUse s (unless why s accepted).next
use_unless (Some refusal) s accepted same = (refl, (refl, refl))
use_unless None s accepted same = same

opened_use : (s : OwnState) (asked : Result Wish Refusal) → SameUse s (opened_by asked s).next
opened_use s (Ok w) = use_unless (donation_refusal s.account w.ram w.caps) s (session_opened w s) (refl, (refl, refl))
opened_use s (Err refusal) = (refl, (refl, refl))

upgraded_use : (s : OwnState) (selector : ℕ) (session : Option Session) (more : Option Arguments) → SameUse s (upgraded_by selector session more s).next
upgraded_use s selector (Some session) (Some more) = use_unless (shortage s.account more.ram more.caps) s (session_upgraded selector session more s) (refl, (refl, refl))
upgraded_use s selector (Some session) None = (refl, (refl, refl))
upgraded_use s selector None more = (refl, (refl, refl))

called_use : (s : OwnState) (selector : ℕ) (session : Option Session) (request : List ℕ) → SameUse s (session_called selector session request s).next
called_use s selector (Some session) request = (refl, (refl, refl))
called_use s selector None request = (refl, (refl, refl))

closed_use : (s : OwnState) (selector : ℕ) (session : Option Session) → SameUse s (session_closed selector session s).next
closed_use s selector (Some session) = (refl, (refl, refl))
closed_use s selector None = (refl, (refl, refl))

entry_use : (entry : Entry) (call : Call) (s : OwnState) → is_of_session call ≡ true → SameUse s (entry_step entry call s).next
entry_use entry (Open service text) s is = opened_use s (wish entry.label entry.routes service text)
entry_use entry (Upgrade selector text) s is = upgraded_use s selector (session_named (get s.selectors selector)) (arguments_of text)
entry_use entry (CallSession selector request) s is = called_use s selector (session_named (get s.selectors selector)) request
entry_use entry (Close selector) s is = closed_use s selector (session_named (get s.selectors selector))
entry_use entry call s is = absurd (true≢false (sym is))

goes_on : (call : Call) → is_of_session call ≡ true → is_exit call ≡ false
goes_on Exit is = absurd (true≢false (sym is))
goes_on call is = refl

-- so no call of a session changes what the component has in all
pub whole_kept : (entry : Entry) (call : Call) (s : OwnState) → is_of_session call ≡ true → whole_of (own_step entry call s).next ≡ whole_of s
unfolding whole_of
whole_kept entry call s is =
    let t = (own_step entry call s).next in
    let limits = limits_move entry call s (goes_on call is) in
    let same = use_unless (turned_away entry.kind s) s (entry_step entry call s) (entry_use entry call s is) in
    let ram : t.account.ram_limit + total ram_with t.selectors ≡ s.account.ram_limit + total ram_with s.selectors =
    omega (arith, limits.0, ap (λ (reserve : Amounts). reserve.ram) same.1.1) in
    let caps : t.account.caps_limit + total caps_with t.selectors ≡ s.account.caps_limit + total caps_with s.selectors =
    omega (arith, limits.1, ap (λ (reserve : Amounts). reserve.caps) same.1.1) in
    λ i. record { ram_limit = ram i; ram_used = same.0 i; caps_limit = caps i; caps_used = same.1.0 i }

-- nor that of a component of a world
whole_by : (world : World) (client : ℕ) (call : Call) (there : Bool) → nat_lt client (length world.states) ≡ there → is_of_session call ≡ true →
    whole_at (with_state world client (outcome_at world client call).next) client ≡ whole_at world client
whole_by world client call true there is =
    ap whole_of (get_or-set_same world.states client (outcome_at world client call).next nothing (ltb-true client (length world.states) there))
    ∙ whole_kept (entry_at world.entries client) call (state_at world.states client) is
whole_by world client call false there is =
    ap (λ states. whole_of (state_at states client)) (set_past world.states client (outcome_at world client call).next (ltb-false client (length world.states) there))

pub step_whole : (world after : World) (client : ℕ) (call : Call) → after ≡ with_state world client (outcome_at world client call).next → is_of_session call ≡ true →
    whole_at after client ≡ whole_at world client
step_whole world after client call stepped is = ap (λ w. whole_at w client) stepped ∙ whole_by world client call (nat_lt client (length world.states)) refl is

-- ---- one session, or none

alone_total : (f : Object → ℕ) (now : Session) → total f (held now None) ≡ f (OpenSession now)
alone_total f now = omega (arith, total-insert_new f map.empty 1 (OpenSession now) (get-empty 1), total-empty f)

held_total : (f : Object → ℕ) (now : Session) (buffer : Option (List ℕ)) → ((bytes : List ℕ) → f (Buffer 1 bytes) ≡ 0) → total f (held now buffer) ≡ f (OpenSession now)
held_total f now None none = alone_total f now
held_total f now (Some bytes) none =
    let free : get (held now None) 2 ≡ None = grind (arith, natmaps) in
    omega (arith, total-insert_new f (held now None) 2 (Buffer 1 bytes) free, alone_total f now, none bytes)

-- what a component has is its account with that of its one session
pub record IsWith (s : OwnState) (more_ram more_caps : ℕ) : Type 0 where
  pub ram : (whole_of s).ram_limit ≡ s.account.ram_limit + more_ram
  pub ram_used : (whole_of s).ram_used ≡ s.account.ram_used
  pub caps : (whole_of s).caps_limit ≡ s.account.caps_limit + more_caps
  pub caps_used : (whole_of s).caps_used ≡ s.account.caps_used

pub whole_held : (s : OwnState) (now : Session) (buffer : Option (List ℕ)) → s.selectors ≡ held now buffer → IsWith s now.account.ram_limit now.account.caps_limit
unfolding whole_of
whole_held s now buffer has = record {
  ram = ap (λ m. s.account.ram_limit + total ram_with m) has ∙ ap (λ n. s.account.ram_limit + n) (held_total ram_with now buffer (λ bytes. refl));
  ram_used = refl;
  caps = ap (λ m. s.account.caps_limit + total caps_with m) has ∙ ap (λ n. s.account.caps_limit + n) (held_total caps_with now buffer (λ bytes. refl));
  caps_used = refl;
}

-- and without one it is its account
pub whole_alone : (s : OwnState) → s.selectors ≡ map.empty → whole_of s ≡ s.account
unfolding whole_of
whole_alone s none =
    let ram : s.account.ram_limit + total ram_with s.selectors ≡ s.account.ram_limit = omega (arith, ap (total ram_with) none, total-empty ram_with) in
    let caps : s.account.caps_limit + total caps_with s.selectors ≡ s.account.caps_limit = omega (arith, ap (total caps_with) none, total-empty caps_with) in
    λ i. record { ram_limit = ram i; ram_used = s.account.ram_used; caps_limit = caps i; caps_used = s.account.caps_used }
