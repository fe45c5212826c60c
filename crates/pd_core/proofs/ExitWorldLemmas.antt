-- What closes leave of a world, one after another, and what the world is after the exit that they belong to.
use Rattle.std.proofs.Common.{◌≡◌, ℕ, ◌+◌, ◌<◌, false, Option, Some, None, length, set, refl, sym, ap, subst, ◌∙◌, arith, inl, inr}
use Rattle.std.proofs.lemmas.Bool.{cases_eq}
use Rattle.std.proofs.lemmas.Option.{none-some}
use Rattle.std.proofs.lemmas.Grind.{get_or-set_at}
use Rattle.std.proofs.lemmas.List.{set-set, set-get_or}
use Rattle.std.specs.FinMap.{get}
use Rattle.own_model.specs.Call.Call.{Close, Exit}
use Rattle.own_model.specs.Donation.{raised}
use Rattle.own_model.specs.Limits.{ram_with, caps_with, ram_limits, caps_limits}
use Rattle.own_model.specs.NatMap.{NatMap}
use Rattle.own_model.specs.OwnState.{OwnState, Object, NamedBuffer, session_named, buffer_of}
use Rattle.own_model.specs.OwnState.Object.{Dataspace, RpcObject, OpenSession, Buffer as ABuffer}
use Rattle.own_model.specs.OwnStep.{Outcome, own_step, selectors_lent, session_closed, exited, exited_state}
use Rattle.own_model.specs.Session.{Session}
use Rattle.own_model.specs.StartList.{Entry, init_at}
use Rattle.own_model.specs.StartList.Kind.{Script as AScript}
use Rattle.own_model.specs.Transcript.{nothing, entry_at, state_at}
use Rattle.own_model.specs.World.{World, outcome_at, with_state}
use Rattle.own_model.proofs.StepBalanceLemmas.{world_on, world_exited}
use Rattle.own_model.proofs.StepExitLemmas.{alike_on, exits_done}
use Rattle.own_model.proofs.StepLimitLemmas.{limits_move}
use Rattle.own_model.proofs.NatMapLemmas.{get-remove_same, get-remove_other}
use Rattle.own_model.proofs.Totals.{total-zero, total_same}
use Rattle.pd_core.specs.Exit.{HasClosed, HasClosedAt}
use Rattle.pd_core.proofs.SessionOwnLemmas.{is_step}

-- ---- one close

-- what named no session doesn't when a buffer goes
none_lent : (q : ℕ) (buffer : Option NamedBuffer) (m : NatMap Object) (k : ℕ) → session_named (get m k) ≡ None → session_named (get (selectors_lent q buffer None m) k) ≡ None
none_lent q None m k none = none
none_lent q (Some buffer) m k none = elim (cases_eq k buffer.selector) [
  | inl at ↦ ap session_named (get-remove_same m buffer.selector k at)
  | inr other ↦ ap session_named (get-remove_other m buffer.selector k other) ∙ none
]

-- what selectors name once the buffer of the session under one of them is gone
abbrev unlent : ℕ → NatMap Object → NatMap Object
unlent q m = selectors_lent q (buffer_of q m) None m

-- the selector names no session after it
closed_none : (q : ℕ) (s : OwnState) (o : Option Session) → session_named (get s.selectors q) ≡ o → session_named (get (session_closed q o s).next.selectors q) ≡ None
closed_none q s None is = is
closed_none q s (Some session) is = ap session_named (get-remove_same (unlent q s.selectors) q q refl)

-- and one that named none doesn't either
closed_no_more : (q : ℕ) (s : OwnState) (o : Option Session) (k : ℕ) → session_named (get s.selectors k) ≡ None → session_named (get (session_closed q o s).next.selectors k) ≡ None
closed_no_more q s None k none = none
closed_no_more q s (Some session) k none = elim (cases_eq k q) [
  | inl at ↦ ap session_named (get-remove_same (unlent q s.selectors) q k at)
  | inr other ↦ ap session_named (get-remove_other (unlent q s.selectors) q k other) ∙ none_lent q (buffer_of q s.selectors) s.selectors k none
]

-- so one more is closed
closes_more : (entry : Entry) (q count : ℕ) (old s : OwnState) → q ≡ count + 1 → entry.kind ≡ AScript → old.gone ≡ false → HasClosed count old s → HasClosed (count + 1) old (own_step entry (Close q) s).next
closes_more entry q count old s is script here closed =
    let was : Option Session = session_named (get s.selectors q) in
    let step : own_step entry (Close q) s ≡ session_closed q was s = is_step entry (Close q) s script (closed.here ∙ here) in
    let same = limits_move entry (Close q) s refl in
    record {
      ram = same.0 ∙ closed.ram;
      caps = same.1 ∙ closed.caps;
      here = alike_on entry (Close q) s refl ∙ closed.here;
      none = λ k least most. ap (λ (o : Outcome). session_named (get o.next.selectors k)) step ∙ elim (cases_eq k q) [
        | inl at ↦ ap (λ n. session_named (get (session_closed q was s).next.selectors n)) at ∙ closed_none q s was refl
        | inr other ↦ closed_no_more q s was k (closed.none k least (omega (arith, most, is, other)))
      ];
      no_more = λ k none. ap (λ (o : Outcome). session_named (get o.next.selectors k)) step ∙ closed_no_more q s was k (closed.no_more k none);
    }

-- ---- closes of one component

-- none is closed at first
pub closed_at_first : (i : ℕ) (world : World) → HasClosedAt i 0 world world
closed_at_first i world = record {
  closed = record { ram = refl; caps = refl; here = refl; none = λ k least most. absurd (omega (arith, least, most)); no_more = λ k none. none };
  others = ap (λ states. record world { states = states }) (sym (set-get_or world.states i nothing));
}

-- and one more after each close
pub closed_more : (i q count : ℕ) (old mid new : World) → HasClosedAt i count old mid → q ≡ count + 1 → (entry_at old.entries i).kind ≡ AScript → (state_at old.states i).gone ≡ false → i < length old.states →
    new ≡ with_state mid i (outcome_at mid i (Close q)).next → HasClosedAt i (count + 1) old new
closed_more i q count old mid new before is script here within stepped =
    let s : OwnState = state_at mid.states i in
    let t : OwnState = (outcome_at mid i (Close q)).next in
    let from_old : new ≡ record old { states = set old.states i t }
    = stepped ∙ world_on mid i (Close q) refl ∙ ap (λ (w : World). record w { states = set w.states i t }) before.others
    ∙ ap (λ states. record old { states = states }) (set-set old.states i s t) in
    let at : state_at new.states i ≡ t = ap (λ (w : World). state_at w.states i) from_old ∙ get_or-set_at old.states i i t nothing refl within in
    let kind : (entry_at mid.entries i).kind ≡ AScript = ap (λ (w : World). (entry_at w.entries i).kind) before.others ∙ script in
    record {
      closed = subst (HasClosed (count + 1) (state_at old.states i)) (sym at) (closes_more (entry_at mid.entries i) q count (state_at old.states i) s is kind here before.closed);
      others = from_old ∙ ap (λ u. record old { states = set old.states i u }) (sym at);
    }

-- ---- the exit

-- what is no session has no limits
no_limits : (o : Object) → session_named (Some o) ≡ None → (ram_with o ≡ 0) × (caps_with o ≡ 0)
no_limits (Dataspace bytes) none = (refl, refl)
no_limits RpcObject none = (refl, refl)
no_limits (ABuffer session bytes) none = (refl, refl)
no_limits (OpenSession session) none = absurd (none-some session (sym none))

-- without a session the limits are the account's and the reserve's
account_alone : (s : OwnState) → ((q : ℕ) → session_named (get s.selectors q) ≡ None) → (ram_limits s ≡ s.account.ram_limit + s.reserve.ram) × (caps_limits s ≡ s.account.caps_limit + s.reserve.caps)
account_alone s none =
    let ram = total_same ram_with (λ _. 0) s.selectors (λ k o there. (no_limits o (ap session_named (sym there) ∙ none k)).0) ∙ total-zero s.selectors in
    let caps = total_same caps_with (λ _. 0) s.selectors (λ k o there. (no_limits o (ap session_named (sym there) ∙ none k)).1) ∙ total-zero s.selectors in
    (omega (arith, ram), omega (arith, caps))

-- a component is gone that had no session, and its init has the limits of its account and of its reserve
pub record IsGoneFrom (i : ℕ) (old new : World) : Type 0 where
  pub none : (q : ℕ) → session_named (get (state_at old.states i).selectors q) ≡ None
  pub stepped : let s = state_at old.states i in let home = (entry_at old.entries i).home in new ≡ record old {
    inits = set old.inits home (raised (init_at old.inits home) (s.account.ram_limit + s.reserve.ram) (s.account.caps_limit + s.reserve.caps));
    states = set old.states i exited_state;
  }

-- where its sessions were closed before, the world is that after its exit
pub gone_world : (i count : ℕ) (old mid new : World) → HasClosedAt i count old mid → IsGoneFrom i mid new → new ≡ with_state old i exited_state
gone_world i count old mid new before goes =
    let was : OwnState = state_at old.states i in
    let s : OwnState = state_at mid.states i in
    let alone = account_alone s goes.none in
    let ram : s.account.ram_limit + s.reserve.ram ≡ ram_limits was = sym alone.0 ∙ before.closed.ram in
    let caps : s.account.caps_limit + s.reserve.caps ≡ caps_limits was = sym alone.1 ∙ before.closed.caps in
    goes.stepped
    ∙ (λ j. let home = (entry_at mid.entries i).home in
    record mid { inits = set mid.inits home (raised (init_at mid.inits home) (ram j) (caps j)); states = set mid.states i exited_state })
    ∙ ap (λ (w : World). let home = (entry_at w.entries i).home in
    record w { inits = set w.inits home (raised (init_at w.inits home) (ram_limits was) (caps_limits was)); states = set w.states i exited_state }) before.others
    ∙ ap (λ states. let home = (entry_at old.entries i).home in
    record old { inits = set old.inits home (raised (init_at old.inits home) (ram_limits was) (caps_limits was)); states = states }) (set-set old.states i s exited_state)
    ∙ sym (world_exited old i)

-- a script that isn't gone may exit
pub exit_outcome : (i : ℕ) (world : World) → (entry_at world.entries i).kind ≡ AScript → (state_at world.states i).gone ≡ false → outcome_at world i Exit ≡ exited
exit_outcome i world script here = exits_done (entry_at world.entries i) (state_at world.states i) script here
