-- An exit in the core: the closes of all sessions, and then the end.
use Rattle.std.proofs.Common.{◌≡◌, ℕ, ◌+◌, ◌<◌, ◌≤◌, false, true, List, Option, None, Some, Ok, Err, is_some, length, get_or, set, refl, sym, ap, subst, ◌∙◌, inl, inr, arith}
use Rattle.std.proofs.lemmas.Bool.{cases_lt}
use Rattle.std.proofs.lemmas.Option.{none-some, same_Some}
use Rattle.std.proofs.lemmas.List.{get_or-map, length-map}
use Rattle.std.specs.FinMap.{get}
use Rattle.std.specs.List.{flat_map}
use Rattle.std.specs.Option.{ok_or, option_map}
use Rattle.std.specs.Prelude.{IsSome, IfSome}
use Rattle.std.specs.Result.{result_ok, result_err}
use Rattle.trade_base.specs.declared.id.SessionId.{SessionId}
use Rattle.trade_base.specs.declared.refusal.Refusal.{Refusal}
use Rattle.trade_base.specs.declared.refusal.Refusal.TheVariants.{Gone as IsGone, InvalidSession, NotAScript}
use Rattle.own_model.specs.Call.Call.{Close, Exit}
use Rattle.own_model.specs.OwnState.{OwnState, session_named}
use Rattle.own_model.specs.OwnStep.{Outcome, own_step, refused}
use Rattle.own_model.specs.Reply.{reply_text, log_text}
use Rattle.own_model.specs.Reply.Reply.{Done, Refused}
use Rattle.own_model.specs.StartList.Kind.{Script as AScriptKind}
use Rattle.own_model.specs.Transcript.{nothing, entry_at, state_at}
use Rattle.own_model.specs.World.{World, with_state}
use Rattle.own_model.proofs.NatMapLemmas.{get-empty}
use Rattle.cap_space.specs.declared.cap.Cap.{Cap}
use Rattle.dataspace_core.specs.Store.{Store, parent_in, ram_limits_in, caps_limits_in}
use Rattle.core_calls.specs.ReplyText.{Told}
use Rattle.pd_core.specs.Answer.{told_alone}
use Rattle.pd_core.specs.Component.{Place, entry_of, kind_of, payer_of, reserve_of, caps_in, caps_of, own_in, own, NamesItsSessions}
use Rattle.pd_core.specs.Core.{Places, roles_of, entries_of, rows_at, sessions_in, world_of, IsCore}
use Rattle.pd_core.specs.Exit.{ClosesBoth, IsScriptRole, places_or_refusal, HasSelectorsTo, HasClosedAt, ClosesTo}
use Rattle.pd_core.specs.Own.{Sessions, own_of}
use Rattle.pd_core.specs.SessionCalls.{AreBelowParents, Goes, named_in}
use Rattle.pd_core.specs.Sessions.{row_session}
use Rattle.pd_core.specs.Sound.{session_at}
use Rattle.pd_core.specs.declared.component.Component.{Component}
use Rattle.pd_core.specs.declared.component.Role.{Role}
use Rattle.pd_core.specs.declared.component.Role.TheVariants.{Script as AScript, Server as AServer, Init as AnInit, Gone as AGone}
use Rattle.pd_core.proofs.CorePlainLemmas.{unlisted}
use Rattle.pd_core.proofs.ExitLemmas.{IsAlone, closes_reserve, world_alone, core_alone, homes_alone, leads_alone, kind_of_script}
use Rattle.pd_core.proofs.ExitWorldLemmas.{closed_at_first, closed_more, gone_world, exit_outcome}
use Rattle.pd_core.proofs.ComponentLemmas.{a_script}
use Rattle.pd_core.proofs.QuotaLemmas.{found_in, session_at_place}
use Rattle.pd_core.proofs.CoreWorldLemmas.{one_of, length-entries, entries_at, refused_goes, role_at}

-- ---- a script as the world sees it

-- it isn't gone
here_of_script : (S : Sessions) (store : Store) (role : Role) → IsScriptRole role → (own_in S store role).gone ≡ false
unfolding own_of
here_of_script S store role is = ap (λ r. (own_in S store r).gone) (a_script role is).1

-- and what is a script that isn't gone makes calls
script_of_state : (S : Sessions) (store : Store) (role : Role) → kind_of role ≡ AScriptKind → (own_in S store role).gone ≡ false → IsScriptRole role
script_of_state S store (AScript script) kind here = refl
script_of_state S store (AServer account host) kind here = absurd (cc)
script_of_state S store (AnInit key) kind here = absurd (cc)
script_of_state S store AGone kind here = absurd (cc)

-- at its place of the world
pub record IsScriptAt (world : World) (i : ℕ) : Type 0 where
  pub kind : (entry_at world.entries i).kind ≡ AScriptKind
  pub here : (state_at world.states i).gone ≡ false

module _ (places : Places) (store : Store) (components : List Component) (i : ℕ) (d : Component) (within : i < length components) where
  abbrev sessions : Sessions
  sessions = sessions_in store (roles_of components)

  kind_at : (entry_at (entries_of places components) i).kind ≡ kind_of (get_or components i d).role
  kind_at = ap (λ e. e.kind) (entries_at places components i d within)

  gone_at : (state_at (world_of places store components).states i).gone ≡ (own sessions store (get_or components i d)).gone
  gone_at = ap (λ (s : OwnState). s.gone) (get_or-map (own sessions store) components i d nothing within)

  script_seen : IsScriptRole (get_or components i d).role → IsScriptAt (world_of places store components) i
  script_seen is = record {
    kind = kind_at ∙ kind_of_script (get_or components i d).role is;
    here = gone_at ∙ here_of_script sessions store (get_or components i d).role is;
  }

  script_by_world : IsScriptAt (world_of places store components) i → IsScriptRole (get_or components i d).role
  script_by_world at = script_of_state sessions store (get_or components i d).role (sym kind_at ∙ at.kind) (sym gone_at ∙ at.here)

-- ---- a selector that names no session

-- none is found
found_none : (S : Sessions) (role : Role) (q : ℕ) → session_at (get (caps_in role) q) ≡ None → found_in S (named_in role q) ≡ None
found_none S (AScript script) q none = ap (λ o. found_in S (ok_or o InvalidSession)) none
found_none S (AServer account host) q none = refl
found_none S (AnInit key) q none = refl
found_none S AGone q none = refl

-- where each that is named is open, one that isn't found isn't named
unnamed : (S : Sessions) (o : Option (ℕ × SessionId)) → ((named : ℕ × SessionId) → o ≡ Some named → IsSome (S named.0 named.1.0)) → found_in S (ok_or o InvalidSession) ≡ None → o ≡ None
unnamed S None opens none = refl
unnamed S (Some named) opens none = absurd (let no : false ≡ true = ap is_some (sym none) ∙ opens named refl in cc)

none_found : (S : Sessions) (role : Role) (q : ℕ) → ((named : ℕ × SessionId) → session_at (get (caps_in role) q) ≡ Some named → IsSome (S named.0 named.1.0)) → found_in S (named_in role q) ≡ None → session_at (get (caps_in role) q) ≡ None
none_found S (AScript script) q opens none = unnamed S (session_at (get script.caps.caps q)) opens none
none_found S (AServer account host) q opens none = ap session_at (get-empty q)
none_found S (AnInit key) q opens none = ap session_at (get-empty q)
none_found S AGone q opens none = ap session_at (get-empty q)

module _ (places : Places) {store : Store} (components : List Component) {i : ℕ} (d : Component) (core : IsCore store components) (here : i < length components) (q : ℕ) where
  -- in the world
  none_seen : session_at (get (caps_of (get_or components i d)) q) ≡ None → session_named (get (state_at (world_of places store components).states i).selectors q) ≡ None
  none_seen none = session_at_place places store components i d q here ∙ found_none (sessions_in store (roles_of components)) (get_or components i d).role q none

  none_by_world : session_named (get (state_at (world_of places store components).states i).selectors q) ≡ None → session_at (get (caps_of (get_or components i d)) q) ≡ None
  none_by_world none =
      let S = sessions_in store (roles_of components) in
      let its = subst (NamesItsSessions (rows_at store (roles_of components))) (role_at components i d here) (core.named i) in
      none_found S (get_or components i d).role q (λ named is. ap is_some (ap (option_map (row_session named.0)) (its.its q named.0 named.1 is).there))
      (sym (session_at_place places store components i d q here) ∙ none)

-- a selector behind the places names none
none_behind : (o : Option Cap) (q count : ℕ) → (IsSome o → (1 ≤ q) × (q ≤ count)) → ((1 ≤ q) × (q ≤ count) → ⊥) → session_at o ≡ None
none_behind None q count within behind = refl
none_behind (Some cap) q count within behind = absurd (behind (within refl))

-- ---- all closes

-- none at first
pub closes_at_first : {i : ℕ} {store : Store} {components : List Component} → IsCore store components → ClosesTo i 0 store components store components
closes_at_first {i} {store} {components} core =
    record { closed = λ places. closed_at_first i (world_of places store components); core = core; homes = λ places at. at; leads = λ places leads agrees. agrees }

-- the components are as many
closes_many : (i count : ℕ) (old mid : Store) (before between : List Component) → ((places : Places) → HasClosedAt i count (world_of places old before) (world_of places mid between)) → length between ≡ length before
closes_many i count old mid before between closed =
    let none : Places = λ _. unlisted in
    sym (length-entries none between) ∙ ap (λ (w : World). length w.entries) (closed none).others ∙ length-entries none before

-- and one more by each close
pub closes_on : {i count : ℕ} {old mid new : Store} {before between after : List Component} {reply : Told} (q : ℕ) → i < length before → ((d : Component) → IsScriptRole (get_or before i d).role) →
    ClosesTo i count old before mid between → q ≡ count + 1 → ((places : Places) → Goes places (Close q) i reply mid between new after) → ClosesTo i (count + 1) old before new after
closes_on {i} {count} {old} {mid} {new} {before} {between} {after} q here script closes is goes = record {
  closed = λ places.
      let d = one_of before i here in
      let seen = script_seen places old before i d here (script d) in
      closed_more i q count (world_of places old before) (world_of places mid between) (world_of places new after) (closes.closed places) is seen.kind seen.here
      (omega (arith, here, length-map before (own (sessions_in old (roles_of before)) old))) (goes places).answers.stepped;
  core = (goes (λ _. unlisted)).core;
  homes = λ places at. (goes places).homes places (closes.homes places at);
  leads = λ places leads agrees. (goes places).leads places leads (closes.leads places leads agrees);
}

-- ---- after them

-- who has places is a script
script_with_places : (role : Role) (places : ℕ) → places_or_refusal role ≡ Ok places → IsScriptRole role
script_with_places (AScript script) places is = refl
script_with_places (AServer account host) places is = absurd (none-some places (ap result_ok is))
script_with_places (AnInit key) places is = absurd (none-some places (ap result_ok is))
script_with_places AGone places is = absurd (none-some places (ap result_ok is))

module _ {i count : ℕ} {old mid : Store} {before between : List Component} (d e : Component) (was_core : IsCore old before) (here : i < length before)
    (told : Ok count ≡ places_or_refusal (get_or before i d).role) (selectors : HasSelectorsTo count (get_or before i d).role) (closes : ClosesTo i count old before mid between) where
  still_here : i < length between
  still_here = omega (arith, here, closes_many i count old mid before between closes.closed)

  no_places : Places
  no_places = λ _. unlisted

  script_before : (places : Places) → IsScriptAt (world_of places old before) i
  script_before places = script_seen places old before i d here (script_with_places (get_or before i d).role count (sym told))

  -- it is a script still
  script_after : IsScriptRole (get_or between i e).role
  script_after =
      let at = script_before no_places in
      let goes = closes.closed no_places in
      script_by_world no_places mid between i e still_here (record {
        kind = ap (λ (w : World). (entry_at w.entries i).kind) goes.others ∙ at.kind;
        here = goes.closed.here ∙ at.here;
      })

  -- without a session
  none_after : (q : ℕ) → session_at (get (caps_of (get_or between i e)) q) ≡ None
  none_after q =
      let goes = (closes.closed no_places).closed in
      let none = none_by_world no_places between e closes.core still_here q in
      let behind : ((1 ≤ q) × (q ≤ count) → ⊥) → session_at (get (caps_of (get_or between i e)) q) ≡ None = λ out.
      none (goes.no_more q (none_seen no_places before d was_core here q (none_behind (get (caps_of (get_or before i d)) q) q count (selectors q) out))) in
      elim (cases_lt 0 q) [
        | inr past ↦ behind (λ h. omega (arith, h.0, past))
        | inl some ↦ elim (cases_lt count q) [
          | inl past ↦ behind (λ h. omega (arith, h.1, past))
          | inr within ↦ none (goes.none q some within)
        ]
      ]

  pub alone_after : IsAlone mid between i e
  alone_after = record { core = closes.core; here = still_here; is_script = script_after; none = none_after }

  -- its end is the model's exit
  pub exit_goes : {new : Store} {ended : Component} → ended ≡ record (get_or between i e) { role = AGone } → IfSome (reserve_of (get_or between i e)) (λ one. ClosesBoth (payer_of (get_or between i e)) one (parent_in mid (payer_of (get_or between i e))) mid new) →
      ram_limits_in new ≡ ram_limits_in mid → caps_limits_in new ≡ caps_limits_in mid → (places : Places) → AreBelowParents places old before →
      Goes places Exit i (told_alone (reply_text Done)) old before new (set between i ended)
  exit_goes {new} gone ends ram caps places at_home =
      subst (λ c. Goes places Exit i (told_alone (reply_text Done)) old before new (set between i c)) (sym gone) (
      let first : World = world_of places old before in
      let seen = script_before places in
      let outcome = exit_outcome i first seen.kind seen.here in
      record {
        answers = record {
          answered = ap (λ (o : Outcome). reply_text o.reply) (sym outcome);
          lines = ap (λ (o : Outcome). flat_map log_text o.lines) (sym outcome);
          stepped = gone_world i count first (world_of places mid between) (world_of places new (set between i (record (get_or between i e) { role = AGone }))) (closes.closed places)
              (record { none = λ q. none_seen places between e closes.core still_here q (none_after q); stepped = world_alone alone_after (closes_reserve alone_after new ends) ram caps places (closes.homes places at_home) })
              ∙ ap (λ (o : Outcome). with_state first i o.next) (sym outcome);
        };
        core = core_alone alone_after (closes_reserve alone_after new ends) ram caps;
        homes = λ all at. homes_alone alone_after (closes_reserve alone_after new ends) ram caps all (closes.homes all at);
        leads = λ all leads agrees. leads_alone alone_after (closes_reserve alone_after new ends) ram caps all leads (closes.leads all leads agrees);
      })

-- ---- an exit that is refused

exit_refused : (S : Sessions) (store : Store) (place : Place) (component : Component) (role : Role) (refusal : Refusal) → places_or_refusal role ≡ Err refusal →
    own_step (entry_of place (record component { role = role })) Exit (own_in S store role) ≡ refused (own_in S store role) refusal
exit_refused S store place component (AScript script) refusal is = absurd (none-some refusal (ap result_err is))
exit_refused S store place component (AServer account host) refusal is = ap (refused (own_in S store (AServer account host))) (same_Some NotAScript refusal (ap result_err is))
exit_refused S store place component (AnInit account) refusal is = ap (refused (own_in S store (AnInit account))) (same_Some NotAScript refusal (ap result_err is))
exit_refused S store place component AGone refusal is = ap (refused (own_in S store AGone)) (same_Some IsGone refusal (ap result_err is))

-- leaves all
pub exit_refused_goes : (places : Places) {store : Store} (components : List Component) {i : ℕ} (d : Component) → IsCore store components → i < length components →
    (refusal : Refusal) → Err refusal ≡ places_or_refusal (get_or components i d).role → Goes places Exit i (told_alone (reply_text (Refused refusal))) store components store components
exit_refused_goes places {store} components {i} d core here refusal is =
    refused_goes places components i d Exit refusal core here
    (exit_refused (sessions_in store (roles_of components)) store (places i) (get_or components i d) (get_or components i d).role refusal (sym is))
