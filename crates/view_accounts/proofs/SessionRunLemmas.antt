-- What is kept of the sessions of a run, one line more.
use Rattle.std.proofs.Common.{arith, ◌≡◌, ℕ, ◌+◌, ◌-◌, ◌^◌, ◌==◌, Bool, true, false, true≢false, cond, eqb-true, List, [], ◌∷◌, ◌++◌, append-nil, is_some, length, length-append, map, min, Option, Some, None, Result, Ok, Err, OnOk, refl, sym, ◌∙◌, ap, subst}
use Rattle.std.proofs.lemmas.Bool.{eqb-false}
use Rattle.trade_base.specs.declared.refusal.Refusal.{Refusal}
use Rattle.own_model.proofs.RunningLemmas.{states_running-at, world_running-push}
use Rattle.own_model.specs.Call.{Call}
use Rattle.own_model.specs.Listed.{Listed, start_list_of}
use Rattle.own_model.specs.OwnState.{OwnState}
use Rattle.own_model.specs.OwnStep.{own_step}
use Rattle.own_model.specs.Reply.{reply_text}
use Rattle.own_model.specs.Reply.Reply.{Selected, Done, Refused}
use Rattle.own_model.specs.Session.{Session}
use Rattle.own_model.specs.StartList.{Entry, entries_of}
use Rattle.own_model.specs.Transcript.{Heard, calls_in, entry_at, heard, own_part, state_at}
use Rattle.own_model.specs.Transcript.Heard.{NoCall, Stranger, Caller}
use Rattle.own_model.specs.World.{World, world_after_line, world_running}
use Rattle.core_calls.specs.Outcome.{IsText}
use Rattle.run_lines.specs.Answer.{answered_reply}
use Rattle.run_lines.specs.declared.line_answer.LineAnswer.{LineAnswer}
use Rattle.run_scenario.specs.Observation.{IsAnsweredAfter}
use Rattle.view_accounts.specs.ClosedByLines.{AreClosed, closed_after, opening_line}
use Rattle.view_accounts.specs.ClosedSessions.{Closes, closed_of}
use Rattle.view_accounts.specs.KeptSessions.{KeepsSession, SeesSessions}
use Rattle.view_accounts.specs.Needs.{own_calls}
use Rattle.view_accounts.specs.Peaks.{Noted, is_open, noted_of, session_at}
use Rattle.view_accounts.specs.SessionHistories.{SessionHistory, history_along, history_of, history_with, reaching}
use Rattle.view_accounts.specs.SessionNeeds.{HearsCall}
use Rattle.view_accounts.specs.SessionTable.{value_at}
use Rattle.view_accounts.specs.declared.session_needs.Ended.{Ended}
use Rattle.view_accounts.specs.declared.session_needs.MeteredSession.{MeteredSession}
use Rattle.view_accounts.specs.declared.session_needs.SessionNeeds.{SessionNeeds}
use Rattle.view_accounts.specs.declared.session_outcome.SessionOutcome.{SessionOutcome}
use Rattle.view_accounts.proofs.ClosedLineLemmas.{are_closed, closed_more, closed_nothing, closed_then, ends_by, open_kept}
use Rattle.view_accounts.proofs.HearLemmas.{begins}
use Rattle.view_accounts.proofs.KeptLemmas.{aside, is_outcome}
use Rattle.view_accounts.proofs.NeedLemmas.{calls_own, own_calls-more, steps_now}
use Rattle.view_accounts.proofs.NotedLemmas.{same_line, this_line}
use Rattle.view_accounts.proofs.SessionHistoryLemmas.{IsActive, Leads, active_along, along_more, changes_aside, led_along, left_kept, observed_kept}
use Rattle.view_accounts.proofs.SessionStepLemmas.{IsOutcome, session_in}

no_session : (o : Option Session) → is_some o ≡ false → o ≡ None
no_session None is = refl
no_session (Some x) is = absurd (true≢false is)

-- ---- the sessions of a run

module _ (start : World) (none : (c q : ℕ) → is_open c q start ≡ false) (calls : List (List ℕ)) (c q : ℕ) where
  abbrev client : Entry
  client = entry_at start.entries c

  abbrev first : OwnState
  first = state_at start.states c

  active_first : IsActive client q first
  active_first has = absurd (true≢false (sym has ∙ none c q))

  -- who has a session isn't turned away
  active_now : IsActive client q (state_at (world_running start calls).states c)
  active_now = subst (IsActive client q) (sym (states_running-at start.entries start.states calls c)) (active_along client q (own_calls start calls c) first active_first)

  -- all that reached a session led to its state
  pub leads_now : Leads (history_of start calls c q) (session_at c q (world_running start calls))
  leads_now =
      led_along client q (own_calls start calls c) first None active_first (sym (no_session (session_at c q start) (none c q)))
      ∙ ap (session_in q) (sym (states_running-at start.entries start.states calls c))

-- ---- one line more

module _ (start : World) (earlier : List (List ℕ)) (line : List ℕ) where
  abbrev before : World
  before = world_running start earlier

  abbrev after : World
  after = world_running start (earlier ++ line ∷ [])

  -- a history without a call more
  history_still : (c q : ℕ) → own_part c (calls_in (heard start.entries line)) ≡ [] → history_of start (earlier ++ line ∷ []) c q ≡ history_of start earlier c q
  history_still c q nothing =
      ap (λ calls. history_along (entry_at start.entries c) q calls (state_at start.states c) None)
      (own_calls-more start earlier line c ∙ ap (λ more. own_calls start earlier c ++ more) nothing ∙ append-nil (own_calls start earlier c))

  -- what is kept of a session that a line leaves
  kept_still : (c q : ℕ) (was is : Option MeteredSession) → (none : (c q : ℕ) → is_open c q start ≡ false) → session_at c q after ≡ session_at c q before → own_part c (calls_in (heard start.entries line)) ≡ [] → is ≡ was →
      KeepsSession (opening_line start earlier c q) (history_of start earlier c q) was → KeepsSession (opening_line start (earlier ++ line ∷ []) c q) (history_of start (earlier ++ line ∷ []) c q) is
  kept_still c q was is none still nothing same keeps =
      subst (λ h. KeepsSession (opening_line start (earlier ++ line ∷ []) c q) h is) (sym (history_still c q nothing))
      (left_kept (opening_line start earlier c q) (opening_line start (earlier ++ line ∷ []) c q) (history_of start earlier c q) was is same
      (λ there. same_line c q start earlier line (ap is_some still ∙ sym (leads_open (history_of start earlier c q) (session_at c q before) (leads_now start none earlier c q)) ∙ there)) keeps)
    where
      leads_open : (history : Option SessionHistory) (now : Option Session) → Leads history now → is_some history ≡ is_some now
      leads_open None now leads = ap is_some leads
      leads_open (Some h) now leads = ap is_some leads

  module _ (component : ℕ) (call : Call) (is_call : heard start.entries line ≡ Caller (record { component = component; call = call })) where
    abbrev s : OwnState
    s = state_at before.states component

    abbrev entry : Entry
    entry = entry_at start.entries component

    step : state_at after.states component ≡ (own_step entry call s).next
    step = steps_now start earlier line component call is_call

    other : (c : ℕ) → (c == component) ≡ false → state_at after.states c ≡ state_at before.states c
    other c apart =
        ap (λ w. state_at w.states c) (world_running-push start earlier line ∙ ap (world_after_line before) is_call)
        ∙ aside before (record { component = component; call = call }) c (eqb-false c component apart)

    no_part : (c : ℕ) → (c == component) ≡ false → own_part c (calls_in (heard start.entries line)) ≡ []
    no_part c apart = ap (λ what. own_part c (calls_in what)) is_call ∙ by (component == c) refl
      where
        by : (b : Bool) → (component == c) ≡ b → cond (component == c) (call ∷ []) [] ≡ []
        by true same = absurd (eqb-false c component apart (sym (eqb-true component c same)))
        by false is = ap (λ b. cond b (call ∷ []) []) is

    -- a history with its call
    history_next : (q : ℕ) → history_of start (earlier ++ line ∷ []) component q ≡ history_with (session_at component q after) (reaching entry q s call) (history_of start earlier component q)
    history_next q =
        ap (λ calls. history_along entry q calls (state_at start.states component) None) (calls_own start earlier line component call is_call)
        ∙ along_more entry q (own_calls start earlier component) call (state_at start.states component) None
        ∙ ap (λ t. history_with (session_in q (own_step entry call t).next) (reaching entry q t call) (history_of start earlier component q)) (sym (states_running-at start.entries start.states earlier component))
        ∙ ap (λ t. history_with (session_in q t) (reaching entry q s call) (history_of start earlier component q)) (sym step)

    module _ (none : (c q : ℕ) → is_open c q start ≡ false) (n : ℕ) (number : n ≡ min (length earlier + 1) (2 ^ 64 - 1)) (outcome : SessionOutcome)
        (states : IsOutcome (own_step entry call s).reply (λ k. session_at component k after) outcome) (was is : ℕ → ℕ → Option MeteredSession)
        (keeps : (c q : ℕ) → KeepsSession (opening_line start earlier c q) (history_of start earlier c q) (was c q))
        (changes : (c q : ℕ) → HearsCall n after component call outcome (reply_text (own_step entry call s).reply) c q (was c q) (is c q)) where
      kept_own : (q : ℕ) → KeepsSession (opening_line start (earlier ++ line ∷ []) component q) (history_of start (earlier ++ line ∷ []) component q) (is component q)
      kept_own q =
          subst (λ h. KeepsSession (opening_line start (earlier ++ line ∷ []) component q) h (is component q)) (sym (history_next q))
          (observed_kept entry component q s after n (opening_line start earlier component q) (opening_line start (earlier ++ line ∷ []) component q) outcome (history_of start earlier component q) (was component q) (is component q)
          call
          (record {
            step = step;
            states = states;
            active = active_now start none earlier component q;
            leads = leads_now start none earlier component q;
            keeps = keeps component q;
            first = λ closed now. this_line component q start earlier line now (ap is_some closed) ∙ sym number;
            same = λ was_there now. same_line component q start earlier line now;
            changes = changes component q;
          }))

      pub kept_next : (c q : ℕ) → KeepsSession (opening_line start (earlier ++ line ∷ []) c q) (history_of start (earlier ++ line ∷ []) c q) (is c q)
      kept_next c q = elim (c == component) as (λ b. (c == component) ≡ b → KeepsSession (opening_line start (earlier ++ line ∷ []) c q) (history_of start (earlier ++ line ∷ []) c q) (is c q)) [
        | true ↦ λ same.
            subst (λ k. KeepsSession (opening_line start (earlier ++ line ∷ []) k q) (history_of start (earlier ++ line ∷ []) k q) (is k q)) (sym (eqb-true c component same)) (kept_own q)
        | false ↦ λ apart.
            kept_still c q (was c q) (is c q) none (ap (session_in q) (other c apart)) (no_part c apart)
            (changes_aside n after component call outcome (reply_text (own_step entry call s).reply) c q (was c q) (is c q) apart (changes c q)) (keeps c q)
      ] refl

-- ---- the sessions that are kept

-- before the first line
pub sees_no_sessions : (listed : Listed) (start : World) (sessions : SessionNeeds) → ((c q : ℕ) → value_at sessions.opened c q ≡ None) → sessions.closed.items ≡ [] → SeesSessions 0 sessions listed start []
sees_no_sessions listed start sessions opened closed = record { counted = omega arith; each = opened; closed = ap closed_of closed }

more_counted : (lines lines' : ℕ) (earlier : List (List ℕ)) (line : List ℕ) → lines ≡ min (length earlier) (2 ^ 64 - 1) → lines' ≡ min (lines + 1) (2 ^ 64 - 1) → lines' ≡ min (length earlier + 1) (2 ^ 64 - 1)
more_counted lines lines' earlier line were are = are ∙ ap (λ k. min (k + 1) (2 ^ 64 - 1)) were ∙ by (length earlier) (2 ^ 64 - 1)
  where
    by : (k most : ℕ) → min (min k most + 1) most ≡ min (k + 1) most
    by k most = omega arith

count_more : (earlier : List (List ℕ)) (line : List ℕ) → min (length earlier + 1) (2 ^ 64 - 1) ≡ min (length (earlier ++ line ∷ [])) (2 ^ 64 - 1)
count_more earlier line = ap (λ k. min k (2 ^ 64 - 1)) (sym (length-append earlier (line ∷ [])))

module _ {start core : World} {earlier : List (List ℕ)} {line : List ℕ} {answer : LineAnswer} (listed : Listed) (entries : core.entries ≡ entries_of (start_list_of listed))
    (told : IsAnsweredAfter start earlier line core answer) (none : (c q : ℕ) → is_open c q start ≡ false) (lines lines' : ℕ) (sessions : SessionNeeds)
    (sees : SeesSessions lines sessions listed start earlier) (counts : lines' ≡ min (lines + 1) (2 ^ 64 - 1)) where
  number : lines' ≡ min (length earlier + 1) (2 ^ 64 - 1)
  number = more_counted lines lines' earlier line sees.counted counts

  -- a line that calls nobody
  pub after_silent : calls_in (heard (entries_of (start_list_of listed)) line) ≡ [] → SeesSessions lines' sessions listed start (earlier ++ line ∷ [])
  after_silent nobody = record {
    counted = number ∙ count_more earlier line;
    each = λ c q.
        kept_still start earlier line c q (value_at sessions.opened c q) (value_at sessions.opened c q) none (ap (session_at c q) same) (ap (own_part c) silent) refl (sees.each c q);
    closed = subst (AreClosed listed start [] (earlier ++ line ∷ [])) (append-nil (closed_of sessions.closed.items))
        (closed_more listed start [] earlier line (closed_of sessions.closed.items) [] sees.closed (closed_nothing listed start earlier line (λ c q. ap (is_open c q) same)));
  }
    where
      silent : calls_in (heard start.entries line) ≡ []
      silent = subst (λ es. calls_in (heard es line) ≡ []) (begins listed entries told) nobody

      by : (what : Heard) → calls_in what ≡ [] → world_after_line (world_running start earlier) what ≡ world_running start earlier
      by NoCall empty = refl
      by (Stranger name) empty = refl
      by (Caller made) empty = absurd (let e : made ∷ [] ≡ [] = empty in cc)

      same : world_running start (earlier ++ line ∷ []) ≡ world_running start earlier
      same = world_running-push start earlier line ∙ by (heard start.entries line) silent

  -- and one that is a component's call
  module _ (component : ℕ) (call : Call) (is_call : heard (entries_of (start_list_of listed)) line ≡ Caller (record { component = component; call = call }))
      (outcome : SessionOutcome) (opened : (selector : ℕ) → IsText answer.outcome (reply_text (Selected selector)) → is_open component selector core ≡ true → outcome.opened ≡ Some selector)
      (done : IsText answer.outcome (reply_text Done) → outcome.is_done ≡ true)
      (refused : (refusal : Refusal) → IsText answer.outcome (reply_text (Refused refusal)) → outcome ≡ record { opened = None; is_done = false })
      (noted : ℕ → Option Noted) (noted_is : (q : ℕ) → noted q ≡ cond (is_open component q (world_running start earlier)) (Some (noted_of listed start earlier component q)) None) where
    here : heard start.entries line ≡ Caller (record { component = component; call = call })
    here = subst (λ es. heard es line ≡ Caller (record { component = component; call = call })) (begins listed entries told) is_call

    replied : answer.reply.now ≡ reply_text (own_step (entry_at start.entries component) call (state_at (world_running start earlier).states component)).reply
    replied = told.answers.reply ∙ ap (λ what. reply_text (answered_reply (world_running start earlier) what)) here

    module _ (new : SessionNeeds) (hears : (c q : ℕ) → HearsCall lines' core component call outcome answer.reply.now c q (value_at sessions.opened c q) (value_at new.opened c q))
        (closes : Closes noted sessions.opened component call outcome.is_done (closed_of sessions.closed.items) (closed_of new.closed.items)) where
      changes : (c q : ℕ) →
          HearsCall lines' (world_running start (earlier ++ line ∷ [])) component call outcome (reply_text (own_step (entry_at start.entries component) call (state_at (world_running start earlier).states component)).reply) c q
          (value_at sessions.opened c q) (value_at new.opened c q)
      changes c q =
          subst (λ world. HearsCall lines' world component call outcome (reply_text (own_step (entry_at start.entries component) call (state_at (world_running start earlier).states component)).reply) c q (value_at sessions.opened c q) (value_at new.opened c q)) told.leaves
          (subst (λ reply. HearsCall lines' core component call outcome reply c q (value_at sessions.opened c q) (value_at new.opened c q)) replied (hears c q))

      each : (c q : ℕ) → KeepsSession (opening_line start (earlier ++ line ∷ []) c q) (history_of start (earlier ++ line ∷ []) c q) (value_at new.opened c q)
      each =
          kept_next start earlier line component call here none lines' number outcome (is_outcome told component call here outcome opened done refused) (value_at sessions.opened) (value_at new.opened) sees.each changes

      was_open : (c q : ℕ) → is_some (value_at sessions.opened c q) ≡ is_open c q (world_running start earlier)
      was_open c q = open_kept (opening_line start earlier c q) (history_of start earlier c q) (value_at sessions.opened c q) (session_at c q (world_running start earlier)) (leads_now start none earlier c q) (sees.each c q)

      now_open : (c q : ℕ) → is_some (value_at new.opened c q) ≡ is_open c q (world_running start (earlier ++ line ∷ []))
      now_open c q =
          open_kept (opening_line start (earlier ++ line ∷ []) c q) (history_of start (earlier ++ line ∷ []) c q) (value_at new.opened c q) (session_at c q (world_running start (earlier ++ line ∷ [])))
          (leads_now start none (earlier ++ line ∷ []) c q) (each c q)

      closed_next : AreClosed listed start [] (earlier ++ line ∷ []) (closed_of new.closed.items)
      closed_next =
          let old_closed = closed_of sessions.closed.items in
          let new_closed = closed_of new.closed.items in
          let was = value_at sessions.opened component in
          let is = value_at new.opened component in
          let ends =
          ends_by lines' (world_running start (earlier ++ line ∷ [])) component outcome (reply_text (own_step (entry_at start.entries component) call (state_at (world_running start earlier).states component)).reply) sessions.opened is noted old_closed new_closed call
          (changes component) closes in
          let others = λ (c q : ℕ) (apart : (c == component) ≡ false). ap (λ t. is_some (session_in q t)) (other start earlier line component call here c apart) in
          let now = map (λ (e : Ended). closed_after listed start earlier component e.selector) ends.ended in
          subst (AreClosed listed start [] (earlier ++ line ∷ [])) (sym (closed_then listed start earlier line component noted was is noted_is (sees.each component) (was_open component) (now_open component) others old_closed new_closed ends))
          (closed_more listed start [] earlier line old_closed now sees.closed
          (are_closed listed start earlier line component noted was is noted_is (sees.each component) (was_open component) (now_open component) others old_closed new_closed ends))

      pub sees_call : SeesSessions lines' new listed start (earlier ++ line ∷ [])
      sees_call = record { counted = number ∙ count_more earlier line; each = each; closed = closed_next }

    pub after_call : {T E : Type 0} (r : Result T E) (new : SessionNeeds) → OnOk r ((c q : ℕ) → HearsCall lines' core component call outcome answer.reply.now c q (value_at sessions.opened c q) (value_at new.opened c q)) →
        OnOk r (Closes noted sessions.opened component call outcome.is_done (closed_of sessions.closed.items) (closed_of new.closed.items)) → OnOk r (SeesSessions lines' new listed start (earlier ++ line ∷ []))
    after_call (Ok result) new hears closes = sees_call new hears closes
    after_call (Err fault) new hears closes = tt
