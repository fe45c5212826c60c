-- The rows that are kept are those after the calls so far.
use Rattle.std.proofs.Common.{◌≡◌, ℕ, ◌<◌, Bool, true, cond, List, [], ◌∷◌, ◌++◌, append-nil, is_some, length, Option, Some, None, IfNone, IfOk, IfSome, Result, refl, sym, ◌∙◌, ap, subst}
use Rattle.std.proofs.lemmas.Result.{IfOk-weaker}
use Rattle.std.specs.declared.alloc.AllocError.{AllocError}
use Rattle.std.specs.Option.{option_map}
use Rattle.own_model.specs.Listed.{Listed, start_list_of}
use Rattle.own_model.specs.Session.{Session}
use Rattle.own_model.specs.StartList.{entries_of}
use Rattle.own_model.specs.Text.{lines_of}
use Rattle.own_model.specs.World.{World, world_running}
use Rattle.line_steps.specs.RunPosition.{RunPosition}
use Rattle.run_lines.specs.LineRuns.{EndsFor}
use Rattle.run_lines.specs.Machine.{world_of}
use Rattle.run_lines.specs.declared.line_run_fault.LineRunFault.{LineRunFault}
use Rattle.run_lines.proofs.AccountLemmas.{entries_listed}
use Rattle.run_scenario.specs.LineSteps.{LineStep, steps_of}
use Rattle.run_scenario.specs.RunCalls.{calls_answered}
use Rattle.run_scenario.specs.ScenarioRuns.{RunsAll, most_lines}
use Rattle.run_scenario.specs.Writes.{steps_on}
use Rattle.run_scenario.specs.declared.scenario_end.ScenarioEnd.{ScenarioEnd}
use Rattle.view_accounts.specs.Accounting.{SeesAccounts, sessions_kept}
use Rattle.view_accounts.specs.ClosedByLines.{opening_line}
use Rattle.view_accounts.specs.Kept.{found}
use Rattle.view_accounts.specs.Needs.{Needed}
use Rattle.view_accounts.specs.Peaks.{Noted, noted_of, session_at}
use Rattle.view_accounts.specs.Rows.{accounts_view}
use Rattle.view_accounts.specs.RunRows.{Measures, ShowsRows, account_row, component_row, entries_in, in_turn, init_row, measures_after, measures_kept, open_row, rows_after, rows_kept, selector_count, session_rows}
use Rattle.view_accounts.specs.SessionHistories.{history_of}
use Rattle.view_accounts.specs.SessionTable.{value_at}
use Rattle.view_accounts.specs.ShownSessions.{ShownAfter, ShowsSessions}
use Rattle.view_accounts.specs.declared.account_rows.AccountRows.{AccountRows}
use Rattle.view_accounts.specs.declared.accounting.Accounting.{Accounting}
use Rattle.view_accounts.proofs.ClosedLineLemmas.{need_kept}
use Rattle.view_accounts.proofs.NeedLemmas.{below_is, running_is}
use Rattle.view_accounts.proofs.RowLemmas.{in_turn-alike}
use Rattle.view_accounts.proofs.SessionRunLemmas.{leads_now}

module _ (observer : Accounting) (listed : Listed) {start : World} {calls : List (List ℕ)} (sees : SeesAccounts observer listed start calls) (entries : start.entries ≡ entries_of (start_list_of listed)) where
  abbrev now : World
  now = world_running start calls

  abbrev kept : Measures
  kept = measures_kept observer listed

  abbrev after : Measures
  after = measures_after (sessions_kept observer) listed start calls

  inside : {component : ℕ} → component < length listed.entries → component < length start.entries
  inside {component} within = subst (λ n. component < n) (sym (entries_listed listed start entries)) within

  open_is : (needed : Needed) (component selector : ℕ) (session : Option Session) (noted : Option Noted) (is : Noted) → noted ≡ cond (is_some session) (Some is) None →
      open_row (entries_in listed) needed component selector (option_map (λ (s : Session). s.account) session) noted
      ≡ open_row (entries_in listed) needed component selector (option_map (λ (s : Session). s.account) session) (Some is)
  open_is needed component selector (Some session) noted is same = ap (open_row (entries_in listed) needed component selector (Some session.account)) same
  open_is needed component selector None noted is same = refl

  sessions_are : (component : ℕ) → component < length listed.entries → in_turn (session_rows listed kept now component) selector_count ≡ in_turn (session_rows listed after now component) selector_count
  sessions_are component within =
      in_turn-alike (session_rows listed kept now component) (session_rows listed after now component) selector_count
      (λ selector less.
      open_is (kept.needs.session component selector) component selector (session_at component selector now) (found observer.peaks.sessions component selector)
      (noted_of listed start calls component selector) (sees.peaks.of_sessions component selector (inside within)))

  component_is : (component : ℕ) → component < length listed.entries → component_row listed kept now component ≡ component_row listed after now component
  component_is component within = λ i. record {
    account = record {
      name = (account_row listed after now component).name;
      account = (account_row listed after now component).account;
      needed = running_is listed sees.needs entries component within i;
      peak = sees.peaks.of_components component (inside within) i;
    };
    reserve = (component_row listed after now component).reserve;
    sessions = sessions_are component within i;
  }

  init_is : init_row kept now ≡ init_row after now
  init_is = λ i. record {
    name = (init_row after now).name;
    account = (init_row after now).account;
    needed = below_is listed sees.needs entries None i;
    peak = sees.peaks.of_init i;
  }

  components_are : in_turn (λ component. component_row listed kept now component ∷ []) (length listed.entries) ≡ in_turn (λ component. component_row listed after now component ∷ []) (length listed.entries)
  components_are =
      in_turn-alike (λ component. component_row listed kept now component ∷ []) (λ component. component_row listed after now component ∷ []) (length listed.entries)
      (λ component less. ap (λ row. row ∷ []) (component_is component less))

  pub rows_are : rows_kept observer listed now ≡ rows_after (sessions_kept observer) listed start calls
  rows_are = λ i. record {
    init = init_is i;
    components = components_are i;
    total = (rows_kept observer listed now).total;
    closed = (rows_kept observer listed now).closed;
  }

-- what was seen of a run that reached its end is so of the calls of its input
module _ {seen : List (List ℕ) → Type 0} {first : RunPosition} {start last : World} {counts : List LineStep → Type 0} {reports : List (List ℕ) → Type 0} {input rest w w' : Option (List ℕ)} {failed : Bool} (played : ScenarioEnd)
    (plays : RunsAll (λ _ _ _. []) true seen counts reports None first played.fault played.lines start last [] input rest failed w w')
    (P : List (List ℕ) → Type 0) (so : (calls : List (List ℕ)) → last ≡ world_running start calls → seen calls → P calls) where
  abbrev steps : List LineStep
  steps = steps_of None start first plays.given

  of_input : seen (calls_answered None steps) → (o : Option (List ℕ)) → EndsFor most_lines None plays.given o rest failed →
      IfSome o (λ text. P (calls_answered None (steps_of None start first (lines_of text))))
  of_input sees (Some text) ends =
      subst (λ lines. P (calls_answered None (steps_of None start first lines))) (sym (ends.1 ∙ ap (λ left. plays.given ++ left) ends.2.0 ∙ append-nil plays.given))
      (so (calls_answered None steps) plays.world sees)
  of_input sees None ends = tt

  by_fault : (fault : Option LineRunFault) → IfNone fault (seen (calls_answered None steps)) → EndsFor most_lines fault plays.given input rest failed →
      IfNone fault (IfSome input (λ text. P (calls_answered None (steps_of None start first (lines_of text)))))
  by_fault None sees ends = of_input sees input ends
  by_fault (Some fault) sees ends = tt

  pub seen_at_end : IfNone played.fault (IfSome input (λ text. P (calls_answered None (steps_of None start first (lines_of text)))))
  seen_at_end = by_fault played.fault plays.sees plays.ends

module _ (observer : Accounting) (listed : Listed) {first : RunPosition} {start last : World} {counts : List LineStep → Type 0} {reports : List (List ℕ) → Type 0} {input rest w w' : Option (List ℕ)} {failed : Bool} (played : ScenarioEnd)
    (plays : RunsAll (λ _ _ _. []) true (SeesAccounts observer listed start) counts reports None first played.fault played.lines start last [] input rest failed w w') where
  pub rows_played : (rows : Result AccountRows AllocError) → start.entries ≡ entries_of (start_list_of listed) →
      IfOk rows (λ shown. accounts_view shown ≡ rows_kept observer listed last) → ShowsRows (sessions_kept observer) listed start (steps_of None start first) played.fault input rows
  rows_played rows entries shows =
      seen_at_end played plays (λ calls. IfOk rows (λ shown. accounts_view shown ≡ rows_after (sessions_kept observer) listed start calls))
      (λ calls leads sees.
      IfOk-weaker rows (λ shown. accounts_view shown ≡ rows_kept observer listed last) (λ shown. accounts_view shown ≡ rows_after (sessions_kept observer) listed start calls)
      (λ shown is. is ∙ ap (rows_kept observer listed) leads ∙ rows_are observer listed sees entries) shows)

  pub sessions_played : ShowsSessions (sessions_kept observer) listed start (steps_of None start first) played.fault input
  sessions_played =
      seen_at_end played plays (ShownAfter (sessions_kept observer) listed start)
      (λ calls leads sees. record {
        led = leads_now start sees.peaks.none_at_start calls;
        needs = λ c q. need_kept (opening_line start calls c q) (history_of start calls c q) (value_at observer.needs.sessions.opened c q) (sees.sessions.each c q);
        closed = sees.sessions.closed;
      })

-- on the machine of the list
pub shows_on : (Shows : World → (List (List ℕ) → List LineStep) → Type 0) (listed : Listed) (first : RunPosition) {start : World} {begun : RunPosition} → start ≡ world_of listed → begun ≡ first →
    Shows start (steps_of None start begun) → Shows (world_of listed) (steps_on None first listed)
shows_on Shows listed first {start = start} starts begins shows =
    subst (λ world. Shows world (steps_of None world first)) starts (subst (λ position. Shows start (steps_of None start position)) begins shows)
