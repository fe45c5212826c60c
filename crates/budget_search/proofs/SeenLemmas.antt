-- Sessions are the same for lines that are the same except for what is set for them.
use Rattle.std.proofs.Common.{◌≡◌, ℕ, ◌+◌, Bool, List, [], ◌∷◌, inl, inr, get_or, drop, refl, sym, ap, subst, ◌∙◌}
use Rattle.std.proofs.lemmas.Option.{slice_get-map}
use Rattle.std.specs.Prelude.{map, slice_get, Option, Some, None}
use Rattle.std.specs.Option.{option_map, option_map_or}
use Rattle.std.specs.List.{AllByRecursion}
use Rattle.own_model.specs.Amounts.{Amounts}
use Rattle.own_model.specs.Call.{Call}
use Rattle.own_model.specs.Listed.{Listed}
use Rattle.own_model.specs.OwnState.{OwnState}
use Rattle.own_model.specs.Session.{Session, too_small}
use Rattle.own_model.specs.StartList.{Entry}
use Rattle.budget_theorems.specs.Need.{budgeted}
use Rattle.budget_theorems.specs.Request.{donating}
use Rattle.budget_meter.specs.SessionRuns.{Sent, opened_in_want}
use Rattle.budget_search.specs.Alike.{own_entry, own_state}
use Rattle.budget_search.specs.BudgetIntervals.{lowest_of, safe_of, HasRunLines}
use Rattle.budget_search.specs.OpenedSessions.{opened_by, opened_with, sends, sent_at, sent_by, suffices_of, AreExactOf}
use Rattle.budget_search.specs.ReachedSessions.{Followed, Reach, ReachBy, Reached, Sessions}
use Rattle.budget_search.specs.SessionAccounts.{most_for, AreCounted, AreSessionAccounts, IsAccountOf}
use Rattle.budget_search.specs.OwnLines.{lines_as, lines_as_written, lines_from, lines_with}
use Rattle.budget_search.specs.SessionLines.{LinesAfter, lines_at, lines_calling, lines_opening, lines_step, session_lines}
use Rattle.budget_search.specs.Steps.{Mark, call_of, call_said, call_written, mark_of, number_at, with_args}
use Rattle.budget_search.specs.Sufficient.{HasLeast, HasSafe}
use Rattle.budget_search.specs.declared.account_budgets.AccountBudgets.{AccountBudgets}
use Rattle.budget_search.specs.declared.account_budgets.SessionKey.{SessionKey}
use Rattle.budget_search.specs.declared.component_line.ComponentLine.{ComponentLine}

-- a line without what is set for it
pub record Seen : Type 0 where
  pub mark : Mark
  pub text : List ℕ

abbrev pub seen : ComponentLine → Seen
seen step = record { mark = mark_of step; text = step.line.items }

-- ---- the run

go_on : (left_out : Bool) (said : Option Call) (place : ℕ) (rest more : Followed → Type 0) (old : Followed) (end : Sessions) → ((next : Followed) → rest next → more next) →
    ReachBy left_out said place rest old end → ReachBy left_out said place more old end
go_on left_out None place rest more old end follows is = follows old is
go_on left_out (Some call) place rest more old end follows (inl ends) = inl ends
go_on left_out (Some call) place rest more old end follows (inr on) = inr (on.0, (on.1.0, (on.1.1.0, follows on.1.0 on.1.1.1)))

first_seen : (one other : ComponentLine) (steps others : List ComponentLine) → map seen (one ∷ steps) ≡ map seen (other ∷ others) → seen one ≡ seen other
first_seen one other steps others same = ap (λ lines. get_or lines 0 (seen one)) same

reach_still : (steps others : List ComponentLine) → map seen steps ≡ map seen others → (place : ℕ) (old : Followed) (end : Sessions) → Reach steps place old end → Reach others place old end
reach_still [] [] same place old end reach = reach
reach_still [] (other ∷ others) same place old end reach = absurd (cc)
reach_still (one ∷ steps) [] same place old end reach = absurd (cc)
reach_still (one ∷ steps) (other ∷ others) same place old end reach =
    subst (λ (line : Seen). ReachBy line.mark.left_out (call_said line.text) place (λ next. Reach others (place + 1) next end) old end) (first_seen one other steps others same)
    (go_on one.is_left_out (call_said one.line.items) place (λ next. Reach steps (place + 1) next end) (λ next. Reach others (place + 1) next end) old end
    (λ next. reach_still steps others (ap (drop 1) same) (place + 1) next end) reach)

-- ---- what is at a place

abbrev sent_seen : Option Seen → List Sent → List Sent
sent_seen None rest = rest
sent_seen (Some line) rest = sends line.mark.left_out (call_said line.text) rest

sent_by_seen : (step : Option ComponentLine) (rest : List Sent) → sent_by step rest ≡ sent_seen (option_map seen step) rest
sent_by_seen None rest = refl
sent_by_seen (Some step) rest = refl

abbrev opened_seen : Entry → Option Seen → Option Session
opened_seen entry None = None
opened_seen entry (Some line) = opened_by entry (call_said line.text)

opened_with_seen : (entry : Entry) (step : Option ComponentLine) → opened_with entry step ≡ opened_seen entry (option_map seen step)
opened_with_seen entry None = refl
opened_with_seen entry (Some step) = refl

abbrev lines_seen : Amounts → Option Seen → LinesAfter → LinesAfter
lines_seen donation None rest = rest
lines_seen donation (Some line) rest = lines_calling donation line.mark (call_said line.text) rest

lines_step_seen : (donation : Amounts) (step : Option ComponentLine) (rest : LinesAfter) → lines_step donation step rest ≡ lines_seen donation (option_map seen step) rest
lines_step_seen donation None rest = refl
lines_step_seen donation (Some step) rest = refl

number_seen : (step : Option ComponentLine) → option_map_or (λ (line : ComponentLine). line.number) step 0 ≡ option_map_or (λ (line : Seen). line.mark.number) (option_map seen step) 0
number_seen None = refl
number_seen (Some step) = refl

module _ (steps others : List ComponentLine) (same : map seen steps ≡ map seen others) where
  at : (place : ℕ) → option_map seen (slice_get steps place) ≡ option_map seen (slice_get others place)
  at place = sym (slice_get-map seen steps place) ∙ ap (λ lines. slice_get lines place) same ∙ slice_get-map seen others place

  number_same : (place : ℕ) → number_at steps place ≡ number_at others place
  number_same place = number_seen (slice_get steps place) ∙ ap (λ o. option_map_or (λ (line : Seen). line.mark.number) o 0) (at place) ∙ sym (number_seen (slice_get others place))

  opened_same : (entry : Entry) (place : ℕ) → opened_with entry (slice_get steps place) ≡ opened_with entry (slice_get others place)
  opened_same entry place = opened_with_seen entry (slice_get steps place) ∙ ap (opened_seen entry) (at place) ∙ sym (opened_with_seen entry (slice_get others place))

  sent_same : (places : List ℕ) → sent_at steps places ≡ sent_at others places
  sent_same [] = refl
  sent_same (place ∷ places) =
      sent_by_seen (slice_get steps place) (sent_at steps places) ∙ (λ i. sent_seen (at place i) (sent_same places i)) ∙ sym (sent_by_seen (slice_get others place) (sent_at others places))

  lines_same : (donation : Amounts) (places : List ℕ) → lines_at donation steps places ≡ lines_at donation others places
  lines_same donation [] = refl
  lines_same donation (place ∷ places) =
      lines_step_seen donation (slice_get steps place) (lines_at donation steps places)
      ∙ (λ i. lines_seen donation (at place i) (lines_same donation places i))
      ∙ sym (lines_step_seen donation (slice_get others place) (lines_at donation others places))

  session_same : (one : Reached) (session : Session) → session_lines steps one.opening one.places session ≡ session_lines others one.opening one.places session
  session_same one session = λ i donation.
      lines_opening (number_same one.opening i) (too_small donation.ram donation.caps) (lines_same donation one.places i None (donating donation session))

  -- ---- accounts

  account_still : (list : Listed) (component : ℕ) (one : Reached) (account : AccountBudgets) → IsAccountOf list component steps one account → IsAccountOf list component others one account
  account_still list component one account is =
      let sent = sent_same one.places in
      let most = most_for list component one in
      record {
        same = is.same;
        key = is.key ∙ ap (λ n. Some (key_of n)) (number_same one.opening);
        count = is.count;
        given = is.given;
        reserve = is.reserve;
        session = is.session;
        opens = sym (opened_same (own_entry list component) one.opening) ∙ is.opens;
        refused = is.refused ∙ ap (λ s. opened_in_want s is.session one.donation) sent;
        exact = subst (λ s. AreExactOf s is.session most.caps most.ram account.found.rows.items) sent is.exact;
        least = subst (λ s. HasLeast (suffices_of s is.session) most (lowest_of account.found.rows.items)) sent is.least;
        safe = subst (λ s. HasSafe (suffices_of s is.session) most (safe_of account.found.rows.items)) sent is.safe;
        line = is.line ∙ ap (λ lines. (lines one.donation).refused) (session_same one is.session);
        lines = subst (λ lines. HasRunLines lines most account.found) (session_same one is.session) is.lines;
      }
    where
      key_of : ℕ → SessionKey
      key_of n = record { selector = one.selector; line = n }

  counted_still : (list : Listed) (component : ℕ) (opened : List Reached) (old new : List AccountBudgets) → AreCounted list component steps opened old new →
      AreCounted list component others opened old new
  counted_still list component [] old new are = are
  counted_still list component (one ∷ opened) old new are =
      (are.0, (account_still list component one are.0 are.1.0, (are.1.1.0, (are.1.1.1.0, counted_still list component opened are.1.1.0 new are.1.1.1.1))))

-- the accounts are those of the other lines too
pub accounts_still : (list : Listed) (component : ℕ) (steps others : List ComponentLine) → map seen steps ≡ map seen others → (accounts : List AccountBudgets) →
    AreSessionAccounts list component steps accounts → AreSessionAccounts list component others accounts
accounts_still list component steps others same accounts are = record {
  opened = are.opened;
  opened_are = record {
    machine = are.opened_are.machine;
    ample = are.opened_are.ample;
    end = are.opened_are.end;
    reach = reach_still steps others same 0 _ are.opened_are.end are.opened_are.reach;
    these = are.opened_are.these;
  };
  counted = counted_still steps others same list component are.opened [] accounts are.counted;
}

-- ---- what a script's own run shows of its lines, as the scenario writes them

written_seen : (entry : Entry) (budget : Amounts) (steps others : List ComponentLine) → map seen steps ≡ map seen others → (s : OwnState) →
    lines_as call_written entry budget steps s ≡ lines_as call_written entry budget others s
written_seen entry budget [] [] same s = refl
written_seen entry budget [] (other ∷ others) same s = absurd (cc)
written_seen entry budget (one ∷ steps) [] same s = absurd (cc)
written_seen entry budget (one ∷ steps) (other ∷ others) same s = λ i.
    (λ (line : Seen). lines_with entry budget line.mark (call_said line.text) (λ next. written_seen entry budget steps others (ap (drop 1) same) next i) s)
    (first_seen one other steps others same i)

pub written_still : (list : Listed) (component : ℕ) (steps others : List ComponentLine) → map seen steps ≡ map seen others → (budget : Amounts) →
    lines_as_written list component steps budget ≡ lines_as_written list component others budget
written_still list component steps others same budget = written_seen (own_entry list component) budget steps others same (budgeted budget (own_state list component))

-- lines with no other arguments make the calls that are written
said_same : (said : Option Call) → option_map (with_args None) said ≡ said
said_same None = refl
said_same (Some call) = refl

unset_call : (step : ComponentLine) → step.args ≡ None → call_of step ≡ call_written step
unset_call step none = ap (λ args. option_map (with_args (option_map (λ a. a.items) args)) (call_said step.line.items)) none ∙ said_same (call_said step.line.items)

unset_lines : (entry : Entry) (budget : Amounts) (steps : List ComponentLine) → AllByRecursion (λ step. step.args ≡ None) steps → (s : OwnState) →
    lines_as call_of entry budget steps s ≡ lines_as call_written entry budget steps s
unset_lines entry budget [] unset s = refl
unset_lines entry budget (step ∷ steps) unset s = λ i.
    lines_with entry budget (mark_of step) (unset_call step unset.0 i) (λ next. unset_lines entry budget steps unset.1 next i) s

pub as_written : (list : Listed) (component : ℕ) (steps : List ComponentLine) → AllByRecursion (λ step. step.args ≡ None) steps → (budget : Amounts) →
    lines_from list component steps budget ≡ lines_as_written list component steps budget
as_written list component steps unset budget = unset_lines (own_entry list component) budget steps unset (budgeted budget (own_state list component))
