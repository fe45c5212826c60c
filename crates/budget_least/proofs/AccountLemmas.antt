-- Accounts component by component, while inits get what their lists need.
use Rattle.std.proofs.Common.{arith, ◌≡◌, ℕ, zero, suc, ◌+◌, true, false, List, [], ◌∷◌, ◌++◌, length, nat_eq, refl, sym, ap, subst, ◌∙◌}
use Rattle.std.proofs.lemmas.Bool.Decides.{nat_tests}
use Rattle.std.proofs.lemmas.Option.{slice_get-map}
use Rattle.std.specs.Prelude.{if◌then◌else◌, map, Option, Some, None, Vec}
use Rattle.std.specs.List.{slice_get, AllByRecursion}
use Rattle.std.specs.Option.{option_map, option_map_or, unwrap_or}
use Rattle.own_model.specs.Amounts.{Amounts}
use Rattle.own_model.specs.Listed.{Binary, Listed, ListedEntry, kind_of}
use Rattle.own_model.specs.Listed.Binary.{Script as AScript, Server as AServer, Init as AnInit}
use Rattle.own_model.specs.StartList.{Kind}
use Rattle.own_model.specs.StartList.Kind.{Script, Server, Init}
use Rattle.list_parser.specs.Depth.{is_init, runs_init}
use Rattle.budget_meter.specs.Needs.{amounts_of}
use Rattle.budget_least.proofs.SessionLemmas.{own_none, same_sessions}
use Rattle.budget_search.proofs.AlikeLemmas.{entry_named}
use Rattle.budget_search.proofs.CountLemmas.{accounts_own}
use Rattle.budget_search.proofs.SeenLemmas.{Seen, seen, accounts_still, written_still}
use Rattle.budget_search.specs.AccountNeeds.{need_rows, IsChanged, IsIdle}
use Rattle.budget_search.specs.Alike.{given_in, most_in, own_entry}
use Rattle.budget_search.specs.BudgetIntervals.{gaps_after, left_out_at, lowest_of, safe_of}
use Rattle.budget_search.specs.Own.{suffices_with, AreExact}
use Rattle.budget_search.specs.OwnLines.{lines_from}
use Rattle.budget_search.specs.RunLines.{RunLines}
use Rattle.budget_search.specs.Sufficient.{HasLeast, HasSafe}
use Rattle.budget_search.specs.declared.account_budgets.AccountBudgets.{AccountBudgets}
use Rattle.budget_search.specs.declared.component_line.ComponentLine.{ComponentLine}
use Rattle.budget_search.specs.declared.script_search.ScriptSessions.{ScriptSessions}
use Rattle.budget_least.specs.ComponentAccounts.{steps_at, AreAccounts, AreAccountsOf, AreSessionsFrom, AreSessionsOf, IsMeasured, IsOwnOf, IsSessionsOf}
use Rattle.budget_least.specs.ComponentLines.{lines_of, AreAllWritten, AreWritten, ReadLine}
use Rattle.budget_least.specs.InitNeeds.{is_init_at, AreChanged}
use Rattle.budget_least.specs.LineDonations.{sessions_in}

-- ---- sessions of one component more

pub one_more : {Z : Type 0} (list : Listed) (steps : List (Vec ComponentLine Z)) (first : ℕ) (scripts : List (Option ScriptSessions)) (script : Option ScriptSessions) →
    AreSessionsFrom list steps first scripts → IsSessionsOf list (first + length scripts) (steps_at steps (first + length scripts)) script →
    AreSessionsFrom list steps first (scripts ++ script ∷ [])
one_more list steps first [] script are is =
    let none : first + 0 ≡ first = omega arith in
    (subst (λ n. IsSessionsOf list n (steps_at steps n) script) none is, tt)
one_more list steps first (one ∷ scripts) script are is =
    let next : first + length (one ∷ scripts) ≡ suc first + length scripts = omega arith in
    (are.0, one_more list steps (suc first) scripts script are.1 (subst (λ n. IsSessionsOf list n (steps_at steps n) script) next is))

-- ---- lines that donate otherwise

abbrev seen_back : ReadLine → Seen
seen_back line = record { mark = line.mark; text = line.text }

seen_lines : (steps : List ComponentLine) → map seen steps ≡ map seen_back (lines_of steps)
seen_lines [] = refl
seen_lines (step ∷ steps) = ap (λ lines. seen step ∷ lines) (seen_lines steps)

read_at : {Z : Type 0} (steps : List (Vec ComponentLine Z)) (component : ℕ) →
    lines_of (steps_at steps component) ≡ unwrap_or (slice_get (map (λ (lines : Vec ComponentLine Z). lines_of lines.items) steps) component) []
read_at {Z} steps component =
    of_option (slice_get steps component) ∙ ap (λ o. unwrap_or o []) (sym (slice_get-map (λ (lines : Vec ComponentLine Z). lines_of lines.items) steps component))
  where
    of_option : (o : Option (Vec ComponentLine Z)) →
        lines_of (unwrap_or (option_map (λ (lines : Vec ComponentLine Z). lines.items) o) []) ≡ unwrap_or (option_map (λ (lines : Vec ComponentLine Z). lines_of lines.items) o) []
    of_option None = refl
    of_option (Some lines) = refl

-- the same lines in all else open the same sessions
module _ {Z : Type 0} (list : Listed) (olds news : List (Vec ComponentLine Z))
    (same : map (λ (lines : Vec ComponentLine Z). lines_of lines.items) news ≡ map (λ (lines : Vec ComponentLine Z). lines_of lines.items) olds) where
  seen_at : (component : ℕ) → map seen (steps_at olds component) ≡ map seen (steps_at news component)
  seen_at component =
      seen_lines (steps_at olds component)
      ∙ ap (map seen_back) (read_at olds component ∙ ap (λ lines. unwrap_or (slice_get lines component) []) (sym same) ∙ sym (read_at news component))
      ∙ sym (seen_lines (steps_at news component))

  session_still : (component : ℕ) (script : Option ScriptSessions) → IsSessionsOf list component (steps_at olds component) script →
      IsSessionsOf list component (steps_at news component) script
  session_still component None is = is
  session_still component (Some found) is = record {
    script = is.script;
    accounts = accounts_still list component (steps_at olds component) (steps_at news component) (seen_at component) found.accounts.items is.accounts;
    refused =
        is.refused
        ∙ ap (λ (lines : RunLines). lines.refused) (written_still list component (steps_at olds component) (steps_at news component) (seen_at component) (given_in list component));
  }

  pub sessions_still : (component : ℕ) (scripts : List (Option ScriptSessions)) → AreSessionsFrom list olds component scripts → AreSessionsFrom list news component scripts
  sessions_still component [] are = tt
  sessions_still component (script ∷ scripts) are = (session_still component script are.0, sessions_still (suc component) scripts are.1)

-- ---- an init is no script

starter : (binary : Binary) → runs_init binary ≡ true → kind_of binary ≡ Script → ⊥
starter AScript init is = absurd (cc)
starter (AServer service offer) init is = absurd (cc)
starter AnInit init is = absurd (cc)

told_false : true ≡ false → ⊥
told_false is = absurd (cc)

starter_at : (list : Listed) (place : ℕ) (entry : Option ListedEntry) → slice_get list.entries place ≡ entry → option_map_or is_init entry false ≡ true →
    (own_entry list place).kind ≡ Script → ⊥
starter_at list place None found init is = told_false (sym init)
starter_at list place (Some entry) found init is =
    starter entry.binary init (sym (ap (λ e. e.kind) (entry_named list place entry found)) ∙ is)

no_script : (list : Listed) (place : ℕ) → is_init_at list place ≡ true → (own_entry list place).kind ≡ Script → ⊥
no_script list place init is = starter_at list place (slice_get list.entries place) refl init is

-- ---- accounts that come from two lists

record Split (place : ℕ) (need : Option Amounts) (firsts rest news : List AccountBudgets) : Type 0 where
  front : List AccountBudgets
  back : List AccountBudgets
  these : news ≡ front ++ back
  front_are : AreChanged place need firsts front
  back_are : AreChanged place need rest back

split_in : (place : ℕ) (need : Option Amounts) (firsts rest news : List AccountBudgets) → AreChanged place need (firsts ++ rest) news → Split place need firsts rest news
split_in place need [] rest news are = record { front = []; back = news; these = refl; front_are = tt; back_are = are }
split_in place need (old ∷ firsts) rest [] are = absurd are
split_in place need (old ∷ firsts) rest (new ∷ news) are =
    let more : Split place need firsts rest news = split_in place need firsts rest news are.1 in
    record {
      front = new ∷ more.front;
      back = more.back;
      these = ap (λ l. new ∷ l) more.these;
      front_are = (are.0, more.front_are);
      back_are = more.back_are;
    }

-- ---- accounts of one component, while those of an init change

module _ (list : Listed) (place : ℕ) (need : Option Amounts) (starts : is_init_at list place ≡ true) where
  measured_kept : (component : ℕ) (steps : List ComponentLine) (old new : AccountBudgets) → IsChanged place need old new → new.found.rows.items ≡ old.found.rows.items →
      IsMeasured list component steps old → IsMeasured list component steps new
  measured_kept component steps old new kept rows is = record {
    reserve = ap amounts_of kept.reserve ∙ is.reserve;
    refused = ap (λ g. g.refused) kept.given ∙ is.refused;
    exact = subst (λ r. AreExact list component steps (most_in list component).caps (most_in list component).ram r) (sym rows) is.exact;
    least = subst (λ r. HasLeast (suffices_with list component steps) (most_in list component) (lowest_of r)) (sym rows) is.least;
    safe = subst (λ r. HasSafe (suffices_with list component steps) (most_in list component) (safe_of r)) (sym rows) is.safe;
    lines = record {
      highest = kept.refused ∙ is.lines.highest;
      gaps = kept.gaps ∙ is.lines.gaps ∙ ap (gaps_after (lines_from list component steps) (most_in list component).caps None) (sym rows);
      left_out =
          kept.left_out ∙ is.lines.left_out ∙ ap (λ r. left_out_at (lines_from list component steps) (most_in list component).caps (lowest_of r)) (sym rows);
    };
  }

  idle_kept : (component : ℕ) (given : Amounts) (old new : AccountBudgets) → IsChanged place need old new → new.found.rows.items ≡ old.found.rows.items →
      IsIdle component given old → IsIdle component given new
  idle_kept component given old new is rows idle = record {
    same = is.same ∙ idle.same;
    own = is.session ∙ idle.own;
    count = is.count ∙ idle.count;
    given_is = ap (λ g. amounts_of g.budget) is.given ∙ idle.given_is;
    accepted = ap (λ g. g.refused) is.given ∙ idle.accepted;
    reserve = ap amounts_of is.reserve ∙ idle.reserve;
    rows = rows ∙ idle.rows;
    gaps = is.gaps ∙ idle.gaps;
    left_out = is.left_out ∙ idle.left_out;
    refused = is.refused ∙ idle.refused;
  }

  own_kept : (component : ℕ) (steps : List ComponentLine) (old new : AccountBudgets) → IsChanged place need old new → IsOwnOf list component steps old →
      IsOwnOf list component steps new
  own_kept component steps old new is own =
      elim (nat_eq old.component place) as (λ b. nat_eq old.component place ≡ b → IsOwnOf list component steps new) [
        | true ↦ λ here.
            let at : old.component ≡ place = grind (arith, nat_tests, here) in
            let init : is_init_at list component ≡ true = subst (λ c. is_init_at list c ≡ true) (sym at ∙ own.same) starts in
            record {
              same = is.same ∙ own.same;
              own = is.session ∙ own.own;
              given = ap (λ g. amounts_of g.budget) is.given ∙ own.given;
              script = λ kind. absurd (no_script list component init kind);
              server = λ kind none. absurd (told_false (sym init ∙ none));
            }
        | false ↦ λ other.
            let rows : new.found.rows.items ≡ old.found.rows.items = is.rows ∙ ap (λ b. if b then need_rows need else old.found.rows.items) other in
            record {
              same = is.same ∙ own.same;
              own = is.session ∙ own.own;
              given = ap (λ g. amounts_of g.budget) is.given ∙ own.given;
              script = λ kind. measured_kept component steps old new is rows (own.script kind);
              server = λ kind none. idle_kept component _ old new is rows (own.server kind none);
            }
      ] refl

  -- no session is one of an init
  session_kept : (component : ℕ) (old new : AccountBudgets) → (own_entry list component).kind ≡ Script → IsChanged place need old new → old.component ≡ component → new ≡ old
  session_kept component old new script is its =
      elim (nat_eq old.component place) as (λ b. nat_eq old.component place ≡ b → new ≡ old) [
        | true ↦ λ here.
            let at : old.component ≡ place = grind (arith, nat_tests, here) in
            absurd (no_script list component (subst (λ c. is_init_at list c ≡ true) (sym at ∙ its) starts) script)
        | false ↦ λ other. is.others other
      ] refl

  same_kept : (component : ℕ) (olds news : List AccountBudgets) → (own_entry list component).kind ≡ Script → AreChanged place need olds news →
      AllByRecursion (λ (account : AccountBudgets). account.component ≡ component) olds → news ≡ olds
  same_kept component [] [] script are its = refl
  same_kept component [] (new ∷ news) script are its = absurd are
  same_kept component (old ∷ olds) [] script are its = absurd are
  same_kept component (old ∷ olds) (new ∷ news) script are its =
      λ i. session_kept component old new script are.0 its.0 i ∷ same_kept component olds news script are.1 its.1 i

  none_kept : (news : List AccountBudgets) → AreChanged place need [] news → news ≡ []
  none_kept [] are = refl
  none_kept (new ∷ news) are = absurd are

  unscripted_kept : (component : ℕ) (steps : List ComponentLine) (olds news : List AccountBudgets) → ((own_entry list component).kind ≡ Script → ⊥) →
      AreChanged place need olds news → AreSessionsOf list component steps olds → news ≡ olds
  unscripted_kept component steps olds news other are before =
      none_kept news (subst (λ l. AreChanged place need l news) (before.other other) are) ∙ sym (before.other other)

  kept_by_kind : (kind : Kind) (component : ℕ) (steps : List ComponentLine) (olds news : List AccountBudgets) → (own_entry list component).kind ≡ kind →
      AreChanged place need olds news → AreSessionsOf list component steps olds → news ≡ olds
  kept_by_kind Script component steps olds news is are before =
      same_kept component olds news is are (accounts_own list component steps olds (before.script is))
  kept_by_kind Server component steps olds news is are before = unscripted_kept component steps olds news (λ script. absurd (cc)) are before
  kept_by_kind Init component steps olds news is are before = unscripted_kept component steps olds news (λ script. absurd (cc)) are before

  sessions_kept : (component : ℕ) (steps : List ComponentLine) (olds news : List AccountBudgets) → AreChanged place need olds news →
      AreSessionsOf list component steps olds → news ≡ olds
  sessions_kept component steps olds news are before = kept_by_kind (own_entry list component).kind component steps olds news refl are before

  with_own : (component : ℕ) (steps : List ComponentLine) (olds : List AccountBudgets) (old : AccountBudgets) (front back news : List AccountBudgets) → news ≡ front ++ back →
      AreChanged place need olds front → AreChanged place need (old ∷ []) back → AreSessionsOf list component steps olds → IsOwnOf list component steps old →
      AreAccountsOf list component steps news
  with_own component steps olds old front [] news these are last sessions own = absurd last
  with_own component steps olds old front (new ∷ back) news these are last sessions own =
      let only : back ≡ [] = none_kept back last.1 in
      record {
        sessions = front;
        own = new;
        these = these ∙ ap (λ l. front ++ new ∷ l) only;
        sessions_are = subst (AreSessionsOf list component steps) (sym (sessions_kept component steps olds front are sessions)) sessions;
        own_is = own_kept component steps old new last.0 own;
      }

  its_kept : (component : ℕ) (steps : List ComponentLine) (olds news : List AccountBudgets) → AreChanged place need olds news → AreAccountsOf list component steps olds →
      AreAccountsOf list component steps news
  its_kept component steps olds news are its =
      let split : Split place need its.sessions (its.own ∷ []) news =
      split_in place need its.sessions (its.own ∷ []) news (subst (λ l. AreChanged place need l news) its.these are) in
      with_own component steps its.sessions its.own split.front split.back news split.these split.front_are split.back_are its.sessions_are its.own_is

  -- and accounts of all components
  pub all_kept : {Z : Type 0} (steps : List (Vec ComponentLine Z)) (count : ℕ) (olds news : List AccountBudgets) → AreChanged place need olds news → AreAccounts list steps count olds →
      AreAccounts list steps count news
  all_kept steps zero olds news are none = none_kept news (subst (λ l. AreChanged place need l news) none are)
  all_kept steps (suc count) olds news are joined =
      let split : Split place need joined.before joined.after news =
      split_in place need joined.before joined.after news (subst (λ l. AreChanged place need l news) joined.these are) in
      record {
        before = split.front;
        after = split.back;
        these = split.these;
        before_are = all_kept steps count joined.before split.front split.front_are joined.before_are;
        after_are = its_kept count (steps_at steps count) joined.after split.back split.back_are joined.after_are;
      }

  -- and their sessions stay
  own_kept_out : (old : AccountBudgets) (back : List AccountBudgets) → old.session ≡ None → AreChanged place need (old ∷ []) back → sessions_in back ≡ sessions_in (old ∷ [])
  own_kept_out old [] none are = absurd are
  own_kept_out old (new ∷ back) none are =
      ap (λ l. sessions_in (new ∷ l)) (none_kept back are.1) ∙ own_none new (are.0.session ∙ none) ∙ sym (own_none old none)

  its_stay : (component : ℕ) (steps : List ComponentLine) (olds news : List AccountBudgets) → AreChanged place need olds news → AreAccountsOf list component steps olds →
      sessions_in news ≡ sessions_in olds
  its_stay component steps olds news are its =
      let split : Split place need its.sessions (its.own ∷ []) news =
      split_in place need its.sessions (its.own ∷ []) news (subst (λ l. AreChanged place need l news) its.these are) in
      same_sessions its.sessions (its.own ∷ []) olds split.front split.back news its.these split.these
      (ap sessions_in (sessions_kept component steps its.sessions split.front split.front_are its.sessions_are))
      (own_kept_out its.own split.back its.own_is.own split.back_are)

  pub all_stay : {Z : Type 0} (steps : List (Vec ComponentLine Z)) (count : ℕ) (olds news : List AccountBudgets) → AreChanged place need olds news → AreAccounts list steps count olds →
      sessions_in news ≡ sessions_in olds
  all_stay steps zero olds news are none = ap sessions_in (none_kept news (subst (λ l. AreChanged place need l news) none are) ∙ sym none)
  all_stay steps (suc count) olds news are joined =
      let split : Split place need joined.before joined.after news =
      split_in place need joined.before joined.after news (subst (λ l. AreChanged place need l news) joined.these are) in
      same_sessions joined.before joined.after olds split.front split.back news joined.these split.these
      (all_stay steps count joined.before split.front split.front_are joined.before_are)
      (its_stay count (steps_at steps count) joined.after split.back split.back_are joined.after_are)

-- ---- one component more

module _ {Z : Type 0} (list : Listed) (steps : List (Vec ComponentLine Z)) where
  -- accounts of a component after those of the components before it
  pub joined : (component : ℕ) (lines : List ComponentLine) (before after all : List AccountBudgets) → lines ≡ steps_at steps component → all ≡ before ++ after →
      AreAccounts list steps component before → AreAccountsOf list component lines after → AreAccounts list steps (component + 1) all
  joined component lines before after all same these are its =
      let next : suc component ≡ component + 1 = omega arith in
      let more : AreAccounts list steps (suc component) all = record {
        before = before;
        after = after;
        these = these;
        before_are = are;
        after_are = subst (λ l. AreAccountsOf list component l after) same its;
      } in
      subst (λ n. AreAccounts list steps n all) next more

-- sessions of components from the next one on
pub sessions_after : {Z : Type 0} (list : Listed) (steps : List (Vec ComponentLine Z)) (component : ℕ) (script : Option ScriptSessions) (scripts rest : List (Option ScriptSessions)) →
    scripts ≡ script ∷ rest → AreSessionsFrom list steps component scripts →
    IsSessionsOf list component (steps_at steps component) script × AreSessionsFrom list steps (component + 1) rest
sessions_after list steps component script scripts rest these are =
    let next : suc component ≡ component + 1 = omega arith in
    let both : AreSessionsFrom list steps component (script ∷ rest) = subst (λ l. AreSessionsFrom list steps component l) these are in
    (both.0, subst (λ n. AreSessionsFrom list steps n rest) next both.1)

-- ---- lines as the scenario writes them

pub written_at : {Z : Type 0} (steps : List (Vec ComponentLine Z)) → AreAllWritten steps → (component : ℕ) → AreWritten (steps_at steps component)
written_at [] all component = tt
written_at (lines ∷ steps) all zero = all.0
written_at (lines ∷ steps) all (suc component) = written_at steps all.1 component

pub args_unset : (steps : List ComponentLine) → AreWritten steps → AllByRecursion (λ (step : ComponentLine). step.args ≡ None) steps
args_unset [] all = tt
args_unset (step ∷ steps) all = (all.0.args, args_unset steps all.1)
