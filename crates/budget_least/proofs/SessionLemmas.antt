-- The sessions among accounts.
use Rattle.std.proofs.Common.{arith, ◌≡◌, ℕ, zero, suc, Bool, true, false, List, [], ◌∷◌, ◌++◌, length, append-nil, append_assoc, refl, sym, ap, subst, ◌∙◌}
use Rattle.std.proofs.lemmas.List.Elements.{filter-append}
use Rattle.std.specs.Prelude.{cond, flat_map, is_some, Option, None}
use Rattle.std.specs.List.{AllByRecursion}
use Rattle.own_model.specs.Listed.{Listed}
use Rattle.list_parser.specs.Budgets.{changed_at}
use Rattle.budget_search.proofs.CountLemmas.{all_and_one}
use Rattle.budget_search.specs.ReachedSessions.{Reached}
use Rattle.budget_search.specs.SessionAccounts.{with_one_more, AreCounted, AreSessionAccounts, IsCounted}
use Rattle.budget_search.specs.SessionAccounts.IsCounted.{with_alike, by_itself}
use Rattle.budget_search.specs.declared.account_budgets.AccountBudgets.{AccountBudgets}
use Rattle.budget_search.specs.declared.account_budgets.SessionKey.{SessionKey}
use Rattle.budget_search.specs.declared.budget_intervals.BudgetChoice.{BudgetChoice}
use Rattle.budget_search.specs.declared.component_line.ComponentLine.{ComponentLine}
use Rattle.budget_search.specs.declared.script_search.ScriptSessions.{ScriptSessions}
use Rattle.budget_least.specs.ComponentLines.{AreAllWritten}
use Rattle.budget_least.specs.LineDonations.{sessions_in, sessions_of, AreAllDonated, HasDonations}
use Rattle.budget_least.specs.declared.report.BudgetReport.{BudgetReport}

-- ---- sessions of two lists

pub joined_sessions : (before after all : List AccountBudgets) → all ≡ before ++ after → sessions_in all ≡ sessions_in before ++ sessions_in after
joined_sessions before after all these = ap sessions_in these ∙ filter-append (λ (account : AccountBudgets). is_some account.session) before after

pub same_sessions : (before after all front back news : List AccountBudgets) → all ≡ before ++ after → news ≡ front ++ back → sessions_in front ≡ sessions_in before →
    sessions_in back ≡ sessions_in after → sessions_in news ≡ sessions_in all
same_sessions before after all front back news these those first last =
    joined_sessions front back news those
    ∙ ap (λ l. l ++ sessions_in back) first
    ∙ ap (λ l. sessions_in before ++ l) last
    ∙ sym (joined_sessions before after all these)

-- the sessions of one component more
pub next_added : (was now : List AccountBudgets) (scripts rest : List (Option ScriptSessions)) (script : Option ScriptSessions) → scripts ≡ script ∷ rest →
    now ≡ was ++ sessions_of script → now ++ flat_map sessions_of rest ≡ was ++ flat_map sessions_of scripts
next_added was now scripts rest script these added =
    let moved : (was ++ sessions_of script) ++ flat_map sessions_of rest ≡ was ++ (sessions_of script ++ flat_map sessions_of rest) = simp append_assoc in
    ap (λ l. l ++ flat_map sessions_of rest) added ∙ moved ∙ ap (λ l. was ++ flat_map sessions_of l) (sym these)

-- no session is left
pub all_added : (was : List AccountBudgets) (rest : List (Option ScriptSessions)) → length rest ≡ 0 → was ≡ was ++ flat_map sessions_of rest
all_added was [] none = sym (append-nil was)
all_added was (script ∷ rest) none = absurd (omega (arith, none))

-- ---- own accounts are of no session

pub own_none : (own : AccountBudgets) → own.session ≡ None → sessions_in (own ∷ []) ≡ []
own_none own none = ap (λ (session : Option SessionKey). cond (is_some session) (own ∷ []) []) none

pub without_own : (sessions : List AccountBudgets) (own : AccountBudgets) (all : List AccountBudgets) → all ≡ sessions ++ own ∷ [] → own.session ≡ None →
    sessions_in all ≡ sessions_in sessions
without_own sessions own all these none =
    joined_sessions sessions (own ∷ []) all these ∙ ap (λ l. sessions_in sessions ++ l) (own_none own none) ∙ append-nil (sessions_in sessions)

-- ---- accounts of sessions have keys

abbrev IsKeyed : AccountBudgets → Type 0
IsKeyed account = is_some account.session ≡ true

changed_keyed : (accounts : List AccountBudgets) (place : ℕ) → AllByRecursion IsKeyed accounts → AllByRecursion IsKeyed (changed_at with_one_more accounts place)
changed_keyed [] place all = tt
changed_keyed (account ∷ accounts) zero all = all
changed_keyed (account ∷ accounts) (suc place) all = (all.0, changed_keyed accounts place all.1)

counted_keyed : (account : AccountBudgets) (old new : List AccountBudgets) → IsKeyed account → IsCounted account old new → AllByRecursion IsKeyed old → AllByRecursion IsKeyed new
counted_keyed account old new keyed (with_alike place other there alike is) all = subst (AllByRecursion IsKeyed) (sym is) (changed_keyed old place all)
counted_keyed account old new keyed (by_itself none is) all = subst (AllByRecursion IsKeyed) (sym is) (all_and_one IsKeyed old account all keyed)

all_keyed : (list : Listed) (component : ℕ) (steps : List ComponentLine) (opened : List Reached) (old new : List AccountBudgets) → AreCounted list component steps opened old new →
    AllByRecursion IsKeyed old → AllByRecursion IsKeyed new
all_keyed list component steps [] old new are all = subst (AllByRecursion IsKeyed) (sym are) all
all_keyed list component steps (one ∷ rest) old new are all =
    all_keyed list component steps rest are.1.1.0 new are.1.1.1.1
    (counted_keyed are.0 old are.1.1.0 (ap (λ (session : Option SessionKey). is_some session) are.1.0.key) are.1.1.1.0 all)

keyed_stay : (accounts : List AccountBudgets) → AllByRecursion IsKeyed accounts → sessions_in accounts ≡ accounts
keyed_stay [] all = refl
keyed_stay (account ∷ accounts) all =
    ap (λ b. cond b (account ∷ sessions_in accounts) (sessions_in accounts)) all.0 ∙ ap (λ l. account ∷ l) (keyed_stay accounts all.1)

pub accounts_keyed : (list : Listed) (component : ℕ) (steps : List ComponentLine) (accounts : List AccountBudgets) → AreSessionAccounts list component steps accounts →
    sessions_in accounts ≡ accounts
accounts_keyed list component steps accounts are = keyed_stay accounts (all_keyed list component steps are.opened [] accounts are.counted tt)

-- ---- donations of a report

-- a report has the sessions by which its lines donate
pub donations_had : (as_donated : Bool) (choice : BudgetChoice) (sessions : List AccountBudgets) (report : BudgetReport) → report.choice ≡ choice →
    sessions_in report.accounts.items ≡ sessions → (as_donated ≡ true → AreAllWritten report.scene.steps.items) →
    (as_donated ≡ false → AreAllDonated choice sessions report.scene.steps.items) → HasDonations as_donated report
donations_had true choice sessions report same are written donated = written refl
donations_had false choice sessions report same are written donated =
    subst (λ c. AreAllDonated c (sessions_in report.accounts.items) report.scene.steps.items) (sym same)
    (subst (λ l. AreAllDonated choice l report.scene.steps.items) (sym are) (donated refl))

-- another one has the same lines and sessions
pub donations_kept : (as_donated : Bool) (old new : BudgetReport) → new.choice ≡ old.choice → new.scene.steps.items ≡ old.scene.steps.items →
    sessions_in new.accounts.items ≡ sessions_in old.accounts.items → HasDonations as_donated old → HasDonations as_donated new
donations_kept true old new choice steps sessions has = subst AreAllWritten (sym steps) has
donations_kept false old new choice steps sessions has =
    donations_had false old.choice (sessions_in old.accounts.items) new choice sessions (λ is. absurd (cc))
    (λ is. subst (AreAllDonated old.choice (sessions_in old.accounts.items)) (sym steps) has)
