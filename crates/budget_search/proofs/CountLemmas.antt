-- Accounts of sessions, and the lines that open these.
use Rattle.std.proofs.Common.{arith, ◌≡◌, ℕ, zero, suc, ◌<◌, ◌||◌, Bool, true, false, true≢false, List, [], ◌∷◌, ◌++◌, inl, inr, length, nat_eq, get_or, set, refl, sym, ap, subst, ◌∙◌}
use Rattle.std.proofs.lemmas.Bool.Decides.{nat_tests}
use Rattle.std.proofs.lemmas.Option.{same_Some, slice_get_cases}
use Rattle.std.specs.Prelude.{IsTrue, slice_get, Option, Some, None, IfNone, IfSome}
use Rattle.std.specs.List.{AllByRecursion}
use Rattle.own_model.specs.Listed.{Listed}
use Rattle.list_parser.specs.Budgets.{changed_at}
use Rattle.budget_search.specs.LineNumbers.{has_number}
use Rattle.budget_search.specs.ReachedSessions.{Reached}
use Rattle.budget_search.specs.SessionAccounts.{with_one_more, AreCounted, AreOfLine, AreSessionAccounts, HasLine, HaveLines, IsAlike, IsCounted, NoneIsAlike}
use Rattle.budget_search.specs.SessionAccounts.IsCounted.{with_alike, by_itself}
use Rattle.budget_search.specs.declared.account_budgets.AccountBudgets.{AccountBudgets}
use Rattle.budget_search.specs.declared.account_budgets.SessionKey.{SessionKey}
use Rattle.budget_search.specs.declared.component_line.ComponentLine.{ComponentLine}
use Rattle.budget_search.specs.declared.line_numbers.LineNumbers.{LineNumbers}
use Rattle.budget_search.specs.declared.session_accounts.SessionAccounts.{SessionAccounts}

-- an element that is set is changed
pub set_is_changed : {X : Type 0} (change : X → X) (xs : List X) (place : ℕ) (d v : X) → place < length xs → v ≡ change (get_or xs place d) →
    set xs place v ≡ changed_at change xs place
set_is_changed change [] place d v there is = absurd (omega (arith, there))
set_is_changed change (x ∷ xs) zero d v there is = ap (λ y. y ∷ xs) is
set_is_changed change (x ∷ xs) (suc place) d v there is = ap (λ ys. x ∷ ys) (set_is_changed change xs place d v (omega (arith, there)) is)

-- what is so of all, and of one more
pub all_and_one : {X : Type 0} (P : X → Type 0) (xs : List X) (x : X) → AllByRecursion P xs → P x → AllByRecursion P (xs ++ x ∷ [])
all_and_one P [] x all is = (is, tt)
all_and_one P (y ∷ ys) x all is = (all.0, all_and_one P ys x all.1 is)

-- all accounts have lines among these
abbrev pub AllHave : LineNumbers → List AccountBudgets → Type 0
AllHave numbers accounts = AllByRecursion (λ account. HasLine numbers account.session) accounts

pub all_counted : (numbers : LineNumbers) (accounts : List AccountBudgets) (place : ℕ) → AllHave numbers accounts → AllHave numbers (changed_at with_one_more accounts place)
all_counted numbers [] place all = tt
all_counted numbers (account ∷ accounts) zero all = all
all_counted numbers (account ∷ accounts) (suc place) all = (all.0, all_counted numbers accounts place all.1)

module _ (old new : LineNumbers) (number : ℕ) (added : (other : ℕ) → has_number new other ≡ (has_number old other || nat_eq other number)) where
  -- one number more
  still_has : (session : Option SessionKey) → HasLine old session → HasLine new session
  still_has None has = elim has [ ]
  still_has (Some key) has = added key.line ∙ ap (λ b. b || nat_eq key.line number) has

  pub all_still : (accounts : List AccountBudgets) → AllHave old accounts → AllHave new accounts
  all_still [] all = tt
  all_still (account ∷ accounts) all = (still_has account.session all.0, all_still accounts all.1)

  -- the number is among them then
  pub now_has : has_number new number ≡ true
  now_has = added number ∙ either (has_number old number) number
    where
      either : (b : Bool) (n : ℕ) → (b || nat_eq n n) ≡ true
      either true n = refl
      either false n = grind (arith, nat_tests)

-- a test that fails
pub no_truth : (b : Bool) → b ≡ false → IsTrue b → ⊥
no_truth b is true_is = absurd (cc)

-- a line that opened no session before has none that is alike
apart : (numbers : LineNumbers) (session : SessionKey) (one other : Option SessionKey) → other ≡ Some session → has_number numbers session.line ≡ false →
    HasLine numbers one → AreOfLine one other → ⊥
apart numbers session (Some key) (Some found) is out has same =
    true≢false (sym has ∙ ap (has_number numbers) same ∙ ap (has_number numbers) (line_of found session is) ∙ out)
  where
    line_of : (found session : SessionKey) → Some found ≡ Some session → found.line ≡ session.line
    line_of found session is = ap (λ (key : SessionKey). key.line) (same_Some found session is)
apart numbers session None other is out has same = has
apart numbers session (Some key) None is out has same = same

pub none_alike : (numbers : LineNumbers) (account : AccountBudgets) (session : SessionKey) → account.session ≡ Some session → has_number numbers session.line ≡ false →
    (accounts : List AccountBudgets) → AllHave numbers accounts → NoneIsAlike account accounts
none_alike numbers account session is out [] all = tt
none_alike numbers account session is out (other ∷ accounts) all =
    (λ alike. apart numbers session other.session account.session is out all.0 alike.line, none_alike numbers account session is out accounts all.1)

-- ---- one session more

pub when_none : {X P Q : Type 0} (o : Option X) → (P → Q) → IfNone o P → IfNone o Q
when_none None follows is = follows is
when_none (Some x) follows is = tt

found_at : (xs : List AccountBudgets) (place : ℕ) → place < length xs → (x : AccountBudgets) × (slice_get xs place ≡ Some x)
found_at xs place there = elim (slice_get_cases xs place).1 [ inl here ↦ (here.0, here.2) | inr past ↦ absurd (omega (arith, there, past.0)) ]

module _ (old mid new : SessionAccounts) (account : AccountBudgets) (found : Option ℕ) (same : mid.accounts ≡ old.accounts) where
  -- it is counted with one that is alike
  pub counted_with : (place : ℕ) → found ≡ Some place → IfSome found (λ p. p < length mid.accounts.items) →
      IfSome found (λ p. (other : AccountBudgets) → slice_get old.accounts.items p ≡ Some other → IsAlike other account) →
      new.accounts.items ≡ changed_at with_one_more mid.accounts.items place → IsCounted account old.accounts.items new.accounts.items
  counted_with place is there alike counted =
      let here : place < length old.accounts.items = subst (λ xs. place < length xs.items) same (subst (λ o. IfSome o (λ p. p < length mid.accounts.items)) is there) in
      let other = found_at old.accounts.items place here in
      with_alike place other.0 other.1
      (subst (λ o. IfSome o (λ p. (other : AccountBudgets) → slice_get old.accounts.items p ≡ Some other → IsAlike other account)) is alike other.0 other.1)
      (counted ∙ ap (λ xs. changed_at with_one_more xs.items place) same)

  -- and the line of each is known
  pub lines_counted : (place : ℕ) → new.accounts.items ≡ changed_at with_one_more mid.accounts.items place → new.lines ≡ mid.lines → HaveLines mid → HaveLines new
  lines_counted place counted lines have =
      subst (λ l. AllHave l new.accounts.items) (sym lines) (subst (AllHave mid.lines) (sym counted) (all_counted mid.lines mid.accounts.items place have))

  pub lines_pushed : new.accounts.items ≡ mid.accounts.items ++ account ∷ [] → new.lines ≡ mid.lines → HasLine mid.lines account.session → HaveLines mid → HaveLines new
  lines_pushed pushed lines its have =
      subst (λ l. AllHave l new.accounts.items) (sym lines)
      (subst (AllHave mid.lines) (sym pushed) (all_and_one (λ (a : AccountBudgets). HasLine mid.lines a.session) mid.accounts.items account have its))

-- ---- whose accounts they are

all_changed : (component : ℕ) (accounts : List AccountBudgets) (place : ℕ) → AllByRecursion (λ (a : AccountBudgets). a.component ≡ component) accounts →
    AllByRecursion (λ (a : AccountBudgets). a.component ≡ component) (changed_at with_one_more accounts place)
all_changed component [] place all = tt
all_changed component (account ∷ accounts) zero all = all
all_changed component (account ∷ accounts) (suc place) all = (all.0, all_changed component accounts place all.1)

counted_own : (component : ℕ) (account : AccountBudgets) (old new : List AccountBudgets) → account.component ≡ component → IsCounted account old new →
    AllByRecursion (λ (a : AccountBudgets). a.component ≡ component) old → AllByRecursion (λ (a : AccountBudgets). a.component ≡ component) new
counted_own component account old new own (with_alike place other there alike is) all =
    subst (AllByRecursion (λ (a : AccountBudgets). a.component ≡ component)) (sym is) (all_changed component old place all)
counted_own component account old new own (by_itself none is) all =
    subst (AllByRecursion (λ (a : AccountBudgets). a.component ≡ component)) (sym is) (all_and_one (λ (a : AccountBudgets). a.component ≡ component) old account all own)

all_own : (list : Listed) (component : ℕ) (steps : List ComponentLine) (opened : List Reached) (old new : List AccountBudgets) → AreCounted list component steps opened old new →
    AllByRecursion (λ (a : AccountBudgets). a.component ≡ component) old → AllByRecursion (λ (a : AccountBudgets). a.component ≡ component) new
all_own list component steps [] old new are all = subst (AllByRecursion (λ (a : AccountBudgets). a.component ≡ component)) (sym are) all
all_own list component steps (one ∷ rest) old new are all =
    all_own list component steps rest are.1.1.0 new are.1.1.1.1 (counted_own component are.0 old are.1.1.0 are.1.0.same are.1.1.1.0 all)

-- the accounts of a component's sessions are the component's
pub accounts_own : (list : Listed) (component : ℕ) (steps : List ComponentLine) (accounts : List AccountBudgets) → AreSessionAccounts list component steps accounts →
    AllByRecursion (λ (a : AccountBudgets). a.component ≡ component) accounts
accounts_own list component steps accounts are = all_own list component steps are.opened [] accounts are.counted tt
