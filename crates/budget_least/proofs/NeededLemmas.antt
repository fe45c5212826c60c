-- Accounts of inits, of which one after another gets what its list needs.
use Rattle.std.proofs.lemmas.Bool.Decides.{nat_tests}
use Rattle.std.proofs.lemmas.Bool.{cases_lt}
use Rattle.std.proofs.Common.{arith, ◌≡◌, ℕ, zero, suc, ◌<◌, ◌≤◌, ◌&&◌, Bool, true, false, List, [], ◌∷◌, nat_eq, length, get_or, set, drop, refl, sym, ap, subst, ◌∙◌, ⊎_elim, Bor}
use Rattle.std.proofs.lemmas.Option.{none-some, same_Some}
use Rattle.std.specs.List.{slice_get, AllByRecursion}
use Rattle.std.specs.Option.{option_and_then, option_map, option_map_or}
use Rattle.std.specs.Prelude.{if◌then◌else◌, is_some, not, Option, Some, None}
use Rattle.own_model.specs.Amounts.{Amounts, more_of}
use Rattle.own_model.specs.Listed.{Listed, ListedEntry}
use Rattle.list_parser.specs.Depth.{is_init}
use Rattle.budget_meter.specs.Needs.{amounts_of}
use Rattle.budget_search.specs.BudgetIntervals.{chosen_of}
use Rattle.budget_least.specs.InitNeeds.{capped, is_entry_of, is_init_at, need_of, needed_below, AreChanged, AreNeededFrom, HasNeed}
use Rattle.budget_search.specs.AccountNeeds.{need_rows, IsChanged}
use Rattle.budget_search.specs.declared.account_budgets.AccountBudgets.{AccountBudgets}
use Rattle.budget_search.specs.declared.budget_intervals.BudgetChoice.{BudgetChoice}

-- ---- sums stay if they are without the accounts that change

module _ (choice : BudgetChoice) (list : Listed) (init component : ℕ) (need : Option Amounts)
    (none : (account : AccountBudgets) → account.component ≡ component → is_entry_of list init account ≡ false) where
  same_entry : (old new : AccountBudgets) → IsChanged component need old new → is_entry_of list init new ≡ is_entry_of list init old
  same_entry old new is =
      ap (λ c. option_map_or (λ (entry : ListedEntry). not (is_some new.session) && nat_eq entry.home init) (slice_get list.entries c) false) is.same
      ∙ ap (λ s. option_map_or (λ (entry : ListedEntry). not (is_some s) && nat_eq entry.home init) (slice_get list.entries old.component) false) is.session

  same_need : (old new : AccountBudgets) → IsChanged component need old new → nat_eq old.component component ≡ false → need_of choice new ≡ need_of choice old
  same_need old new is other =
      ap (λ r. option_map (more_of (amounts_of r)) (chosen_of choice new.found.rows.items)) is.reserve
      ∙ ap (λ rows. option_map (more_of (amounts_of old.reserve)) (chosen_of choice rows))
      (is.rows ∙ ap (λ b. if b then need_rows need else old.found.rows.items) other)

  abbrev sum_of : Bool → Option Amounts → Option Amounts → Option Amounts
  sum_of b more rest = if b then option_and_then (λ n. option_map (more_of n) rest) more else rest

  one_same : (old new : AccountBudgets) (olds news : Option Amounts) → IsChanged component need old new → news ≡ olds →
      sum_of (is_entry_of list init new) (need_of choice new) news ≡ sum_of (is_entry_of list init old) (need_of choice old) olds
  one_same old new olds news is same =
      elim (nat_eq old.component component) as
      (λ b. nat_eq old.component component ≡ b → sum_of (is_entry_of list init new) (need_of choice new) news ≡ sum_of (is_entry_of list init old) (need_of choice old) olds) [
        | true ↦ λ here.
            let never = none old (grind (arith, nat_tests, here)) in
            ap (λ b. sum_of b (need_of choice new) news) (same_entry old new is ∙ never) ∙ same ∙ sym (ap (λ b. sum_of b (need_of choice old) olds) never)
        | false ↦ λ other.
            ap (λ b. sum_of b (need_of choice new) news) (same_entry old new is)
            ∙ ap (λ n. sum_of (is_entry_of list init old) n news) (same_need old new is other)
            ∙ ap (λ rest. sum_of (is_entry_of list init old) (need_of choice old) rest) same
      ] refl

  pub needed_same : (olds news : List AccountBudgets) → AreChanged component need olds news → needed_below choice list init news ≡ needed_below choice list init olds
  needed_same [] [] are = refl
  needed_same [] (new ∷ news) are = absurd are
  needed_same (old ∷ olds) [] are = absurd are
  needed_same (old ∷ olds) (new ∷ news) are =
      one_same old new (needed_below choice list init olds) (needed_below choice list init news) are.0 (needed_same olds news are.1)

-- ---- init by init

-- whether a component starts others
pub init_told : (o : Option ListedEntry) (b : Bool) → option_map is_init o ≡ Some b → option_map_or is_init o false ≡ b
init_told None b is = absurd (none-some b is)
init_told (Some entry) b is = same_Some (is_init entry) b is

-- its init is before it
pub home_told : (list : Listed) (place home : ℕ) → option_map (λ (entry : ListedEntry). entry.home) (slice_get list.entries place) ≡ Some home → home ≤ place →
    (entry : ListedEntry) → slice_get list.entries place ≡ Some entry → entry.home ≤ place
home_told list place home told before entry found =
    let same : entry.home ≡ home = same_Some entry.home home (sym (ap (option_map (λ (e : ListedEntry). e.home)) found) ∙ told) in
    omega (arith, same, before)

true_false : true ≡ false → ⊥
true_false is = absurd (cc)

and_false : (b : Bool) → (b && false) ≡ false
and_false true = refl
and_false false = refl

module _ (choice : BudgetChoice) (list : Listed) where
  -- the component at a place is an entry of the machine's list, or of that of an init before it
  abbrev HasHome : ℕ → Type 0
  HasHome place = (entry : ListedEntry) → slice_get list.entries place ≡ Some entry → entry.home ≤ place

  -- no account of a component is that of an entry of an init past it
  not_at : (component init : ℕ) → HasHome component → component < init → (account : AccountBudgets) (o : Option ListedEntry) → slice_get list.entries component ≡ o →
      option_map_or (λ (entry : ListedEntry). not (is_some account.session) && nat_eq entry.home init) o false ≡ false
  not_at component init home past account None found = refl
  not_at component init home past account (Some entry) found =
      let before = home entry found in
      let other : nat_eq entry.home init ≡ false = grind (arith, nat_tests, before, past) in
      ap (λ b. not (is_some account.session) && b) other ∙ and_false (not (is_some account.session))

  not_below : (component init : ℕ) → HasHome component → component < init → (account : AccountBudgets) → account.component ≡ component → is_entry_of list init account ≡ false
  not_below component init home past account is =
      subst (λ c. option_map_or (λ (entry : ListedEntry). not (is_some account.session) && nat_eq entry.home init) (slice_get list.entries c) false ≡ false) (sym is)
      (not_at component init home past account (slice_get list.entries component) refl)

  -- past the last component there is no init
  none_past : (place : ℕ) (entries : List ListedEntry) → length entries ≤ place → slice_get entries place ≡ None
  none_past place [] past = refl
  none_past zero (entry ∷ entries) past = absurd (omega (arith, past))
  none_past (suc place) (entry ∷ entries) past = none_past place entries (omega (arith, past))

  pub needed_first : (all accounts : List AccountBudgets) →
      AllByRecursion (λ account. length list.entries ≤ account.component → HasNeed choice list all account) accounts
  needed_first all [] = tt
  needed_first all (account ∷ accounts) = (
    λ past is. absurd (true_false (sym is ∙ ap (λ o. option_map_or is_init o false) (none_past account.component list.entries past))),
    needed_first all accounts,
  )

  -- the component at a place starts nobody
  skip_one : (place : ℕ) (all : List AccountBudgets) (account : AccountBudgets) → is_init_at list place ≡ false → (suc place ≤ account.component → HasNeed choice list all account) →
      place ≤ account.component → HasNeed choice list all account
  skip_one place all account idle before from = ⊎_elim
      (λ less. before (omega (arith, less)))
      (λ more is.
      let same : account.component ≡ place = omega (arith, more, from) in
      absurd (true_false (sym is ∙ ap (is_init_at list) same ∙ idle)))
      (cases_lt place account.component)

  pub needed_skipped : (place : ℕ) (all accounts : List AccountBudgets) → is_init_at list place ≡ false →
      AllByRecursion (λ account. suc place ≤ account.component → HasNeed choice list all account) accounts →
      AllByRecursion (λ account. place ≤ account.component → HasNeed choice list all account) accounts
  needed_skipped place all [] idle before = tt
  needed_skipped place all (account ∷ accounts) idle before = (skip_one place all account idle before.0, needed_skipped place all accounts idle before.1)

  -- it starts others, and its accounts are given what these need
  module _ (place : ℕ) (need : Option Amounts) (was all : List AccountBudgets) (changed : AreChanged place need was all)
      (fits : need ≡ option_map capped (needed_below choice list (suc place) was)) (home : HasHome place) where
    still : (later : ℕ) → place ≤ later → needed_below choice list (suc later) all ≡ needed_below choice list (suc later) was
    still later order = needed_same choice list (suc later) place need (not_below place (suc later) home (omega (arith, order))) was all changed

    kept_one : (old new : AccountBudgets) → IsChanged place need old new → (suc place ≤ old.component → HasNeed choice list was old) → place ≤ new.component → HasNeed choice list all new
    kept_one old new is before from =
        let component = is.same in
        ⊎_elim
        (λ less init.
        let other : nat_eq old.component place ≡ false = grind (arith, nat_tests, less) in
        is.rows
        ∙ ap (λ b. if b then need_rows need else old.found.rows.items) other
        ∙ before (omega (arith, less)) (subst (λ c. is_init_at list c ≡ true) component init)
        ∙ ap (λ o. need_rows (option_map capped o)) (sym (still old.component (omega (arith, less))))
        ∙ ap (λ c. need_rows (option_map capped (needed_below choice list (suc c) all))) (sym component))
        (λ more init.
        let same : old.component ≡ place = omega (arith, more, from, component) in
        let here : nat_eq old.component place ≡ true = grind (arith, nat_tests, same) in
        is.rows
        ∙ ap (λ b. if b then need_rows need else old.found.rows.items) here
        ∙ ap need_rows fits
        ∙ ap (λ o. need_rows (option_map capped o)) (sym (still place (omega arith)))
        ∙ ap (λ c. need_rows (option_map capped (needed_below choice list (suc c) all))) (sym (component ∙ same)))
        (cases_lt place old.component)

    kept_all : (olds news : List AccountBudgets) → AreChanged place need olds news →
        AllByRecursion (λ account. suc place ≤ account.component → HasNeed choice list was account) olds →
        AllByRecursion (λ account. place ≤ account.component → HasNeed choice list all account) news
    kept_all [] [] are before = tt
    kept_all [] (new ∷ news) are before = absurd are
    kept_all (old ∷ olds) [] are before = absurd are
    kept_all (old ∷ olds) (new ∷ news) are before = (kept_one old new are.0 before.0, kept_all olds news are.1 before.1)

    pub needed_next : AreNeededFrom (suc place) choice list was → AreNeededFrom place choice list all
    needed_next before = kept_all was all changed before

pub needed_all : (choice : BudgetChoice) (list : Listed) (all accounts : List AccountBudgets) →
    AllByRecursion (λ account. 0 ≤ account.component → HasNeed choice list all account) accounts → AllByRecursion (λ account. HasNeed choice list all account) accounts
needed_all choice list all [] before = tt
needed_all choice list all (account ∷ accounts) before = (before.0 (omega arith), needed_all choice list all accounts before.1)

-- of a report whose list and choice stay
pub same_report : (place : ℕ) (choice other : BudgetChoice) (list same : Bor Listed) (accounts : List AccountBudgets) → other ≡ choice → same ≡ list →
    AreNeededFrom place choice list.now accounts → AreNeededFrom place other same.now accounts
same_report place choice other list same accounts chosen kept needed =
    subst (λ (l : Bor Listed). AreNeededFrom place other l.now accounts) (sym kept) (subst (λ c. AreNeededFrom place c list.now accounts) (sym chosen) needed)

-- ---- account by account

-- so many accounts are changed
abbrev pub AreChangedTo : ℕ → ℕ → Option Amounts → List AccountBudgets → List AccountBudgets → Type 0
AreChangedTo zero component need olds news = news ≡ olds
AreChangedTo (suc n) component need (old ∷ olds) (new ∷ news) = IsChanged component need old new × AreChangedTo n component need olds news
AreChangedTo (suc n) component need [] news = news ≡ []
AreChangedTo (suc n) component need (old ∷ olds) [] = ⊥

module _ (component : ℕ) (need : Option Amounts) where
  pub one_more : (n : ℕ) (olds news : List AccountBudgets) (d v : AccountBudgets) → AreChangedTo n component need olds news → n < length news →
      IsChanged component need (get_or news n d) v → AreChangedTo (suc n) component need olds (set news n v)
  one_more zero [] [] d v are there is = absurd (omega (arith, there))
  one_more zero [] (new ∷ news) d v are there is = absurd (cc)
  one_more zero (old ∷ olds) [] d v are there is = absurd (omega (arith, there))
  one_more zero (old ∷ olds) (new ∷ news) d v are there is =
      (subst (λ xs. IsChanged component need (get_or xs 0 d) v) are is, ap (λ xs. drop 1 xs) are)
  one_more (suc n) [] [] d v are there is = absurd (omega (arith, there))
  one_more (suc n) [] (new ∷ news) d v are there is = absurd (cc)
  one_more (suc n) (old ∷ olds) [] d v are there is = absurd are
  one_more (suc n) (old ∷ olds) (new ∷ news) d v are there is = (are.0, one_more n olds news d v are.1 (omega (arith, there)) is)

  pub changed_to_end : (n : ℕ) (olds news : List AccountBudgets) → AreChangedTo n component need olds news → length news ≤ n → AreChanged component need olds news
  changed_to_end zero [] [] are past = tt
  changed_to_end zero [] (new ∷ news) are past = absurd (omega (arith, past))
  changed_to_end zero (old ∷ olds) [] are past = absurd (cc)
  changed_to_end zero (old ∷ olds) (new ∷ news) are past = absurd (omega (arith, past))
  changed_to_end (suc n) [] [] are past = tt
  changed_to_end (suc n) [] (new ∷ news) are past = absurd (cc)
  changed_to_end (suc n) (old ∷ olds) [] are past = absurd are
  changed_to_end (suc n) (old ∷ olds) (new ∷ news) are past = (are.0, changed_to_end n olds news are.1 (omega (arith, past)))
