-- Sums of what entries need.
use Rattle.std.proofs.Common.{arith, ◌≡◌, ℕ, ◌+◌, true, false, List, ◌∷◌, refl, sym, ap, subst, ◌∙◌}
use Rattle.std.proofs.lemmas.Option.{same_Some}
use Rattle.std.specs.Prelude.{if◌then◌else◌, min, Option, Some, None}
use Rattle.std.specs.Option.{option_and_then, option_map}
use Rattle.own_model.specs.Amounts.{Amounts, more_of, no_amounts}
use Rattle.own_model.specs.Listed.{Listed}
use Rattle.budget_least.specs.InitNeeds.{capped, is_entry_of, need_of, needed_below, sum_with}
use Rattle.budget_search.specs.declared.account_budgets.AccountBudgets.{AccountBudgets}
use Rattle.budget_search.specs.declared.budget_intervals.BudgetChoice.{BudgetChoice}

-- a sum of three, of which two were added first
capped_sum : (sum need rest : ℕ) → min (min (sum + need) 18446744073709551615 + rest) 18446744073709551615 ≡ min (sum + (need + rest)) 18446744073709551615
capped_sum sum need rest = omega arith

pub capped_more : (sum need rest : Amounts) → capped (more_of (capped (more_of sum need)) rest) ≡ capped (more_of sum (more_of need rest))
capped_more sum need rest = λ i. record { ram = capped_sum sum.ram need.ram rest.ram i; caps = capped_sum sum.caps need.caps rest.caps i }

-- what is capped stays so
capped_twice : (a : Amounts) → capped (capped a) ≡ capped a
capped_twice a =
    let r : min (min a.ram 18446744073709551615) 18446744073709551615 ≡ min a.ram 18446744073709551615 = omega arith in
    let c : min (min a.caps 18446744073709551615) 18446744073709551615 ≡ min a.caps 18446744073709551615 = omega arith in
    λ i. record { ram = r i; caps = c i }

pub capped_all : (sum : Amounts) → capped sum ≡ sum → capped (more_of sum no_amounts) ≡ sum
capped_all sum kept =
    let r : min (sum.ram + 0) 18446744073709551615 ≡ min sum.ram 18446744073709551615 = omega arith in
    let c : min (sum.caps + 0) 18446744073709551615 ≡ min sum.caps 18446744073709551615 = omega arith in
    (λ i. record { ram = r i; caps = c i }) ∙ kept

pub capped_first : (rest : Amounts) → capped (more_of no_amounts rest) ≡ capped rest
capped_first rest =
    let r : 0 + rest.ram ≡ rest.ram = omega arith in
    let c : 0 + rest.caps ≡ rest.caps = omega arith in
    λ i. capped (record { ram = r i; caps = c i })

map_same : {X Y : Type 0} (f g : X → Y) → ((x : X) → f x ≡ g x) → (o : Option X) → option_map f o ≡ option_map g o
map_same f g same None = refl
map_same f g same (Some x) = ap Some (same x)

pub first_sum : (o : Option Amounts) → option_map capped o ≡ option_map (λ rest. capped (more_of no_amounts rest)) o
first_sum o = map_same capped (λ rest. capped (more_of no_amounts rest)) (λ rest. sym (capped_first rest)) o

module _ (choice : BudgetChoice) (list : Listed) (init : ℕ) (sum : Amounts) (account : AccountBudgets) (rest : List AccountBudgets) where
  abbrev all : Option Amounts
  all = option_map (λ more. capped (more_of sum more)) (needed_below choice list init (account ∷ rest))

  taken_by : (need : Option Amounts) (below : Option Amounts) (new : Option Amounts) → new ≡ option_map (λ n. capped (more_of sum n)) need →
      option_map (λ more. capped (more_of sum more)) (option_and_then (λ n. option_map (more_of n) below) need)
      ≡ option_and_then (λ s. option_map (λ more. capped (more_of s more)) below) new
  taken_by None below new is = ap (option_and_then (λ s. option_map (λ more. capped (more_of s more)) below)) (sym is)
  taken_by (Some need) None new is = ap (option_and_then (λ s. option_map (λ more. capped (more_of s more)) None)) (sym is)
  taken_by (Some need) (Some more) new is =
      ap Some (sym (capped_more sum need more)) ∙ ap (option_and_then (λ s. option_map (λ m. capped (more_of s m)) (Some more))) (sym is)

  -- and that of an entry what it needs
  pub sum_step : (new : Option Amounts) → new ≡ sum_with choice list init sum account →
      all ≡ option_and_then (λ s. option_map (λ more. capped (more_of s more)) (needed_below choice list init rest)) new
  sum_step new is = elim (is_entry_of list init account) as
      (λ b. new ≡ (if b then option_map (λ n. capped (more_of sum n)) (need_of choice account) else Some sum) →
      option_map (λ more. capped (more_of sum more)) (if b then option_and_then (λ need. option_map (more_of need) (needed_below choice list init rest)) (need_of choice account) else needed_below choice list init rest)
      ≡ option_and_then (λ s. option_map (λ more. capped (more_of s more)) (needed_below choice list init rest)) new) [
        | true ↦ λ same. taken_by (need_of choice account) (needed_below choice list init rest) new same
        | false ↦ λ same. ap (option_and_then (λ s. option_map (λ more. capped (more_of s more)) (needed_below choice list init rest))) (sym same)
      ] is

module _ (choice : BudgetChoice) (list : Listed) (init : ℕ) (sum : Amounts) (account : AccountBudgets) (new : Amounts) where
  capped_need : (need : Option Amounts) → Some new ≡ option_map (λ n. capped (more_of sum n)) need → capped new ≡ new
  capped_need None is = absurd (cc)
  capped_need (Some need) is = subst (λ a. capped a ≡ a) (sym (same_Some new (capped (more_of sum need)) is)) (capped_twice (more_of sum need))

  pub capped_kept : Some new ≡ sum_with choice list init sum account → capped sum ≡ sum → capped new ≡ new
  capped_kept is kept = elim (is_entry_of list init account) as
      (λ b. Some new ≡ (if b then option_map (λ n. capped (more_of sum n)) (need_of choice account) else Some sum) → capped new ≡ new) [
        | true ↦ λ same. capped_need (need_of choice account) same
        | false ↦ λ same. subst (λ a. capped a ≡ a) (sym (same_Some new sum same)) kept
      ] is
