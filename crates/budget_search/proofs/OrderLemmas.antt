-- Intervals that are found from the highest RAM on, and their minimum.
use Rattle.std.proofs.lemmas.Bool.{or_left}
use Rattle.std.proofs.lemmas.Bool.Decides.{nat_tests}
use Rattle.std.proofs.lemmas.List.{reverse-append}
use Rattle.std.proofs.Common.{arith, ◌≡◌, ℕ, suc, ◌<◌, ◌≤◌, ◌&&◌, ◌||◌, Bool, true, false, List, [], ◌∷◌, ◌++◌, nat_le, reverse, refl, sym, ap, ◌∙◌, subst}
use Rattle.std.specs.List.{AllByRecursion}
use Rattle.std.specs.Prelude.{if◌then◌else◌, max, Option, Some, None, IfSome}
use Rattle.own_model.specs.Amounts.{Amounts}
use Rattle.budget_theorems.proofs.CellLemmas.{in_own_cell, starts_below}
use Rattle.budget_theorems.specs.Need.{Need, IsBelow, cell_by, covers_ram, greatest_choice}
use Rattle.budget_search.specs.BudgetIntervals.{is_below, covers, serves, lowest_of, AreOrdered, ArePast, AreRows, BeginFrom, EndsAbove, IsRowWithin, IsRun}
use Rattle.budget_search.specs.Sufficient.{HasLeast, IsLeast}
use Rattle.budget_search.specs.declared.budget_intervals.BudgetInterval.{BudgetInterval}
use Rattle.budget_search.specs.declared.trial.BudgetTrial.{BudgetTrial}

-- ---- one interval more, below the others

pub from_less : (n m : ℕ) (rows : List BudgetInterval) → n ≤ m → BeginFrom m rows → BeginFrom n rows
from_less n m [] less from = tt
from_less n m (row ∷ rows) less from = let first = from.0 in (omega (arith, less, first), from_less n m rows less from.1)

-- past an end is above what begins below it
pub past_from : (from : ℕ) (end : Option ℕ) (rows : List BudgetInterval) → IsBelow from end → ArePast end rows → BeginFrom (suc from) rows
past_from from end [] below past = tt
past_from from None (row ∷ rows) below past = absurd past.0
past_from from (Some end) (row ∷ rows) below past = let first = past.0 in (omega (arith, below, first), past_from from (Some end) rows below past.1)

module _ (caps top : ℕ) where
  ordered_more : (row : BudgetInterval) (rows : List BudgetInterval) → AreOrdered caps top rows → ArePast row.ram_below rows → AreRows (row ∷ []) →
      IsRowWithin caps top row → AreOrdered caps top (row ∷ rows) × BeginFrom row.ram_from (row ∷ rows)
  ordered_more row rows is past begins within = (
    record { apart = (past, is.apart); begin = (begins.0, is.begin); within = (within, is.within) },
    (omega arith, from_less row.ram_from (suc row.ram_from) rows (omega arith) (past_from row.ram_from row.ram_below rows begins.0 past)),
  )

  pub ordered_rest : (row : BudgetInterval) (rows : List BudgetInterval) → AreOrdered caps top (row ∷ rows) → AreOrdered caps top rows
  ordered_rest row rows is = record { apart = is.apart.1; begin = is.begin.1; within = is.within.1 }

  abbrev Adds : List BudgetInterval → List BudgetInterval → BudgetInterval → Type 0
  Adds old new row =
      AreOrdered caps top (reverse old) → ArePast row.ram_below (reverse old) → AreRows (row ∷ []) → IsRowWithin caps top row →
      AreOrdered caps top (reverse new) × BeginFrom row.ram_from (reverse new)

  -- by itself
  pub row_last : (old new : List BudgetInterval) (row : BudgetInterval) → new ≡ old ++ row ∷ [] → Adds old new row
  row_last old new row is ordered past begins within =
      subst (λ rows. AreOrdered caps top rows × BeginFrom row.ram_from rows) (sym (ap reverse is ∙ reverse-append old (row ∷ [])))
      (ordered_more row (reverse old) ordered past begins within)

  -- or in one with the last
  pub row_joined : (old rest new : List BudgetInterval) (above row both : BudgetInterval) → old ≡ rest ++ above ∷ [] → new ≡ rest ++ both ∷ [] →
      (AreRows (above ∷ []) → AreRows (row ∷ []) → AreRows (both ∷ [])) → both.ram_from ≡ row.ram_from → both.caps_from ≡ row.caps_from →
      both.ram_below ≡ above.ram_below → Adds old new row
  row_joined old rest new above row both was is joins from needs ends ordered past begins within =
      let last : reverse old ≡ above ∷ reverse rest = ap reverse was ∙ reverse-append rest (above ∷ []) in
      let ordered' = subst (AreOrdered caps top) last ordered in
      let made = ordered_more both (reverse rest) (ordered_rest above (reverse rest) ordered') (subst (λ end. ArePast end (reverse rest)) (sym ends) ordered'.apart.0)
      (joins (ordered'.begin.0, tt) begins)
      (record {
        ram = subst (λ n. n ≤ top) (sym from) within.ram;
        end = subst (λ end. IfSome end (λ e. e ≤ top)) (sym ends) ordered'.within.0.end;
        few = subst (λ n. n ≤ caps) (sym needs) within.few;
      }) in
      subst (λ rows. AreOrdered caps top rows × BeginFrom row.ram_from rows) (sym (ap reverse is ∙ reverse-append rest (both ∷ [])))
      (made.0, subst (λ n. BeginFrom n (both ∷ reverse rest)) from made.1)

-- ---- one run after another

-- a choice that passed is no more than what the run needed
chosen_by : (c p : Bool) (n g from : ℕ) → g ≤ from → (if c && p then max n g else g) ≤ (if p then max n from else from)
chosen_by true true n g from less = grind (arith, less)
chosen_by true false n g from less = less
chosen_by false true n g from less = grind (arith, less)
chosen_by false false n g from less = less

chosen_within : (budget : Amounts) (needs : List Need) → greatest_choice budget needs ≤ (cell_by budget needs).ram_from
chosen_within budget [] = omega arith
chosen_within budget (need ∷ rest) =
    chosen_by need.choice (covers_ram budget need) need.ram (greatest_choice budget rest) (cell_by budget rest).ram_from (chosen_within budget rest)

end_within : (ram top : ℕ) (end : Option ℕ) → EndsAbove ram top end → IfSome end (λ e. e ≤ top)
end_within ram top None is = tt
end_within ram top (Some end) is = let ends = is.0 in let order = is.1 in omega (arith, ends, order)

-- intervals that begin above a run are past the end of its own
all_past : (ram caps top : ℕ) (end : Option ℕ) (rows : List BudgetInterval) → EndsAbove ram top end → AllByRecursion (λ row. IsRowWithin caps top row) rows →
    BeginFrom (suc ram) rows → ArePast end rows
all_past ram caps top end [] is within above = tt
all_past ram caps top None (row ∷ rows) is within above = let first = above.0 in let up = within.0.ram in absurd (omega (arith, is, first, up))
all_past ram caps top (Some end) (row ∷ rows) is within above =
    let ends = is.0 in
    let first = above.0 in
    (omega (arith, ends, first), all_past ram caps top (Some end) rows is within.1 above.1)

module _ (ram caps top : ℕ) (needs : List Need) (want : Bool) (trial : BudgetTrial) (is : IsRun needs want (record { ram = ram; caps = caps }) trial) (order : ram ≤ top) where
  abbrev one : Amounts
  one = record { ram = ram; caps = caps }

  -- a run that is short of quota adds nothing
  pub refused_order : (rows : List BudgetInterval) → AreOrdered caps top (reverse rows) → BeginFrom (suc ram) (reverse rows) →
      AreOrdered caps top (reverse rows) × BeginFrom trial.meter.choice (reverse rows)
  refused_order rows ordered above =
      let same = ap (λ shown. shown.choice) is.shown in
      let first = chosen_within one needs in
      let within = (in_own_cell one needs).ram.enough in
      (ordered, from_less trial.meter.choice (suc ram) (reverse rows) (omega (arith, same, first, within)) above)

  -- and any other its interval
  pub granted_order : (old new : List BudgetInterval) (row : BudgetInterval) → row.ram_from ≡ trial.meter.least.ram → row.caps_from ≡ trial.meter.least.caps →
      IsBelow ram row.ram_below → EndsAbove ram top row.ram_below → Adds caps top old new row → AreOrdered caps top (reverse old) → BeginFrom (suc ram) (reverse old) →
      AreOrdered caps top (reverse new) × BeginFrom trial.meter.choice (reverse new)
  granted_order old new row from needed below ends adds ordered above =
      let begins = ap (λ shown. shown.ram) is.shown in
      let uses = ap (λ shown. shown.caps) is.shown in
      let same = ap (λ shown. shown.choice) is.shown in
      let first = chosen_within one needs in
      let within = (in_own_cell one needs).ram.enough in
      let few = (in_own_cell one needs).caps.enough in
      let here : row.ram_from ≤ ram = omega (arith, from, begins, within) in
      let added = adds ordered (all_past ram caps top row.ram_below (reverse old) ends ordered.within above) (starts_below row.ram_from ram row.ram_below here below, tt)
      (record { ram = omega (arith, here, order); end = end_within ram top row.ram_below ends; few = omega (arith, needed, uses, few) }) in
      (added.0, from_less trial.meter.choice row.ram_from (reverse new) (omega (arith, from, begins, same, first)) added.1)

-- ---- the minimum

begin_covered : (from caps : ℕ) (end : Option ℕ) → IsBelow from end → (nat_le from from && is_below from end && nat_le caps caps) ≡ true
begin_covered from caps None below = grind (arith, nat_tests)
begin_covered from caps (Some end) below = grind (arith, nat_tests, below)

module _ (row : BudgetInterval) (rows : List BudgetInterval) where
  abbrev pub begin_of : Amounts
  begin_of = record { ram = row.ram_from; caps = row.caps_from }

  -- what others cover has more RAM
  above_only : (others : List BudgetInterval) (budget : Amounts) → BeginFrom (suc row.ram_from) others → serves others budget ≡ true → row.ram_from < budget.ram
  above_only [] budget from served = absurd (cc)
  above_only (other ∷ others) budget from served =
      let first = from.0 in
      elim (covers other budget) as (λ b. covers other budget ≡ b → (b || serves others budget) ≡ true → row.ram_from < budget.ram) [
        | true ↦ λ here _. grind (arith, nat_tests, here, first)
        | false ↦ λ _ there. above_only others budget from.1 there
      ] refl served

  pub first_is_least : (most : Amounts) → AreOrdered most.caps most.ram (row ∷ rows) → IsLeast (serves (row ∷ rows)) most begin_of
  first_is_least most is =
      let begins = is.begin.0 in
      let above = past_from row.ram_from row.ram_below rows begins is.apart.0 in
      record {
        within = record { ram = is.within.0.ram; caps = is.within.0.few };
        sufficient = or_left (covers row begin_of) (serves rows begin_of) (begin_covered row.ram_from row.caps_from row.ram_below begins);
        ram = λ budget _ served. elim (covers row budget) as (λ b. covers row budget ≡ b → (b || serves rows budget) ≡ true → row.ram_from ≤ budget.ram) [
          | true ↦ λ here _. grind (arith, nat_tests, here)
          | false ↦ λ _ there. let more = above_only rows budget above there in omega (arith, more)
        ] refl served;
        caps = λ budget _ served same. elim (covers row budget) as (λ b. covers row budget ≡ b → (b || serves rows budget) ≡ true → row.caps_from ≤ budget.caps) [
          | true ↦ λ here _. grind (arith, nat_tests, here)
          | false ↦ λ _ there. let more = above_only rows budget above there in absurd (omega (arith, more, same))
        ] refl served;
      }

-- of a list of intervals
pub least_of : (most : Amounts) (rows : List BudgetInterval) → AreOrdered most.caps most.ram rows → HasLeast (serves rows) most (lowest_of rows)
least_of most [] is = λ budget within. refl
least_of most (row ∷ rows) is = first_is_least row rows most is
