-- What rows cover.
use Rattle.std.proofs.lemmas.Bool.Decides.{nat_tests}
use Rattle.std.proofs.lemmas.Bool.{cases_lt}
use Rattle.std.proofs.lemmas.List.Folds.{list_any-append}
use Rattle.std.proofs.Math.Seq.{take-append_seam}
use Rattle.std.proofs.Common.{arith, ◌≡◌, ℕ, suc, ◌-◌, ◌<◌, ◌≤◌, ◌&&◌, ◌||◌, Bool, true, false, List, [], ◌∷◌, ◌++◌, nat_lt, nat_le, nat_eq, refl, sym, ap, ◌∙◌, ⊎_elim, subst, max, length, take}
use Rattle.own_model.proofs.ListLemmas.{all_append}
use Rattle.std.specs.Prelude.{if◌then◌else◌, Option, Some, None, is_some}
use Rattle.std.proofs.Math.Bool.{or-false, or_assoc}
use Rattle.own_model.specs.Amounts.{Amounts}
use Rattle.budget_theorems.proofs.CellLemmas.{begins_within, starts_below}
use Rattle.budget_theorems.specs.Need.{Need, IsBelow, cell_by, covers_ram, greatest_choice}
use Rattle.budget_theorems.specs.Intervals.{IntervalOfBudgets, is_covered, interval_of, stretches}
use Rattle.budget_search.specs.BudgetIntervals.{is_below, covers, covered_with, serves, AreRows, Follows, IsRun}
use Rattle.budget_search.specs.declared.budget_intervals.BudgetInterval.{BudgetInterval}
use Rattle.budget_search.specs.declared.trial.BudgetTrial.{BudgetTrial}

-- ---- two rows in one

pub below_through : (r g : ℕ) (end : Option ℕ) → r < g → IsBelow g end → is_below r end ≡ true
below_through r g None less below = refl
below_through r g (Some end) less below = grind (arith, nat_tests, less, below)

-- RAM from f on, in two parts, of which one ends where the other begins
pub in_parts : (f g r : ℕ) (end : Option ℕ) (enough : Bool) → IsBelow g end → f < g →
    (nat_le f r && is_below r end && enough) ≡ ((nat_le g r && is_below r end && enough) || (nat_le f r && nat_lt r g && enough))
in_parts f g r end enough below order =
    ⊎_elim
    (λ less.
    let past : nat_le g r ≡ false = grind (arith, nat_tests, less) in
    let before : nat_lt r g ≡ true = grind (arith, nat_tests, less) in
    let within = below_through r g end less below in
    rw (past, before, within) refl)
    (λ more.
    let past : nat_le g r ≡ true = grind (arith, nat_tests, more) in
    let before : nat_lt r g ≡ false = grind (arith, nat_tests, more) in
    let from : nat_le f r ≡ true = grind (arith, nat_tests, more, order) in
    rw (past, before, from) (sym (or-false (is_below r end && enough))))
    (cases_lt r g)

-- ---- lists of rows

pub serves_more : (rows : List BudgetInterval) (row : BudgetInterval) (budget : Amounts) → serves (rows ++ row ∷ []) budget ≡ (serves rows budget || covers row budget)
serves_more rows row budget =
    list_any-append (λ r. covers r budget) rows (row ∷ []) ∙ ap (λ b. serves rows budget || b) (or-false (covers row budget))

-- a row of which the last was made two
pub serves_joined : (rows : List BudgetInterval) (above row both : BudgetInterval) (budget : Amounts) → covers both budget ≡ (covers above budget || covers row budget) →
    serves (rows ++ both ∷ []) budget ≡ (serves (rows ++ above ∷ []) budget || covers row budget)
serves_joined rows above row both budget joins =
    serves_more rows both budget ∙ ap (λ b. serves rows budget || b) joins
    ∙ sym (or_assoc (serves rows budget) (covers above budget) (covers row budget))
    ∙ ap (λ b. b || covers row budget) (sym (serves_more rows above budget))

-- each of a list's, and of one more
front_of : (rows : List BudgetInterval) (row : BudgetInterval) → AreRows (rows ++ row ∷ []) → AreRows rows × AreRows (row ∷ [])
front_of [] row all = (tt, all)
front_of (first ∷ rows) row all = let parts = front_of rows row all.1 in ((all.0, parts.0), parts.1)

pub are_more : (rows : List BudgetInterval) (row : BudgetInterval) → AreRows rows → AreRows (row ∷ []) → AreRows (rows ++ row ∷ [])
are_more rows row all is = all_append (λ r. IsBelow r.ram_from r.ram_below) rows (row ∷ []) all is

-- a row more, in one with the last
pub adds_joined : (old rest new : List BudgetInterval) (above row both : BudgetInterval) → old ≡ rest ++ above ∷ [] → new ≡ rest ++ both ∷ [] →
    (AreRows (above ∷ []) → AreRows (row ∷ []) → AreRows (both ∷ []) × ((budget : Amounts) → covers both budget ≡ (covers above budget || covers row budget))) →
    AreRows old → AreRows (row ∷ []) → AreRows new × ((budget : Amounts) → serves new budget ≡ (serves old budget || covers row budget))
adds_joined old rest new above row both was is joins all one =
    let parts = front_of rest above (subst AreRows was all) in
    let joined = joins parts.1 one in (
      subst AreRows (sym is) (are_more rest both parts.0 joined.0),
      λ budget. ap (λ rows. serves rows budget) is ∙ serves_joined rest above row both budget (joined.1 budget) ∙ ap (λ rows. serves rows budget || covers row budget) (sym was),
    )

-- and by itself
pub adds_row : (old new : List BudgetInterval) (row : BudgetInterval) → new ≡ old ++ row ∷ [] → AreRows old → AreRows (row ∷ []) →
    AreRows new × ((budget : Amounts) → serves new budget ≡ (serves old budget || covers row budget))
adds_row old new row is all one =
    (subst AreRows (sym is) (are_more old row all one), λ budget. ap (λ rows. serves rows budget) is ∙ serves_more old row budget)

-- the front of a list with more behind it
pub front : (n : ℕ) (xs ys : List BudgetInterval) → length xs ≡ n → take n (xs ++ ys) ≡ xs
front n xs ys same = ap (λ m. take m (xs ++ ys)) (sym same) ∙ take-append_seam xs ys

-- ---- stretches

pub stretch_split : (w : Bool) (one : Amounts) (needs : List Need) (rest : List IntervalOfBudgets) (budget : Amounts) →
    is_covered (interval_of w one needs rest) budget ≡ (is_covered (interval_of w one needs []) budget || is_covered rest budget)
stretch_split true one needs rest budget = refl
stretch_split false one needs rest budget = ap (λ b. b || is_covered rest budget) (sym (or-false (nat_le (cell_by one needs).ram_from budget.ram && nat_le budget.ram one.ram && nat_le (cell_by one needs).caps_from budget.caps)))

module _ (ram caps : ℕ) (needs : List Need) (want : Bool) (trial : BudgetTrial) (is : IsRun needs want (record { ram = ram; caps = caps }) trial) where
  abbrev one : Amounts
  one = record { ram = ram; caps = caps }

  pub begins : trial.meter.least.ram ≡ (cell_by one needs).ram_from
  begins = ap (λ shown. shown.ram) is.shown

  pub needs_caps : trial.meter.least.caps ≡ (cell_by one needs).caps_from
  needs_caps = ap (λ shown. shown.caps) is.shown

  pub chosen : trial.meter.choice ≡ greatest_choice one needs
  chosen = ap (λ shown. shown.choice) is.shown

  pub begins_in : trial.meter.least.ram ≤ ram
  begins_in = let within = begins_within one needs in let same = begins in omega (arith, within, same)

  -- a run in want has no stretch
  pub wanting : (rows : List BudgetInterval) (budget : Amounts) → is_some trial.refused ≡ true →
      serves rows budget ≡ (serves rows budget || is_covered (interval_of want one needs []) budget)
  wanting rows budget refused =
      sym (or-false (serves rows budget))
      ∙ ap (λ w. serves rows budget || is_covered (interval_of w one needs []) budget) (sym refused ∙ is.want)

  -- and the row of any other covers what its stretch does
  pub serving : (row : BudgetInterval) (budget : Amounts) → is_some trial.refused ≡ false → row.ram_from ≡ trial.meter.least.ram → row.caps_from ≡ trial.meter.least.caps →
      is_below budget.ram row.ram_below ≡ nat_le budget.ram ram → covers row budget ≡ is_covered (interval_of want one needs []) budget
  serving row budget granted from needed below =
      (λ i. nat_le ((from ∙ begins) i) budget.ram && below i && nat_le ((needed ∙ needs_caps) i) budget.caps)
      ∙ sym (or-false (nat_le (cell_by one needs).ram_from budget.ram && nat_le budget.ram ram && nat_le (cell_by one needs).caps_from budget.caps))
      ∙ ap (λ w. is_covered (interval_of w one needs []) budget) (sym granted ∙ is.want)

  -- a run in no want adds its row
  pub adds_run : (old new : List BudgetInterval) (row : BudgetInterval) (top : ℕ) → is_some trial.refused ≡ false → row.ram_from ≡ trial.meter.least.ram → row.caps_from ≡ trial.meter.least.caps →
      IsBelow ram row.ram_below → ((n : ℕ) → n ≤ top → is_below n row.ram_below ≡ nat_le n ram) →
      (AreRows old → AreRows (row ∷ []) → AreRows new × ((budget : Amounts) → serves new budget ≡ (serves old budget || covers row budget))) → AreRows old →
      AreRows new × ((budget : Amounts) → budget.ram ≤ top → serves new budget ≡ (serves old budget || is_covered (interval_of want one needs []) budget))
  adds_run old new row top granted from needed below ends adds all =
      let within : row.ram_from ≤ ram = subst (λ n. n ≤ ram) (sym from) begins_in in
      let added = adds all (starts_below row.ram_from ram row.ram_below within below, tt) in (
        added.0,
        λ budget up. added.1 budget ∙ ap (λ b. serves old budget || b) (serving row budget granted from needed (ends budget.ram up)),
      )

-- ---- runs one after another

module _ (each : Amounts → List Need) (want : Amounts → Bool) (caps ram : ℕ) (budget : Amounts) (all : Bool) where
  abbrev at : Amounts
  at = record { ram = ram; caps = caps }

  abbrev choice : ℕ
  choice = greatest_choice at (each at)

  -- what is covered so far and what the runs to come cover is all
  abbrev Splits : Bool → ℕ → ℕ → Type 0
  Splits covered runs top = (covered || is_covered (stretches each want caps runs top) budget) ≡ all

  split_here : (runs : ℕ) (before after : Bool) → after ≡ (before || is_covered (interval_of (want at) at (each at) []) budget) → Splits before (suc runs) ram →
      (after || is_covered (if nat_eq choice 0 then [] else stretches each want caps runs (choice - 1)) budget) ≡ all
  split_here runs before after is so_far =
      let rest = if nat_eq choice 0 then [] else stretches each want caps runs (choice - 1) in
      ap (λ b. b || is_covered rest budget) is
      ∙ or_assoc before (is_covered (interval_of (want at) at (each at) []) budget) (is_covered rest budget)
      ∙ ap (λ b. before || b) (sym (stretch_split (want at) at (each at) rest budget))
      ∙ so_far

  -- after a run with a choice
  pub goes_on : (runs number : ℕ) (before after : Bool) → number ≡ choice → nat_eq number 0 ≡ false →
      after ≡ (before || is_covered (interval_of (want at) at (each at) []) budget) → Splits before (suc runs) ram → Splits after runs (number - 1)
  goes_on runs number before after same other is so_far =
      (λ i. after || is_covered (stretches each want caps runs (same i - 1)) budget)
      ∙ ap (λ b. after || is_covered (if b then [] else stretches each want caps runs (choice - 1)) budget) (sym (ap (λ n. nat_eq n 0) (sym same) ∙ other))
      ∙ split_here runs before after is so_far

  -- and after one without
  pub stops : (runs number : ℕ) (before after : Bool) → number ≡ choice → nat_eq number 0 ≡ true →
      after ≡ (before || is_covered (interval_of (want at) at (each at) []) budget) → Splits before (suc runs) ram → after ≡ all
  stops runs number before after same none is so_far =
      sym (or-false after)
      ∙ ap (λ b. after || is_covered (if b then [] else stretches each want caps runs (choice - 1)) budget) (sym (ap (λ n. nat_eq n 0) (sym same) ∙ none))
      ∙ split_here runs before after is so_far

-- a choice that passed is no more than what the run began with
choice_by : (c p : Bool) (n g top : ℕ) → (p ≡ true → n ≤ top) → g ≤ top → (if c && p then max n g else g) ≤ top
choice_by true true n g top passes less = let more = passes refl in omega (arith, more, less)
choice_by true false n g top passes less = less
choice_by false p n g top passes less = less

choice_within : (budget : Amounts) (needs : List Need) → greatest_choice budget needs ≤ budget.ram
choice_within budget [] = omega arith
choice_within budget (need ∷ rest) =
    choice_by need.choice (covers_ram budget need) need.ram (greatest_choice budget rest) budget.ram (λ passes. grind (arith, nat_tests, passes)) (choice_within budget rest)

module _ (each : Amounts → List Need) (want : Amounts → Bool) (caps ram top : ℕ) (old new : List BudgetInterval) (trial : BudgetTrial)
    (is : IsRun (each (record { ram = ram; caps = caps })) (want (record { ram = ram; caps = caps })) (record { ram = ram; caps = caps }) trial) (order : ram ≤ top)
    (taken : AreRows new
    × ((budget : Amounts) → budget.ram ≤ top → serves new budget
    ≡ (serves old budget || is_covered (interval_of (want (record { ram = ram; caps = caps })) (record { ram = ram; caps = caps }) (each (record { ram = ram; caps = caps })) []) budget))) where
  abbrev from : Amounts
  from = record { ram = ram; caps = caps }

  pub last_run : trial.meter.choice ≡ 0 → Follows each want caps ram top old new None
  last_run none = record {
    rows = taken.0;
    within = tt;
    covers = λ budget up runs.
        stops each want caps ram budget (covered_with each want caps old (suc runs) (Some ram) budget) runs trial.meter.choice (serves old budget) (serves new budget)
        (chosen ram caps (each from) (want from) trial is) (ap (λ n. nat_eq n 0) none) (taken.1 budget up) refl;
  }

  pub next_run : (trial.meter.choice ≡ 0 → ⊥) → Follows each want caps ram top old new (Some (trial.meter.choice - 1))
  next_run some = record {
    rows = taken.0;
    within = let same = chosen ram caps (each from) (want from) trial is in let most = choice_within from (each from) in omega (arith, same, most, order);
    covers = λ budget up runs.
        goes_on each want caps ram budget (covered_with each want caps old (suc runs) (Some ram) budget) runs trial.meter.choice (serves old budget) (serves new budget)
        (chosen ram caps (each from) (want from) trial is) (grind (arith, nat_tests, some)) (taken.1 budget up) refl;
  }

-- with no run left
pub none_left : (each : Amounts → List Need) (want : Amounts → Bool) (caps : ℕ) (rows : List BudgetInterval) (next : Option ℕ) (budget : Amounts) →
    covered_with each want caps rows 0 next budget ≡ serves rows budget
none_left each want caps rows None budget = refl
none_left each want caps rows (Some ram) budget = or-false (serves rows budget)
