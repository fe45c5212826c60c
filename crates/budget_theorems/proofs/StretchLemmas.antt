-- Stretches are the budgets in no want.
use Rattle.std.proofs.lemmas.Bool.Decides.{nat_tests}
use Rattle.std.proofs.Common.{arith, ◌≡◌, ℕ, zero, suc, ◌-◌, ◌<◌, ◌≤◌, ◌&&◌, Bool, true, false, List, [], ◌∷◌, nat_lt, nat_eq, refl, sym, ap, ◌∙◌, true≢false, ⊎_elim, ◌||◌}
use Rattle.std.proofs.lemmas.Bool.{cases_lt, or_left}
use Rattle.std.specs.Prelude.{if◌then◌else◌, max, not}
use Rattle.own_model.specs.Amounts.{Amounts}
use Rattle.own_model.specs.Call.{Call}
use Rattle.own_model.specs.OwnState.{OwnState}
use Rattle.own_model.specs.OwnStep.{own_step}
use Rattle.own_model.specs.StartList.{Entry}
use Rattle.budget_theorems.proofs.CellLemmas.{in_own_cell, starts_below}
use Rattle.budget_theorems.proofs.RunLemmas.{want_within, want_below}
use Rattle.budget_theorems.proofs.SessionRunLemmas.{session_within, session_below}
use Rattle.budget_theorems.specs.Need.{Need, Cell, IsBelow, HasRam, cell_by, covers_ram, greatest_choice, budgeted, needs}
use Rattle.budget_theorems.specs.Request.{donating}
use Rattle.budget_theorems.specs.RequestTheorems.{session_needs, session_is_short}
use Rattle.budget_theorems.specs.Intervals.{IntervalOfBudgets, covers, is_covered, interval_of, stretches, up_to_shortfall, needs_to_shortfall, AccountIntervalsAreExact, EndingIntervalsAreExact, SessionStretchesAreExact}
use Rattle.budget_theorems.specs.Shortfall.{wants, run_is_short}

-- a choice that passed is no more than a cell's beginning, and than its budget
choice_by : (c p : Bool) (n g from top : ℕ) → (p ≡ true → n ≤ top) → (g ≤ from) × (g ≤ top) →
    ((if c && p then max n g else g) ≤ (if p then max n from else from)) × ((if c && p then max n g else g) ≤ top)
choice_by true true n g from top within both = let w = within refl in let a = both.0 in let b = both.1 in (grind (arith, a), grind (arith, w, b))
choice_by true false n g from top within both = both
choice_by false true n g from top within both = let a = both.0 in (grind (arith, a), both.1)
choice_by false false n g from top within both = both

choice_within : (budget : Amounts) (needs : List Need) → (greatest_choice budget needs ≤ (cell_by budget needs).ram_from) × (greatest_choice budget needs ≤ budget.ram)
choice_within budget [] = (omega arith, omega arith)
choice_within budget (need ∷ rest) =
    choice_by need.choice (covers_ram budget need) need.ram (greatest_choice budget rest) (cell_by budget rest).ram_from budget.ram
    (λ passes. grind (arith, nat_tests, passes)) (choice_within budget rest)

-- the second of two
or_second : (a b : Bool) → a ≡ false → (a || b) ≡ b
or_second true b is = absurd (true≢false is)
or_second false b is = refl

-- neither of two
neither : (a b : Bool) → ((not a && not b) || false) ≡ not (a || b)
neither true b = refl
neither false true = refl
neither false false = refl

not_one : (a : Bool) → false ≡ not (a || true)
not_one true = refl
not_one false = refl

module _ (each : Amounts → List Need) (want : Amounts → Bool) (within : (one other : Amounts) → IsBelow other.caps (cell_by one (each one)).caps_below → HasRam (cell_by one (each one)) other.ram → want other ≡ (want one || nat_lt other.caps (cell_by one (each one)).caps_from)) (below : (one other : Amounts) → IsBelow other.caps (cell_by one (each one)).caps_below → other.ram < (cell_by one (each one)).ram_from → greatest_choice one (each one) ≤ other.ram → want other ≡ true) (caps : ℕ) (budget : Amounts) (few : budget.caps ≤ caps) where
  -- the stretches that follow a choice
  abbrev later : ℕ → ℕ → List IntervalOfBudgets
  later runs number = if nat_eq number 0 then [] else stretches each want caps runs (number - 1)

  -- where later stretches don't cover it, a run's own stretch does exactly where neither is so
  decided : (w a b : Bool) (own : IntervalOfBudgets) (rest : List IntervalOfBudgets) → covers budget own ≡ (not a && not b) → is_covered rest budget ≡ false →
      is_covered (if w then rest else own ∷ rest) budget ≡ not (a || (w || b))
  decided true a b own rest covered none = none ∙ not_one a
  decided false a b own rest covered none = (λ i. covered i || none i) ∙ neither a b

  module _ (top : ℕ) where
    abbrev one : Amounts
    one = record { ram = top; caps = caps }

    abbrev c : Cell
    c = cell_by one (each one)

    abbrev choice : ℕ
    choice = greatest_choice one (each one)

    few_there : IsBelow budget.caps c.caps_below
    few_there = starts_below budget.caps caps c.caps_below few (in_own_cell one (each one)).caps.below

    -- from the choice on a budget is in want below the cell, where the run is, and with fewer capabilities than it needed
    want_there : budget.ram ≤ top → choice ≤ budget.ram → want budget ≡ (nat_lt budget.ram c.ram_from || (want one || nat_lt budget.caps c.caps_from))
    want_there up from =
        ⊎_elim
        (λ less. below one budget few_there less from ∙ sym (or_left (nat_lt budget.ram c.ram_from) (want one || nat_lt budget.caps c.caps_from) (grind (arith, nat_tests, less))))
        (λ more.
        within one budget few_there (record { enough = more; below = starts_below budget.ram top c.ram_below up (in_own_cell one (each one)).ram.below })
        ∙ sym (or_second (nat_lt budget.ram c.ram_from) (want one || nat_lt budget.caps c.caps_from) (grind (arith, nat_tests, more))))
        (cases_lt budget.ram c.ram_from)

    abbrev own : IntervalOfBudgets
    own = record { ram_from = c.ram_from; ram_to = top; caps_from = c.caps_from }

    covers_is : budget.ram ≤ top → covers budget own ≡ (not (nat_lt budget.ram c.ram_from) && not (nat_lt budget.caps c.caps_from))
    covers_is up = grind (arith, nat_tests, up)

    -- so its own stretch decides
    here_by : (rest : List IntervalOfBudgets) → budget.ram ≤ top → choice ≤ budget.ram → is_covered rest budget ≡ false → is_covered (interval_of (want one) one (each one) rest) budget ≡ not (want budget)
    here_by rest up from none =
        decided (want one) (nat_lt budget.ram c.ram_from) (nat_lt budget.caps c.caps_from) own rest (covers_is up) none ∙ sym (ap not (want_there up from))

    -- a budget below a stretch, or above it, isn't covered by it
    passed_by : (w : Bool) (rest : List IntervalOfBudgets) → covers budget own ≡ false → is_covered (interval_of w one (each one) rest) budget ≡ is_covered rest budget
    passed_by true rest out = refl
    passed_by false rest out = ap (λ b. b || is_covered rest budget) out

  -- no stretch goes further than its top
  none_above : (runs top : ℕ) → top < budget.ram → is_covered (stretches each want caps runs top) budget ≡ false
  none_above zero top above = refl
  none_above (suc runs) top above =
      let within_top = (choice_within (one top) (each (one top))).1 in
      passed_by top (want (one top)) (later runs (choice top)) (grind (arith, nat_tests, above))
      ∙ elim (nat_eq (choice top) 0) as (λ b. is_covered (if b then [] else stretches each want caps runs (choice top - 1)) budget ≡ false) [
        | true ↦ refl
        | false ↦ none_above runs (choice top - 1) (omega (arith, within_top, above))
      ]

  -- nor those that follow a choice that is covered
  none_after : (runs number : ℕ) → number ≤ budget.ram → is_covered (later runs number) budget ≡ false
  none_after runs number from =
      elim (nat_eq number 0) as (λ b. nat_eq number 0 ≡ b → is_covered (if b then [] else stretches each want caps runs (number - 1)) budget ≡ false) [
        | true ↦ λ _. refl
        | false ↦ λ other. none_above runs (number - 1) (grind (arith, nat_tests, other, from))
      ] refl

  -- those that follow a greater one are those from below it
  later_is : (runs number : ℕ) → budget.ram < number → later runs number ≡ stretches each want caps runs (number - 1)
  later_is runs number less =
      let other : nat_eq number 0 ≡ false = grind (arith, nat_tests, less) in
      ap (λ b. if b then [] else stretches each want caps runs (number - 1)) other

  pub exact : (runs top : ℕ) → top < runs → budget.ram ≤ top → is_covered (stretches each want caps runs top) budget ≡ not (want budget)
  exact zero top enough up = absurd (omega (arith, enough))
  exact (suc runs) top enough up =
      ⊎_elim
      (λ less.
      let bounds = choice_within (one top) (each (one top)) in
      let from = bounds.0 in
      let most = bounds.1 in
      passed_by top (want (one top)) (later runs (choice top)) (grind (arith, nat_tests, from, less))
      ∙ ap (λ rest. is_covered rest budget) (later_is runs (choice top) less)
      ∙ exact runs (choice top - 1) (omega (arith, enough, most, less)) (omega (arith, less)))
      (λ from. here_by top (later runs (choice top)) up from (none_after runs (choice top) from))
      (cases_lt budget.ram (choice top))

pub account_exact : AccountIntervalsAreExact
account_exact entry calls s caps top budget few up =
    exact (λ one. needs entry one calls (budgeted one s)) (λ one. run_is_short entry calls (budgeted one s))
    (λ one other. want_within entry calls s one other) (λ one other. want_below entry calls s one other) caps budget few (suc top) top (omega arith) up

pub session_exact : SessionStretchesAreExact
session_exact all session caps top donation few up =
    exact (λ one. session_needs one all (donating one session)) (λ one. session_is_short all (donating one session))
    (λ one other. session_within all session one other) (λ one other. session_below all session one other) caps donation few (suc top) top (omega arith) up

-- ---- runs that end with the first want

-- a part that is in want
wanting_part : (w : Bool) (entry : Entry) (call : Call) (calls part : List Call) (s : OwnState) →
    (run_is_short entry part (own_step entry call s).next ≡ true → run_is_short entry calls (own_step entry call s).next ≡ true) →
    (w || run_is_short entry part (own_step entry call s).next) ≡ true → (w || run_is_short entry calls (own_step entry call s).next) ≡ true
wanting_part true entry call calls part s rest is = refl
wanting_part false entry call calls part s rest is = rest is

-- a budget that is in want with the calls up to another's first want is in want with all of them
prefix_wants : (entry : Entry) (calls : List Call) (t s : OwnState) → run_is_short entry (up_to_shortfall entry calls t) s ≡ true → run_is_short entry calls s ≡ true
prefix_wants entry [] t s is = is
prefix_wants entry (call ∷ calls) t s is =
    elim (wants call (own_step entry call t).reply) as
    (λ b. run_is_short entry (call ∷ (if b then [] else up_to_shortfall entry calls (own_step entry call t).next)) s ≡ true → run_is_short entry (call ∷ calls) s ≡ true) [
      | true ↦ wanting_part (wants call (own_step entry call s).reply) entry call calls [] s (λ no. absurd (true≢false (sym no)))
      | false ↦ wanting_part (wants call (own_step entry call s).reply) entry call calls (up_to_shortfall entry calls (own_step entry call t).next) s
          (prefix_wants entry calls (own_step entry call t).next (own_step entry call s).next)
    ] is

-- and a run is in want with its own part exactly where it is with all
prefix_same : (entry : Entry) (calls : List Call) (s : OwnState) → run_is_short entry (up_to_shortfall entry calls s) s ≡ run_is_short entry calls s
prefix_same entry [] s = refl
prefix_same entry (call ∷ calls) s =
    elim (wants call (own_step entry call s).reply) as
    (λ b. (b || run_is_short entry (if b then [] else up_to_shortfall entry calls (own_step entry call s).next) (own_step entry call s).next)
    ≡ (b || run_is_short entry calls (own_step entry call s).next)) [
      | true ↦ refl
      | false ↦ prefix_same entry calls (own_step entry call s).next
    ]

-- where a run is in no want its part is all of it
prefix_all : (entry : Entry) (calls : List Call) (s : OwnState) → run_is_short entry calls s ≡ false → up_to_shortfall entry calls s ≡ calls
prefix_all entry [] s is = refl
prefix_all entry (call ∷ calls) s is =
    elim (wants call (own_step entry call s).reply) as
    (λ b. (b || run_is_short entry calls (own_step entry call s).next) ≡ false →
    call ∷ (if b then [] else up_to_shortfall entry calls (own_step entry call s).next) ≡ call ∷ calls) [
      | true ↦ λ no. absurd (true≢false no)
      | false ↦ λ no. ap (λ rest. call ∷ rest) (prefix_all entry calls (own_step entry call s).next no)
    ] is

module _ (entry : Entry) (calls : List Call) (s : OwnState) (one other : Amounts) where
  abbrev part : List Call
  part = up_to_shortfall entry calls (budgeted one s)

  abbrev needed : List Need
  needed = needs_to_shortfall entry calls s one

  abbrev here : Bool
  here = run_is_short entry calls (budgeted one s)

  abbrev there : Bool
  there = run_is_short entry calls (budgeted other s)

  ending_wants : run_is_short entry part (budgeted other s) ≡ true → there ≡ true
  ending_wants = prefix_wants entry calls (budgeted one s) (budgeted other s)

  within_by : (b few : Bool) → here ≡ b → run_is_short entry part (budgeted other s) ≡ (here || few) → there ≡ (here || few)
  within_by true few is part_is = ending_wants (part_is ∙ ap (λ x. x || few) is) ∙ sym (ap (λ x. x || few) is)
  within_by false few is part_is = ap (λ each. run_is_short entry each (budgeted other s)) (sym (prefix_all entry calls (budgeted one s) is)) ∙ part_is

  ending_within : IsBelow other.caps (cell_by one needed).caps_below → HasRam (cell_by one needed) other.ram → there ≡ (here || nat_lt other.caps (cell_by one needed).caps_from)
  ending_within few has =
      within_by here (nat_lt other.caps (cell_by one needed).caps_from) refl
      (want_within entry part s one other few has ∙ ap (λ x. x || nat_lt other.caps (cell_by one needed).caps_from) (prefix_same entry calls (budgeted one s)))

  ending_below : IsBelow other.caps (cell_by one needed).caps_below → other.ram < (cell_by one needed).ram_from → greatest_choice one needed ≤ other.ram → there ≡ true
  ending_below few less chosen = ending_wants (want_below entry part s one other few less chosen)

pub ending_exact : EndingIntervalsAreExact
ending_exact entry calls s caps top budget few up =
    exact (needs_to_shortfall entry calls s) (λ one. run_is_short entry calls (budgeted one s)) (ending_within entry calls s) (ending_below entry calls s) caps budget few (suc top) top (omega arith) up
