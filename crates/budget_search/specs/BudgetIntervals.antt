-- The budgets that intervals cover, and the runs from which they are made.
use Rattle.std.specs.Prelude.{◌≡◌, ◌≤◌, ◌<◌, ◌-◌, ℕ, suc, ◌&&◌, ◌||◌, Bool, true, List, [], ◌∷◌, ◌++◌, ⊤, max, nat_eq, nat_le, nat_lt, is_some, if◌then◌else◌, Option, Some, None, IfSome}
use Rattle.std.specs.List.{AllByRecursion, list_any}
use Rattle.std.specs.Str.{bytes_eq}
use Rattle.own_model.specs.Amounts.{Amounts}
use Rattle.list_parser.specs.declared.fault.BootFault.{BootFault}
use Rattle.budget_theorems.specs.Need.{Need, IsBelow}
use Rattle.budget_theorems.specs.Intervals.{is_covered, stretches}
use Rattle.budget_meter.specs.Needs.{shown_by, shown_in}
use Rattle.budget_search.specs.RunLines.{RunLines}
use Rattle.budget_search.specs.declared.budget_intervals.BudgetChoice.{BudgetChoice}
use Rattle.budget_search.specs.declared.budget_intervals.BudgetChoice.TheVariants.{Minimum, Safe}
use Rattle.budget_search.specs.declared.budget_intervals.BudgetGap.{BudgetGap}
use Rattle.budget_search.specs.declared.budget_intervals.BudgetInterval.{BudgetInterval}
use Rattle.budget_search.specs.declared.budget_intervals.BudgetIntervals.{BudgetIntervals}
use Rattle.budget_search.specs.declared.budget_intervals.Likeness.{Likeness}
use Rattle.budget_search.specs.declared.budget_intervals.Likeness.TheVariants.{Same, Mixed, Other}
use Rattle.budget_search.specs.declared.trial.BudgetTrial.{BudgetTrial}
use Rattle.budget_search.specs.declared.trial.RefusedLine.{RefusedLine}
use Rattle.budget_search.specs.declared.trial.SkippedLine.{SkippedLine}

-- a number is below another, if there is one
abbrev pub is_below : ℕ → Option ℕ → Bool
is_below n None = true
is_below n (Some end) = nat_lt n end

-- an interval covers a budget
abbrev pub covers : BudgetInterval → Amounts → Bool
covers row budget = nat_le row.ram_from budget.ram && is_below budget.ram row.ram_below && nat_le row.caps_from budget.caps

-- some interval does: the budget is sufficient
abbrev pub serves : List BudgetInterval → Amounts → Bool
serves rows budget = list_any (λ row. covers row budget) rows

-- each interval begins below its end
abbrev pub AreRows : List BudgetInterval → Type 0
AreRows rows = AllByRecursion (λ row. IsBelow row.ram_from row.ram_below) rows

-- ---- the minimum

-- all intervals begin at so much RAM, or above
abbrev pub BeginFrom : ℕ → List BudgetInterval → Type 0
BeginFrom ram rows = AllByRecursion (λ row. ram ≤ row.ram_from) rows

-- an interval is within so many capabilities and bytes
pub record IsRowWithin (caps top : ℕ) (row : BudgetInterval) : Type 0 where
  pub ram : row.ram_from ≤ top
  pub end : IfSome row.ram_below (λ end. end ≤ top)
  pub few : row.caps_from ≤ caps

-- so much RAM is where an interval ends, or above; if it has no end, there is none
abbrev pub IsPast : Option ℕ → ℕ → Type 0
IsPast None ram = ⊥
IsPast (Some end) ram = end ≤ ram

-- all intervals begin there
abbrev pub ArePast : Option ℕ → List BudgetInterval → Type 0
ArePast end rows = AllByRecursion (λ row. IsPast end row.ram_from) rows

-- each interval ends where the next one begins, or below
abbrev pub AreApart : List BudgetInterval → Type 0
AreApart [] = ⊤
AreApart (row ∷ rows) = ArePast row.ram_below rows × AreApart rows

-- intervals from the lowest RAM on, each of which begins below its end, and within so many capabilities and bytes
pub record AreOrdered (caps top : ℕ) (rows : List BudgetInterval) : Type 0 where
  pub apart : AreApart rows
  pub begin : AreRows rows
  pub within : AllByRecursion (λ row. IsRowWithin caps top row) rows

-- the beginning of the first interval, if there is one
abbrev pub lowest_of : List BudgetInterval → Option Amounts
lowest_of [] = None
lowest_of (row ∷ rows) = Some (record { ram = row.ram_from; caps = row.caps_from })

-- ---- the safe budget

-- with an interval before others: it begins the last ones that leave no RAM between them, of which the last has no end. So many
-- capabilities suffice for each of these
abbrev pub safe_before : BudgetInterval → Option ℕ → Option Amounts → Option Amounts
safe_before row None None = Some (record { ram = row.ram_from; caps = row.caps_from })
safe_before row (Some end) None = None
safe_before row None (Some safe) = Some safe
safe_before row (Some end) (Some safe) =
    if nat_eq end safe.ram then Some (record { ram = row.ram_from; caps = max row.caps_from safe.caps }) else Some safe

abbrev pub safe_of : List BudgetInterval → Option Amounts
safe_of [] = None
safe_of (row ∷ rows) = safe_before row row.ram_below (safe_of rows)

-- the budget that is written
abbrev pub chosen_of : BudgetChoice → List BudgetInterval → Option Amounts
chosen_of Minimum rows = lowest_of rows
chosen_of Safe rows = safe_of rows

-- ---- replies

-- whether replies are those under the given budget; without these they count as the same
abbrev pub likeness_of : List ℕ → Option (List ℕ) → Likeness
likeness_of replies None = Same
likeness_of replies (Some given) = if bytes_eq replies given then Same else Other

-- two intervals in one have in part other replies, unless both have the same ones or both other ones
abbrev pub both_alike : Likeness → Likeness → Likeness
both_alike Same Same = Same
both_alike Other Other = Other
both_alike above below = Mixed

-- an interval in one with the one directly below it
abbrev pub joined_with : BudgetInterval → BudgetInterval → BudgetInterval
joined_with above below = record {
  ram_from = below.ram_from;
  ram_below = above.ram_below;
  caps_from = below.caps_from;
  likeness = both_alike above.likeness below.likeness;
}

-- intervals have one more below them with this likeness, by itself or in one with the last
pub data IsAdded (told : Likeness) (old new : List BudgetInterval) : Type 0 where
  by_itself : (row : BudgetInterval) → row.likeness ≡ told → new ≡ old ++ row ∷ [] → IsAdded told old new
  in_one : (row above : BudgetInterval) (rest : List BudgetInterval) → row.likeness ≡ told → old ≡ rest ++ above ∷ [] →
      new ≡ rest ++ joined_with above row ∷ [] → IsAdded told old new

-- ---- what is found

-- the same is found: the intervals and the gaps between them, the lines that are left out, and the refused line
pub record IsFoundAlike (one other : BudgetIntervals) : Type 0 where
  pub rows : one.rows.items ≡ other.rows.items
  pub gaps : one.holes.items ≡ other.holes.items
  pub left_out : one.left_out.items ≡ other.left_out.items
  pub refused : one.refused ≡ other.refused

-- ---- runs

-- a run from this RAM, of at most so much, has an interval that ends directly above it, or has no end
abbrev pub EndsAbove : ℕ → ℕ → Option ℕ → Type 0
EndsAbove ram top None = ram ≡ top
EndsAbove ram top (Some end) = (end ≡ suc ram) × (ram < top)

-- a run from a budget has these needs, and is short of quota or not
pub record IsRun (needs : List Need) (wanting : Bool) (budget : Amounts) (trial : BudgetTrial) : Type 0 where
  pub shown : shown_in trial.meter ≡ shown_by budget needs
  pub want : is_some trial.refused ≡ wanting

-- the budgets that intervals cover together with at most this number of runs from this RAM on; without a next run, those that
-- they cover
abbrev pub covered_with : (Amounts → List Need) → (Amounts → Bool) → ℕ → List BudgetInterval → ℕ → Option ℕ → Amounts → Bool
covered_with each want caps rows runs None budget = serves rows budget
covered_with each want caps rows runs (Some ram) budget = serves rows budget || is_covered (stretches each want caps runs ram) budget

-- the run from this RAM was accepted: intervals and the following runs cover as much as before
pub record Follows (each : Amounts → List Need) (want : Amounts → Bool) (caps ram top : ℕ) (old new : List BudgetInterval) (next : Option ℕ) : Type 0 where
  pub rows : AreRows new
  pub within : IfSome next (λ n. n ≤ top)
  pub covers : (budget : Amounts) → budget.ram ≤ top → (runs : ℕ) →
      covered_with each want caps new runs next budget ≡ covered_with each want caps old (suc runs) (Some ram) budget

-- ---- the lines that runs show

-- the highest RAM has this line that is short of quota: either it is known, or the run from that RAM is still to come
pub data HasHighest (ram top : ℕ) (told known : Option RefusedLine) : Type 0 where
  is_known : known ≡ told → HasHighest ram top told known
  to_come : ram ≡ top → known ≡ None → HasHighest ram top told known

-- between the end of an interval and the next one is a gap, if that begins above the end: it has the line that is short of quota
-- directly below the next one
abbrev pub gap_before : (Amounts → RunLines) → ℕ → ℕ → BudgetInterval → List BudgetGap → List BudgetGap
gap_before lines caps end row rest =
    if nat_lt end row.ram_from
    then record { ram_from = end; ram_below = row.ram_from; refused = (lines (record { ram = row.ram_from - 1; caps = caps })).refused } ∷ rest
    else rest

-- the gaps between intervals, from the lowest RAM on, after an interval with this end; before the first one there is none
abbrev pub gaps_after : (Amounts → RunLines) → ℕ → Option ℕ → List BudgetInterval → List BudgetGap
gaps_after lines caps end [] = []
gaps_after lines caps None (row ∷ rows) = gaps_after lines caps row.ram_below rows
gaps_after lines caps (Some end) (row ∷ rows) = gap_before lines caps end row (gaps_after lines caps row.ram_below rows)

-- the lines that are left out with the RAM of the minimum and so many capabilities; without a minimum there are none
abbrev pub left_out_at : (Amounts → RunLines) → ℕ → Option Amounts → List SkippedLine
left_out_at lines caps None = []
left_out_at lines caps (Some least) = (lines (record { ram = least.ram; caps = caps })).left_out

-- what is found has the lines that runs show: the one that is short of quota with the most, if there is one, those of the gaps
-- between the intervals, and those that are left out with the RAM of the minimum
pub record HasRunLines (lines : Amounts → RunLines) (most : Amounts) (found : BudgetIntervals) : Type 0 where
  pub highest : found.refused ≡ (lines most).refused
  pub gaps : found.holes.items ≡ gaps_after lines most.caps None found.rows.items
  pub left_out : found.left_out.items ≡ left_out_at lines most.caps (lowest_of found.rows.items)

-- a run from no more than this RAM has this error
pub record FailsWithin (fails : ℕ → BootFault → Type 0) (top : ℕ) (fault : BootFault) : Type 0 where
  pub ram : ℕ
  pub within : ram ≤ top
  pub its : fails ram fault
