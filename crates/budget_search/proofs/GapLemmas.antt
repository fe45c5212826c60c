-- The gaps between intervals, the line that is short of quota with the highest RAM, and the lines that are left out.
use Rattle.std.proofs.Common.{arith, ◌≡◌, ℕ, ◌+◌, ◌-◌, ◌<◌, ◌≤◌, true, false, List, [], ◌∷◌, ◌++◌, length, drop, get_or, drop-cons, add-one, refl, sym, ap, subst, ◌∙◌}
use Rattle.std.proofs.lemmas.Bool.Decides.{nat_tests}
use Rattle.std.proofs.lemmas.List.{append_assoc}
use Rattle.std.proofs.lemmas.Option.{same_Some}
use Rattle.std.specs.Prelude.{Option, Some, None, is_some, nat_lt, if◌then◌else◌}
use Rattle.std.specs.List.{AllByRecursion}
use Rattle.own_model.specs.Amounts.{Amounts}
use Rattle.budget_search.specs.BudgetIntervals.{gaps_after, left_out_at, lowest_of, HasHighest}
use Rattle.budget_search.specs.BudgetIntervals.HasHighest.{is_known, to_come}
use Rattle.budget_search.specs.RunLines.{RunLines}
use Rattle.budget_search.specs.declared.budget_intervals.BudgetGap.{BudgetGap}
use Rattle.budget_search.specs.declared.budget_intervals.BudgetInterval.{BudgetInterval}
use Rattle.budget_search.specs.declared.trial.RefusedLine.{RefusedLine}

-- ---- the highest RAM

none_of : (refused : Option RefusedLine) → is_some refused ≡ false → refused ≡ None
none_of None none = refl
none_of (Some refused) none = absurd (cc)

-- a run that isn't short of quota leaves the line that is known
pub highest_kept : (ram top : ℕ) (told known run : Option RefusedLine) → is_some run ≡ false → (ram ≡ top → run ≡ told) → HasHighest ram top told known → known ≡ told
highest_kept ram top told known run none is (is_known same) = same
highest_kept ram top told known run none is (to_come at first) = first ∙ sym (none_of run none) ∙ is at

-- and so does a run from another RAM
pub highest_before : (ram top : ℕ) (told known : Option RefusedLine) → (ram ≡ top → ⊥) → HasHighest ram top told known → known ≡ told
highest_before ram top told known other (is_known same) = same
highest_before ram top told known other (to_come at first) = absurd (other at)

-- ---- lines that are left out

-- there are none with the minimum if no run has any
pub none_left_out : (lines : Amounts → RunLines) (caps : ℕ) (least : Option Amounts) → ((budget : Amounts) → (lines budget).left_out ≡ []) → left_out_at lines caps least ≡ []
none_left_out lines caps None none = refl
none_left_out lines caps (Some least) none = none (record { ram = least.ram; caps = caps })

-- the minimum has no more RAM than the intervals
pub least_below : (rows : List BudgetInterval) (top : ℕ) (least : Amounts) → Some least ≡ lowest_of rows → AllByRecursion (λ row. row.ram_from ≤ top) rows → least.ram ≤ top
least_below [] top least is all = absurd (cc)
least_below (row ∷ rows) top least is all =
    subst (λ (a : Amounts). a.ram ≤ top) (sym (same_Some least (record { ram = row.ram_from; caps = row.caps_from }) is)) all.0

-- ---- gaps

-- one interval more, where gaps so far and those to come are all
module _ (lines : Amounts → RunLines) (caps : ℕ) (rows : List BudgetInterval) (i : ℕ) (d : BudgetInterval) (within : i < length rows) (holes all : List BudgetGap)
    (end : Option ℕ) (so_far : holes ++ gaps_after lines caps end (drop i rows) ≡ all) where
  abbrev row : BudgetInterval
  row = get_or rows i d

  abbrev rest : List BudgetGap
  rest = gaps_after lines caps row.ram_below (drop (i + 1) rows)

  next_row : drop i rows ≡ row ∷ drop (i + 1) rows
  next_row = drop-cons rows i d within ∙ ap (λ n. row ∷ drop n rows) (sym (add-one i))

  at : (told : Option ℕ) → end ≡ told → holes ++ gaps_after lines caps told (row ∷ drop (i + 1) rows) ≡ all
  at told is = ap (λ l. holes ++ l) ((λ k. gaps_after lines caps (sym is k) (sym next_row k))) ∙ so_far

  -- before the first interval, and after one that the next one follows, there is no gap
  pub first_row : end ≡ None → holes ++ rest ≡ all
  first_row is = at None is

  pub close_row : (below : ℕ) → end ≡ Some below → row.ram_from ≤ below → holes ++ rest ≡ all
  close_row below is near =
      ap (λ b. holes ++ (if b then record { ram_from = below; ram_below = row.ram_from; refused = (lines (record { ram = row.ram_from - 1; caps = caps })).refused } ∷ rest else rest))
      (sym (past below near))
      ∙ at (Some below) is
    where
      past : (below : ℕ) → row.ram_from ≤ below → nat_lt below row.ram_from ≡ false
      past below near = grind (arith, nat_tests, near)

  -- otherwise there is one
  pub gap_row : (below : ℕ) (refused : Option RefusedLine) (more : List BudgetGap) → end ≡ Some below → below < row.ram_from →
      refused ≡ (lines (record { ram = row.ram_from - 1; caps = caps })).refused →
      more ≡ holes ++ record { ram_from = below; ram_below = row.ram_from; refused = refused } ∷ [] → more ++ rest ≡ all
  gap_row below refused more is far told these =
      ap (λ l. l ++ rest) (these ∙ ap (λ r. holes ++ record { ram_from = below; ram_below = row.ram_from; refused = r } ∷ []) told)
      ∙ append_assoc holes (record { ram_from = below; ram_below = row.ram_from; refused = (lines (record { ram = row.ram_from - 1; caps = caps })).refused } ∷ []) rest
      ∙ ap (λ b. holes ++ (if b then record { ram_from = below; ram_below = row.ram_from; refused = (lines (record { ram = row.ram_from - 1; caps = caps })).refused } ∷ rest else rest))
      (sym (apart below far))
      ∙ at (Some below) is
    where
      apart : (below : ℕ) → below < row.ram_from → nat_lt below row.ram_from ≡ true
      apart below far = grind (arith, nat_tests, far)
