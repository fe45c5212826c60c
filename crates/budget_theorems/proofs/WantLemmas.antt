-- Want by the needs of one run: whoever makes the run.
use Rattle.std.proofs.Common.{arith, ◌≡◌, ◌<◌, ◌≤◌, ◌⊎◌, inl, inr, Bool, true, false, List, nat_lt, refl, sym, ◌∙◌, true≢false, ◌||◌}
use Rattle.std.proofs.lemmas.Bool.{or_right}
use Rattle.std.specs.List.{AllByRecursion}
use Rattle.own_model.specs.Amounts.{Amounts}
use Rattle.budget_theorems.proofs.CellLemmas.{Leads, in_cell_of, in_cell_to, leads_within, leads_below, begins_within, in_by_parts, enough_in}
use Rattle.budget_theorems.specs.Need.{Need, IsBelow, HasRam, IsIn, ComesOutAlike, cell_by, greatest_choice}

same_or : (b few : Bool) → few ≡ false → b ≡ (b || few)
same_or b true enough = absurd (true≢false enough)
same_or true false enough = refl
same_or false false enough = refl

-- if tests come out alike, two runs are both short of quota, or neither is
abbrev pub FallShortAlike : Amounts → Amounts → List Need → Bool → Bool → Type 0
FallShortAlike one other each here there = AllByRecursion (ComesOutAlike one other) each → there ≡ here

-- if tests lead to a first difference, they come out alike, or the other run is short of quota
abbrev pub AlikeOrShort : Amounts → Amounts → List Need → Bool → Type 0
AlikeOrShort one other each there =
    AllByRecursion (Leads one other) each → AllByRecursion (ComesOutAlike one other) each ⊎ (there ≡ true)

module _ (one other : Amounts) (each : List Need) (here there : Bool) (alike : FallShortAlike one other each here there) (decides : AlikeOrShort one other each there) where
  in_or_want : AllByRecursion (Leads one other) each → IsIn (cell_by one each) other ⊎ (there ≡ true)
  in_or_want led = elim (decides led) [ inl same ↦ inl (in_cell_to one other each same) | inr short ↦ inr short ]

  -- with as many capabilities as were needed as here, and with fewer in want
  by_caps : (few : Bool) → (few ≡ false → IsIn (cell_by one each) other) → there ≡ true → there ≡ (here || few)
  by_caps true enough short = short ∙ sym (or_right here true refl)
  by_caps false enough short = alike (in_cell_of one other each (enough refl)) ∙ same_or here false refl

  pub within_by : IsBelow other.caps (cell_by one each).caps_below → HasRam (cell_by one each) other.ram → there ≡ (here || nat_lt other.caps (cell_by one each).caps_from)
  within_by few has =
      elim (in_or_want (leads_within one other each few has)) [
        | inl is ↦ alike (in_cell_of one other each is) ∙ same_or here (nat_lt other.caps (cell_by one each).caps_from) (enough_in one other each is)
        | inr short ↦ by_caps (nat_lt other.caps (cell_by one each).caps_from) (in_by_parts one other each few has) short
      ]

  pub below_by : IsBelow other.caps (cell_by one each).caps_below → other.ram < (cell_by one each).ram_from → greatest_choice one each ≤ other.ram → there ≡ true
  below_by few less chosen =
      elim (in_or_want (leads_below one other each few chosen (omega (arith, less, begins_within one each)))) [
        | inr short ↦ short
        | inl is ↦ absurd (omega (arith, less, is.ram.enough))
      ]
