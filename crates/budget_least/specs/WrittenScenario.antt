-- A scenario with the donations that were measured.
use Rattle.std.specs.Prelude.{ℕ, zero, suc, ◌==◌, List, [], ◌∷◌, slice_index_or, if◌then◌else◌, Option, Some, None}
use Rattle.std.specs.List.{flat_map, join_with_byte, slice_split}
use Rattle.std.specs.Option.{option_or}
use Rattle.budget_least.specs.WrittenDonation.{line_with}
use Rattle.budget_meter.specs.declared.budget.Budget.{Budget}
use Rattle.budget_search.specs.declared.component_line.ComponentLine.{ComponentLine}
use Rattle.budget_least.specs.declared.report.BudgetReport.{BudgetReport}

-- the donation of the scenario's line of a number: that of the last line of the run which has the number and a donation
abbrev pub donation_for : ComponentLine → ℕ → Option Budget
donation_for line number = if line.number == number then line.donation else None

abbrev pub donation_of : List ComponentLine → ℕ → Option Budget
donation_of [] number = None
donation_of (line ∷ lines) number = option_or (donation_of lines number) (donation_for line number)

-- a line with its donation, if it has one
abbrev pub line_of : Option Budget → List ℕ → List ℕ
line_of None line = line
line_of (Some donation) line = line_with (record { ram = donation.ram; caps = donation.caps }) line

-- lines with their donations, from a number on
abbrev pub lines_from : (ℕ → Option Budget) → ℕ → List (List ℕ) → List (List ℕ)
lines_from donations number [] = []
lines_from donations number (line ∷ lines) = line_of (donations number) line ∷ lines_from donations (suc number) lines

-- the scenario: its lines end at bytes of 10
abbrev pub scenario_text : (ℕ → Option Budget) → List ℕ → List ℕ
scenario_text donations text = join_with_byte 10 (lines_from donations 1 (slice_split (λ b. b == 10) text))

-- with the donations that were measured for a report
abbrev pub scenario_of : BudgetReport → List ℕ → List ℕ
scenario_of report text = scenario_text (donation_of (flat_map (λ lines. lines.items) report.scene.steps.items)) text

-- ---- donations by the numbers of lines

abbrev pub donation_at : List (Option Budget) → ℕ → Option Budget
donation_at donations number = slice_index_or donations number None

abbrev pub set_at : ℕ → Budget → (ℕ → Option Budget) → ℕ → Option Budget
set_at number donation donations other = if number == other then Some donation else donations other

-- the lines from a place on, and what is before them
abbrev pub separator : ℕ → List ℕ
separator zero = []
separator (suc place) = 10 ∷ []

abbrev pub text_from : (ℕ → Option Budget) → ℕ → List (List ℕ) → List ℕ
text_from donations zero lines = join_with_byte 10 (lines_from donations 1 lines)
text_from donations (suc place) lines = flat_map (λ line. 10 ∷ line) (lines_from donations (suc (suc place)) lines)
