-- What a run shows of its lines: those that are left out, and the first that is short of quota.
use Rattle.std.specs.Prelude.{ℕ, List, [], ◌++◌, map, if◌then◌else◌, Option, None}
use Rattle.own_model.specs.Account.{Account}
use Rattle.own_model.specs.Amounts.{Amounts}
use Rattle.budget_theorems.specs.Need.{need_of}
use Rattle.budget_theorems.specs.Test.{Test}
use Rattle.budget_meter.specs.Needs.{capped}
use Rattle.budget_search.specs.Steps.{Mark}
use Rattle.budget_search.specs.declared.trial.BudgetTrial.{BudgetTrial}
use Rattle.budget_search.specs.declared.trial.RefusedLine.{RefusedLine}
use Rattle.budget_search.specs.declared.trial.SkippedLine.{SkippedLine}

-- of a run up to its first line that is short of quota
pub record RunLines : Type 0 where
  pub left_out : List SkippedLine
  pub refused : Option RefusedLine

-- of a trial
abbrev pub lines_in : BudgetTrial → RunLines
lines_in trial = record { left_out = trial.left_out.items; refused = trial.refused }

-- no line is left out or short of quota
abbrev pub no_lines : RunLines
no_lines = record { left_out = []; refused = None }

-- the run ends with a line that is short of quota, if there is one
abbrev pub ended_by : Option RefusedLine → RunLines
ended_by refused = record { left_out = []; refused = refused }

-- lines are left out before all others
abbrev pub preceded : List SkippedLine → RunLines → RunLines
preceded left_out lines = record lines { left_out = left_out ++ lines.left_out }

-- a line that is left out, with the need of what it asks of an account, in a run from a budget: the minimum budget that covers
-- that, at most 2^64 - 1
abbrev pub skipped_line : Amounts → Account → ℕ → Test → SkippedLine
skipped_line budget account number asked = record { line = number; need = capped (need_of budget account asked) }

abbrev pub skipped_lines : Amounts → Account → ℕ → List Test → List SkippedLine
skipped_lines budget account number asked = map (skipped_line budget account number) asked

-- a line of this mark is left out: it counts if it asks for something, and if its refusal may be a shortage
abbrev pub skipped_by : Amounts → Account → Mark → List Test → List SkippedLine
skipped_by budget account mark asked = if mark.may_be_short then skipped_lines budget account mark.number asked else []
