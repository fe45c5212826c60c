-- Want, within a cell and below it.
use Rattle.budget_theorems.proofs.RunLemmas.{want_within, want_below}
use Rattle.budget_theorems.proofs.accounts.shortfall_by_cells.Goals as goal

pub returns-clause-within : goal.returns-clause-within
returns-clause-within c = want_within

pub returns-clause-below : goal.returns-clause-below
returns-clause-below c = want_below
