-- A cell is where each test comes out alike.
use Rattle.budget_theorems.proofs.CellLemmas.{in_cell_of, in_cell_to, in_own_cell}
use Rattle.budget_theorems.specs.Need.{needs, budgeted}
use Rattle.budget_theorems.proofs.accounts.cells_are_exact.Goals as goal

pub returns-clause-exact : goal.returns-clause-exact
returns-clause-exact c entry calls s one other =
    (in_cell_of one other (needs entry one calls (budgeted one s)), in_cell_to one other (needs entry one calls (budgeted one s)))

pub returns-clause-own : goal.returns-clause-own
returns-clause-own c entry calls s budget = in_own_cell budget (needs entry budget calls (budgeted budget s))
