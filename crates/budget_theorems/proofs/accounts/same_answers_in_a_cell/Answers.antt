-- Answers in a cell.
use Rattle.budget_theorems.proofs.RunLemmas.{same_in_cell}
use Rattle.budget_theorems.proofs.accounts.same_answers_in_a_cell.Goals as goal

pub returns : goal.returns
returns c = same_in_cell
