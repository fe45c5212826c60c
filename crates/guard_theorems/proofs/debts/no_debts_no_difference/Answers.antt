-- Lines without debts.
use Rattle.guard_theorems.proofs.DebtLemmas.{no_debts_no_difference, alike_no_debt}
use Rattle.guard_theorems.proofs.debts.no_debts_no_difference.Goals as goal

pub returns-clause-run : goal.returns-clause-run
returns-clause-run c = no_debts_no_difference

pub returns-clause-tests : goal.returns-clause-tests
returns-clause-tests c = alike_no_debt
