-- Worked budgets, by computing.
use Rattle.std.proofs.Common.{refl}
use Rattle.budget_theorems.proofs.rows.budgets_are_worked.Goals as goal

pub returns-clause-two_charges : goal.returns-clause-two_charges
returns-clause-two_charges c = (refl, refl, refl, refl)

pub returns-clause-bytes_first : goal.returns-clause-bytes_first
returns-clause-bytes_first c = refl

pub returns-clause-after_exit : goal.returns-clause-after_exit
returns-clause-after_exit c = (refl, refl)

pub returns-clause-first_growth : goal.returns-clause-first_growth
returns-clause-first_growth c = (refl, refl, refl)

pub returns-clause-writes : goal.returns-clause-writes
returns-clause-writes c = (refl, refl, refl, refl, refl)

pub returns-clause-resizes : goal.returns-clause-resizes
returns-clause-resizes c = (refl, refl, refl, refl, refl, refl, refl, refl)
