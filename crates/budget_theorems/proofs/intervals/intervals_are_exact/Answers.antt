-- Stretches are the budgets in no want.
use Rattle.budget_theorems.proofs.StretchLemmas.{account_exact, ending_exact, session_exact}
use Rattle.budget_theorems.proofs.intervals.intervals_are_exact.Goals as goal

pub returns-clause-account : goal.returns-clause-account
returns-clause-account c = account_exact

pub returns-clause-session : goal.returns-clause-session
returns-clause-session c = session_exact

pub returns-clause-ending : goal.returns-clause-ending
returns-clause-ending c = ending_exact
