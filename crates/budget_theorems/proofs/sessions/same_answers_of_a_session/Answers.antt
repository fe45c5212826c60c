-- Answers of a session in a cell.
use Rattle.budget_theorems.proofs.SessionRunLemmas.{same_of_session}
use Rattle.budget_theorems.proofs.sessions.same_answers_of_a_session.Goals as goal

pub returns : goal.returns
returns c = same_of_session
