-- Want of a session, within a cell and below it.
use Rattle.budget_theorems.proofs.SessionRunLemmas.{session_within, session_below}
use Rattle.budget_theorems.proofs.sessions.session_shortfall_by_cells.Goals as goal

pub returns-clause-within : goal.returns-clause-within
returns-clause-within c = session_within

pub returns-clause-below : goal.returns-clause-below
returns-clause-below c = session_below
