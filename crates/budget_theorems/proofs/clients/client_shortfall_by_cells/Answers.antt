-- Want of a session among its client's calls.
use Rattle.budget_theorems.proofs.ClientLemmas.{client_within, client_below}
use Rattle.budget_theorems.proofs.clients.client_shortfall_by_cells.Goals as goal

pub returns-clause-within : goal.returns-clause-within
returns-clause-within c = client_within

pub returns-clause-below : goal.returns-clause-below
returns-clause-below c = client_below
