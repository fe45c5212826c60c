-- Answers of a client, in a cell of what reaches one of its sessions.
use Rattle.budget_theorems.proofs.ClientLemmas.{openings_donate, same_of_client}
use Rattle.budget_theorems.proofs.clients.same_answers_of_a_client.Goals as goal

pub returns-clause-opened : goal.returns-clause-opened
returns-clause-opened c = openings_donate

pub returns-clause-same : goal.returns-clause-same
returns-clause-same c = same_of_client
