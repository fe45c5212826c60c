-- What a request leaves is read off its definition, case by case of the buffer before and after.
use Rattle.own_model.proofs.LentServedLemmas.{requests_served, others_left}
use Rattle.own_model.proofs.sessions.requests_are_served.Goals as goal

pub returns-clause-served : goal.returns-clause-served
returns-clause-served c = requests_served

pub returns-clause-others : goal.returns-clause-others
returns-clause-others c = others_left
