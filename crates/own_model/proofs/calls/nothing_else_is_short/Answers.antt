-- What an account covers has a gap, and else each test for a shortage is of the account.
use Rattle.own_model.proofs.StepShortageLemmas.{no_hidden_shortage, no_hidden_shortage_after}
use Rattle.own_model.proofs.calls.nothing_else_is_short.Goals as goal

pub returns-clause-call : goal.returns-clause-call
returns-clause-call c = no_hidden_shortage

pub returns-clause-lines : goal.returns-clause-lines
returns-clause-lines c = no_hidden_shortage_after
