-- Other lines make no call of the name's component.
use Rattle.own_model.proofs.RunSaidByLemmas.{pieces_are_told, pieces_stand_alone, state_stands_alone}
use Rattle.own_model.proofs.answers.lines_are_independent.Goals as goal

pub returns-clause-told : goal.returns-clause-told
returns-clause-told c = pieces_are_told

pub returns-clause-alone : goal.returns-clause-alone
returns-clause-alone c = pieces_stand_alone

pub returns-clause-state : goal.returns-clause-state
returns-clause-state c = state_stands_alone
