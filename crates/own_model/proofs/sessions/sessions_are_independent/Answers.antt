-- What each call changes is under another selector, or under its own.
use Rattle.own_model.proofs.SessionAloneLemmas.{stand_alone}
use Rattle.own_model.proofs.sessions.sessions_are_independent.Goals as goal

pub returns : goal.returns
returns c = stand_alone
