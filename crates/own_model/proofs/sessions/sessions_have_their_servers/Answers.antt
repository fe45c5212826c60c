-- What a call of a session puts under a selector has the server that its routes lead to, or the one that was there.
use Rattle.own_model.proofs.SessionServerLemmas.{have_their_servers}
use Rattle.own_model.proofs.sessions.sessions_have_their_servers.Goals as goal

pub returns : goal.returns
returns c = have_their_servers
