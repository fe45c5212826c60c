-- A selector names a buffer only where it did, or where the session had none.
use Rattle.own_model.proofs.LentKeptLemmas.{start_lent, run_lent}
use Rattle.own_model.proofs.sessions.buffers_are_of_sessions.Goals as goal

pub returns-clause-start : goal.returns-clause-start
returns-clause-start c = start_lent

pub returns-clause-run : goal.returns-clause-run
returns-clause-run c = run_lent
