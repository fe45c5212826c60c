-- Each call that isn't of its session leaves a buffer, but for a poke that a region of it finds.
use Rattle.own_model.proofs.LentAloneLemmas.{buffers_alone, gone_has_none}
use Rattle.own_model.proofs.sessions.buffers_are_independent.Goals as goal

pub returns-clause-alone : goal.returns-clause-alone
returns-clause-alone c = buffers_alone

pub returns-clause-gone : goal.returns-clause-gone
returns-clause-gone c = gone_has_none
