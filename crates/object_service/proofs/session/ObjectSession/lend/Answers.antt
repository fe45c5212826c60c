-- A buffer is lent, or refused, and the objects stay.
use Rattle.object_service.proofs.BufferRequestLemmas.{lend_answers}
use Rattle.object_service.proofs.session.ObjectSession.lend.Goals as goal

pub returns-clause-answers : goal.returns-clause-answers
returns-clause-answers c kinds =
    lend_answers c.requires.ready kinds c.args.bytes c.lend.result c.lend.new.buffer c.lend.ensures.refusal c.lend.ensures.lends c.lend.ensures.err c.lend.ensures.memory_err c.lend.ensures.map_err c.lend.ensures.stays
