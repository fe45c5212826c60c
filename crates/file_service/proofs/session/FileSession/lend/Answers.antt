-- A buffer is lent, or refused, and the files stay.
use Rattle.file_service.proofs.BufferRequestLemmas.{lend_answers}
use Rattle.file_service.proofs.session.FileSession.lend.Goals as goal

pub returns-clause-answers : goal.returns-clause-answers
returns-clause-answers c =
    lend_answers c.requires.ready c.args.bytes c.lend.result c.lend.new.buffer c.lend.ensures.refusal c.lend.ensures.lends c.lend.ensures.err c.lend.ensures.memory_err c.lend.ensures.map_err c.lend.ensures.stays
