-- The buffer is freed, or there is none, and the files stay.
use Rattle.file_service.proofs.BufferRequestLemmas.{take_back_answers}
use Rattle.file_service.proofs.session.FileSession.take_back.Goals as goal

pub returns-clause-answers : goal.returns-clause-answers
returns-clause-answers c =
    take_back_answers c.requires.ready c.take_back.result c.take_back.new.buffer c.take_back.ensures.refusal c.take_back.ensures.frees c.take_back.ensures.err c.take_back.ensures.memory_err c.take_back.ensures.map_err c.take_back.ensures.stays
