-- By what is found after a request.
use Rattle.own_model.proofs.FileReadLemmas.{others_stay, written_is_read}
use Rattle.own_model.proofs.file_service.written_files_are_read.Goals as goal

pub returns-clause-written : goal.returns-clause-written
returns-clause-written c = written_is_read

pub returns-clause-others : goal.returns-clause-others
returns-clause-others c = others_stay
