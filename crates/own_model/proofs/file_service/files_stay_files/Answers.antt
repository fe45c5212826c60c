-- By what a request can do.
use Rattle.own_model.proofs.FileServiceLemmas.{files_stay}
use Rattle.own_model.proofs.file_service.files_stay_files.Goals as goal

pub returns-clause-request : goal.returns-clause-request
returns-clause-request c = files_stay
