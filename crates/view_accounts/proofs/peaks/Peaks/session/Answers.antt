-- What is noted of what is found.
use Rattle.view_accounts.proofs.KeptLemmas.{noted_found}
use Rattle.view_accounts.proofs.peaks.Peaks.session.Goals as goal

pub returns : goal.returns
returns c = noted_found c.get.result _ c.get.ensures
