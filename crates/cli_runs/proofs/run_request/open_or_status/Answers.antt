-- A file that can't be opened isn't known.
use Rattle.std.proofs.Common.{refl}
use Rattle.cli_runs.proofs.CommandLemmas.{unopened}
use Rattle.cli_runs.proofs.run_request.open_or_status.Goals as goal

pub returns-in-Err-clause-failed : goal.returns-in-Err-clause-failed
returns-in-Err-clause-failed g c = (refl, unopened _ c.in-Err.ensures.opened)
